use Rattle.std.proofs.Common.{◌≡◌, ◌∙◌, ◌<◌, false, refl, sym, ap, subst, Bool, List, length, get_or, arith}
use Rattle.std.specs.Prelude.{All, ◌==◌, ◌||◌, not}
use Rattle.std.proofs.lemmas.Bool.{eqb-true}
use Rattle.std.proofs.lemmas.List.{nil_from_length}
use Rattle.std.proofs.lemmas.List.Elements.{All-filter, All-weaker}
use Rattle.vertex_lang.specs.declared.arc.Arc.{Arc}
use Rattle.vertex_lang.specs.Arcs.{IsArc}
use Rattle.lone_work.specs.Inputs.{got_values}
use Rattle.vertex_lang.specs.Lone.{same_value}
use Rattle.multisets.specs.Multisets.{are_one}
use Rattle.arc_rows.specs.Views.{arcs_in, row_of}
use Rattle.round_messages.specs.Sides.{all_brought}
use Rattle.round_inputs.specs.BroughtLaws.{brought-is, brought-row}
use Rattle.round_inputs.specs.InputLaws.{some-is}
use Rattle.round_kernel.proofs.Visits.{touched-yes, touched-test}
use Rattle.round_inputs.specs.SourceLaws.{sent-under}
use Rattle.round_kernel.proofs.Stillness.{itself, or-first, same-views}
use Rattle.round_kernel.proofs.Turning.{none-turned, turned-into}
use Rattle.round_kernel.proofs.visit.is_touched.Goals as goal

pub returns-then-either : goal.returns-then-either
returns-then-either g c = touched-yes g.U.Updater.answer c.args.spot.now.new.program.now c.args.spot.now.new.graph.now c.args.spot.now.new.rows.now.by_head c.args.spot.now.old.edges.now c.args.spot.now.new.side.edges.now c.args.spot.now.node.0 c.args.spot.now.new.number c.args.spot.now.first c.args.spot.now.was c.requires.was (sym c.either.ensures ∙ c.if-either.true)

pub differ_if_listed-requires-clause-rounds : goal.differ_if_listed-requires-clause-rounds
differ_if_listed-requires-clause-rounds g c =
    let one : c.args.spot.now.first ≡ false = or-first c.args.spot.now.first c.args.spot.now.was (sym c.either.ensures ∙ c.if-either.false) in
    let new = c.args.spot.now.new.side in
    let old = c.args.spot.now.old in
    record {
      checked = c.requires.round.checked;
      left = record { sized = c.requires.round.stands.sized; sent = c.requires.round.sent };
      right = (c.requires.old one).sized;
      movers = λ u low. omega (arith, low, c.requires.lookups.suspects.apart_size, c.deref.ensures.len);
      still = λ u e low apart.
          sent-under g.U.Updater.answer c.args.spot.now.new.program.now c.args.spot.now.new.graph.now c.args.spot.now.new.rows.now.by_head new.edges.now new.degrees.now new.values.now c.args.spot.now.new.number c.requires.round.stands u e low
          ∙ c.requires.lookups.suspects.apart one u e low (ap (λ (bs : List Bool). get_or bs u false) (sym c.deref.ensures.value) ∙ apart)
          ∙ sym (sent-under g.U.Updater.answer c.args.spot.now.new.program.now c.args.spot.now.new.graph.now c.args.spot.now.new.rows.now.by_head old.edges.now old.degrees.now old.values.now c.args.spot.now.new.number (c.requires.old one) u e low);
    }

pub differ_if_listed-requires-clause-turned : goal.differ_if_listed-requires-clause-turned
differ_if_listed-requires-clause-turned g c =
    let one : c.args.spot.now.first ≡ false = or-first c.args.spot.now.first c.args.spot.now.was (sym c.either.ensures ∙ c.if-either.false) in
    turned-into c.args.spot.now.new.graph.now c.args.spot.now.new.rows.now.by_head c.args.spot.now.first c.args.spot.now.old.edges.now c.args.spot.now.new.side.edges.now c.args.spot.now.lookups.now.suspects.turned c.requires.lookups.suspects.turned one c.args.spot.now.node.0
    (row_of c.args.spot.now.new.rows.now.by_head c.args.spot.now.node.0) c.turned_into-turned.result.now refl c.turned_into-turned.ensures

pub returns-in-Some : goal.returns-in-Some
returns-in-Some g c =
    let answer = g.U.Updater.answer in
    let p = c.args.spot.now.new.program.now in
    let graph = c.args.spot.now.new.graph.now in
    let all = c.args.spot.now.new.rows.now.by_head in
    let new = c.args.spot.now.new.side in
    let old = c.args.spot.now.old in
    let v = c.args.spot.now.node.0 in
    let r = c.args.spot.now.new.number in
    let ms = all_brought p graph new.edges.now new.degrees.now new.values.now (row_of all v) in
    let ns = all_brought p graph old.edges.now old.degrees.now old.values.now (row_of all v) in
    touched-test answer p graph all old.edges.now new.edges.now v r c.args.spot.now.first c.args.spot.now.was c.in-Some.active ms ns
    c.requires.node c.requires.was (sym c.either.ensures ∙ c.if-either.false)
    (λ e. brought-is answer p graph all new.edges.now new.degrees.now new.values.now r c.requires.round.stands v c.requires.round.rows.arcs)
    (λ e. brought-is answer p graph all old.edges.now old.degrees.now old.values.now r (c.requires.old e) v c.requires.round.rows.arcs)
    (some-is c.in_ok-listed.listed c.in-Some.active (not (are_one same_value ms ns)) c.in-Some.is c.in_ok-listed.ensures)

pub are_still-requires : goal.are_still-requires
are_still-requires g c =
    subst (λ (xs : List Arc). All (λ a. a.tail.0 < length c.deref.result.now) xs) (sym c.into-row.ensures)
    (All-filter (λ (a : Arc). a.head.0 == c.args.spot.now.node.0) (λ a. a.tail.0 < length c.deref.result.now) c.args.spot.now.new.rows.now.by_head
    (All-weaker (IsArc c.args.spot.now.new.graph.now) (λ a. a.tail.0 < length c.deref.result.now) (λ a arc. omega (arith, arc.tail, c.requires.lookups.suspects.apart_size, c.deref.ensures.len)) c.args.spot.now.new.rows.now.by_head c.requires.round.rows.arcs))

pub returns-then-are_still : goal.returns-then-are_still
returns-then-are_still g c =
    let answer = g.U.Updater.answer in
    let p = c.args.spot.now.new.program.now in
    let graph = c.args.spot.now.new.graph.now in
    let all = c.args.spot.now.new.rows.now.by_head in
    let new = c.args.spot.now.new.side.edges.now in
    let old = c.args.spot.now.old.edges.now in
    let suspects = c.args.spot.now.lookups.now.suspects in
    let v = c.args.spot.now.node.0 in
    let r = c.args.spot.now.new.number in
    let neither : (c.args.spot.now.first || c.args.spot.now.was) ≡ false = sym c.either.ensures ∙ c.if-either.false in
    let still = subst (λ (bs : List Bool). All (λ (a : Arc). get_or bs a.tail.0 false ≡ false) c.into-row.result.now) c.deref.ensures.value (c.are_still.ensures c.if-are_still.true) in
    touched-test answer p graph all old new v r c.args.spot.now.first c.args.spot.now.was false
    (got_values answer p graph (arcs_in all new) v r) (got_values answer p graph (arcs_in all old) v r)
    c.requires.node c.requires.was neither (λ e. refl) (λ e. refl)
    (itself (got_values answer p graph (arcs_in all new) v r) (got_values answer p graph (arcs_in all old) v r)
    (same-views answer p graph all c.args.spot.now.first old new r suspects c.requires.lookups.suspects c.requires.round.rows.arcs v (or-first c.args.spot.now.first c.args.spot.now.was neither)
    (none-turned graph all c.args.spot.now.first old new suspects.turned c.requires.lookups.suspects.turned (or-first c.args.spot.now.first c.args.spot.now.was neither) v c.turned_into-turned.result.now c.turned_into-turned.ensures (nil_from_length c.turned_into-turned.result.now (eqb-true (length c.turned_into-turned.result.now) 0 (sym c.is_empty.ensures ∙ c.if-is_empty.true)))) c.into-row.result.now c.into-row.ensures still))

pub differ-requires-clause-row : goal.differ-requires-clause-row
differ-requires-clause-row g c = subst (λ (xs : List Arc). All (IsArc c.args.spot.now.new.graph.now) xs) (sym c.into-row.ensures) (All-filter (λ (a : Arc). a.head.0 == c.args.spot.now.node.0) (IsArc c.args.spot.now.new.graph.now) c.args.spot.now.new.rows.now.by_head c.requires.round.rows.arcs)

pub differ-requires-clause-rounds : goal.differ-requires-clause-rounds
differ-requires-clause-rounds g c =
    let one : c.args.spot.now.first ≡ false = or-first c.args.spot.now.first c.args.spot.now.was (sym c.either.ensures ∙ c.if-either.false) in
    let new = c.args.spot.now.new.side in
    let old = c.args.spot.now.old in
    record {
      checked = c.requires.round.checked;
      left = record { sized = c.requires.round.stands.sized; sent = c.requires.round.sent };
      right = (c.requires.old one).sized;
      movers = λ u low. omega (arith, low, c.requires.lookups.suspects.apart_size, c.deref.ensures.len);
      still = λ u e low apart.
          sent-under g.U.Updater.answer c.args.spot.now.new.program.now c.args.spot.now.new.graph.now c.args.spot.now.new.rows.now.by_head new.edges.now new.degrees.now new.values.now c.args.spot.now.new.number c.requires.round.stands u e low
          ∙ c.requires.lookups.suspects.apart one u e low (ap (λ (bs : List Bool). get_or bs u false) (sym c.deref.ensures.value) ∙ apart)
          ∙ sym (sent-under g.U.Updater.answer c.args.spot.now.new.program.now c.args.spot.now.new.graph.now c.args.spot.now.new.rows.now.by_head old.edges.now old.degrees.now old.values.now c.args.spot.now.new.number (c.requires.old one) u e low);
    }

pub differ-requires-clause-turned : goal.differ-requires-clause-turned
differ-requires-clause-turned g c =
    let one : c.args.spot.now.first ≡ false = or-first c.args.spot.now.first c.args.spot.now.was (sym c.either.ensures ∙ c.if-either.false) in
    turned-into c.args.spot.now.new.graph.now c.args.spot.now.new.rows.now.by_head c.args.spot.now.first c.args.spot.now.old.edges.now c.args.spot.now.new.side.edges.now c.args.spot.now.lookups.now.suspects.turned c.requires.lookups.suspects.turned one c.args.spot.now.node.0
    c.into-row.result.now c.turned_into-turned.result.now c.into-row.ensures c.turned_into-turned.ensures

pub returns : goal.returns
returns g c =
    let p = c.args.spot.now.new.program.now in
    let graph = c.args.spot.now.new.graph.now in
    let all = c.args.spot.now.new.rows.now.by_head in
    let new = c.args.spot.now.new.side in
    let old = c.args.spot.now.old in
    let v = c.args.spot.now.node.0 in
    let r = c.args.spot.now.new.number in
    touched-test g.U.Updater.answer p graph all old.edges.now new.edges.now v r c.args.spot.now.first c.args.spot.now.was c.in_ok-active.active
    (all_brought p graph new.edges.now new.degrees.now new.values.now c.into-row.result.now) (all_brought p graph old.edges.now old.degrees.now old.values.now c.into-row.result.now)
    c.requires.node c.requires.was (sym c.either.ensures ∙ c.if-either.false)
    (λ e. brought-row g.U.Updater.answer p graph all new.edges.now new.degrees.now new.values.now r c.requires.round.stands v c.into-row.result.now c.requires.round.rows.arcs c.into-row.ensures)
    (λ e. brought-row g.U.Updater.answer p graph all old.edges.now old.degrees.now old.values.now r (c.requires.old e) v c.into-row.result.now c.requires.round.rows.arcs c.into-row.ensures)
    c.in_ok-active.ensures
