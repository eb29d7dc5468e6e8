use Rattle.std.proofs.Common.{◌≡◌, ◌∙◌, ◌<◌, ◌-◌, suc, false, sym, ap, subst, refl, List, length, get_or, arith}
use Rattle.std.specs.Prelude.{All, ◌==◌, not}
use Rattle.std.proofs.lemmas.List.Elements.{All-filter, All-weaker}
use Rattle.vertex_lang.specs.declared.arc.Arc.{Arc}
use Rattle.vertex_lang.specs.Arcs.{IsArc}
use Rattle.graph_model.specs.declared.value.Val.{Val}
use Rattle.vertex_lang.specs.Expressions.{sent_by}
use Rattle.lone_work.specs.Inputs.{got_values}
use Rattle.vertex_lang.specs.Lone.{same_value}
use Rattle.vertex_lang.specs.Rounds.{value_at}
use Rattle.multisets.specs.Multisets.{are_one}
use Rattle.arc_rows.specs.Views.{arcs_in, row_of}
use Rattle.round_messages.specs.Sides.{all_brought}
use Rattle.round_inputs.specs.BroughtLaws.{brought-is, brought-row}
use Rattle.round_inputs.specs.InputLaws.{some-is}
use Rattle.round_kernel.proofs.Visits.{marked-first, marked-own, marked-got}
use Rattle.round_kernel.proofs.Stillness.{itself, own-same, same-rounds, values-same}
use Rattle.round_kernel.proofs.visit.is_other_input.Goals as goal
use Rattle.round_kernel.proofs.visit.is_other_input.Goals.{else-moves-via-then-moves+else-is_other, else-moves-via-else-moves}

pub returns-then-spot-eq0 : goal.returns-then-spot-eq0
returns-then-spot-eq0 g c = marked-first g.U.Updater.answer c.args.spot.now.new.program.now c.args.spot.now.new.graph.now (arcs_in c.args.spot.now.new.rows.now.by_head c.args.spot.now.new.side.edges.now) c.args.spot.now.node.0 c.args.spot.now.new.number c.if-spot-eq0.true

pub returns-then-is_other : goal.returns-then-is_other
returns-then-is_other g c =
    let r = c.args.spot.now.new.number in
    let at : r ≡ suc (r - 1) = omega arith in
    marked-own g.U.Updater.answer c.args.spot.now.new.program.now c.args.spot.now.new.graph.now (arcs_in c.args.spot.now.new.rows.now.by_head c.args.spot.now.new.side.edges.now) c.args.spot.now.node.0 r (r - 1) at c.args.spot.now.new.side.values.now c.args.spot.now.before.now c.is_other.result c.requires.round.stands.values_are c.requires.before.values_are c.is_other.ensures c.if-is_other.true

pub differ_if_listed-requires-clause-rounds : goal.differ_if_listed-requires-clause-rounds
differ_if_listed-requires-clause-rounds g c =
    let answer = g.U.Updater.answer in
    let spot = c.args.spot.now in
    let p = spot.new.program.now in
    let graph = spot.new.graph.now in
    let all = spot.new.rows.now.by_head in
    let side = spot.new.side in
    let r = spot.new.number in
    let later : 0 < r = omega arith in
    record {
      checked = c.requires.round.checked;
      left = record { sized = c.requires.round.stands.sized; sent = c.requires.round.sent };
      right = c.requires.before.sized;
      movers = λ u low. omega (arith, low, c.requires.lookups.suspects.moved_size, c.deref.ensures.len);
      still = λ u e low calm. ap (λ (x : Val). sent_by p graph u x (get_or side.degrees.now u 0) e)
          (values-same answer p graph all spot.first spot.old.edges.now side.edges.now r spot.lookups.now.suspects c.requires.lookups.suspects c.requires.round.rows.arcs spot.node.0 later c.deref.result.now c.stamp_of.result c.deref.ensures.value c.stamp_of.ensures
          u low calm side.values.now spot.before.now c.requires.round.stands.values_are c.requires.before.values_are);
    }

pub returns-in-Some : goal.returns-in-Some
returns-in-Some g c =
    let answer = g.U.Updater.answer in
    let p = c.args.spot.now.new.program.now in
    let graph = c.args.spot.now.new.graph.now in
    let all = c.args.spot.now.new.rows.now.by_head in
    let new = c.args.spot.now.new.side in
    let before = c.args.spot.now.before.now in
    let suspects = c.args.spot.now.lookups.now.suspects in
    let v = c.args.spot.now.node.0 in
    let r = c.args.spot.now.new.number in
    let later : 0 < r = omega arith in
    let at : r ≡ suc (r - 1) = omega arith in
    let ms = all_brought p graph new.edges.now new.degrees.now new.values.now (row_of all v) in
    let ns = all_brought p graph new.edges.now new.degrees.now before (row_of all v) in
    let own : false ≡ not (same_value (value_at new.values.now v) (value_at before v)) = elim c.else-moves.branch [
      | else-moves-via-then-moves+else-is_other w ↦ sym w.if-is_other.false ∙ w.is_other.ensures
      | else-moves-via-else-moves w ↦ own-same answer p graph all c.args.spot.now.first c.args.spot.now.old.edges.now new.edges.now r suspects c.requires.lookups.suspects c.requires.round.rows.arcs v later c.deref.result.now c.stamp_of.result c.deref.ensures.value c.stamp_of.ensures
          c.requires.node (sym c.moves.ensures ∙ w.if-moves.false) new.values.now before c.requires.round.stands.values_are c.requires.before.values_are
    ] in
    marked-got answer p graph (arcs_in all new.edges.now) v r (r - 1) at new.values.now before ms ns
    false c.in-Some.marked c.requires.round.stands.values_are c.requires.before.values_are
    (brought-is answer p graph all new.edges.now new.degrees.now new.values.now r c.requires.round.stands v c.requires.round.rows.arcs)
    (brought-is answer p graph all new.edges.now new.degrees.now before (r - 1) c.requires.before v c.requires.round.rows.arcs)
    own refl
    (some-is c.in_ok-listed.listed c.in-Some.marked (not (are_one same_value ms ns)) c.in-Some.is c.in_ok-listed.ensures)

pub are_still-requires : goal.are_still-requires
are_still-requires g c =
    subst (λ (xs : List Arc). All (λ a. a.tail.0 < length c.deref.result.now) xs) (sym c.into-row.ensures)
    (All-filter (λ (a : Arc). a.head.0 == c.args.spot.now.node.0) (λ a. a.tail.0 < length c.deref.result.now) c.args.spot.now.new.rows.now.by_head
    (All-weaker (IsArc c.args.spot.now.new.graph.now) (λ a. a.tail.0 < length c.deref.result.now) (λ a arc. omega (arith, arc.tail, c.requires.lookups.suspects.moved_size, c.deref.ensures.len)) c.args.spot.now.new.rows.now.by_head c.requires.round.rows.arcs))

pub returns-then-are_still : goal.returns-then-are_still
returns-then-are_still g c =
    let answer = g.U.Updater.answer in
    let p = c.args.spot.now.new.program.now in
    let graph = c.args.spot.now.new.graph.now in
    let all = c.args.spot.now.new.rows.now.by_head in
    let new = c.args.spot.now.new.side in
    let suspects = c.args.spot.now.lookups.now.suspects in
    let v = c.args.spot.now.node.0 in
    let r = c.args.spot.now.new.number in
    let later : 0 < r = omega arith in
    let at : r ≡ suc (r - 1) = omega arith in
    let values = c.args.spot.now.before.now in
    let now = got_values answer p graph (arcs_in all new.edges.now) v r in
    let before = got_values answer p graph (arcs_in all new.edges.now) v (r - 1) in
    let own : false ≡ not (same_value (value_at new.values.now v) (value_at values v)) = elim c.else-moves.branch [
      | else-moves-via-then-moves+else-is_other w ↦ sym w.if-is_other.false ∙ w.is_other.ensures
      | else-moves-via-else-moves w ↦ own-same answer p graph all c.args.spot.now.first c.args.spot.now.old.edges.now new.edges.now r suspects c.requires.lookups.suspects c.requires.round.rows.arcs v later c.deref.result.now c.stamp_of.result c.deref.ensures.value c.stamp_of.ensures
          c.requires.node (sym c.moves.ensures ∙ w.if-moves.false) new.values.now values c.requires.round.stands.values_are c.requires.before.values_are
    ] in
    marked-got answer p graph (arcs_in all new.edges.now) v r (r - 1) at new.values.now values now before false false c.requires.round.stands.values_are c.requires.before.values_are
    refl refl own refl
    (itself now before (same-rounds answer p graph all c.args.spot.now.first c.args.spot.now.old.edges.now new.edges.now r suspects c.requires.lookups.suspects c.requires.round.rows.arcs v later c.deref.result.now c.stamp_of.result c.deref.ensures.value c.stamp_of.ensures
    c.into-row.result.now c.into-row.ensures (c.are_still.ensures c.if-are_still.true)))

pub differ-requires-clause-rounds : goal.differ-requires-clause-rounds
differ-requires-clause-rounds g c =
    let answer = g.U.Updater.answer in
    let spot = c.args.spot.now in
    let p = spot.new.program.now in
    let graph = spot.new.graph.now in
    let all = spot.new.rows.now.by_head in
    let side = spot.new.side in
    let r = spot.new.number in
    let later : 0 < r = omega arith in
    record {
      checked = c.requires.round.checked;
      left = record { sized = c.requires.round.stands.sized; sent = c.requires.round.sent };
      right = c.requires.before.sized;
      movers = λ u low. omega (arith, low, c.requires.lookups.suspects.moved_size, c.deref.ensures.len);
      still = λ u e low calm. ap (λ (x : Val). sent_by p graph u x (get_or side.degrees.now u 0) e)
          (values-same answer p graph all spot.first spot.old.edges.now side.edges.now r spot.lookups.now.suspects c.requires.lookups.suspects c.requires.round.rows.arcs spot.node.0 later c.deref.result.now c.stamp_of.result c.deref.ensures.value c.stamp_of.ensures
          u low calm side.values.now spot.before.now c.requires.round.stands.values_are c.requires.before.values_are);
    }

pub differ-requires-clause-row : goal.differ-requires-clause-row
differ-requires-clause-row g c = subst (λ (xs : List Arc). All (IsArc c.args.spot.now.new.graph.now) xs) (sym c.into-row.ensures) (All-filter (λ (a : Arc). a.head.0 == c.args.spot.now.node.0) (IsArc c.args.spot.now.new.graph.now) c.args.spot.now.new.rows.now.by_head c.requires.round.rows.arcs)

pub returns : goal.returns
returns g c =
    let answer = g.U.Updater.answer in
    let p = c.args.spot.now.new.program.now in
    let graph = c.args.spot.now.new.graph.now in
    let all = c.args.spot.now.new.rows.now.by_head in
    let new = c.args.spot.now.new.side in
    let before = c.args.spot.now.before.now in
    let suspects = c.args.spot.now.lookups.now.suspects in
    let v = c.args.spot.now.node.0 in
    let r = c.args.spot.now.new.number in
    let later : 0 < r = omega arith in
    let at : r ≡ suc (r - 1) = omega arith in
    let own : false ≡ not (same_value (value_at new.values.now v) (value_at before v)) = elim c.else-moves.branch [
      | else-moves-via-then-moves+else-is_other w ↦ sym w.if-is_other.false ∙ w.is_other.ensures
      | else-moves-via-else-moves w ↦ own-same answer p graph all c.args.spot.now.first c.args.spot.now.old.edges.now new.edges.now r suspects c.requires.lookups.suspects c.requires.round.rows.arcs v later c.deref.result.now c.stamp_of.result c.deref.ensures.value c.stamp_of.ensures
          c.requires.node (sym c.moves.ensures ∙ w.if-moves.false) new.values.now before c.requires.round.stands.values_are c.requires.before.values_are
    ] in
    marked-got answer p graph (arcs_in all new.edges.now) v r (r - 1) at new.values.now before
    (all_brought p graph new.edges.now new.degrees.now new.values.now c.into-row.result.now) (all_brought p graph new.edges.now new.degrees.now before c.into-row.result.now)
    false c.in_ok-marked.marked c.requires.round.stands.values_are c.requires.before.values_are
    (brought-row answer p graph all new.edges.now new.degrees.now new.values.now r c.requires.round.stands v c.into-row.result.now c.requires.round.rows.arcs c.into-row.ensures)
    (brought-row answer p graph all new.edges.now new.degrees.now before (r - 1) c.requires.before v c.into-row.result.now c.requires.round.rows.arcs c.into-row.ensures)
    own refl c.in_ok-marked.ensures
