use Rattle.std.proofs.Common.{◌≡◌, ◌∙◌, ◌+◌, ◌++◌, ◌∷◌, [], false, List, take, filter, sym, ap, arith}
use Rattle.std.proofs.lemmas.List.{length-take}
use Rattle.graph_model.specs.declared.value.Val.{Val}
use Rattle.vertex_lang.specs.declared.arc.Arc.{Arc}
use Rattle.vertex_lang.specs.Arcs.{is_sent}
use Rattle.value_codes.specs.declared.tally.Tally.{Tally}
use Rattle.round_messages.specs.Sides.{all_brought}
use Rattle.value_codes.specs.Tallies.{tally_of, tally_with}
use Rattle.round_messages.specs.BringLaws.{brought-more}
use Rattle.round_messages.specs.BringLaws.{brought-few, tally-more}
use Rattle.round_messages.proofs.side.tally.Goals as goal

abbrev no_arc : Arc
no_arc = record { tail = record { 0 = 0 }; head = record { 0 = 0 }; edge = record { 0 = 0 }; back = false }

pub with-tally-requires-clause-room : goal.with-tally-requires-clause-room
with-tally-requires-clause-room c =
    let s = c.args.side.now in
    let i = c.loop-arc.arc-index in
    omega (
      arith,
      ap (λ (t : Tally). t.count) c.loop-arc.invariant.tally,
      brought-few c.args.program.now c.args.graph.now s.edges.now s.degrees.now s.values.now (take i c.args.row.now),
      length-take i c.args.row.now,
      c.requires.few,
    )

pub loop-arc-preserved : goal.loop-arc-preserved
loop-arc-preserved c =
    let p = c.args.program.now in
    let graph = c.args.graph.now in
    let s = c.args.side.now in
    let row = c.args.row.now in
    let i = c.loop-arc.arc-index in
    let had = all_brought p graph s.edges.now s.degrees.now s.values.now (take i row) in
    let m = c.message.result in
    let more : all_brought p graph s.edges.now s.degrees.now s.values.now (take (i + 1) row) ≡ had ++ filter is_sent (m ∷ []) = brought-more p graph s.edges.now s.degrees.now s.values.now row i no_arc c.loop-arc-test.true ∙ ap (λ (x : Val). had ++ filter is_sent (x ∷ [])) (sym c.message.ensures) in
    record {
      tally = c.with-tally.ensures.tally ∙ ap (λ (t : Tally). tally_with p.gather t m) c.loop-arc.invariant.tally ∙ sym (ap (λ (ms : List Val). tally_of p.gather ms) more ∙ tally-more p.gather had m);
      bounded = c.with-tally.ensures.bounded;
    }
