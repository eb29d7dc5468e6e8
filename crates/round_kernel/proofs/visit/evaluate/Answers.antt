use Rattle.std.proofs.Common.{◌∙◌, ap, refl, arith}
use Rattle.lone_work.specs.Inputs.{got_values}
use Rattle.value_codes.specs.declared.tally.Tally.{Tally}
use Rattle.arc_rows.specs.Views.{arcs_in}
use Rattle.value_codes.specs.Tallies.{gathered_in}
use Rattle.round_inputs.specs.InputLaws.{tallied}
use Rattle.round_inputs.specs.InputLaws.{got-few}
use Rattle.round_kernel.proofs.Visits.{next-told}
use Rattle.round_kernel.proofs.visit.evaluate.Goals as goal

pub gathered-gathered-requires : goal.gathered-gathered-requires
gathered-gathered-requires g c =
    let side = c.args.spot.now.new.side in
    omega (
      arith,
      ap (λ (t : Tally). t.count) c.requires.tally,
      got-few g.U.Updater.answer c.args.spot.now.new.program.now c.args.spot.now.new.graph.now c.args.spot.now.new.rows.now.by_head side.edges.now side.degrees.now side.values.now c.args.spot.now.new.number c.requires.spot.round.stands c.args.spot.now.node.0 c.requires.spot.round.rows.arcs,
      c.requires.spot.round.rows.few,
    )

pub returns-clause-value : goal.returns-clause-value
returns-clause-value g c =
    let p = c.args.spot.now.new.program.now in
    let graph = c.args.spot.now.new.graph.now in
    let arcs = arcs_in c.args.spot.now.new.rows.now.by_head c.args.spot.now.new.side.edges.now in
    let v = c.args.spot.now.node.0 in
    let r = c.args.spot.now.new.number in
    let ms = got_values g.U.Updater.answer p graph arcs v r in
    next-told g.U.Updater.answer p graph arcs v r c.args.spot.now.new.side.values.now ms _ _ _ _ _ _ c.requires.spot.node c.requires.spot.round.stands.values_are
    refl c.id-id.ensures.value c.start_at-start.ensures refl
    (c.gathered-gathered.ensures ∙ ap (λ (t : Tally). gathered_in p.gather t) c.requires.tally ∙ tallied p.gather ms)
    (ap (λ (t : Tally). t.count) c.requires.tally) c.update.ensures.answer

pub update-requires-clause-count : goal.update-requires-clause-count
update-requires-clause-count g c =
    let side = c.args.spot.now.new.side in
    omega (
      arith,
      ap (λ (t : Tally). t.count) c.requires.tally,
      got-few g.U.Updater.answer c.args.spot.now.new.program.now c.args.spot.now.new.graph.now c.args.spot.now.new.rows.now.by_head side.edges.now side.degrees.now side.values.now c.args.spot.now.new.number c.requires.spot.round.stands c.args.spot.now.node.0 c.requires.spot.round.rows.arcs,
      c.requires.spot.round.rows.few,
    )
