use Rattle.std.proofs.Common.{◌∙◌, ap, sym, ℕ, Bool}
use Rattle.std.specs.Prelude.{if◌then◌else◌}
use Rattle.arc_rows.specs.Views.{arcs_in}
use Rattle.round_kernel.specs.Rounds.{old_view}
use Rattle.value_codes.specs.declared.tally.Tally.{Tally}
use Rattle.value_codes.specs.Tallies.{kept_of}
use Rattle.round_kernel.proofs.Visits.{counted-marked}
use Rattle.round_kernel.proofs.visit.visit_marked.Goals as goal

pub evaluate-value-requires-clause-tally : goal.evaluate-value-requires-clause-tally
evaluate-value-requires-clause-tally g c = c.tally-tally.ensures

pub returns-clause-kept : goal.returns-clause-kept
returns-clause-kept g c = c.kept.ensures ∙ ap (λ (t : Tally). kept_of t) c.tally-tally.ensures

pub returns-clause-count : goal.returns-clause-count
returns-clause-count g c =
    let new = arcs_in c.args.spot.now.new.rows.now.by_head c.args.spot.now.new.side.edges.now in
    let old = old_view c.args.spot.now.first c.args.spot.now.new.rows.now.by_head c.args.spot.now.old.edges.now in
    sym (ap {B = ℕ} (λ (b : Bool). if b then 1 else 0) (counted-marked g.U.Updater.answer c.args.spot.now.new.program.now c.args.spot.now.new.graph.now new old c.args.spot.now.node.0 c.args.spot.now.new.number c.requires.touched c.requires.marked))
