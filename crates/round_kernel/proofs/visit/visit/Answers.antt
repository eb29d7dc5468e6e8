use Rattle.std.proofs.Common.{◌∙◌, ap, sym, ℕ, Bool}
use Rattle.std.specs.Prelude.{if◌then◌else◌}
use Rattle.arc_rows.specs.Views.{arcs_in}
use Rattle.round_kernel.specs.Rounds.{old_view}
use Rattle.round_kernel.proofs.Visits.{not-counted}
use Rattle.round_kernel.proofs.visit.visit.Goals as goal

pub returns-then-not-is_touched-clause-count : goal.returns-then-not-is_touched-clause-count
returns-then-not-is_touched-clause-count g c =
    let new = arcs_in c.args.spot.now.new.rows.now.by_head c.args.spot.now.new.side.edges.now in
    let old = old_view c.args.spot.now.first c.args.spot.now.new.rows.now.by_head c.args.spot.now.old.edges.now in
    sym (ap {B = ℕ} (λ (b : Bool). if b then 1 else 0) (not-counted g.U.Updater.answer c.args.spot.now.new.program.now c.args.spot.now.new.graph.now new old c.args.spot.now.node.0 c.args.spot.now.new.number (sym c.in_ok-is_touched.ensures ∙ c.if-not-is_touched.true)))
