use Rattle.std.proofs.Common.{◌∙◌, ◌++◌, ◌+◌, ap, sym, ℕ, Bool}
use Rattle.std.specs.Prelude.{if◌then◌else◌}
use Rattle.std.proofs.lemmas.List.{append-nil}
use Rattle.vertex_lang.specs.Rounds.{value_at, lone}
use Rattle.arc_rows.specs.Views.{arcs_in}
use Rattle.round_kernel.specs.Rounds.{old_view}
use Rattle.change_lists.specs.ChangeLists.{change_if}
use Rattle.value_codes.specs.declared.tally.Tally.{Tally}
use Rattle.value_codes.specs.Tallies.{kept_of}
use Rattle.round_kernel.proofs.Visits.{marked-first, counted-where, stays-unchanged}
use Rattle.round_kernel.proofs.visit.visit_again.Goals as goal

pub is_marked-requires-clause-now : goal.is_marked-requires-clause-now
is_marked-requires-clause-now g c = c.kept-now.ensures ∙ ap (λ (t : Tally). kept_of t) c.tally-tally.ensures

pub evaluate-value-requires-clause-tally : goal.evaluate-value-requires-clause-tally
evaluate-value-requires-clause-tally g c = c.tally-tally.ensures

pub returns-then-not-either-clause-kept : goal.returns-then-not-either-clause-kept
returns-then-not-either-clause-kept g c = c.kept-now.ensures ∙ ap (λ (t : Tally). kept_of t) c.tally-tally.ensures

pub returns-clause-kept : goal.returns-clause-kept
returns-clause-kept g c = c.kept-now.ensures ∙ ap (λ (t : Tally). kept_of t) c.tally-tally.ensures

pub returns-then-not-either-clause-count : goal.returns-then-not-either-clause-count
returns-then-not-either-clause-count g c =
    let new = arcs_in c.args.spot.now.new.rows.now.by_head c.args.spot.now.new.side.edges.now in
    let old = old_view c.args.spot.now.first c.args.spot.now.new.rows.now.by_head c.args.spot.now.old.edges.now in
    let counted = counted-where g.U.Updater.answer c.args.spot.now.new.program.now c.args.spot.now.new.graph.now new old c.args.spot.now.node.0 c.args.spot.now.new.number c.in_ok-marked.marked c.args.spot.now.marked c.requires.touched c.in_ok-marked.ensures c.requires.spot.marked (λ e. c.in_ok-marked.ensures ∙ sym (marked-first g.U.Updater.answer c.args.spot.now.new.program.now c.args.spot.now.new.graph.now new c.args.spot.now.node.0 c.args.spot.now.new.number e)) in
    sym (ap {B = ℕ} (λ (b : Bool). if b then 1 else 0) (counted ∙ sym c.either.ensures ∙ c.if-not-either.true))

pub returns-then-not-either-clause-changes : goal.returns-then-not-either-clause-changes
returns-then-not-either-clause-changes g c =
    let new = arcs_in c.args.spot.now.new.rows.now.by_head c.args.spot.now.new.side.edges.now in
    let old = old_view c.args.spot.now.first c.args.spot.now.new.rows.now.by_head c.args.spot.now.old.edges.now in
    let counted = counted-where g.U.Updater.answer c.args.spot.now.new.program.now c.args.spot.now.new.graph.now new old c.args.spot.now.node.0 c.args.spot.now.new.number c.in_ok-marked.marked c.args.spot.now.marked c.requires.touched c.in_ok-marked.ensures c.requires.spot.marked (λ e. c.in_ok-marked.ensures ∙ sym (marked-first g.U.Updater.answer c.args.spot.now.new.program.now c.args.spot.now.new.graph.now new c.args.spot.now.node.0 c.args.spot.now.new.number e)) in
    let value = value_at (lone g.U.Updater.answer c.args.spot.now.new.program.now c.args.spot.now.new.graph.now new (c.args.spot.now.new.number + 1)) c.args.spot.now.node.0 in
    sym (ap (λ (b : Bool). c.args.made.now.changes ++ change_if b c.args.spot.now.node value) (stays-unchanged g.U.Updater.answer c.args.spot.now.new.program.now c.args.spot.now.new.graph.now new old c.args.spot.now.node.0 c.args.spot.now.new.number c.requires.spot.node c.requires.touched (counted ∙ sym c.either.ensures ∙ c.if-not-either.true)) ∙ append-nil c.args.made.now.changes)

pub returns-clause-count : goal.returns-clause-count
returns-clause-count g c =
    let new = arcs_in c.args.spot.now.new.rows.now.by_head c.args.spot.now.new.side.edges.now in
    let old = old_view c.args.spot.now.first c.args.spot.now.new.rows.now.by_head c.args.spot.now.old.edges.now in
    let counted = counted-where g.U.Updater.answer c.args.spot.now.new.program.now c.args.spot.now.new.graph.now new old c.args.spot.now.node.0 c.args.spot.now.new.number c.in_ok-marked.marked c.args.spot.now.marked c.requires.touched c.in_ok-marked.ensures c.requires.spot.marked (λ e. c.in_ok-marked.ensures ∙ sym (marked-first g.U.Updater.answer c.args.spot.now.new.program.now c.args.spot.now.new.graph.now new c.args.spot.now.node.0 c.args.spot.now.new.number e)) in
    sym (ap {B = ℕ} (λ (b : Bool). if b then 1 else 0) (counted ∙ sym c.either.ensures ∙ c.if-not-either.false))
