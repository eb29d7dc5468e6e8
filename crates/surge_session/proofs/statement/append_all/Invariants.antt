use Rattle.std.proofs.Common.{◌≡◌, ◌+◌, ◌<◌, ◌≤◌, ℕ, Some, length, take, slice_get, slice_range, flat_map}
use Rattle.std.specs.Prelude.{sum_by}
use Rattle.surge_outside.specs.Written.{appended}
use Rattle.surge_session.specs.declared.kept.Kept.{Kept}
use Rattle.surge_session.specs.Live.{graph_at}
use Rattle.surge_session.specs.Output.{made_at, kept_text}
use Rattle.surge_session.specs.Works.{added_work}
use Rattle.surge_session.specs.State.{IsKept, places_of}
use Rattle.surge_session.proofs.statement.append_all.Given as goal

abbrev pub invariant-loop-i : goal.invariant-loop-i
invariant-loop-i g l = record {
  count : length l.kept ≡ length l.fn.kept;
  done : (j : ℕ) (k : Kept) → j < l.i → slice_get l.kept j ≡ Some k → IsKept g.U.Updater.answer l.setting.graph.now l.setting.plan.now (l.n + 1) l.added.made.now k;
  left : (j : ℕ) (k : Kept) → l.i ≤ j → slice_get l.kept j ≡ Some k → IsKept g.U.Updater.answer l.setting.graph.now l.setting.plan.now l.n l.added.made.now k;
  places : places_of l.kept ≡ places_of l.fn.kept;
  written : g.O.Sink.written l.out ≡ appended (g.O.Sink.written l.fn.out) (flat_map (kept_text g.U.Updater.answer l.setting.form (graph_at l.setting.graph.now l.setting.plan.now (l.n + 1)) l.setting.plan.now l.added.collection.now.name (slice_range l.added.collection.now.views l.added.first (length (made_at l.setting.plan.now (l.n + 1) l.added.place))) l.added.place) (take l.i (places_of l.fn.kept)));
  calls : g.U.Counted.calls l.updater ≤ g.U.Counted.calls l.fn.updater + sum_by (added_work g.U.Updater.answer l.setting.graph.now l.setting.plan.now l.n l.added.place) (take l.i (places_of l.fn.kept));
  faults : g.O.Sink.faults l.fn.out ≤ g.O.Sink.faults l.out;
}
