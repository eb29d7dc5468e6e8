use Rattle.std.proofs.Common.{◌≡◌, drop}
use Rattle.aggregate_views.specs.Changes.{changed, AreChanges}
use Rattle.group_rows.proofs.tests.courses.after.Given as goal

abbrev pub invariant-loop-e : goal.invariant-loop-e
invariant-loop-e l = record {
  left : AreChanges l.next.items (drop l.e-index l.changes) → AreChanges l.present l.changes;
  so_far : changed l.next.items (drop l.e-index l.changes) ≡ changed l.present l.changes;
}
