use Rattle.std.proofs.Common.{◌≡◌, drop}
use Rattle.aggregate_views.specs.Changes.{changed, AreChanges}
use Rattle.aggregate_views.proofs.groups.turn.Given as goal

abbrev pub invariant-loop-e : goal.invariant-loop-e
invariant-loop-e l = record {
  rest : AreChanges l.present (drop l.e-index l.changes);
  so_far : changed l.present (drop l.e-index l.changes) ≡ changed l.fn.present l.changes;
}
