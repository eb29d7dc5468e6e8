use Rattle.std.proofs.Common.{◌≡◌, ◌<◌, ◌++◌, length, drop}
use Rattle.flow_core.specs.Runs.{Every}
use Rattle.aggregate_views.specs.Coding.{change_entries, IsKnown}
use Rattle.aggregate_views.proofs.encoding.Encoding.listed.Given as goal

abbrev pub invariant-loop-e : goal.invariant-loop-e
invariant-loop-e l = record {
  sum : l.entries.items ++ change_entries l.self.graph.now l.self.places.items l.self.sum (drop l.e-index l.changes) ≡ change_entries l.self.graph.now l.self.places.items l.self.sum l.changes;
  rest : Every (λ c. c.0.0 < length l.self.graph.now.ends) (drop l.e-index l.changes);
  known : Every (λ c. IsKnown l.self.graph.now l.self.sum c.0.0) (drop l.e-index l.changes) → Every (λ c. IsKnown l.self.graph.now l.self.sum c.0.0) l.changes;
}
