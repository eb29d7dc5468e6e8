use Rattle.std.proofs.Common.{◌≡◌, ◌++◌, length, map, drop}
use Rattle.flow_core.specs.Runs.{Every}
use Rattle.aggregate_views.specs.Coding.{key_cell, row_at, IsPair}
use Rattle.aggregate_views.proofs.groups.all_rows.Given as goal

abbrev pub invariant-loop-entry : goal.invariant-loop-entry
invariant-loop-entry l = record {
  rows : l.rows ++ map (λ e. row_at (map key_cell l.keys) l.sum e.0) (drop l.entry-index l.held) ≡ map (λ e. row_at (map key_cell l.keys) l.sum e.0) l.held;
  rest : Every (λ e. IsPair (length l.keys) e.0.0) (drop l.entry-index l.held);
}
