use Rattle.std.proofs.Common.{◌≡◌, ℕ, ◌<◌, length, map, get_or}
use Rattle.graph_model.specs.GraphData.{Cell, node_cell_of}
use Rattle.aggregate_views.specs.Coding.{key_cell}
use Rattle.aggregate_views.proofs.codes.codes_of.Given as goal

abbrev pub invariant-loop-n : goal.invariant-loop-n
invariant-loop-n l = record {
  count : length l.places.items ≡ l.n;
  each : (m : ℕ) → m < l.n → (get_or l.places.items m 0 < length l.keys.items) × (get_or (map key_cell l.keys.items) (get_or l.places.items m 0) Cell.absent ≡ node_cell_of l.graph m l.column);
}
