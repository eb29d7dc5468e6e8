use Rattle.std.proofs.Common.{◌≡◌, ◌<◌, length, ℕ}
use Rattle.arc_rows.specs.RowLists.{begin_of}
use Rattle.arc_rows.specs.Lives.{place_at}
use Rattle.arc_rows.proofs.live.laid.Given as goal

abbrev pub invariant-loop-node : goal.invariant-loop-node
invariant-loop-node g l = record {
  size : length l.places.items ≡ l.node;
  from : l.from ≡ begin_of l.rows.head_ends l.node;
  each : (v : ℕ) → v < l.node → place_at l.places.items v ≡ record { from = begin_of l.rows.head_ends v; count = 0 };
}
