-- One node more.
use Rattle.std.proofs.Common.{◌≡◌, ◌∙◌, arith, Bool, true, false, ◌≤◌, ◌+◌, if◌then◌else◌, ℕ}
use Rattle.graph_model.specs.GraphData.{node_cell_of}
use Rattle.aggregate_views.specs.Rows.{cell_order}
use Rattle.aggregate_views.specs.Coding.{key_cell}
use Rattle.aggregate_views.proofs.Places.{one_key_more}
use Rattle.aggregate_views.proofs.codes.keys_in.Goals as goal

at_most_one : (b : Bool) (n m k : ℕ) → k ≡ n + (if b then 1 else 0) → n ≤ m → k ≤ m + 1
at_most_one true n m k h low = omega (arith, h, low)
at_most_one false n m k h low = omega (arith, h, low)

pub loop-n-preserved : goal.loop-n-preserved
loop-n-preserved c = record {
  has = one_key_more _ c.keys_are_ordered.ensures.total key_cell cell_order c.keys_are_ordered.ensures.cells (λ n. node_cell_of c.args.graph.now n c.args.column) c.loop-n.n c.loop-n.set.keys _ c.key_of-key.result c.in_ok-insert.ensures.keys (c.key_of-key.ensures ∙ c.node_cell.ensures.value) c.loop-n.invariant.has;
  few = at_most_one c.in_ok-insert.field-0 _ _ _ c.in_ok-insert.ensures.len c.loop-n.invariant.few;
}
