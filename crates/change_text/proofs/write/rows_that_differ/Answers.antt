-- One more node.
use Rattle.std.proofs.Common.{◌∙◌, arith}
use Rattle.change_text.proofs.Writing.{one_row}
use Rattle.change_text.proofs.write.rows_that_differ.Goals as goal

pub loop-place-preserved : goal.loop-place-preserved
loop-place-preserved c =
    c.in_ok-push_changed.ensures ∙ one_row c.args.graph.now c.args.before.now c.args.values.now c.loop-place.place c.by_id-node.result c.loop-place.rows.items
    (omega (arith, c.loop-place-test.true, c.node_count-place-end.ensures.order)) c.by_id-node.ensures.place c.loop-place.invariant
