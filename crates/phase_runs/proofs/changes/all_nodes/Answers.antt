-- The next node is named.
use Rattle.std.proofs.Common.{◌∙◌, ◌+◌, ◌++◌, List, drop, sym, ap, arith}
use Rattle.graph_model.specs.declared.number.NodeNo.{NodeNo}
use Rattle.graph_model.specs.declared.value.Val.{Val}
use Rattle.result_tables.specs.Changes.{all_from}
use Rattle.phase_runs.proofs.Changing.{all-named, all-next}
use Rattle.phase_runs.proofs.changes.all_nodes.Goals as goal

pub loop-node-preserved : goal.loop-node-preserved
loop-node-preserved c =
    let i = c.loop-node.node in
    let xs = c.args.values.now in
    ap (λ (cs : List (NodeNo × Val)). cs ++ all_from (i + 1) (drop (i + 1) xs)) c.in_ok-push.ensures.items
    ∙ all-next c.loop-node.changes.items xs i c.loop-node-test.true ∙ c.loop-node.invariant

pub returns : goal.returns
returns c = sym (all-named c.loop-node.changes.items c.args.values.now c.loop-node.node (omega arith)) ∙ c.loop-node.invariant
