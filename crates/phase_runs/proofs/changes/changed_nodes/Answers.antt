-- The next node is compared.
use Rattle.std.proofs.Common.{◌∙◌, ◌+◌, ◌++◌, List, drop, sym, ap, arith}
use Rattle.std.proofs.lemmas.Bool.{MatchBool-at_false, MatchBool-at_true}
use Rattle.graph_model.specs.declared.number.NodeNo.{NodeNo}
use Rattle.graph_model.specs.declared.value.Val.{Val}
use Rattle.result_tables.specs.Changes.{changes_from}
use Rattle.phase_runs.proofs.Changing.{all-compared, next-differs, next-same}
use Rattle.phase_runs.proofs.changes.changed_nodes.Goals as goal
use Rattle.phase_runs.proofs.changes.changed_nodes.Goals.{then-differ+in_ok-push, else-differ}

pub loop-node-preserved : goal.loop-node-preserved
loop-node-preserved c =
    let i = c.loop-node.node in
    let had = c.loop-node.changes.items in
    let xs = c.args.earlier.now in
    let ys = c.args.values.now in
    elim c.if-differ.branch [
      | then-differ+in_ok-push w ↦
          rw w.changes-is
          (ap (λ (cs : List (NodeNo × Val)). cs ++ changes_from (i + 1) (drop (i + 1) xs) (drop (i + 1) ys)) w.in_ok-push.ensures.items
          ∙ next-differs had xs ys i (omega arith) (omega arith) (MatchBool-at_true _ _ w.if-differ.true c.differ.ensures) ∙ c.loop-node.invariant)
      | else-differ w ↦ rw w.changes-is (next-same had xs ys i (omega arith) (omega arith) (MatchBool-at_false _ _ w.if-differ.false c.differ.ensures) ∙ c.loop-node.invariant)
    ]

pub returns : goal.returns
returns c = sym (all-compared c.loop-node.changes.items c.args.earlier.now c.args.values.now c.loop-node.node (omega arith) (omega arith)) ∙ c.loop-node.invariant
