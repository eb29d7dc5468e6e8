-- All values are the same.
use Rattle.std.proofs.Common.{arith, below_more}
use Rattle.std.proofs.lemmas.Bool.{MatchBool-at_false}
use Rattle.std.proofs.lemmas.List.{ext_get_or}
use Rattle.graph_model.specs.declared.value.Val.TheVariants.{Nil}
use Rattle.phase_runs.proofs.changes.are_same.Goals as goal

pub loop-node-preserved : goal.loop-node-preserved
loop-node-preserved c = below_more _ _ c.loop-node.invariant (MatchBool-at_false _ _ c.if-differ.false c.differ.ensures)

pub returns : goal.returns
returns c = λ yes. ext_get_or Nil c.args.left.now c.args.right.now c.requires (λ k low. c.loop-node.invariant k (omega (arith, low)))
