use Rattle.std.proofs.Common.{◌≡◌, List, false, true, get_or, subst, arith}
use Rattle.std.specs.Prelude.{All}
use Rattle.std.proofs.lemmas.List.{take_all}
use Rattle.std.proofs.lemmas.List.Elements.{All-more}
use Rattle.graph_model.specs.declared.number.NodeNo.{NodeNo}
use Rattle.round_kernel.proofs.same.are_flagged.Goals as goal

pub loop-node-preserved : goal.loop-node-preserved
loop-node-preserved c = All-more (λ (n : NodeNo). get_or c.args.flags.now n.0 false ≡ true) c.args.nodes.now c.loop-node.node-index (record { 0 = 0 }) c.loop-node-test.true c.loop-node.invariant c.if-not-flags-node.false

pub returns : goal.returns
returns c = λ yes. subst (λ (ns : List NodeNo). All (λ n. get_or c.args.flags.now n.0 false ≡ true) ns) (take_all c.loop-node.node-index c.args.nodes.now (omega (arith, c.loop-node-test.false))) c.loop-node.invariant
