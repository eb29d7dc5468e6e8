-- A further file takes no edge away.
use Rattle.std.proofs.Common.{arith}
use Rattle.surge_cli.proofs.Inserting.{no_fewer}
use Rattle.surge_cli.proofs.stages.extend_graph.Goals as goal

pub edges_since-requires : goal.edges_since-requires
edges_since-requires c =
    omega (arith, no_fewer c.args.statement c.args.bytes.now c.args.graph.now c.extend.new.graph c.in-Ok.ensures.ok, c.edge_count-before.ensures.count)
