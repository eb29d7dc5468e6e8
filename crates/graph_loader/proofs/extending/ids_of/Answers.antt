use Rattle.std.proofs.Common.{◌<◌, length, arith}
use Rattle.graph_loader.proofs.IdFacts.{new-among}
use Rattle.graph_loader.proofs.extending.ids_of.Goals as goal

pub add_id-requires : goal.add_id-requires
add_id-requires c =
    let lt : c.loop-n.n < length c.args.graph.now.ids = omega (arith, c.loop-n-test.true, c.node_count-n-end.ensures.count) in
    rw (c.loop-n.invariant, c.id.ensures.value) (new-among c.args.graph.now.ids c.loop-n.n c.id.ensures.distinct lt)
