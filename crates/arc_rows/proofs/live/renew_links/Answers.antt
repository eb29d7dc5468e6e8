use Rattle.std.proofs.Common.{◌≡◌, ℕ, length, subst, arith}
use Rattle.arc_rows.specs.Links.{link_of}
use Rattle.arc_rows.specs.Lives.{AreRenewed}
use Rattle.arc_rows.proofs.Renewing.{renewed-none, renewed-next, renewed-pass}
use Rattle.arc_rows.proofs.live.renew_links.Goals as goal
use Rattle.arc_rows.proofs.live.renew_links.Goals.{then-nodes-node, else-nodes-node}

pub loop-node-init : goal.loop-node-init
loop-node-init c = renewed-none (link_of c.args.graph.now c.args.column) c.args.rows.now.by_head c.args.edges.now (length c.args.graph.now.ids) c.args.nodes.now c.args.live.now c.requires.laid

pub renew_links_of-requires-clause-laid : goal.renew_links_of-requires-clause-laid
renew_links_of-requires-clause-laid c = c.loop-node.invariant.laid

pub loop-node-preserved : goal.loop-node-preserved
loop-node-preserved c =
    let all = c.args.rows.now.by_head in
    let count = length c.args.graph.now.ids in
    elim c.if-nodes-node.branch [
      | then-nodes-node w ↦ rw w.live-is (renewed-next (link_of c.args.graph.now c.args.column) all c.args.edges.now count c.args.nodes.now c.loop-node.node c.args.live.now c.loop-node.live c.loop-node.invariant w.renew_links_of.new.live w.if-nodes-node.true w.renew_links_of.ensures)
      | else-nodes-node w ↦ rw w.live-is (renewed-pass (link_of c.args.graph.now c.args.column) all c.args.edges.now count c.args.nodes.now c.loop-node.node c.args.live.now c.loop-node.live c.loop-node.invariant w.if-nodes-node.false)
    ]

pub returns : goal.returns
returns c =
    let count = length c.args.graph.now.ids in
    let all : c.loop-node.node ≡ count = omega (arith, c.loop-node.auto.node-end, c.loop-node-test.false, c.node_count-node-end.ensures.count) in
    subst (λ (n : ℕ). AreRenewed (link_of c.args.graph.now c.args.column) c.args.rows.now.by_head c.args.edges.now count c.args.nodes.now n c.args.live.now c.loop-node.live) all c.loop-node.invariant
