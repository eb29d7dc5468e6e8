-- One link more.
use Rattle.std.proofs.Common.{◌∙◌, ◌<◌, ℕ, length, arith}
use Rattle.std.proofs.lemmas.List.{get_or_default}
use Rattle.tree_order.specs.declared.link.Link.{Link}
use Rattle.tree_order.proofs.Links.{nearer_else, nearer_then, nearest_more, read_at}
use Rattle.tree_order.proofs.link.nearest.Goals as goal
use Rattle.tree_order.proofs.link.nearest.Goals.{then-is_nearer, else-is_nearer}

pub loop-place-preserved : goal.loop-place-preserved
loop-place-preserved c =
    let links = c.args.links.now in
    let p : ℕ = c.loop-place.place in
    let best : Link = c.loop-place.best in
    let now : Link = c.if-is_nearer.best in
    let invariant = c.loop-place.invariant in
    let lt : p < length links = c.loop-place-test.true in
    elim c.if-is_nearer.branch [
      | then-is_nearer w ↦
          record {
            from = omega arith;
            within = omega (arith, w.at-is, lt);
            best = read_at links p c.if-is_nearer.at _ now lt w.at-is w.best-is (get_or_default links p _ _ lt);
            nearest = λ d.
                nearer_then best _ now c.is_nearer.result c.is_nearer.ensures w.if-is_nearer.true w.best-is
                ∙ nearest_more links p best _ d invariant.from lt (get_or_default links p _ _ lt) (invariant.nearest d);
          }
      | else-is_nearer w ↦
          record {
            from = omega arith;
            within = omega (arith, w.at-is, invariant.within);
            best = read_at links c.loop-place.at c.if-is_nearer.at best now invariant.within w.at-is w.best-is invariant.best;
            nearest = λ d.
                nearer_else best _ now c.is_nearer.result c.is_nearer.ensures w.if-is_nearer.false w.best-is
                ∙ nearest_more links p best _ d invariant.from lt (get_or_default links p _ _ lt) (invariant.nearest d);
          }
    ]
