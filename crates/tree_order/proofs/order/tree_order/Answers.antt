-- The walk through the tree, measured.
use Rattle.std.proofs.Common.{◌≡◌, ◌∙◌, None, sym, ap, arith}
use Rattle.view_matrix.specs.Matrices.{distance_of}
use Rattle.view_order.specs.Greedy.{numbers}
use Rattle.tree_order.specs.Links.{branches_of}
use Rattle.tree_order.specs.Trees.{parents_of, tree_walk, walked}
use Rattle.tree_order.proofs.Results.{each_view, length_walked, near_enough, no_shorter, numbers_walked, views_walked, walked_is}
use Rattle.tree_order.proofs.order.tree_order.Goals as goal

pub measured-requires-clause-views : goal.measured-requires-clause-views
measured-requires-clause-views c =
    let m = c.args.matrix.now in
    let views = c.args.views.now in
    let are : branches_of c.as_slice-2.result.now ≡ tree_walk (distance_of m) (numbers views) =
    walked_is m views c.requires.distinct _ _ _ _ _ c.as_slice-2.ensures c.in_ok-walk.ensures c.new-links.ensures c.as_slice.ensures c.in_ok-grown.ensures.links in
    views_walked m views c.requires.distinct c.as_slice-2.result.now are c.requires.views

pub measured-requires-clause-few : goal.measured-requires-clause-few
measured-requires-clause-few c =
    let m = c.args.matrix.now in
    let views = c.args.views.now in
    let are : branches_of c.as_slice-2.result.now ≡ tree_walk (distance_of m) (numbers views) =
    walked_is m views c.requires.distinct _ _ _ _ _ c.as_slice-2.ensures c.in_ok-walk.ensures c.new-links.ensures c.as_slice.ensures c.in_ok-grown.ensures.links in
    omega (arith, length_walked m views c.requires.distinct c.as_slice-2.result.now are, c.count-few.ensures.count, c.count-few.ensures.limit)

pub returns-clause-order : goal.returns-clause-order
returns-clause-order c =
    let m = c.args.matrix.now in
    let views = c.args.views.now in
    let are : branches_of c.as_slice-2.result.now ≡ tree_walk (distance_of m) (numbers views) =
    walked_is m views c.requires.distinct _ _ _ _ _ c.as_slice-2.ensures c.in_ok-walk.ensures c.new-links.ensures c.as_slice.ensures c.in_ok-grown.ensures.links in
    c.in_ok-found.ensures.order ∙ numbers_walked m views c.requires.distinct c.as_slice-2.result.now are

pub returns-clause-parents : goal.returns-clause-parents
returns-clause-parents c =
    let m = c.args.matrix.now in
    let views = c.args.views.now in
    let are : branches_of c.as_slice-2.result.now ≡ tree_walk (distance_of m) (numbers views) =
    walked_is m views c.requires.distinct _ _ _ _ _ c.as_slice-2.ensures c.in_ok-walk.ensures c.new-links.ensures c.as_slice.ensures c.in_ok-grown.ensures.links in
    c.in_ok-found.ensures.parents ∙ ap parents_of are

pub returns-clause-tree : goal.returns-clause-tree
returns-clause-tree c = c.in_ok-found.ensures.tree ∙ c.in_ok-grown.ensures.weight

pub returns-clause-length : goal.returns-clause-length
returns-clause-length c =
    c.in_ok-found.ensures.length ∙ ap (walked (distance_of c.args.matrix.now) None) (sym c.in_ok-found.ensures.order)

pub returns-clause-each : goal.returns-clause-each
returns-clause-each c = each_view c.args.matrix.now c.args.views.now c.requires.distinct c.in_ok-found.found.order (returns-clause-order c)

pub returns-clause-least : goal.returns-clause-least
returns-clause-least c other p = omega (arith, returns-clause-tree c, no_shorter c.args.matrix.now c.args.views.now c.requires.distinct other p)

pub returns-clause-near : goal.returns-clause-near
returns-clause-near c =
    let m = c.args.matrix.now in
    let views = c.args.views.now in
    omega (arith, returns-clause-tree c, returns-clause-length c, ap (walked (distance_of m) None) (returns-clause-order c), near_enough m views c.requires.distinct)
