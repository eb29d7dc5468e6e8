-- One link more.
use Rattle.std.proofs.Common.{◌∙◌, ◌<◌, ℕ, List, Option, length, slice_set, ap, arith}
use Rattle.std.proofs.lemmas.List.{get_or_default}
use Rattle.std.proofs.lemmas.List.Edits.{map_over_more}
use Rattle.std.proofs.lemmas.List.Elements.{All-set}
use Rattle.view_matrix.specs.Matrices.{distance_of, IsView}
use Rattle.tree_order.specs.declared.link.Link.{Link}
use Rattle.tree_order.specs.Links.{brought}
use Rattle.tree_order.proofs.Links.{brought_within}
use Rattle.tree_order.proofs.grow.bring_nearer.Goals as goal

pub loop-link-preserved : goal.loop-link-preserved
loop-link-preserved c =
    let m = c.args.matrix.now in
    let all : List Link = c.args.links.now in
    let links : List Link = c.loop-link.links in
    let i : ℕ = c.loop-link.link-index in
    let d : Option ℕ → ℕ → ℕ = distance_of m in
    let within : i < length links = omega arith in
    let first : i < length all = omega arith in
    record {
      brought =
          ap (λ (link : Link). slice_set links i link) c.brought.ensures
          ∙ map_over_more (brought d c.args.joined) all links i _ first c.loop-link.invariant.brought (get_or_default links i _ _ within);
      views =
          All-set (λ (link : Link). IsView m link.view) links i c.brought.result
          (brought_within (length m.columns) d c.args.joined links i _ c.brought.result c.brought.ensures (get_or_default links i _ _ within) within c.loop-link.invariant.views)
          c.loop-link.invariant.views;
    }
