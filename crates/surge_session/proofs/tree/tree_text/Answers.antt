-- The pieces of the text stand one after the other.
use Rattle.std.proofs.Common.{◌≡◌, ◌∙◌, ◌++◌, ℕ, List, Option, None, length, flat_map, refl, ap, ap₂, append_assoc, codes, rules}
use Rattle.std.specs.Fmt.{decimal}
use Rattle.std.specs.List.{range_with_len}
use Rattle.result_tables.specs.TableText.{line_end}
use Rattle.tree_order.specs.Trees.{Branch, tree, tree_walk, views_of, walked, weight}
use Rattle.surge_session.specs.Output.{branch_line, difference}
use Rattle.surge_session.specs.State.{shown_graph}
use Rattle.surge_session.proofs.tree.tree_text.Goals as goal

joined : (a b s k l e lines end : List ℕ) → ((a ++ (b ++ (s ++ (k ++ (s ++ (l ++ e)))))) ++ lines) ++ end ≡ a ++ (b ++ (s ++ (k ++ (s ++ (l ++ (e ++ (lines ++ end)))))))
joined a b s k l e lines end = simp append_assoc refl

pub returns : goal.returns
returns c =
    let collection = c.args.collection.now in
    let views = c.args.views.now in
    let distance : Option ℕ → ℕ → ℕ = difference (shown_graph c.args.graph.now c.args.matrix.now) views in
    let places : List ℕ = range_with_len 0 (length views) in
    let walk : List Branch = tree_walk distance places in
    let first : ℕ → ℕ → List ℕ = λ (k l : ℕ). codes "tree " ++ (collection ++ (codes " " ++ (decimal k ++ (codes " " ++ (decimal l ++ line_end))))) in
    let head : c.into_bytes-text.result.items ≡ first c.in_ok-found.found.tree c.in_ok-found.found.length = search rules in
    let lines : c.as_slice.result.now ≡ flat_map (branch_line distance views) walk = c.as_slice.ensures.value ∙ c.in_ok-lines.ensures in
    c.in_ok-extend_from_slice-2.ensures.items
    ∙ ap (λ (t : List ℕ). t ++ (codes "end" ++ line_end))
    (c.in_ok-extend_from_slice.ensures.items ∙ ap₂ (λ (x y : List ℕ). x ++ y) (head ∙ ap₂ first c.in_ok-found.ensures.tree c.in_ok-found.ensures.length) lines)
    ∙ joined (codes "tree ") collection (codes " ") (decimal (weight distance (tree distance places))) (decimal (walked distance None (views_of walk))) line_end (flat_map (branch_line distance views) walk) (codes "end" ++ line_end)
