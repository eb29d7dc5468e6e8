use Rattle.std.proofs.Common.{◌≡◌, ◌∙◌, ◌∷◌, [], Bool, List, map, ap, refl}
use Rattle.std.proofs.lemmas.List.{take_all}
use Rattle.graph_model.specs.declared.number.EdgeNo.{EdgeNo}
use Rattle.view_versions.proofs.flags.apart_edges.Goals as goal

firsts : (f : EdgeNo → Bool) (xs : List EdgeNo) → map (λ (d : EdgeNo × Bool). d.0) (map (λ e. (e, f e)) xs) ≡ xs
firsts f [] = refl
firsts f (x ∷ xs) = ap (λ (ys : List EdgeNo). x ∷ ys) (firsts f xs)

pub returns : goal.returns
returns c =
    c.loop-difference.invariant
    ∙ ap (λ (ds : List (EdgeNo × Bool)). map (λ (d : EdgeNo × Bool). d.0) ds) (take_all c.loop-difference.difference-index c.as_slice-difference-items.result.now c.loop-difference-test.false ∙ c.as_slice-difference-items.ensures ∙ c.in_ok-differences.ensures.differences)
    ∙ firsts _ _
