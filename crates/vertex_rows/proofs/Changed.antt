-- A matrix of which edges came or went.
use Rattle.std.proofs.Common.{◌≡◌, ◌∙◌, Bool, List, [], ◌∷◌, length, refl}
use Rattle.std.specs.List.{fold}
use Rattle.std.proofs.lemmas.List.{length-set}
use Rattle.graph_model.specs.declared.number.EdgeNo.{EdgeNo}
use Rattle.view_matrix.specs.Matrices.{with_live}

-- it has as many edges as before
pub as-many : (live : List Bool) (changes : List (EdgeNo × Bool)) → length (fold with_live live changes) ≡ length live
as-many live [] = refl
as-many live (c ∷ cs) = as-many (with_live live c) cs ∙ length-set live c.0.0 c.1
