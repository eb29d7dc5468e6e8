-- One change more.
use Rattle.std.proofs.Common.{◌≡◌, ◌∙◌, ◌+◌, ◌<◌, ◌++◌, ◌∷◌, ℕ, Bool, List, [], cond, length, get_or, map, filter, take, ap}
use Rattle.std.proofs.lemmas.List.{map-append, take_more}
use Rattle.std.proofs.lemmas.List.Elements.{filter-append}
use Rattle.graph_model.specs.declared.number.EdgeNo.{EdgeNo}
use Rattle.view_matrix.specs.Matrices.{MatrixData, rule_bit_of}
use Rattle.view_versions.specs.Edits.{turned_in}

pub turned_more : (m : MatrixData) (changes : List (EdgeNo × Bool)) (v i : ℕ) (d : EdgeNo × Bool) → i < length changes
    → turned_in m (take (i + 1) changes) v ≡ turned_in m (take i changes) v ++ cond (rule_bit_of m (get_or changes i d).0.0 v) ((get_or changes i d).0 ∷ []) []
turned_more m changes v i d low =
    let first = λ (c : EdgeNo × Bool). c.0 in
    let test = λ (e : EdgeNo). rule_bit_of m e.0 v in
    ap (λ (cs : List (EdgeNo × Bool)). turned_in m cs v) (take_more changes i d low)
    ∙ ap (λ (es : List EdgeNo). filter test es) (map-append first (take i changes) (get_or changes i d ∷ []))
    ∙ filter-append test (map first (take i changes)) ((get_or changes i d).0 ∷ [])
