-- The functions of parts, told in other words.
use Rattle.std.proofs.Common.{◌≡◌, ◌∙◌, ℕ, List, ap}

-- one after the other
pub chain_is : {I M O : Type 0} (first first' : List (I × ℕ) → List (M × ℕ)) (second second' : List (M × ℕ) → List (O × ℕ)) (whole : List (I × ℕ) → List (O × ℕ)) → whole ≡ (λ xs. second (first xs)) → first ≡ first' → second ≡ second' → whole ≡ (λ xs. second' (first' xs))
chain_is {I} {M} {O} first first' second second' whole w f s = w ∙ ap (λ (k : List (I × ℕ) → List (M × ℕ)). (λ xs. second (k xs))) f ∙ ap (λ (k : List (M × ℕ) → List (O × ℕ)). (λ xs. k (first' xs))) s
