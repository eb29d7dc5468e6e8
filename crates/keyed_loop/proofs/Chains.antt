-- The function of two parts, one after the other, told in other words.
use Rattle.std.proofs.Common.{◌≡◌, ◌∙◌, ℕ, List, ap}

pub chain_is : {I M O : Type 0} (first first' : List (I × ℕ) → List (M × ℕ)) (second second' : List (M × ℕ) → List (O × ℕ)) (whole : List (I × ℕ) → List (O × ℕ)) → whole ≡ (λ xs. second (first xs)) → first ≡ first' → second ≡ second' → whole ≡ (λ xs. second' (first' xs))
chain_is {I} {M} {O} first first' second second' whole w f s = w ∙ ap (λ (k : List (I × ℕ) → List (M × ℕ)). (λ xs. second (k xs))) f ∙ ap (λ (k : List (M × ℕ) → List (O × ℕ)). (λ xs. k (first' xs))) s

-- two parts, told in other words
pub pair_is : {A B : Type 0} (whole : A × B) (first first' : A) (second second' : B) → whole ≡ (first, second) → first ≡ first' → second ≡ second' → whole ≡ (first', second')
pair_is {A} {B} whole first first' second second' w f s = w ∙ ap (λ (k : A). (k, second)) f ∙ ap (λ (k : B). (first', k)) s
