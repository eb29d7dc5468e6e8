-- Fields by their places.
use Rattle.std.proofs.Common.{◌≡◌, ◌<◌, ℕ, zero, suc, List, [], ◌∷◌, length, get_or, Some, None, arith}
use Rattle.csv.specs.Records.{field_at}

pub field-within : (fs : List (List ℕ)) (i : ℕ) → i < length fs → field_at fs i ≡ None → ⊥
unfolding field_at
field-within [] i lt e = omega arith
field-within (f ∷ fs) zero lt e = cc
field-within (f ∷ fs) (suc i) lt e = field-within fs i (omega arith) e

pub field-is : (fs : List (List ℕ)) (i : ℕ) (x : List ℕ) → i < length fs → Some x ≡ field_at fs i → x ≡ get_or fs i []
unfolding field_at
field-is [] i x lt e = absurd (omega arith)
field-is (f ∷ fs) zero x lt e = cc
field-is (f ∷ fs) (suc i) x lt e = field-is fs i x (omega arith) e
