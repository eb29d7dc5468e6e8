-- Laws of what functions give for the records of collections, and of products.
use Rattle.std.specs.Prelude.{◌≡◌, ℕ, ◌+◌, ◌*◌, List, [], ◌∷◌, ◌++◌, Option, Some, None, refl}
use Rattle.std.proofs.Common.{arith, ap, sym, ◌∙◌, append_assoc}
use Rattle.weighted.specs.WordLaws.{total, mapped}
use Rattle.weighted.specs.Alike.{Alike, Alike-is, Alike-sym, Alike-trans, Alike-append, total-append}
use Rattle.weighted.specs.SumLaws.{product, paired, Alike-product_right}
use Rattle.diff_join.specs.Joins.{one, given}

-- the coefficient of what is given
abbrev pub worth : {O : Type 0} → (O → ℕ) → Option O → ℕ
worth g None = 0
worth g (Some o) = g o

total-one : {O : Type 0} (g : O → ℕ) (o : Option O) (w : ℕ) → total g (one o w) ≡ worth g o * w
total-one g None w = omega arith
total-one g (Some o) w = omega arith

pub total-given : {R O : Type 0} (g : O → ℕ) (f : R → Option O) (es : List (R × ℕ)) → total g (given f es) ≡ total (λ r. worth g (f r)) es
total-given g f [] = refl
total-given g f (e ∷ es) = total-append g (one (f e.0) e.1) (given f es) ∙ ap (λ v. v + total g (given f es)) (total-one g (f e.0) e.1) ∙ ap (λ v. worth g (f e.0) * e.1 + v) (total-given g f es)

pub Alike-given : {R O : Type 0} (f : R → Option O) (xs ys : List (R × ℕ)) → Alike xs ys → Alike (given f xs) (given f ys)
Alike-given f xs ys s = record { totals = λ g. rw (total-given g f xs, total-given g f ys) (s.totals (λ r. worth g (f r))) }

pub given-append : {R O : Type 0} (f : R → Option O) (xs ys : List (R × ℕ)) → given f (xs ++ ys) ≡ given f xs ++ given f ys
given-append f [] ys = refl
given-append f (e ∷ xs) ys = ap (λ v. one (f e.0) e.1 ++ v) (given-append f xs ys) ∙ sym (append_assoc (one (f e.0) e.1) (given f xs) (given f ys))

pub given-mapped : {Q R O : Type 0} (f : R → Option O) (h : Q → R) (es : List (Q × ℕ)) → given f (mapped h es) ≡ given (λ q. f (h q)) es
given-mapped f h [] = refl
given-mapped f h (e ∷ es) = ap (λ v. one (f (h e.0)) e.1 ++ v) (given-mapped f h es)

given-same : {R O : Type 0} (f g : R → Option O) (es : List (R × ℕ)) → ((r : R) → f r ≡ g r) → given f es ≡ given g es
given-same f g [] same = refl
given-same f g (e ∷ es) same = ap (λ o. one o e.1 ++ given f es) (same e.0) ∙ ap (λ v. one (g e.0) e.1 ++ v) (given-same f g es same)

pub given-agree : {R O : Type 0} (f g : R → Option O) (es : List (R × ℕ)) → ((r : R) → f r ≡ g r) → given f es ≡ given g es
given-agree f g es same = given-same f g es same

-- ---- products, the sides swapped

product_nothing : {A B : Type 0} (xs : List (A × ℕ)) → ◌≡◌ {A = List ((A × B) × ℕ)} (product xs []) []
product_nothing [] = refl
product_nothing (e ∷ xs) = product_nothing xs

abbrev pub swapped : {A B : Type 0} → A × B → B × A
swapped r = (r.1, r.0)

turned_one : {A B : Type 0} (e : B × ℕ) (xs : List (A × ℕ)) → mapped (swapped {A = B} {B = A}) (paired e.0 e.1 xs) ≡ product xs (e ∷ [])
turned_one e [] = refl
turned_one {A} {B} e (x ∷ xs) = ap (λ v. ((x.0, e.0), v) ∷ mapped (swapped {A = B} {B = A}) (paired e.0 e.1 xs)) (turn e.1 x.1) ∙ ap (λ v. ((x.0, e.0), x.1 * e.1) ∷ v) (turned_one e xs) where
  turn : (a b : ℕ) → a * b ≡ b * a
  turn a b = omega arith

mapped_append : {A B : Type 0} (f : A → B) (xs ys : List (A × ℕ)) → mapped f (xs ++ ys) ≡ mapped f xs ++ mapped f ys
mapped_append f [] ys = refl
mapped_append f (e ∷ xs) ys = ap (λ v. (f e.0, e.1) ∷ v) (mapped_append f xs ys)

pub product-swapped : {A B : Type 0} (xs : List (A × ℕ)) (ys : List (B × ℕ)) → Alike (mapped (swapped {A = B} {B = A}) (product ys xs)) (product xs ys)
product-swapped xs [] = Alike-is (sym (product_nothing xs))
product-swapped {A} {B} xs (e ∷ ys) =
    let split : mapped (swapped {A = B} {B = A}) (product (e ∷ ys) xs) ≡ mapped (swapped {A = B} {B = A}) (paired e.0 e.1 xs) ++ mapped (swapped {A = B} {B = A}) (product ys xs) = mapped_append (swapped {A = B} {B = A}) (paired e.0 e.1 xs) (product ys xs) in
    let first : Alike (mapped (swapped {A = B} {B = A}) (paired e.0 e.1 xs)) (product xs (e ∷ [])) = Alike-is (turned_one e xs) in
    Alike-trans (Alike-is split) (Alike-trans (Alike-append first (product-swapped xs ys)) (Alike-sym (Alike-product_right xs (e ∷ []) ys)))

-- what is given for the product of swapped sides
pub given-swapped : {A B O : Type 0} (f : A × B → Option O) (h : B × A → Option O) (xs : List (A × ℕ)) (ys : List (B × ℕ)) → ((r : B × A) → h r ≡ f (swapped r)) → Alike (given h (product ys xs)) (given f (product xs ys))
given-swapped {A} {B} f h xs ys same = Alike-trans (Alike-is (given-same h (λ r. f (swapped r)) (product ys xs) same ∙ sym (given-mapped f (swapped {A = B} {B = A}) (product ys xs)))) (Alike-given f _ _ (product-swapped xs ys))
