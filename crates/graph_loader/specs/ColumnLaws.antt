-- Lists whose values are distinct, and the columns of a header.
use Rattle.std.proofs.Common.{◌≡◌, ◌∙◌, ◌⊎◌, inl, inr, sym, refl, ap, subst, ℕ, zero, suc, ◌+◌, ◌≤◌, Bool, true, false, ◌||◌, List, [], ◌∷◌, ◌++◌, length, map, Some, Ok, Err, if◌then◌else◌, arith}
use Rattle.std.specs.Prelude.{nat_eq, slice_get, All}
use Rattle.std.specs.List.{list_any}
use Rattle.std.specs.Str.{bytes_eq}
use Rattle.std.proofs.lemmas.List.{length-append, map-append}
use Rattle.std.proofs.lemmas.List.Elements.{All-append}
use Rattle.std.proofs.lemmas.Bool.Decides.{nat_tests}
use Rattle.std.proofs.lemmas.Slice.Eq.{bytes_eq-Decides}
use Rattle.graph_model.specs.declared.cell.Column.{Column}
use Rattle.graph_model.specs.GraphData.{AreDistinct, names_of}
use Rattle.graph_loader.specs.declared.fault.DataKind.TheVariants as wrong
use Rattle.graph_loader.specs.DataFiles.{Row, blame, columns_after, has_name}
use Rattle.graph_loader.specs.Spelling.{is_property}
use Rattle.graph_loader.specs.PropertyLaws.{Named, properties-keep}

-- ---- lists

pub all-push : {A : Type 0} (P : A → Type 0) (xs : List A) (x : A) → All P xs → P x → All P (xs ++ x ∷ [])
all-push P xs x h p = All-append P xs (x ∷ []) h (one x p) where
  one : (x : _) → P x → All P (x ∷ [])
  one x p zero d lt = p
  one x p (suc k) d lt = absurd (omega arith)

pub all-none : {A : Type 0} (P : A → Type 0) → All P []
all-none P k d lt = absurd (omega arith)

-- ---- lists whose values are distinct

get-push : {A : Type 0} (xs : List A) (y x : A) (i : ℕ) → slice_get (xs ++ y ∷ []) i ≡ Some x → (slice_get xs i ≡ Some x) ⊎ ((i ≡ length xs) × (y ≡ x))
get-push [] y x zero e = inr (refl, cc)
get-push [] y x (suc i) e = absurd (cc)
get-push (z ∷ xs) y x zero e = inl e
get-push (z ∷ xs) y x (suc i) e = elim (get-push xs y x i e) [ inl h ↦ inl h | inr h ↦ inr (ap suc h.0, h.1) ]

pub distinct-push : {A : Type 0} (xs : List A) (y : A) → AreDistinct xs → ((i : ℕ) → slice_get xs i ≡ Some y → ⊥) → AreDistinct (xs ++ y ∷ [])
distinct-push {A} xs y d new = λ i j x a b. both i j x (get-push xs y x i a) (get-push xs y x j b) where
  at : (x : A) (k : ℕ) → slice_get xs k ≡ Some x → y ≡ x → ⊥
  at x k g e = new k (g ∙ ap (λ z. Some z) (sym e))

  both : (i j : ℕ) (x : A) → (slice_get xs i ≡ Some x) ⊎ ((i ≡ length xs) × (y ≡ x)) → (slice_get xs j ≡ Some x) ⊎ ((j ≡ length xs) × (y ≡ x)) → i ≡ j
  both i j x (inl g) (inl h) = d i j x g h
  both i j x (inl g) (inr h) = absurd (at x i g h.1)
  both i j x (inr g) (inl h) = absurd (at x j h g.1)
  both i j x (inr g) (inr h) = g.0 ∙ sym h.0

-- an element that a test lets pass is not in a list that has none such
absent : {A : Type 0} (test : A → Bool) (xs : List A) (i : ℕ) (x : A) → list_any test xs ≡ false → slice_get xs i ≡ Some x → test x ≡ true → ⊥
absent test [] i x none e t = absurd (cc)
absent test (y ∷ xs) zero x none e t = let same : y ≡ x = cc in first (test y) (list_any test xs) none (subst (λ z. test z ≡ true) (sym same) t) where
  first : (a b : Bool) → (a || b) ≡ false → a ≡ true → ⊥
  first true b n t = cc
  first false b n t = cc
absent test (y ∷ xs) (suc i) x none e t = absent test xs i x (second (test y) (list_any test xs) none) e t where
  second : (a b : Bool) → (a || b) ≡ false → b ≡ false
  second true b n = absurd (cc)
  second false b n = n

nat-same : (n : ℕ) → nat_eq n n ≡ true
nat-same n = grind (arith, nat_tests)

pub new-id : (ids : List ℕ) (id : ℕ) → list_any (nat_eq id) ids ≡ false → (i : ℕ) → slice_get ids i ≡ Some id → ⊥
new-id ids id none i e = absent (nat_eq id) ids i id none e (nat-same id)

get-map : {A B : Type 0} (f : A → B) (xs : List A) (i : ℕ) (y : B) → slice_get (map f xs) i ≡ Some y → (x : A) × (slice_get xs i ≡ Some x) × (f x ≡ y)
get-map f [] i y e = absurd (cc)
get-map f (x ∷ xs) zero y e = (x, refl, cc)
get-map f (x ∷ xs) (suc i) y e = get-map f xs i y e

new-name : (columns : List Column) (name : List ℕ) → has_name columns name ≡ false → (i : ℕ) → slice_get (names_of columns) i ≡ Some name → ⊥
new-name columns name none i e =
    let g = get-map (λ (c : Column). c.name) columns i name e in
    absent (λ (c : Column). bytes_eq c.name name) columns i g.0 none g.1 ((bytes_eq-Decides g.0.name name).1 g.2)

-- ---- columns

-- a property may have its name
abbrev pub HasPropertyName : Column → Type 0
HasPropertyName c = is_property c.name ≡ true

abbrev pub AreColumns : List Column → Type 0
AreColumns columns = (length columns ≤ 16) × AreDistinct (names_of columns) × All HasPropertyName columns

columns-step : (earlier : List Column) (c : Column) → AreColumns earlier → Named earlier c → AreColumns (earlier ++ c ∷ [])
columns-step earlier c h n =
    let count = n.few in
    let names : names_of (earlier ++ c ∷ []) ≡ names_of earlier ++ c.name ∷ [] = map-append (λ (c : Column). c.name) earlier (c ∷ []) in
    (omega (arith, length-append earlier (c ∷ [])), rw names (distinct-push (names_of earlier) c.name h.1 (new-name earlier c.name n.new)), all-push HasPropertyName earlier c h.2 n.name)

pub columns-are : (words : List (List ℕ)) (fields : Row) (column : ℕ) (out : List Column) → columns_after column words fields ≡ Ok out → AreColumns out
columns-are [] fields column out e = properties-keep AreColumns columns-step fields column [] out (omega arith, λ i j x a b. absurd (cc), all-none HasPropertyName) e
columns-are (word ∷ words) [] column out e = absurd (cc)
columns-are (word ∷ words) (field ∷ fields) column out e = cases (bytes_eq field word) (columns-are words fields (column + 1) out) e where
  cases : (t : Bool) → (columns_after (column + 1) words fields ≡ Ok out → AreColumns out)
      → (if t then columns_after (column + 1) words fields else Err (blame column wrong.BadHeader)) ≡ Ok out → AreColumns out
  cases true more e = more e
  cases false more e = absurd (cc)
