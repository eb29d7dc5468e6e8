-- What an edit costs is bounded by the nodes that it touches.
use Rattle.std.specs.Prelude.{◌≡◌, ◌+◌, ◌*◌, ◌<◌, ◌≤◌, ◌||◌, ℕ, zero, suc, Bool, true, false, not, if◌then◌else◌, cond, List, [], ◌∷◌, length, get_or, All, count_by, refl}
use Rattle.std.specs.List.{sum_by}
use Rattle.std.proofs.Common.{arith, sym, ap, ◌∙◌, subst, inl, inr}
use Rattle.std.proofs.Math.Nat.{mul_comm, mul_assoc, mul-le-mul_right, suc-mul}
use Rattle.std.proofs.lemmas.Bool.{cases_lt}
use Rattle.std.proofs.lemmas.List.Folds.{list_any_at}
use Rattle.std.proofs.lemmas.List.Sums.{sum_by-cons, sum_by-le, sum_by-le-sum_by}
use Rattle.vertex_lang.specs.Lone.{number_of}
use Rattle.vertex_lang.specs.Rounds.{nodes_of}
use Rattle.multisets.specs.Multisets.{AreOne, are_one}
use Rattle.multisets.specs.CountLaws.{one-told}
use Rattle.lone_work.specs.InputLaws.{items-exact}
use Rattle.lone_work.specs.Inputs.{input}
use Rattle.lone_work.specs.Items.{Item, same_item}
use Rattle.lone_work.specs.Work.{previous, is_active, is_touched, is_marked, is_counted, rounds_counted, work}
use Rattle.lone_work.specs.WorkLaws.{active-by, not-touched}
use Rattle.view_segment.specs.Tasks.{Task, view_arcs}
use Rattle.view_versions.specs.Laws.{WorksAreTouched}
use Rattle.view_versions.specs.Touched.{differs, node_differs, differs_in, is_touched_in, touched, edit_work, edit_works}

neither : (a b : Bool) → (a || b) ≡ false → (a ≡ false) × (b ≡ false)
neither true b e = absurd cc
neither false b e = (refl, e)

none-of : (a b : Bool) → a ≡ false → b ≡ false → (a || b) ≡ false
none-of true b e f = absurd cc
none-of false b e f = f

holds-if : (b : Bool) → not b ≡ false → b ≡ true
holds-if true e = refl
holds-if false e = absurd cc

-- ---- of what is got in each round of two versions

module _ (new old : ℕ → List Item) where
  -- where it differs in no round below a number, it is one in each
  same-below : (n : ℕ) → differs new old n ≡ false → (k : ℕ) → k < n → AreOne same_item (new k) (old k)
  same-below zero e k low = absurd (omega arith)
  same-below (suc n) e k low =
      let parts = neither (differs new old n) (not (are_one same_item (new n) (old n))) e in
      elim (cases_lt k n) [
        | inl below ↦ same-below n parts.0 k below
        | inr here ↦ let same : n ≡ k = omega arith in subst (λ i. AreOne same_item (new i) (old i)) same (one-told same_item items-exact (new n) (old n) (holds-if (are_one same_item (new n) (old n)) parts.1))
      ]

  module _ (n : ℕ) (e : differs new old n ≡ false) where
    same-before : (r : ℕ) → r < n → AreOne same_item (previous new r) (previous old r)
    same-before zero low = record { counts = λ x. refl }
    same-before (suc r) low = same-below n e r (omega arith)

    inactive : (r : ℕ) → r < n → is_active new old r ≡ false
    inactive r low = active-by new old r (record { counts = λ x. omega (arith, (same-below n e r low).counts x, (same-before r low).counts x) })

    untouched : (r : ℕ) → r < n → is_touched new old r ≡ false
    untouched zero low = inactive zero low
    untouched (suc r) low = none-of (is_touched new old r) (is_active new old (suc r)) (untouched r (omega arith)) (inactive (suc r) low)

    uncounted : (m : ℕ) → m ≤ n → rounds_counted new old m ≡ 0
    uncounted zero low = refl
    uncounted (suc m) low =
        let none : is_counted new old m ≡ false = not-touched (is_touched new old m) (is_active new old m || is_marked old m) (untouched m (omega arith)) in
        rw none (omega (arith, uncounted m (omega arith)))

  one-at-most : (b : Bool) → (if b then 1 else 0) ≤ 1
  one-at-most true = omega arith
  one-at-most false = omega arith

  few : (n : ℕ) → rounds_counted new old n ≤ n
  few zero = omega arith
  few (suc n) = omega (arith, few n, one-at-most (is_counted new old n))

  few-by : (n : ℕ) (b : Bool) → differs new old n ≡ b → rounds_counted new old n ≤ (if b then n else 0)
  few-by n true e = few n
  few-by n false e = let none = uncounted n e n (omega arith) in omega arith

  pub few-where-different : (n : ℕ) → rounds_counted new old n ≤ (if differs new old n then n else 0)
  few-where-different n = few-by n (differs new old n) refl

-- ---- counts

module _ {A : Type 0} (p q : A → Bool) (n : ℕ) where
  times-by : (b : Bool) (k m : ℕ) → k ≡ m * n → (if b then n else 0) + k ≡ ((if b then 1 else 0) + m) * n
  times-by true k m e = let more : 1 + m ≡ suc m = omega arith in let all : (1 + m) * n ≡ m * n + n = ap (λ i. i * n) more ∙ suc-mul m n in omega arith
  times-by false k m e = let same : 0 + m ≡ m = omega arith in let all : (0 + m) * n ≡ m * n = ap (λ i. i * n) same in omega arith

  -- so many each time
  pub times : (xs : List A) → sum_by (λ x. if p x then n else 0) xs ≡ count_by p xs * n
  times [] = let none : 0 ≡ 0 * n = omega arith in none
  times (x ∷ xs) =
      sum_by-cons (λ y. if p y then n else 0) x xs
      ∙ times-by (p x) (sum_by (λ y. if p y then n else 0) xs) (count_by p xs) (times xs)
      ∙ ap (λ k. k * n) (sym (sum_by-cons (λ y. cond (p y) 1 0) x xs))

  one-by : (a b : Bool) → (a ≡ true → b ≡ true) → cond a 1 0 ≤ cond b 1 0
  one-by true true h = omega arith
  one-by true false h = let never = h refl in absurd cc
  one-by false true h = omega arith
  one-by false false h = omega arith

  -- a weaker test counts no less
  pub no-less : (xs : List A) → ((x : A) → p x ≡ true → q x ≡ true) → count_by p xs ≤ count_by q xs
  no-less xs h = sum_by-le-sum_by (λ x. cond (p x) 1 0) (λ x. cond (q x) 1 0) xs (λ x. one-by (p x) (q x) (h x))

-- ---- of views

module _ (old new : Task) where
  rounds : ℕ
  rounds = number_of new.rounds

  in-view : (view : ℕ) → edit_work old new view ≤ count_by (differs_in old new view) (nodes_of new.graph) * rounds
  unfolding rounds work node_differs
  in-view view =
      let f = λ (v : ℕ). input new.answer new.program new.graph (view_arcs new view) v in
      let g = λ (v : ℕ). input new.answer new.program new.graph (view_arcs old view) v in
      let n = number_of new.rounds in
      subst (λ k. sum_by (λ v. rounds_counted (f v) (g v) n) (nodes_of new.graph) ≤ k) (times (λ v. differs (f v) (g v) n) (λ v. differs (f v) (g v) n) n (nodes_of new.graph))
      (sum_by-le-sum_by (λ v. rounds_counted (f v) (g v) n) (λ v. if differs (f v) (g v) n then n else 0) (nodes_of new.graph) (λ v. few-where-different (f v) (g v) n))

  more-rounds : (a b n : ℕ) → a ≤ b → a * n ≤ b * n
  more-rounds a b n low = mul-le-mul_right n low

  each : (views : List ℕ) → All (λ view. edit_work old new view ≤ touched old new views * rounds) views
  unfolding rounds touched
  each views k d low =
      let view = get_or views k d in
      let less = no-less (differs_in old new view) (is_touched_in old new views) rounds (nodes_of new.graph) (λ v e. list_any_at (λ w. differs_in old new w v) views k d low e) in
      let a = in-view view in
      let b = more-rounds (count_by (differs_in old new view) (nodes_of new.graph)) (count_by (is_touched_in old new views) (nodes_of new.graph)) (number_of new.rounds) less in
      omega arith

  pub works-touched : (views : List ℕ) → edit_works old new views ≤ touched old new views * (length views * number_of new.rounds)
  unfolding rounds
  works-touched views =
      let t = touched old new views in
      let n = number_of new.rounds in
      let all = sum_by-le (edit_work old new) (t * n) views (each views) in
      let order : length views * (t * n) ≡ t * (length views * n) = sym (mul_assoc (length views) t n) ∙ ap (λ k. k * n) (mul_comm (length views) t) ∙ mul_assoc t (length views) n in
      subst (λ k. edit_works old new views ≤ k) order all

pub works_touched : WorksAreTouched
works_touched old new views = works-touched old new views
