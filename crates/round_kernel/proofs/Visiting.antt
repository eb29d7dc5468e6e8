-- A round while its nodes are visited one after the other: what is done for those that don't wait.
use Rattle.std.proofs.Common.{◌≡◌, ◌∙◌, ◌<◌, ◌≤◌, ◌+◌, ◌++◌, ◌∷◌, [], zero, suc, sym, ap, subst, refl, ℕ, Bool, true, false, List, cond, arith, inl, inr}
use Rattle.std.specs.Prelude.{All, ◌||◌, ◌&&◌, ◌==◌, not, if◌then◌else◌, map}
use Rattle.std.specs.List.{count_by, range_with_len}
use Rattle.std.proofs.lemmas.Bool.{cases_eq, cases_lt, eq-eqb, ne_eqb}
use Rattle.std.proofs.lemmas.List.{append-nil}
use Rattle.std.proofs.lemmas.List.Folds.{list_any-append}
use Rattle.std.proofs.lemmas.List.Elements.{All-push}
use Rattle.std.proofs.lemmas.List.FromFn.{map-range_with_len_more}
use Rattle.std.proofs.lemmas.List.Sums.{sum_by_push}
use Rattle.graph_model.specs.declared.value.Val.{Val}
use Rattle.graph_model.specs.declared.number.NodeNo.{NodeNo}
use Rattle.change_lists.specs.declared.history.Change.{Change}
use Rattle.change_lists.specs.ChangeLists.{is_listed, is_changed, mark_if, change_if}

-- ---- counts

map-same : (xs : List ℕ) → map (λ (x : ℕ). x) xs ≡ xs
map-same [] = refl
map-same (x ∷ xs) = ap (λ (ys : List ℕ). x ∷ ys) (map-same xs)

range-more : (n : ℕ) → range_with_len 0 (n + 1) ≡ range_with_len 0 n ++ n ∷ []
range-more n = sym (map-same (range_with_len 0 (n + 1))) ∙ map-range_with_len_more (λ (x : ℕ). x) 0 n n (omega arith) ∙ ap (λ (ys : List ℕ). ys ++ n ∷ []) (map-same (range_with_len 0 n))

pub count-more : (f : ℕ → Bool) (n : ℕ) → count_by f (range_with_len 0 (n + 1)) ≡ count_by f (range_with_len 0 n) + (if f n then 1 else 0)
count-more f n = ap (λ (ys : List ℕ). count_by f ys) (range-more n) ∙ sum_by_push (λ k. cond (f k) 1 0) (range_with_len 0 n) n

one : Bool → ℕ
one b = if b then 1 else 0

-- two tests that agree below a number
pub count-same : (f g : ℕ → Bool) (n : ℕ) → ((v : ℕ) → v < n → f v ≡ g v) → count_by f (range_with_len 0 n) ≡ count_by g (range_with_len 0 n)
count-same f g zero h = refl
count-same f g (suc n) h =
    let more : n + 1 ≡ suc n = omega arith in
    subst (λ k. count_by f (range_with_len 0 k) ≡ count_by g (range_with_len 0 k)) more
    (omega (arith, count-more f n, count-more g n, count-same f g n (λ v low. h v (omega arith)), ap {B = ℕ} (λ (b : Bool). if b then 1 else 0) (h n (omega arith))))

pub count-none : (f : ℕ → Bool) (n : ℕ) → ((v : ℕ) → v < n → f v ≡ false) → count_by f (range_with_len 0 n) ≡ 0
count-none f zero h = refl
count-none f (suc n) h =
    let more : n + 1 ≡ suc n = omega arith in
    subst (λ k. count_by f (range_with_len 0 k) ≡ 0) more
    (omega (arith, count-more f n, count-none f n (λ v low. h v (omega arith)), ap {B = ℕ} (λ (b : Bool). if b then 1 else 0) (h n (omega arith))))

-- and that agree but at one place, where the first fails
pub count-at : (f g : ℕ → Bool) (n v : ℕ) → v < n → ((w : ℕ) → w < n → (w ≡ v → ⊥) → f w ≡ g w) → f v ≡ false → count_by g (range_with_len 0 n) ≡ count_by f (range_with_len 0 n) + (if g v then 1 else 0)
count-at f g zero v low h e = absurd (omega arith)
count-at f g (suc n) v low h e =
    let more : n + 1 ≡ suc n = omega arith in
    subst (λ k. count_by g (range_with_len 0 k) ≡ count_by f (range_with_len 0 k) + (if g v then 1 else 0)) more
    (elim (cases_lt v n) [
      | inl less ↦ omega (arith, count-more f n, count-more g n, count-at f g n v less (λ w under other. h w (omega arith) other) e, ap {B = ℕ} (λ (b : Bool). if b then 1 else 0) (h n (omega arith) (λ same. absurd (omega arith))))
      | inr most ↦
          let same : n ≡ v = omega arith in
          omega (arith, count-more f n, count-more g n, count-same f g n (λ w under. h w (omega arith) (λ at. absurd (omega arith))), ap {B = ℕ} (λ (b : Bool). if b then 1 else 0) (ap f same ∙ e), ap {B = ℕ} (λ (k : ℕ). if g k then 1 else 0) same)
    ])

-- ---- lists that grow by a visit

or-none : (b : Bool) → (b || false) ≡ b
or-none true = refl
or-none false = refl

pub listed-if : (v : ℕ) (nodes : List NodeNo) (b : Bool) (n : NodeNo) → is_listed v (nodes ++ mark_if b n) ≡ (is_listed v nodes || (b && (n.0 == v)))
listed-if v nodes true n = list_any-append (λ (m : NodeNo). m.0 == v) nodes (n ∷ []) ∙ ap (λ (c : Bool). is_listed v nodes || c) (or-none (n.0 == v))
listed-if v nodes false n = ap (λ (ns : List NodeNo). is_listed v ns) (append-nil nodes) ∙ sym (or-none (is_listed v nodes))

pub changed-if : (v : ℕ) (changes : List Change) (b : Bool) (n : NodeNo) (w : Val) → is_changed v (changes ++ change_if b n w) ≡ (is_changed v changes || (b && (n.0 == v)))
changed-if v changes true n w = list_any-append (λ (c : Change). c.node.0 == v) changes (record { node = n; value = w } ∷ []) ∙ ap (λ (c : Bool). is_changed v changes || c) (or-none (n.0 == v))
changed-if v changes false n w = ap (λ (cs : List Change). is_changed v cs) (append-nil changes) ∙ sym (or-none (is_changed v changes))

pub within-if : (count : ℕ) (nodes : List NodeNo) (b : Bool) (n : NodeNo) → n.0 < count → All (λ m. m.0 < count) nodes → All (λ m. m.0 < count) (nodes ++ mark_if b n)
within-if count nodes true n low all = All-push (λ (m : NodeNo). m.0 < count) nodes n all low
within-if count nodes false n low all = subst (λ (ns : List NodeNo). All (λ m. m.0 < count) ns) (sym (append-nil nodes)) all

pub all-if : (P : Change → Type 0) (changes : List Change) (b : Bool) (n : NodeNo) (w : Val) → P (record { node = n; value = w }) → All P changes → All P (changes ++ change_if b n w)
all-if P changes true n w here all = All-push P changes (record { node = n; value = w }) all here
all-if P changes false n w here all = subst (λ (cs : List Change). All P cs) (sym (append-nil changes)) all

-- what is done at the nodes that don't wait, by a test of each node
abbrev pub done : (ℕ → Bool) → (ℕ → Bool) → ℕ → Bool
done waiting test v = not (waiting v) && test v

no-and : (b : Bool) → (b && false) ≡ false
no-and true = refl
no-and false = refl

yes-and : (b : Bool) → (b && true) ≡ b
yes-and true = refl
yes-and false = refl

-- the answer at a node after a visit: at the visited node it is its test, and elsewhere as it was
pub done-visited : (waiting waits' test : ℕ → Bool) (n v : ℕ) (was : Bool) → waiting n ≡ true → waits' n ≡ false → ((w : ℕ) → (w ≡ n → ⊥) → waits' w ≡ waiting w) → was ≡ done waiting test v
    → (was || (test n && (n == v))) ≡ done waits' test v
done-visited waiting waits' test n v was e f others h = elim (cases_eq v n) [
  | inl same ↦
      let at : (n == v) ≡ true = eq-eqb n v (sym same) in
      let nothing : was ≡ false = h ∙ ap (λ k. not (waiting k) && test k) same ∙ ap (λ (b : Bool). not b && test n) e in
      ap (λ (b : Bool). b || (test n && (n == v))) nothing ∙ ap (λ (b : Bool). test n && b) at ∙ yes-and (test n) ∙ sym (ap (λ (b : Bool). not b && test n) f) ∙ ap (λ k. not (waits' k) && test k) (sym same)
  | inr other ↦
      let off : (n == v) ≡ false = ne_eqb n v (λ s. other (sym s)) in
      ap (λ (b : Bool). was || (test n && b)) off ∙ ap (λ (b : Bool). was || b) (no-and (test n)) ∙ or-none was ∙ h ∙ ap (λ (b : Bool). not b && test v) (sym (others v other))
]

pub one-most : (b : Bool) (n : ℕ) → n ≡ (if b then 1 else 0) → n ≤ 1
one-most true n e = omega (arith, e)
one-most false n e = omega (arith, e)
