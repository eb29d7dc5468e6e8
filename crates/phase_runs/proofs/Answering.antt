-- The answers that are held.
use Rattle.std.proofs.Common.{◌≡◌, ◌≢◌, ◌∙◌, ◌<◌, ◌∷◌, ◌==◌, [], ℕ, zero, suc, Bool, true, false, cond, List, length, map, take, get_or, All, Option, Some, None, ◌⊎◌, refl, sym, ap, subst, arith, inl, inr}
use Rattle.std.specs.List.{find}
use Rattle.std.specs.Prelude.{IsNone}
use Rattle.std.proofs.lemmas.Bool.Decides.{eqb_tells}
use Rattle.std.proofs.lemmas.List.{get_or-take, length-map, length-take}
use Rattle.std.proofs.lemmas.List.Elements.{All-head, All-tail}
use Rattle.std.proofs.lemmas.Option.{slice_get-get_or}
use Rattle.graph_model.specs.declared.number.ViewNo.{ViewNo}
use Rattle.graph_model.specs.GraphData.{AreDistinct}
use Rattle.result_tables.specs.Results.{Held, ResultsData, held_on, IsNew}

-- ---- the first answer on a view

pub record FoundRight (P : Held → Type 0) (n : ℕ) (o : Option Held) : Type 0 where
  pub one : Held
  pub is : o ≡ Some one
  pub view : one.view.0 ≡ n
  pub right : P one

here-or-later : (P : Held → Type 0) (n : ℕ) (h : Held) (later : Option Held) → P h
    → ((h.view.0 == n) ≡ true) × (h.view.0 ≡ n) ⊎ ((h.view.0 == n) ≡ false) × (h.view.0 ≢ n)
    → (h.view.0 ≢ n → FoundRight P n later) → FoundRight P n (cond (h.view.0 == n) (Some h) later)
here-or-later P n h later right (inl e) rest = record { one = h; is = ap (λ (b : Bool). cond b (Some h) later) e.0; view = e.1; right = right }
here-or-later P n h later right (inr e) rest = subst (FoundRight P n) (sym (ap (λ (b : Bool). cond b (Some h) later) e.0)) (rest e.1)

-- of answers that are all right, where one is on the view
pub find-right : (P : Held → Type 0) (n : ℕ) (held : List Held) (k : ℕ) (d : Held) → All P held → k < length held → (get_or held k d).view.0 ≡ n
    → FoundRight P n (find (λ (h : Held). h.view.0 == n) held)
find-right P n [] k d all low at = absurd (omega (arith, low))
find-right P n (h ∷ hs) zero d all low at =
    here-or-later P n h (find (λ (h : Held). h.view.0 == n) hs) (All-head P h hs all) (eqb_tells h.view.0 n) (λ ne. absurd (ne at))
find-right P n (h ∷ hs) (suc k) d all low at =
    here-or-later P n h (find (λ (h : Held). h.view.0 == n) hs) (All-head P h hs all) (eqb_tells h.view.0 n)
    (λ ne. find-right P n hs k d (All-tail P h hs all) (omega (arith, low)) at)

-- ---- a view that is new

not-here : (n : ℕ) (h : Held) (later : Option Held) → h.view.0 ≢ n → ((h.view.0 == n) ≡ true) × (h.view.0 ≡ n) ⊎ ((h.view.0 == n) ≡ false) × (h.view.0 ≢ n) → later ≡ None → cond (h.view.0 == n) (Some h) later ≡ None
not-here n h later ne (inl e) none = absurd (ne e.1)
not-here n h later ne (inr e) none = ap (λ (b : Bool). cond b (Some h) later) e.0 ∙ none

none-found : (n : ℕ) (held : List Held) → All (λ (h : Held). h.view.0 ≢ n) held → find (λ (h : Held). h.view.0 == n) held ≡ None
none-found n [] others = refl
none-found n (h ∷ hs) others =
    not-here n h (find (λ (h : Held). h.view.0 == n) hs) (All-head (λ (h : Held). h.view.0 ≢ n) h hs others) (eqb_tells h.view.0 n)
    (none-found n hs (All-tail (λ (h : Held). h.view.0 ≢ n) h hs others))

-- at each place of a list made of another stands what is made of what stands there
pub map-at : {A B : Type 0} (f : A → B) (xs : List A) (i : ℕ) (d : A) (e : B) → i < length xs → get_or (map f xs) i e ≡ f (get_or xs i d)
map-at f [] i d e low = absurd (omega (arith, low))
map-at f (x ∷ xs) zero d e low = refl
map-at f (x ∷ xs) (suc i) d e low = map-at f xs i d e (omega (arith, low))

none-is-new : (o : Option Held) → o ≡ None → IsNone o
none-is-new o is = rw is refl

-- of distinct views each one is new behind the answers on those before it
pub new-view : (m : ResultsData) (order : List ViewNo) (k : ℕ) (d : ViewNo) → AreDistinct order → k < length order → map (λ (h : Held). h.view) m.held ≡ take k order → IsNew m (get_or order k d)
new-view m order k d distinct low same =
    none-is-new (held_on m (get_or order k d)) (none-found (get_or order k d).0 m.held (λ i h there here.
    let count : length m.held ≡ length (take k order) = sym (length-map m.held (λ (h : Held). h.view)) ∙ ap (λ (vs : List ViewNo). length vs) same in
    let before : i < k = omega (arith, count, there, length-take k order, low) in
    let at : (get_or m.held i h).view ≡ get_or order i d = sym (map-at (λ (h : Held). h.view) m.held i h d there) ∙ ap (λ (vs : List ViewNo). get_or vs i d) same ∙ get_or-take k order i d before in
    let one : get_or order i d ≡ get_or order k d = ap (λ (n : ℕ). let v : ViewNo = record { 0 = n } in v) (sym (ap (λ (v : ViewNo). v.0) at) ∙ here) in
    let is : i ≡ k = distinct i k (get_or order k d) (slice_get-get_or order i d (omega (arith, before, low)) ∙ ap (λ (v : ViewNo). Some v) one) (slice_get-get_or order k d low) in
    omega (arith, is, before)))
