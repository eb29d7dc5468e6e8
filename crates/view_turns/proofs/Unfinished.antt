-- The segments that have a view which wasn't stepped.
use Rattle.std.proofs.Common.{◌≡◌, ◌≢◌, ◌⊎◌, inl, inr, ◌∙◌, ◌+◌, ◌<◌, ◌≤◌, ◌==◌, ℕ, zero, suc, Bool, true, false, List, [], ◌∷◌, ◌++◌, length, take, get_or, All, Option, Some, slice_get, refl, sym, ap, subst, arith}
use Rattle.std.specs.Prelude.{if◌then◌else◌}
use Rattle.std.proofs.lemmas.List.{take_more, length-take, get_or_default}
use Rattle.std.proofs.lemmas.Option.{slice_get_within, get_or_from_slice_get}
use Rattle.std.proofs.lemmas.Bool.{eqb-false}
use Rattle.std.proofs.lemmas.Bool.Decides.{eqb_tells}
use Rattle.view_segment.specs.declared.segment.Segment.{Segment}
use Rattle.view_segment.specs.Segments.{IsFinished}
use Rattle.draws.specs.declared.Draws.{Draws}
use Rattle.view_turns.specs.Turns.{unfinished_from, chosen}

abbrev pub is_finished : Segment → Bool
is_finished s = length s.works == length s.views

finished_of : (a b : ℕ) → (a == b) ≡ true → a ≡ b
finished_of a b e = tells (eqb_tells a b) where
  tells : ((a == b) ≡ true) × (a ≡ b) ⊎ ((a == b) ≡ false) × (a ≢ b) → a ≡ b
  tells (inl h) = h.1
  tells (inr h) = absurd (let no : true ≡ false = sym e ∙ h.0 in cc)

unfinished_of : (a b : ℕ) → (a == b) ≡ false → a ≢ b
unfinished_of a b e = eqb-false a b e

-- ---- one more segment

later : (c : Bool) (k : ℕ) (a z : List ℕ) → (if c then a ++ z else k ∷ (a ++ z)) ≡ (if c then a else k ∷ a) ++ z
later true k a z = refl
later false k a z = refl

pub one_more : (k : ℕ) (ss : List Segment) (s : Segment) → unfinished_from k (ss ++ s ∷ []) ≡ unfinished_from k ss ++ unfinished_from (k + length ss) (s ∷ [])
one_more k [] s = ap (λ (j : ℕ). if is_finished s then [] else j ∷ []) (let e : k ≡ k + 0 = omega arith in e)
one_more k (t ∷ ts) s =
    let so_far = unfinished_from (k + 1) ts in
    let rest : unfinished_from (k + 1) (ts ++ s ∷ []) ≡ so_far ++ (if is_finished s then [] else (k + suc (length ts)) ∷ []) =
    one_more (k + 1) ts s ∙ ap (λ (j : ℕ). so_far ++ (if is_finished s then [] else j ∷ [])) (let e : k + 1 + length ts ≡ k + suc (length ts) = omega arith in e) in
    ap (λ (r : List ℕ). if is_finished t then r else k ∷ r) rest ∙ later (is_finished t) k so_far (if is_finished s then [] else (k + suc (length ts)) ∷ [])

-- the numbers through one more segment
pub through : (ss : List Segment) (i : ℕ) (s : Segment) (before after : List ℕ) → slice_get ss i ≡ Some s → before ≡ unfinished_from 0 (take i ss) → after ≡ before ++ unfinished_from i (s ∷ []) → after ≡ unfinished_from 0 (take (i + 1) ss)
through ss i s before after at so_far more =
    let lt : i < length ss = slice_get_within ss i s at in
    let longer : take (i + 1) ss ≡ take i ss ++ s ∷ [] = take_more ss i s lt ∙ ap (λ (y : Segment). take i ss ++ y ∷ []) (get_or_from_slice_get ss i s s at) in
    let number : 0 + length (take i ss) ≡ i = omega (arith, length-take i ss, lt) in
    more ∙ ap (λ (r : List ℕ). r ++ unfinished_from i (s ∷ [])) so_far ∙ ap (λ (j : ℕ). unfinished_from 0 (take i ss) ++ unfinished_from j (s ∷ [])) (sym number)
    ∙ sym (one_more 0 (take i ss) s) ∙ ap (unfinished_from 0) (sym longer)

-- ---- what they are

-- the number of a segment that has a view left
pub record IsOpen (k : ℕ) (ss : List Segment) (j : ℕ) : Type 0 where
  pub place : ℕ
  pub segment : Segment
  pub number : j ≡ k + place
  pub at : slice_get ss place ≡ Some segment
  pub left : length segment.works ≢ length segment.views

cons_all : {X : Type 0} (P : X → Type 0) (x : X) (xs : List X) → P x → All P xs → All P (x ∷ xs)
cons_all P x xs p all zero d lt = p
cons_all P x xs p all (suc k) d lt = all k d (omega (arith, lt))

behind : (k : ℕ) (t : Segment) (ts : List Segment) (j : ℕ) → IsOpen (k + 1) ts j → IsOpen k (t ∷ ts) j
behind k t ts j is = record { place = suc is.place; segment = is.segment; number = omega (arith, is.number); at = is.at; left = is.left }

open_by : (k : ℕ) (t : Segment) (ts : List Segment) (b : Bool) (rest : List ℕ) → is_finished t ≡ b → All (IsOpen (k + 1) ts) rest → All (IsOpen k (t ∷ ts)) (if b then rest else k ∷ rest)
open_by k t ts true rest e all = λ i d lt. behind k t ts (get_or rest i d) (all i d lt)
open_by k t ts false rest e all =
    cons_all (IsOpen k (t ∷ ts)) k rest (record { place = 0; segment = t; number = omega arith; at = refl; left = unfinished_of (length t.works) (length t.views) e }) (λ i d lt. behind k t ts (get_or rest i d) (all i d lt))

pub all_open : (k : ℕ) (ss : List Segment) → All (IsOpen k ss) (unfinished_from k ss)
all_open k [] = λ i d lt. absurd (omega (arith, lt))
all_open k (t ∷ ts) = open_by k t ts (is_finished t) (unfinished_from (k + 1) ts) refl (all_open (k + 1) ts)

-- ---- none

none_by : (k : ℕ) (t : Segment) (ts : List Segment) (b : Bool) (rest : List ℕ) → is_finished t ≡ b → (if b then rest else k ∷ rest) ≡ [] → (rest ≡ [] → All IsFinished ts) → All IsFinished (t ∷ ts)
none_by k t ts true rest e none all = cons_all IsFinished t ts (finished_of (length t.works) (length t.views) e) (all none)
none_by k t ts false rest e none all = absurd cc

pub all_finished : (k : ℕ) (ss : List Segment) → unfinished_from k ss ≡ [] → All IsFinished ss
all_finished k [] none = λ i d lt. absurd (omega (arith, lt))
all_finished k (t ∷ ts) none = none_by k t ts (is_finished t) (unfinished_from (k + 1) ts) refl none (all_finished (k + 1) ts)

-- ---- how many

few_by : (b : Bool) (k n : ℕ) (rest : List ℕ) → length rest ≤ n → length (if b then rest else k ∷ rest) ≤ suc n
few_by true k n rest le = omega (arith, le)
few_by false k n rest le = omega (arith, le)

pub few : (k : ℕ) (ss : List Segment) → length (unfinished_from k ss) ≤ length ss
few k [] = omega arith
few k (t ∷ ts) = few_by (is_finished t) k (length ts) (unfinished_from (k + 1) ts) (few (k + 1) ts)

-- ---- the one that is turned

empty_of : (xs : List ℕ) → length xs ≡ 0 → xs ≡ []
empty_of [] e = refl
empty_of (x ∷ xs) e = absurd (omega (arith, e))

pub zero_of : (n : ℕ) → (n == 0) ≡ true → n ≡ 0
zero_of n e = finished_of n 0 e

pub finished_if_none : (ss : List Segment) (left : List ℕ) → left ≡ unfinished_from 0 ss → length left ≡ 0 → All IsFinished ss
finished_if_none ss left is none = all_finished 0 ss (sym is ∙ empty_of left none)

pub few_left : (ss : List Segment) (left : List ℕ) → left ≡ unfinished_from 0 ss → length left ≤ length ss
few_left ss left is = omega (arith, few 0 ss, ap (λ (xs : List ℕ). length xs) is)

-- a segment that has a view left
pub record HasLeft (ss : List Segment) (j : ℕ) : Type 0 where
  pub segment : Segment
  pub at : slice_get ss j ≡ Some segment
  pub left : length segment.works ≢ length segment.views

pub chosen_left : (ss : List Segment) (left : List ℕ) (i j : ℕ) → left ≡ unfinished_from 0 ss → i < length left → j ≡ get_or left i j → HasLeft ss j
chosen_left ss left i j is lt e =
    let lt2 : i < length (unfinished_from 0 ss) = omega (arith, lt, ap (λ (xs : List ℕ). length xs) is) in
    let found : IsOpen 0 ss (get_or (unfinished_from 0 ss) i j) = all_open 0 ss i j lt2 in
    let same : get_or (unfinished_from 0 ss) i j ≡ j = ap (λ (xs : List ℕ). get_or xs i j) (sym is) ∙ sym e in
    let place : found.place ≡ j = omega (arith, found.number, same) in
    record { segment = found.segment; at = ap (slice_get ss) (sym place) ∙ found.at; left = found.left }

-- it is the one that is turned next
pub chosen_next : (draws : Option Draws) (left whole : List ℕ) (count i j : ℕ) → left ≡ whole → i < length left → count ≡ length left → i ≡ chosen draws count → j ≡ get_or left i j → j ≡ get_or whole (chosen draws (length whole)) 0
chosen_next draws left whole count i j is lt many place e =
    let same : i ≡ chosen draws (length whole) = place ∙ ap (chosen draws) (many ∙ ap (λ (xs : List ℕ). length xs) is) in
    e ∙ get_or_default left i j 0 lt ∙ ap (λ (xs : List ℕ). get_or xs i 0) is ∙ ap (λ (p : ℕ). get_or whole p 0) same
