-- Rows by rising ids: where one stands, and what putting one in leaves.
use Rattle.std.proofs.Common.{◌≡◌, ◌≢◌, ◌∙◌, ◌⊎◌, ℕ, zero, suc, ◌+◌, ◌<◌, ◌≤◌, ◌==◌, Bool, true, false, List, [], ◌∷◌, ◌++◌, length, take, drop, set, fold, get_or, Option, Some, None, All, refl, sym, ap, subst, arith, inl, inr, if◌then◌else◌, add-one, drop-cons, take_all, append-nil}
use Rattle.std.proofs.lemmas.Bool.Decides.{eqb_tells}
use Rattle.std.proofs.lemmas.List.{length-drop, set_split, take_more_set, length-set}
use Rattle.std.proofs.lemmas.List.Elements.{All-cons, All-head, All-map, All-nil, All-push, All-tail, All-weaker}
use Rattle.std.proofs.lemmas.List.Sums.{fold_push}
use Rattle.graph_model.specs.declared.value.Val.{Val}
use Rattle.change_text.specs.declared.row.Row.{Row}
use Rattle.change_text.specs.Blocks.{Differs, IsRising, put, put_all, value_at}
use Rattle.change_text.specs.Inside.{IsBetween, PutsRow, next_id}
use Rattle.change_text.proofs.Split.{same_cons}

-- ---- tests of ids

told : (a b : ℕ) → (((a == b) ≡ true) × (a ≡ b)) ⊎ (((a == b) ≡ false) × (a ≢ b))
told a b = eqb_tells a b

pub put_here : (r row : Row) → r.id ≡ row.id → (if r.id == row.id then row else r) ≡ row
put_here r row e = elim (told r.id row.id) [ inl h ↦ ap (λ (b : Bool). if b then row else r) h.0 | inr h ↦ absurd (h.1 e) ]

pub put_other : (r row : Row) → r.id ≢ row.id → (if r.id == row.id then row else r) ≡ r
put_other r row ne = elim (told r.id row.id) [ inl h ↦ absurd (ne h.1) | inr h ↦ ap (λ (b : Bool). if b then row else r) h.0 ]

put_id : (r row : Row) → (if r.id == row.id then row else r).id ≡ r.id
put_id r row = elim (told r.id row.id) [ inl h ↦ ap (λ (b : Bool). (if b then row else r).id) h.0 ∙ sym h.1 | inr h ↦ ap (λ (b : Bool). (if b then row else r).id) h.0 ]

pub value_here : (r : Row) (id : ℕ) (rest : Option Val) → r.id ≡ id → (if r.id == id then Some r.value else rest) ≡ Some r.value
value_here r id rest e = elim (told r.id id) [ inl h ↦ ap (λ (b : Bool). if b then Some r.value else rest) h.0 | inr h ↦ absurd (h.1 e) ]

pub value_other : (r : Row) (id : ℕ) (rest : Option Val) → r.id ≢ id → (if r.id == id then Some r.value else rest) ≡ rest
value_other r id rest ne = elim (told r.id id) [ inl h ↦ absurd (ne h.1) | inr h ↦ ap (λ (b : Bool). if b then Some r.value else rest) h.0 ]

-- ---- rows before and behind a place

pub rising_back : (table : List Row) (p : ℕ) (d : Row) → IsRising table → p < length table → All (λ r. (get_or table p d).id ≤ r.id) (drop p table)
rising_back [] p d up lt = absurd (omega (arith, lt))
rising_back (x ∷ xs) zero d up lt =
    All-cons (λ (r : Row). x.id ≤ r.id) x xs (omega arith) (All-weaker (λ (r : Row). x.id < r.id) (λ (r : Row). x.id ≤ r.id) (λ r h. omega (arith, h)) xs up.0)
rising_back (x ∷ xs) (suc p) d up lt = rising_back xs p d up.1 (omega (arith, lt))

pub rising_front : (table : List Row) (p : ℕ) (d : Row) → IsRising table → p < length table → All (λ r. r.id ≤ (get_or table p d).id) (take (suc p) table)
rising_front [] p d up lt = absurd (omega (arith, lt))
rising_front (x ∷ xs) zero d up lt = All-cons (λ (r : Row). r.id ≤ x.id) x [] (omega arith) (All-nil (λ (r : Row). r.id ≤ x.id))
rising_front (x ∷ xs) (suc p) d up lt =
    let above : x.id < (get_or xs p d).id = up.0 p d (omega (arith, lt)) in
    All-cons (λ (r : Row). r.id ≤ (get_or xs p d).id) x (take (suc p) xs) (omega (arith, above)) (rising_front xs p d up.1 (omega (arith, lt)))

-- ---- a search

pub between_start : (table : List Row) (id from : ℕ) → from ≤ length table → All (λ r. r.id < id) (take from table) → IsBetween table id from (length table)
between_start table id from le below = record {
  order = le;
  within = omega arith;
  below = below;
  above = λ k d lt. absurd (omega (arith, lt, length-drop (length table) table));
}

pub raise_low : (table : List Row) (id low high p : ℕ) (d : Row) → IsRising table → IsBetween table id low high → p < high → (get_or table p d).id < id → IsBetween table id (p + 1) high
raise_low table id low high p d up h lt under = record {
  order = omega (arith, lt);
  within = h.within;
  below = rw add-one (All-weaker (λ (r : Row). r.id ≤ (get_or table p d).id) (λ (r : Row). r.id < id) (λ r le. omega (arith, le, under)) (take (suc p) table) (rising_front table p d up (omega (arith, lt, h.within))));
  above = h.above;
}

pub sink_high : (table : List Row) (id low high p : ℕ) (d : Row) → IsRising table → IsBetween table id low high → low ≤ p → p < length table → id ≤ (get_or table p d).id → IsBetween table id low p
sink_high table id low high p d up h le lt over = record {
  order = le;
  within = omega (arith, lt);
  below = h.below;
  above = All-weaker (λ (r : Row). (get_or table p d).id ≤ r.id) (λ (r : Row). id ≤ r.id) (λ r more. omega (arith, more, over)) (drop p table) (rising_back table p d up lt);
}

-- ---- what stands at the place

none_some : {v : Val} → None ≡ Some v → ⊥
none_some e = absurd cc

some_same : {v w : Val} → Some v ≡ Some w → v ≡ w
some_same e = cc

value_past : (table : List Row) (id : ℕ) → All (λ r. r.id ≢ id) table → value_at table id ≡ None
value_past [] id all = refl
value_past (r ∷ rs) id all = value_other r id (value_at rs id) (All-head (λ (s : Row). s.id ≢ id) r rs all) ∙ value_past rs id (All-tail (λ (s : Row). s.id ≢ id) r rs all)

value_behind : (front rest : List Row) (id : ℕ) → All (λ r. r.id < id) front → value_at (front ++ rest) id ≡ value_at rest id
value_behind [] rest id all = refl
value_behind (r ∷ rs) rest id all =
    let low : r.id < id = All-head (λ (s : Row). s.id < id) r rs all in
    value_other r id (value_at (rs ++ rest) id) (λ e. absurd (omega (arith, low, e))) ∙ value_behind rs rest id (All-tail (λ (s : Row). s.id < id) r rs all)

rising_after : (table : List Row) (p : ℕ) (d : Row) → IsRising table → p < length table → All (λ r. (get_or table p d).id < r.id) (drop (suc p) table)
rising_after [] p d up lt = absurd (omega (arith, lt))
rising_after (x ∷ xs) zero d up lt = up.0
rising_after (x ∷ xs) (suc p) d up lt = rising_after xs p d up.1 (omega (arith, lt))

cut_row : (table : List Row) (p : ℕ) (d : Row) → p < length table → table ≡ take p table ++ get_or table p d ∷ drop (suc p) table
cut_row [] p d lt = absurd (omega (arith, lt))
cut_row (x ∷ xs) zero d lt = refl
cut_row (x ∷ xs) (suc p) d lt = ap (λ (rs : List Row). x ∷ rs) (cut_row xs p d (omega (arith, lt)))

drop_row : (table : List Row) (p : ℕ) (d : Row) → p < length table → drop p table ≡ get_or table p d ∷ drop (suc p) table
drop_row table p d lt = drop-cons table p d lt

pub put_none : (rows : List Row) (row : Row) → All (λ r. r.id ≢ row.id) rows → put rows row ≡ rows
put_none [] row all = refl
put_none (r ∷ rs) row all =
    same_cons (put_other r row (All-head (λ (s : Row). s.id ≢ row.id) r rs all)) (put_none rs row (All-tail (λ (s : Row). s.id ≢ row.id) r rs all))

put_at : (front rest : List Row) (x row : Row) → All (λ r. r.id < row.id) front → x.id ≡ row.id → All (λ r. x.id < r.id) rest → put (front ++ x ∷ rest) row ≡ front ++ row ∷ rest
put_at [] rest x row low is high = same_cons (put_here x row is) (put_none rest row (All-weaker (λ (r : Row). x.id < r.id) (λ (r : Row). r.id ≢ row.id) (λ r h e. absurd (omega (arith, h, e, is))) rest high))
put_at (r ∷ rs) rest x row low is high =
    let under : r.id < row.id = All-head (λ (s : Row). s.id < row.id) r rs low in
    same_cons (put_other r row (λ e. absurd (omega (arith, under, e)))) (put_at rs rest x row (All-tail (λ (s : Row). s.id < row.id) r rs low) is high)

module _ (table : List Row) (p : ℕ) (row d : Row) (up : IsRising table) (at : IsBetween table row.id p p) where
  at_place : p < length table → (get_or table p d).id ≡ row.id → value_at table row.id ≡ Some (get_or table p d).value
  at_place lt is =
      ap (λ (rs : List Row). value_at rs row.id) (cut_row table p d lt)
      ∙ value_behind (take p table) (get_or table p d ∷ drop (suc p) table) row.id at.below
      ∙ value_here (get_or table p d) row.id (value_at (drop (suc p) table) row.id) is

  pub row_found : p < length table → (get_or table p d).id ≡ row.id → (get_or table p d).value ≢ row.value → PutsRow table row (set table p row) (Some (p + 1))
  row_found lt is ne = (
    ((get_or table p d).value, at_place lt is, ne),
    set_split table p row lt
        ∙ sym (ap (λ (rs : List Row). put rs row) (cut_row table p d lt) ∙ put_at (take p table) (drop (suc p) table) (get_or table p d) row at.below is (rising_after table p d up lt)),
    omega (arith, lt, length-set table p row),
    subst (λ (rs : List Row). All (λ r. r.id ≤ row.id) rs) (sym (take_more_set table p row lt))
        (All-push (λ (r : Row). r.id ≤ row.id) (take p table) row (All-weaker (λ (r : Row). r.id < row.id) (λ (r : Row). r.id ≤ row.id) (λ r h. omega (arith, h)) (take p table) at.below) (omega arith)),
  )

  -- no row has the id
  none_there : (front rest : List Row) → All (λ r. r.id < row.id) front → All (λ r. row.id < r.id) rest → value_at (front ++ rest) row.id ≡ None
  none_there front rest low high =
      value_behind front rest row.id low ∙ value_past rest row.id (All-weaker (λ (r : Row). row.id < r.id) (λ (r : Row). r.id ≢ row.id) (λ r h e. absurd (omega (arith, h, e))) rest high)

  all_before : p ≡ length table → All (λ r. r.id < row.id) table
  all_before is = subst (λ (rs : List Row). All (λ r. r.id < row.id) rs) (take_all p table (omega (arith, is))) at.below

  pub row_past : p ≡ length table → PutsRow table row table None
  row_past is = (
    λ differs. absurd (none_some (sym (ap (λ (rs : List Row). value_at rs row.id) (sym (append-nil table)) ∙ none_there table [] (all_before is) (All-nil (λ (r : Row). row.id < r.id))) ∙ differs.1)),
    refl,
  )

  pub row_missing : p < length table → (get_or table p d).id ≢ row.id → PutsRow table row table None
  row_missing lt ne =
      let le : row.id ≤ (get_or table p d).id = All-head (λ (r : Row). row.id ≤ r.id) (get_or table p d) (drop (suc p) table) (subst (λ (rs : List Row). All (λ r. row.id ≤ r.id) rs) (drop_row table p d lt) at.above) in
      let high : All (λ r. row.id < r.id) (get_or table p d ∷ drop (suc p) table) =
      All-cons (λ (r : Row). row.id < r.id) (get_or table p d) (drop (suc p) table) (omega (arith, le, ne))
      (All-weaker (λ (r : Row). (get_or table p d).id < r.id) (λ (r : Row). row.id < r.id) (λ r h. omega (arith, h, le)) (drop (suc p) table) (rising_after table p d up lt)) in (
        λ differs. absurd (none_some (sym (ap (λ (rs : List Row). value_at rs row.id) (cut_row table p d lt) ∙ none_there (take p table) (get_or table p d ∷ drop (suc p) table) at.below high) ∙ differs.1)),
        refl,
      )

  pub row_same : p < length table → (get_or table p d).id ≡ row.id → (get_or table p d).value ≡ row.value → PutsRow table row table None
  row_same lt is same = (λ differs. absurd (differs.2 (some_same (sym differs.1 ∙ at_place lt is) ∙ same)), refl)

-- ---- what stays

above_put : (n : ℕ) (rows : List Row) (row : Row) → All (λ s. n < s.id) rows → All (λ s. n < s.id) (put rows row)
above_put n rows row all =
    All-map (λ (s : Row). n < s.id) (λ (r : Row). if r.id == row.id then row else r) rows
    (All-weaker (λ (s : Row). n < s.id) (λ (r : Row). n < (if r.id == row.id then row else r).id) (λ r h. subst (λ (m : ℕ). n < m) (sym (put_id r row)) h) rows all)

pub rising_put : (rows : List Row) (row : Row) → IsRising rows → IsRising (put rows row)
rising_put [] row up = tt
rising_put (r ∷ rs) row up = (subst (λ (m : ℕ). All (λ s. m < s.id) (put rs row)) (sym (put_id r row)) (above_put r.id rs row up.0), rising_put rs row up.1)

pub rising_put_all : (rows changes : List Row) → IsRising rows → IsRising (put_all rows changes)
rising_put_all rows [] up = up
rising_put_all rows (c ∷ cs) up = rising_put_all (put rows c) cs (rising_put rows c up)

one_value : (r row : Row) (id : ℕ) (was now : Option Val) → row.id ≢ id → now ≡ was
    → (if (if r.id == row.id then row else r).id == id then Some (if r.id == row.id then row else r).value else now) ≡ (if r.id == id then Some r.value else was)
one_value r row id was now ne same =
    elim (told r.id row.id) [
      | inl h ↦
          ap (λ (b : Bool). if (if b then row else r).id == id then Some (if b then row else r).value else now) h.0
          ∙ value_other row id now ne ∙ same ∙ sym (value_other r id was (λ e. ne (sym h.1 ∙ e)))
      | inr h ↦
          ap (λ (b : Bool). if (if b then row else r).id == id then Some (if b then row else r).value else now) h.0
          ∙ ap (λ (o : Option Val). if r.id == id then Some r.value else o) same
    ]

value_put : (rows : List Row) (row : Row) (id : ℕ) → row.id ≢ id → value_at (put rows row) id ≡ value_at rows id
value_put [] row id ne = refl
value_put (r ∷ rs) row id ne = one_value r row id (value_at rs id) (value_at (put rs row) id) ne (value_put rs row id ne)

pub value_put_all : (rows changes : List Row) (id : ℕ) → All (λ c. c.id ≢ id) changes → value_at (put_all rows changes) id ≡ value_at rows id
value_put_all rows [] id all = refl
value_put_all rows (c ∷ cs) id all =
    value_put_all (put rows c) cs id (All-tail (λ (s : Row). s.id ≢ id) c cs all) ∙ value_put rows c id (All-head (λ (s : Row). s.id ≢ id) c cs all)

below_apart : (rows : List Row) (n : ℕ) → All (λ r. r.id < n) rows → All (λ r. r.id ≢ n) rows
below_apart rows n all = All-weaker (λ (r : Row). r.id < n) (λ (r : Row). r.id ≢ n) (λ r h e. absurd (omega (arith, h, e))) rows all

-- a row differs from the rows with lower rows put in just where it differs from these
pub differs_before : (rows changes : List Row) (row : Row) → All (λ r. r.id < row.id) changes → Differs (put_all rows changes) row → Differs rows row
differs_before rows changes row low d = (d.0, sym (value_put_all rows changes row.id (below_apart changes row.id low)) ∙ d.1, d.2)

pub differs_after : (rows changes : List Row) (row : Row) → All (λ r. r.id < row.id) changes → Differs rows row → Differs (put_all rows changes) row
differs_after rows changes row low d = (d.0, value_put_all rows changes row.id (below_apart changes row.id low) ∙ d.1, d.2)

-- ---- one row more

abbrev next : ℕ → List Row → ℕ
next n rows = fold (λ m r. r.id + 1) n rows

next_grows : (n : ℕ) (rows : List Row) → IsRising rows → All (λ r. n ≤ r.id) rows → n ≤ next n rows
next_grows n [] up all = omega arith
next_grows n (r ∷ rs) up all =
    let more : r.id + 1 ≤ next (r.id + 1) rs = next_grows (r.id + 1) rs up.1 (All-weaker (λ (s : Row). r.id < s.id) (λ (s : Row). r.id + 1 ≤ s.id) (λ s h. omega (arith, h)) rs up.0) in
    let low : n ≤ r.id = All-head (λ (s : Row). n ≤ s.id) r rs all in
    omega (arith, more, low)

all_below : (n : ℕ) (rows : List Row) → IsRising rows → All (λ r. r.id < next n rows) rows
all_below n [] up = All-nil (λ (r : Row). r.id < n)
all_below n (r ∷ rs) up =
    let more : r.id + 1 ≤ next (r.id + 1) rs = next_grows (r.id + 1) rs up.1 (All-weaker (λ (s : Row). r.id < s.id) (λ (s : Row). r.id + 1 ≤ s.id) (λ s h. omega (arith, h)) rs up.0) in
    All-cons (λ (s : Row). s.id < next (r.id + 1) rs) r rs (omega (arith, more)) (all_below (r.id + 1) rs up.1)

pub below_next : (rows : List Row) → IsRising rows → All (λ r. r.id < next_id rows) rows
below_next rows up = all_below 0 rows up

pub all_lower : (rows : List Row) (n : ℕ) → IsRising rows → next_id rows ≤ n → All (λ r. r.id < n) rows
all_lower rows n up le = All-weaker (λ (r : Row). r.id < next_id rows) (λ (r : Row). r.id < n) (λ r h. omega (arith, h, le)) rows (below_next rows up)

rising_more : (rows : List Row) (row : Row) → IsRising rows → All (λ r. r.id < row.id) rows → IsRising (rows ++ row ∷ [])
rising_more [] row up low = (All-nil (λ (s : Row). row.id < s.id), tt)
rising_more (r ∷ rs) row up low = (
  All-push (λ (s : Row). r.id < s.id) rs row up.0 (All-head (λ (s : Row). s.id < row.id) r rs low),
  rising_more rs row up.1 (All-tail (λ (s : Row). s.id < row.id) r rs low),
)

pub rising_push : (rows : List Row) (row : Row) → IsRising rows → next_id rows ≤ row.id → IsRising (rows ++ row ∷ [])
rising_push rows row up le = rising_more rows row up (all_lower rows row.id up le)

pub next_push : (rows : List Row) (row : Row) → next_id (rows ++ row ∷ []) ≡ row.id + 1
next_push rows row = fold_push (λ (n : ℕ) (r : Row). r.id + 1) 0 rows row

module _ {X : Type 0} (P : X → Type 0) where
  pub all_middle : (xs : List X) (x : X) (ys : List X) → All P (xs ++ x ∷ ys) → P x
  all_middle [] x ys all = All-head P x ys all
  all_middle (y ∷ xs) x ys all = all_middle xs x ys (All-tail P y (xs ++ x ∷ ys) all)

module _ {X : Type 0} (P : X → Type 0) where
  All-front : (xs ys : List X) → All P (xs ++ ys) → All P xs
  All-front [] ys all = All-nil P
  All-front (x ∷ xs) ys all = All-cons P x xs (All-head P x (xs ++ ys) all) (All-front xs ys (All-tail P x (xs ++ ys) all))

next_le : (n : ℕ) (rows : List Row) (row : Row) (rest : List Row) → IsRising (rows ++ row ∷ rest) → n ≤ row.id → next n rows ≤ row.id
next_le n [] row rest up le = le
next_le n (r ∷ rs) row rest up le =
    let under : r.id < row.id = all_middle (λ (s : Row). r.id < s.id) rs row rest up.0 in
    next_le (r.id + 1) rs row rest up.1 (omega (arith, under))

pub rises_behind : (rows : List Row) (row : Row) (rest : List Row) → IsRising (rows ++ row ∷ rest) → next_id rows ≤ row.id
rises_behind rows row rest up = next_le 0 rows row rest up (omega arith)

pub put_push : (rows changes : List Row) (row : Row) → put_all rows (changes ++ row ∷ []) ≡ put (put_all rows changes) row
put_push rows changes row = fold_push put rows changes row

-- ---- the rows of a change, one after the other

next_at : (changes : List Row) (i : ℕ) (d : Row) → IsRising changes → i < length changes → next_id (take i changes) ≤ (get_or changes i d).id
next_at changes i d up lt =
    rises_behind (take i changes) (get_or changes i d) (drop (suc i) changes) (subst (λ (rs : List Row). IsRising rs) (cut_row changes i d lt) up)

pub below_at : (changes xs : List Row) (i : ℕ) (d : Row) → IsRising changes → i < length changes → All (λ r. r.id < next_id (take i changes)) xs → All (λ r. r.id < (get_or changes i d).id) xs
below_at changes xs i d up lt below =
    let le : next_id (take i changes) ≤ (get_or changes i d).id = next_at changes i d up lt in
    All-weaker (λ (r : Row). r.id < next_id (take i changes)) (λ (r : Row). r.id < (get_or changes i d).id) (λ r h. omega (arith, h, le)) xs below

rising_front_part : (front rest : List Row) → IsRising (front ++ rest) → IsRising front
rising_front_part [] rest up = tt
rising_front_part (r ∷ rs) rest up = (All-front (λ (s : Row). r.id < s.id) rs rest up.0, rising_front_part rs rest up.1)

pub differs_at : (table changes now : List Row) (i : ℕ) (d : Row) → IsRising changes → i < length changes → All (Differs table) changes → now ≡ put_all table (take i changes) → Differs now (get_or changes i d)
differs_at table changes now i d up lt all is =
    let front : IsRising (take i changes) = rising_front_part (take i changes) (get_or changes i d ∷ drop (suc i) changes) (subst (λ (rs : List Row). IsRising rs) (cut_row changes i d lt) up) in
    subst (λ (rs : List Row). Differs rs (get_or changes i d)) (sym is)
    (differs_after table (take i changes) (get_or changes i d) (all_lower (take i changes) (get_or changes i d).id front (next_at changes i d up lt)) (all i d lt))
