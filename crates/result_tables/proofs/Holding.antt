-- What entries say, one after the other.
use Rattle.std.proofs.Common.{◌≡◌, ◌∙◌, ℕ, zero, suc, ◌+◌, ◌<◌, ◌≤◌, ◌==◌, Bool, true, false, not, cond, nat_lt, List, [], ◌∷◌, ◌++◌, length, map, get_or, slice_get, set, Option, Some, None, All, find, position, refl, sym, ap, subst, arith, length-append, length-set, ltb-true, ltb-false, append_assoc, append-nil, is_some, Vec, Global, ◌⊎◌, inl, inr, true≢false, option_map, take, drop, drop_of_length-le, take_all}
use Rattle.std.specs.List.{prefix_len, position_or_len}
use Rattle.std.proofs.lemmas.List.{map-append, length-map}
use Rattle.std.proofs.lemmas.List.FromFn.{length-range_with_len}
use Rattle.std.proofs.lemmas.List.Elements.{All-append, All-cons, All-nil}
use Rattle.std.proofs.Math.ListN.{get_or-append}
use Rattle.std.proofs.Math.Seq.{get_or-append_seam}
use Rattle.std.proofs.Math.Nat.{eq-or-lt_of_le}
use Rattle.std.proofs.lemmas.List.Folds.{find_at}
use Rattle.std.proofs.lemmas.Option.{slice_get-get_or, slice_get_past}
use Rattle.graph_model.specs.declared.number.NodeNo.{NodeNo}
use Rattle.graph_model.specs.declared.number.ViewNo.{ViewNo}
use Rattle.graph_model.specs.declared.value.Val.{Val}
use Rattle.vertex_lang.specs.declared.lone.Outcome.{Outcome}
use Rattle.vertex_lang.specs.declared.lone.Outcome.TheVariants.{Settled, After, Phases, Unsettled}
use Rattle.result_tables.specs.declared.entries.Difference.{Difference}
use Rattle.result_tables.specs.declared.entries.Entry.{Entry}
use Rattle.result_tables.specs.declared.entries.Kept.{Kept}
use Rattle.result_tables.specs.declared.entries.Kept.TheVariants.{Full, Over}
use Rattle.result_tables.specs.declared.entries.Entries.{Entries}
use Rattle.result_tables.specs.declared.table.Table.{Table}
use Rattle.result_tables.specs.Results.{Held, ResultsData, IsChange, values_after, with_answer, HasValues, IsHeld, assigned, values_of, held_on, shown, table_held, table_on}
use Rattle.result_tables.specs.ResultsInside.{values_kept, answer_of, held_behind, held_of, values_at, table_at, data_of, IsKept, AreEntries, Keeps}

-- ---- lists

module _ {X : Type 0} where
  get_front : (xs ys : List X) (i : ℕ) → i < length xs → slice_get (xs ++ ys) i ≡ slice_get xs i
  get_front [] ys i low = absurd (omega arith)
  get_front (x ∷ xs) ys zero low = refl
  get_front (x ∷ xs) ys (suc i) low = get_front xs ys i (omega arith)

  get_seam : (xs : List X) (y : X) (ys : List X) → slice_get (xs ++ y ∷ ys) (length xs) ≡ Some y
  get_seam [] y ys = refl
  get_seam (x ∷ xs) y ys = get_seam xs y ys

  front_map : {Y : Type 0} (p : Y → Bool) (f : X → Y) (xs : List X) → prefix_len p (map f xs) ≡ prefix_len (λ x. p (f x)) xs
  front_map p f [] = refl
  front_map p f (x ∷ xs) = ap (λ (n : ℕ). cond (p (f x)) (1 + n) 0) (front_map p f xs)

pub size_assigned : (values : List Val) (change : List (NodeNo × Val)) → length (assigned values change) ≡ length values
size_assigned values [] = refl
size_assigned values (c ∷ cs) = size_assigned (set values c.0.0 c.1) cs ∙ length-set values c.0.0 c.1

pub within : (n : ℕ) (values : List Val) (change same : List (NodeNo × Val)) → length values ≡ n → same ≡ change → All (λ c. c.0.0 < n) change → All (λ c. c.0.0 < length values) same
within n values change same size is all = rw (is, size) all

-- a slice of all items was written
pub written : (n : ℕ) (new items : List Val) → n ≡ length items → length new ≡ length items → take n (new ++ drop (length new) items) ≡ new
written n new items count size =
    let none : drop (length new) items ≡ [] = drop_of_length-le items (omega (arith, size)) in
    let all : take n (new ++ []) ≡ new = ap (take n) (append-nil new) ∙ take_all n new (omega (arith, count, size)) in
    ap (λ (rest : List Val). take n (new ++ rest)) none ∙ all

-- ---- the answers of entries

abbrev record_of : ℕ → List Held → ResultsData
record_of n held = record { nodes = n; held = held }

-- with the answer of one more entry
longer : List Held → Entry → List Held
longer held e = held ++ answer_of held e ∷ []

one_longer : (held : List Held) (e : Entry) → length (held ++ answer_of held e ∷ []) ≡ length held + 1
one_longer held e = length-append held (answer_of held e ∷ [])

pub one_more : (held : List Held) (es : List Entry) (e : Entry) → held_behind held (es ++ e ∷ []) ≡ held_behind held es ++ answer_of (held_behind held es) e ∷ []
one_more held [] e = refl
one_more held (x ∷ es) e = one_more (held ++ answer_of held x ∷ []) es e

count : (held : List Held) (es : List Entry) → length (held_behind held es) ≡ length held + length es
count held [] = omega arith
count held (e ∷ es) = omega (arith, count (held ++ answer_of held e ∷ []) es, one_longer held e)

front : (held : List Held) (es : List Entry) (i : ℕ) → i < length held → slice_get (held_behind held es) i ≡ slice_get held i
front held [] i low = refl
front held (e ∷ es) i low = front (held ++ answer_of held e ∷ []) es i (omega (arith, one_longer held e)) ∙ get_front held (answer_of held e ∷ []) i low

-- values that are kept depend on earlier answers alone
same_kept : (a b : List Held) (n p : ℕ) (kept : Kept) → IsKept n p kept → ((i : ℕ) → i < p → slice_get a i ≡ slice_get b i) → values_kept a kept ≡ values_kept b kept
same_kept a b n p (Full values) is same = refl
same_kept a b n p (Over d) is same = ap (λ (o : Option Held). assigned (values_of o) d.change) (same d.base is.0)

answer_at : (held : List Held) (es : List Entry) (n k : ℕ) (d : Entry) → ((j : ℕ) → j < length es → IsKept n (length held + j) (get_or es j d).kept) → k < length es
    → slice_get (held_behind held es) (length held + k) ≡ Some (answer_of (held_behind held es) (get_or es k d))
answer_at held [] n k d kept low = absurd (omega arith)
answer_at held (e ∷ es) n zero d kept low =
    let next : List Held = held ++ answer_of held e ∷ [] in
    let all : List Held = held_behind (held ++ answer_of held e ∷ []) es in
    let here : slice_get (held_behind (held ++ answer_of held e ∷ []) es) (length held) ≡ Some (answer_of held e) =
    front (held ++ answer_of held e ∷ []) es (length held) (omega (arith, one_longer held e)) ∙ get_seam held (answer_of held e) [] in
    let same : values_kept held e.kept ≡ values_kept (held_behind (held ++ answer_of held e ∷ []) es) e.kept =
    same_kept held (held_behind (held ++ answer_of held e ∷ []) es) n (length held + 0) e.kept (kept 0 (omega arith))
    (λ i lt. sym (front (held ++ answer_of held e ∷ []) es i (omega (arith, one_longer held e, lt)) ∙ get_front held (answer_of held e ∷ []) i (omega (arith, lt)))) in
    let place : length held + 0 ≡ length held = omega arith in
    ap (slice_get (held_behind (held ++ answer_of held e ∷ []) es)) place ∙ here ∙ ap (λ (vs : List Val). Some (record { view = e.view; outcome = e.outcome; values = vs })) same
answer_at held (e ∷ es) n (suc k) d kept low =
    let next : List Held = held ++ answer_of held e ∷ [] in
    let place : length held + suc k ≡ length (held ++ answer_of held e ∷ []) + k = omega (arith, one_longer held e) in
    ap (slice_get (held_behind (held ++ answer_of held e ∷ []) es)) place
    ∙ answer_at (held ++ answer_of held e ∷ []) es n k d
    (λ j lt. subst (λ (p : ℕ). IsKept n p (get_or es j d).kept) (let there : length held + suc j ≡ length (held ++ answer_of held e ∷ []) + j = omega (arith, one_longer held e) in there) (kept (suc j) (omega (arith, lt))))
    (omega (arith, low))

-- ---- an entry among entries

pub its_answer : (es : Entries) (place : ℕ) (d : Entry) → AreEntries es → place < length es.list.items
    → slice_get (held_of es.list.items) place ≡ Some (answer_of (held_of es.list.items) (get_or es.list.items place d))
its_answer es place d are low =
    let zero_first : place ≡ 0 + place = omega arith in
    ap (slice_get (held_of es.list.items)) zero_first
    ∙ answer_at [] es.list.items es.nodes place d
    (λ j lt. subst (λ (p : ℕ). IsKept es.nodes p (get_or es.list.items j d).kept) (let there : j ≡ 0 + j = omega arith in there) (are.kept j d lt)) low

pub its_values : (es : Entries) (place : ℕ) (d : Entry) → AreEntries es → place < length es.list.items
    → values_at es.list.items place ≡ values_kept (held_of es.list.items) (get_or es.list.items place d).kept
its_values es place d are low = ap values_of (its_answer es place d are low)

no_answer : Held
no_answer = record { view = record { 0 = 0 }; outcome = Unsettled; values = [] }

pub its_size : (es : Entries) (place : ℕ) → AreEntries es → place < length es.list.items → length (values_at es.list.items place) ≡ es.nodes
its_size es place are low =
    let there : place < length (held_of es.list.items) = omega (arith, low, count [] es.list.items) in
    let it : slice_get (held_of es.list.items) place ≡ Some (get_or (held_of es.list.items) place no_answer) = slice_get-get_or (held_of es.list.items) place no_answer there in
    ap (λ (o : Option Held). length (values_of o)) it ∙ are.sizes place no_answer there

pub its_difference : (es : Entries) (place : ℕ) (e : Entry) (d : Difference) → AreEntries es → place < length es.list.items → e ≡ get_or es.list.items place e → e.kept ≡ Over d
    → (d.base < place) × All (λ c. c.0.0 < es.nodes) d.change
its_difference es place e d are low is over =
    let kept : IsKept es.nodes place (get_or es.list.items place e).kept = are.kept place e low in
    subst (λ (k : Kept). IsKept es.nodes place k) (ap (λ (x : Entry). x.kept) (sym is) ∙ over) kept

pub full_values : (es : Entries) (place : ℕ) (e : Entry) (values : List Val) → AreEntries es → place < length es.list.items → e ≡ get_or es.list.items place e → e.kept ≡ Full values
    → values_at es.list.items place ≡ values
full_values es place e values are low is full =
    its_values es place e are low ∙ ap (values_kept (held_of es.list.items)) (ap (λ (x : Entry). x.kept) (sym is) ∙ full)

pub over_values : (es : Entries) (place : ℕ) (e : Entry) (d : Difference) → AreEntries es → place < length es.list.items → e ≡ get_or es.list.items place e → e.kept ≡ Over d
    → values_at es.list.items place ≡ assigned (values_at es.list.items d.base) d.change
over_values es place e d are low is over =
    its_values es place e are low ∙ ap (values_kept (held_of es.list.items)) (ap (λ (x : Entry). x.kept) (sym is) ∙ over)

-- ---- the place of a view

views : (held : List Held) (es : List Entry) → map (λ (h : Held). h.view) (held_behind held es) ≡ map (λ (h : Held). h.view) held ++ map (λ (e : Entry). e.view) es
views held [] = sym (append-nil (map (λ (h : Held). h.view) held))
views held (e ∷ es) =
    views (held ++ answer_of held e ∷ []) es
    ∙ ap (λ (vs : List ViewNo). vs ++ map (λ (x : Entry). x.view) es) (map-append (λ (h : Held). h.view) held (answer_of held e ∷ []))
    ∙ append_assoc (map (λ (h : Held). h.view) held) (e.view ∷ []) (map (λ (x : Entry). x.view) es)

same_place : (es : List Entry) (view : ViewNo) → position_or_len (λ (h : Held). h.view.0 == view.0) (held_of es) ≡ position_or_len (λ (e : Entry). e.view.0 == view.0) es
same_place es view =
    sym (front_map (λ (v : ViewNo). not (v.0 == view.0)) (λ (h : Held). h.view) (held_of es))
    ∙ ap (prefix_len (λ (v : ViewNo). not (v.0 == view.0))) (views [] es)
    ∙ front_map (λ (v : ViewNo). not (v.0 == view.0)) (λ (e : Entry). e.view) es

at_place : (es : List Entry) (view : ViewNo) → find (λ (h : Held). h.view.0 == view.0) (held_of es) ≡ slice_get (held_of es) (position_or_len (λ (e : Entry). e.view.0 == view.0) es)
at_place es view = find_at (λ (h : Held). h.view.0 == view.0) (held_of es) ∙ ap (slice_get (held_of es)) (same_place es view)

some_place : (b : Bool) (n place : ℕ) → cond b (Some n) None ≡ Some place → (b ≡ true) × (n ≡ place)
some_place true n place e = (refl, cc)
some_place false n place e = absurd cc

no_place : (b : Bool) (n : ℕ) → cond b (Some n) None ≡ None → b ≡ false
no_place true n e = absurd cc
no_place false n e = refl

pub found : (es : Entries) (view : ViewNo) (place : ℕ) → position (λ e. e.view.0 == view.0) es.list.items ≡ Some place
    → (place < length es.list.items) × (held_on (data_of es) view ≡ slice_get (held_of es.list.items) place)
found es view place is =
    let n = position_or_len (λ (e : Entry). e.view.0 == view.0) es.list.items in
    let told : (nat_lt n (length es.list.items) ≡ true) × (n ≡ place) = some_place (nat_lt n (length es.list.items)) n place is in
    let low : n < length es.list.items = ltb-true n (length es.list.items) told.0 in
    (omega (arith, low, told.1), at_place es.list.items view ∙ ap (slice_get (held_of es.list.items)) told.1)

pub not_found : (es : Entries) (view : ViewNo) → position (λ e. e.view.0 == view.0) es.list.items ≡ None → held_on (data_of es) view ≡ None
not_found es view is =
    let n = position_or_len (λ (e : Entry). e.view.0 == view.0) es.list.items in
    let past : length es.list.items ≤ n = ltb-false n (length es.list.items) (no_place (nat_lt n (length es.list.items)) n is) in
    at_place es.list.items view ∙ slice_get_past (held_of es.list.items) n (omega (arith, past, count [] es.list.items))

pub whether_found : (es : Entries) (view : ViewNo) (o : Option ℕ) → o ≡ position (λ e. e.view.0 == view.0) es.list.items → is_some o ≡ is_some (held_on (data_of es) view)
whether_found es view None is = sym (ap is_some (not_found es view (sym is)))
whether_found es view (Some place) is =
    let it = found es view place (sym is) in
    let there : place < length (held_of es.list.items) = omega (arith, it.0, count [] es.list.items) in
    sym (ap is_some (it.1 ∙ slice_get-get_or (held_of es.list.items) place no_answer there))

pub is_there : (es : Entries) (view : ViewNo) (o : Option ℕ) → o ≡ position (λ e. e.view.0 == view.0) es.list.items → o ≡ None → IsHeld (data_of es) view → ⊥
is_there es view o is none held = true≢false (sym held ∙ sym (whether_found es view o is) ∙ ap is_some none)

-- ---- its table

pub its_table : (es : Entries) (place : ℕ) (e : Entry) (values : List Val) → AreEntries es → place < length es.list.items → e ≡ get_or es.list.items place e
    → values ≡ shown e.outcome (values_at es.list.items place) → table_at es.list.items place ≡ Some (record { outcome = e.outcome; values = values })
its_table es place e values are low is shows =
    let it : slice_get (held_of es.list.items) place ≡ Some (answer_of (held_of es.list.items) e) =
    its_answer es place e are low ∙ ap (λ (x : Entry). Some (answer_of (held_of es.list.items) x)) (sym is) in
    let same : values_at es.list.items place ≡ values_kept (held_of es.list.items) e.kept = ap values_of it in
    ap (option_map table_held) it
    ∙ ap (λ (vs : List Val). let t : Table = record { outcome = e.outcome; values = vs } in Some t) (sym (shows ∙ ap (shown e.outcome) same))

pub size_shown : (n : ℕ) (o : Outcome) (values : List Val) → length values ≡ n → HasValues n o (shown o values)
size_shown n (Settled r) values size = size
size_shown n (After r) values size = size
size_shown n (Phases r) values size = size
size_shown n Unsettled values size = tt

pub table_found : (es : Entries) (view : ViewNo) (place : ℕ) → position (λ e. e.view.0 == view.0) es.list.items ≡ Some place → table_on (data_of es) view ≡ table_at es.list.items place
table_found es view place is = ap (option_map table_held) (found es view place is).1

-- ---- how values are kept

pub keeps_over : (es : Entries) (base since : ℕ) (change same : List (NodeNo × Val)) → AreEntries es → base < length es.list.items → All (λ c. c.0.0 < es.nodes) change → same ≡ change
    → Keeps es (assigned (values_at es.list.items base) change) (Over (record { base = base; since = since; change = same }))
keeps_over es base since change same are low all is = record {
  is = ap (assigned (values_at es.list.items base)) is;
  at = (low, rw is all);
  size = size_assigned (values_at es.list.items base) change ∙ its_size es base are low;
}

pub keeps_full : (es : Entries) (values full : List Val) → full ≡ values → length values ≡ es.nodes → Keeps es values (Full full)
keeps_full es values full is size = record { is = is; at = ap length is ∙ size; size = size }

pub keeps_first : (es : Entries) (before : Option ViewNo) (change : List (NodeNo × Val)) (full : List Val) → before ≡ None → IsChange (data_of es) before change → full ≡ map (λ c. c.1) change
    → Keeps es (values_after (data_of es) before change) (Full full)
keeps_first es (Some last) change full none all is = absurd cc
keeps_first es None change full none all is =
    keeps_full es (map (λ (c : NodeNo × Val). c.1) change) full is
    (length-map change (λ (c : NodeNo × Val). c.1) ∙ sym (length-map change (λ (c : NodeNo × Val). c.0.0)) ∙ ap length all ∙ length-range_with_len 0 es.nodes)

-- ---- one more entry

-- each entry is kept so, and so is one more
kept_more : (n : ℕ) (es : List Entry) (e : Entry) → ((k : ℕ) (d : Entry) → k < length es → IsKept n k (get_or es k d).kept) → IsKept n (length es) e.kept
    → (k : ℕ) (d : Entry) → (k ≡ length es) ⊎ (k < length es) → IsKept n k (get_or (es ++ e ∷ []) k d).kept
kept_more n es e kept last k d (inr low) = subst (λ (x : Entry). IsKept n k x.kept) (sym (get_or-append es (e ∷ []) d k low)) (kept k d low)
kept_more n es e kept last k d (inl at) =
    rw at (subst (λ (x : Entry). IsKept n (length es) x.kept) (sym (get_or-append_seam es e [] d)) last)

pub more_entries : (es : Entries) (e : Entry) (values : List Val) (list : Vec Entry Global) → AreEntries es → Keeps es values e.kept → list.items ≡ es.list.items ++ e ∷ []
    → AreEntries (record { nodes = es.nodes; list = list })
more_entries es e values list are keeps is =
    let n = es.nodes in
    let last : length (values_kept (held_of es.list.items) e.kept) ≡ n = ap length keeps.is ∙ keeps.size in
    let all : All (λ (h : Held). length h.values ≡ n) (held_of es.list.items ++ answer_of (held_of es.list.items) e ∷ []) =
    All-append (λ (h : Held). length h.values ≡ n) (held_of es.list.items) (answer_of (held_of es.list.items) e ∷ []) are.sizes
    (All-cons (λ (h : Held). length h.values ≡ n) (answer_of (held_of es.list.items) e) [] last (All-nil (λ (h : Held). length h.values ≡ n))) in
    record {
      few = are.few;
      kept = λ k d low. rw is (kept_more n es.list.items e are.kept keeps.at k d (eq-or-lt_of_le (omega (arith, low, ap length is, length-append es.list.items (e ∷ [])))));
      sizes = rw (is, one_more [] es.list.items e) all;
    }

pub more_answers : (es : Entries) (e : Entry) (values : List Val) → Keeps es values e.kept
    → held_of (es.list.items ++ e ∷ []) ≡ held_of es.list.items ++ record { view = e.view; outcome = e.outcome; values = values } ∷ []
more_answers es e values keeps =
    one_more [] es.list.items e
    ∙ ap (λ (vs : List Val). held_of es.list.items ++ record { view = e.view; outcome = e.outcome; values = vs } ∷ []) keeps.is

pub added : (es : Entries) (e : Entry) (before : Option ViewNo) (change : List (NodeNo × Val)) (items : List Entry) → Keeps es (values_after (data_of es) before change) e.kept
    → items ≡ es.list.items ++ e ∷ [] → record_of es.nodes (held_of items) ≡ with_answer (data_of es) e.view before e.outcome change
added es e before change items keeps is =
    ap (λ (xs : List Entry). record_of es.nodes (held_of xs)) is ∙ ap (record_of es.nodes) (more_answers es e (values_after (data_of es) before change) keeps)
