-- The edges of views, one view after the other, as groups see them.
use Rattle.std.proofs.Common.{◌≡◌, inl, inr, ◌∙◌, ◌+◌, ◌<◌, ◌≤◌, ℕ, zero, suc, Bool, true, false, cond, List, [], ◌∷◌, ◌++◌, length, map, take, filter, flat_map, get_or, All, Option, Some, None, slice_get, refl, sym, ap, ap₂, subst, arith, replicate, append_assoc, codes}
use Rattle.std.specs.Prelude.{not, if◌then◌else◌, IsPermutation}
use Rattle.std.specs.List.{range_with_len}
use Rattle.std.proofs.Math.ListN.{set, length-set}
use Rattle.std.proofs.lemmas.Bool.Decides.{eqb_tells}
use Rattle.std.proofs.lemmas.List.{get_or-set_same, get_or-set_other, take_all, take_more}
use Rattle.std.proofs.lemmas.List.Elements.{All-append}
use Rattle.std.proofs.lemmas.List.Sorted.{IsPermutation-sym, All-permutation}
use Rattle.std.proofs.lemmas.List.FromFn.{length-map-range_with_len, get_or-map-range_with_len}
use Rattle.std.proofs.lemmas.Option.{slice_get_within}
use Rattle.graph_model.specs.declared.number.EdgeNo.{EdgeNo}
use Rattle.graph_model.specs.declared.number.ViewNo.{ViewNo}
use Rattle.graph_model.specs.GraphData.{GraphData}
use Rattle.edge_predicates.specs.ViewEdges.{edge}
use Rattle.gvdl_check.specs.declared.plan.ViewPlan.{ViewPlan}
use Rattle.view_matrix.specs.Matrices.{MatrixData, bit_of, column_bit, differ, differences_of, edges_in}
use Rattle.view_order.specs.Places.{view}
use Rattle.aggregate_views.specs.declared.cell.GroupRow.{GroupRow}
use Rattle.aggregate_views.specs.Inside.{GroupsData}
use Rattle.aggregate_views.specs.Rows.{present_from, present_edges, rows_of}
use Rattle.result_tables.specs.TableText.{line_end}
use Rattle.aggregate_views.specs.Changes.{turned, changed, AreChanges}
use Rattle.surge_session.specs.Live.{LiveGraph, live_edges}
use Rattle.surge_session.specs.Aggregates.{aggregate_text, column_name, grouped_text, row_line, rows_text, sum_name}
use Rattle.surge_session.specs.Output.{list_of}
use Rattle.surge_session.specs.Grouping.{AreGroupsOf, bits_of, held_rows}
use Rattle.surge_session.specs.State.{shown_graph}
use Rattle.surge_session.proofs.Turning.{same_bits}

-- ---- the numbers of the edges of a view

kept_numbers : (f : ℕ → Bool) (n count : ℕ) → present_from n (map f (range_with_len n count)) ≡ map (λ (e : EdgeNo). e.0) (filter (λ (e : EdgeNo). f e.0) (map edge (range_with_len n count)))
kept_numbers f n zero = refl
kept_numbers f n (suc count) = by (f n) (kept_numbers f (n + 1) count) where
  by : (b : Bool) → present_from (n + 1) (map f (range_with_len (n + 1) count)) ≡ map (λ (e : EdgeNo). e.0) (filter (λ (e : EdgeNo). f e.0) (map edge (range_with_len (n + 1) count)))
      → (if b then n ∷ present_from (n + 1) (map f (range_with_len (n + 1) count)) else present_from (n + 1) (map f (range_with_len (n + 1) count)))
      ≡ map (λ (e : EdgeNo). e.0) (cond b (edge n ∷ filter (λ (e : EdgeNo). f e.0) (map edge (range_with_len (n + 1) count))) (filter (λ (e : EdgeNo). f e.0) (map edge (range_with_len (n + 1) count))))
  by true rest = ap (λ (ns : List ℕ). n ∷ ns) rest
  by false rest = rest

pub present_in : (m : MatrixData) (v : ℕ) → present_edges (bits_of m (Some v)) ≡ map (λ (e : EdgeNo). e.0) (edges_in m v)
present_in m v = kept_numbers (λ (e : ℕ). bit_of m e v) 0 (length m.live)

-- ---- no view

none_bits : (n count : ℕ) → map (λ (e : ℕ). false) (range_with_len n count) ≡ replicate count false
none_bits n zero = refl
none_bits n (suc count) = ap (λ (bs : List Bool). false ∷ bs) (none_bits (n + 1) count)

pub nothing_present : (m : MatrixData) (count : ℕ) → length m.live ≡ count → replicate count false ≡ bits_of m None
nothing_present m count same = ap (λ (k : ℕ). replicate k false) (sym same) ∙ sym (none_bits 0 (length m.live))

-- ---- from a view to another

differ_turns : (a b : Bool) → differ a b ≡ true → a ≡ not b
differ_turns true true e = absurd cc
differ_turns true false e = refl
differ_turns false true e = refl
differ_turns false false e = absurd cc

differ_none : (a b : Bool) → differ a b ≡ false → a ≡ b
differ_none true true e = refl
differ_none true false e = absurd cc
differ_none false true e = absurd cc
differ_none false false e = refl

module _ (f k : ℕ → Bool) where
  -- the changes of so many edges from this one on
  abbrev changes : ℕ → ℕ → List (EdgeNo × Bool)
  changes n count = map (λ (e : EdgeNo). (e, k e.0)) (filter (λ (e : EdgeNo). differ (f e.0) (k e.0)) (map edge (range_with_len n count)))

  -- each edge from there on is present as in the view before
  abbrev Agrees : List Bool → ℕ → ℕ → Type 0
  Agrees present n count = (e : ℕ) → n ≤ e → e < n + count → (e < length present) × (get_or present e false ≡ f e)

  any_bit : (xs : List Bool) (i : ℕ) (d e : Bool) → i < length xs → get_or xs i d ≡ get_or xs i e
  any_bit [] i d e lt = absurd (omega (arith, lt))
  any_bit (x ∷ xs) zero d e lt = refl
  any_bit (x ∷ xs) (suc i) d e lt = any_bit xs i d e (omega (arith, lt))

  next_agrees : (present : List Bool) (n count : ℕ) (b : Bool) → Agrees present n (suc count) → Agrees (set present n b) (n + 1) count
  next_agrees present n count b is e low high =
      let there = is e (omega (arith, low)) (omega (arith, high)) in
      (omega (arith, there.0, length-set present n b), get_or-set_other present n e b false (λ same. absurd (omega (arith, same, low))) ∙ there.1)

  rest_agrees : (present : List Bool) (n count : ℕ) → Agrees present n (suc count) → Agrees present (n + 1) count
  rest_agrees present n count is e low high = is e (omega (arith, low)) (omega (arith, high))

  -- what the changes give
  record Given (present : List Bool) (n count : ℕ) (cs : List (EdgeNo × Bool)) : Type 0 where
    are : AreChanges present cs
    size : length (changed present cs) ≡ length present
    low : (e : ℕ) → e < n → get_or (changed present cs) e false ≡ get_or present e false
    within : (e : ℕ) → n ≤ e → e < n + count → get_or (changed present cs) e false ≡ k e

  given : (present : List Bool) (n count : ℕ) → Agrees present n count → Given present n count (changes n count)
  given present n zero is = record { are = tt; size = refl; low = λ e lt. refl; within = λ e le lt. absurd (omega (arith, le, lt)) }
  given present n (suc count) is = by (λ xs agree. given xs (n + 1) count agree) (differ (f n) (k n)) refl where
    here : (n < length present) × (get_or present n false ≡ f n)
    here = is n (omega arith) (omega arith)

    by : ((xs : List Bool) → Agrees xs (n + 1) count → Given xs (n + 1) count (changes (n + 1) count)) → (b : Bool) → differ (f n) (k n) ≡ b → Given present n (suc count) (map (λ (e : EdgeNo). (e, k e.0)) (cond b (edge n ∷ filter (λ (e : EdgeNo). differ (f e.0) (k e.0)) (map edge (range_with_len (n + 1) count))) (filter (λ (e : EdgeNo). differ (f e.0) (k e.0)) (map edge (range_with_len (n + 1) count)))))
    by later true e =
        let next = set present n (k n) in
        let behind : Given next (n + 1) count (changes (n + 1) count) = later next (next_agrees present n count (k n) is) in
        let turns : get_or present n (k n) ≡ not (k n) = any_bit present n (k n) false here.0 ∙ here.1 ∙ differ_turns (f n) (k n) e in
        record {
          are = (here.0, turns, behind.are);
          size = behind.size ∙ length-set present n (k n);
          low = λ x lt. behind.low x (omega (arith, lt)) ∙ get_or-set_other present n x (k n) false (λ same. absurd (omega (arith, same, lt)));
          within = λ x low high. elim (eqb_tells n x) [
            | inl h ↦ subst (λ (y : ℕ). get_or (changed next (changes (n + 1) count)) y false ≡ k y) h.1 (behind.low n (omega arith) ∙ get_or-set_same present n (k n) false here.0)
            | inr h ↦ behind.within x (omega (arith, low, h.1)) (omega (arith, high))
          ];
        }
    by later false e =
        let behind : Given present (n + 1) count (changes (n + 1) count) = later present (rest_agrees present n count is) in
        record {
          are = behind.are;
          size = behind.size;
          low = λ x lt. behind.low x (omega (arith, lt));
          within = λ x low high. elim (eqb_tells n x) [
            | inl h ↦ subst (λ (y : ℕ). get_or (changed present (changes (n + 1) count)) y false ≡ k y) h.1 (behind.low n (omega arith) ∙ here.1 ∙ differ_none (f n) (k n) e)
            | inr h ↦ behind.within x (omega (arith, low, h.1)) (omega (arith, high))
          ];
        }

module _ (m : MatrixData) (before : Option ℕ) (v : ℕ) where
  abbrev f : ℕ → Bool
  f = column_bit m before

  abbrev k : ℕ → Bool
  k e = bit_of m e v

  bits_agree : Agrees f k (bits_of m before) 0 (length m.live)
  bits_agree e low high = (omega (arith, high, length-map-range_with_len f 0 (length m.live)), get_or-map-range_with_len f 0 (length m.live) e e false (omega (arith, high)) (omega arith))

  both : Given f k (bits_of m before) 0 (length m.live) (differences_of m before v)
  both = given f k (bits_of m before) 0 (length m.live) bits_agree

  pub are_changes : AreChanges (bits_of m before) (differences_of m before v)
  are_changes = both.are

  pub changed_is : changed (bits_of m before) (differences_of m before v) ≡ bits_of m (Some v)
  changed_is =
      let many : length (changed (bits_of m before) (differences_of m before v)) ≡ length m.live = both.size ∙ length-map-range_with_len f 0 (length m.live) in
      same_bits (changed (bits_of m before) (differences_of m before v)) (bits_of m (Some v)) (many ∙ sym (length-map-range_with_len k 0 (length m.live)))
      (λ e lt. both.within e (omega arith) (omega (arith, lt, many)) ∙ sym (get_or-map-range_with_len k 0 (length m.live) e e false (omega (arith, lt, many)) (omega arith)))

-- ---- the texts of the views, by their numbers

abbrev text_at : (ViewPlan → List ℕ) → List ViewPlan → ℕ → List ℕ
text_at text views v = list_of text (slice_get views v)

-- the text of this view is there
abbrev pub IsThere : (ViewPlan → List ℕ) → List ViewPlan → List (List ℕ) → ViewNo → Type 0
IsThere text views texts v = get_or texts v.0 [] ≡ text_at text views v.0

one : {X : Type 0} (P : X → Type 0) (x : X) → P x → All P (x ∷ [])
one P x h zero d lt = h
one P x h (suc i) d lt = absurd (omega (arith, lt))

module _ (text : ViewPlan → List ℕ) (views : List ViewPlan) where
  -- one text more is there
  pub there_more : (texts : List (List ℕ)) (v : ViewNo) (item : ViewPlan) (new : List ℕ) → length texts ≡ length views → slice_get views v.0 ≡ Some item → new ≡ text item → (u : ViewNo) → IsThere text views texts u → IsThere text views (set texts v.0 new) u
  there_more texts v item new count at is u there = elim (eqb_tells v.0 u.0) [
    | inl h ↦ subst (λ (x : ℕ). get_or (set texts v.0 new) x [] ≡ text_at text views x) h.1 (get_or-set_same texts v.0 new [] (omega (arith, count, slice_get_within views v.0 item at)) ∙ is ∙ sym (ap (list_of text) at))
    | inr h ↦ get_or-set_other texts v.0 u.0 new [] (λ same. h.1 (sym same)) ∙ there
  ]

  pub there_now : (texts : List (List ℕ)) (v : ViewNo) (item : ViewPlan) (new : List ℕ) → length texts ≡ length views → slice_get views v.0 ≡ Some item → new ≡ text item → IsThere text views (set texts v.0 new) v
  there_now texts v item new count at is = get_or-set_same texts v.0 new [] (omega (arith, count, slice_get_within views v.0 item at)) ∙ is ∙ sym (ap (list_of text) at)

  -- the texts of the views whose turn has come, with that of the next one
  pub there_next : (texts : List (List ℕ)) (order : List ViewNo) (i : ℕ) (d : ViewNo) (item : ViewPlan) (new : List ℕ) → length texts ≡ length views → i < length order → slice_get views (get_or order i d).0 ≡ Some item → new ≡ text item
      → All (IsThere text views texts) (take i order) → All (IsThere text views (set texts (get_or order i d).0 new)) (take (i + 1) order)
  there_next texts order i d item new count lt at is so_far =
      let v : ViewNo = get_or order i d in
      let after : List (List ℕ) = set texts v.0 new in
      subst (λ (vs : List ViewNo). All (IsThere text views after) vs) (sym (take_more order i d lt))
      (All-append (IsThere text views after) (take i order) (v ∷ [])
      (λ k e below. there_more texts v item new count at is (get_or (take i order) k e) (so_far k e below))
      (one (IsThere text views after) v (there_now texts v item new count at is)))

all_texts : (text : ViewPlan → List ℕ) (views : List ViewPlan) (texts : List (List ℕ)) → length texts ≡ length views → ((v : ℕ) → v < length views → get_or texts v [] ≡ text_at text views v) → texts ≡ map text views
all_texts text [] [] count each = refl
all_texts text [] (t ∷ ts) count each = absurd (omega (arith, count))
all_texts text (v ∷ vs) [] count each = absurd (omega (arith, count))
all_texts text (v ∷ vs) (t ∷ ts) count each =
    ap₂ (λ (x : List ℕ) (xs : List (List ℕ)). x ∷ xs) (each 0 (omega arith)) (all_texts text vs ts (omega (arith, count)) (λ i lt. each (suc i) (omega (arith, lt))))

-- each view of the declared order has its text
pub all_there : (text : ViewPlan → List ℕ) (views : List ViewPlan) (texts : List (List ℕ)) (declared : List ViewNo) → length texts ≡ length views → declared ≡ map view (range_with_len 0 (length views)) → All (IsThere text views texts) declared → texts ≡ map text views
all_there text views texts declared count is all =
    all_texts text views texts count
    (λ v lt.
    let size : length declared ≡ length views = ap (λ (vs : List ViewNo). length vs) is ∙ length-map-range_with_len view 0 (length views) in
    let here : get_or declared v (view 0) ≡ view v = ap (λ (vs : List ViewNo). get_or vs v (view 0)) is ∙ get_or-map-range_with_len view 0 (length views) v v (view 0) lt (omega arith) in
    subst (λ (x : ViewNo). IsThere text views texts x) here (all v (view 0) (omega (arith, lt, size))))

-- each view has had its turn
pub all_turned : (text : ViewPlan → List ℕ) (views : List ViewPlan) (texts : List (List ℕ)) (declared order : List ViewNo) (i : ℕ) → length texts ≡ length views → declared ≡ map view (range_with_len 0 (length views)) → IsPermutation declared order
    → length order ≤ i → All (IsThere text views texts) (take i order) → texts ≡ map text views
all_turned text views texts declared order i count is each past there =
    let turned : All (IsThere text views texts) order = subst (λ (vs : List ViewNo). All (IsThere text views texts) vs) (take_all i order past) there in
    all_there text views texts declared count is (All-permutation (IsThere text views texts) order declared (IsPermutation-sym declared order each) turned)

pub flat_texts : (text : ViewPlan → List ℕ) (views : List ViewPlan) → flat_map (λ (t : List ℕ). t) (map text views) ≡ flat_map text views
flat_texts text [] = refl
flat_texts text (v ∷ vs) = ap (λ (t : List ℕ). text v ++ t) (flat_texts text vs)

-- ---- the text of a view

glue : (a c d v b n s l r : List ℕ) → a ++ (c ++ (d ++ (v ++ ((b ++ (n ++ (s ++ l))) ++ r)))) ≡ (a ++ (c ++ (d ++ (v ++ (b ++ (n ++ s)))))) ++ (l ++ r)
glue a c d v b n s l r = simp append_assoc refl

grouped_view_is : (w : LiveGraph) (by : ℕ) (sum : Option ℕ) (collection : List ℕ) (view : ViewPlan)
    → rows_text sum collection view.name (grouped_text w.graph by sum) (rows_of w.graph by sum (map (λ (e : EdgeNo). e.0) (live_edges w view.rule))) ≡ aggregate_text w by sum collection view
grouped_view_is w by sum collection view =
    glue (codes "aggregate ") collection (codes ".") view.name (codes " by ") (column_name (slice_get w.graph.node_columns by)) (sum_name w.graph sum) line_end
    (flat_map (row_line sum) (rows_of w.graph by sum (map (λ (e : EdgeNo). e.0) (live_edges w view.rule))) ++ (codes "end" ++ line_end))

module _ (g : GraphData) (m : MatrixData) (v by : ℕ) (sum : Option ℕ) (count : ℕ) (groups : GroupsData) (is : AreGroupsOf g by sum m (Some v) count groups) (view : ViewPlan) (shown : edges_in m v ≡ live_edges (shown_graph g m) view.rule) where
  rows_are : held_rows groups ≡ rows_of g by sum (map (λ (e : EdgeNo). e.0) (live_edges (shown_graph g m) view.rule))
  rows_are =
      ap (λ (x : GraphData). rows_of x groups.column groups.sum (present_edges groups.present)) is.graph
      ∙ ap₂ (λ (k : ℕ) (s : Option ℕ). rows_of g k s (present_edges groups.present)) is.column is.sum ∙ ap (λ (bits : List Bool). rows_of g by sum (present_edges bits)) is.present
      ∙ ap (rows_of g by sum) (present_in m v ∙ ap (λ (es : List EdgeNo). map (λ (e : EdgeNo). e.0) es) shown)

  -- the text of a view by the rows of the groups that hold its edges
  pub view_text_is : (collection name grouped : List ℕ) → name ≡ view.name → grouped ≡ grouped_text g by sum → rows_text sum collection name grouped (held_rows groups) ≡ aggregate_text (shown_graph g m) by sum collection view
  view_text_is collection name grouped named first =
      ap (λ (n : List ℕ). rows_text sum collection n grouped (held_rows groups)) named
      ∙ ap₂ (λ (f : List ℕ) (rs : List GroupRow). rows_text sum collection view.name f rs) first rows_are
      ∙ grouped_view_is (shown_graph g m) by sum collection view
