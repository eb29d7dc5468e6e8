-- What a visit finds: whether the node is touched, marked and counted, and its next value.
use Rattle.std.proofs.Common.{◌≡◌, ◌∙◌, ◌<◌, ◌+◌, zero, suc, sym, ap, refl, ℕ, Bool, true, false, List, Option, Some, None, length, arith, inl, inr}
use Rattle.std.specs.Prelude.{◌&&◌, ◌||◌, not}
use Rattle.std.proofs.lemmas.Bool.{cases_Bool}
use Rattle.graph_model.specs.declared.value.Val.{Val}
use Rattle.graph_model.specs.GraphData.{GraphData, id_of}
use Rattle.vertex_lang.specs.declared.arc.Arc.{Arc}
use Rattle.vertex_lang.specs.declared.program.Program.{Program}
use Rattle.vertex_lang.specs.Arcs.{gathered_of}
use Rattle.vertex_lang.specs.Expressions.{Answer, start_of}
use Rattle.vertex_lang.specs.Rounds.{value_at, lone}
use Rattle.vertex_lang.specs.Lone.{same_value}
use Rattle.multisets.specs.Multisets.{are_one}
use Rattle.lone_work.specs.Inputs.{got_values}
use Rattle.lone_work.specs.Work.{node_active, node_touched, node_counted, node_marked, touched_before}
use Rattle.vertex_lang.specs.GatherLaws.{values-exact}
use Rattle.vertex_lang.specs.RoundLaws.{next-at}
use Rattle.lone_work.specs.WorkLaws.{first-touched, marked-at-first, uncounted-value}
use Rattle.lone_work.specs.SplitLaws.{mark-splits}
use Rattle.lone_work.specs.StepLaws.{counted-is, touched-is, untouched-test, counted-by-marks}
use Rattle.arc_rows.specs.Views.{arcs_in}
use Rattle.round_kernel.specs.Rounds.{old_view, was_touched}

-- ---- touched

module _ (answer : Answer) (p : Program) (graph : GraphData) (all : List Arc) (old new : List Bool) (v r : ℕ) where
  touched-first : true ≡ node_touched answer p graph (arcs_in all new) None v r
  touched-first = sym (first-touched answer p graph (arcs_in all new) v r)

  or-left : (a b : Bool) → a ≡ true → true ≡ (a || b)
  or-left true b e = refl
  or-left false b e = absurd cc

  pub touched-yes : (first t : Bool) → t ≡ was_touched answer p graph all first old new r v → (first || t) ≡ true → true ≡ node_touched answer p graph (arcs_in all new) (old_view first all old) v r
  touched-yes true t e h = touched-first
  touched-yes false t e h = or-left (touched_before answer p graph (arcs_in all new) (Some (arcs_in all old)) v r) (node_active answer p graph (arcs_in all new) (Some (arcs_in all old)) v r) (sym e ∙ h) ∙ sym (touched-is answer p graph (arcs_in all new) (Some (arcs_in all old)) v r)

  pub touched-test : (first t b : Bool) (ms ns : List Val) → v < length graph.ids → t ≡ was_touched answer p graph all first old new r v → (first || t) ≡ false
      → (first ≡ false → ms ≡ got_values answer p graph (arcs_in all new) v r) → (first ≡ false → ns ≡ got_values answer p graph (arcs_in all old) v r)
      → b ≡ not (are_one same_value ms ns) → b ≡ node_touched answer p graph (arcs_in all new) (old_view first all old) v r
  touched-test true t b ms ns low e h em en eb = absurd cc
  touched-test false t b ms ns low e h em en eb =
      let before : touched_before answer p graph (arcs_in all new) (Some (arcs_in all old)) v r ≡ false = sym e ∙ h in
      eb ∙ ap (λ (xs : List Val). not (are_one same_value xs ns)) (em refl) ∙ ap (λ (xs : List Val). not (are_one same_value (got_values answer p graph (arcs_in all new) v r) xs)) (en refl)
      ∙ sym (untouched-test answer p graph (arcs_in all new) (arcs_in all old) v r low before)
      ∙ sym (ap (λ (t : Bool). t || node_active answer p graph (arcs_in all new) (Some (arcs_in all old)) v r) before)
      ∙ sym (touched-is answer p graph (arcs_in all new) (Some (arcs_in all old)) v r)

-- ---- marked

module _ (answer : Answer) (p : Program) (graph : GraphData) (arcs : List Arc) (v r : ℕ) where
  pub marked-first : r ≡ 0 → true ≡ node_marked answer p graph (Some arcs) v r
  marked-first e = sym (marked-at-first answer p graph arcs v) ∙ ap (λ n. node_marked answer p graph (Some arcs) v n) (sym e)

  parted : (k : ℕ) → r ≡ suc k → node_marked answer p graph (Some arcs) v r ≡ not (same_value (value_at (lone answer p graph arcs r) v) (value_at (lone answer p graph arcs k) v) && are_one same_value (got_values answer p graph arcs v r) (got_values answer p graph arcs v k))
  parted k e = ap (λ n. node_marked answer p graph (Some arcs) v n) e ∙ mark-splits answer p graph arcs v k ∙ ap (λ n. not (same_value (value_at (lone answer p graph arcs n) v) (value_at (lone answer p graph arcs k) v) && are_one same_value (got_values answer p graph arcs v n) (got_values answer p graph arcs v k))) (sym e)

  not-left : (a b : Bool) → true ≡ not a → true ≡ not (a && b)
  not-left true b e = absurd cc
  not-left false b e = refl

  not-right : (a b : Bool) → false ≡ not a → not b ≡ not (a && b)
  not-right true b e = refl
  not-right false b e = absurd cc

  not-also : (a b : Bool) → b ≡ false → true ≡ not (a && b)
  not-also true b e = sym (ap not e)
  not-also false b e = refl

  -- by other messages than in the round before
  pub marked-by-messages : (k : ℕ) → r ≡ suc k → are_one same_value (got_values answer p graph arcs v r) (got_values answer p graph arcs v k) ≡ false → true ≡ node_marked answer p graph (Some arcs) v r
  marked-by-messages k at e = not-also (same_value (value_at (lone answer p graph arcs r) v) (value_at (lone answer p graph arcs k) v)) (are_one same_value (got_values answer p graph arcs v r) (got_values answer p graph arcs v k)) e ∙ sym (parted k at)

  pub marked-own : (k : ℕ) → r ≡ suc k → (now before : List Val) (b : Bool) → now ≡ lone answer p graph arcs r → before ≡ lone answer p graph arcs k
      → b ≡ not (same_value (value_at now v) (value_at before v)) → b ≡ true → true ≡ node_marked answer p graph (Some arcs) v r
  marked-own k at now before b en eb e t =
      not-left (same_value (value_at (lone answer p graph arcs r) v) (value_at (lone answer p graph arcs k) v)) (are_one same_value (got_values answer p graph arcs v r) (got_values answer p graph arcs v k))
      (sym t ∙ e ∙ ap (λ (vs : List Val). not (same_value (value_at vs v) (value_at before v))) en ∙ ap (λ (vs : List Val). not (same_value (value_at (lone answer p graph arcs r) v) (value_at vs v))) eb)
      ∙ sym (parted k at)

  pub marked-got : (k : ℕ) → r ≡ suc k → (now before ms ns : List Val) (b x : Bool) → now ≡ lone answer p graph arcs r → before ≡ lone answer p graph arcs k
      → ms ≡ got_values answer p graph arcs v r → ns ≡ got_values answer p graph arcs v k
      → b ≡ not (same_value (value_at now v) (value_at before v)) → b ≡ false → x ≡ not (are_one same_value ms ns) → x ≡ node_marked answer p graph (Some arcs) v r
  marked-got k at now before ms ns b x en eb em es e f ex =
      ex ∙ ap (λ (xs : List Val). not (are_one same_value xs ns)) em ∙ ap (λ (xs : List Val). not (are_one same_value (got_values answer p graph arcs v r) xs)) es
      ∙ not-right (same_value (value_at (lone answer p graph arcs r) v) (value_at (lone answer p graph arcs k) v)) (are_one same_value (got_values answer p graph arcs v r) (got_values answer p graph arcs v k))
      (sym f ∙ e ∙ ap (λ (vs : List Val). not (same_value (value_at vs v) (value_at before v))) en ∙ ap (λ (vs : List Val). not (same_value (value_at (lone answer p graph arcs r) v) (value_at vs v))) eb)
      ∙ sym (parted k at)

  -- ---- the next value

  pub next-told : (values ms : List Val) (x start value gathered : Val) (id count : ℕ) → v < length graph.ids → values ≡ lone answer p graph arcs r → ms ≡ got_values answer p graph arcs v r
      → id ≡ id_of graph v → start ≡ start_of p graph v → value ≡ value_at values v → gathered ≡ gathered_of p.gather ms → count ≡ length ms → x ≡ answer p id start value gathered count
      → x ≡ value_at (lone answer p graph arcs (r + 1)) v
  next-told values ms x start value gathered id count low ev em ei es ew eg ec ex =
      ex ∙ answer-by start value gathered id count (start_of p graph v) (value_at (lone answer p graph arcs r) v) (gathered_of p.gather (got_values answer p graph arcs v r)) (id_of graph v) (length (got_values answer p graph arcs v r))
      es (ew ∙ ap (λ (vs : List Val). value_at vs v) ev) (eg ∙ ap (λ (xs : List Val). gathered_of p.gather xs) em) ei (ec ∙ ap (λ (xs : List Val). length xs) em)
      ∙ sym (next-at answer p graph arcs r v low) where
        answer-by : (s w g : Val) (i n : ℕ) (s' w' g' : Val) (i' n' : ℕ) → s ≡ s' → w ≡ w' → g ≡ g' → i ≡ i' → n ≡ n' → answer p i s w g n ≡ answer p i' s' w' g' n'
        answer-by s w g i n s' w' g' i' n' a b c d e = cc

-- ---- counted

module _ (answer : Answer) (p : Program) (graph : GraphData) (new : List Arc) (old : Option (List Arc)) (v r : ℕ) where
  pub counted-marked : node_touched answer p graph new old v r ≡ true → node_marked answer p graph (Some new) v r ≡ true → node_counted answer p graph new old v r ≡ true
  counted-marked t m = counted-by-marks answer p graph new old v r t ∙ ap (λ (b : Bool). b || node_marked answer p graph old v r) m

  pub counted-where : (m o : Bool) → node_touched answer p graph new old v r ≡ true → m ≡ node_marked answer p graph (Some new) v r → (0 < r → o ≡ node_marked answer p graph old v r) → (r ≡ 0 → m ≡ true)
      → node_counted answer p graph new old v r ≡ (m || o)
  counted-where m o t em eo first = elim (cases_Bool m) [
    | inl e ↦ counted-by-marks answer p graph new old v r t ∙ ap (λ (b : Bool). b || node_marked answer p graph old v r) (sym em ∙ e) ∙ sym (ap (λ (b : Bool). b || o) e)
    | inr e ↦
        let later : 0 < r = positive m r e first in
        counted-by-marks answer p graph new old v r t ∙ ap (λ (b : Bool). b || node_marked answer p graph old v r) (sym em) ∙ ap (λ (b : Bool). m || b) (sym (eo later))
  ] where
    positive : (b : Bool) (n : ℕ) → b ≡ false → (n ≡ 0 → b ≡ true) → 0 < n
    positive b zero e h = absurd (clash b e (h refl)) where
      clash : (c : Bool) → c ≡ false → c ≡ true → ⊥
      clash true f t = absurd cc
      clash false f t = absurd cc
    positive b (suc n) e h = omega arith

  pub not-counted : node_touched answer p graph new old v r ≡ false → node_counted answer p graph new old v r ≡ false
  not-counted e = counted-is answer p graph new old v r ∙ ap (λ (b : Bool). b && (node_active answer p graph new old v r || node_marked answer p graph old v r)) e

  pub stays-unchanged : v < length graph.ids → node_touched answer p graph new old v r ≡ true → node_counted answer p graph new old v r ≡ false
      → not (same_value (value_at (lone answer p graph new (r + 1)) v) (value_at (lone answer p graph new r) v)) ≡ false
  stays-unchanged low t e = elim (uncounted-value answer p graph new old v r low e) [
    | inl q ↦ absurd (both-ways (node_touched answer p graph new old v r) q.0 t)
    | inr q ↦ ap (λ (w : Val). not (same_value w (value_at (lone answer p graph new r) v))) q.3 ∙ ap not (values-exact.itself (value_at (lone answer p graph new r) v))
  ] where
    both-ways : (b : Bool) → b ≡ false → b ≡ true → ⊥
    both-ways true f t = absurd cc
    both-ways false f t = absurd cc

  -- where it is touched and not counted it has no mark
  pub unmarked-uncounted : node_touched answer p graph new old v r ≡ true → node_counted answer p graph new old v r ≡ false → node_marked answer p graph (Some new) v r ≡ false
  unmarked-uncounted t e = left-false (node_marked answer p graph (Some new) v r) (node_marked answer p graph old v r) (sym (counted-by-marks answer p graph new old v r t) ∙ e) where
    left-false : (a b : Bool) → (a || b) ≡ false → a ≡ false
    left-false true b f = absurd cc
    left-false false b f = refl
