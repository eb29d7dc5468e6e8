-- The answer on one more view joins the answers.
use Rattle.std.proofs.Common.{◌≡◌, ◌≢◌, ◌∙◌, ◌+◌, ◌*◌, ◌<◌, ◌≤◌, ◌∷◌, [], ℕ, Bool, cond, List, length, map, drop, get_or, All, Option, Some, None, sym, ap, subst, arith}
use Rattle.std.proofs.lemmas.Bool.{eq-eqb, ne_eqb}
use Rattle.std.proofs.lemmas.List.{at_drop_more, length-map}
use Rattle.std.proofs.lemmas.List.Elements.{All-append, All-cons, All-nil}
use Rattle.std.specs.Option.{option_map}
use Rattle.graph_model.specs.declared.number.ViewNo.{ViewNo}
use Rattle.graph_model.specs.declared.value.Val.{Val}
use Rattle.vertex_lang.specs.declared.arc.Arc.{Arc}
use Rattle.vertex_lang.specs.declared.lone.Lone.{Lone}
use Rattle.vertex_lang.specs.declared.lone.Outcome.TheVariants as outcome
use Rattle.vertex_lang.specs.Expressions.{Answer}
use Rattle.view_matrix.specs.Matrices.{MatrixData, distance_of, IsView}
use Rattle.result_tables.specs.declared.table.Table.{Table}
use Rattle.result_tables.specs.ChangeLaws.{held_itself}
use Rattle.result_tables.specs.Changes.{all_from, changes_from}
use Rattle.result_tables.specs.Laws.{all_gives, changes_give}
use Rattle.result_tables.specs.Results.{Held, ResultsData, held_on, table_held, values_of, with_answer, IsNew}
use Rattle.result_tables.specs.TableText.{table_of}
use Rattle.phase_runs.specs.declared.course.Course.{Course}
use Rattle.phase_runs.specs.declared.course.Reached.{Reached}
use Rattle.phase_runs.specs.Answers.{answer_on, own_run, own_runs, HoldsAnswer}
use Rattle.phase_runs.specs.Courses.{held_of, with_held, IsLast, IsRight, Reaches, ReachesOn}
use Rattle.phase_runs.proofs.Answering.{find-right, map-at}
use Rattle.phase_runs.proofs.Arcs.{same-arcs}

-- ---- what a change leads to

pub first-held : (m : ResultsData) (view : ViewNo) (r : Reached) → length r.values ≡ m.nodes → with_answer m view None r.outcome (all_from 0 r.values) ≡ with_held m (held_of view r)
first-held m view r size = ap (λ (vs : List Val). with_held m (record { view = view; outcome = r.outcome; values = vs })) (all_gives m r.values size).1

pub later-held : (m : ResultsData) (u view : ViewNo) (before r : Reached) → held_on m u ≡ Some (held_of u before) → length before.values ≡ m.nodes → length r.values ≡ m.nodes
    → with_answer m view (Some u) r.outcome (changes_from 0 before.values r.values) ≡ with_held m (held_of view r)
later-held m u view before r held size_before size =
    ap (λ (vs : List Val). with_held m (record { view = view; outcome = r.outcome; values = vs })) (changes_give m u (held_of u before) r.values held size_before size).1

pub same-held : (m : ResultsData) (u view : ViewNo) (before : Reached) → held_on m u ≡ Some (held_of u before) → with_answer m view (Some u) before.outcome [] ≡ with_held m (held_of view before)
same-held m u view before held = ap (λ (o : Option Held). with_held m (record { view = view; outcome = before.outcome; values = values_of o })) held

-- ---- runs

pub own-none : (m : MatrixData) (u v : ℕ) → distance_of m (Some u) v ≡ 0 → own_run m (Some u) v ≡ 0
own-none m u v e = ap (λ (b : Bool). cond b 0 1) (eq-eqb (distance_of m (Some u) v) 0 e)

pub own-some : (m : MatrixData) (u v : ℕ) → distance_of m (Some u) v ≢ 0 → own_run m (Some u) v ≡ 1
own-some m u v ne = ap (λ (b : Bool). cond b 0 1) (ne_eqb (distance_of m (Some u) v) 0 ne)

pub one-run : (most n before after : ℕ) → n ≡ 1 → after ≤ before + most → after ≤ before + most * n
one-run most n before after e few = rw e (omega (arith, few))

pub no-run : (most n before after : ℕ) → after ≡ before → after ≤ before + most * n
no-run most n before after same = omega (arith, same)

-- the calls for one more view
pub calls-more : (m : MatrixData) (most : ℕ) (before : Option ℕ) (order : List ViewNo) (k : ℕ) (d : ViewNo) (first calls next : ℕ) → k < length order
    → calls + most * own_runs m before (drop k order) ≤ first → next ≤ calls + most * own_run m before (get_or order k d).0
    → next + most * own_runs m (Some (get_or order k d).0) (drop (k + 1) order) ≤ first
calls-more m most before order k d first calls next low so_far few =
    let here : own_runs m before (drop k order) ≡ own_run m before (get_or order k d).0 + own_runs m (Some (get_or order k d).0) (drop (k + 1) order) = at_drop_more (own_runs m before) order k d low in
    more most (own_runs m before (drop k order)) (own_run m before (get_or order k d).0) (own_runs m (Some (get_or order k d).0) (drop (k + 1) order)) here so_far few where
      more : (most all one rest : ℕ) → all ≡ one + rest → calls + most * all ≤ first → next ≤ calls + most * one → next + most * rest ≤ first
      more most all one rest is so few = let those : calls + most * (one + rest) ≤ first = subst (λ (n : ℕ). calls + most * n ≤ first) is so in omega (arith, those, few)

-- ---- what stands behind it

module _ (answer : Answer) (c : Course) where
  pub right-of : (view : ViewNo) (r : Reached) → ReachesOn answer c view r → IsRight answer c (held_of view r)
  right-of view r is = ap (λ (l : Lone). table_of l) is.ends

  -- a view that differs in no edge has the same answer
  pub reached-same : (u v : ViewNo) (r : Reached) → distance_of c.matrix.now (Some u.0) v.0 ≡ 0 → ReachesOn answer c u r → ReachesOn answer c v r
  reached-same u v r none is = subst (λ (arcs : List Arc). Reaches answer c arcs r) (same-arcs c.program.now c.graph.now c.matrix.now u v none) is

  pub right-more : (m : ResultsData) (view : ViewNo) (r : Reached) → All (IsRight answer c) m.held → ReachesOn answer c view r → All (IsRight answer c) (with_held m (held_of view r)).held
  right-more m view r all is = All-append (IsRight answer c) m.held (held_of view r ∷ []) all (All-cons (IsRight answer c) (held_of view r) [] (right-of view r is) (All-nil (IsRight answer c)))

  pub last-more : (m : ResultsData) (view : ViewNo) (r : Reached) → IsView c.matrix.now view → IsNew m view → ReachesOn answer c view r
      → IsLast answer c (with_held m (held_of view r)) (record { view = view; reached = r })
  last-more m view r within new is = record { view = within; held = held_itself m.held (held_of view r) new; reached = is }

  -- ---- the tables

  pub table-held : (m : ResultsData) (order : List ViewNo) → All (IsRight answer c) m.held → map (λ (h : Held). h.view) m.held ≡ order
      → All (HoldsAnswer answer c.program.now c.graph.now c.matrix.now c.rounds c.phases m) order
  table-held m order all same k d low =
      let none : Held = record { view = d; outcome = outcome.Unsettled; values = [] } in
      let there : k < length m.held = omega (arith, low, sym (length-map m.held (λ (h : Held). h.view)) ∙ ap (λ (vs : List ViewNo). length vs) same) in
      let at : (get_or m.held k none).view ≡ get_or order k d = sym (map-at (λ (h : Held). h.view) m.held k none d there) ∙ ap (λ (vs : List ViewNo). get_or vs k d) same in
      let found = find-right (IsRight answer c) (get_or order k d).0 m.held k none all there (ap (λ (v : ViewNo). v.0) at) in
      let one : found.one.view ≡ get_or order k d = ap (λ (n : ℕ). let v : ViewNo = record { 0 = n } in v) found.view in
      ap (λ (o : Option Held). option_map table_held o) found.is
      ∙ ap (λ (t : Table). Some t) (found.right ∙ ap (λ (v : ViewNo). table_of (answer_on answer c.program.now c.graph.now c.matrix.now c.rounds c.phases v)) one)
