-- The table that is told of a view.
use Rattle.std.proofs.Common.{◌≡◌, ℕ, Bool, true, false, List, [], ◌∷◌, length, take, All, Option, Some, None, is_some, not, cond, refl, sym, ◌∙◌, ap, subst, inl, inr}
use Rattle.std.specs.Option.{option_map}
use Rattle.std.proofs.lemmas.Bool.Decides.{eqb_tells}
use Rattle.graph_model.specs.declared.number.ViewNo.{ViewNo}
use Rattle.vertex_lang.specs.Expressions.{Answer}
use Rattle.view_matrix.specs.Matrices.{MatrixData}
use Rattle.result_tables.specs.declared.table.Table.{Table}
use Rattle.result_tables.specs.Results.{held_on, table_held, table_on}
use Rattle.view_segment.specs.declared.segment.Segment.{Segment}
use Rattle.view_segment.specs.Segments.{last_values}
use Rattle.view_segment.specs.Tasks.{Task, lone_of}
use Rattle.view_engine.specs.declared.engine.Engine.{Engine}
use Rattle.view_engine.specs.Engines.{segments_in, task_of, work_beside, work_in, work_at, either, HoldsView, IsResult, Stands}
use Rattle.view_engine.proofs.Putting.{all_head, all_tail}
use Rattle.view_engine.proofs.Showing.{its_table}

-- a view that has a work is one of those that were stepped
module _ (P : ViewNo → Type 0) (v : ViewNo) (w : ℕ) where
  beside_some : (us : List ViewNo) (ws : List ℕ) → work_beside us ws v ≡ Some w → All P (take (length ws) us) → P v
  beside_some [] ws some all = absurd cc
  beside_some (u ∷ us) [] some all = absurd cc
  beside_some (u ∷ us) (x ∷ ws) some all = elim (eqb_tells u.0 v.0) [
    | inl h ↦ subst P (ap (λ (n : ℕ). let y : ViewNo = record { 0 = n } in y) h.1) (all_head P u (take (length ws) us) all)
    | inr h ↦ beside_some us ws (sym (ap (λ (b : Bool). cond b (Some x) (work_beside us ws v)) h.0) ∙ some) (all_tail P u (take (length ws) us) all)
  ]

  either_some : (a b : Option ℕ) → either a b ≡ Some w → (a ≡ Some w → P v) → (b ≡ Some w → P v) → P v
  either_some None b some first second = second some
  either_some (Some n) b some first second = first some

  pub work_some : (ss : List Segment) → work_in ss v ≡ Some w → All (λ (s : Segment). All P (take (length s.works) s.views)) ss → P v
  work_some [] some all = absurd cc
  work_some (s ∷ ss) some all =
      either_some (work_beside s.views s.works v) (work_in ss v) some
      (λ here. beside_some s.views s.works here (all_head (λ (s : Segment). All P (take (length s.works) s.views)) s ss all))
      (λ there. work_some ss there (all_tail (λ (s : Segment). All P (take (length s.works) s.views)) s ss all))

some_one : (a b : Table) → Some a ≡ Some b → a ≡ b
some_one a b is = cc

-- a view that wasn't stepped has none
none_unstepped : (task : Task) (v : ViewNo) (o : Option ℕ) → is_some o ≡ false → IsResult task v o None
none_unstepped task v None none = refl
none_unstepped task v (Some w) none = absurd (let never : true ≡ false = none in cc)

pub result_unstepped : (task : Task) (e : Engine) (v : ViewNo) (o : Option ℕ) (b : Bool) → o ≡ work_at e v → is_some o ≡ not b → b ≡ true → IsResult task v (work_at e v) None
result_unstepped task e v o b same told none = none_unstepped task v (work_at e v) (sym (ap (λ (p : Option ℕ). is_some p) same) ∙ told ∙ ap not none)

module _ (answer : Answer) (m : MatrixData) (e : Engine) (stands : Stands answer m e) (v : ViewNo) where
  its_answer : (w : ℕ) → work_at e v ≡ Some w → HoldsView (task_of answer m e) e.results v
  its_answer w some = work_some (HoldsView (task_of answer m e) e.results) v w (segments_in e) some stands.holds

  some_by : (o : Option ℕ) → work_at e v ≡ o → is_some o ≡ true → (t : Table) → table_on e.results v ≡ Some t → IsResult (task_of answer m e) v o (Some t)
  some_by None none some t is = absurd (let never : false ≡ true = some in cc)
  some_by (Some w) at some t is =
      let told : Some t ≡ option_map table_held (Some (record { view = v; outcome = (lone_of (task_of answer m e) v.0).outcome; values = last_values (task_of answer m e) v.0 })) =
      sym is ∙ ap (option_map table_held) (its_answer w at).held in
      ap (λ (x : Table). Some x) (its_table (task_of answer m e) v.0 t (some_one t (table_held (record { view = v; outcome = (lone_of (task_of answer m e) v.0).outcome; values = last_values (task_of answer m e) v.0 })) told))

  pub result_some : (o : Option ℕ) (b : Bool) → o ≡ work_at e v → is_some o ≡ not b → b ≡ false → (t : Table) → table_on e.results v ≡ Some t → IsResult (task_of answer m e) v (work_at e v) (Some t)
  result_some o b same told some t is = some_by (work_at e v) refl (sym (ap (λ (p : Option ℕ). is_some p) same) ∙ told ∙ ap not some) t is

  none_by : (o : Option ℕ) → work_at e v ≡ o → is_some (held_on e.results v) ≡ false → IsResult (task_of answer m e) v o None
  none_by None none has = refl
  none_by (Some w) some has =
      absurd (let one_held : is_some (held_on e.results v) ≡ true = ap is_some (its_answer w some).held in let never : true ≡ false = sym one_held ∙ has in cc)

  pub result_none : is_some (held_on e.results v) ≡ false → IsResult (task_of answer m e) v (work_at e v) None
  result_none has = none_by (work_at e v) refl has
