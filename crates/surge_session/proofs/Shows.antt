-- Statements that show something: they change nothing, and in a change text they print nothing.
use Rattle.std.proofs.Common.{◌≡◌, ◌∙◌, ◌+◌, ℕ, Bool, true, false, ◌&&◌, List, [], Some, slice_get, refl, sym, ap}
use Rattle.std.specs.Prelude.{if◌then◌else◌}
use Rattle.graph_model.specs.GraphData.{GraphData}
use Rattle.vertex_lang.specs.Expressions.{Answer}
use Rattle.view_matrix.specs.Matrices.{MatrixData}
use Rattle.gvdl_check.specs.declared.plan.Step.{Step}
use Rattle.gvdl_check.specs.declared.plan.Step.TheVariants as step
use Rattle.gvdl_check.specs.declared.plan.Plan.{Plan}
use Rattle.gvdl_check.specs.Steps.{edits, gives}
use Rattle.result_tables.specs.declared.form.Form.{Form}
use Rattle.surge_session.specs.declared.kept.Kept.{Kept}
use Rattle.gvdl_check.specs.Shows.{is_show}
use Rattle.surge_session.specs.Output.{groups_text, is_changes, is_hidden, keeps, shown_in, shown_text, shown_tree, step_text, text_of, work_text}
use Rattle.surge_session.specs.State.{IsAt}
use Rattle.surge_session.proofs.Keeping.{IsQuiet, passed}
use Rattle.surge_session.proofs.Texts.{step_is}

-- ---- what they change

pub gives_none : (place : ℕ) (s : Step) → is_show s ≡ true → gives place s ≡ 0
gives_none place step.Nothing e = refl
gives_none place (step.Make other count) e = absurd cc
gives_none place (step.Run other) e = refl
gives_none place (step.Append other first count) e = absurd cc
gives_none place (step.ShowOrder other) e = refl
gives_none place (step.ShowWork other) e = refl
gives_none place (step.ShowTree other) e = refl
gives_none place (step.Insert first count) e = refl
gives_none place (step.Remove rule) e = refl
gives_none place (step.Aggregate other by sum) e = refl

pub keeps_none : (p : Plan) (s : Step) → is_show s ≡ true → keeps p s ≡ []
keeps_none p step.Nothing e = refl
keeps_none p (step.Make other count) e = refl
keeps_none p (step.Run other) e = absurd cc
keeps_none p (step.Append other first count) e = refl
keeps_none p (step.ShowOrder other) e = refl
keeps_none p (step.ShowWork other) e = refl
keeps_none p (step.ShowTree other) e = refl
keeps_none p (step.Insert first count) e = refl
keeps_none p (step.Remove rule) e = refl
keeps_none p (step.Aggregate other by sum) e = refl

pub edits_none : (s : Step) → is_show s ≡ true → edits s ≡ false
edits_none step.Nothing e = refl
edits_none (step.Make other count) e = refl
edits_none (step.Run other) e = refl
edits_none (step.Append other first count) e = refl
edits_none (step.ShowOrder other) e = refl
edits_none (step.ShowWork other) e = refl
edits_none (step.ShowTree other) e = refl
edits_none (step.Insert first count) e = absurd cc
edits_none (step.Remove rule) e = absurd cc
edits_none (step.Aggregate other by sum) e = refl

quiet_one : (s : Step) → is_show s ≡ true → IsQuiet s
quiet_one step.Nothing e = tt
quiet_one (step.Make other count) e = tt
quiet_one (step.Run other) e = absurd (let wrong : false ≡ true = e in cc)
quiet_one (step.Append other first count) e = absurd (let wrong : false ≡ true = e in cc)
quiet_one (step.ShowOrder other) e = tt
quiet_one (step.ShowWork other) e = tt
quiet_one (step.ShowTree other) e = tt
quiet_one (step.Insert first count) e = tt
quiet_one (step.Remove rule) e = tt
quiet_one (step.Aggregate other by sum) e = tt

-- ---- in a form

is_first : (x y : Bool) → (x && y) ≡ true → x ≡ true
is_first true y e = refl
is_first false y e = absurd cc

is_second : (x y : Bool) → (x && y) ≡ true → y ≡ true
is_second true y e = e
is_second false y e = absurd cc

is_open : (x y : Bool) → x ≡ true → (x && y) ≡ false → y ≡ false
is_open true y e f = f
is_open false y e f = absurd cc

none_shown : (answer : Answer) (in_form : Form) (g : GraphData) (p : Plan) (n : ℕ) (s : Step) → is_show s ≡ true → is_changes in_form ≡ true → text_of answer in_form g p n s ≡ []
none_shown answer in_form g p n step.Nothing shows none = refl
none_shown answer in_form g p n (step.Make place count) shows none = refl
none_shown answer in_form g p n (step.Run place) shows none = absurd cc
none_shown answer in_form g p n (step.Append place first count) shows none = absurd cc
none_shown answer in_form g p n (step.ShowOrder place) shows none = ap (λ (b : Bool). if b then [] else shown_text g p n place) none
none_shown answer in_form g p n (step.ShowWork place) shows none = ap (λ (b : Bool). if b then [] else work_text answer g p n place) none
none_shown answer in_form g p n (step.ShowTree place) shows none = ap (λ (b : Bool). if b then [] else shown_tree g p n place) none
none_shown answer in_form g p n (step.Insert first count) shows none = absurd cc
none_shown answer in_form g p n (step.Remove rule) shows none = absurd cc
none_shown answer in_form g p n (step.Aggregate place by sum) shows none = ap (λ (b : Bool). if b then [] else groups_text g p n place by sum) none

module _ (answer : Answer) (in_form : Form) (g : GraphData) (p : Plan) (n : ℕ) (s : Step) (at : slice_get p.steps n ≡ Some s) where
  -- a statement that is passed by prints nothing
  pub hidden_text : is_hidden in_form s ≡ true → step_text answer in_form g p n ≡ []
  hidden_text e = step_is answer in_form g p n s at ∙ none_shown answer in_form g p n s (is_first (is_show s) (is_changes in_form) e) (is_second (is_show s) (is_changes in_form) e)

  -- one that isn't prints what it shows
  pub told_text : is_show s ≡ true → is_hidden in_form s ≡ false → (text : List ℕ) → text_of answer in_form g p n s ≡ shown_in in_form text → step_text answer in_form g p n ≡ text
  told_text shows e text is = step_is answer in_form g p n s at ∙ is ∙ ap (λ (b : Bool). if b then [] else text) (is_open (is_show s) (is_changes in_form) shows e)

-- behind a statement that shows something
pub passed_by : (answer : Answer) (g : GraphData) (p : Plan) (n : ℕ) (live : List Bool) (made : List MatrixData) (kept : List Kept) (s : Step) → slice_get p.steps n ≡ Some s → is_show s ≡ true → IsAt answer g p n live made kept → IsAt answer g p (n + 1) live made kept
passed_by answer g p n live made kept s at shows is = passed answer g p n live made kept s at (quiet_one s shows) (edits_none s shows) (λ place. gives_none place s shows) (keeps_none p s shows) is

pub hidden_by : (answer : Answer) (in_form : Form) (g : GraphData) (p : Plan) (n : ℕ) (live : List Bool) (made : List MatrixData) (kept : List Kept) (s : Step) → slice_get p.steps n ≡ Some s → is_hidden in_form s ≡ true → IsAt answer g p n live made kept → IsAt answer g p (n + 1) live made kept
hidden_by answer in_form g p n live made kept s at e is = passed_by answer g p n live made kept s at (is_first (is_show s) (is_changes in_form) e) is
