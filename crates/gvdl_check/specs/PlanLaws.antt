-- The plan of a script fits the graph, and has one step for each statement after the load.
use Rattle.std.proofs.Common.{◌≡◌, ◌∙◌, ℕ, ◌+◌, ◌<◌, ◌≤◌, Bool, true, false, ◌&&◌, List, [], ◌∷◌, length, get_or, take, refl, sym, ap, subst, arith, Option, Ok, Err}
use Rattle.std.specs.Prelude.{All, nat_lt, is_some, sum, if◌then◌else◌}
use Rattle.std.proofs.lemmas.Bool.Decides.{nat_tests}
use Rattle.std.proofs.lemmas.List.Elements.{All-nil, All-weaker}
use Rattle.graph_model.specs.GraphData.{GraphData}
use Rattle.gvdl_tree.specs.declared.script.Script.{Script}
use Rattle.gvdl_tree.specs.declared.script.Statement.{Statement}
use Rattle.gvdl_programs.specs.declared.refusal.Refusal.TheVariants as refusal
use Rattle.gvdl_programs.specs.Judging.{Judged, expect}
use Rattle.gvdl_programs.specs.JudgingLaws.{through, same_value}
use Rattle.gvdl_check.specs.declared.plan.Plan.{Plan}
use Rattle.gvdl_check.specs.declared.known.Known.{Known}
use Rattle.gvdl_check.specs.Faults.{at}
use Rattle.gvdl_check.specs.Forms.{form_judged, suits}
use Rattle.gvdl_check.specs.declared.statement.Moment.{Moment}
use Rattle.gvdl_check.specs.declared.plan.Step.{Step}
use Rattle.gvdl_check.specs.declared.plan.Step.TheVariants as step
use Rattle.gvdl_check.specs.Plans.{group_at, load, is_edit, last_edit_from, last_edit, statement_added, statement_judged, plan_of, moment, plan_from, plan_loaded, plan}
use Rattle.gvdl_check.specs.Steps.{StepsFit, edits, runs_at}
use Rattle.gvdl_check.specs.Fits.{ShowsWork, IsToldEdited, KnownFits, PlanFits}
use Rattle.gvdl_check.specs.StepLaws.{each_fits, some_views, all_views}
use Rattle.gvdl_check.specs.KnownLaws.{Grows, statement_grows, load_begins}
use Rattle.gvdl_check.specs.MarkLaws.{marked_length, all_marked, marked_at}
use Rattle.gvdl_check.specs.LaterLaws.{ShowsOpen, Later, statement_later, AreCome, first_sum, statement_come}

pub judged_at : {A : Type 0} (n : ℕ) (said : Judged A) (a : A) → at n said ≡ Ok a → said ≡ Ok a
judged_at n (Ok b) a e = ap Ok (same_value b a e)
judged_at n (Err r) a e = absurd cc

-- a statement that is judged to have a value has it, and suits the form
pub added_so : (form : Option ℕ) (g : GraphData) (m : Moment) (k next : Known) (s : Statement) → statement_judged form g m k s ≡ Ok next → statement_added g m k s ≡ Ok next
added_so form g m k next s e = (through (expect (suits form s) refusal.NeedsForm) (λ _. statement_added g m k s) next e).rest

pub judged_grows : (form : Option ℕ) (g : GraphData) (m : Moment) (k : Known) → KnownFits g k → m.number ≡ length k.steps + 2 → (next : Known) (s : Statement)
    → statement_judged form g m k s ≡ Ok next → Grows g k next
judged_grows form g m k fit at next s e = statement_grows g k fit m at next s (added_so form g m k next s e)

-- behind the form of a script that has a plan
pub form_passed : (s : Script) (g : GraphData) (groups : List ℕ) (p : Plan) → plan s g groups ≡ Ok p → plan_loaded s g groups ≡ Ok p
form_passed s g groups p e = (through (form_judged s.form) (λ _. plan_loaded s g groups) p e).rest

-- ---- the last statement by which edges come or go

-- no later statement is
last_after : (found n : ℕ) (ss : List Statement) → found ≤ n → found ≤ last_edit_from found n ss
last_after found n [] le = omega arith
last_after found n (s ∷ more) le = by (is_edit s) (last_after n (n + 1) more (omega arith)) (last_after found (n + 1) more (omega (arith, le))) where
  by : (b : Bool) → n ≤ last_edit_from n (n + 1) more → found ≤ last_edit_from found (n + 1) more → found ≤ last_edit_from (if b then n else found) (n + 1) more
  by true later same = omega (arith, later, le)
  by false later same = same

-- the last is at or behind the first of these, where it is one, and the last of the rest
last_covers : (found n : ℕ) (s : Statement) (more : List Statement) → is_edit s ≡ true → n ≤ last_edit_from found n (s ∷ more)
last_covers found n s more is =
    subst (λ (b : Bool). n ≤ last_edit_from (if b then n else found) (n + 1) more) (sym is) (last_after n (n + 1) more (omega arith))

-- a plan that fits, with so many steps
pub record Sound (g : GraphData) (count : ℕ) (p : Plan) : Type 0 where
  pub fits : PlanFits g p
  pub steps : length p.steps ≡ count

module _ (g : GraphData) (last : ℕ) (k : Known) (fit : KnownFits g k) (within : k.edges ≤ length g.ends) (later : Later last k) where
  same_runs : length (plan_of last k).runs ≡ length k.runs
  same_runs = marked_length last k.numbers k.runs fit.counts.numbers

  steps_fit : StepsFit k.loaded k.steps k.collections (plan_of last k).runs
  steps_fit = record { collections = fit.steps.collections; runs = fit.steps.runs ∙ sym same_runs; views = fit.steps.views; each = fit.steps.each }

  told_edited : (n place : ℕ) → n < length k.steps → edits (get_or k.steps n step.Nothing) ≡ true → place < runs_at (plan_of last k) n → IsToldEdited (plan_of last k) place
  told_edited n place lt is before run at =
      let number : get_or k.numbers place 0 < n + 2 = fit.counts.numbered n place (omega (arith, lt)) before in
      let early : nat_lt (get_or k.numbers place 0) last ≡ true = (let lt : get_or k.numbers place 0 < last = omega (arith, number, later.edits n lt is) in grind (arith, nat_tests)) in
      marked_at last k.numbers k.runs place run at ∙ ap (λ (b : Bool). is_some run.keep && b) early ∙ always (is_some run.keep) where
        always : (b : Bool) → (b && true) ≡ b
        always true = refl
        always false = refl

  work_shown : (s : Step) → ShowsOpen last k.numbers s → ShowsWork (plan_of last k) s
  work_shown (step.ShowWork place) h = λ run at. marked_at last k.numbers k.runs place run at ∙ ap (λ (b : Bool). is_some run.keep && b) h.1 ∙ never (is_some run.keep) where
    never : (b : Bool) → (b && false) ≡ false
    never true = refl
    never false = refl
  work_shown step.Nothing h = tt
  work_shown (step.Make place count) h = tt
  work_shown (step.Run place) h = tt
  work_shown (step.Append place first count) h = tt
  work_shown (step.ShowOrder place) h = tt
  work_shown (step.ShowTree place) h = tt
  work_shown (step.Insert first count) h = tt
  work_shown (step.Remove rule) h = tt
  work_shown (step.Aggregate place by sum) h = tt

  known_sound : Sound g (length k.steps) (plan_of last k)
  known_sound = record {
    fits = record {
      collections = fit.collections;
      runs = all_marked g (length k.collections) last k.numbers k.runs fit.runs;
      steps = each_fits (plan_of last k) steps_fit;
      views = some_views (plan_of last k) steps_fit;
      all = all_views (plan_of last k) steps_fit;
      edges = omega (arith, fit.counts.edges, within);
      columns = fit.counts.columns;
      edited = told_edited;
      works = All-weaker (ShowsOpen last k.numbers) (ShowsWork (plan_of last k)) work_shown k.steps later.works;
    };
    steps = refl;
  }

-- the statements from here on, of a script whose last edit is at or behind each of them that is one
from_sound : (form : Option ℕ) (g : GraphData) (groups : List ℕ) (found n : ℕ) (k : Known) (p : Plan) (ss : List Statement) → KnownFits g k → sum groups ≡ length g.ends → AreCome groups k → n ≡ length k.steps + 2
    → Later (last_edit_from found n ss) k → plan_from form g groups (last_edit_from found n ss) n k ss ≡ Ok p → Sound g (length k.steps + length ss) p
from_sound form g groups found n k p [] fit all come here later e =
    let none : length k.steps ≡ length k.steps + 0 = omega arith in
    let within : k.edges ≤ length g.ends = omega (arith, come, all, first_sum groups k.files) in
    subst (λ (m : ℕ). Sound g m p) none (subst (Sound g (length k.steps)) (same_value (plan_of found k) p e) (known_sound g found k fit within later))
from_sound form g groups found n k p (s ∷ more) fit all come here later e =
    let last : ℕ = last_edit_from found n (s ∷ more) in
    let m : Moment = moment n last (group_at groups k.files) in
    let t = through (at n (statement_judged form g m k s)) (λ next. plan_from form g groups last (n + 1) next more) p e in
    let added = added_so form g m k t.value s (judged_at n (statement_judged form g m k s) t.value t.first) in
    let grown = statement_grows g k fit m here t.value s added in
    let counted : length t.value.steps + length more ≡ length k.steps + length (s ∷ more) = omega (arith, grown.steps) in
    let next : n + 1 ≡ length t.value.steps + 2 = omega (arith, here, grown.steps) in
    let behind = statement_later g m k fit t.value s here (last_covers found n s more) later added in
    let came = statement_come g groups m k fit t.value s refl come added in
    subst (λ (m : ℕ). Sound g m p) counted (from_sound form g groups (if is_edit s then n else found) (n + 1) t.value p more grown.fits all came next behind t.rest)

-- the edges of the first file have come
first_come : (groups : List ℕ) → group_at groups 0 ≡ sum (take 1 groups)
first_come [] = refl
first_come (count ∷ more) = omega arith

pub load_come : (g : GraphData) (groups graph : List ℕ) (k : Known) → load (group_at groups 0) graph ≡ Ok k → AreCome groups k
load_come g groups graph k e =
    let begun = load_begins g (group_at groups 0) graph k e in
    begun.edges ∙ first_come groups ∙ ap (λ (n : ℕ). sum (take n groups)) (sym begun.files)

-- a plan of a script fits the graph, and has one step for each statement after the load
pub plan_sound : (s : Script) (g : GraphData) (groups : List ℕ) (p : Plan) → sum groups ≡ length g.ends → plan s g groups ≡ Ok p → Sound g (length s.statements) p
plan_sound s g groups p all e =
    let last : ℕ = last_edit s.statements in
    let count : ℕ = group_at groups 0 in
    let t = through (at 1 (load count s.graph)) (λ k. plan_from s.form g groups last 2 k s.statements) p (form_passed s g groups p e) in
    let first : load count s.graph ≡ Ok t.value = judged_at 1 (load count s.graph) t.value t.first in
    let begun = load_begins g count s.graph t.value first in
    let counted : length t.value.steps + length s.statements ≡ length s.statements = omega (arith, begun.steps) in
    let shown : All (ShowsOpen last t.value.numbers) t.value.steps = subst (All (ShowsOpen last t.value.numbers)) (sym begun.none) (All-nil (ShowsOpen last t.value.numbers)) in
    let later : Later last t.value = record { edits = λ n lt is. absurd (omega (arith, lt, begun.steps)); works = shown } in
    subst (λ (m : ℕ). Sound g m p) counted (from_sound s.form g groups 0 2 t.value p s.statements begun.fits all (load_come g groups s.graph t.value first) (omega (arith, begun.steps)) later t.rest)
