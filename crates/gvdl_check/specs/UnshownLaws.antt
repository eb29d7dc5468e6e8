-- A script without its shows and aggregates has a plan where the script has one: the same but for the steps that show something.
use Rattle.std.proofs.Common.{◌≡◌, ◌∙◌, ℕ, ◌+◌, Bool, true, false, not, cond, List, [], ◌∷◌, ◌++◌, length, map, filter, Option, Result, Ok, Err, refl, sym, ap, subst, arith}
use Rattle.std.specs.Prelude.{nat_lt, get_or}
use Rattle.graph_model.specs.GraphData.{GraphData}
use Rattle.gvdl_tree.specs.declared.predicate.PredTree.{PredTree}
use Rattle.gvdl_tree.specs.declared.expression.ExprTree.{ExprTree}
use Rattle.gvdl_tree.specs.declared.script.Along.{Along}
use Rattle.gvdl_tree.specs.declared.script.Call.{Call}
use Rattle.gvdl_tree.specs.declared.script.Gather.{Gather}
use Rattle.gvdl_tree.specs.declared.script.Item.{Item}
use Rattle.gvdl_tree.specs.declared.script.Script.{Script}
use Rattle.gvdl_tree.specs.declared.script.Statement.{Statement}
use Rattle.gvdl_tree.specs.declared.script.Statement.TheVariants as statement
use Rattle.edge_predicates.specs.declared.pred.Pred.{Pred}
use Rattle.gvdl_programs.specs.declared.template.ProgramTemplate.{ProgramTemplate}
use Rattle.gvdl_programs.specs.declared.refusal.Refusal.TheVariants as refusal
use Rattle.gvdl_programs.specs.Judging.{Judged, ◌>>=◌, expect}
use Rattle.gvdl_programs.specs.JudgingLaws.{through, same_value}
use Rattle.gvdl_programs.specs.Columns.{column_of}
use Rattle.gvdl_programs.specs.Programs.{declared}
use Rattle.gvdl_check.specs.declared.call.Limits.{Limits}
use Rattle.gvdl_check.specs.declared.fault.CheckFault.{CheckFault}
use Rattle.gvdl_check.specs.declared.plan.ViewPlan.{ViewPlan}
use Rattle.gvdl_check.specs.declared.plan.CollectionPlan.{CollectionPlan}
use Rattle.gvdl_check.specs.declared.plan.RunPlan.{RunPlan}
use Rattle.gvdl_check.specs.declared.plan.Step.{Step}
use Rattle.gvdl_check.specs.declared.plan.Step.TheVariants as step
use Rattle.gvdl_check.specs.declared.plan.Plan.{Plan}
use Rattle.gvdl_check.specs.declared.known.Known.{Known}
use Rattle.gvdl_check.specs.declared.statement.Moment.{Moment}
use Rattle.gvdl_check.specs.Faults.{at}
use Rattle.gvdl_check.specs.Forms.{form_judged, suits}
use Rattle.gvdl_check.specs.Known.{append_step, with_step, with_single, with_collection, with_append, with_program, with_insert, with_run}
use Rattle.gvdl_check.specs.Names.{NameList, new_name, base_of, collection_of, kept_of}
use Rattle.gvdl_check.specs.Predicates.{predicate}
use Rattle.gvdl_check.specs.Singles.{rules_at}
use Rattle.gvdl_check.specs.Views.{items_added}
use Rattle.gvdl_check.specs.Continued.{unmarked}
use Rattle.gvdl_check.specs.Plans.{group_at, load, single, collection, views_appended, append, program, keep_added, run_planned, run, limits_of, keep_of, last_edit, remove, sum_of, aggregate, show_order, show_tree, show_work, statement_added, statement_judged, plan_of, moment, plan_from, plan_loaded, plan}
use Rattle.gvdl_check.specs.Fits.{KnownFits}
use Rattle.gvdl_check.specs.KnownLaws.{loaded_so, load_begins}
use Rattle.gvdl_check.specs.PlanLaws.{judged_at, added_so, judged_grows}
use Rattle.gvdl_check.specs.ContinuedLaws.{unmarked_runs}
use Rattle.gvdl_check.specs.Shows.{HasUnshown, IsUnshown, is_show, shows, unshown, without_shows}

-- ---- steps that show nothing

unshown_more : (steps more : List Step) → unshown (steps ++ more) ≡ unshown steps ++ unshown more
unshown_more [] more = refl
unshown_more (s ∷ steps) more = by (is_show s) (unshown_more steps more) where
  by : (b : Bool) → unshown (steps ++ more) ≡ unshown steps ++ unshown more → cond (not b) (s ∷ unshown (steps ++ more)) (unshown (steps ++ more)) ≡ cond (not b) (s ∷ unshown steps) (unshown steps) ++ unshown more
  by true e = e
  by false e = ap (λ (ss : List Step). s ∷ ss) e

pub stays : (steps : List Step) (s : Step) → is_show s ≡ false → unshown (steps ++ s ∷ []) ≡ unshown steps ++ s ∷ []
stays steps s e = unshown_more steps (s ∷ []) ∙ ap (λ (b : Bool). unshown steps ++ cond (not b) (s ∷ []) []) e

pub goes : (steps : List Step) (s : Step) → is_show s ≡ true → unshown (steps ++ s ∷ []) ≡ unshown steps ++ []
goes steps s e = unshown_more steps (s ∷ []) ∙ ap (λ (b : Bool). unshown steps ++ cond (not b) (s ∷ []) []) e

nothing_behind : (steps : List Step) → steps ++ [] ≡ steps
nothing_behind [] = refl
nothing_behind (s ∷ steps) = ap (λ (ss : List Step). s ∷ ss) (nothing_behind steps)

-- ---- what is known, without the steps that show something

-- with other numbers of statements
abbrev cut : List ℕ → Known → Known
cut numbers k = record k { numbers = numbers; steps = unshown k.steps }

abbrev cut_as : List ℕ → Known → List Step → Known
cut_as numbers k steps = record k { numbers = numbers; steps = steps }

-- behind one more step, which stays
cut_more : (numbers : List ℕ) (k : Known) (before : List Step) (s : Step) → is_show s ≡ false → k.steps ≡ before ++ s ∷ [] → cut_as numbers k (unshown before ++ s ∷ []) ≡ cut numbers k
cut_more numbers k before s e is = ap (cut_as numbers k) (sym (stays before s e) ∙ ap unshown (sym is))

-- behind one that goes
cut_same : (numbers : List ℕ) (k : Known) (s : Step) → is_show s ≡ true → cut numbers (with_step k s) ≡ cut numbers k
cut_same numbers k s e = ap (cut_as numbers k) (goes k.steps s e ∙ nothing_behind (unshown k.steps))

-- ---- one statement

-- the first judgement gives what is known, and the second the same without what is shown
abbrev Follows : Judged Known → Judged Known → (Known → Known) → Type 0
Follows said other f = (next : Known) → said ≡ Ok next → other ≡ Ok (f next)

carried : {A : Type 0} (said : Judged A) (first second : A → Judged Known) (f : Known → Known) → ((a : A) → Follows (first a) (second a) f) → Follows (said >>= first) (said >>= second) f
carried (Ok a) first second f h next e = h a next e
carried (Err r) first second f h next e = absurd cc

done : (made other : Known) (f : Known → Known) → other ≡ f made → Follows (Ok made) (Ok other) f
done made other f same next e = ap Ok (same ∙ ap f (same_value made next e))

module _ (g : GraphData) (k : Known) (numbers : List ℕ) where
  abbrev less : Known
  less = cut numbers k

  single_follows : (name base : List ℕ) (tree : PredTree) → Follows (single g k name base tree) (single g less name base tree) (cut numbers)
  single_follows name base tree =
      let last : Known → Option ℕ → Pred → Judged Known = λ x place p. Ok (with_single x name place p) in
      carried (new_name k.names name) (λ _. base_of k.names base >>= λ place. predicate g tree >>= last k place) (λ _. base_of k.names base >>= λ place. predicate g tree >>= last less place) (cut numbers)
      (λ _. carried (base_of k.names base) (λ place. predicate g tree >>= last k place) (λ place. predicate g tree >>= last less place) (cut numbers)
      (λ place. carried (predicate g tree) (last k place) (last less place) (cut numbers)
      (λ p. done (with_single k name place p) (with_single less name place p) (cut numbers) (cut_more numbers (with_single k name place p) k.steps step.Nothing refl refl))))

  collection_follows : (name base : List ℕ) (items : List Item) → Follows (collection g k name base items) (collection g less name base items) (cut numbers)
  collection_follows name base items =
      let views_on : Option ℕ → Judged (List ViewPlan) = λ place. items_added g (rules_at k.singles place) [] items in
      let last : Known → Option ℕ → List ViewPlan → Judged Known = λ x place views. Ok (with_collection x name place views) in
      carried (new_name k.names name) (λ _. base_of k.names base >>= λ place. views_on place >>= last k place) (λ _. base_of k.names base >>= λ place. views_on place >>= last less place) (cut numbers)
      (λ _. carried (base_of k.names base) (λ place. views_on place >>= last k place) (λ place. views_on place >>= last less place) (cut numbers)
      (λ place. carried (views_on place) (last k place) (last less place) (cut numbers)
      (λ views. done (with_collection k name place views) (with_collection less name place views) (cut numbers)
      (cut_more numbers (with_collection k name place views) k.steps (step.Make (length k.collections) (length views)) refl refl))))

  append_follows : (target : List ℕ) (items : List Item) → Follows (append g k target items) (append g less target items) (cut numbers)
  append_follows target items =
      let more_on : ℕ × Option ℕ → Judged (List CollectionPlan) = λ found. views_appended g (rules_at k.singles found.1) k.collections found.0 items in
      let last : Known → ℕ × Option ℕ → List CollectionPlan → Judged Known = λ x found cs. Ok (with_append x found.0 cs) in
      carried (collection_of k.names target) (λ found. more_on found >>= last k found) (λ found. more_on found >>= last less found) (cut numbers)
      (λ found. carried (more_on found) (last k found) (last less found) (cut numbers)
      (λ cs. done (with_append k found.0 cs) (with_append less found.0 cs) (cut numbers) (cut_more numbers (with_append k found.0 cs) k.steps (append_step k.collections cs found.0) refl refl)))

  program_follows : (name : List ℕ) (params : List (List ℕ)) (way : Along) (start send : ExprTree) (how : Gather) (update : ExprTree)
      → Follows (program g k name params way start send how update) (program g less name params way start send how update) (cut numbers)
  program_follows name params way start send how update =
      let last : Known → ProgramTemplate → Judged Known = λ x t. Ok (with_program x name t) in
      let said : Judged ProgramTemplate = declared g params way start send how update in
      carried (new_name k.names name) (λ _. said >>= last k) (λ _. said >>= last less) (cut numbers)
      (λ _. carried said (last k) (last less) (cut numbers)
      (λ t. done (with_program k name t) (with_program less name t) (cut numbers) (cut_more numbers (with_program k name t) k.steps step.Nothing refl refl)))

  run_follows : (number other : ℕ) (call : Call) (target : List ℕ) (limits : Limits) (keep : Option (List ℕ)) → Follows (run g number k call target limits keep) (run g other less call target limits keep) (cut (numbers ++ other ∷ []))
  run_follows number other call target limits keep =
      let taken : Judged NameList = keep_added k.names k.runs keep in
      let f = cut (numbers ++ other ∷ []) in
      let first : RunPlan → NameList → Judged Known = λ planned names. Ok (with_run k number names planned) in
      let second : RunPlan → NameList → Judged Known = λ planned names. Ok (with_run less other names planned) in
      carried (run_planned g k.names call target limits keep) (λ planned. taken >>= first planned) (λ planned. taken >>= second planned) f
      (λ planned. carried taken (first planned) (second planned) f
      (λ names. done (with_run k number names planned) (with_run less other names planned) f (cut_more (numbers ++ other ∷ []) (with_run k number names planned) k.steps (step.Run (length k.runs)) refl refl)))

  remove_follows : (tree : PredTree) → Follows (remove g k tree) (remove g less tree) (cut numbers)
  remove_follows tree =
      carried (predicate g tree) (λ p. Ok (with_step k (step.Remove p))) (λ p. Ok (with_step less (step.Remove p))) (cut numbers)
      (λ p. done (with_step k (step.Remove p)) (with_step less (step.Remove p)) (cut numbers) (cut_more numbers (with_step k (step.Remove p)) k.steps (step.Remove p) refl refl))

  -- the numbers behind the statement, which has another number now
  abbrev told : Statement → ℕ → List ℕ
  told (statement.Run call target within number o d keep phases) other = numbers ++ other ∷ []
  told _ other = numbers

  added_follows : (m other : Moment) (s : Statement) → shows s ≡ false → other.group ≡ m.group → Follows (statement_added g m k s) (statement_added g other less s) (cut (told s other.number))
  added_follows m other (statement.View name base tree) none same = single_follows name base tree
  added_follows m other (statement.Collection name base items) none same = collection_follows name base items
  added_follows m other (statement.Program name params way start send how update) none same = program_follows name params way start send how update
  added_follows m other (statement.Run call target within number o d keep phases) none same = run_follows m.number other.number call target (limits_of within number o d phases) (keep_of phases keep)
  added_follows m other (statement.Append target items) none same = append_follows target items
  added_follows m other (statement.ShowOrder name) none same = absurd cc
  added_follows m other (statement.ShowWork name) none same = absurd cc
  added_follows m other (statement.ShowTree name) none same = absurd cc
  added_follows m other (statement.Insert file) none same =
      done (with_insert k m.group) (with_insert less other.group) (cut numbers)
      (ap (λ (n : ℕ). with_insert less n) same ∙ cut_more numbers (with_insert k m.group) k.steps (step.Insert k.edges m.group) refl refl)
  added_follows m other (statement.Remove tree) none same = remove_follows tree
  added_follows m other (statement.Aggregate target by sum) none same = absurd cc

  judged_follows : (form : Option ℕ) (m other : Moment) (s : Statement) → shows s ≡ false → other.group ≡ m.group → Follows (statement_judged form g m k s) (statement_judged form g other less s) (cut (told s other.number))
  judged_follows form m other s none same =
      carried (expect (suits form s) refusal.NeedsForm) (λ _. statement_added g m k s) (λ _. statement_added g other less s) (cut (told s other.number)) (λ _. added_follows m other s none same)

  -- ---- a statement that shows something

  -- what is known behind it is what was, with a step that shows something
  record Shown (next : Known) : Type 0 where
    step_of : Step
    is_one : is_show step_of ≡ true
    next_is : with_step k step_of ≡ next

  abbrev Shows : Judged Known → Type 0
  Shows said = (next : Known) → said ≡ Ok next → Shown next

  past : {A : Type 0} (said : Judged A) (f : A → Judged Known) → ((a : A) → Shows (f a)) → Shows (said >>= f)
  past (Ok a) f h next e = h a next e
  past (Err r) f h next e = absurd cc

  ends : (s : Step) → is_show s ≡ true → Shows (Ok (with_step k s))
  ends s is next e = record { step_of = s; is_one = is; next_is = same_value (with_step k s) next e }

  added_shows : (m : Moment) (s : Statement) → shows s ≡ true → Shows (statement_added g m k s)
  added_shows m (statement.View name base tree) is = absurd cc
  added_shows m (statement.Collection name base items) is = absurd cc
  added_shows m (statement.Program name params way start send how update) is = absurd cc
  added_shows m (statement.Run call target within number o d keep phases) is = absurd cc
  added_shows m (statement.Append target items) is = absurd cc
  added_shows m (statement.ShowOrder name) is = past (collection_of k.names name) (λ found. Ok (with_step k (step.ShowOrder found.0))) (λ found. ends (step.ShowOrder found.0) refl)
  added_shows m (statement.ShowWork name) is =
      past (kept_of k.names name) (λ place. expect (not (nat_lt (get_or k.numbers place 0) m.last_edit)) refusal.WorkEdited >>= λ _. Ok (with_step k (step.ShowWork place)))
      (λ place. past (expect (not (nat_lt (get_or k.numbers place 0) m.last_edit)) refusal.WorkEdited) (λ _. Ok (with_step k (step.ShowWork place))) (λ _. ends (step.ShowWork place) refl))
  added_shows m (statement.ShowTree name) is = past (collection_of k.names name) (λ found. Ok (with_step k (step.ShowTree found.0))) (λ found. ends (step.ShowTree found.0) refl)
  added_shows m (statement.Insert file) is = absurd cc
  added_shows m (statement.Remove tree) is = absurd cc
  added_shows m (statement.Aggregate target by sum) is =
      let last : ℕ → ℕ → Option ℕ → Judged Known = λ place column summed. Ok (with_step k (step.Aggregate place column summed)) in
      past (collection_of k.names target) (λ found. column_of g.node_columns by >>= λ column. sum_of g sum >>= last found.0 column.0)
      (λ found. past (column_of g.node_columns by) (λ column. sum_of g sum >>= last found.0 column.0)
      (λ column. past (sum_of g sum) (last found.0 column.0) (λ summed. ends (step.Aggregate found.0 column.0 summed) refl)))

-- ---- statements one after the other

abbrev kept : List Statement → List Statement
kept ss = filter (λ x. not (shows x)) ss

-- what is known fits the graph, and has a step for each statement between the load and the one with this number
record Stands (g : GraphData) (n : ℕ) (k : Known) : Type 0 where
  fits : KnownFits g k
  here : n ≡ length k.steps + 2

stands_on : (form : Option ℕ) (g : GraphData) (m : Moment) (k next : Known) (s : Statement) → Stands g m.number k → statement_judged form g m k s ≡ Ok next → Stands g (m.number + 1) next
stands_on form g m k next s old e =
    let grown = judged_grows form g m k old.fits old.here next s e in
    record { fits = grown.fits; here = omega (arith, old.here, grown.steps) }

module _ (form : Option ℕ) (g : GraphData) (groups : List ℕ) (last other : ℕ) where
  from_unshown : (n m : ℕ) (k : Known) (numbers : List ℕ) (p : Plan) (ss : List Statement) → Stands g n k → Stands g m (cut numbers k) → plan_from form g groups last n k ss ≡ Ok p
      → HasUnshown (plan_from form g groups other m (cut numbers k) (kept ss)) p
  from_unshown n m k numbers p [] first second e =
      let is : plan_of last k ≡ p = same_value (plan_of last k) p e in
      record {
        rest = plan_of other (cut numbers k);
        is = refl;
        less = subst (λ (x : Plan). IsUnshown x (plan_of other (cut numbers k))) is (record {
          loaded = refl;
          collections = refl;
          runs = unmarked_runs other numbers k.runs second.fits.counts.numbers ∙ sym (unmarked_runs last k.numbers k.runs first.fits.counts.numbers);
          steps = refl;
        });
      }
  from_unshown n m k numbers p (s ∷ more) first second e =
      let a : Moment = moment n last (group_at groups k.files) in
      let t = through (at n (statement_judged form g a k s)) (λ next. plan_from form g groups last (n + 1) next more) p e in
      let judged : statement_judged form g a k s ≡ Ok t.value = judged_at n (statement_judged form g a k s) t.value t.first in
      by t.value judged (λ after then stands. from_unshown (n + 1) after t.value then p more (stands_on form g a k t.value s first judged) stands t.rest) (shows s) refl where
        by : (next : Known) → statement_judged form g (moment n last (group_at groups k.files)) k s ≡ Ok next
            → ((after : ℕ) (then : List ℕ) → Stands g after (cut then next) → HasUnshown (plan_from form g groups other after (cut then next) (kept more)) p)
            → (hidden : Bool) → shows s ≡ hidden → HasUnshown (plan_from form g groups other m (cut numbers k) (cond (not hidden) (s ∷ kept more) (kept more))) p
        by next judged rest true is =
            let a : Moment = moment n last (group_at groups k.files) in
            let it = added_shows g k numbers a s is next (added_so form g a k next s judged) in
            let same : cut numbers next ≡ cut numbers k = ap (cut numbers) (sym it.next_is) ∙ cut_same numbers k it.step_of it.is_one in
            subst (λ (x : Known). HasUnshown (plan_from form g groups other m x (kept more)) p) same (rest m numbers (subst (Stands g m) (sym same) second))
        by next judged rest false is =
            let a : Moment = moment n last (group_at groups k.files) in
            let then : List ℕ = told g k numbers s m in
            let here : Moment = moment m other (group_at groups k.files) in
            let less : statement_judged form g here (cut numbers k) s ≡ Ok (cut then next) = judged_follows g k numbers form a here s is refl next judged in
            let on = rest (m + 1) then (stands_on form g here (cut numbers k) (cut then next) s second less) in
            record {
              rest = on.rest;
              is = ap (λ (said : Judged Known). at m said >>= λ x. plan_from form g groups other (m + 1) x (kept more)) less ∙ on.is;
              less = on.less;
            }

-- the plan of the script without what it shows
pub plan_unshown : (s : Script) (g : GraphData) (groups : List ℕ) (p : Plan) → plan s g groups ≡ Ok p → HasUnshown (plan (without_shows s) g groups) p
plan_unshown s g groups p e =
    let count : ℕ = group_at groups 0 in
    let first = through (form_judged s.form) (λ _. plan_loaded s g groups) p e in
    let t = through (at 1 (load count s.graph)) (λ k. plan_from s.form g groups (last_edit s.statements) 2 k s.statements) p first.rest in
    let other : ℕ = last_edit (without_shows s).statements in
    let loads : load count s.graph ≡ Ok t.value = judged_at 1 (load count s.graph) t.value t.first in
    let none : cut [] t.value ≡ t.value = subst (λ (k : Known). cut [] k ≡ k) (loaded_so count s.graph t.value loads) refl in
    let begun = load_begins g count s.graph t.value loads in
    let stands : Stands g 2 t.value = record { fits = begun.fits; here = omega (arith, begun.steps) } in
    let rest = from_unshown s.form g groups (last_edit s.statements) other 2 2 t.value [] p s.statements stands (subst (Stands g 2) (sym none) stands) t.rest in
    record {
      rest = rest.rest;
      is = ap (λ (said : Result (Unit {0}) CheckFault). said >>= λ _. plan_loaded (without_shows s) g groups) first.first
          ∙ ap (λ (said : Result Known CheckFault). said >>= λ k. plan_from s.form g groups other 2 k (without_shows s).statements) t.first
          ∙ ap (λ (k : Known). plan_from s.form g groups other 2 k (without_shows s).statements) (sym none) ∙ rest.is;
      less = rest.less;
    }
