-- The calls of a plan are calls of its script.
use Rattle.std.proofs.Common.{◌≡◌, ℕ, ◌+◌, List, [], ◌∷◌, refl, ap, sym, subst, Option, Ok, Err}
use Rattle.std.specs.Prelude.{All, not, nat_lt, get_or}
use Rattle.std.proofs.lemmas.List.Elements.{All-nil, All-head, All-tail, All-push}
use Rattle.graph_model.specs.GraphData.{GraphData}
use Rattle.gvdl_tree.specs.declared.predicate.PredTree.{PredTree}
use Rattle.gvdl_tree.specs.declared.expression.ExprTree.{ExprTree}
use Rattle.gvdl_tree.specs.declared.script.Along.{Along}
use Rattle.gvdl_tree.specs.declared.script.Call.{Call}
use Rattle.gvdl_tree.specs.declared.script.Gather.{Gather}
use Rattle.gvdl_tree.specs.declared.script.Item.{Item}
use Rattle.gvdl_tree.specs.declared.script.Script.{Script}
use Rattle.gvdl_tree.specs.declared.script.Statement.{Statement}
use Rattle.gvdl_tree.specs.declared.script.Statement.TheVariants as statement
use Rattle.edge_predicates.specs.declared.pred.Pred.{Pred}
use Rattle.vertex_lang.specs.declared.program.Program.{Program}
use Rattle.vertex_lang.specs.declared.lone.Rounds.{Rounds}
use Rattle.segment_split.specs.declared.SplitRule.{SplitRule}
use Rattle.gvdl_programs.specs.declared.template.ProgramTemplate.{ProgramTemplate}
use Rattle.gvdl_programs.specs.Judging.{Judged, ◌>>=◌, expect}
use Rattle.gvdl_programs.specs.JudgingLaws.{through, same_value}
use Rattle.gvdl_programs.specs.Columns.{column_of}
use Rattle.gvdl_programs.specs.Programs.{declared}
use Rattle.gvdl_check.specs.declared.call.Limits.{Limits}
use Rattle.gvdl_check.specs.declared.plan.ViewPlan.{ViewPlan}
use Rattle.gvdl_check.specs.declared.plan.CollectionPlan.{CollectionPlan}
use Rattle.gvdl_check.specs.declared.plan.RunPlan.{RunPlan}
use Rattle.gvdl_check.specs.declared.plan.Step.TheVariants as step
use Rattle.gvdl_check.specs.declared.plan.Plan.{Plan}
use Rattle.gvdl_check.specs.declared.known.Known.{Known}
use Rattle.gvdl_check.specs.Faults.{at}
use Rattle.gvdl_check.specs.Known.{with_step, with_single, with_collection, with_append, with_program, with_insert, with_run}
use Rattle.gvdl_check.specs.Names.{NameList, new_name, base_of, collection_of, kept_of}
use Rattle.gvdl_check.specs.Predicates.{predicate}
use Rattle.gvdl_check.specs.Singles.{rules_at}
use Rattle.gvdl_check.specs.Views.{items_added}
use Rattle.gvdl_check.specs.Plans.{group_at, load, single, collection, views_appended, append, program, order_of, keep_added, run_plan, program_meant, limits_meant, run_planned, run, limits_of, keep_of, last_edit, remove, sum_of, aggregate, show_order, show_tree, show_work, statement_added, statement_judged, plan_of, moment, plan_from, plan}
use Rattle.gvdl_programs.specs.declared.refusal.Refusal.TheVariants as refusal
use Rattle.gvdl_check.specs.declared.statement.Moment.{Moment}
use Rattle.gvdl_check.specs.KnownLaws.{loaded_so}
use Rattle.gvdl_check.specs.MarkLaws.{each_marked}
use Rattle.gvdl_check.specs.PlanLaws.{judged_at, added_so, form_passed}

module _ (P : Call → Type 0) where
  -- what is said of calls holds of the one in a statement, where there is one
  abbrev pub CallHolds : Statement → Type 0
  CallHolds (statement.Run call target within number o d keep phases) = P call
  CallHolds _ = Unit {0}

  abbrev RunHolds : RunPlan → Type 0
  RunHolds run = P run.call

  abbrev RunsHold : Known → Type 0
  RunsHold k = All RunHolds k.runs

  -- what is judged to be known has such runs
  abbrev Holds : Judged Known → Type 0
  Holds said = (next : Known) → said ≡ Ok next → RunsHold next

  past : {A : Type 0} (said : Judged A) (f : A → Judged Known) → ((a : A) → Holds (f a)) → Holds (said >>= f)
  past (Ok a) f h next e = h a next e
  past (Err r) f h next e = absurd cc

  module _ (g : GraphData) (k : Known) (held : RunsHold k) where
    -- the same runs as before
    done : (next : Known) → next.runs ≡ k.runs → Holds (Ok next)
    done made same next e = subst RunsHold (same_value made next e) (subst (All RunHolds) (sym same) held)

    single_holds : (name base : List ℕ) (tree : PredTree) → Holds (single g k name base tree)
    single_holds name base tree =
        let last : Option ℕ → Pred → Judged Known = λ place p. Ok (with_single k name place p) in
        past (new_name k.names name) (λ _. base_of k.names base >>= λ place. predicate g tree >>= last place)
        (λ _. past (base_of k.names base) (λ place. predicate g tree >>= last place)
        (λ place. past (predicate g tree) (last place) (λ p. done (with_single k name place p) refl)))

    collection_holds : (name base : List ℕ) (items : List Item) → Holds (collection g k name base items)
    collection_holds name base items =
        let views_on : Option ℕ → Judged (List ViewPlan) = λ place. items_added g (rules_at k.singles place) [] items in
        let last : Option ℕ → List ViewPlan → Judged Known = λ place views. Ok (with_collection k name place views) in
        past (new_name k.names name) (λ _. base_of k.names base >>= λ place. views_on place >>= last place)
        (λ _. past (base_of k.names base) (λ place. views_on place >>= last place)
        (λ place. past (views_on place) (last place) (λ views. done (with_collection k name place views) refl)))

    append_holds : (target : List ℕ) (items : List Item) → Holds (append g k target items)
    append_holds target items =
        let more_on : ℕ × Option ℕ → Judged (List CollectionPlan) = λ found. views_appended g (rules_at k.singles found.1) k.collections found.0 items in
        let last : ℕ × Option ℕ → List CollectionPlan → Judged Known = λ found cs. Ok (with_append k found.0 cs) in
        past (collection_of k.names target) (λ found. more_on found >>= last found)
        (λ found. past (more_on found) (last found) (λ cs. done (with_append k found.0 cs) refl))

    program_holds : (name : List ℕ) (params : List (List ℕ)) (way : Along) (start send : ExprTree) (how : Gather) (update : ExprTree) → Holds (program g k name params way start send how update)
    program_holds name params way start send how update =
        let last : ProgramTemplate → Judged Known = λ t. Ok (with_program k name t) in
        let said : Judged ProgramTemplate = declared g params way start send how update in
        past (new_name k.names name) (λ _. said >>= last) (λ _. past said last (λ t. done (with_program k name t) refl))

    planned_call : (call : Call) (target : List ℕ) (limits : Limits) (keep : Option (List ℕ)) (planned : RunPlan) → run_planned g k.names call target limits keep ≡ Ok planned → call ≡ planned.call
    planned_call call target limits keep planned e =
        let made : ℕ × Program → Rounds × Option ℕ × SplitRule → RunPlan = λ it way. run_plan it.0 call it.1 way (order_of limits.order) keep in
        let a = through (program_meant g k.names call target) (λ it. limits_meant limits >>= λ way. Ok (made it way)) planned e in
        let b = through (limits_meant limits) (λ way. Ok (made a.value way)) planned a.rest in
        ap (λ (r : RunPlan). r.call) (same_value (made a.value b.value) planned b.rest)

    run_holds : (number : ℕ) (call : Call) (target : List ℕ) (limits : Limits) (keep : Option (List ℕ)) → P call → Holds (run g number k call target limits keep)
    run_holds number call target limits keep p next e =
        let taken : Judged NameList = keep_added k.names k.runs keep in
        let last : RunPlan → NameList → Judged Known = λ planned names. Ok (with_run k number names planned) in
        let a = through (run_planned g k.names call target limits keep) (λ planned. taken >>= last planned) next e in
        let b = through taken (last a.value) next a.rest in
        subst RunsHold (same_value (with_run k number b.value a.value) next b.rest)
        (All-push RunHolds k.runs a.value held (subst P (planned_call call target limits keep a.value a.first) p))

    order_holds : (name : List ℕ) → Holds (show_order k name)
    order_holds name =
        past (collection_of k.names name) (λ found. Ok (with_step k (step.ShowOrder found.0))) (λ found. done (with_step k (step.ShowOrder found.0)) refl)

    tree_holds : (name : List ℕ) → Holds (show_tree k name)
    tree_holds name =
        past (collection_of k.names name) (λ found. Ok (with_step k (step.ShowTree found.0))) (λ found. done (with_step k (step.ShowTree found.0)) refl)

    work_holds : (last : ℕ) (name : List ℕ) → Holds (show_work last k name)
    work_holds last name =
        past (kept_of k.names name) (λ place. expect (not (nat_lt (get_or k.numbers place 0) last)) refusal.WorkEdited >>= λ _. Ok (with_step k (step.ShowWork place)))
        (λ place. past (expect (not (nat_lt (get_or k.numbers place 0) last)) refusal.WorkEdited) (λ _. Ok (with_step k (step.ShowWork place))) (λ _. done (with_step k (step.ShowWork place)) refl))

    remove_holds : (tree : PredTree) → Holds (remove g k tree)
    remove_holds tree = past (predicate g tree) (λ p. Ok (with_step k (step.Remove p))) (λ p. done (with_step k (step.Remove p)) refl)

    aggregate_holds : (target by : List ℕ) (sum : Option (List ℕ)) → Holds (aggregate g k target by sum)
    aggregate_holds target by sum =
        let last : ℕ → ℕ → Option ℕ → Judged Known = λ place column summed. Ok (with_step k (step.Aggregate place column summed)) in
        past (collection_of k.names target) (λ found. column_of g.node_columns by >>= λ column. sum_of g sum >>= last found.0 column.0)
        (λ found. past (column_of g.node_columns by) (λ column. sum_of g sum >>= last found.0 column.0)
        (λ column. past (sum_of g sum) (last found.0 column.0) (λ summed. done (with_step k (step.Aggregate found.0 column.0 summed)) refl)))

    statement_holds : (m : Moment) (s : Statement) → CallHolds s → Holds (statement_added g m k s)
    statement_holds m (statement.View name base tree) h = single_holds name base tree
    statement_holds m (statement.Collection name base items) h = collection_holds name base items
    statement_holds m (statement.Program name params way start send how update) h = program_holds name params way start send how update
    statement_holds m (statement.Run call target within number o d keep phases) h = run_holds m.number call target (limits_of within number o d phases) (keep_of phases keep) h
    statement_holds m (statement.Append target items) h = append_holds target items
    statement_holds m (statement.ShowOrder name) h = order_holds name
    statement_holds m (statement.ShowWork name) h = work_holds m.last_edit name
    statement_holds m (statement.ShowTree name) h = tree_holds name
    statement_holds m (statement.Insert file) h = done (with_insert k m.group) refl
    statement_holds m (statement.Remove tree) h = remove_holds tree
    statement_holds m (statement.Aggregate target by sum) h = aggregate_holds target by sum

  from_holds : (form : Option ℕ) (g : GraphData) (groups : List ℕ) (last n : ℕ) (k : Known) (p : Plan) (ss : List Statement) → RunsHold k → All CallHolds ss → plan_from form g groups last n k ss ≡ Ok p → All RunHolds p.runs
  from_holds form g groups last n k p [] held h e =
      subst (λ (q : Plan). All RunHolds q.runs) (same_value (plan_of last k) p e) (each_marked RunHolds last (λ number run it. it) k.numbers k.runs held)
  from_holds form g groups last n k p (s ∷ more) held h e =
      let m : Moment = moment n last (group_at groups k.files) in
      let t = through (at n (statement_judged form g m k s)) (λ next. plan_from form g groups last (n + 1) next more) p e in
      let added : statement_added g m k s ≡ Ok t.value = added_so form g m k t.value s (judged_at n (statement_judged form g m k s) t.value t.first) in
      from_holds form g groups last (n + 1) t.value p more (statement_holds g k held m s (All-head CallHolds s more h) t.value added) (All-tail CallHolds s more h) t.rest

  -- what holds of each call of a script holds of each call of its plan
  pub calls_hold : (s : Script) (g : GraphData) (groups : List ℕ) (p : Plan) → All CallHolds s.statements → plan s g groups ≡ Ok p → All (λ run. P run.call) p.runs
  calls_hold s g groups p h e =
      let last : ℕ = last_edit s.statements in
      let count : ℕ = group_at groups 0 in
      let t = through (at 1 (load count s.graph)) (λ k. plan_from s.form g groups last 2 k s.statements) p (form_passed s g groups p e) in
      from_holds s.form g groups last 2 t.value p s.statements (subst RunsHold (loaded_so count s.graph t.value (judged_at 1 (load count s.graph) t.value t.first)) (All-nil RunHolds)) h t.rest
