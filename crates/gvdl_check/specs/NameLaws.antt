-- The collections of a plan, their views and the programs that its runs call have the names that the script gives them, which end no line.
use Rattle.std.proofs.Common.{◌≡◌, ◌≢◌, ℕ, zero, suc, ◌+◌, ◌<◌, ◌≤◌, ◌^◌, ◌&&◌, ℤ, true, not, List, [], ◌∷◌, ◌++◌, length, codes, decimal, Option, Ok, Err, refl, sym, ap, subst, arith, length-append}
use Rattle.std.specs.Prelude.{All, nat_lt, nat_le, get_or}
use Rattle.std.specs.List.{range_with_len, list_all}
use Rattle.std.proofs.lemmas.Bool.Decides.{nat_tests}
use Rattle.std.specs.Str.Parse.{AllDigits}
use Rattle.std.proofs.lemmas.Fmt.{decimal_is_IsNumeral}
use Rattle.std.proofs.lemmas.Str.Parse.{digit_from_value}
use Rattle.std.proofs.lemmas.List.Elements.{All-nil, All-cons, All-head, All-tail, All-append, All-get_or, All-push, All-set}
use Rattle.graph_model.specs.GraphData.{GraphData}
use Rattle.gvdl_tree.specs.declared.predicate.PredTree.{PredTree}
use Rattle.gvdl_tree.specs.declared.expression.ExprTree.{ExprTree}
use Rattle.gvdl_tree.specs.declared.script.Along.{Along}
use Rattle.gvdl_tree.specs.declared.script.Call.{Call}
use Rattle.gvdl_tree.specs.declared.script.Gather.{Gather}
use Rattle.gvdl_tree.specs.declared.script.Item.{Item}
use Rattle.gvdl_tree.specs.declared.script.ItemBody.{ItemBody}
use Rattle.gvdl_tree.specs.declared.script.ItemBody.TheVariants as body
use Rattle.gvdl_tree.specs.declared.script.Script.{Script}
use Rattle.gvdl_tree.specs.declared.script.Statement.{Statement}
use Rattle.gvdl_tree.specs.declared.script.Statement.TheVariants as statement
use Rattle.edge_predicates.specs.declared.pred.Pred.{Pred}
use Rattle.gvdl_programs.specs.declared.refusal.Refusal.TheVariants as refusal
use Rattle.gvdl_programs.specs.declared.template.ProgramTemplate.{ProgramTemplate}
use Rattle.gvdl_programs.specs.Judging.{Judged, ◌>>=◌, expect, in_turn}
use Rattle.gvdl_programs.specs.JudgingLaws.{through, same_value, expected}
use Rattle.gvdl_programs.specs.Columns.{column_of, int_column}
use Rattle.gvdl_programs.specs.Programs.{declared}
use Rattle.gvdl_check.specs.declared.call.Limits.{Limits}
use Rattle.gvdl_check.specs.declared.plan.ViewPlan.{ViewPlan}
use Rattle.gvdl_check.specs.declared.plan.CollectionPlan.{CollectionPlan}
use Rattle.gvdl_check.specs.declared.plan.RunPlan.{RunPlan}
use Rattle.gvdl_check.specs.declared.plan.Step.TheVariants as step
use Rattle.gvdl_check.specs.declared.plan.Plan.{Plan}
use Rattle.gvdl_check.specs.declared.known.Known.{Known}
use Rattle.gvdl_check.specs.declared.statement.Moment.{Moment}
use Rattle.gvdl_check.specs.Faults.{at}
use Rattle.gvdl_check.specs.Known.{collection_plan, collection_at, views_in, with_views, with_step, with_single, with_collection, with_append, with_program, with_insert, with_run}
use Rattle.gvdl_check.specs.Names.{NameList, new_name, base_of, collection_of, kept_of}
use Rattle.gvdl_check.specs.Predicates.{predicate}
use Rattle.gvdl_check.specs.Singles.{rules_at}
use Rattle.gvdl_check.specs.Views.{view_on, new_view, room, rule_added, is_window, window_count, window_name, windowed, window_added, slid, windows_added, body_added, item_added, items_added}
use Rattle.gvdl_check.specs.Plans.{group_at, load, single, collection, views_appended, append, program, keep_added, run_planned, run, limits_of, keep_of, last_edit, remove, sum_of, aggregate, show_order, show_tree, show_work, statement_added, statement_judged, plan_of, moment, plan_from, plan}
use Rattle.gvdl_check.specs.KnownLaws.{loaded_so}
use Rattle.gvdl_check.specs.PlanLaws.{judged_at, added_so, form_passed}
use Rattle.gvdl_check.specs.CallLaws.{CallHolds, calls_hold}
use Rattle.gvdl_check.specs.NameLines.{CallNamed, CollectionNamed, IsLine, PlanNamed, ViewNamed}
use Rattle.gvdl_check.specs.Written.{IsWritten}
use Rattle.gvdl_check.specs.WrittenNames.{IsNamed, ItemNamed, written_names}

-- ---- numbers

digits_other : (ds : List ℕ) → AllDigits 10 ds → IsLine ds
digits_other [] h = All-nil (λ b. b ≢ 10)
digits_other (c ∷ cs) h = All-cons (λ b. b ≢ 10) c cs (λ e. omega (arith, digit_from_value c h.0, e)) (digits_other cs h.1)

pub digits_line : (n : ℕ) → n < 2 ^ 64 → IsLine (decimal n)
digits_line n small = digits_other (decimal n) (decimal_is_IsNumeral n small).0.1

pub line-append : (xs ys : List ℕ) → IsLine xs → IsLine ys → IsLine (xs ++ ys)
line-append xs ys h k = All-append (λ b. b ≢ 10) xs ys h k

-- ---- views

-- what is judged to be views has such names
abbrev Gives : Judged (List ViewPlan) → Type 0
Gives said = (next : List ViewPlan) → said ≡ Ok next → All ViewNamed next

module _ (g : GraphData) (base : List Pred) where
  rule_named : (views : List ViewPlan) (name : List ℕ) (tree : PredTree) → All ViewNamed views → IsLine name → Gives (rule_added g base views name tree)
  rule_named views name tree held line next e =
      let made : Pred → List ViewPlan = λ p. views ++ view_on base name p ∷ [] in
      let a = through (new_view views name) (λ _. predicate g tree >>= λ p. room views >>= λ _. Ok (made p)) next e in
      let b = through (predicate g tree) (λ p. room views >>= λ _. Ok (made p)) next a.rest in
      let c = through (room views) (λ _. Ok (made b.value)) next b.rest in
      subst (All ViewNamed) (same_value (made b.value) next c.rest) (All-push ViewNamed views (view_on base name b.value) held line)

  module _ (name : List ℕ) (line : IsLine name) (column : ℕ) (first : ℤ) (width step : ℕ) where
    abbrev one_added : List ViewPlan → ℕ → Judged (List ViewPlan)
    one_added views i = window_added base name column first width step views i

    window_line : (i : ℕ) → i < 1_024 → IsLine (window_name name i)
    window_line i few = line-append name (codes "-" ++ decimal (i + 1)) line (All-cons (λ b. b ≢ 10) 45 (decimal (i + 1)) (λ e. omega (arith, e)) (digits_line (i + 1) (omega (arith, few))))

    windows_named : (n i : ℕ) (views : List ViewPlan) → i ≤ length views → All ViewNamed views → Gives (in_turn one_added views (range_with_len i n))
    windows_named zero i views le held next e = subst (All ViewNamed) (same_value views next e) held
    windows_named (suc n) i views le held next e =
        let view = windowed base name column first width step i in
        let t = through (one_added views i) (λ more. in_turn one_added more (range_with_len (i + 1) n)) next e in
        let a = through (new_view views (window_name name i)) (λ _. room views >>= λ _. Ok (views ++ view ∷ [])) t.value t.first in
        let b = through (room views) (λ _. Ok (views ++ view ∷ [])) t.value a.rest in
        let roomy : nat_lt (length views) 1_024 ≡ true = expected (nat_lt (length views) 1_024) refusal.TooManyViews b.value b.first in
        let few : i < 1_024 = (let below : length views < 1_024 = grind (arith, nat_tests) in omega (arith, below, le)) in
        let same : views ++ view ∷ [] ≡ t.value = same_value (views ++ view ∷ []) t.value b.rest in
        windows_named n (i + 1) t.value (omega (arith, le, ap (λ (vs : List ViewPlan). length vs) same, length-append views (view ∷ [])))
        (subst (All ViewNamed) same (All-push ViewNamed views view held (window_line i few))) next t.rest

  body_named : (views : List ViewPlan) (name : List ℕ) (b : ItemBody) → All ViewNamed views → IsLine name → Gives (body_added g base views name b)
  body_named views name (body.Rule tree) held line next e = rule_named views name tree held line next e
  body_named views name (body.Window property first last width step) held line next e =
      let a = through (int_column g.edge_columns property) (λ column. expect (is_window first last width step) refusal.WrongArguments >>= λ _. slid base name column first last width step views) next e in
      let b = through (expect (is_window first last width step) refusal.WrongArguments) (λ _. slid base name a.value first last width step views) next a.rest in
      windows_named name line a.value first width step (window_count first last step) 0 views (omega arith) held next b.rest

  items_named : (items : List Item) (views : List ViewPlan) → All ItemNamed items → All ViewNamed views → Gives (items_added g base views items)
  items_named [] views named held next e = subst (All ViewNamed) (same_value views next e) held
  items_named (item ∷ more) views named held next e =
      let t = through (item_added g base views item) (λ c. items_added g base c more) next e in
      items_named more t.value (All-tail ItemNamed item more named) (body_named views item.name item.body held (All-head ItemNamed item more named) t.value t.first) next t.rest

-- ---- collections

abbrev KnownNamed : Known → Type 0
KnownNamed k = All CollectionNamed k.collections

abbrev Holds : Judged Known → Type 0
Holds said = (next : Known) → said ≡ Ok next → KnownNamed next

past : {A : Type 0} (said : Judged A) (f : A → Judged Known) → ((a : A) → Holds (f a)) → Holds (said >>= f)
past (Ok a) f h next e = h a next e
past (Err r) f h next e = absurd cc

module _ (g : GraphData) (k : Known) (held : KnownNamed k) where
  done : (next : Known) → next.collections ≡ k.collections → Holds (Ok next)
  done made same next e = subst KnownNamed (same_value made next e) (subst (All CollectionNamed) (sym same) held)

  single_holds : (name base : List ℕ) (tree : PredTree) → Holds (single g k name base tree)
  single_holds name base tree =
      let last : Option ℕ → Pred → Judged Known = λ place p. Ok (with_single k name place p) in
      past (new_name k.names name) (λ _. base_of k.names base >>= λ place. predicate g tree >>= last place)
      (λ _. past (base_of k.names base) (λ place. predicate g tree >>= last place)
      (λ place. past (predicate g tree) (last place) (λ p. done (with_single k name place p) refl)))

  collection_holds : (name base : List ℕ) (items : List Item) → IsLine name → All ItemNamed items → Holds (collection g k name base items)
  collection_holds name base items line named next e =
      let views_on : Option ℕ → Judged (List ViewPlan) = λ place. items_added g (rules_at k.singles place) [] items in
      let last : Option ℕ → List ViewPlan → Judged Known = λ place views. Ok (with_collection k name place views) in
      let a = through (new_name k.names name) (λ _. base_of k.names base >>= λ place. views_on place >>= last place) next e in
      let b = through (base_of k.names base) (λ place. views_on place >>= last place) next a.rest in
      let c = through (views_on b.value) (last b.value) next b.rest in
      let views : All ViewNamed c.value = items_named g (rules_at k.singles b.value) items [] named (All-nil ViewNamed) c.value c.first in
      subst KnownNamed (same_value (with_collection k name b.value c.value) next c.rest) (All-push CollectionNamed k.collections (collection_plan name c.value) held (record { name = line; views = views }))

  -- the collection at a place, where one is, or one without a name and views
  named_at : (place : ℕ) → CollectionNamed (collection_at k.collections place)
  named_at place = by k.collections place held where
    by : (cs : List CollectionPlan) (place : ℕ) → All CollectionNamed cs → CollectionNamed (collection_at cs place)
    by [] place h = record { name = All-nil (λ b. b ≢ 10); views = All-nil ViewNamed }
    by (c ∷ cs) zero h = All-head CollectionNamed c cs h
    by (c ∷ cs) (suc place) h = by cs place (All-tail CollectionNamed c cs h)

  append_holds : (target : List ℕ) (items : List Item) → All ItemNamed items → Holds (append g k target items)
  append_holds target items named next e =
      let more_on : ℕ × Option ℕ → Judged (List CollectionPlan) = λ found. views_appended g (rules_at k.singles found.1) k.collections found.0 items in
      let last : ℕ × Option ℕ → List CollectionPlan → Judged Known = λ found cs. Ok (with_append k found.0 cs) in
      let a = through (collection_of k.names target) (λ found. more_on found >>= last found) next e in
      let b = through (more_on a.value) (last a.value) next a.rest in
      let place = a.value.0 in
      let base = rules_at k.singles a.value.1 in
      let c = through (items_added g base (views_in k.collections place) items) (λ views. Ok (with_views k.collections place views)) b.value b.first in
      let views : All ViewNamed c.value = items_named g base items (views_in k.collections place) named (named_at place).views c.value c.first in
      let set_named : All CollectionNamed (with_views k.collections place c.value) =
      All-set CollectionNamed k.collections place (collection_plan (collection_at k.collections place).name c.value) (record { name = (named_at place).name; views = views }) held in
      subst KnownNamed (same_value (with_append k place b.value) next b.rest) (subst (All CollectionNamed) (same_value (with_views k.collections place c.value) b.value c.rest) set_named)

  program_holds : (name : List ℕ) (params : List (List ℕ)) (way : Along) (start send : ExprTree) (how : Gather) (update : ExprTree) → Holds (program g k name params way start send how update)
  program_holds name params way start send how update =
      let last : ProgramTemplate → Judged Known = λ t. Ok (with_program k name t) in
      let said : Judged ProgramTemplate = declared g params way start send how update in
      past (new_name k.names name) (λ _. said >>= last) (λ _. past said last (λ t. done (with_program k name t) refl))

  run_holds : (number : ℕ) (call : Call) (target : List ℕ) (limits : Limits) (keep : Option (List ℕ)) → Holds (run g number k call target limits keep)
  run_holds number call target limits keep =
      let taken : Judged NameList = keep_added k.names k.runs keep in
      let last : RunPlan → NameList → Judged Known = λ planned names. Ok (with_run k number names planned) in
      past (run_planned g k.names call target limits keep) (λ planned. taken >>= last planned)
      (λ planned. past taken (last planned) (λ names. done (with_run k number names planned) refl))

  work_holds : (last : ℕ) (name : List ℕ) → Holds (show_work last k name)
  work_holds last name =
      past (kept_of k.names name) (λ place. expect (not (nat_lt (get_or k.numbers place 0) last)) refusal.WorkEdited >>= λ _. Ok (with_step k (step.ShowWork place)))
      (λ place. past (expect (not (nat_lt (get_or k.numbers place 0) last)) refusal.WorkEdited) (λ _. Ok (with_step k (step.ShowWork place))) (λ _. done (with_step k (step.ShowWork place)) refl))

  aggregate_holds : (target by : List ℕ) (sum : Option (List ℕ)) → Holds (aggregate g k target by sum)
  aggregate_holds target by sum =
      let last : ℕ → ℕ → Option ℕ → Judged Known = λ place column summed. Ok (with_step k (step.Aggregate place column summed)) in
      past (collection_of k.names target) (λ found. column_of g.node_columns by >>= λ column. sum_of g sum >>= last found.0 column.0)
      (λ found. past (column_of g.node_columns by) (λ column. sum_of g sum >>= last found.0 column.0)
      (λ column. past (sum_of g sum) (last found.0 column.0) (λ summed. done (with_step k (step.Aggregate found.0 column.0 summed)) refl)))

  statement_holds : (m : Moment) (s : Statement) → IsNamed s → Holds (statement_added g m k s)
  statement_holds m (statement.View name base tree) h = single_holds name base tree
  statement_holds m (statement.Collection name base items) h = collection_holds name base items h.0 h.1
  statement_holds m (statement.Program name params way start send how update) h = program_holds name params way start send how update
  statement_holds m (statement.Run call target within number o d keep phases) h = run_holds m.number call target (limits_of within number o d phases) (keep_of phases keep)
  statement_holds m (statement.Append target items) h = append_holds target items h
  statement_holds m (statement.ShowOrder name) h = past (collection_of k.names name) (λ found. Ok (with_step k (step.ShowOrder found.0))) (λ found. done (with_step k (step.ShowOrder found.0)) refl)
  statement_holds m (statement.ShowWork name) h = work_holds m.last_edit name
  statement_holds m (statement.ShowTree name) h = past (collection_of k.names name) (λ found. Ok (with_step k (step.ShowTree found.0))) (λ found. done (with_step k (step.ShowTree found.0)) refl)
  statement_holds m (statement.Insert file) h = done (with_insert k m.group) refl
  statement_holds m (statement.Remove tree) h = past (predicate g tree) (λ p. Ok (with_step k (step.Remove p))) (λ p. done (with_step k (step.Remove p)) refl)
  statement_holds m (statement.Aggregate target by sum) h = aggregate_holds target by sum

from_holds : (form : Option ℕ) (g : GraphData) (groups : List ℕ) (last n : ℕ) (k : Known) (p : Plan) (ss : List Statement) → KnownNamed k → All IsNamed ss → plan_from form g groups last n k ss ≡ Ok p → All CollectionNamed p.collections
from_holds form g groups last n k p [] held h e = subst (λ (q : Plan). All CollectionNamed q.collections) (same_value (plan_of last k) p e) held
from_holds form g groups last n k p (s ∷ more) held h e =
    let m : Moment = moment n last (group_at groups k.files) in
    let t = through (at n (statement_judged form g m k s)) (λ next. plan_from form g groups last (n + 1) next more) p e in
    let added : statement_added g m k s ≡ Ok t.value = added_so form g m k t.value s (judged_at n (statement_judged form g m k s) t.value t.first) in
    from_holds form g groups last (n + 1) t.value p more (statement_holds g k held m s (All-head IsNamed s more h) t.value added) (All-tail IsNamed s more h) t.rest

collections_named : (s : Script) (g : GraphData) (groups : List ℕ) (p : Plan) → All IsNamed s.statements → plan s g groups ≡ Ok p → All CollectionNamed p.collections
collections_named s g groups p h e =
    let last : ℕ = last_edit s.statements in
    let count : ℕ = group_at groups 0 in
    let t = through (at 1 (load count s.graph)) (λ k. plan_from s.form g groups last 2 k s.statements) p (form_passed s g groups p e) in
    from_holds s.form g groups last 2 t.value p s.statements (subst KnownNamed (loaded_so count s.graph t.value (judged_at 1 (load count s.graph) t.value t.first)) (All-nil CollectionNamed)) h t.rest

-- ---- calls

-- what is said of names is said of the call of a run
calls_named : (ss : List Statement) → All IsNamed ss → All (CallHolds CallNamed) ss
calls_named [] h = All-nil (CallHolds CallNamed)
calls_named (s ∷ ss) h = All-cons (CallHolds CallNamed) s ss (one s (All-head IsNamed s ss h)) (calls_named ss (All-tail IsNamed s ss h)) where
  one : (s : Statement) → IsNamed s → CallHolds CallNamed s
  one (statement.View name base tree) h = tt
  one (statement.Collection name base items) h = tt
  one (statement.Program name params along start send gather update) h = tt
  one (statement.Run call target within number order split keep phases) h = h
  one (statement.Append target items) h = tt
  one (statement.ShowOrder name) h = tt
  one (statement.ShowWork name) h = tt
  one (statement.ShowTree name) h = tt
  one (statement.Insert file) h = tt
  one (statement.Remove rule) h = tt
  one (statement.Aggregate target by sum) h = tt

pub names_are_lines : (s : Script) (g : GraphData) (groups : List ℕ) (p : Plan) → IsWritten s → plan s g groups ≡ Ok p → PlanNamed p
names_are_lines s g groups p written e =
    let named = written_names s written in
    record { collections = collections_named s g groups p named e; calls = calls_hold CallNamed s g groups p (calls_named s.statements named) e }
