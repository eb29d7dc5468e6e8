-- The plan of a script against a graph, or its first refusal.
use Rattle.std.specs.Prelude.{ℕ, ◌+◌, Bool, true, false, not, ◌&&◌, ◌==◌, nat_le, nat_lt, is_some, if◌then◌else◌}
use Rattle.std.specs.Prelude.{List, [], ◌∷◌, ◌++◌, length, get_or}
use Rattle.std.specs.Prelude.{Option, None, Some, Result, Ok}
use Rattle.std.specs.List.{count_by}
use Rattle.graph_model.specs.GraphData.{GraphData}
use Rattle.gvdl_tree.specs.declared.predicate.PredTree.{PredTree}
use Rattle.gvdl_tree.specs.declared.expression.ExprTree.{ExprTree}
use Rattle.gvdl_tree.specs.declared.script.Along.{Along}
use Rattle.gvdl_tree.specs.declared.script.Call.{Call}
use Rattle.gvdl_tree.specs.declared.script.Gather.{Gather}
use Rattle.gvdl_tree.specs.declared.script.Item.{Item}
use Rattle.gvdl_tree.specs.declared.script.OrderWord.{OrderWord}
use Rattle.gvdl_tree.specs.declared.script.OrderWord.TheVariants as order_word
use Rattle.gvdl_tree.specs.declared.script.SplitWord.{SplitWord}
use Rattle.gvdl_tree.specs.declared.script.SplitWord.TheVariants as split_word
use Rattle.gvdl_tree.specs.declared.script.Statement.{Statement}
use Rattle.gvdl_tree.specs.declared.script.Statement.TheVariants as statement
use Rattle.gvdl_tree.specs.declared.script.Script.{Script}
use Rattle.edge_predicates.specs.declared.pred.Pred.{Pred}
use Rattle.vertex_lang.specs.declared.program.Program.{Program}
use Rattle.vertex_lang.specs.declared.lone.Rounds.{Rounds}
use Rattle.vertex_lang.specs.declared.lone.Rounds.TheVariants as rounds
use Rattle.segment_split.specs.declared.SplitRule.{SplitRule}
use Rattle.segment_split.specs.declared.SplitRule.TheVariants as split
use Rattle.gvdl_programs.specs.declared.refusal.Refusal.TheVariants as refusal
use Rattle.gvdl_programs.specs.Judging.{Judged, ◌>>=◌, ◌>>◌, expect}
use Rattle.gvdl_programs.specs.Columns.{column_of, int_column}
use Rattle.gvdl_programs.specs.Programs.{declared}
use Rattle.gvdl_programs.specs.Calls.{called}
use Rattle.gvdl_check.specs.declared.fault.CheckFault.{CheckFault}
use Rattle.gvdl_check.specs.declared.names.Meaning.TheVariants as meaning
use Rattle.gvdl_check.specs.declared.plan.CollectionPlan.{CollectionPlan}
use Rattle.gvdl_check.specs.declared.plan.OrderRule.{OrderRule}
use Rattle.gvdl_check.specs.declared.plan.OrderRule.TheVariants as order
use Rattle.gvdl_check.specs.declared.plan.RunPlan.{RunPlan}
use Rattle.gvdl_check.specs.declared.plan.Step.TheVariants as step
use Rattle.gvdl_check.specs.declared.plan.Plan.{Plan}
use Rattle.gvdl_check.specs.declared.known.Known.{Known}
use Rattle.gvdl_check.specs.declared.call.Limits.{Limits}
use Rattle.gvdl_check.specs.declared.statement.Moment.{Moment}
use Rattle.gvdl_check.specs.Forms.{form_judged, suits}
use Rattle.gvdl_check.specs.Faults.{at}
use Rattle.gvdl_check.specs.Known.{first_names, loaded, with_step, with_single, with_collection}
use Rattle.gvdl_check.specs.Known.{views_in}
use Rattle.gvdl_check.specs.Known.{with_views, with_append, with_program, with_insert, with_run, runs_marked}
use Rattle.gvdl_check.specs.Names.{NameList, new_name, base_of, collection_of, kept_of, program_of}
use Rattle.gvdl_check.specs.Predicates.{predicate}
use Rattle.gvdl_check.specs.Singles.{rules_at}
use Rattle.gvdl_check.specs.Views.{items_added}

-- ---- the load

-- how many edges come with the file that has this place; none where there is no such file
abbrev pub group_at : List ℕ → ℕ → ℕ
group_at groups place = get_or groups place 0

abbrev pub load : ℕ → List ℕ → Judged Known
load count graph = do
  new_name first_names graph
  Ok (loaded graph count)

-- ---- views

abbrev pub single : GraphData → Known → (name base : List ℕ) → PredTree → Judged Known
single g k name base tree = do
  new_name k.names name
  place ← base_of k.names base
  p ← predicate g tree
  Ok (with_single k name place p)

abbrev pub collection : GraphData → Known → (name base : List ℕ) → List Item → Judged Known
collection g k name base items = do
  new_name k.names name
  place ← base_of k.names base
  views ← items_added g (rules_at k.singles place) [] items
  Ok (with_collection k name place views)

-- the collections, where the one with this place has the views of the items behind its own
abbrev pub views_appended : GraphData → List Pred → List CollectionPlan → ℕ → List Item
    → Judged (List CollectionPlan)
views_appended g base collections place items = do
  views ← items_added g base (views_in collections place) items
  Ok (with_views collections place views)

-- The items stand on what the collection stands on.
abbrev pub append : GraphData → Known → List ℕ → List Item → Judged Known
append g k target items = do
  found ← collection_of k.names target
  collections ← views_appended g (rules_at k.singles found.1) k.collections found.0 items
  Ok (with_append k found.0 collections)

-- ---- programs

abbrev pub program : GraphData → Known → List ℕ → (params : List (List ℕ)) → Along
    → (start send : ExprTree) → Gather → ExprTree → Judged Known
program g k name params along start send gather update = do
  new_name k.names name
  t ← declared g params along start send gather update
  Ok (with_program k name t)

-- ---- runs

abbrev pub are_rounds : ℕ → Bool
are_rounds n = nat_le 1 n && nat_le n 1_000_000

-- `within` this number of rounds, or `for` it
abbrev pub rounds_with : Bool → ℕ → Rounds
rounds_with true n = rounds.Within n
rounds_with false n = rounds.For n

abbrev pub rounds_of : Bool → ℕ → Judged Rounds
rounds_of within n = do
  expect (are_rounds n) refusal.BadRounds
  Ok (rounds_with within n)

-- a run without an order is greedy
abbrev pub order_of : Option OrderWord → OrderRule
order_of None = order.Greedy
order_of (Some order_word.Greedy) = order.Greedy
order_of (Some order_word.Declared) = order.Declared
order_of (Some order_word.Tree) = order.Tree

-- how often the rounds are done, where that is said
abbrev pub are_phases : ℕ → Bool
are_phases n = nat_le 1 n && nat_le n 1_000

abbrev pub phases_of : Option ℕ → Judged (Option ℕ)
phases_of None = Ok None
phases_of (Some n) = do
  expect (are_phases n) refusal.BadRounds
  Ok (Some n)

-- into segments of a number of views, which is not 0
abbrev pub every : ℕ → Judged SplitRule
every n = do
  expect (not (n == 0)) refusal.BadSplit
  Ok (split.Every n)

-- a run without a split is whole
abbrev pub split_of : Option SplitWord → Judged SplitRule
split_of None = Ok split.Whole
split_of (Some split_word.Whole) = Ok split.Whole
split_of (Some (split_word.Every n)) = every n
split_of (Some split_word.Auto) = Ok split.Auto

-- how many of the runs are kept
abbrev pub kept_among : List RunPlan → ℕ
kept_among runs = count_by (λ run. is_some run.keep) runs

-- the names after a run that comes behind these and is kept under this name
abbrev pub keep_added : NameList → List RunPlan → Option (List ℕ) → Judged NameList
keep_added names runs None = Ok names
keep_added names runs (Some name) = do
  new_name names name
  expect (nat_lt (kept_among runs) 64) refusal.TooManyKept
  Ok (names ++ (name, meaning.Kept (length runs)) ∷ [])

-- a run that is not told to be edited
abbrev pub run_plan : ℕ → Call → Program → Rounds × Option ℕ × SplitRule → OrderRule → Option (List ℕ)
    → RunPlan
run_plan place call meant way order keep = record {
  collection = place;
  call = call;
  program = meant;
  rounds = way.0;
  order = order;
  phases = way.1;
  split = way.2;
  keep = keep;
  edited = false;
}

-- the place of the collection that a run is on, and the program that its call means
abbrev pub program_meant : GraphData → NameList → Call → List ℕ → Judged (ℕ × Program)
program_meant g names call target = do
  found ← program_of names call.name
  place ← collection_of names target
  meant ← called g found call.args
  Ok (place.0, meant)

-- how long a run goes on, how often, and then where it starts anew
abbrev pub limits_meant : Limits → Judged (Rounds × Option ℕ × SplitRule)
limits_meant limits = do
  limit ← rounds_of limits.within limits.number
  phases ← phases_of limits.phases
  segments ← split_of limits.split
  Ok (limit, phases, segments)

-- the plan of a run that may be kept under a name, before the name is asked about
abbrev pub run_planned : GraphData → NameList → Call → List ℕ → Limits → Option (List ℕ) → Judged RunPlan
run_planned g names call target limits keep = do
  meant ← program_meant g names call target
  way ← limits_meant limits
  Ok (run_plan meant.0 call meant.1 way (order_of limits.order) keep)

-- what is known after a planned run that may be kept under a name
abbrev pub run_added : ℕ → Known → RunPlan → Option (List ℕ) → Judged Known
run_added number k planned keep = do
  names ← keep_added k.names k.runs keep
  Ok (with_run k number names planned)

abbrev pub run : GraphData → ℕ → Known → Call → List ℕ → Limits → Option (List ℕ) → Judged Known
run g number k call target limits keep = do
  planned ← run_planned g k.names call target limits keep
  run_added number k planned keep

abbrev pub limits_of : Bool → ℕ → Option OrderWord → Option SplitWord → Option ℕ → Limits
limits_of within number o d phases = record { within = within; number = number; order = o; split = d; phases = phases }

-- a run in phases is not kept, whatever a tree holds that no text gives
abbrev pub keep_of : Option ℕ → Option (List ℕ) → Option (List ℕ)
keep_of None keep = keep
keep_of (Some phases) keep = None

-- ---- edges that come and go

abbrev pub is_edit : Statement → Bool
is_edit (statement.Insert file) = true
is_edit (statement.Remove rule) = true
is_edit _ = false

abbrev pub is_insert : Statement → Bool
is_insert (statement.Insert file) = true
is_insert _ = false

-- how many files a statement inserts
abbrev pub files_of : Statement → ℕ
files_of s = if is_insert s then 1 else 0

-- the number of the last statement so far by which edges come or go, where the next one has number n
abbrev pub edit_seen : Statement → (n found : ℕ) → ℕ
edit_seen s n found = if is_edit s then n else found

-- the same behind these statements, of which the first has number n
abbrev pub last_edit_from : (found n : ℕ) → List Statement → ℕ
last_edit_from found n [] = found
last_edit_from found n (s ∷ more) = last_edit_from (edit_seen s n found) (n + 1) more

-- 0 where no edge comes or goes
abbrev pub last_edit : List Statement → ℕ
last_edit statements = last_edit_from 0 2 statements

abbrev pub remove : GraphData → Known → PredTree → Judged Known
remove g k tree = do
  p ← predicate g tree
  Ok (with_step k (step.Remove p))

-- ---- aggregates

abbrev pub sum_of : GraphData → Option (List ℕ) → Judged (Option ℕ)
sum_of g None = Ok None
sum_of g (Some property) = do
  column ← int_column g.edge_columns property
  Ok (Some column)

abbrev pub aggregate : GraphData → Known → (target by : List ℕ) → Option (List ℕ) → Judged Known
aggregate g k target by sum = do
  found ← collection_of k.names target
  column ← column_of g.node_columns by
  summed ← sum_of g sum
  Ok (with_step k (step.Aggregate found.0 column.0 summed))

-- ---- what is shown

abbrev pub show_order : Known → List ℕ → Judged Known
show_order k name = do
  found ← collection_of k.names name
  Ok (with_step k (step.ShowOrder found.0))

abbrev pub show_tree : Known → List ℕ → Judged Known
show_tree k name = do
  found ← collection_of k.names name
  Ok (with_step k (step.ShowTree found.0))

-- the run must not be kept while edges come or go, the last of which do by the statement with this number
abbrev pub show_work : ℕ → Known → List ℕ → Judged Known
show_work last k name = do
  place ← kept_of k.names name
  expect (not (nat_lt (get_or k.numbers place 0) last)) refusal.WorkEdited
  Ok (with_step k (step.ShowWork place))

-- ---- scripts

-- What is known after a statement. It is told its number, that of the last statement by which edges come or go, and how
-- many edges come with the next file.
abbrev pub statement_added : GraphData → Moment → Known → Statement → Judged Known
statement_added g m k (statement.View name base tree) = single g k name base tree
statement_added g m k (statement.Collection name base items) = collection g k name base items
statement_added g m k (statement.Program name params along start send gather update) =
    program g k name params along start send gather update
statement_added g m k (statement.Run call target within number o d keep phases) =
    run g m.number k call target (limits_of within number o d phases) (keep_of phases keep)
statement_added g m k (statement.Append target items) = append g k target items
statement_added g m k (statement.ShowOrder name) = show_order k name
statement_added g m k (statement.ShowWork name) = show_work m.last_edit k name
statement_added g m k (statement.ShowTree name) = show_tree k name
statement_added g m k (statement.Insert file) = Ok (with_insert k m.group)
statement_added g m k (statement.Remove tree) = remove g k tree
statement_added g m k (statement.Aggregate target by sum) = aggregate g k target by sum

-- the same, where it is judged first that the script is of a form that has the statement
abbrev pub statement_judged : Option ℕ → GraphData → Moment → Known → Statement → Judged Known
statement_judged form g m k s = do
  expect (suits form s) refusal.NeedsForm
  statement_added g m k s

abbrev pub plan_of : ℕ → Known → Plan
plan_of last k = record {
  loaded = k.loaded;
  collections = k.collections;
  runs = runs_marked last k.numbers k.runs;
  steps = k.steps;
}

abbrev pub moment : (number last group : ℕ) → Moment
moment number last group = record { number = number; last_edit = last; group = group }

-- The plan after these statements of a script of this form, of which the first has number n. So many edges come with the
-- edges file and with each file that the script inserts, and the last statement by which edges come or go has that number.
abbrev pub plan_from : Option ℕ → GraphData → List ℕ → (last n : ℕ) → Known → List Statement → Result Plan CheckFault
plan_from form g groups last n k [] = Ok (plan_of last k)
plan_from form g groups last n k (s ∷ more) = do
  next ← at n (statement_judged form g (moment n last (group_at groups k.files)) k s)
  plan_from form g groups last (n + 1) next more

-- statement 1 is the load
abbrev pub plan_loaded : Script → GraphData → List ℕ → Result Plan CheckFault
plan_loaded s g groups = do
  k ← at 1 (load (group_at groups 0) s.graph)
  plan_from s.form g groups (last_edit s.statements) 2 k s.statements

-- The form is judged before statement 1. So many edges come with the edges file, and then with each file that is inserted.
abbrev pub plan : Script → GraphData → List ℕ → Result Plan CheckFault
plan s g groups = do
  form_judged s.form
  plan_loaded s g groups
