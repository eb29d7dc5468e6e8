-- What the statements of a plan print.
use Rattle.std.specs.Prelude.{IfSome, ℕ, zero, suc, ◌+◌, ◌-◌, ◌≤◌, ◌==◌, ◌&&◌, nat_lt, Bool, true, false, if◌then◌else◌, List, [], ◌∷◌, ◌++◌, length, map, flat_map, take, drop, sum_by, slice_get, codes, Option, Some, None}
use Rattle.std.specs.List.{range_with_len, last_or}
use Rattle.std.specs.Fmt.{decimal}
use Rattle.graph_model.specs.declared.number.EdgeNo.{EdgeNo}
use Rattle.graph_model.specs.GraphData.{GraphData}
use Rattle.edge_predicates.specs.declared.pred.ViewRule.{ViewRule}
use Rattle.vertex_lang.specs.declared.arc.Arc.{Arc}
use Rattle.vertex_lang.specs.declared.lone.Lone.{Lone}
use Rattle.vertex_lang.specs.Leaves.{IsChecked}
use Rattle.vertex_lang.specs.Expressions.{Answer}
use Rattle.vertex_lang.specs.Arcs.{arcs_between}
use Rattle.vertex_lang.specs.Lone.{number_of, answer_of}
use Rattle.vertex_lang.specs.Phases.{phases_answer}
use Rattle.segment_split.specs.Rule.{HasNumber}
use Rattle.gvdl_check.specs.declared.plan.OrderRule.{OrderRule}
use Rattle.gvdl_check.specs.declared.plan.OrderRule.TheVariants as order
use Rattle.gvdl_check.specs.declared.plan.ViewPlan.{ViewPlan}
use Rattle.gvdl_check.specs.declared.plan.CollectionPlan.{CollectionPlan}
use Rattle.gvdl_check.specs.declared.plan.RunPlan.{RunPlan}
use Rattle.gvdl_check.specs.declared.plan.Step.{Step}
use Rattle.gvdl_check.specs.declared.plan.Step.TheVariants as step
use Rattle.gvdl_check.specs.declared.plan.Plan.{Plan}
use Rattle.gvdl_check.specs.Shows.{is_show}
use Rattle.gvdl_check.specs.Steps.{views_at, runs_at}
use Rattle.gvdl_printer.specs.Canonical.{canonical_call}
use Rattle.view_matrix.specs.Matrices.{in_exactly_one}
use Rattle.view_order.specs.Greedy.{greedy}
use Rattle.tree_order.specs.Trees.{Branch, tree, tree_walk, views_of, walked, weight}
use Rattle.result_tables.specs.declared.form.Form.{Form}
use Rattle.result_tables.specs.declared.form.Form.TheVariants as form
use Rattle.result_tables.specs.declared.table.Table.{Table}
use Rattle.result_tables.specs.TableText.{table_of, head_text, line_end, form_text}
use Rattle.change_text.specs.Blocks.{Block}
use Rattle.change_text.specs.Spelling.{changes_text}
use Rattle.change_text.specs.Writing.{block_of}
use Rattle.view_segment.specs.Tasks.{Task, works_of}
use Rattle.view_engine.specs.Splits.{segments_of}
use Rattle.surge_session.specs.Live.{LiveGraph, graph_at, live_edges}
use Rattle.surge_session.specs.Aggregates.{aggregate_text}

-- a list for what is there, and nothing where nothing is
abbrev pub list_of : {A B : Type 0} → (A → List B) → Option A → List B
list_of f None = []
list_of f (Some a) = f a

-- ---- a view

-- the arcs of a view
abbrev pub view_arcs : LiveGraph → RunPlan → ViewRule → List Arc
view_arcs w run rule = arcs_between run.program.along w.graph (live_edges w rule)

-- the answer of the run's program alone on these arcs, in phases where there are some
abbrev pub answer_over : Answer → GraphData → RunPlan → List Arc → Option ℕ → Lone
answer_over answer g run arcs None = answer_of answer run.program g arcs run.rounds
answer_over answer g run arcs (Some phases) = phases_answer answer run.program g arcs (number_of run.rounds) phases

-- and on the view
abbrev pub view_answer : Answer → LiveGraph → RunPlan → ViewRule → Lone
view_answer answer w run rule = answer_over answer w.graph run (view_arcs w run rule) run.phases

-- what the text of a view's table says: what the table is of, how many edges the view has, and the table
pub record Shown : Type 0 where
  pub head : List ℕ
  pub edges : ℕ
  pub table : Table

abbrev pub view_shown : Answer → LiveGraph → RunPlan → List ℕ → ViewPlan → Shown
view_shown answer w run collection view = record {
  head = head_text collection view.name (canonical_call run.call);
  edges = length (live_edges w view.rule);
  table = table_of (view_answer answer w run view.rule);
}

-- the text of the view's table alone in a form, in the collection of this name
abbrev pub alone : Form → GraphData → Shown → List ℕ
alone form g shown = form_text form shown.head shown.edges g shown.table

abbrev pub view_text : Answer → Form → LiveGraph → RunPlan → List ℕ → ViewPlan → List ℕ
view_text answer form w run collection view = alone form w.graph (view_shown answer w run collection view)

-- its block behind the table before, if there is one
abbrev pub block_behind : GraphData → Option Table → Shown → Block
block_behind g before shown = block_of shown.head g before shown.table

-- tables as blocks, each behind the one before it
abbrev pub blocks_behind : GraphData → Option Table → List Shown → List Block
blocks_behind g before [] = []
blocks_behind g before (shown ∷ more) = block_behind g before shown ∷ blocks_behind g (Some shown.table) more

-- the last of the tables, or the one before them where there are none
abbrev pub last_table : Option Table → List Shown → Option Table
last_table before [] = before
last_table before (shown ∷ more) = last_table (Some shown.table) more

-- the form is that of change texts
abbrev pub is_changes : Form → Bool
is_changes form.Tables = false
is_changes form.Summary = false
is_changes form.Changes = true

-- The tables of a run in a statement, in a form: each alone, or as blocks of a change text, the first of which is full.
abbrev pub tables_in : Form → GraphData → List Shown → List ℕ
tables_in form.Tables g tables = flat_map (alone form.Tables g) tables
tables_in form.Summary g tables = flat_map (alone form.Summary g) tables
tables_in form.Changes g tables = changes_text (blocks_behind g None tables)

-- the tables of these views, in their order
abbrev pub tables_text : Answer → Form → LiveGraph → RunPlan → List ℕ → List ViewPlan → List ℕ
tables_text answer form w run collection views = tables_in form w.graph (map (view_shown answer w run collection) views)

-- ---- an order

-- the edges of the view at this place, and none where there is none
abbrev pub edges_at : LiveGraph → List ViewPlan → Option ℕ → List EdgeNo
edges_at w views None = []
edges_at w views (Some v) = list_of (λ view. live_edges w view.rule) (slice_get views v)

-- how many edges stand in exactly one of two views, or in the view where there is none before it
abbrev pub difference : LiveGraph → List ViewPlan → Option ℕ → ℕ → ℕ
difference w views before v = in_exactly_one (edges_at w views before) (edges_at w views (Some v))

-- each view of an order, with its distance from the one before
abbrev pub with_distances : (Option ℕ → ℕ → ℕ) → Option ℕ → List ℕ → List (ℕ × ℕ)
with_distances distance before [] = []
with_distances distance before (v ∷ vs) = (v, distance before v) ∷ with_distances distance (Some v) vs

-- the views in greedy order, each with its distance from the one before
abbrev pub ordered : LiveGraph → List ViewPlan → List (ℕ × ℕ)
ordered w views = let distance = difference w views in with_distances distance None (greedy distance None (range_with_len 0 (length views)))

-- the name of the view at this place
abbrev pub name_at : List ViewPlan → ℕ → List ℕ
name_at views v = list_of (λ view. view.name) (slice_get views v)

abbrev pub order_line : List ViewPlan → ℕ × ℕ → List ℕ
order_line views line = name_at views line.0 ++ (codes " " ++ (decimal line.1 ++ line_end))

-- the sum of the distances, a line for each view, and `end`
abbrev pub order_text : LiveGraph → List ℕ → List ViewPlan → List ℕ
order_text w collection views =
    let lines = ordered w views in codes "order " ++ (collection ++ (codes " " ++ (decimal (sum_by (λ line. line.1) lines) ++ (line_end ++ (flat_map (order_line views) lines ++ (codes "end" ++ line_end))))))

-- ---- a tree

-- the name of a point, a view or the empty column
abbrev pub point_name : List ViewPlan → Option ℕ → List ℕ
point_name views None = codes "-"
point_name views (Some v) = name_at views v

abbrev pub branch_line : (Option ℕ → ℕ → ℕ) → List ViewPlan → Branch → List ℕ
branch_line distance views b = name_at views b.view ++ (codes " " ++ (point_name views b.parent ++ (codes " " ++ (decimal (distance b.parent b.view) ++ line_end))))

-- the tree's weight and the length of the tree order; a line for each view in the tree order with its parent and the distance to it;
-- and `end`
abbrev pub tree_text : LiveGraph → List ℕ → List ViewPlan → List ℕ
tree_text w collection views =
    let distance = difference w views in
    let places = range_with_len 0 (length views) in
    let walk = tree_walk distance places in
    codes "tree " ++ (collection ++ (codes " " ++ (decimal (weight distance (tree distance places)) ++ (codes " " ++ (decimal (walked distance None (views_of walk)) ++ (line_end ++ (flat_map (branch_line distance views) walk ++ (codes "end" ++ line_end))))))))

-- ---- what there is before a statement, which counts from 0

-- the views that this collection has before this step, in declared order
abbrev pub views_before : Plan → ℕ → CollectionPlan → ℕ → List ViewPlan
views_before p n collection place = take (views_at p n place) collection.views

-- the views that the collection at this place has before this step, in declared order
abbrev pub made_at : Plan → ℕ → ℕ → List ViewPlan
made_at p n place = list_of (λ c. views_before p n c place) (slice_get p.collections place)

-- the views that this step gives to this collection
abbrev pub views_added : Plan → ℕ → CollectionPlan → ℕ → List ViewPlan
views_added p n collection place = drop (views_at p n place) (views_before p (n + 1) collection place)

-- the place of the run that a step keeps
abbrev pub kept_as : ℕ → Option (List ℕ) → List ℕ
kept_as place None = []
kept_as place (Some name) = place ∷ []

abbrev pub keeps : Plan → Step → List ℕ
keeps p (step.Run place) = list_of (λ run. kept_as place run.keep) (slice_get p.runs place)
keeps p _ = []

-- the runs that are kept before this step, by their places, in the order of keeping
abbrev pub kept_at : Plan → ℕ → List ℕ
kept_at p n = flat_map (keeps p) (take n p.steps)

-- ---- the order of a run

-- these views behind others in the order of the rule: as they were declared, or greedily from the view before
abbrev pub in_order : OrderRule → (Option ℕ → ℕ → ℕ) → Option ℕ → List ℕ → List ℕ
in_order order.Greedy distance before views = greedy distance before views
in_order order.Declared distance before views = views
in_order order.Tree distance before views = greedy distance before views

-- these views in the order of the rule, where none stands before them
abbrev pub begun_in : OrderRule → (Option ℕ → ℕ → ℕ) → List ℕ → List ℕ
begun_in order.Tree distance views = views_of (tree_walk distance views)
begun_in rule distance views = in_order rule distance None views

-- the views that a run has at first, which are all of these
abbrev pub first_order : LiveGraph → RunPlan → List ViewPlan → List ℕ
first_order w run views = begun_in run.order (difference w views) (range_with_len 0 (length views))

-- these views, and behind them those from number `first` on, which are ordered from the last one before them
abbrev pub longer_order : LiveGraph → RunPlan → List ViewPlan → List ℕ → ℕ → List ℕ
longer_order w run views before first = before ++ in_order run.order (difference w views) (last_or None before) (range_with_len first (length views - first))

-- What a step makes of the order of a run, which is at this place: it makes the run, or it adds views to the collection of a
-- run that was made before it.
abbrev pub order_after : GraphData → Plan → RunPlan → ℕ → ℕ → List ℕ → Option Step → List ℕ
order_after g p run place n before (Some (step.Run other)) = if other == place then first_order (graph_at g p (n + 1)) run (made_at p (n + 1) run.collection) else before
order_after g p run place n before (Some (step.Append collection first count)) =
    if nat_lt place (runs_at p n) && collection == run.collection
    then longer_order (graph_at g p (n + 1)) run (made_at p (n + 1) run.collection) before (length (made_at p n run.collection))
    else before
order_after g p run place n before _ = before

-- the views of a run that is at this place, in the order in which it takes them, before this step
unfoldable pub order_at : GraphData → Plan → RunPlan → ℕ → ℕ → List ℕ
order_at g p run place zero = []
order_at g p run place (suc n) = order_after g p run place n (order_at g p run place n) (slice_get p.steps n)

-- ---- the work of a run

-- what a run on these views asks for
abbrev pub run_task : Answer → LiveGraph → RunPlan → List ViewPlan → Task
run_task answer w run views = record { answer = answer; program = run.program; graph = w.graph; rounds = run.rounds; edges = λ v. edges_at w views (Some v) }

-- the same, before this step
abbrev pub task_at : Answer → GraphData → Plan → RunPlan → ℕ → Task
task_at answer g p run n = run_task answer (graph_at g p n) run (made_at p n run.collection)

-- its segments then, each the list of its views
abbrev pub segments_at : Answer → GraphData → Plan → RunPlan → ℕ → ℕ → List (List ℕ)
segments_at answer g p run place n = segments_of (task_at answer g p run n) run.split (order_at g p run place n)

-- ---- the text of the work of a run

-- a view, the number of its segment, and its work
abbrev pub work_line : List ViewPlan → ℕ → ℕ → ℕ → List ℕ
work_line views segment v work = name_at views v ++ (codes " " ++ (decimal segment ++ (codes " " ++ (decimal work ++ line_end))))

-- the lines of views of one segment, beside which their works stand
abbrev pub segment_lines : List ViewPlan → ℕ → List ℕ → List ℕ → List ℕ
segment_lines views segment [] works = []
segment_lines views segment (v ∷ vs) [] = []
segment_lines views segment (v ∷ vs) (w ∷ ws) = work_line views segment v w ++ segment_lines views segment vs ws

-- the lines of segments, of which the first has this number
abbrev pub work_lines : Task → List ViewPlan → ℕ → List (List ℕ) → List ℕ
work_lines task views segment [] = []
work_lines task views segment (vs ∷ rest) = segment_lines views segment vs (works_of task vs) ++ work_lines task views (segment + 1) rest

-- the text of the work of a run under this name: segments count from 1
abbrev pub named_work : List ℕ → Task → List ViewPlan → List (List ℕ) → List ℕ
named_work name task views segments = codes "work " ++ (name ++ (line_end ++ (work_lines task views 1 segments ++ (codes "end" ++ line_end))))

-- ---- a statement

-- A run prints the tables of all views that its collection has by then.
abbrev pub run_text : Answer → Form → GraphData → Plan → ℕ → RunPlan → List ℕ
run_text answer form g p n run = list_of (λ collection. tables_text answer form (graph_at g p (n + 1)) run collection.name (views_before p n collection run.collection)) (slice_get p.collections run.collection)

-- the tables of the added views for a kept run, if it is one on this collection
abbrev pub kept_text : Answer → Form → LiveGraph → Plan → (name : List ℕ) → List ViewPlan → ℕ → ℕ → List ℕ
kept_text answer form w p name added place kept = list_of (λ run. if run.collection == place then tables_text answer form w run name added else []) (slice_get p.runs kept)

-- An append prints, for each run that is kept on its collection in the order of keeping, the tables of the views that it
-- adds.
abbrev pub append_text : Answer → Form → GraphData → Plan → ℕ → ℕ → List ℕ
append_text answer form g p n place = list_of (λ collection. flat_map (kept_text answer form (graph_at g p (n + 1)) p collection.name (views_added p n collection place) place) (kept_at p n)) (slice_get p.collections place)

-- Edges that come or go print, for each run that is kept by then in the order of keeping, the tables of all views of its collection,
-- also where nothing changed.
abbrev pub followed_text : Answer → Form → GraphData → Plan → ℕ → ℕ → List ℕ
followed_text answer form g p n kept = list_of (run_text answer form g p n) (slice_get p.runs kept)

abbrev pub edit_text : Answer → Form → GraphData → Plan → ℕ → List ℕ
edit_text answer form g p n = flat_map (followed_text answer form g p n) (kept_at p n)

-- The order of all views that a collection has by then is shown with the distance of each view from the one before.
abbrev pub shown_text : GraphData → Plan → ℕ → ℕ → List ℕ
shown_text g p n place = list_of (λ collection. order_text (graph_at g p (n + 1)) collection.name (views_before p n collection place)) (slice_get p.collections place)

-- The tree order of them is shown with the tree.
abbrev pub shown_tree : GraphData → Plan → ℕ → ℕ → List ℕ
shown_tree g p n place = list_of (λ collection. tree_text (graph_at g p (n + 1)) collection.name (views_before p n collection place)) (slice_get p.collections place)

-- The edges of each view that a collection has by then are counted by the groups of their ends, in declared order.
abbrev pub groups_text : GraphData → Plan → ℕ → (place by : ℕ) → Option ℕ → List ℕ
groups_text g p n place by sum =
    list_of (λ collection. flat_map (aggregate_text (graph_at g p (n + 1)) by sum collection.name) (views_before p n collection place)) (slice_get p.collections place)

-- The work of a kept run is shown view by view, in the order in which it takes them.
abbrev pub work_text : Answer → GraphData → Plan → ℕ → ℕ → List ℕ
work_text answer g p n place =
    list_of (λ run. list_of (λ name. named_work name (task_at answer g p run n) (made_at p n run.collection) (segments_at answer g p run place n)) run.keep) (slice_get p.runs place)

-- what shows something prints nothing in a change text, which has tables alone
abbrev pub shown_in : Form → List ℕ → List ℕ
shown_in in_form text = if is_changes in_form then [] else text

-- so such a statement is passed by there
abbrev pub is_hidden : Form → Step → Bool
is_hidden in_form s = is_show s && is_changes in_form

abbrev pub text_of : Answer → Form → GraphData → Plan → ℕ → Step → List ℕ
text_of answer form g p n (step.Run place) = list_of (run_text answer form g p n) (slice_get p.runs place)
text_of answer form g p n (step.Append place first count) = append_text answer form g p n place
text_of answer form g p n (step.ShowOrder place) = shown_in form (shown_text g p n place)
text_of answer form g p n (step.ShowWork place) = shown_in form (work_text answer g p n place)
text_of answer form g p n (step.ShowTree place) = shown_in form (shown_tree g p n place)
text_of answer form g p n (step.Insert first count) = edit_text answer form g p n
text_of answer form g p n (step.Remove rule) = edit_text answer form g p n
text_of answer form g p n (step.Aggregate place by sum) = shown_in form (groups_text g p n place by sum)
text_of answer form g p n _ = []

-- the text of this statement
abbrev pub step_text : Answer → Form → GraphData → Plan → ℕ → List ℕ
step_text answer form g p n = list_of (text_of answer form g p n) (slice_get p.steps n)

-- the texts of so many statements, in their order
abbrev pub texts : Answer → Form → GraphData → Plan → ℕ → List ℕ
texts answer form g p n = flat_map (step_text answer form g p) (range_with_len 0 n)

-- the texts of all statements
abbrev pub plan_text : Answer → Form → GraphData → Plan → List ℕ
plan_text answer form g p = texts answer form g p (length p.steps)

-- ---- what is asked

-- what is asked of a run that is made over a graph
pub record IsRun (g : GraphData) (run : RunPlan) : Type 0 where
  pub checked : IsChecked run.program g
  pub some : 1 ≤ number_of run.rounds
  pub few : number_of run.rounds ≤ 1_000_000
  pub split : HasNumber run.split
  pub phases : IfSome run.phases (λ n. (1 ≤ n) × (n ≤ 1_000))
