-- Where a graph gets edges of which none is live, its views are what they were: their edges, their distances, their answers and
-- their tables.
use Rattle.std.proofs.Common.{◌≡◌, ◌∙◌, ℕ, ◌≤◌, ◌<◌, ◌-◌, List, [], ◌∷◌, ◌++◌, length, drop, map, flat_map, filter, get_or, Bool, false, ◌&&◌, Option, Some, None, slice_get, refl, ap, ap₂, codes, All}
use Rattle.std.specs.Prelude.{sum_by}
use mathlib.Core.Path.{fun_ext}
use Rattle.std.specs.List.{range_with_len, last_or}
use Rattle.std.proofs.lemmas.List.Elements.{All-map}
use Rattle.std.specs.Fmt.{decimal}
use Rattle.graph_model.specs.declared.cell.Column.{Column}
use Rattle.graph_model.specs.declared.number.EdgeNo.{EdgeNo}
use Rattle.graph_model.specs.declared.number.NodeNo.{NodeNo}
use Rattle.graph_model.specs.declared.value.Val.{Val}
use Rattle.graph_model.specs.declared.value.Val.TheVariants.{Nil}
use Rattle.graph_model.specs.GraphData.{nodes_by_id}
use Rattle.edge_predicates.specs.declared.pred.ViewRule.{ViewRule}
use Rattle.edge_predicates.specs.Truth.{rule_truth}
use Rattle.edge_predicates.specs.ViewEdges.{edges_of}
use Rattle.vertex_lang.specs.declared.lone.Lone.{Lone}
use Rattle.vertex_lang.specs.declared.lone.Outcome.{Outcome}
use Rattle.vertex_lang.specs.declared.lone.Outcome.TheVariants as outcome
use Rattle.vertex_lang.specs.Arcs.{arcs_between}
use Rattle.vertex_lang.specs.Expressions.{Answer}
use Rattle.vertex_lang.specs.Lone.{number_of}
use Rattle.gvdl_check.specs.declared.plan.ViewPlan.{ViewPlan}
use Rattle.gvdl_check.specs.declared.plan.RunPlan.{RunPlan}
use Rattle.gvdl_printer.specs.Canonical.{canonical_call}
use Rattle.view_matrix.specs.Matrices.{in_exactly_one}
use Rattle.view_order.specs.Greedy.{greedy}
use Rattle.tree_order.specs.Trees.{tree, tree_walk, views_of, walked, weight}
use Rattle.aggregate_views.specs.declared.cell.GroupRow.{GroupRow}
use Rattle.aggregate_views.specs.Rows.{HasSumColumn, rows_of}
use Rattle.result_tables.specs.declared.form.Form.{Form}
use Rattle.result_tables.specs.declared.form.Form.TheVariants as form
use Rattle.result_tables.specs.declared.table.Table.{Table}
use Rattle.result_tables.specs.TableText.{table_of, head_text, line_end}
use Rattle.change_text.specs.declared.kind.Kind.{Kind}
use Rattle.change_text.specs.declared.kind.Kind.TheVariants as kind
use Rattle.change_text.specs.declared.row.Row.{Row}
use Rattle.change_text.specs.Blocks.{Block}
use Rattle.change_text.specs.Spelling.{changes_text}
use Rattle.change_text.specs.Writing.{changed_rows, is_changed, kind_behind, row_of, rows_behind, table_rows}
use Rattle.grown_graphs.specs.Growing.{AreEdgesOf, GrowsTo}
use Rattle.grown_graphs.specs.Laws.{same-views, same-answers, same-phases, same-rows, same-tables}
use Rattle.surge_session.specs.Live.{LiveGraph, is_live, live_edges}
use Rattle.surge_session.specs.Aggregates.{row_line, column_name, sum_name, aggregate_head, aggregate_text}
use Rattle.surge_session.specs.Output.{Shown, list_of, view_arcs, answer_over, view_answer, view_shown, alone, block_behind, blocks_behind, tables_in, tables_text, edges_at, difference, with_distances, order_line, order_text, branch_line, tree_text, begun_in, in_order, first_order, longer_order}
use Rattle.surge_session.proofs.ViewEdges.{live_edges_within}

-- the second graph has more edges behind those of the first, and none of these is live
pub record HasGrown (w x : LiveGraph) : Type 0 where
  pub graph : GrowsTo w.graph x.graph
  pub live : (e : ℕ) → is_live x.live e ≡ is_live w.live e
  pub none : (e : ℕ) → length w.graph.ends ≤ e → is_live w.live e ≡ false

module _ (w x : LiveGraph) (grown : HasGrown w x) where
  -- ---- a view

  pub same_edges : (rule : ViewRule) → live_edges x rule ≡ live_edges w rule
  same_edges rule =
      ap (λ (picks : ℕ → Bool). filter (λ (e : EdgeNo). picks e.0 && rule_truth x.graph e.0 rule) (edges_of x.graph)) (fun_ext grown.live)
      ∙ same-views w.graph x.graph (is_live w.live) rule grown.graph grown.none

  -- ---- tables

  same_row : (values : List Val) (n : NodeNo) → row_of x.graph values n ≡ row_of w.graph values n
  same_row values n = ap (λ (ids : List ℕ). let r : Row = record { id = get_or ids n.0 0; value = get_or values n.0 Nil } in r) grown.graph.ids

  all_rows : (values : List Val) → map (row_of x.graph values) (nodes_by_id x.graph.ids) ≡ map (row_of w.graph values) (nodes_by_id w.graph.ids)
  all_rows values = ap (λ f. map f (nodes_by_id x.graph.ids)) (fun_ext (same_row values)) ∙ ap (λ (ids : List ℕ). map (row_of w.graph values) (nodes_by_id ids)) grown.graph.ids

  same_table_rows : (o : Outcome) (values : List Val) → table_rows x.graph o values ≡ table_rows w.graph o values
  same_table_rows (outcome.Settled r) values = all_rows values
  same_table_rows (outcome.After r) values = all_rows values
  same_table_rows (outcome.Phases r) values = all_rows values
  same_table_rows outcome.Unsettled values = refl

  same_changed : (before values : List Val) → changed_rows x.graph before values ≡ changed_rows w.graph before values
  same_changed before values =
      ap (λ f. map f (filter (is_changed before values) (nodes_by_id x.graph.ids))) (fun_ext (same_row values))
      ∙ ap (λ (ids : List ℕ). map (row_of w.graph values) (filter (is_changed before values) (nodes_by_id ids))) grown.graph.ids

  same_rows_behind : (k : Kind) (before : Option Table) (table : Table) → rows_behind k x.graph before table ≡ rows_behind k w.graph before table
  same_rows_behind kind.Full before table = same_table_rows table.outcome table.values
  same_rows_behind kind.Change None table = same_table_rows table.outcome table.values
  same_rows_behind kind.Change (Some before) table = same_changed before.values table.values

  same_block : (before : Option Table) (shown : Shown) → block_behind x.graph before shown ≡ block_behind w.graph before shown
  same_block before shown =
      let how : Kind = kind_behind before shown.table in
      ap (λ (rows : List Row). let b : Block = record { kind = how; head = drop 5 shown.head; outcome = shown.table.outcome; rows = rows } in b) (same_rows_behind how before shown.table)

  same_blocks : (before : Option Table) (tables : List Shown) → blocks_behind x.graph before tables ≡ blocks_behind w.graph before tables
  same_blocks before [] = refl
  same_blocks before (shown ∷ more) = ap₂ (λ (b : Block) (bs : List Block). b ∷ bs) (same_block before shown) (same_blocks (Some shown.table) more)

  same_alone : (in_form : Form) (shown : Shown) → alone in_form x.graph shown ≡ alone in_form w.graph shown
  same_alone in_form shown = same-tables w.graph x.graph in_form shown.head shown.edges shown.table grown.graph

  same_in : (in_form : Form) (tables : List Shown) → tables_in in_form x.graph tables ≡ tables_in in_form w.graph tables
  same_in form.Tables tables = ap (λ f. flat_map f tables) (fun_ext (same_alone form.Tables))
  same_in form.Summary tables = ap (λ f. flat_map f tables) (fun_ext (same_alone form.Summary))
  same_in form.Changes tables = ap changes_text (same_blocks None tables)

  module _ (answer : Answer) (run : RunPlan) where
    same_over : (rule : ViewRule) (phases : Option ℕ) → answer_over answer x.graph run (view_arcs x run rule) phases ≡ answer_over answer w.graph run (view_arcs w run rule) phases
    same_over rule None =
        ap (λ (edges : List EdgeNo). answer_over answer x.graph run (arcs_between run.program.along x.graph edges) None) (same_edges rule)
        ∙ same-answers w.graph x.graph answer run.program (live_edges w rule) run.rounds grown.graph (live_edges_within w rule)
    same_over rule (Some phases) =
        ap (λ (edges : List EdgeNo). answer_over answer x.graph run (arcs_between run.program.along x.graph edges) (Some phases)) (same_edges rule)
        ∙ same-phases w.graph x.graph answer run.program (live_edges w rule) (number_of run.rounds) phases grown.graph (live_edges_within w rule)

    same_answer : (rule : ViewRule) → view_answer answer x run rule ≡ view_answer answer w run rule
    same_answer rule = same_over rule run.phases

    same_shown : (name : List ℕ) (view : ViewPlan) → view_shown answer x run name view ≡ view_shown answer w run name view
    same_shown name view =
        ap₂ (λ (edges : List EdgeNo) (l : Lone). let s : Shown = record { head = head_text name view.name (canonical_call run.call); edges = length edges; table = table_of l } in s) (same_edges view.rule) (same_answer view.rule)

    pub same_tables : (in_form : Form) (name : List ℕ) (views : List ViewPlan) → tables_text answer in_form x run name views ≡ tables_text answer in_form w run name views
    same_tables in_form name views =
        ap (λ f. tables_in in_form x.graph (map f views)) (fun_ext (same_shown name)) ∙ same_in in_form (map (view_shown answer w run name) views)

  -- ---- orders

  pub same_at : (views : List ViewPlan) (v : Option ℕ) → edges_at x views v ≡ edges_at w views v
  same_at views None = refl
  same_at views (Some v) = ap (λ (edges : ViewRule → List EdgeNo). list_of (λ (view : ViewPlan). edges view.rule) (slice_get views v)) (fun_ext same_edges)

  pub same_difference : (views : List ViewPlan) → difference x views ≡ difference w views
  same_difference views = fun_ext (λ before. fun_ext (λ v. ap₂ in_exactly_one (same_at views before) (same_at views (Some v))))

  pub same_first : (run : RunPlan) (views : List ViewPlan) → first_order x run views ≡ first_order w run views
  same_first run views = ap (λ (distance : Option ℕ → ℕ → ℕ). begun_in run.order distance (range_with_len 0 (length views))) (same_difference views)

  pub same_longer : (run : RunPlan) (views : List ViewPlan) (before : List ℕ) (first : ℕ) → longer_order x run views before first ≡ longer_order w run views before first
  same_longer run views before first =
      ap (λ (distance : Option ℕ → ℕ → ℕ). before ++ in_order run.order distance (last_or None before) (range_with_len first (length views - first))) (same_difference views)

  -- ---- the texts of orders

  abbrev lines_text : List ℕ → List ViewPlan → List (ℕ × ℕ) → List ℕ
  lines_text name views lines = codes "order " ++ (name ++ (codes " " ++ (decimal (sum_by (λ (line : ℕ × ℕ). line.1) lines) ++ (line_end ++ (flat_map (order_line views) lines ++ (codes "end" ++ line_end))))))

  pub same_order_text : (name : List ℕ) (views : List ViewPlan) → order_text x name views ≡ order_text w name views
  same_order_text name views =
      ap (λ (distance : Option ℕ → ℕ → ℕ). lines_text name views (with_distances distance None (greedy distance None (range_with_len 0 (length views))))) (same_difference views)

  abbrev walk_text : List ℕ → List ViewPlan → (Option ℕ → ℕ → ℕ) → List ℕ
  walk_text name views distance =
      let places = range_with_len 0 (length views) in
      let walk = tree_walk distance places in
      codes "tree " ++ (name ++ (codes " " ++ (decimal (weight distance (tree distance places)) ++ (codes " " ++ (decimal (walked distance None (views_of walk)) ++ (line_end ++ (flat_map (branch_line distance views) walk ++ (codes "end" ++ line_end))))))))

  pub same_tree_text : (name : List ℕ) (views : List ViewPlan) → tree_text x name views ≡ tree_text w name views
  same_tree_text name views = ap (walk_text name views) (same_difference views)

  -- ---- aggregates

  module _ (by : ℕ) (sum : Option ℕ) (has : HasSumColumn w.graph sum) where
    same_sum : (o : Option ℕ) → sum_name x.graph o ≡ sum_name w.graph o
    same_sum None = refl
    same_sum (Some column) = ap (λ (columns : List Column). codes " sum " ++ column_name (slice_get columns column)) grown.graph.edge_columns

    same_head : (name view : List ℕ) → aggregate_head x.graph by sum name view ≡ aggregate_head w.graph by sum name view
    same_head name view =
        ap₂ (λ (columns : List Column) (summed : List ℕ). codes "aggregate " ++ (name ++ (codes "." ++ (view ++ (codes " by " ++ (column_name (slice_get columns by) ++ summed)))))) grown.graph.node_columns (same_sum sum)

    numbers_within : (edges : List EdgeNo) → AreEdgesOf w.graph edges → All (λ (e : ℕ). e < length w.graph.ends) (map (λ (e : EdgeNo). e.0) edges)
    numbers_within edges old = All-map (λ (e : ℕ). e < length w.graph.ends) (λ (e : EdgeNo). e.0) edges old

    same_rows : (rule : ViewRule) → rows_of x.graph by sum (map (λ (e : EdgeNo). e.0) (live_edges x rule)) ≡ rows_of w.graph by sum (map (λ (e : EdgeNo). e.0) (live_edges w rule))
    same_rows rule =
        ap (λ (edges : List EdgeNo). rows_of x.graph by sum (map (λ (e : EdgeNo). e.0) edges)) (same_edges rule)
        ∙ same-rows w.graph x.graph by sum (map (λ (e : EdgeNo). e.0) (live_edges w rule)) grown.graph has (numbers_within (live_edges w rule) (live_edges_within w rule))

    same_groups : (name : List ℕ) (view : ViewPlan) → aggregate_text x by sum name view ≡ aggregate_text w by sum name view
    same_groups name view =
        ap₂ (λ (head : List ℕ) (rows : List GroupRow). head ++ (line_end ++ (flat_map (row_line sum) rows ++ (codes "end" ++ line_end)))) (same_head name view.name) (same_rows view.rule)

    pub same_aggregates : (name : List ℕ) (views : List ViewPlan) → flat_map (aggregate_text x by sum name) views ≡ flat_map (aggregate_text w by sum name) views
    same_aggregates name views = ap (λ f. flat_map f views) (fun_ext (same_groups name))
