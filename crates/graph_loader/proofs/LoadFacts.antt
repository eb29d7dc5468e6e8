-- The answer of a load, from what its two files spell, and of an extension, from what its file spells.
use Rattle.std.proofs.Common.{◌≡◌, ◌≢◌, ◌≤◌, ◌∙◌, sym, ap, subst, arith, ℕ, List, [], length, map, None, Ok, Err}
use Rattle.graph_model.specs.declared.cell.Cells.{Cells}
use Rattle.graph_model.specs.declared.cell.Column.{Column}
use Rattle.graph_model.specs.declared.number.NodeNo.{NodeNo}
use Rattle.graph_model.specs.GraphData.{GraphData, IsGraphData, graph_data, with_edges}
use Rattle.graph_loader.specs.declared.fault.DataFile.TheVariants as file
use Rattle.graph_loader.specs.declared.fault.DataKind.TheVariants as wrong
use Rattle.graph_loader.specs.declared.fault.LoadFault.{LoadFault}
use Rattle.graph_loader.specs.declared.fault.LoadFault.TheVariants as load
use Rattle.graph_loader.specs.Answers.{IfFault}
use Rattle.graph_loader.specs.DataFiles.{cells_of, edge_fault, edges_table, ends_of_row, extended, graph_of, graph_over, graph_with, id_of_row, ids_of, insert_rows, kinds_of, node_fault, nodes_table, records_of, result_and_then, result_map, rows_fault, table, with_rows}
use Rattle.graph_loader.specs.LoadSteps.{SpellsEdges, SpellsMore, SpellsNodes}
use Rattle.graph_loader.specs.ColumnLaws.{AreColumns}
use Rattle.graph_loader.specs.LoadLaws.{table-holds}
use Rattle.graph_loader.specs.GraphLaws.{ends-are, graph-fits, ids-are}
use Rattle.graph_loader.proofs.SizeFacts.{fault-of-no-size, insert-of-no-size}

module _ (nodes keys : List ℕ) (node_columns : List Column) (node_cells : List Cells) (s : SpellsNodes nodes keys node_columns node_cells) where
  holds-nodes : AreColumns node_columns × (rows_fault file.Nodes (node_fault (kinds_of node_columns)) id_of_row [] s.rows ≡ None)
  holds-nodes = table-holds file.Nodes (λ kinds. rows_fault file.Nodes (node_fault kinds) id_of_row []) (records_of nodes) node_columns s.rows s.file

  pub few-ids : length keys ≤ 1_000_000
  few-ids = let i = ids-are (kinds_of node_columns) s.rows holds-nodes.1 in subst (λ k. length k ≤ 1_000_000) (sym s.ids) i.few

  over : (edges : List ℕ) → graph_of nodes edges ≡ result_map (graph_with (table node_columns s.rows)) (edges_table keys edges)
  over edges = ap (result_and_then (graph_over edges)) s.file ∙ ap (λ i. result_map (graph_with (table node_columns s.rows)) (edges_table i edges)) (sym s.ids)

  -- the first fault of the edges file
  pub edges-stop : (edges : List ℕ) (e : LoadFault) → IfFault e (λ f. edges_table keys edges ≡ Err f) → IfFault e (λ f. graph_of nodes edges ≡ Err f)
  edges-stop edges load.NoMemory h = tt
  edges-stop edges (load.Fault f) h = over edges ∙ ap (result_map (graph_with (table node_columns s.rows))) h

  module _ (edges : List ℕ) (ends : List (NodeNo × NodeNo)) (edge_columns : List Column) (edge_cells : List Cells) (t : SpellsEdges keys edges ends edge_columns edge_cells) where
    same-graph : graph_with (table node_columns s.rows) (table edge_columns t.rows) ≡ graph_data keys node_columns node_cells ends edge_columns edge_cells
    same-graph =
        let between : map (ends_of_row (ids_of s.rows)) t.rows ≡ ends = ap (λ i. map (ends_of_row i) t.rows) (sym s.ids) ∙ sym t.ends in
        ap (λ i. graph_data i node_columns (cells_of s.rows 1 (kinds_of node_columns)) (map (ends_of_row (ids_of s.rows)) t.rows) edge_columns (cells_of t.rows 2 (kinds_of edge_columns))) (sym s.ids)
        ∙ ap (λ x. graph_data keys node_columns x (map (ends_of_row (ids_of s.rows)) t.rows) edge_columns (cells_of t.rows 2 (kinds_of edge_columns))) (sym s.cells)
        ∙ ap (λ m. graph_data keys node_columns node_cells m edge_columns (cells_of t.rows 2 (kinds_of edge_columns))) between
        ∙ ap (λ y. graph_data keys node_columns node_cells ends edge_columns y) (sym t.cells)

    pub graph-spelled : graph_of nodes edges ≡ Ok (graph_data keys node_columns node_cells ends edge_columns edge_cells)
    graph-spelled = over edges ∙ ap (result_map (graph_with (table node_columns s.rows))) t.file ∙ ap (λ g. Ok g) same-graph

    pub is-graph : IsGraphData (graph_data keys node_columns node_cells ends edge_columns edge_cells)
    is-graph =
        let h = table-holds file.Edges (λ kinds. rows_fault file.Edges (edge_fault 0 kinds keys) (ends_of_row keys) []) (records_of edges) edge_columns t.rows t.file in
        let i = ids-are (kinds_of node_columns) s.rows holds-nodes.1 in
        let judged : rows_fault file.Edges (edge_fault 0 (kinds_of edge_columns) (ids_of s.rows)) (ends_of_row (ids_of s.rows)) [] t.rows ≡ None =
        ap (λ k. rows_fault file.Edges (edge_fault 0 (kinds_of edge_columns) k) (ends_of_row k) [] t.rows) (sym s.ids) ∙ h.1 in
        let e = ends-are file.Edges 0 (ids_of s.rows) (kinds_of edge_columns) t.rows (omega arith) judged in
        subst IsGraphData same-graph (graph-fits s.rows t.rows node_columns edge_columns holds-nodes.0 h.0 i e)

-- the first fault of the nodes file
pub nodes-stop : (nodes edges : List ℕ) (e : LoadFault) → IfFault e (λ f. nodes_table nodes ≡ Err f) → IfFault e (λ f. graph_of nodes edges ≡ Err f)
nodes-stop nodes edges load.NoMemory h = tt
nodes-stop nodes edges (load.Fault f) h = ap (result_and_then (graph_over edges)) h

pub of-no-size : (nodes edges : List ℕ) (e : LoadFault) → IfFault e (λ f. graph_of nodes edges ≡ Err f) → IfFault e (λ f. f.kind ≢ wrong.TooLarge)
of-no-size nodes edges load.NoMemory h = tt
of-no-size nodes edges (load.Fault f) h = fault-of-no-size nodes edges f h

-- ---- a further file

pub more-stop : (statement : ℕ) (bytes : List ℕ) (g : GraphData) (e : LoadFault) → IfFault e (λ f. insert_rows statement g (records_of bytes) ≡ Err f)
    → IfFault e (λ f. extended statement bytes g ≡ Err f)
more-stop statement bytes g load.NoMemory h = tt
more-stop statement bytes g (load.Fault f) h = ap (result_map (with_rows g)) h

pub more-of-no-size : (statement : ℕ) (bytes : List ℕ) (g : GraphData) (e : LoadFault) → IfFault e (λ f. insert_rows statement g (records_of bytes) ≡ Err f) → IfFault e (λ f. f.kind ≢ wrong.TooLarge)
more-of-no-size statement bytes g load.NoMemory h = tt
more-of-no-size statement bytes g (load.Fault f) h = insert-of-no-size statement g (records_of bytes) f h

pub more-added : (statement : ℕ) (bytes : List ℕ) (g new : GraphData) (ends : List (NodeNo × NodeNo)) (lists : List Cells) → SpellsMore statement bytes g ends lists
    → new ≡ with_edges g ends lists → extended statement bytes g ≡ Ok new
more-added statement bytes g new ends lists s n =
    ap (result_map (with_rows g)) s.file ∙ ap (λ x. Ok (with_edges g x (cells_of s.rows 2 (kinds_of g.edge_columns)))) (sym s.ends) ∙ ap (λ x. Ok (with_edges g ends x)) (sym s.cells)
    ∙ ap (λ x. Ok x) (sym n)
