-- The table of a file, or its further edges, from its header and the records under it.
use Rattle.std.proofs.Common.{◌≡◌, ◌∙◌, sym, refl, ap, ◌≤◌, ℕ, List, [], ◌∷◌, length, map, option_map, Option, Some, None, Result, Ok, Err, IfOk, IfErr}
use Rattle.graph_model.specs.declared.cell.Column.{Column}
use Rattle.graph_model.specs.declared.cell.Kind.{Kind}
use Rattle.graph_model.specs.declared.cell.Cells.{Cells}
use Rattle.graph_model.specs.declared.number.NodeNo.{NodeNo}
use Rattle.graph_model.specs.GraphData.{GraphData}
use Rattle.graph_loader.specs.declared.fault.Blame.{Blame}
use Rattle.graph_loader.specs.declared.edges.EdgeList.{EdgeList}
use Rattle.graph_loader.specs.declared.nodes.NodeTable.{NodeTable}
use Rattle.graph_loader.specs.declared.fault.DataFault.{DataFault}
use Rattle.graph_loader.specs.declared.fault.DataFile.{DataFile}
use Rattle.graph_loader.specs.declared.fault.DataFile.TheVariants as file
use Rattle.graph_loader.specs.declared.fault.LoadFault.{LoadFault}
use Rattle.graph_loader.specs.declared.fault.LoadFault.TheVariants as load
use Rattle.graph_loader.specs.declared.fault.Refusal.{Refusal}
use Rattle.graph_loader.specs.declared.fault.Refusal.TheVariants as refusal
use Rattle.graph_loader.specs.Answers.{IfBlame, IfFault, TellsFault, fault_at}
use Rattle.graph_loader.specs.DataFiles.{Row, cells_of, columns_after, earlier_of, edge_fault, edges_table, ends_of_row, fault_in, first_words, header_fault, id_of_row, ids_of, insert_rows, insert_words, kinds_of, no_header, node_fault, nodes_table, records_of, result_and_then, result_map_err, rows_fault, table, table_in, unless_error}
use Rattle.graph_loader.specs.LoadSteps.{SpellsEdges, SpellsMore, SpellsNodes}
use Rattle.graph_loader.specs.LoadLaws.{AreMore, more-are}

module _ (of : DataFile) (fault : List Kind → List Row → Option DataFault) (records : List Row) (header : Row) (rest : List Row) (some : records ≡ header ∷ rest) where
  opened : table_in of fault records
      ≡ result_and_then (λ columns. unless_error (fault (kinds_of columns) rest) (table columns rest)) (result_map_err (fault_in of 1) (columns_after 1 (first_words of) header))
  opened = ap (table_in of fault) some

  -- a header that is refused
  pub header-refused : (e : Refusal) → IfBlame e (λ b. columns_after 1 (first_words of) header ≡ Err b) → IfFault (fault_at of 1 e) (λ f. table_in of fault records ≡ Err f)
  header-refused refusal.NoMemory h = tt
  header-refused (refusal.Blame b) h =
      opened ∙ ap (λ r. result_and_then (λ columns. unless_error (fault (kinds_of columns) rest) (table columns rest)) (result_map_err (fault_in of 1) r)) h

  under : (columns : List Column) → columns_after 1 (first_words of) header ≡ Ok columns → table_in of fault records ≡ unless_error (fault (kinds_of columns) rest) (table columns rest)
  under columns h = opened ∙ ap (λ r. result_and_then (λ columns. unless_error (fault (kinds_of columns) rest) (table columns rest)) (result_map_err (fault_in of 1) r)) h

  pub table-spelled : (columns : List Column) → columns_after 1 (first_words of) header ≡ Ok columns → fault (kinds_of columns) rest ≡ None → table_in of fault records ≡ Ok (table columns rest)
  table-spelled columns h e = under columns h ∙ ap (λ o. unless_error o (table columns rest)) e

  pub record-refused : (columns : List Column) (e : LoadFault) → columns_after 1 (first_words of) header ≡ Ok columns
      → IfFault e (λ f. fault (kinds_of columns) rest ≡ Some f) → IfFault e (λ f. table_in of fault records ≡ Err f)
  record-refused columns load.NoMemory h t = tt
  record-refused columns (load.Fault f) h t = under columns h ∙ ap (λ o. unless_error o (table columns rest)) t

-- ---- the nodes file

module _ (bytes : List ℕ) (header : Row) (rest : List Row) (columns : List Column) (some : records_of bytes ≡ header ∷ rest) (h : columns_after 1 (first_words file.Nodes) header ≡ Ok columns) where
  pub nodes-spelled : (r : Result NodeTable LoadFault) → TellsFault (rows_fault file.Nodes (node_fault (kinds_of columns)) id_of_row [] rest) r
      → IfOk r (λ t. t.ids.keys ≡ ids_of rest) → IfOk r (λ t. t.columns ≡ columns) → IfOk r (λ t. t.cells ≡ cells_of rest 1 (kinds_of columns))
      → IfOk r (λ t. SpellsNodes bytes t.ids.keys t.columns t.cells)
  nodes-spelled (Err e) told ids same cells = tt
  nodes-spelled (Ok t) told ids same cells = record {
    rows = rest;
    file = table-spelled file.Nodes (λ kinds. rows_fault file.Nodes (node_fault kinds) id_of_row []) (records_of bytes) header rest some columns h told ∙ ap (λ c. Ok (table c rest)) (sym same);
    ids = ids;
    cells = cells ∙ ap (λ c. cells_of rest 1 (kinds_of c)) (sym same);
  }

  pub nodes-refused : (r : Result NodeTable LoadFault) → TellsFault (rows_fault file.Nodes (node_fault (kinds_of columns)) id_of_row [] rest) r
      → IfErr r (λ e. IfFault e (λ f. nodes_table bytes ≡ Err f))
  nodes-refused (Ok t) told = tt
  nodes-refused (Err e) told = record-refused file.Nodes (λ kinds. rows_fault file.Nodes (node_fault kinds) id_of_row []) (records_of bytes) header rest some columns e h told

-- ---- the edges file

module _ (keys bytes : List ℕ) (header : Row) (rest : List Row) (columns : List Column) (some : records_of bytes ≡ header ∷ rest) (h : columns_after 1 (first_words file.Edges) header ≡ Ok columns) where
  abbrev pub judge : List Kind → List Row → Option DataFault
  judge kinds = rows_fault file.Edges (edge_fault 0 kinds keys) (ends_of_row keys) []

  pub edges-spelled : (edges : EdgeList) → judge (kinds_of columns) rest ≡ None → edges.ends ≡ map (ends_of_row keys) rest → edges.cells ≡ cells_of rest 2 (kinds_of columns)
      → SpellsEdges keys bytes edges.ends columns edges.cells
  edges-spelled edges told ends cells = record {
    rows = rest;
    file = table-spelled file.Edges judge (records_of bytes) header rest some columns h told;
    ends = ends;
    cells = cells;
  }

  pub edges-refused : (e : LoadFault) → IfFault e (λ f. judge (kinds_of columns) rest ≡ Some f) → IfFault e (λ f. edges_table keys bytes ≡ Err f)
  edges-refused e told = record-refused file.Edges judge (records_of bytes) header rest some columns e h told

-- a file of this kind without a record
pub no-record : (of : DataFile) (fault : List Kind → List Row → Option DataFault) (records : List Row) (e : LoadFault) → IfFault e (λ f. (records ≡ []) × (f ≡ no_header of))
    → IfFault e (λ f. table_in of fault records ≡ Err f)
no-record of fault records load.NoMemory h = tt
no-record of fault records (load.Fault f) h = ap (table_in of fault) h.0 ∙ ap (λ x. Err x) (sym h.1)

-- ---- a further file of edges

-- a file without a record
pub more-no-record : (statement : ℕ) (bytes : List ℕ) (g : GraphData) (e : LoadFault) → IfFault e (λ f. (records_of bytes ≡ []) × (f ≡ no_header (file.Insert statement)))
    → IfFault e (λ f. insert_rows statement g (records_of bytes) ≡ Err f)
more-no-record statement bytes g load.NoMemory h = tt
more-no-record statement bytes g (load.Fault f) h = ap (insert_rows statement g) h.0 ∙ ap (λ x. Err x) (sym h.1)

module _ (statement : ℕ) (bytes : List ℕ) (g : GraphData) (header : Row) (rest : List Row) (some : records_of bytes ≡ header ∷ rest) (columns : List Column) (k : columns ≡ g.edge_columns) where
  abbrev judged : Option Blame → Option DataFault → Result (List Row) DataFault
  judged head o = unless_error (earlier_of (option_map (fault_in (file.Insert statement) 1) head) o) rest

  abbrev judge-more : ℕ → List Column → List ℕ → Option DataFault
  judge-more count columns keys = rows_fault (file.Insert statement) (edge_fault count (kinds_of columns) keys) (ends_of_row keys) [] rest

  opened-more : insert_rows statement g (records_of bytes) ≡ judged (header_fault 1 (insert_words columns) header) (judge-more (length g.ends) g.edge_columns g.ids)
  opened-more = ap (insert_rows statement g) some ∙ ap (λ c. judged (header_fault 1 (insert_words c) header) (judge-more (length g.ends) g.edge_columns g.ids)) (sym k)

  -- a header that is refused
  pub more-header-refused : (e : Refusal) → IfBlame e (λ b. header_fault 1 (insert_words columns) header ≡ Some b)
      → IfFault (fault_at (file.Insert statement) 1 e) (λ f. insert_rows statement g (records_of bytes) ≡ Err f)
  more-header-refused refusal.NoMemory h = tt
  more-header-refused (refusal.Blame b) h = opened-more ∙ ap (λ x. judged x (judge-more (length g.ends) g.edge_columns g.ids)) h

  module _ (count : ℕ) (n : count ≡ length g.ends) (keys : List ℕ) (same : keys ≡ g.ids) (h : header_fault 1 (insert_words columns) header ≡ None) (r : Result EdgeList LoadFault)
      (told : TellsFault (rows_fault (file.Insert statement) (edge_fault count (kinds_of columns) keys) (ends_of_row keys) [] rest) r) where
    under-header : (o : Option DataFault) → judge-more count columns keys ≡ o → insert_rows statement g (records_of bytes) ≡ unless_error o rest
    under-header o e =
        let all : judge-more count columns keys ≡ judge-more (length g.ends) g.edge_columns g.ids = rw (n, k, same) refl in
        opened-more ∙ ap (λ x. judged x (judge-more (length g.ends) g.edge_columns g.ids)) h ∙ ap (λ x. unless_error x rest) (sym all ∙ e)

    pub more-spelled : IfOk r (λ t. t.ends ≡ map (ends_of_row keys) rest) → IfOk r (λ t. t.cells ≡ cells_of rest 2 (kinds_of columns)) → IfOk r (λ t. SpellsMore statement bytes g t.ends t.cells)
    more-spelled ends cells = cases r told ends cells where
      cases : (r : Result EdgeList LoadFault) → TellsFault (judge-more count columns keys) r → IfOk r (λ t. t.ends ≡ map (ends_of_row keys) rest)
          → IfOk r (λ t. t.cells ≡ cells_of rest 2 (kinds_of columns)) → IfOk r (λ t. SpellsMore statement bytes g t.ends t.cells)
      cases (Err e) told ends cells = tt
      cases (Ok t) told ends cells = record {
        rows = rest;
        file = under-header None told;
        ends = ends ∙ ap (λ i. map (ends_of_row i) rest) same;
        cells = cells ∙ ap (λ c. cells_of rest 2 (kinds_of c)) k;
      }

    pub more-refused : IfErr r (λ e. IfFault e (λ f. insert_rows statement g (records_of bytes) ≡ Err f))
    more-refused = cases r told where
      cases : (r : Result EdgeList LoadFault) → TellsFault (judge-more count columns keys) r → IfErr r (λ e. IfFault e (λ f. insert_rows statement g (records_of bytes) ≡ Err f))
      cases (Ok t) told = tt
      cases (Err load.NoMemory) told = tt
      cases (Err (load.Fault f)) told = under-header (Some f) told

-- what is added can stand behind the graph's edges
more-fit : (statement : ℕ) (bytes : List ℕ) (g : GraphData) (ends : List (NodeNo × NodeNo)) (lists : List Cells) → length g.ends ≤ 4_000_000
    → SpellsMore statement bytes g ends lists → AreMore g ends lists
more-fit statement bytes g ends lists few s = rw (s.ends, s.cells) (more-are statement g (records_of bytes) s.rows few s.file)

pub more-fits : (statement : ℕ) (bytes : List ℕ) (g : GraphData) (r : Result EdgeList LoadFault) → length g.ends ≤ 4_000_000 → IfOk r (λ t. SpellsMore statement bytes g t.ends t.cells)
    → IfOk r (λ t. AreMore g t.ends t.cells)
more-fits statement bytes g (Err e) few s = tt
more-fits statement bytes g (Ok t) few s = more-fit statement bytes g t.ends t.cells few s
