-- What holds of what data files spell.
use Rattle.std.proofs.Common.{◌≡◌, ◌≢◌, ◌≤◌, ◌∙◌, sym, refl, ap, subst, ℕ, zero, suc, ◌+◌, Bool, true, false, ◌&&◌, List, [], ◌∷◌, length, map, Option, Some, None, option_map, Result, Ok, Err, arith}
use Rattle.std.specs.Prelude.{All, nat_le, not}
use Rattle.std.specs.List.{list_all}
use Rattle.std.specs.Str.{bytes_eq}
use Rattle.std.specs.Prelude.{codes}
use Rattle.std.proofs.lemmas.List.{length-map}
use Rattle.graph_model.specs.declared.cell.Cells.{Cells}
use Rattle.graph_model.specs.declared.cell.Column.{Column}
use Rattle.graph_model.specs.declared.cell.Kind.{Kind}
use Rattle.graph_model.specs.declared.number.NodeNo.{NodeNo}
use Rattle.graph_model.specs.GraphData.{EndsAmong, FitColumns, GraphData, with_edges}
use Rattle.graph_loader.specs.declared.fault.Blame.{Blame}
use Rattle.graph_loader.specs.declared.fault.DataFault.{DataFault}
use Rattle.graph_loader.specs.declared.fault.DataFile.{DataFile}
use Rattle.graph_loader.specs.declared.fault.DataFile.TheVariants as file
use Rattle.graph_loader.specs.DataFiles.{Row, Table, cells_of, columns_after, earlier_of, edge_fault, edges_table, ends_of_row, extended, fault_in, first_words, graph_of, graph_over, graph_with, header_fault, id_of_row, ids_of, insert_rows, insert_words, kinds_of, node_fault, nodes_table, records_of, result_and_then, result_map, result_map_err, rows_fault, table, table_in, unless_error, with_rows}
use Rattle.graph_loader.specs.Spelling.{is_printing, is_property}
use Rattle.graph_loader.specs.ColumnLaws.{AreColumns, HasPropertyName, columns-are}
use Rattle.graph_loader.specs.GraphLaws.{columns-fit, ends-are}

-- what holds of a table that a file spells
pub table-holds : (of : DataFile) (fault : List Kind → List Row → Option DataFault) (records : List Row) (columns : List Column) (rows : List Row)
    → table_in of fault records ≡ Ok (table columns rows) → AreColumns columns × (fault (kinds_of columns) rows ≡ None)
table-holds of fault [] columns rows e = absurd (cc)
table-holds of fault (header ∷ left) columns rows e = cases (columns_after 1 (first_words of) header) refl e where
  judged : (cs : List Column) (o : Option DataFault) → AreColumns cs → fault (kinds_of cs) left ≡ o → unless_error o (table cs left) ≡ Ok (table columns rows)
      → AreColumns columns × (fault (kinds_of columns) rows ≡ None)
  judged cs None a q e =
      let same : table cs left ≡ table columns rows = cc in
      let c : cs ≡ columns = ap (λ (t : Table). t.columns) same in
      let r : left ≡ rows = ap (λ (t : Table). t.rows) same in
      (subst AreColumns c a, ap (λ k. fault (kinds_of k) rows) (sym c) ∙ ap (fault (kinds_of cs)) (sym r) ∙ q)
  judged cs (Some f) a q e = absurd (cc)

  cases : (r : Result (List Column) Blame) → columns_after 1 (first_words of) header ≡ r
      → result_and_then (λ cs. unless_error (fault (kinds_of cs) left) (table cs left)) (result_map_err (fault_in of 1) r) ≡ Ok (table columns rows)
      → AreColumns columns × (fault (kinds_of columns) rows ≡ None)
  cases (Ok cs) q e = judged cs (fault (kinds_of cs) left) (columns-are (first_words of) header 1 cs q) refl e
  cases (Err b) q e = absurd (cc)

-- ---- names

-- the columns of the nodes and of the edges have names that a property may have
abbrev pub NamesProperties : GraphData → Type 0
NamesProperties g = All HasPropertyName g.node_columns × All HasPropertyName g.edge_columns

pub names-loaded : (nodes edges : List ℕ) (g : GraphData) → graph_of nodes edges ≡ Ok g → NamesProperties g
names-loaded nodes edges g e = over (nodes_table nodes) refl e where
  judge-nodes : List Kind → List Row → Option DataFault
  judge-nodes kinds = rows_fault file.Nodes (node_fault kinds) id_of_row []

  judge-edges : List ℕ → List Kind → List Row → Option DataFault
  judge-edges ids kinds = rows_fault file.Edges (edge_fault 0 kinds ids) (ends_of_row ids) []

  both : (t : Table) (r : Result Table DataFault) → nodes_table nodes ≡ Ok t → edges_table (ids_of t.rows) edges ≡ r → result_map (graph_with t) r ≡ Ok g → NamesProperties g
  both t (Err f) n q e = absurd (cc)
  both t (Ok u) n q e =
      let first = table-holds file.Nodes judge-nodes (records_of nodes) t.columns t.rows n in
      let second = table-holds file.Edges (judge-edges (ids_of t.rows)) (records_of edges) u.columns u.rows q in
      let same : graph_with t u ≡ g = cc in
      subst NamesProperties same (first.0.2, second.0.2)

  over : (r : Result Table DataFault) → nodes_table nodes ≡ r → result_and_then (graph_over edges) r ≡ Ok g → NamesProperties g
  over (Err f) n e = absurd (cc)
  over (Ok t) n e = both t (edges_table (ids_of t.rows) edges) n refl e

-- a name that a property may have is one line: no byte of it is that of a line end
pub one-line : (name : List ℕ) → is_property name ≡ true → All (λ b. b ≢ 10) name
one-line name e =
    bytes name (last-of (nat_le 1 (length name) && not (bytes_eq name (codes "id")) && not (bytes_eq name (codes "src")) && not (bytes_eq name (codes "dst"))) (list_all is_printing name) e)
  where
    last-of : (a b : Bool) → (a && b) ≡ true → b ≡ true
    last-of true b e = e
    last-of false b e = absurd (cc)

    first-of : (a b : Bool) → (a && b) ≡ true → a ≡ true
    first-of true b e = refl
    first-of false b e = e

    bytes : (bs : List ℕ) → list_all is_printing bs ≡ true → All (λ b. b ≢ 10) bs
    bytes [] e k d lt = absurd (omega arith)
    bytes (b ∷ bs) e zero d lt = λ (same : b ≡ 10). ten (subst (λ x. is_printing x ≡ true) same (first-of (is_printing b) (list_all is_printing bs) e)) where
      ten : is_printing 10 ≡ true → ⊥
      ten t = cc
    bytes (b ∷ bs) e (suc k) d lt = bytes bs (last-of (is_printing b) (list_all is_printing bs) e) k d (omega arith)

-- ---- a further file of edges

-- edges that a graph can get behind its own
pub record AreMore (g : GraphData) (more : List (NodeNo × NodeNo)) (lists : List Cells) : Type 0 where
  pub few : length g.ends + length more ≤ 4_000_000
  pub ends : All (EndsAmong (length g.ids)) more
  pub cells : FitColumns (length more) g.edge_columns lists

pub more-are : (statement : ℕ) (g : GraphData) (records rows : List Row) → length g.ends ≤ 4_000_000 → insert_rows statement g records ≡ Ok rows
    → AreMore g (map (ends_of_row g.ids) rows) (cells_of rows 2 (kinds_of g.edge_columns))
more-are statement g [] rows few e = absurd (cc)
more-are statement g (header ∷ left) rows few e = cases (header_fault 1 (insert_words g.edge_columns) header) (judge left) refl e where
  judge : List Row → Option DataFault
  judge rows = rows_fault (file.Insert statement) (edge_fault (length g.ends) (kinds_of g.edge_columns) g.ids) (ends_of_row g.ids) [] rows

  cases : (h : Option Blame) (o : Option DataFault) → judge left ≡ o → unless_error (earlier_of (option_map (fault_in (file.Insert statement) 1) h) o) left ≡ Ok rows
      → AreMore g (map (ends_of_row g.ids) rows) (cells_of rows 2 (kinds_of g.edge_columns))
  cases (Some b) o q e = absurd (cc)
  cases None (Some f) q e = absurd (cc)
  cases None None q e =
      let same : left ≡ rows = cc in
      let judged : judge rows ≡ None = ap judge (sym same) ∙ q in
      let are = ends-are (file.Insert statement) (length g.ends) g.ids (kinds_of g.edge_columns) rows few judged in
      record {
        few = are.few;
        ends = are.among;
        cells = columns-fit rows 2 (length (map (ends_of_row g.ids) rows)) g.edge_columns (length-map rows (ends_of_row g.ids));
      }

-- a graph, and the same with more edges behind its own
pub record Extends (g h : GraphData) : Type 0 where
  pub more : List (NodeNo × NodeNo)
  pub lists : List Cells
  pub are : AreMore g more lists
  pub whole : h ≡ with_edges g more lists

pub extends : (statement : ℕ) (bytes : List ℕ) (g h : GraphData) → length g.ends ≤ 4_000_000 → extended statement bytes g ≡ Ok h → Extends g h
extends statement bytes g h few e = cases (insert_rows statement g (records_of bytes)) refl e where
  cases : (r : Result (List Row) DataFault) → insert_rows statement g (records_of bytes) ≡ r → result_map (with_rows g) r ≡ Ok h → Extends g h
  cases (Err f) q e = absurd (cc)
  cases (Ok rows) q e = record {
    more = map (ends_of_row g.ids) rows;
    lists = cells_of rows 2 (kinds_of g.edge_columns);
    are = more-are statement g (records_of bytes) rows few q;
    whole = let same : with_rows g rows ≡ h = cc in sym same;
  }
