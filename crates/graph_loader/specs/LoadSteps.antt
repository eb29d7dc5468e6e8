-- What the steps of a load give.
use Rattle.std.specs.Prelude.{◌≡◌, ℕ, ◌+◌, ◌<◌, ◌==◌, ◌&&◌, nat_eq, nat_lt, List, [], ◌∷◌, ◌++◌, length, map, get_or, set, position, Option, Some, None, option_map, unwrap_or, Ok, if◌then◌else◌}
use Rattle.std.specs.Result.{result_err, result_unwrap_or}
use Rattle.std.specs.Str.{is_utf8, bytes_eq}
use Rattle.std.specs.Borrow.{Bor}
use Rattle.graph_model.specs.declared.number.NodeNo.{NodeNo}
use Rattle.graph_model.specs.declared.cell.Column.{Column}
use Rattle.graph_model.specs.declared.cell.Kind.{Kind}
use Rattle.graph_model.specs.declared.cell.Cells.{Cells}
use Rattle.graph_model.specs.declared.cell.Cells.TheVariants as cells
use Rattle.graph_loader.specs.declared.fault.DataKind.{DataKind}
use Rattle.graph_loader.specs.declared.fault.DataKind.TheVariants as wrong
use Rattle.graph_loader.specs.declared.fault.Blame.{Blame}
use Rattle.graph_loader.specs.declared.fault.DataFault.{DataFault}
use Rattle.graph_loader.specs.declared.fault.DataFile.{DataFile}
use Rattle.graph_loader.specs.declared.edges.EdgeSource.{EdgeSource}
use Rattle.graph_model.specs.GraphData.{GraphData, node}
use Rattle.graph_loader.specs.Spelling.{id_spelled}
use Rattle.graph_loader.specs.DataFiles.{Row, blame, bool_in, cells_from, cells_of, earlier_of, edge_fault, edges_table, end_named, ends_of_row, fault_in, field_of, ids_of, insert_rows, int_in, kinds_of, nodes_table, records_of, rows_fault, table}

-- ---- the header

-- a header that has another field than this word at this place, or none
abbrev pub word_fault : Row → ℕ → List ℕ → Option Blame
word_fault row place word = if nat_lt place (length row) && bytes_eq (field_of row place) word then None else Some (blame (place + 1) wrong.BadHeader)

-- the column of a name and a kind
abbrev pub column_parts : Bor (List ℕ) × Kind → Column
column_parts p = record { name = p.0.now; kind = p.1 }

-- ---- cells

-- what is wrong with a field that spells no cell
abbrev pub bad_field : List ℕ → DataKind
bad_field field = if is_utf8 field then wrong.BadCell else wrong.NotUtf8

abbrev pub no_cells : Kind → Cells
no_cells k = cells_from k []

-- cells with one more at the end, which a field spells
abbrev pub with_cell : Cells → List ℕ → Cells
with_cell (cells.Int items) field = cells.Int (items ++ result_unwrap_or (int_in field) None ∷ [])
with_cell (cells.Str items) field = cells.Str (items ++ field ∷ [])
with_cell (cells.Bool items) field = cells.Bool (items ++ result_unwrap_or (bool_in field) None ∷ [])

-- columns with one more cell each, which the fields of a record spell from this place on
abbrev pub pushed : Row → ℕ → List Cells → List Cells
pushed row place [] = []
pushed row place (c ∷ cs) = with_cell c (field_of row place) ∷ pushed row (place + 1) cs

-- ---- places of ids

abbrev pub no_place : ℕ
no_place = 4_294_967_295

-- the place that a slot holds
abbrev pub place_in : ℕ → Option ℕ
place_in slot = if slot == no_place then None else Some slot

-- a table that holds, for each id below its length, the place of the id among these
abbrev pub IsTableOf : List ℕ → List ℕ → Type 0
IsTableOf ids slots = (id : ℕ) → id < length slots → place_in (get_or slots id no_place) ≡ position (nat_eq id) ids

-- a table in which this id, if it is below the length and has no place, has this one
abbrev pub with_place : List ℕ → ℕ → ℕ → List ℕ
with_place slots id place = if nat_lt id (length slots) && (get_or slots id no_place == no_place) then set slots id place else slots

-- ---- ends, by their ids

-- the ids of the source and of the destination of a record's edge
abbrev pub pair_of_row : Row → ℕ × ℕ
pair_of_row row = (unwrap_or (id_spelled (field_of row 0)) 0, unwrap_or (id_spelled (field_of row 1)) 0)

-- what is wrong with ends that have these ids, of which the first stands in column 1: a node with the id is missing
abbrev pub pair_fault : List ℕ → ℕ × ℕ → Option Blame
pair_fault ids p =
    earlier_of (option_map (blame 1) (result_err (end_named ids (Some p.0)))) (option_map (blame 2) (result_err (end_named ids (Some p.1))))

-- the ends that have these ids
abbrev pub pair_ends : List ℕ → ℕ × ℕ → NodeNo × NodeNo
pair_ends ids p = (result_unwrap_or (end_named ids (Some p.0)) (node 0), result_unwrap_or (end_named ids (Some p.1)) (node 0))

-- the first fault of the ends that have these ids, of edges that come after so many others of the file
abbrev pub pairs_fault : DataFile → List ℕ → ℕ → List (ℕ × ℕ) → Option DataFault
pairs_fault of ids count [] = None
pairs_fault of ids count (p ∷ pairs) = earlier_of (option_map (fault_in of (count + 2)) (pair_fault ids p)) (pairs_fault of ids (count + 1) pairs)

-- these ends, and behind them those that have these ids
abbrev pub ends_so_far : List ℕ → List (NodeNo × NodeNo) → List (ℕ × ℕ) → List (NodeNo × NodeNo)
ends_so_far ids ends pairs = ends ++ map (pair_ends ids) pairs

-- the first fault of the edges whose ends are known by their ids alone, and of the record behind them
abbrev pub fault_by_row : EdgeSource → List Kind → List ℕ → List (NodeNo × NodeNo) → List (ℕ × ℕ) → Row → Option DataFault
fault_by_row of kinds ids ends pairs row =
    earlier_of (pairs_fault of.file ids (length ends) pairs) (option_map (fault_in of.file (length ends + length pairs + 2)) (edge_fault of.before kinds ids (ends_so_far ids ends pairs) row))

-- the first fault of all these records
abbrev pub source_fault : EdgeSource → List Kind → List ℕ → List Row → Option DataFault
source_fault of kinds ids rows = rows_fault of.file (edge_fault of.before kinds ids) (ends_of_row ids) [] rows

-- ---- files

-- what a nodes file spells: ids, columns and a list of cells for each column
pub record SpellsNodes (bytes keys : List ℕ) (columns : List Column) (lists : List Cells) : Type 0 where
  pub rows : List Row
  pub file : nodes_table bytes ≡ Ok (table columns rows)
  pub ids : keys ≡ ids_of rows
  pub cells : lists ≡ cells_of rows 1 (kinds_of columns)

-- what an edges file spells between nodes with these ids: pairs of ends, columns and a list of cells for each column
pub record SpellsEdges (keys bytes : List ℕ) (pairs : List (NodeNo × NodeNo)) (columns : List Column) (lists : List Cells) : Type 0 where
  pub rows : List Row
  pub file : edges_table keys bytes ≡ Ok (table columns rows)
  pub ends : pairs ≡ map (ends_of_row keys) rows
  pub cells : lists ≡ cells_of rows 2 (kinds_of columns)

-- what the file of edges that a statement names adds to a graph: pairs of ends and a list of cells for each column
pub record SpellsMore (statement : ℕ) (bytes : List ℕ) (g : GraphData) (pairs : List (NodeNo × NodeNo)) (lists : List Cells) : Type 0 where
  pub rows : List Row
  pub file : insert_rows statement g (records_of bytes) ≡ Ok rows
  pub ends : pairs ≡ map (ends_of_row g.ids) rows
  pub cells : lists ≡ cells_of rows 2 (kinds_of g.edge_columns)
