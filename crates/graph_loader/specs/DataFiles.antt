-- The graph that two data files spell, or their first fault, and what further files of edges add to it. A file is cut into
-- records, which are judged one after the other. A record, or row, is the list of its fields, and a field is a list of bytes.
use Rattle.std.specs.Prelude.{ℕ, ℤ, ◌+◌, Bool, ◌==◌, not, nat_le, nat_lt, nat_eq, List, [], ◌∷◌, ◌++◌, length, map, get_or, position, codes, Option, Some, None, option_map, ok_or, unwrap_or, Result, Ok, Err, if◌then◌else◌}
use Rattle.std.specs.List.{list_any}
use Rattle.std.specs.Result.{result_err, result_unwrap_or}
use Rattle.std.specs.Str.{is_utf8, bytes_eq}
use Rattle.csv.specs.Reading.{records, default_config, strip_bom}
use Rattle.graph_model.specs.declared.number.NodeNo.{NodeNo}
use Rattle.graph_model.specs.declared.cell.Column.{Column}
use Rattle.graph_model.specs.declared.cell.Kind.{Kind}
use Rattle.graph_model.specs.declared.cell.Kind.TheVariants as kind
use Rattle.graph_model.specs.declared.cell.Cells.{Cells}
use Rattle.graph_model.specs.declared.cell.Cells.TheVariants as cells
use Rattle.graph_model.specs.GraphData.{GraphData, node, with_edges}
use Rattle.graph_loader.specs.declared.fault.DataFile.{DataFile}
use Rattle.graph_loader.specs.declared.fault.DataFile.TheVariants as file
use Rattle.graph_loader.specs.declared.fault.DataKind.{DataKind}
use Rattle.graph_loader.specs.declared.fault.DataKind.TheVariants as wrong
use Rattle.graph_loader.specs.declared.fault.DataFault.{DataFault}
use Rattle.graph_loader.specs.declared.fault.Blame.{Blame}
use Rattle.graph_loader.specs.Spelling.{id_spelled, int_spelled, bool_spelled, colon, column_spelled}

-- ---- records

abbrev pub Row : Type 0
Row = List (List ℕ)

-- the records of a file, as `csv` reads them: commas, double quotes, records of any width, none set apart, and a byte
-- order mark at the start skipped
abbrev pub records_of : List ℕ → List Row
records_of bytes = records default_config (strip_bom bytes)

-- the field at a place of a record, the first at 0
abbrev pub field_of : Row → ℕ → List ℕ
field_of row place = get_or row place []

-- ---- faults

-- what is wrong with a record, and in which column; columns count from 1, and column 0 is the record as a whole
abbrev pub blame : ℕ → DataKind → Blame
blame column kind = record { column = column; kind = kind }

-- the fault of the record with this number; records count from 1, and the header is record 1
abbrev pub fault_in : DataFile → ℕ → Blame → DataFault
fault_in file row b = record { file = file; row = row; column = b.column; kind = b.kind }

-- the first of two
abbrev pub earlier_of : {A : Type 0} → Option A → Option A → Option A
earlier_of (Some x) other = Some x
earlier_of None other = other

-- what follows from a value, where there is no error
abbrev pub result_and_then : {A B E : Type 0} → (A → Result B E) → Result A E → Result B E
result_and_then f (Ok x) = f x
result_and_then f (Err e) = Err e

-- the value, where there is no error
abbrev pub unless_error : {A E : Type 0} → Option E → A → Result A E
unless_error None x = Ok x
unless_error (Some e) x = Err e

abbrev pub result_map : {A B E : Type 0} → (A → B) → Result A E → Result B E
result_map f (Ok x) = Ok (f x)
result_map f (Err e) = Err e

abbrev pub result_map_err : {A E F : Type 0} → (E → F) → Result A E → Result A F
result_map_err f (Ok x) = Ok x
result_map_err f (Err e) = Err (f e)

-- ---- the header

-- a file has at most so many properties
abbrev pub most_properties : ℕ
most_properties = 16

-- whether one of these columns has this name
abbrev pub has_name : List Column → List ℕ → Bool
has_name columns name = list_any (λ c. bytes_eq c.name name) columns

-- a property that no earlier column of the file is named like
abbrev pub new_column : List Column → Option Column → Result Column DataKind
new_column earlier None = Err wrong.BadHeader
new_column earlier (Some c) = if has_name earlier c.name then Err wrong.BadHeader else Ok c

-- the property that a field of the header names, after those of the earlier columns
abbrev pub property_in : List Column → List ℕ → Result Column DataKind
property_in earlier field =
    if nat_le most_properties (length earlier) then Err wrong.TooManyColumns
    else if not (is_utf8 field) then Err wrong.NotUtf8
    else new_column earlier (column_spelled field)

-- the properties that the fields of the header name from this column on, after those of the earlier columns
abbrev pub properties_from : ℕ → List Column → Row → Result (List Column) Blame
properties_from column earlier [] = Ok earlier
properties_from column earlier (field ∷ fields) =
    result_and_then (λ c. properties_from (column + 1) (earlier ++ c ∷ []) fields) (result_map_err (blame column) (property_in earlier field))

-- the properties of a header: from this column on it has these words, and then properties alone
abbrev pub columns_after : ℕ → List (List ℕ) → Row → Result (List Column) Blame
columns_after column [] fields = properties_from column [] fields
columns_after column (word ∷ words) [] = Err (blame column wrong.BadHeader)
columns_after column (word ∷ words) (field ∷ fields) = if bytes_eq field word then columns_after (column + 1) words fields else Err (blame column wrong.BadHeader)

-- the words with which the header of a file begins
abbrev pub first_words : DataFile → List (List ℕ)
first_words file.Nodes = codes "id" ∷ []
first_words file.Edges = codes "src" ∷ codes "dst" ∷ []
first_words (file.Insert statement) = codes "src" ∷ codes "dst" ∷ []

-- ---- cells

-- the cell that a field spells, or what is wrong with it, from what the field spells as text
abbrev pub cell_or_fault : {A : Type 0} → List ℕ → Option A → Result A DataKind
cell_or_fault field spelled = if is_utf8 field then ok_or spelled wrong.BadCell else Err wrong.NotUtf8

abbrev pub int_in : List ℕ → Result (Option ℤ) DataKind
int_in field = cell_or_fault field (int_spelled field)

abbrev pub bool_in : List ℕ → Result (Option Bool) DataKind
bool_in field = cell_or_fault field (bool_spelled field)

abbrev pub str_in : List ℕ → Result (List ℕ) DataKind
str_in field = cell_or_fault field (Some field)

-- what is wrong with a field of a column of this kind
abbrev pub cell_fault : Kind → List ℕ → Option DataKind
cell_fault kind.Int field = result_err (int_in field)
cell_fault kind.Str field = result_err (str_in field)
cell_fault kind.Bool field = result_err (bool_in field)

-- the first fault of the cells of a record, for columns of these kinds from this place on
abbrev pub cells_fault : Row → ℕ → List Kind → Option Blame
cells_fault row place [] = None
cells_fault row place (k ∷ kinds) = earlier_of (option_map (blame (place + 1)) (cell_fault k (field_of row place))) (cells_fault row (place + 1) kinds)

-- the column of cells that these fields spell
abbrev pub cells_from : Kind → List (List ℕ) → Cells
cells_from kind.Int fields = cells.Int (map (λ field. result_unwrap_or (int_in field) None) fields)
cells_from kind.Str fields = cells.Str fields
cells_from kind.Bool fields = cells.Bool (map (λ field. result_unwrap_or (bool_in field) None) fields)

-- the columns of cells of these records, for columns of these kinds from this place on
abbrev pub cells_of : List Row → ℕ → List Kind → List Cells
cells_of rows place [] = []
cells_of rows place (k ∷ kinds) = cells_from k (map (λ row. field_of row place) rows) ∷ cells_of rows (place + 1) kinds

-- ---- records, judged one after the other

-- the first fault of these records of a file, each of which is judged after what the earlier ones gave
abbrev pub rows_fault : {A : Type 0} → DataFile → (List A → Row → Option Blame) → (Row → A) → List A → List Row → Option DataFault
rows_fault file judge item earlier [] = None
rows_fault file judge item earlier (row ∷ rows) =
    earlier_of (option_map (fault_in file (length earlier + 2)) (judge earlier row)) (rows_fault file judge item (earlier ++ item row ∷ []) rows)

-- what is wrong with a record of another width than this, and else what the rest says
abbrev pub unless_wide : Row → ℕ → Option Blame → Option Blame
unless_wide row width rest = if length row == width then rest else Some (blame 0 wrong.WrongWidth)

-- ---- the nodes file

-- the id of a record's node
abbrev pub id_of_row : Row → ℕ
id_of_row row = unwrap_or (id_spelled (field_of row 0)) 0

-- what is wrong with an id that comes after these
abbrev pub id_fault : List ℕ → Option ℕ → Option DataKind
id_fault earlier None = Some wrong.BadId
id_fault earlier (Some id) = if list_any (nat_eq id) earlier then Some wrong.RepeatedId else None

-- the first fault of a record that comes after nodes with these ids
abbrev pub node_fault : List Kind → List ℕ → Row → Option Blame
node_fault kinds earlier row =
    if nat_lt (length earlier) 1_000_000
    then unless_wide row (length kinds + 1)
    (earlier_of (option_map (blame 1) (id_fault earlier (id_spelled (field_of row 0)))) (cells_fault row 1 kinds))
    else Some (blame 0 wrong.TooManyNodes)

-- ---- the edges file

-- the node with this id among these: its number is the place of its id, from 0
abbrev pub end_named : List ℕ → Option ℕ → Result NodeNo DataKind
end_named ids None = Err wrong.BadId
end_named ids (Some id) = ok_or (option_map node (position (nat_eq id) ids)) wrong.UnknownNode

-- the node that a field names by its id
abbrev pub end_in : List ℕ → List ℕ → Result NodeNo DataKind
end_in ids field = end_named ids (id_spelled field)

-- the source and the destination of a record's edge
abbrev pub ends_of_row : List ℕ → Row → NodeNo × NodeNo
ends_of_row ids row = (result_unwrap_or (end_in ids (field_of row 0)) (node 0), result_unwrap_or (end_in ids (field_of row 1)) (node 0))

abbrev pub end_fault : List ℕ → Row → ℕ → Option Blame
end_fault ids row place = option_map (blame (place + 1)) (result_err (end_in ids (field_of row place)))

-- the first fault of a record that comes after so many edges of other files and after these of its own
abbrev pub edge_fault : ℕ → List Kind → List ℕ → List (NodeNo × NodeNo) → Row → Option Blame
edge_fault before kinds ids earlier row =
    if nat_lt (before + length earlier) 4_000_000
    then unless_wide row (length kinds + 2) (earlier_of (end_fault ids row 0) (earlier_of (end_fault ids row 1) (cells_fault row 2 kinds)))
    else Some (blame 0 wrong.TooManyEdges)

-- ---- both files

-- a file's columns and the records under its header
pub record Table : Type 0 where
  pub columns : List Column
  pub rows : List Row

abbrev pub table : List Column → List Row → Table
table columns rows = record { columns = columns; rows = rows }

abbrev pub kinds_of : List Column → List Kind
kinds_of columns = map (λ c. c.kind) columns

-- the fault of a file without a record
abbrev pub no_header : DataFile → DataFault
no_header file = fault_in file 1 (blame 0 wrong.NoHeader)

-- the table of these records: the first is the header, and the others are judged under its columns
abbrev pub table_in : DataFile → (List Kind → List Row → Option DataFault) → List Row → Result Table DataFault
table_in file fault [] = Err (no_header file)
table_in file fault (header ∷ rows) =
    result_and_then (λ columns. unless_error (fault (kinds_of columns) rows) (table columns rows))
    (result_map_err (fault_in file 1) (columns_after 1 (first_words file) header))

-- the ids of the nodes, in the order of the nodes file
abbrev pub ids_of : List Row → List ℕ
ids_of rows = map id_of_row rows

abbrev pub nodes_table : List ℕ → Result Table DataFault
nodes_table bytes = table_in file.Nodes (λ kinds. rows_fault file.Nodes (node_fault kinds) id_of_row []) (records_of bytes)

-- the table of an edges file, where the nodes have these ids
abbrev pub edges_table : List ℕ → List ℕ → Result Table DataFault
edges_table ids bytes = table_in file.Edges (λ kinds. rows_fault file.Edges (edge_fault 0 kinds ids) (ends_of_row ids) []) (records_of bytes)

-- the graph that a table of nodes and a table of the edges between them spell
abbrev pub graph_with : Table → Table → GraphData
graph_with nodes edges = record {
  ids = ids_of nodes.rows;
  node_columns = nodes.columns;
  node_cells = cells_of nodes.rows 1 (kinds_of nodes.columns);
  ends = map (ends_of_row (ids_of nodes.rows)) edges.rows;
  edge_columns = edges.columns;
  edge_cells = cells_of edges.rows 2 (kinds_of edges.columns);
}

-- the graph that an edges file spells with a table of nodes
abbrev pub graph_over : List ℕ → Table → Result GraphData DataFault
graph_over edges nodes = result_map (graph_with nodes) (edges_table (ids_of nodes.rows) edges)

-- the graph that a nodes file and an edges file spell, or their first fault: the nodes file is judged wholly before the
-- edges file
abbrev pub graph_of : List ℕ → List ℕ → Result GraphData DataFault
graph_of nodes edges = result_and_then (graph_over edges) (nodes_table nodes)

-- ---- a further file of edges

-- the word of a kind in a header
abbrev pub kind_word : Kind → List ℕ
kind_word kind.Int = codes "int"
kind_word kind.Str = codes "str"
kind_word kind.Bool = codes "bool"

-- the field of a column in a header: name, colon, kind
abbrev pub column_word : Column → List ℕ
column_word c = c.name ++ colon ∷ kind_word c.kind

-- the header that a further file of edges has, where those that are there have these columns
abbrev pub insert_words : List Column → List (List ℕ)
insert_words columns = codes "src" ∷ codes "dst" ∷ map column_word columns

-- the first field, from this column on, that isn't the word at its place, or is missing, or is one too many
abbrev pub header_fault : ℕ → List (List ℕ) → Row → Option Blame
header_fault column [] [] = None
header_fault column [] (field ∷ fields) = Some (blame column wrong.BadHeader)
header_fault column (word ∷ words) [] = Some (blame column wrong.BadHeader)
header_fault column (word ∷ words) (field ∷ fields) = if bytes_eq field word then header_fault (column + 1) words fields else Some (blame column wrong.BadHeader)

-- the records under the header of the file of edges that this statement names, or their first fault: they are judged under the
-- columns of the edges that are there, and counted behind these
abbrev pub insert_rows : ℕ → GraphData → List Row → Result (List Row) DataFault
insert_rows statement g [] = Err (no_header (file.Insert statement))
insert_rows statement g (header ∷ rows) =
    unless_error
    (earlier_of (option_map (fault_in (file.Insert statement) 1) (header_fault 1 (insert_words g.edge_columns) header))
    (rows_fault (file.Insert statement) (edge_fault (length g.ends) (kinds_of g.edge_columns) g.ids) (ends_of_row g.ids) [] rows))
    rows

-- the graph with the edges of these records behind its own
abbrev pub with_rows : GraphData → List Row → GraphData
with_rows g rows = with_edges g (map (ends_of_row g.ids) rows) (cells_of rows 2 (kinds_of g.edge_columns))

-- the graph with the edges of the file that this statement names behind its own, or the first fault of that file
abbrev pub extended : ℕ → List ℕ → GraphData → Result GraphData DataFault
extended statement bytes g = result_map (with_rows g) (insert_rows statement g (records_of bytes))
