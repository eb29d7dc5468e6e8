-- No fault of the definition is one of size.
use Rattle.std.proofs.Common.{◌≡◌, ◌≢◌, ap, subst, refl, ℕ, ◌+◌, Bool, true, false, ◌==◌, List, [], ◌∷◌, ◌++◌, length, Option, Some, None, option_map, Result, Ok, Err, if◌then◌else◌}
use Rattle.std.specs.Prelude.{not, nat_eq, nat_le, nat_lt, position, ok_or}
use Rattle.std.specs.List.{list_any}
use Rattle.std.specs.Result.{result_err}
use Rattle.std.specs.Str.{bytes_eq, is_utf8}
use Rattle.graph_model.specs.declared.cell.Column.{Column}
use Rattle.graph_model.specs.declared.cell.Kind.{Kind}
use Rattle.graph_model.specs.declared.cell.Kind.TheVariants as kind
use Rattle.graph_model.specs.declared.number.NodeNo.{NodeNo}
use Rattle.graph_model.specs.GraphData.{GraphData, node}
use Rattle.graph_loader.specs.declared.fault.Blame.{Blame}
use Rattle.graph_loader.specs.declared.fault.DataFault.{DataFault}
use Rattle.graph_loader.specs.declared.fault.DataFile.{DataFile}
use Rattle.graph_loader.specs.declared.fault.DataFile.TheVariants as file
use Rattle.graph_loader.specs.declared.fault.DataKind.{DataKind}
use Rattle.graph_loader.specs.declared.fault.DataKind.TheVariants as wrong
use Rattle.graph_loader.specs.DataFiles.{Row, Table, blame, cell_fault, cell_or_fault, cells_fault, columns_after, earlier_of, edge_fault, edges_table, end_named, ends_of_row, fault_in, field_of, first_words, graph_of, graph_over, graph_with, has_name, header_fault, id_fault, id_of_row, ids_of, insert_rows, insert_words, kinds_of, most_properties, new_column, no_header, node_fault, nodes_table, properties_from, property_in, records_of, result_and_then, result_map, result_map_err, rows_fault, table, table_in, unless_error}
use Rattle.graph_loader.specs.Spelling.{bool_spelled, column_spelled, id_spelled, int_spelled}

-- what is wrong, if anything, isn't the size
OfNoSize : Option DataKind → Type 0
OfNoSize o = (k : DataKind) → o ≡ Some k → k ≢ wrong.TooLarge

NoSize : Option Blame → Type 0
NoSize o = (b : Blame) → o ≡ Some b → b.kind ≢ wrong.TooLarge

nothing : OfNoSize None
unfolding OfNoSize
nothing k e = absurd (cc)

only : (k : DataKind) → k ≢ wrong.TooLarge → OfNoSize (Some k)
unfolding OfNoSize
only k n j e = let same : k ≡ j = cc in subst (λ x. x ≢ wrong.TooLarge) same n

blamed : (column : ℕ) (o : Option DataKind) → OfNoSize o → NoSize (option_map (blame column) o)
unfolding OfNoSize NoSize
blamed column None h b e = absurd (cc)
blamed column (Some k) h b e = let same : blame column k ≡ b = cc in subst (λ x. x.kind ≢ wrong.TooLarge) same (h k refl)

whole : (k : DataKind) → k ≢ wrong.TooLarge → NoSize (Some (blame 0 k))
unfolding NoSize
whole k n b e = let same : blame 0 k ≡ b = cc in subst (λ x. x.kind ≢ wrong.TooLarge) same n

first : (o p : Option Blame) → NoSize o → NoSize p → NoSize (earlier_of o p)
first None p h g = g
first (Some b) p h g = h

either : (t : Bool) (o p : Option Blame) → NoSize o → NoSize p → NoSize (if t then o else p)
either true o p h g = h
either false o p h g = g

-- ---- records

read-cell : {A : Type 0} (field : List ℕ) (o : Option A) → OfNoSize (result_err (cell_or_fault field o))
read-cell {A} field o = cases (is_utf8 field) o where
  cases : (t : Bool) (o : Option A) → OfNoSize (result_err (if t then ok_or o wrong.BadCell else Err wrong.NotUtf8))
  cases true None = only wrong.BadCell (λ e. cc)
  cases true (Some x) = nothing
  cases false o = only wrong.NotUtf8 (λ e. cc)

cell : (k : Kind) (field : List ℕ) → OfNoSize (cell_fault k field)
cell kind.Int field = read-cell field (int_spelled field)
cell kind.Str field = read-cell field (Some field)
cell kind.Bool field = read-cell field (bool_spelled field)

no-blame : NoSize None
unfolding NoSize
no-blame b e = absurd (cc)

row-cells : (row : Row) (place : ℕ) (kinds : List Kind) → NoSize (cells_fault row place kinds)
row-cells row place [] = no-blame
row-cells row place (k ∷ kinds) = first _ _ (blamed (place + 1) _ (cell k (field_of row place))) (row-cells row (place + 1) kinds)

id : (ids : List ℕ) (o : Option ℕ) → OfNoSize (id_fault ids o)
id ids None = only wrong.BadId (λ e. cc)
id ids (Some n) = cases (list_any (nat_eq n) ids) where
  cases : (t : Bool) → OfNoSize (if t then Some wrong.RepeatedId else None)
  cases true = only wrong.RepeatedId (λ e. cc)
  cases false = nothing

node-row : (kinds : List Kind) (ids : List ℕ) (row : Row) → NoSize (node_fault kinds ids row)
node-row kinds ids row =
    either (nat_lt (length ids) 1_000_000) _ _
    (either (length row == length kinds + 1) _ _ (first _ _ (blamed 1 _ (id ids (id_spelled (field_of row 0)))) (row-cells row 1 kinds)) (whole wrong.WrongWidth (λ e. cc)))
    (whole wrong.TooManyNodes (λ e. cc))

end : (ids : List ℕ) (o : Option ℕ) → OfNoSize (result_err (end_named ids o))
end ids None = only wrong.BadId (λ e. cc)
end ids (Some n) = cases (position (nat_eq n) ids) where
  cases : (o : Option ℕ) → OfNoSize (result_err (ok_or (option_map node o) wrong.UnknownNode))
  cases None = only wrong.UnknownNode (λ e. cc)
  cases (Some place) = nothing

edge-row : (before : ℕ) (kinds : List Kind) (ids : List ℕ) (ends : List (NodeNo × NodeNo)) (row : Row) → NoSize (edge_fault before kinds ids ends row)
edge-row before kinds ids ends row =
    either (nat_lt (before + length ends) 4_000_000) _ _
    (either (length row == length kinds + 2) _ _
    (first _ _ (blamed 1 _ (end ids (id_spelled (field_of row 0)))) (first _ _ (blamed 2 _ (end ids (id_spelled (field_of row 1)))) (row-cells row 2 kinds)))
    (whole wrong.WrongWidth (λ e. cc)))
    (whole wrong.TooManyEdges (λ e. cc))

rows : (A : Type 0) (of : DataFile) (judge : List A → Row → Option Blame) (item : Row → A) → ((earlier : List A) (row : Row) → NoSize (judge earlier row))
    → (earlier : List A) (left : List Row) (f : DataFault) → rows_fault of judge item earlier left ≡ Some f → f.kind ≢ wrong.TooLarge
unfolding NoSize
rows A of judge item h earlier [] f e = absurd (cc)
rows A of judge item h earlier (row ∷ left) f e = cases (judge earlier row) (h earlier row) (rows A of judge item h (earlier ++ item row ∷ []) left f) e where
  cases : (o : Option Blame) → NoSize o → (rows_fault of judge item (earlier ++ item row ∷ []) left ≡ Some f → f.kind ≢ wrong.TooLarge)
      → earlier_of (option_map (fault_in of (length earlier + 2)) o) (rows_fault of judge item (earlier ++ item row ∷ []) left) ≡ Some f → f.kind ≢ wrong.TooLarge
  cases None n more e = more e
  cases (Some b) n more e = let same : fault_in of (length earlier + 2) b ≡ f = cc in subst (λ x. x.kind ≢ wrong.TooLarge) same (n b refl)

-- ---- the header

property : (earlier : List Column) (field : List ℕ) (k : DataKind) → property_in earlier field ≡ Err k → k ≢ wrong.TooLarge
property earlier field k e = cases (nat_le most_properties (length earlier)) (is_utf8 field) (column_spelled field) e where
  is : (j : DataKind) → j ≢ wrong.TooLarge → ◌≡◌ {A = Result Column DataKind} (Err j) (Err k) → k ≢ wrong.TooLarge
  is j n e = let same : j ≡ k = cc in subst (λ x. x ≢ wrong.TooLarge) same n

  new : (t : Bool) (c : Column) → ◌≡◌ {A = Result Column DataKind} (if t then Err wrong.BadHeader else Ok c) (Err k) → k ≢ wrong.TooLarge
  new true c e = is wrong.BadHeader (λ e. cc) e
  new false c e = absurd (cc)

  cases : (t u : Bool) (o : Option Column) → ◌≡◌ {A = Result Column DataKind} (if t then Err wrong.TooManyColumns else if not u then Err wrong.NotUtf8 else new_column earlier o) (Err k) → k ≢ wrong.TooLarge
  cases true u o e = is wrong.TooManyColumns (λ e. cc) e
  cases false false o e = is wrong.NotUtf8 (λ e. cc) e
  cases false true None e = is wrong.BadHeader (λ e. cc) e
  cases false true (Some c) e = new (has_name earlier c.name) c e

properties : (fields : Row) (column : ℕ) (earlier : List Column) (b : Blame) → properties_from column earlier fields ≡ Err b → b.kind ≢ wrong.TooLarge
properties [] column earlier b e = absurd (cc)
properties (field ∷ fields) column earlier b e = cases (property_in earlier field) refl (λ c. properties fields (column + 1) (earlier ++ c ∷ []) b) e where
  cases : (r : Result Column DataKind) → property_in earlier field ≡ r → ((c : Column) → properties_from (column + 1) (earlier ++ c ∷ []) fields ≡ Err b → b.kind ≢ wrong.TooLarge)
      → result_and_then (λ c. properties_from (column + 1) (earlier ++ c ∷ []) fields) (result_map_err (blame column) r) ≡ Err b → b.kind ≢ wrong.TooLarge
  cases (Ok c) q more e = more c e
  cases (Err k) q more e = let same : blame column k ≡ b = cc in subst (λ x. x.kind ≢ wrong.TooLarge) same (property earlier field k q)

header : (words : List (List ℕ)) (fields : Row) (column : ℕ) (b : Blame) → columns_after column words fields ≡ Err b → b.kind ≢ wrong.TooLarge
header [] fields column b e = properties fields column [] b e
header (word ∷ words) [] column b e = let same : blame column wrong.BadHeader ≡ b = cc in subst (λ x. x.kind ≢ wrong.TooLarge) same (λ e. cc)
header (word ∷ words) (field ∷ fields) column b e = cases (bytes_eq field word) (header words fields (column + 1) b) e where
  cases : (t : Bool) → (columns_after (column + 1) words fields ≡ Err b → b.kind ≢ wrong.TooLarge)
      → (if t then columns_after (column + 1) words fields else Err (blame column wrong.BadHeader)) ≡ Err b → b.kind ≢ wrong.TooLarge
  cases true more e = more e
  cases false more e = let same : blame column wrong.BadHeader ≡ b = cc in subst (λ x. x.kind ≢ wrong.TooLarge) same (λ e. cc)

-- ---- files

file-fault : (of : DataFile) (fault : List Kind → List Row → Option DataFault) → ((kinds : List Kind) (left : List Row) (f : DataFault) → fault kinds left ≡ Some f → f.kind ≢ wrong.TooLarge)
    → (records : List Row) (f : DataFault) → table_in of fault records ≡ Err f → f.kind ≢ wrong.TooLarge
file-fault of fault h [] f e = let same : fault_in of 1 (blame 0 wrong.NoHeader) ≡ f = cc in subst (λ x. x.kind ≢ wrong.TooLarge) same (λ e. cc)
file-fault of fault h (head ∷ left) f e = cases (columns_after 1 (first_words of) head) refl e where
  judged : (columns : List Column) (o : Option DataFault) → fault (kinds_of columns) left ≡ o → unless_error o (table columns left) ≡ Err f → f.kind ≢ wrong.TooLarge
  judged columns None q e = absurd (cc)
  judged columns (Some g) q e = let same : g ≡ f = cc in subst (λ x. x.kind ≢ wrong.TooLarge) same (h (kinds_of columns) left g q)

  cases : (r : Result (List Column) Blame) → columns_after 1 (first_words of) head ≡ r
      → result_and_then (λ columns. unless_error (fault (kinds_of columns) left) (table columns left)) (result_map_err (fault_in of 1) r) ≡ Err f → f.kind ≢ wrong.TooLarge
  cases (Ok columns) q e = judged columns (fault (kinds_of columns) left) refl e
  cases (Err b) q e = let same : fault_in of 1 b ≡ f = cc in subst (λ x. x.kind ≢ wrong.TooLarge) same (header (first_words of) head 1 b q)

nodes-fault : (bytes : List ℕ) (f : DataFault) → nodes_table bytes ≡ Err f → f.kind ≢ wrong.TooLarge
nodes-fault bytes f e =
    file-fault file.Nodes (λ kinds. rows_fault file.Nodes (node_fault kinds) id_of_row []) (λ kinds. rows ℕ file.Nodes (node_fault kinds) id_of_row (node-row kinds) []) (records_of bytes) f e

edges-fault : (ids bytes : List ℕ) (f : DataFault) → edges_table ids bytes ≡ Err f → f.kind ≢ wrong.TooLarge
edges-fault ids bytes f e =
    file-fault file.Edges (λ kinds. rows_fault file.Edges (edge_fault 0 kinds ids) (ends_of_row ids) []) (λ kinds. rows (NodeNo × NodeNo) file.Edges (edge_fault 0 kinds ids) (ends_of_row ids) (edge-row 0 kinds ids) [])
    (records_of bytes) f e

pub fault-of-no-size : (nodes edges : List ℕ) (f : DataFault) → graph_of nodes edges ≡ Err f → f.kind ≢ wrong.TooLarge
fault-of-no-size nodes edges f e = cases (nodes_table nodes) refl e where
  over : (t : Table) (r : Result Table DataFault) → edges_table (ids_of t.rows) edges ≡ r → result_map (graph_with t) r ≡ Err f → f.kind ≢ wrong.TooLarge
  over t (Ok u) q e = absurd (cc)
  over t (Err g) q e = let same : g ≡ f = cc in subst (λ x. x.kind ≢ wrong.TooLarge) same (edges-fault (ids_of t.rows) edges g q)

  cases : (r : Result Table DataFault) → nodes_table nodes ≡ r → result_and_then (graph_over edges) r ≡ Err f → f.kind ≢ wrong.TooLarge
  cases (Ok t) q e = over t (edges_table (ids_of t.rows) edges) refl e
  cases (Err g) q e = let same : g ≡ f = cc in subst (λ x. x.kind ≢ wrong.TooLarge) same (nodes-fault nodes g q)

-- ---- a further file

insert-header : (words : List (List ℕ)) (fields : Row) (column : ℕ) → NoSize (header_fault column words fields)
unfolding NoSize
insert-header [] [] column b e = absurd (cc)
insert-header [] (field ∷ fields) column b e = let same : blame column wrong.BadHeader ≡ b = cc in subst (λ x. x.kind ≢ wrong.TooLarge) same (λ e. cc)
insert-header (word ∷ words) [] column b e = let same : blame column wrong.BadHeader ≡ b = cc in subst (λ x. x.kind ≢ wrong.TooLarge) same (λ e. cc)
insert-header (word ∷ words) (field ∷ fields) column b e = cases (bytes_eq field word) (insert-header words fields (column + 1) b) e where
  cases : (t : Bool) → (header_fault (column + 1) words fields ≡ Some b → b.kind ≢ wrong.TooLarge)
      → (if t then header_fault (column + 1) words fields else Some (blame column wrong.BadHeader)) ≡ Some b → b.kind ≢ wrong.TooLarge
  cases true more e = more e
  cases false more e = let same : blame column wrong.BadHeader ≡ b = cc in subst (λ x. x.kind ≢ wrong.TooLarge) same (λ e. cc)

pub insert-of-no-size : (statement : ℕ) (g : GraphData) (records : List Row) (f : DataFault) → insert_rows statement g records ≡ Err f → f.kind ≢ wrong.TooLarge
unfolding NoSize
insert-of-no-size statement g [] f e = let same : no_header (file.Insert statement) ≡ f = cc in subst (λ x. x.kind ≢ wrong.TooLarge) same (λ e. cc)
insert-of-no-size statement g (head ∷ left) f e =
    judged (header_fault 1 (insert_words g.edge_columns) head) (rows_fault (file.Insert statement) (edge_fault (length g.ends) (kinds_of g.edge_columns) g.ids) (ends_of_row g.ids) [] left)
    (insert-header (insert_words g.edge_columns) head 1)
    (λ x. rows (NodeNo × NodeNo) (file.Insert statement) (edge_fault (length g.ends) (kinds_of g.edge_columns) g.ids) (ends_of_row g.ids) (edge-row (length g.ends) (kinds_of g.edge_columns) g.ids) [] left x) e
  where
    judged : (h : Option Blame) (o : Option DataFault) → NoSize h → ((x : DataFault) → o ≡ Some x → x.kind ≢ wrong.TooLarge)
        → unless_error (earlier_of (option_map (fault_in (file.Insert statement) 1) h) o) left ≡ Err f → f.kind ≢ wrong.TooLarge
    judged (Some b) o n m e = let same : fault_in (file.Insert statement) 1 b ≡ f = cc in subst (λ x. x.kind ≢ wrong.TooLarge) same (n b refl)
    judged None (Some x) n m e = let same : x ≡ f = cc in m f (ap (λ y. Some y) same)
    judged None None n m e = absurd (cc)
