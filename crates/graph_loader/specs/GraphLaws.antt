-- What two data files spell is a graph, and what a further file of edges spells can stand behind its edges.
use Rattle.std.proofs.Common.{◌≡◌, ◌∙◌, refl, ap, ℕ, zero, suc, ◌+◌, ◌<◌, ◌≤◌, ◌^◌, Bool, true, false, ◌&&◌, ◌==◌, List, [], ◌∷◌, ◌++◌, length, map, Option, Some, None, option_map, Err, if◌then◌else◌, arith}
use Rattle.std.specs.Prelude.{ℤ, pos, neg_ℤ, nat_eq, nat_lt, nat_le, ok_or, unwrap_or, All}
use Rattle.std.specs.List.{list_any, list_all, position_or_len}
use Rattle.std.specs.Char.{is_ascii_digit}
use Rattle.std.specs.Result.{result_err, result_unwrap_or}
use Rattle.std.specs.Str.{is_utf8}
use Rattle.std.proofs.lemmas.List.{length-map, length-append}
use Rattle.std.proofs.lemmas.List.Elements.{All-map}
use Rattle.std.proofs.lemmas.Bool.Decides.{nat_tests}
use Rattle.graph_model.specs.declared.number.NodeNo.{NodeNo}
use Rattle.graph_model.specs.declared.cell.Column.{Column}
use Rattle.graph_model.specs.declared.cell.Cells.{Cells}
use Rattle.graph_model.specs.declared.cell.Kind.{Kind}
use Rattle.graph_model.specs.declared.cell.Kind.TheVariants as kind
use Rattle.graph_model.specs.GraphData.{AreDistinct, EndsAmong, FitColumns, HasNoLowest, IsGraphData, cell_count, lowest_number, node}
use Rattle.graph_loader.specs.declared.fault.Blame.{Blame}
use Rattle.graph_loader.specs.declared.fault.DataKind.{DataKind}
use Rattle.graph_loader.specs.declared.fault.DataKind.TheVariants as wrong
use Rattle.graph_loader.specs.declared.fault.DataFile.{DataFile}
use Rattle.graph_loader.specs.declared.fault.DataFile.TheVariants as file
use Rattle.graph_loader.specs.DataFiles.{Row, blame, cells_from, cells_of, earlier_of, edge_fault, end_in, end_named, ends_of_row, field_of, graph_with, id_fault, id_of_row, ids_of, int_in, kinds_of, node_fault, rows_fault, table}
use Rattle.graph_loader.specs.Spelling.{decimal, id_spelled, int_spelled, is_number, minus_sign, signed_spelled}
use Rattle.graph_loader.specs.CellLaws.{kinds-of-cells}
use Rattle.graph_loader.specs.ColumnLaws.{AreColumns, all-none, all-push, distinct-push, new-id}
use Rattle.graph_loader.specs.RecordLaws.{few-nodes, few-edges, rows-keep}

-- ---- what a record without a fault gives

-- the parts of checks that are made one after the other
checked : (t : Bool) (o : Option Blame) (b : Blame) → (if t then o else Some b) ≡ None → o ≡ None
checked true o b e = e
checked false o b e = absurd (cc)

first-none : (o p : Option Blame) → earlier_of o p ≡ None → (o ≡ None) × (p ≡ None)
first-none None p e = (refl, e)
first-none (Some b) p e = absurd (cc)

unblamed : (column : ℕ) (o : Option DataKind) → option_map (blame column) o ≡ None → o ≡ None
unblamed column None e = refl
unblamed column (Some k) e = absurd (cc)

last-of : (a b : Bool) → (a && b) ≡ true → b ≡ true
last-of true b e = e
last-of false b e = absurd (cc)

number-small : (field : List ℕ) → is_number field ≡ true → decimal field < 2 ^ 63
number-small field e = below (last-of (nat_le 1 (length field) && nat_le (length field) 19 && list_all is_ascii_digit field) (nat_lt (decimal field) (2 ^ 63)) e) where
  below : nat_lt (decimal field) (2 ^ 63) ≡ true → decimal field < 2 ^ 63
  below t = grind (arith, nat_tests)

-- an id without a fault is below 2^63, and new
id-fits : (ids field : List ℕ) → id_fault ids (id_spelled field) ≡ None → (unwrap_or (id_spelled field) 0 < 2 ^ 63) × (list_any (nat_eq (unwrap_or (id_spelled field) 0)) ids ≡ false)
id-fits ids field e = cases (is_number field) refl e where
  new : (id : ℕ) (t : Bool) → list_any (nat_eq id) ids ≡ t → (if t then Some wrong.RepeatedId else None) ≡ None → list_any (nat_eq id) ids ≡ false
  new id true p e = absurd (cc)
  new id false p e = p

  cases : (t : Bool) → is_number field ≡ t → id_fault ids (if t then Some (decimal field) else None) ≡ None
      → (unwrap_or (if t then Some (decimal field) else None) 0 < 2 ^ 63) × (list_any (nat_eq (unwrap_or (if t then Some (decimal field) else None) 0)) ids ≡ false)
  cases true p e = (number-small field p, new (decimal field) (list_any (nat_eq (decimal field)) ids) refl e)
  cases false p e = absurd (cc)

-- ---- the nodes

pub record AreIds (ids : List ℕ) : Type 0 where
  pub few : length ids ≤ 1_000_000
  pub small : All (λ id. id < 2 ^ 63) ids
  pub distinct : AreDistinct ids

ids-step : (kinds : List Kind) (earlier : List ℕ) (row : Row) → AreIds earlier → node_fault kinds earlier row ≡ None → AreIds (earlier ++ id_of_row row ∷ [])
ids-step kinds earlier row h e =
    let count = few-nodes kinds earlier row e in
    let judged = checked (nat_lt (length earlier) 1_000_000) _ _ e in
    let fields = checked (length row == length kinds + 1) _ _ judged in
    let id = id-fits earlier (field_of row 0) (unblamed 1 _ (first-none _ _ fields).0) in
    record {
      few = omega (arith, count, length-append earlier (id_of_row row ∷ []));
      small = all-push (λ id. id < 2 ^ 63) earlier (id_of_row row) h.small id.0;
      distinct = distinct-push earlier (id_of_row row) h.distinct (new-id earlier (id_of_row row) id.1);
    }

pub ids-are : (kinds : List Kind) (rows : List Row) → rows_fault file.Nodes (node_fault kinds) id_of_row [] rows ≡ None → AreIds (ids_of rows)
ids-are kinds rows e =
    rows-keep ℕ file.Nodes id_of_row 1 node_fault kinds AreIds (ids-step kinds) rows []
    (record { few = omega arith; small = all-none (λ id. id < 2 ^ 63); distinct = λ i j x a b. absurd (cc) }) e

-- ---- the edges

end-fits : (ids field : List ℕ) → result_err (end_in ids field) ≡ None → (result_unwrap_or (end_in ids field) (node 0)).0 < length ids
end-fits ids field e = spelled (id_spelled field) e where
  found : (id : ℕ) (t : Bool) → nat_lt (position_or_len (nat_eq id) ids) (length ids) ≡ t
      → result_err (ok_or (option_map node (if t then Some (position_or_len (nat_eq id) ids) else None)) wrong.UnknownNode) ≡ None
      → (result_unwrap_or (ok_or (option_map node (if t then Some (position_or_len (nat_eq id) ids) else None)) wrong.UnknownNode) (node 0)).0 < length ids
  found id true p e = below p where
    below : nat_lt (position_or_len (nat_eq id) ids) (length ids) ≡ true → position_or_len (nat_eq id) ids < length ids
    below t = grind (arith, nat_tests)
  found id false p e = absurd (cc)

  spelled : (o : Option ℕ) → result_err (end_named ids o) ≡ None → (result_unwrap_or (end_named ids o) (node 0)).0 < length ids
  spelled None e = absurd (cc)
  spelled (Some id) e = found id (nat_lt (position_or_len (nat_eq id) ids) (length ids)) refl e

pub record AreEnds (before nodes : ℕ) (ends : List (NodeNo × NodeNo)) : Type 0 where
  pub few : before + length ends ≤ 4_000_000
  pub among : All (EndsAmong nodes) ends

ends-step : (before : ℕ) (ids : List ℕ) (kinds : List Kind) (earlier : List (NodeNo × NodeNo)) (row : Row) → AreEnds before (length ids) earlier → edge_fault before kinds ids earlier row ≡ None
    → AreEnds before (length ids) (earlier ++ ends_of_row ids row ∷ [])
ends-step before ids kinds earlier row h e =
    let count = few-edges before kinds ids earlier row e in
    let judged = checked (nat_lt (before + length earlier) 4_000_000) _ _ e in
    let fields = checked (length row == length kinds + 2) _ _ judged in
    let first = first-none _ _ fields in
    let second = first-none _ _ first.1 in
    record {
      few = omega (arith, count, length-append earlier (ends_of_row ids row ∷ []));
      among = all-push (EndsAmong (length ids)) earlier (ends_of_row ids row) h.among (end-fits ids (field_of row 0) (unblamed 1 _ first.0), end-fits ids (field_of row 1) (unblamed 2 _ second.0));
    }

pub ends-are : (of : DataFile) (before : ℕ) (ids : List ℕ) (kinds : List Kind) (rows : List Row) → before ≤ 4_000_000
    → rows_fault of (edge_fault before kinds ids) (ends_of_row ids) [] rows ≡ None
    → AreEnds before (length ids) (map (ends_of_row ids) rows)
ends-are of before ids kinds rows le e =
    rows-keep (NodeNo × NodeNo) of (ends_of_row ids) 2 (λ kinds. edge_fault before kinds ids) kinds (AreEnds before (length ids)) (ends-step before ids kinds) rows []
    (record { few = omega arith; among = all-none (EndsAmong (length ids)) }) e

-- ---- cells

not-lowest : (n : ℕ) → n < 2 ^ 63 → neg_ℤ (pos n) ≡ lowest_number → ⊥
not-lowest zero lt e = cc
not-lowest (suc n) lt e = let same : n ≡ 9_223_372_036_854_775_807 = cc in omega arith

signed-fits : (field : List ℕ) → signed_spelled field ≡ Some lowest_number → ⊥
signed-fits [] e = cc
signed-fits (b ∷ rest) e = cases (b == minus_sign) (is_number rest) (is_number (b ∷ rest)) refl e where
  cases : (t u v : Bool) → is_number rest ≡ u
      → (if t then option_map (λ n. neg_ℤ (pos n)) (if u then Some (decimal rest) else None) else option_map (λ n. pos n) (if v then Some (decimal (b ∷ rest)) else None)) ≡ Some lowest_number → ⊥
  cases true true v p e = let same : neg_ℤ (pos (decimal rest)) ≡ lowest_number = cc in not-lowest (decimal rest) (number-small rest p) same
  cases true false v p e = cc
  cases false u true p e = cc
  cases false u false p e = cc

int-fits : (field : List ℕ) → result_unwrap_or (int_in field) None ≡ Some lowest_number → ⊥
int-fits field e = cases (is_utf8 field) field e where
  some : (o : Option ℤ) → option_map (λ z. Some z) o ≡ Some (Some lowest_number) → o ≡ Some lowest_number
  some None e = absurd (cc)
  some (Some z) e = cc

  of-spelled : (o : Option (Option ℤ)) → result_unwrap_or {E = DataKind} (ok_or o wrong.BadCell) None ≡ Some lowest_number → o ≡ Some (Some lowest_number)
  of-spelled None e = absurd (cc)
  of-spelled (Some z) e = ap (λ x. Some x) e

  text : (field : List ℕ) → int_spelled field ≡ Some (Some lowest_number) → ⊥
  text [] e = cc
  text (b ∷ rest) e = signed-fits (b ∷ rest) (some (signed_spelled (b ∷ rest)) e)

  cases : (t : Bool) (field : List ℕ) → result_unwrap_or (if t then ok_or (int_spelled field) wrong.BadCell else Err wrong.NotUtf8) None ≡ Some lowest_number → ⊥
  cases true field e = text field (of-spelled (int_spelled field) e)
  cases false field e = cc

all-fields : (fields : List (List ℕ)) → All (λ z. z ≡ Some lowest_number → ⊥) (map (λ field. result_unwrap_or (int_in field) None) fields)
all-fields fields = All-map (λ z. z ≡ Some lowest_number → ⊥) (λ field. result_unwrap_or (int_in field) None) fields (λ k d lt. int-fits _)

cells-fit : (k : Kind) (fields : List (List ℕ)) → HasNoLowest (cells_from k fields)
cells-fit kind.Int fields = all-fields fields
cells-fit kind.Str fields = tt
cells-fit kind.Bool fields = tt

count-of : (k : Kind) (fields : List (List ℕ)) → cell_count (cells_from k fields) ≡ length fields
count-of kind.Int fields = length-map fields _
count-of kind.Str fields = refl
count-of kind.Bool fields = length-map fields _

all-cons : {A : Type 0} (P : A → Type 0) (x : A) (xs : List A) → P x → All P xs → All P (x ∷ xs)
all-cons P x xs p h zero d lt = p
all-cons P x xs p h (suc k) d lt = h k d (omega arith)

counts : (rows : List Row) (place : ℕ) (kinds : List Kind) → All (λ c. cell_count c ≡ length rows) (cells_of rows place kinds)
counts rows place [] = all-none (λ (c : Cells). cell_count c ≡ length rows)
counts rows place (k ∷ kinds) =
    all-cons (λ (c : Cells). cell_count c ≡ length rows) _ _ (count-of k (map (λ row. field_of row place) rows) ∙ length-map rows (λ row. field_of row place)) (counts rows (place + 1) kinds)

numbers : (rows : List Row) (place : ℕ) (kinds : List Kind) → All HasNoLowest (cells_of rows place kinds)
numbers rows place [] = all-none HasNoLowest
numbers rows place (k ∷ kinds) = all-cons HasNoLowest _ _ (cells-fit k (map (λ row. field_of row place) rows)) (numbers rows (place + 1) kinds)

pub columns-fit : (rows : List Row) (place count : ℕ) (columns : List Column) → count ≡ length rows → FitColumns count columns (cells_of rows place (kinds_of columns))
columns-fit rows place count columns e = rw e (record {
  kinds = kinds-of-cells rows place (kinds_of columns);
  counts = counts rows place (kinds_of columns);
  numbers = numbers rows place (kinds_of columns);
})

-- ---- both files

pub graph-fits : (node_rows edge_rows : List Row) (node_columns edge_columns : List Column) → AreColumns node_columns → AreColumns edge_columns
    → AreIds (ids_of node_rows) → AreEnds 0 (length (ids_of node_rows)) (map (ends_of_row (ids_of node_rows)) edge_rows)
    → IsGraphData (graph_with (table node_columns node_rows) (table edge_columns edge_rows))
graph-fits node_rows edge_rows node_columns edge_columns nc ec i e = record {
  few_nodes = i.few;
  small_ids = i.small;
  distinct_ids = i.distinct;
  few_node_columns = nc.0;
  node_names = nc.1;
  node_cells = columns-fit node_rows 1 (length (ids_of node_rows)) node_columns (length-map node_rows id_of_row);
  few_edges = omega (arith, e.few);
  ends = e.among;
  few_edge_columns = ec.0;
  edge_names = ec.1;
  edge_cells = columns-fit edge_rows 2 (length (map (ends_of_row (ids_of node_rows)) edge_rows)) edge_columns (length-map edge_rows (ends_of_row (ids_of node_rows)));
}
