-- The rows of a list of edges: one for each pair of groups that some edge goes between.
use Rattle.std.specs.Prelude.{ℕ, ℤ, pos, ◌+ℤ◌, ◌+◌, ◌<◌, Bool, List, [], ◌∷◌, length, map, filter, if◌then◌else◌, Option, None, Some, MatchOption}
use Rattle.std.specs.declared.cmp.Ordering.{Ordering}
use Rattle.std.specs.declared.cmp.Ordering.TheVariants.{Less, Equal, Greater}
use Rattle.std.specs.Ordering.{is_eq, nat_cmp, int_cmp, bool_cmp, ordering_then}
use Rattle.std.specs.Cmp.Lexicographic.{slice_cmp}
use Rattle.graph_model.specs.GraphData.{GraphData, Cell, ends_of, node_cell_of, edge_cell_of}
use Rattle.aggregate_views.specs.declared.cell.Cell as held
use Rattle.aggregate_views.specs.declared.cell.Cell.TheVariants as row_cell
use Rattle.aggregate_views.specs.declared.cell.GroupRow.{GroupRow}

-- ---- the order of groups

abbrev pub kind_place : Cell → ℕ
kind_place Cell.absent = 0
kind_place (Cell.int z) = 1
kind_place (Cell.bool b) = 2
kind_place (Cell.str bytes) = 3

-- whole numbers by value, false before true, texts by their bytes; an absent cell is least. A column has cells of one kind.
abbrev pub cell_order : Cell → Cell → Ordering
cell_order (Cell.int a) (Cell.int b) = int_cmp a b
cell_order (Cell.bool a) (Cell.bool b) = bool_cmp a b
cell_order (Cell.str a) (Cell.str b) = slice_cmp nat_cmp a b
cell_order a b = nat_cmp (kind_place a) (kind_place b)

-- by the first cell, then the second
abbrev pub pair_order : Cell × Cell → Cell × Cell → Ordering
pair_order p q = ordering_then (cell_order p.0 q.0) (cell_order p.1 q.1)

-- ---- the pairs

-- the group of an edge's source and that of its destination
abbrev pub pair_at : GraphData → ℕ → ℕ → Cell × Cell
pair_at g column e = (node_cell_of g (ends_of g e).0.0 column, node_cell_of g (ends_of g e).1.0 column)

abbrev pub placed_by : {A : Type 0} → Ordering → A → A → List A → List A → List A
placed_by Less x y ys rest = x ∷ y ∷ ys
placed_by Equal x y ys rest = y ∷ ys
placed_by Greater x y ys rest = y ∷ rest

-- a rising list, with x at its place unless it is there
abbrev pub placed : {A : Type 0} → (A → A → Ordering) → A → List A → List A
placed order x [] = x ∷ []
placed order x (y ∷ ys) = placed_by (order x y) x y ys (placed order x ys)

-- these, each once and rising
abbrev pub rising : {A : Type 0} → (A → A → Ordering) → List A → List A
rising order [] = []
rising order (x ∷ xs) = placed order x (rising order xs)

-- ---- the rows

-- the number in a cell; one without a number adds nothing
abbrev pub number_in : Cell → ℤ
number_in Cell.absent = pos 0
number_in (Cell.int z) = z
number_in (Cell.str bytes) = pos 0
number_in (Cell.bool b) = pos 0

-- the sum of the edges' numbers in a column of edges, and 0 without one
abbrev pub sum_over : GraphData → Option ℕ → List ℕ → ℤ
sum_over g None es = pos 0
sum_over g (Some column) [] = pos 0
sum_over g (Some column) (e ∷ es) = number_in (edge_cell_of g e column) +ℤ sum_over g (Some column) es

-- the edges between the groups of a pair
abbrev pub edges_between : GraphData → ℕ → Cell × Cell → List ℕ → List ℕ
edges_between g column p es = filter (λ e. is_eq (pair_order (pair_at g column e) p)) es

-- a cell as it stands in a row
abbrev pub group_cell : Cell → held.Cell
group_cell Cell.absent = row_cell.Absent
group_cell (Cell.int z) = row_cell.Int z
group_cell (Cell.str bytes) = row_cell.Str bytes
group_cell (Cell.bool b) = row_cell.Bool b

abbrev pub row_of : GraphData → ℕ → Option ℕ → List ℕ → Cell × Cell → GroupRow
row_of g column sum es p = record { from = group_cell p.0; to = group_cell p.1; count = length (edges_between g column p es); sum = sum_over g sum (edges_between g column p es) }

-- one row for each pair of groups that some edge goes between, rising
abbrev pub rows_of : GraphData → ℕ → Option ℕ → List ℕ → List GroupRow
rows_of g column sum es = map (row_of g column sum es) (rising pair_order (map (pair_at g column) es))

-- ---- the edges

abbrev pub present_from : ℕ → List Bool → List ℕ
present_from n [] = []
present_from n (b ∷ bs) = if b then n ∷ present_from (n + 1) bs else present_from (n + 1) bs

-- the numbers of the edges that are present, where the list says of each edge whether it is
abbrev pub present_edges : List Bool → List ℕ
present_edges present = present_from 0 present

-- the column of numbers, where there is one, is one of the edges' columns
abbrev pub HasSumColumn : GraphData → Option ℕ → Type 0
HasSumColumn g sum = MatchOption sum (Unit {0}) (λ column. column < length g.edge_columns)
