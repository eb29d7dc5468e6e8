-- Internal definitions: groups as numbers, and what edges add to the pairs of their groups.
use Rattle.std.specs.Prelude.{◌≡◌, ℕ, ℤ, pos, ◌-ℤ◌, int_lt, ◌+◌, ◌-◌, ◌*◌, ◌/◌, ◌%◌, ◌<◌, ◌==◌, Bool, true, List, [], ◌∷◌, ◌++◌, length, get_or, if◌then◌else◌, Option, None, Some}
use Rattle.std.specs.Int.{w64}
use Rattle.std.specs.Int.RustNames.{unsigned_abs, FitsSigned}
use Rattle.std.specs.declared.cmp.Ordering.{Ordering}
use Rattle.std.specs.declared.cmp.Ordering.TheVariants.{Less}
use Rattle.std.specs.Ordering.{is_eq, nat_cmp}
use Rattle.std.specs.List.{list_any}
use Rattle.weighted.specs.Words.{word, minus}
use Rattle.weighted.specs.WordLaws.{mapped}
use Rattle.graph_model.specs.GraphData.{GraphData, Cell, ends_of, node_cell_of, edge_cell_of}
use Rattle.graph_model.specs.declared.number.EdgeNo.{EdgeNo}
use Rattle.aggregate_views.specs.declared.cell.GroupRow.{GroupRow}
use Rattle.aggregate_views.specs.Rows.{cell_order, group_cell, number_in}
use Rattle.aggregate_views.specs.declared.group_key.GroupKey.{GroupKey}
use Rattle.aggregate_views.specs.declared.group_key.GroupKey.TheVariants as keys
use Rattle.aggregate_views.specs.declared.part.Part.{Part}
use Rattle.aggregate_views.specs.declared.part.Totals.{Totals}
use Rattle.aggregate_views.specs.declared.part.Part.TheVariants.{Count, Low, High}

-- ---- groups

abbrev pub key_cell : GroupKey → Cell
key_cell keys.Absent = Cell.absent
key_cell (keys.Int z) = Cell.int z
key_cell (keys.Bool b) = Cell.bool b
key_cell (keys.Str text) = Cell.str text.now

-- each value is below all later ones
abbrev pub Above : {A : Type 0} → (A → A → Ordering) → A → List A → Type 0
Above order x [] = Unit {0}
Above order x (y ∷ ys) = (order x y ≡ Less) × Above order x ys

abbrev pub Rises : {A : Type 0} → (A → A → Ordering) → List A → Type 0
Rises order [] = Unit {0}
Rises order (x ∷ xs) = Above order x xs × Rises order xs

-- cells stand to each other as their places do, and each node has the place of its own cell
pub record AreCodes (g : GraphData) (column : ℕ) (cells : List Cell) (places : List ℕ) : Type 0 where
  pub order : (i j : ℕ) → i < length cells → j < length cells → cell_order (get_or cells i Cell.absent) (get_or cells j Cell.absent) ≡ nat_cmp i j
  pub count : length places ≡ length g.ids
  pub each : (n : ℕ) → n < length g.ids → (get_or places n 0 < length cells) × (get_or cells (get_or places n 0) Cell.absent ≡ node_cell_of g n column)

-- the cell of each of the first nodes is among the keys
abbrev pub HasKeys : GraphData → ℕ → ℕ → List GroupKey → Type 0
HasKeys g column count ks = (n : ℕ) → n < count → list_any (λ k. is_eq (cell_order (node_cell_of g n column) (key_cell k))) ks ≡ true

-- ---- what edges add

abbrev pub code_pair : GraphData → List ℕ → ℕ → ℕ × ℕ
code_pair g places e = (get_or places (ends_of g e).0.0 0, get_or places (ends_of g e).1.0 0)

-- a number of 64 bits and 2^63
abbrev pub shifted : ℤ → ℕ
shifted z = if int_lt z (pos 0) then 9_223_372_036_854_775_808 - unsigned_abs z else 9_223_372_036_854_775_808 + unsigned_abs z

abbrev pub shifted_at : GraphData → ℕ → ℕ → ℕ
shifted_at g column e = shifted (number_in (edge_cell_of g e column))

abbrev pub edge_parts : GraphData → Option ℕ → ℕ → List (Part × ℕ)
edge_parts g None e = (Count, 1) ∷ []
edge_parts g (Some column) e = (Count, 1) ∷ (Low, shifted_at g column e % 4_294_967_296) ∷ (High, shifted_at g column e / 4_294_967_296) ∷ []

abbrev pub edge_entries : GraphData → List ℕ → Option ℕ → ℕ → List (((ℕ × ℕ) × Part) × ℕ)
edge_entries g places sum e = mapped (λ p. (code_pair g places e, p)) (edge_parts g sum e)

-- the edges' entries, one edge after another
abbrev pub entries_of : GraphData → List ℕ → Option ℕ → List ℕ → List (((ℕ × ℕ) × Part) × ℕ)
entries_of g places sum [] = []
entries_of g places sum (e ∷ es) = edge_entries g places sum e ++ entries_of g places sum es

-- these, or what takes them away
abbrev pub signed_entries : {R : Type 0} → Bool → List (R × ℕ) → List (R × ℕ)
signed_entries comes [] = []
signed_entries comes (e ∷ es) = (e.0, if comes then e.1 else minus e.1) ∷ signed_entries comes es

abbrev pub change_entries : GraphData → List ℕ → Option ℕ → List (EdgeNo × Bool) → List (((ℕ × ℕ) × Part) × ℕ)
change_entries g places sum [] = []
change_entries g places sum (c ∷ cs) = signed_entries c.1 (edge_entries g places sum c.0.0) ++ change_entries g places sum cs

-- ---- what is made of a pair

abbrev pub totals_of : (Part → Part → Ordering) → List (Part × ℕ) → List (Totals × ℕ)
totals_of order words = if word order words Count == 0 then [] else (record { count = word order words Count; low = word order words Low; high = word order words High }, 1) ∷ []

-- the sum of so many numbers, of whose shifted numbers these are the sums of both halves
abbrev pub exact : ℕ → ℕ → ℕ → ℤ
exact count low high = pos (high * 4_294_967_296 + low) -ℤ pos (count * 9_223_372_036_854_775_808)

abbrev pub sum_in : Option ℕ → Totals → ℤ
sum_in None t = pos 0
sum_in (Some column) t = exact t.count t.low t.high

-- the number of an edge, where one is summed, is one of 64 bits
abbrev pub HasNumber : GraphData → Option ℕ → ℕ → Type 0
HasNumber g None e = Unit {0}
HasNumber g (Some column) e = FitsSigned w64 (number_in (edge_cell_of g e column))

-- how the order of parts answers
abbrev pub part_place : Part → ℕ
part_place Count = 0
part_place Low = 1
part_place High = 2

-- a place below this many, twice
abbrev pub IsPair : ℕ → ℕ × ℕ → Type 0
IsPair n p = (p.0 < n) × (p.1 < n)

-- the cells of a pair of places
abbrev pub decoded : List Cell → ℕ × ℕ → Cell × Cell
decoded cells p = (get_or cells p.0 Cell.absent, get_or cells p.1 Cell.absent)

-- the ends of an edge are nodes, and its number, where one is summed, is one of 64 bits
pub record IsKnown (g : GraphData) (sum : Option ℕ) (e : ℕ) : Type 0 where
  pub from : (ends_of g e).0.0 < length g.ids
  pub to : (ends_of g e).1.0 < length g.ids
  pub number : HasNumber g sum e

-- the row of a pair of places and its totals
abbrev pub row_at : List Cell → Option ℕ → (ℕ × ℕ) × Totals → GroupRow
row_at cells sum r = record { from = group_cell (decoded cells r.0).0; to = group_cell (decoded cells r.0).1; count = r.1.count; sum = sum_in sum r.1 }
