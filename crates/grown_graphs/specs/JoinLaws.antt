-- Edges behind those of a graph: it grows, and what it becomes is a graph.
use Rattle.std.specs.Prelude.{ℕ, zero, suc, ◌≡◌, ◌<◌, ◌+◌, List, [], ◌∷◌, length, map, get_or, All, Some}
use Rattle.std.proofs.Common.{◌∙◌, ap, sym, refl, arith}
use Rattle.std.proofs.lemmas.List.{get_or_append_left, length-append, length-map}
use Rattle.std.proofs.lemmas.List.Elements.{All-append}
use Rattle.graph_model.specs.declared.number.NodeNo.{NodeNo}
use Rattle.graph_model.specs.declared.cell.Column.{Column}
use Rattle.graph_model.specs.declared.cell.Cells.{Cells}
use Rattle.graph_model.specs.declared.cell.Cells.TheVariants as cells
use Rattle.graph_model.specs.GraphData.{Cell, EndsAmong, FitColumns, GraphData, HasNoLowest, IsGraphData, all_joined, bool_cell, cell_count, cell_in, int_cell, joined, kind_of, lowest_number, no_cells, node, with_edges}
use Rattle.graph_loader.specs.LoadLaws.{AreMore}
use Rattle.grown_graphs.specs.Growing.{GrowsTo}

-- ---- one column

-- the cells before the added ones
before : (c d : Cells) (e : ℕ) → e < cell_count c → cell_in (joined c d) e ≡ cell_in c e
before (cells.Int a) (cells.Int b) e lt = ap int_cell (get_or_append_left a b _ e lt)
before (cells.Int a) (cells.Str b) e lt = refl
before (cells.Int a) (cells.Bool b) e lt = refl
before (cells.Str a) (cells.Str b) e lt = ap (λ (x : List ℕ). Cell.str x) (get_or_append_left a b _ e lt)
before (cells.Str a) (cells.Int b) e lt = refl
before (cells.Str a) (cells.Bool b) e lt = refl
before (cells.Bool a) (cells.Bool b) e lt = ap bool_cell (get_or_append_left a b _ e lt)
before (cells.Bool a) (cells.Int b) e lt = refl
before (cells.Bool a) (cells.Str b) e lt = refl

kind-kept : (c d : Cells) → kind_of (joined c d) ≡ kind_of c
kind-kept (cells.Int a) (cells.Int b) = refl
kind-kept (cells.Int a) (cells.Str b) = refl
kind-kept (cells.Int a) (cells.Bool b) = refl
kind-kept (cells.Str a) (cells.Str b) = refl
kind-kept (cells.Str a) (cells.Int b) = refl
kind-kept (cells.Str a) (cells.Bool b) = refl
kind-kept (cells.Bool a) (cells.Bool b) = refl
kind-kept (cells.Bool a) (cells.Int b) = refl
kind-kept (cells.Bool a) (cells.Str b) = refl

count-joined : (c d : Cells) → kind_of d ≡ kind_of c → cell_count (joined c d) ≡ cell_count c + cell_count d
count-joined (cells.Int a) (cells.Int b) k = length-append a b
count-joined (cells.Str a) (cells.Str b) k = length-append a b
count-joined (cells.Bool a) (cells.Bool b) k = length-append a b
count-joined (cells.Int a) (cells.Str b) k = absurd cc
count-joined (cells.Int a) (cells.Bool b) k = absurd cc
count-joined (cells.Str a) (cells.Int b) k = absurd cc
count-joined (cells.Str a) (cells.Bool b) k = absurd cc
count-joined (cells.Bool a) (cells.Int b) k = absurd cc
count-joined (cells.Bool a) (cells.Str b) k = absurd cc

lowest-joined : (c d : Cells) → HasNoLowest c → HasNoLowest d → HasNoLowest (joined c d)
lowest-joined (cells.Int a) (cells.Int b) h k = All-append (λ z. z ≡ Some lowest_number → ⊥) a b h k
lowest-joined (cells.Int a) (cells.Str b) h k = h
lowest-joined (cells.Int a) (cells.Bool b) h k = h
lowest-joined (cells.Str a) (cells.Str b) h k = tt
lowest-joined (cells.Str a) (cells.Int b) h k = tt
lowest-joined (cells.Str a) (cells.Bool b) h k = tt
lowest-joined (cells.Bool a) (cells.Bool b) h k = tt
lowest-joined (cells.Bool a) (cells.Int b) h k = tt
lowest-joined (cells.Bool a) (cells.Str b) h k = tt

-- ---- column by column

get-joined : (cs ds : List Cells) (c : ℕ) → length ds ≡ length cs → get_or (all_joined cs ds) c no_cells ≡ joined (get_or cs c no_cells) (get_or ds c no_cells)
get-joined [] [] c e = refl
get-joined [] (d ∷ ds) c e = absurd (omega arith)
get-joined (c ∷ cs) [] k e = absurd (omega arith)
get-joined (c ∷ cs) (d ∷ ds) zero e = refl
get-joined (c ∷ cs) (d ∷ ds) (suc k) e = get-joined cs ds k (omega arith)

kinds-kept : (cs ds : List Cells) → length ds ≡ length cs → map kind_of (all_joined cs ds) ≡ map kind_of cs
kinds-kept [] ds e = refl
kinds-kept (c ∷ cs) [] e = absurd (omega arith)
kinds-kept (c ∷ cs) (d ∷ ds) e = rw (kind-kept c d, kinds-kept cs ds (omega arith)) refl

length-joined : (cs ds : List Cells) → length ds ≡ length cs → length (all_joined cs ds) ≡ length cs
length-joined [] ds e = refl
length-joined (c ∷ cs) [] e = absurd (omega arith)
length-joined (c ∷ cs) (d ∷ ds) e = ap suc (length-joined cs ds (omega arith))

-- what holds of each column and of each that is joined to it holds of them together
all-joined-have : (P Q R : Cells → Type 0) → ((c d : Cells) → kind_of d ≡ kind_of c → P c → Q d → R (joined c d)) → (cs ds : List Cells) → map kind_of ds ≡ map kind_of cs
    → All P cs → All Q ds → All R (all_joined cs ds)
all-joined-have P Q R step [] ds e p q k d lt = absurd (omega arith)
all-joined-have P Q R step (c ∷ cs) [] e p q k d lt = absurd (cc)
all-joined-have P Q R step (c ∷ cs) (x ∷ ds) e p q zero d lt = step c x (cc) (p zero c (omega arith)) (q zero x (omega arith))
all-joined-have P Q R step (c ∷ cs) (x ∷ ds) e p q (suc k) d lt =
    let same : map kind_of ds ≡ map kind_of cs = cc in
    all-joined-have P Q R step cs ds same (λ i y l. p (suc i) y (omega arith)) (λ i y l. q (suc i) y (omega arith)) k d (omega arith)

same-length : (cs ds : List Cells) → map kind_of ds ≡ map kind_of cs → length ds ≡ length cs
same-length cs ds e = sym (length-map ds kind_of) ∙ ap length e ∙ length-map cs kind_of

fit-joined : (count more : ℕ) (columns : List Column) (cs ds : List Cells) → FitColumns count columns cs → FitColumns more columns ds → FitColumns (count + more) columns (all_joined cs ds)
fit-joined count more columns cs ds f k =
    let same : map kind_of ds ≡ map kind_of cs = k.kinds ∙ sym f.kinds in
    record {
      kinds = kinds-kept cs ds (same-length cs ds same) ∙ f.kinds;
      counts = all-joined-have (λ c. cell_count c ≡ count) (λ c. cell_count c ≡ more) (λ c. cell_count c ≡ count + more)
          (λ c d e p q. count-joined c d e ∙ ap (λ n. n + cell_count d) p ∙ ap (λ n. count + n) q) cs ds same f.counts k.counts;
      numbers = all-joined-have HasNoLowest HasNoLowest HasNoLowest (λ c d e p q. lowest-joined c d p q) cs ds same f.numbers k.numbers;
    }

-- a column of a graph has a cell for each edge
count-in : (count : ℕ) (columns : List Column) (lists : List Cells) (c : ℕ) → FitColumns count columns lists → c < length columns → cell_count (get_or lists c no_cells) ≡ count
count-in count columns lists c f within =
    let sizes : length lists ≡ length columns = sym (length-map lists kind_of) ∙ ap length f.kinds ∙ length-map columns (λ (k : Column). k.kind) in
    f.counts c no_cells (omega arith)

-- ---- the graph

pub grown : (g : GraphData) (more : List (NodeNo × NodeNo)) (lists : List Cells) → IsGraphData g → AreMore g more lists → GrowsTo g (with_edges g more lists)
grown g more lists fits are = record {
  ids = refl;
  node_columns = refl;
  node_cells = refl;
  edge_columns = refl;
  count = omega (arith, length-append g.ends more);
  ends = λ e lt. get_or_append_left g.ends more (node 0, node 0) e lt;
  cells = λ e column lt within.
      let same : map kind_of lists ≡ map kind_of g.edge_cells = are.cells.kinds ∙ sym fits.edge_cells.kinds in
      ap (λ (x : Cells). cell_in x e) (get-joined g.edge_cells lists column (same-length g.edge_cells lists same))
      ∙ before (get_or g.edge_cells column no_cells) (get_or lists column no_cells) e (omega (arith, count-in (length g.ends) g.edge_columns g.edge_cells column fits.edge_cells within));
}

pub still-fits : (g : GraphData) (more : List (NodeNo × NodeNo)) (lists : List Cells) → IsGraphData g → AreMore g more lists → IsGraphData (with_edges g more lists)
still-fits g more lists fits are = record {
  few_nodes = fits.few_nodes;
  small_ids = fits.small_ids;
  distinct_ids = fits.distinct_ids;
  few_node_columns = fits.few_node_columns;
  node_names = fits.node_names;
  node_cells = fits.node_cells;
  few_edges = omega (arith, length-append g.ends more, are.few);
  ends = All-append (EndsAmong (length g.ids)) g.ends more fits.ends are.ends;
  few_edge_columns = fits.few_edge_columns;
  edge_names = fits.edge_names;
  edge_cells = rw (length-append g.ends more) (fit-joined (length g.ends) (length more) g.edge_columns g.edge_cells lists fits.edge_cells are.cells);
}
