-- The small graph of the tests is a graph.
use Rattle.std.proofs.Common.{◌≡◌, ◌≢◌, refl, ℕ, ◌<◌, ◌≤◌, ◌^◌, List, [], ◌∷◌, length, arith, lit<, lit≤}
use Rattle.std.specs.Prelude.{All}
use Rattle.std.proofs.lemmas.List.Elements.{All-nil, All-cons}
use Rattle.graph_model.specs.declared.number.NodeNo.{NodeNo}
use Rattle.graph_model.specs.declared.cell.Column.{Column}
use Rattle.graph_model.specs.declared.cell.Cells.{Cells}
use Rattle.graph_model.specs.GraphData.{AreDistinct, EndsAmong, FitColumns, HasNoLowest, IsGraphData, cell_count, graph_data}
use Rattle.room_rows.proofs.Distinct.{misses-none, misses-cons, distinct-none, distinct-cons}

one-distinct : {A : Type 0} (x : A) → AreDistinct (x ∷ [])
one-distinct x = distinct-cons x [] (misses-none x) distinct-none

two-distinct : {A : Type 0} (x y : A) → x ≢ y → AreDistinct (x ∷ y ∷ [])
two-distinct x y xy = distinct-cons x (y ∷ []) (misses-cons x y [] xy (misses-none x)) (one-distinct y)

abbrev IsId : ℕ → Type 0
IsId id = id < 2 ^ 63

two-ids : (a b : ℕ) → IsId a → IsId b → All IsId (a ∷ b ∷ [])
two-ids a b la lb = All-cons IsId a (b ∷ []) la (All-cons IsId b [] lb (All-nil IsId))

no-columns : (count : ℕ) → FitColumns count [] []
no-columns count = record { kinds = refl; counts = All-nil (λ (c : Cells). cell_count c ≡ count); numbers = All-nil HasNoLowest }

-- two nodes, and no column
plain : (a b : ℕ) (ends : List (NodeNo × NodeNo)) → IsId a → IsId b → a ≢ b → length ends ≤ 2 → All (EndsAmong 2) ends → IsGraphData (graph_data (a ∷ b ∷ []) [] [] ends [] [])
plain a b ends la lb apart few among = record {
  few_nodes = lit≤ tt;
  small_ids = two-ids a b la lb;
  distinct_ids = two-distinct a b apart;
  few_node_columns = lit≤ tt;
  node_names = distinct-none;
  node_cells = no-columns _;
  few_edges = omega (arith, few);
  ends = among;
  few_edge_columns = lit≤ tt;
  edge_names = distinct-none;
  edge_cells = no-columns _;
}

pub two-edges : (ids : List ℕ) (ends : List (NodeNo × NodeNo)) (of_nodes of_edges : List Column) (on_nodes on_edges : List Cells) → of_nodes ≡ [] → on_nodes ≡ [] → of_edges ≡ [] → on_edges ≡ []
    → ids ≡ 70 ∷ 3 ∷ [] → length ends ≡ 2 → All (EndsAmong 2) ends → IsGraphData (graph_data ids of_nodes on_nodes ends of_edges on_edges)
two-edges ids ends of_nodes of_edges on_nodes on_edges a b c d is count among =
    rw (a, b, c, d, is) (plain 70 3 ends (lit< tt) (lit< tt) (omega arith) (omega (arith, count)) among)
