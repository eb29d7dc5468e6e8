-- Arcs that are in one of two views alone, and that are told in rows.
use Rattle.std.proofs.Common.{◌≡◌, ◌∙◌, [], sym, subst, ℕ, Bool, true, false, List, length, get_or, filter}
use Rattle.std.specs.Prelude.{All, Contains, ◌==◌}
use Rattle.std.specs.List.Sorted.{IsPermutation}
use Rattle.std.proofs.lemmas.List.Elements.{All-weaker}
use Rattle.std.proofs.lemmas.List.Sorted.{All-permutation, Contains-permutation}
use Rattle.graph_model.specs.GraphData.{GraphData}
use Rattle.vertex_lang.specs.declared.arc.Arc.{Arc}
use Rattle.vertex_lang.specs.Arcs.{IsArc}
use Rattle.vertex_lang.specs.ExtremeLaws.{contains-none}
use Rattle.arc_rows.specs.declared.turned.Turned.{Turned}
use Rattle.arc_rows.specs.RowLists.{IsGrouped}
use Rattle.arc_rows.specs.Views.{IsTurned, in_view}
use Rattle.arc_rows.specs.TurnedArcs.{TellTurned}
use Rattle.arc_rows.specs.ViewLaws.{same-or-turned}
use Rattle.waiting_nodes.specs.RowTurnLaws.{All-filtered, contains-chosen}

-- what is told in one order is told in another
pub told-grouped : (node_of : Arc → ℕ) (graph : GraphData) (all arcs : List Arc) (first : Bool) (old new : List Bool) (turned : Turned) (count : ℕ) → count ≡ length graph.ids
    → IsGrouped node_of turned.arcs turned.ends count → IsPermutation arcs turned.arcs → All (IsArc graph) arcs → (first ≡ false → All (λ a. IsTurned old new a → Contains arcs a) all)
    → TellTurned node_of graph all first old new turned
told-grouped node_of graph all arcs first old new turned count size rows same within suspects = record {
  rows = subst (λ n. IsGrouped node_of turned.arcs turned.ends n) size rows;
  arcs = All-permutation (IsArc graph) arcs turned.arcs same within;
  each = λ one i d low t. Contains-permutation arcs turned.arcs (get_or all i d) same (suspects one i d low t);
}

module _ (graph : GraphData) (all : List Arc) (first : Bool) (old new : List Bool) (turned : Turned) (is : TellTurned (λ a. a.head.0) graph all first old new turned) (one : first ≡ false) (v : ℕ) where
  abbrev to_node : Arc → Bool
  to_node a = a.head.0 == v

  -- of the arcs to a node those that are turned
  pub turned-into : (row known : List Arc) → row ≡ filter (λ a. a.head.0 == v) all → known ≡ filter (λ a. a.head.0 == v) turned.arcs → All (λ a. IsTurned new old a → Contains known a) row
  turned-into row known e ek = subst (λ (xs : List Arc). All (λ a. IsTurned new old a → Contains known a) xs) (sym e)
      (subst (λ (ks : List Arc). All (λ a. IsTurned new old a → Contains ks a) (filter to_node all)) (sym ek)
      (All-filtered (λ (a : Arc). IsTurned old new a → Contains turned.arcs a) (λ a. IsTurned new old a → Contains (filter to_node turned.arcs) a) to_node
      (λ a h k t. contains-chosen to_node turned.arcs a (k (λ s. t (sym s))) h) all (is.each one)))

  -- where there's none, an arc to the node is in both views or in none
  pub none-turned : (known : List Arc) → known ≡ filter (λ a. a.head.0 == v) turned.arcs → known ≡ [] → All (λ a. to_node a ≡ true → in_view new a ≡ in_view old a) all
  none-turned known ek none = All-weaker (λ (a : Arc). IsTurned old new a → Contains turned.arcs a) (λ a. to_node a ≡ true → in_view new a ≡ in_view old a)
      (λ a k h. sym (same-or-turned (in_view old a) (in_view new a)
      (λ t. contains-none a (subst (λ (ks : List Arc). Contains ks a) (sym ek ∙ none) (contains-chosen to_node turned.arcs a (k t) h))))) all (is.each one)
