-- Programs whose parts are single words, and the edges of a graph.
use Rattle.std.proofs.Common.{◌≡◌, ◌<◌, ◌≤◌, ◌+◌, ◌++◌, ◌∷◌, [], ℕ, List, sym, subst, inl, inr, arith}
use Rattle.std.specs.Prelude.{Contains, IsTrue}
use Rattle.std.specs.List.{list_all}
use Rattle.std.proofs.lemmas.Bool.{cases_lt}
use Rattle.std.proofs.lemmas.List.Elements.{Contains-push, Contains-append_left}
use Rattle.graph_model.specs.declared.number.EdgeNo.{EdgeNo}
use Rattle.graph_model.specs.GraphData.{GraphData}
use Rattle.vertex_lang.specs.declared.program.Program.{Program}
use Rattle.vertex_lang.specs.Leaves.{Leaf, IsChecked, leaves_of, in_start, in_send, in_update}
use Rattle.arc_rows.specs.RowLists.{edge}

pub fits : (p : Program) (graph : GraphData) (start send update : List Leaf)
    → leaves_of p.start ≡ start → leaves_of p.send ≡ send → leaves_of p.update ≡ update
    → IsTrue (list_all (in_start graph.node_columns) start) → IsTrue (list_all (in_send graph.edge_columns) send)
    → IsTrue (list_all in_update update) → IsChecked p graph
fits p graph start send update e f g h k l = record {
  start = subst (λ (ls : List Leaf). IsTrue (list_all (in_start graph.node_columns) ls)) (sym e) h;
  send = subst (λ (ls : List Leaf). IsTrue (list_all (in_send graph.edge_columns) ls)) (sym f) k;
  update = record { update = subst (λ (ls : List Leaf). IsTrue (list_all in_update ls)) (sym g) l };
}

-- each edge before this one is told
abbrev pub AllBefore : List EdgeNo → ℕ → Type 0
AllBefore edges n = (e : ℕ) → e < n → Contains edges (edge e)

same-edge : (e n : ℕ) → e < n + 1 → n ≤ e → n ≡ e
same-edge e n h k = omega (arith, h, k)

pub all-pushed : (edges : List EdgeNo) (n : ℕ) → AllBefore edges n → AllBefore (edges ++ edge n ∷ []) (n + 1)
all-pushed edges n h e low = elim (cases_lt e n) [
  | inl less ↦ Contains-append_left edges (edge n ∷ []) (edge e) (h e less)
  | inr most ↦ let last = Contains-push edges (edge n) in
      subst (λ i. Contains (edges ++ edge n ∷ []) (edge i)) (same-edge e n low most) last
]
