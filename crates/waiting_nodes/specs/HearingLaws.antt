-- Nodes of which it is told that all to which they send wait.
use Rattle.std.proofs.Common.{◌≡◌, ℕ, true, List, Bool, false, get_or, inl, inr}
use Rattle.std.proofs.lemmas.List.Elements.{All-weaker}
use Rattle.vertex_lang.specs.declared.arc.Arc.{Arc}
use Rattle.waiting_nodes.specs.declared.queue.Queue.{Queue}
use Rattle.waiting_nodes.specs.Queues.{waits, StillWait, AllHear, DegreeAgrees, ValuesAgree, IsHeard}
use Rattle.std.specs.Prelude.{All, ◌⊎◌}
use Rattle.graph_model.specs.declared.value.Val.{Val}
use Rattle.arc_rows.specs.Views.{IsTurned}

-- nodes that wait still do, so who was heard is heard
pub hear-still : (arcs : List Arc) (u : ℕ) (q q' : Queue) → StillWait q q' → AllHear arcs q u → AllHear arcs q' u
hear-still arcs u q q' s all = All-weaker (λ (x : Arc). x.tail.0 ≡ u → waits q x.head.0 ≡ true) (λ (x : Arc). x.tail.0 ≡ u → waits q' x.head.0 ≡ true) (λ x g e. s.still x.head.0 (g e)) arcs all

pub heard-still : (first : Bool) (arcs : List Arc) (old new : List Bool) (by : Bool) (od nd : List ℕ) (w t pt : List Bool) (on nn : List Val) (q q' : Queue) (u : ℕ) → StillWait q q'
    → IsHeard first arcs old new by od nd w t pt on nn q u → IsHeard first arcs old new by od nd w t pt on nn q' u
heard-still first arcs old new by od nd w t pt on nn q q' u s h = record {
  itself = elim h.itself [ inl a ↦ inl a | inr a ↦ inr (s.still u a) ];
  readers = elim h.readers [ inl a ↦ inl a | inr a ↦ inr (All-weaker (λ (x : Arc). x.tail.0 ≡ u → waits q x.head.0 ≡ true) (λ (x : Arc). x.tail.0 ≡ u → waits q' x.head.0 ≡ true) (λ x g e. s.still x.head.0 (g e)) arcs a) ];
  turned = elim h.turned [ inl a ↦ inl a | inr a ↦ inr (All-weaker (λ (x : Arc). x.tail.0 ≡ u → IsTurned old new x → waits q x.head.0 ≡ true) (λ (x : Arc). x.tail.0 ≡ u → IsTurned old new x → waits q' x.head.0 ≡ true) (λ x g e t. s.still x.head.0 (g e t)) arcs a) ];
}

module _ (first : Bool) (arcs : List Arc) (old new : List Bool) (by : Bool) (od nd : List ℕ) (w t pt : List Bool) (on nn : List Val) (q : Queue) (u : ℕ) where
  turned-of : AllHear arcs q u → All (λ a. a.tail.0 ≡ u → IsTurned old new a → waits q a.head.0 ≡ true) arcs
  turned-of h = All-weaker (λ (a : Arc). a.tail.0 ≡ u → waits q a.head.0 ≡ true) (λ (a : Arc). a.tail.0 ≡ u → IsTurned old new a → waits q a.head.0 ≡ true) (λ a g e t. g e) arcs h

  pub heard-fully : waits q u ≡ true → AllHear arcs q u → IsHeard first arcs old new by od nd w t pt on nn q u
  heard-fully e h = record { itself = inr e; readers = inr h; turned = inr (turned-of h) }

  pub heard-degree : first ≡ false → ValuesAgree t pt on nn u → AllHear arcs q u → IsHeard first arcs old new by od nd w t pt on nn q u
  heard-degree f v h = record { itself = inl (f, v); readers = inr h; turned = inr (turned-of h) }

  pub heard-turned : first ≡ false → ValuesAgree t pt on nn u → DegreeAgrees by od nd u → (get_or w u false ≡ false) ⊎ All (λ a. a.tail.0 ≡ u → IsTurned old new a → waits q a.head.0 ≡ true) arcs → IsHeard first arcs old new by od nd w t pt on nn q u
  heard-turned f v d h = record { itself = inl (f, v); readers = inl (f, v, d); turned = h }
