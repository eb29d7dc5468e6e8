-- A step between two rounds: what the lists hold, and what a round gives.
use Rattle.std.specs.Prelude.{◌≡◌, ◌<◌, ◌+◌, ◌-◌, ◌||◌, ◌⊎◌, not, ℕ, Bool, true, false, List, [], length, map, get_or, All, Option, Some, None}
use Rattle.graph_model.specs.GraphData.{GraphData}
use Rattle.vertex_lang.specs.declared.arc.Arc.{Arc}
use Rattle.vertex_lang.specs.declared.program.Program.{Program}
use Rattle.vertex_lang.specs.Expressions.{Answer, start_of}
use Rattle.vertex_lang.specs.Lone.{same_value}
use Rattle.vertex_lang.specs.Rounds.{nodes_of, value_at, lone}
use Rattle.lone_work.specs.Work.{touched_before}
use Rattle.round_kernel.specs.declared.frame.Lists.{Lists}
use Rattle.arc_rows.specs.Views.{IsTurned, arcs_in}
use Rattle.round_messages.specs.Sides.{AreSent, IsSized}
use Rattle.round_inputs.specs.Inputs.{IsRound}
use Rattle.message_forms.specs.Forms.{MayKeep}
use Rattle.arc_rows.specs.TurnedArcs.{TellTurned}
use Rattle.waiting_nodes.specs.Queues.{IsQueue, waits}
use Rattle.value_codes.specs.declared.tally.Kept.{Kept}
use Rattle.lone_work.specs.Inputs.{got_values}
use Rattle.value_codes.specs.Tallies.{tally_of, kept_of}

-- the view before, if there's one
abbrev pub old_view : Bool → List Arc → List Bool → Option (List Arc)
old_view true all edges = None
old_view false all edges = Some (arcs_in all edges)

-- the value of a node changes from a round to the next
abbrev pub changes_in : Answer → Program → GraphData → List Arc → ℕ → ℕ → Bool
changes_in answer p graph arcs r v = not (same_value (value_at (lone answer p graph arcs (r + 1)) v) (value_at (lone answer p graph arcs r) v))

-- a node that changes from a round to the next in one of two views, and isn't told to be parted, has the same value in both in the round
abbrev pub TellParted : Answer → Program → GraphData → List Arc → List Arc → ℕ → List Bool → Type 0
TellParted answer p graph old new r parted = (v : ℕ) → v < length graph.ids → (changes_in answer p graph old r v ≡ true) ⊎ (changes_in answer p graph new r v ≡ true)
    → get_or parted v false ≡ false → value_at (lone answer p graph old r) v ≡ value_at (lone answer p graph new r) v

-- the lists stand at a round, and tell which nodes are touched
pub record AreAt (answer : Answer) (p : Program) (graph : GraphData) (all : List Arc) (first : Bool) (old new : List Bool) (r : ℕ) (touched : ℕ → Bool) (lists : Lists) : Type 0 where
  pub starts : lists.starts.value ≡ map (start_of p graph) (nodes_of graph)
  pub new_now : IsRound answer p graph all new lists.new_degrees.items lists.new_now.items r
  pub new_before : IsRound answer p graph all new lists.new_degrees.items lists.new_before.items (r - 1)
  pub old_now : first ≡ false → IsRound answer p graph all old lists.old_degrees.items lists.old_now.items r
  pub old_sized : IsSized graph old lists.old_degrees.items lists.old_now.items
  pub parted_size : length lists.parted.items ≡ length graph.ids
  pub parted_are : first ≡ false → 0 < r → TellParted answer p graph (arcs_in all old) (arcs_in all new) (r - 1) lists.parted.items
  pub touched_size : length lists.touched.items ≡ length graph.ids
  pub touched_are : (v : ℕ) → v < length graph.ids → get_or lists.touched.items v false ≡ touched v
  pub marked_size : length lists.marked.items ≡ length graph.ids
  pub watched_size : length lists.watched.items ≡ length graph.ids
  pub watched_are : first ≡ false → All (λ a. IsTurned old new a → get_or lists.watched.items a.tail.0 false ≡ true) all
  pub turned_are : TellTurned (λ a. a.tail.0) graph all first old new lists.turned
  pub keeps : MayKeep lists.alike p graph
  pub new_sent : AreSent lists.alike p graph lists.new_degrees.items lists.new_now.items lists.new_sent
  pub queue : IsQueue (length graph.ids) lists.queue

-- no node waits, and none is shown to be marked
pub record AreIdle (lists : Lists) : Type 0 where
  pub none_waits : (v : ℕ) → waits lists.queue v ≡ false
  pub none_marked : (v : ℕ) → get_or lists.marked.items v false ≡ false
  pub none_shown : lists.shown ≡ []

-- touched before this round; where there's no view before, always
abbrev pub was_touched : Answer → Program → GraphData → List Arc → Bool → List Bool → List Bool → ℕ → ℕ → Bool
was_touched answer p graph all first old new r v = first || touched_before answer p graph (arcs_in all new) (old_view first all old) v r

-- and of those that a node gets in a round of a view
abbrev pub kept_at : Answer → Program → GraphData → List Arc → ℕ → ℕ → Kept
kept_at answer p graph arcs r v = kept_of (tally_of p.gather (got_values answer p graph arcs v r))
