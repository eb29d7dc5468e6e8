-- A node in a round, and what a visit finds there.
use Rattle.std.specs.Prelude.{◌≡◌, ◌<◌, ◌+◌, ◌-◌, not, ℕ, Bool, true, false, List, length, Option, Some}
use Rattle.graph_model.specs.declared.value.Val.{Val}
use Rattle.vertex_lang.specs.declared.arc.Arc.{Arc}
use Rattle.vertex_lang.specs.Expressions.{Answer, start_of}
use Rattle.vertex_lang.specs.Lone.{same_value}
use Rattle.vertex_lang.specs.Rounds.{value_at, lone}
use Rattle.lone_work.specs.Work.{node_touched, node_counted, node_marked}
use Rattle.arc_rows.specs.Views.{arcs_in}
use Rattle.round_messages.specs.Sides.{AreSent}
use Rattle.round_inputs.specs.Inputs.{IsRound}
use Rattle.round_inputs.specs.TwoRounds.{IsViewRound}
use Rattle.value_codes.specs.declared.tally.Kept.{Kept}
use Rattle.round_kernel.specs.declared.spot.Spot.{Spot}
use Rattle.round_kernel.specs.Lookups.{AreLookups}
use Rattle.round_kernel.specs.Rounds.{kept_at, old_view, was_touched}

-- the arcs of the new view, and of the view before if there's one
abbrev pub arcs_now : Spot → List Arc
arcs_now s = arcs_in s.new.rows.now.by_head s.new.side.edges.now

abbrev pub arcs_before : Spot → Option (List Arc)
arcs_before s = old_view s.first s.new.rows.now.by_head s.old.edges.now

module _ (answer : Answer) (s : Spot) where
  -- the node is touched, counted and has a mark in the round
  abbrev pub touched_in : Bool
  touched_in = node_touched answer s.new.program.now s.new.graph.now (arcs_now s) (arcs_before s) s.node.0 s.new.number

  abbrev pub counted_in : Bool
  counted_in = node_counted answer s.new.program.now s.new.graph.now (arcs_now s) (arcs_before s) s.node.0 s.new.number

  abbrev pub marked_in : Bool
  marked_in = node_marked answer s.new.program.now s.new.graph.now (Some (arcs_now s)) s.node.0 s.new.number

  -- it has a mark in this round of the view before
  abbrev pub marked_in_old : Bool
  marked_in_old = node_marked answer s.new.program.now s.new.graph.now (arcs_before s) s.node.0 s.new.number

  -- it was touched in an earlier round
  abbrev pub was_touched_in : Bool
  was_touched_in = was_touched answer s.new.program.now s.new.graph.now s.new.rows.now.by_head s.first s.old.edges.now s.new.side.edges.now s.new.number s.node.0

  -- what is kept of its messages in a round of the new view
  abbrev pub kept_of_round : ℕ → Kept
  kept_of_round r = kept_at answer s.new.program.now s.new.graph.now (arcs_now s) r s.node.0

  -- its value in the next round, and whether that is another one
  abbrev pub next_value : Val
  next_value = value_at (lone answer s.new.program.now s.new.graph.now (arcs_now s) (s.new.number + 1)) s.node.0

  abbrev pub changes_next : Bool
  changes_next = not (same_value next_value (value_at (lone answer s.new.program.now s.new.graph.now (arcs_now s) s.new.number) s.node.0))

-- the rounds are those of both views, and what is said of the node is so
pub record IsSpot (answer : Answer) (s : Spot) : Type 0 where
  pub round : IsViewRound answer s.new
  pub node : s.node.0 < length s.new.graph.now.ids
  pub start : value_at s.starts.now s.node.0 ≡ start_of s.new.program.now s.new.graph.now s.node.0
  pub starts : length s.starts.now ≡ length s.new.graph.now.ids
  pub before : IsRound answer s.new.program.now s.new.graph.now s.new.rows.now.by_head s.new.side.edges.now s.new.side.degrees.now s.before.now (s.new.number - 1)
  pub old : s.first ≡ false → IsRound answer s.new.program.now s.new.graph.now s.new.rows.now.by_head s.old.edges.now s.old.degrees.now s.old.values.now s.new.number
  pub old_sent : AreSent s.old.alike s.new.program.now s.new.graph.now s.old.degrees.now s.old.values.now s.old.sent.now
  pub marked : 0 < s.new.number → s.marked ≡ marked_in_old answer s
  pub was : s.was ≡ was_touched_in answer s
  pub lookups : AreLookups answer s.new.program.now s.new.graph.now s.new.rows.now.by_head s.first s.old.edges.now s.new.side.edges.now s.new.number s.lookups.now

-- of a node that was touched that is kept which came in the round before
abbrev pub IsKeptBefore : Answer → Spot → Kept → Type 0
IsKeptBefore answer s kept = 0 < s.new.number → s.was ≡ true → kept ≡ kept_of_round answer s (s.new.number - 1)

-- and now what comes in this one
abbrev pub IsKeptNow : Answer → Spot → Kept → Type 0
IsKeptNow answer s kept = kept ≡ kept_of_round answer s s.new.number
