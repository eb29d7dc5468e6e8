use Rattle.std.proofs.Common.{take}
use Rattle.round_messages.specs.Sides.{all_brought}
use Rattle.round_inputs.specs.Inputs.{AreLeft}
use Rattle.round_inputs.proofs.compare.fill.Given as goal

abbrev pub invariant-loop-arc : goal.invariant-loop-arc
invariant-loop-arc l = AreLeft l.first.items l.second.items
    (all_brought l.rounds.left.now.program.now l.rounds.left.now.graph.now l.rounds.left.now.side.edges.now l.rounds.left.now.side.degrees.now l.rounds.left.now.side.values.now (take l.arc-index l.row))
    (all_brought l.rounds.left.now.program.now l.rounds.left.now.graph.now l.rounds.right.now.edges.now l.rounds.right.now.degrees.now l.rounds.right.now.values.now (take l.arc-index l.row))
