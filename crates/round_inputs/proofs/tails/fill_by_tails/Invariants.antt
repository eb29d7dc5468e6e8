use Rattle.std.proofs.Common.{take, filter}
use Rattle.round_inputs.specs.Links.{sent_by_tails}
use Rattle.round_inputs.specs.Inputs.{AreLeft}
use Rattle.round_inputs.specs.Movers.{moves}
use Rattle.round_inputs.proofs.tails.fill_by_tails.Given as goal

abbrev pub invariant-loop-tail : goal.invariant-loop-tail
invariant-loop-tail l = AreLeft l.first.items l.second.items
    (sent_by_tails l.rounds.left.now.program.now l.rounds.left.now.graph.now l.rounds.left.now.side.degrees.now l.rounds.left.now.side.values.now (take l.tail-index (filter (λ t. moves l.rounds.movers t.0) l.tails)))
    (sent_by_tails l.rounds.left.now.program.now l.rounds.left.now.graph.now l.rounds.right.now.degrees.now l.rounds.right.now.values.now (take l.tail-index (filter (λ t. moves l.rounds.movers t.0) l.tails)))
