use Rattle.std.proofs.Common.{◌≡◌, take}
use Rattle.round_messages.specs.Sides.{all_brought}
use Rattle.value_codes.specs.Tallies.{tally_of, IsBounded}
use Rattle.round_messages.proofs.side.tally.Given as goal

abbrev pub invariant-loop-arc : goal.invariant-loop-arc
invariant-loop-arc l = record {
  tally : l.tally ≡ tally_of l.program.gather (all_brought l.program l.graph l.side.edges.now l.side.degrees.now l.side.values.now (take l.arc-index l.row));
  bounded : IsBounded l.tally;
}
