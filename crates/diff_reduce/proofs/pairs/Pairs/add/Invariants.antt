use Rattle.std.proofs.Common.{take}
use Rattle.diff_reduce.proofs.Elements.{AreIn, AreOf}
use Rattle.diff_reduce.proofs.pairs.Pairs.add.Given as goal

abbrev pub invariant-loop-pair : goal.invariant-loop-pair
invariant-loop-pair g l = record {
  old : AreIn l.fn.self l.self;
  more : AreIn (take l.pair-index l.more) l.self;
  only : AreOf l.self l.fn.self (take l.pair-index l.more);
}
