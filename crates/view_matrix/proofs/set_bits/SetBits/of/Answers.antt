use Rattle.std.proofs.Common.{arith}
use Rattle.view_matrix.specs.Columns.{set_in}
use Rattle.view_matrix.proofs.Bits.{from_none}
use Rattle.view_matrix.proofs.Words.{none_above}
use Rattle.view_matrix.proofs.set_bits.SetBits.of.Goals as goal

pub invariant_of-result : goal.invariant_of-result
invariant_of-result c = record {
  few = omega arith;
  small = c.ranges.word.fits;
  none = λ i le. none_above c.args.word i c.ranges.word.fits (omega (arith, le));
}

pub returns : goal.returns
returns c = from_none (set_in c.args.word)
