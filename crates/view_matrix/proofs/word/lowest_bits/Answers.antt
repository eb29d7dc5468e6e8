use Rattle.std.proofs.Common.{refl, arith, ◌-◌}
use Rattle.view_matrix.proofs.Scans.{lowest_set}
use Rattle.view_matrix.proofs.word.lowest_bits.Goals as goal

pub returns : goal.returns
returns c = λ i. lowest_set 18446744073709551615 64 (64 - c.args.count) c.args.count i refl (omega (arith, c.requires.few))
