use Rattle.std.proofs.Common.{arith}
use Rattle.change_text.proofs.Numbers.{no_bytes_read}
use Rattle.change_text.proofs.number.read_value.Goals as goal

pub returns-in-empty : goal.returns-in-empty
returns-in-empty c = no_bytes_read c.args.bytes.now (omega (arith, c.in-empty.len_below))
