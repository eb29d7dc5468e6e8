use Rattle.change_text.proofs.Blocks.{same_blocks}
use Rattle.change_text.proofs.laws.one_reading.Goals as goal

pub returns : goal.returns
returns c = same_blocks
