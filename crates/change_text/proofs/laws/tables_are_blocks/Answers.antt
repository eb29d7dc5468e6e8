use Rattle.change_text.proofs.Writing.{full_text}
use Rattle.change_text.proofs.laws.tables_are_blocks.Goals as goal

pub returns : goal.returns
returns c = full_text
