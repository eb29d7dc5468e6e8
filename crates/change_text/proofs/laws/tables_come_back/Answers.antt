use Rattle.change_text.proofs.Following.{follows}
use Rattle.change_text.proofs.laws.tables_come_back.Goals as goal

pub returns : goal.returns
returns c = follows
