use Rattle.change_text.proofs.Writing.{other_is}
use Rattle.change_text.proofs.write.is_other.Goals as goal

pub returns : goal.returns
returns c = other_is c.differ.result c.args.before c.args.value c.differ.ensures
