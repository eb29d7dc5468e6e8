use Rattle.change_lists.specs.ValueLaws.{other-told}
use Rattle.change_lists.proofs.values.is_other.Goals as goal

pub returns : goal.returns
returns c = other-told c.differs.result c.args.left c.args.right c.differs.ensures
