use Rattle.view_items.specs.ViewItems.{view-is-prepared}
use Rattle.view_items.proofs.laws.view_is_prepared.Goals as goal

pub returns : goal.returns
returns c = view-is-prepared
