use Rattle.view_items.specs.ViewItems.{items-are-inputs}
use Rattle.view_items.proofs.laws.items_are_inputs.Goals as goal

pub returns : goal.returns
returns c = items-are-inputs
