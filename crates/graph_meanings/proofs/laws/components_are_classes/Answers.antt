use Rattle.graph_meanings.specs.WccMeaning.{components-are-classes}
use Rattle.graph_meanings.proofs.laws.components_are_classes.Goals as goal

pub returns : goal.returns
returns c = components-are-classes
