use Rattle.graph_meanings.specs.WccMeaning.{components-settle}
use Rattle.graph_meanings.proofs.laws.components_settle.Goals as goal

pub returns : goal.returns
returns c = components-settle
