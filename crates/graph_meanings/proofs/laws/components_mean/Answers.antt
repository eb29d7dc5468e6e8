use Rattle.graph_meanings.specs.WccMeaning.{components-mean}
use Rattle.graph_meanings.proofs.laws.components_mean.Goals as goal

pub returns : goal.returns
returns c = components-mean
