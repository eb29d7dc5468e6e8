use Rattle.vertex_lang.specs.ExtremeLaws.{greatest-gathered}
use Rattle.vertex_lang.proofs.laws.greatest_gathered.Goals as goal

pub returns : goal.returns
returns c = greatest-gathered
