use Rattle.vertex_lang.specs.ExtremeLaws.{least-gathered}
use Rattle.vertex_lang.proofs.laws.least_gathered.Goals as goal

pub returns : goal.returns
returns c = least-gathered
