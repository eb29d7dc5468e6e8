-- The law is proved beside its statement.
use Rattle.output_laws.specs.Laws.{canonical-texts-grow}
use Rattle.output_laws.proofs.laws.canonical_texts_grow.Goals as goal

pub returns : goal.returns
returns c = canonical-texts-grow
