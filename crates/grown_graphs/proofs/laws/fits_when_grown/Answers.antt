-- The law is proved beside its statement.
use Rattle.grown_graphs.specs.Laws.{fits-when-grown}
use Rattle.grown_graphs.proofs.laws.fits_when_grown.Goals as goal

pub returns : goal.returns
returns c = fits-when-grown
