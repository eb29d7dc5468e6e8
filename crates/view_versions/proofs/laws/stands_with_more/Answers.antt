use Rattle.view_versions.proofs.More.{stands-with-more}
use Rattle.view_versions.proofs.laws.stands_with_more.Goals as goal

pub returns : goal.returns
returns c = stands-with-more
