use Rattle.view_versions.specs.TouchLaws.{works_touched}
use Rattle.view_versions.proofs.laws.works_are_touched.Goals as goal

pub returns : goal.returns
returns c = works_touched
