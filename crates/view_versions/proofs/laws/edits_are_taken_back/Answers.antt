use Rattle.view_versions.specs.EditLaws.{edits_again}
use Rattle.view_versions.proofs.laws.edits_are_taken_back.Goals as goal

pub returns : goal.returns
returns c = edits_again
