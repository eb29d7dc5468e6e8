use Rattle.vertex_lang.specs.Lone.{same_value}
use Rattle.view_versions.proofs.Same.{not-not}
use Rattle.view_versions.proofs.slow.is_one.Goals as goal

pub returns : goal.returns
returns c = not-not (same_value c.args.left c.args.right) c.is_other.result c.is_other.ensures
