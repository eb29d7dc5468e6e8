use Rattle.view_items.specs.RoundLaws.{loop-is-lone}
use Rattle.view_items.proofs.laws.loop_is_lone.Goals as goal

pub returns : goal.returns
returns c = loop-is-lone
