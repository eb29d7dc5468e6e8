use Rattle.std.proofs.Common.{◌∙◌, Bool, List, length, get_or, true, false, ap}
use Rattle.std.proofs.lemmas.List.{get_or-replicate}
use Rattle.round_kernel.proofs.values.part_everyone.Goals as goal

pub returns-clause-all : goal.returns-clause-all
returns-clause-all c = λ v low.
    ap (λ (bs : List Bool). get_or bs v false) (c.fill.ensures.after (λ y e. e)) ∙ get_or-replicate (length c.args.parted.now) v true false low
