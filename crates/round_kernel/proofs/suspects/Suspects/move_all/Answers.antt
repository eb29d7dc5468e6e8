use Rattle.std.proofs.Common.{◌<◌, length}
use Rattle.round_kernel.proofs.Filling.{changed-at}
use Rattle.round_kernel.proofs.suspects.Suspects.move_all.Goals as goal

pub returns-then-are_many-clause-moved : goal.returns-then-are_many-clause-moved
returns-then-are_many-clause-moved c = λ u listed. c.stamp_everyone.ensures.all u (changed-at (λ v. v < length c.args.self.now.moved.items) u c.args.changes.now c.requires listed)

pub returns-clause-moved : goal.returns-clause-moved
returns-clause-moved c = λ u listed. c.stamp_each.ensures.moved.right u listed

pub returns-clause-size : goal.returns-clause-size
returns-clause-size c = c.stamp_each.ensures.moved.size
