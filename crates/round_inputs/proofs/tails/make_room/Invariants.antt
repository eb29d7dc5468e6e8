use Rattle.std.proofs.Common.{◌-◌, length}
use Rattle.round_inputs.proofs.tails.make_room.Given as goal

abbrev pub decreases-loop-picked : goal.decreases-loop-picked
decreases-loop-picked l = l.count - length l.picked.items
