use Rattle.std.proofs.Common.{take}
use Rattle.graph_loader.specs.LoadSteps.{IsTableOf}
use Rattle.graph_loader.proofs.places.places_of.Given as goal

abbrev pub invariant-loop-place : goal.invariant-loop-place
invariant-loop-place l = IsTableOf (take l.place l.ids) l.places.items
