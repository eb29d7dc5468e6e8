use Rattle.std.proofs.Common.{◌≡◌, ◌++◌, take}
use Rattle.weighted.specs.WordLaws.{mapped}
use Rattle.vertex_parts.proofs.degrees.push_told.Given as goal

abbrev pub invariant-loop-arc : goal.invariant-loop-arc
invariant-loop-arc l = l.into ≡ l.fn.into ++ mapped (λ a. (a, l.told)) (take l.arc-index l.words)
