use Rattle.std.proofs.Common.{◌≡◌, take, map}
use Rattle.value_codes.specs.ShortCodes.{widened}
use Rattle.value_codes.proofs.codes.lengthened.Given as goal

abbrev pub invariant-loop-short : goal.invariant-loop-short
invariant-loop-short l = l.long.items ≡ map widened (take l.short-index l.list)
