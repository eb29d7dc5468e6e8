use Rattle.std.proofs.Common.{◌≡◌, ◌<◌, ◌+◌, ◌++◌, ◌∷◌, drop, length}
use Rattle.std.specs.Fmt.{decimal}
use Rattle.sample_data.proofs.lay_field.Given as goal

abbrev pub invariant-loop-rest : goal.invariant-loop-rest
invariant-loop-rest l = record {
  size : length l.room ≡ 44;
  within : l.start < l.place;
  place : l.start + 1 + length (decimal l.number) ≡ l.place + length (decimal l.rest);
  laid : decimal l.rest ++ drop l.start l.room ≡ decimal l.number ++ l.end ∷ drop l.place l.fn.room;
}

abbrev pub decreases-loop-rest : goal.decreases-loop-rest
decreases-loop-rest l = l.rest
