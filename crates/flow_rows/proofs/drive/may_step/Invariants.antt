use Rattle.std.proofs.Common.{◌≡◌, true, take}
use Rattle.std.specs.Prelude.{not}
use Rattle.std.specs.List.{list_all}
use Rattle.flow_rows.proofs.drive.may_step.Given as goal

abbrev pub invariant-loop-s : goal.invariant-loop-s
invariant-loop-s g l = list_all (λ s. not (g.T.Time.leq l.t s)) (take l.s-index l.times) ≡ true
