-- No earlier time is at or above this one.
use Rattle.std.proofs.Common.{◌∙◌, List, ap, sym}
use Rattle.std.specs.Prelude.{not}
use Rattle.std.specs.List.{list_all}
use Rattle.std.proofs.lemmas.List.{take_all}
use Rattle.flow_rows.proofs.Order.{none_above}
use Rattle.flow_rows.proofs.drive.may_step.Goals as goal

pub returns : goal.returns
returns g c = λ h.
    let all = take_all c.loop-s.s-index c.args.times.now c.loop-s-test.false in
    none_above g.T.Time.leq c.args.t c.args.times.now (ap (λ (ts : List g.row.T.Denot). list_all (λ s. not (g.T.Time.leq c.args.t s)) ts) (sym all) ∙ c.loop-s.invariant)
