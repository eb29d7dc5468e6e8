-- One product less, and none left.
use Rattle.std.proofs.Common.{◌∙◌, ◌<◌, ◌+◌, ◌∷◌, length, drop, ap, sym, arith}
use Rattle.std.proofs.lemmas.List.{drop_more, drop_all}
use Rattle.std.specs.Cmp.{tied_itself}
use Rattle.diff_join.proofs.Waiting.{none_waits, one_waits_less}
use Rattle.diff_join.proofs.kept.take_out.Goals as goal

pub loop-output-preserved : goal.loop-output-preserved
loop-output-preserved g c =
    let low : c.loop-output.output-index < length c.args.outputs.now = omega arith in
    let next = c.loop-output.invariant.left ∙ drop_more c.args.outputs.now c.loop-output.output-index c.loop-output-item.result low ∙ ap (λ v. v ∷ drop (c.loop-output.output-index + 1) c.args.outputs.now) (sym c.loop-output-item.is) in
    let one = one_waits_less g.T.Ord.cmp g.O.Ord.cmp g.met.T.Ord.total c.args.t.now g.met.T.Record.same (tied_itself g.met.O.Ord.total) c.loop-output-item.result (drop (c.loop-output.output-index + 1) c.args.outputs.now) c.loop-output.products.entries c.remove.new.self.entries c.remove.ensures.entries next in
    record { left = one.0; others = one.1 ∙ c.loop-output.invariant.others }

pub returns : goal.returns
returns g c =
    let none = c.loop-output.invariant.left ∙ drop_all c.loop-output.output-index c.args.outputs.now c.loop-output-test.false in
    sym (none_waits g.T.Ord.cmp g.O.Ord.cmp g.met.T.Ord.total c.args.t.now c.loop-output.products.entries none) ∙ c.loop-output.invariant.others
