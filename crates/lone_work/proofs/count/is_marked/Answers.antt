use Rattle.std.proofs.Common.{◌≡◌, ◌∙◌, ◌-◌, suc, ap, arith}
use Rattle.std.specs.Prelude.{not}
use Rattle.lone_work.proofs.Counting.{marked-first, marked-by}
use Rattle.lone_work.proofs.count.is_marked.Goals as goal

pub returns-then-round-eq0 : goal.returns-then-round-eq0
returns-then-round-eq0 g c = marked-first g.U.Updater.answer c.args.program.now c.args.graph.now c.args.arcs.now c.args.node c.args.round c.if-round-eq0.true

pub returns : goal.returns
returns g c =
    let at : c.args.round ≡ suc (c.args.round - 1) = omega arith in
    marked-by g.U.Updater.answer c.args.program.now c.args.graph.now c.args.arcs.now c.args.node c.args.round (c.args.round - 1) at _ _ _ _ _ _ _
    (c.deref.ensures.value ∙ c.in_ok-now.ensures.own) (c.deref-2.ensures.value ∙ c.in_ok-before.ensures.own) (c.deref-3.ensures.value ∙ c.in_ok-now.ensures.got) (c.deref-4.ensures.value ∙ c.in_ok-before.ensures.got)
    c.in_ok-own.ensures c.in_ok-got.ensures (ap not c.both.ensures)
