use Rattle.graph_model.specs.declared.number.ViewNo.{ViewNo}
use Rattle.view_versions.specs.Slow.{new_task, old_task}
use Rattle.view_versions.specs.Touched.{differs_in}
use Rattle.view_versions.proofs.Same.{one-found}
use Rattle.view_versions.proofs.slow.is_touched.Goals as goal

abbrev nothing : ViewNo
nothing = record { 0 = 0 }

pub returns-then-differs : goal.returns-then-differs
returns-then-differs g c =
    let v = c.args.versions in
    let answer = g.U.Updater.answer in
    one-found (λ view. differs_in (old_task answer v) (new_task answer v) view c.args.node) c.args.views.now c.loop-view.view-index nothing c.in_ok-differs.differs c.loop-view-test.true c.in_ok-differs.ensures c.if-differs.true
