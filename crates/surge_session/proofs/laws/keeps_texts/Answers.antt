-- The longer script prints what the shorter one does, and more.
use Rattle.std.proofs.Common.{◌≡◌, ◌∙◌, ◌++◌, Ok, ap, sym}
use Rattle.gvdl_check.specs.Continued.{SameColumns}
use Rattle.gvdl_check.specs.Plans.{plan}
use Rattle.gvdl_check.specs.Laws.{plans_fit, plans_continue}
use Rattle.surge_session.proofs.Continued.{keeps_texts}
use Rattle.surge_session.proofs.laws.keeps_texts.Goals as goal

pub returns : goal.returns
returns g c =
    let before = c.args.before.now in
    let after = c.args.after.now in
    let script = before.script.now in
    let longer = after.script.now in
    let graph = before.graph.now in
    let grown = after.graph.now in
    let groups = before.groups.now in
    let grows = c.requires.graph in
    let fits = (plans_fit script graph groups before.plan.now c.requires.edges c.requires.before).0 in
    let same : SameColumns graph grown = record { nodes = grows.node_columns; edges = grows.edge_columns } in
    let made : plan longer grown (groups ++ c.args.behind.now) ≡ Ok after.plan.now = sym (ap (plan longer grown) c.requires.groups) ∙ c.requires.after in
    keeps_texts g.U.Updater.answer graph grown before.plan.now after.plan.now fits grows
    (plans_continue script longer graph grown groups c.args.behind.now before.plan.now after.plan.now c.requires.continued same c.requires.files c.requires.before made)
