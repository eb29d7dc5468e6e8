use Rattle.std.proofs.lemmas.Result.{err_from_is_err_and}
use Rattle.graph_loader.proofs.LoadFacts.{more-of-no-size}
use Rattle.graph_loader.proofs.extending.extend.Goals as goal

pub returns-in_err-more-clause-size : goal.returns-in_err-more-clause-size
returns-in_err-more-clause-size c =
    let p = err_from_is_err_and c.from_residual-in_err-more.result c.from_residual-in_err-more.ensures.1 in
    rw (p.1, p.2) (more-of-no-size c.args.statement c.args.edges.now c.args.graph.now c.in_err-more.field-0.0 c.in_err-more.ensures.fault)
