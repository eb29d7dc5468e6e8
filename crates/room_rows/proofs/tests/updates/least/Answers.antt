use Rattle.std.proofs.Common.{◌∙◌, ap}
use Rattle.vertex_lang.specs.declared.program.Expr.{Expr}
use Rattle.vertex_lang.specs.declared.program.Expr.TheVariants as expr
use Rattle.room_rows.proofs.Fitting.{least_fits}
use Rattle.room_rows.proofs.tests.updates.least.Goals as goal

pub returns : goal.returns
returns c =
    least_fits c.program.result
    (c.program.ensures
    ∙ ap (λ (e : Expr). expr.Least e c.in_ok-gathered.gathered) c.in_ok-start.ensures
    ∙ ap (λ (e : Expr). expr.Least expr.Start e) c.in_ok-gathered.ensures)
