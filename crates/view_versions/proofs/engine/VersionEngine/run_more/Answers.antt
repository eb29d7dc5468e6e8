use Rattle.std.proofs.Common.{List, sym, subst}
use Rattle.std.specs.Prelude.{All}
use Rattle.graph_model.specs.declared.number.ViewNo.{ViewNo}
use Rattle.view_matrix.specs.Matrices.{IsView}
use Rattle.view_versions.proofs.Holding.{by-views}
use Rattle.view_versions.proofs.engine.VersionEngine.run_more.Goals as goal

pub run_behind-requires-clause-run : goal.run_behind-requires-clause-run
run_behind-requires-clause-run g c =
    by-views (IsView c.args.matrix.now) c.args.self.now.runs.items (subst (λ (views : List ViewNo). All (IsView c.args.matrix.now) views) (sym c.requires.stands.all) c.requires.stands.views)
