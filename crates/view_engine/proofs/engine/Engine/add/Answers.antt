-- The order grew, and views got their segments.
use Rattle.std.proofs.Common.{◌≡◌, sym, ap, ◌∙◌, ◌++◌, subst, All, List}
use Rattle.graph_model.specs.declared.number.ViewNo.{ViewNo}
use Rattle.view_matrix.specs.Matrices.{IsView}
use Rattle.view_engine.proofs.Beginning.{engine_added, run_added, stands_added}
use Rattle.view_engine.proofs.Refusing.{on_err, stayed_same, stayed_unless, stayed_by_order}
use Rattle.view_engine.proofs.engine.Engine.add.Goals as goal

pub fill-requires : goal.fill-requires
fill-requires c =
    let e = c.args.self.now in
    let grew : c.append.new.self ≡ e.order ++ c.args.views.now = c.in_ok-append.ensures.ok ∙ ap (λ (l : List ViewNo). e.order ++ l) c.in_ok-added.ensures in
    record {
      engine = engine_added e c.args.views.now c.append.new.self grew c.requires.engine c.requires.few;
      views = subst (All (IsView c.args.matrix.now)) (sym grew) c.requires.views;
    }

pub returns-in-Ok : goal.returns-in-Ok
returns-in-Ok c =
    let e = c.args.self.now in
    let n = c.fill.new.self in
    let grew : c.append.new.self ≡ e.order ++ c.args.views.now = c.in_ok-append.ensures.ok ∙ ap (λ (l : List ViewNo). e.order ++ l) c.in_ok-added.ensures in
    let more = c.in-Ok.ensures.more in
    record {
      engine = c.in-Ok.ensures.engine;
      fresh = more.spent;
      run = run_added e c.args.views.now c.append.new.self grew n more;
      order = more.order ∙ grew;
      works = more.works;
      stands = stands_added e c.args.views.now c.append.new.self grew n more c.args.matrix.now c.requires.engine c.requires.grows c.requires.finished c.requires.views c.requires.distinct c.in-Ok.ensures.engine c.in-Ok.ensures.stands;
      err = tt;
    }

pub returns-in_err-added-clause-err : goal.returns-in_err-added-clause-err
returns-in_err-added-clause-err c = on_err c.from_residual.result (stayed_same c.args.self.now)

pub returns-in_err-append-clause-err : goal.returns-in_err-append-clause-err
returns-in_err-append-clause-err c = on_err c.from_residual-in_err-append.result (stayed_unless c.args.self.now c.append.new.self c.in_err-append.ensures.err)

pub returns-in-Err-clause-err : goal.returns-in-Err-clause-err
returns-in-Err-clause-err c =
    let e = c.args.self.now in
    let grew : c.append.new.self ≡ e.order ++ c.args.views.now = c.in_ok-append.ensures.ok ∙ ap (λ (l : List ViewNo). e.order ++ l) c.in_ok-added.ensures in
    stayed_by_order e c.args.views.now c.append.new.self grew c.fill.new.self c.in-Err.ensures.err c.truncate.new.self c.len-count.result c.truncate.ensures c.len-count.ensures
