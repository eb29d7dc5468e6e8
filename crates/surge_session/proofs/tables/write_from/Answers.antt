-- The views are those of the matrix from a number on.
use Rattle.std.proofs.Common.{◌≡◌, ◌∙◌, ℕ, List, length, take, drop, slice_range, sym, ap, subst}
use Rattle.std.specs.Prelude.{OnErr}
use Rattle.surge_outside.specs.Written.{GrewByFront}
use Rattle.gvdl_check.specs.declared.plan.ViewPlan.{ViewPlan}
use Rattle.surge_session.specs.Output.{tables_text}
use Rattle.surge_session.specs.State.{Shows, shown_graph}
use Rattle.surge_session.proofs.Places.{part}
use Rattle.surge_session.proofs.ViewEdges.{shown_from}
use Rattle.surge_session.proofs.tables.write_from.Goals as goal

pub write_tables-requires-clause-shown : goal.write_tables-requires-clause-shown
write_tables-requires-clause-shown g c =
    let m = c.args.ran.matrix.now in
    let w = shown_graph c.args.ran.graph.now m in
    let views = c.args.ran.collection.now.views in
    let first = c.args.first in
    let range : c.views_between-views.result.now ≡ drop first (take (length m.columns) views) =
    c.views_between-views.ensures ∙ ap (λ (vs : List ViewPlan). slice_range vs first c.views.result) c.as_slice.ensures ∙ ap (λ (k : ℕ). slice_range views first k) c.views.ensures.count ∙ part views first (length m.columns) c.requires.first in
    subst (λ (vs : List ViewPlan). Shows w m first vs) (sym range) (shown_from w (take (length m.columns) views) m first c.requires.live c.requires.shows)

pub returns-clause-err : goal.returns-clause-err
returns-clause-err g c =
    let m = c.args.ran.matrix.now in
    let w = shown_graph c.args.ran.graph.now m in
    let views = c.args.ran.collection.now.views in
    let range : c.views_between-views.result.now ≡ slice_range views c.args.first (length m.columns) =
    c.views_between-views.ensures ∙ ap (λ (vs : List ViewPlan). slice_range vs c.args.first c.views.result) c.as_slice.ensures ∙ ap (λ (k : ℕ). slice_range views c.args.first k) c.views.ensures.count in
    subst (λ (vs : List ViewPlan). OnErr c.write_tables.result (GrewByFront (g.O.Sink.written c.args.out.now) (g.O.Sink.written c.write_tables.new.out) (tables_text g.U.Updater.answer c.args.form w c.args.ran.run.now c.args.ran.collection.now.name vs))) range c.write_tables.ensures.err
