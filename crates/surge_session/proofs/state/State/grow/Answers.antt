-- The collection has more views, and no other changes.
use Rattle.std.proofs.Common.{◌≡◌, ◌∙◌, Bool, List, Some, slice_get, length, refl, sym, ap, arith}
use Rattle.std.proofs.lemmas.Option.{slice_get_within}
use Rattle.gvdl_check.specs.declared.plan.CollectionPlan.{CollectionPlan}
use Rattle.surge_session.proofs.LiveFacts.{live_count}
use Rattle.surge_session.proofs.Keeping.{all_grown}
use Rattle.surge_session.proofs.Places.{grown_at, grown_nothing, columns_within, views_to_add}
use Rattle.surge_session.proofs.Texts.{found, on_ok}
use Rattle.surge_session.proofs.state.State.grow.Goals as goal

pub grow_matrix-requires-clause-graph : goal.grow_matrix-requires-clause-graph
grow_matrix-requires-clause-graph g c =
    let p = c.args.plan.now in
    let s = c.args.self.now in
    let place = c.args.place in
    let collection = c.in-Some.collection.now in
    let m = c.index_mut-matrix.result.now in
    let at : slice_get p.collections place ≡ Some collection = found c.as_slice.result.now p.collections place collection c.as_slice.ensures c.in-Some.ensures.lookup.3.0 c.in-Some.ensures.lookup.1 in
    let m_at : slice_get s.made.items place ≡ Some m = found s.made.items s.made.items place m refl (omega (arith, c.requires.at.matrices.all, slice_get_within p.collections place collection at)) c.index_mut-matrix.ensures.value in
    let shows = c.requires.at.matrices.shows place m m_at in
    sym (ap (λ (live : List Bool). length live) shows.live ∙ live_count c.args.graph.now p c.args.n)

pub grow_matrix-requires-clause-some : goal.grow_matrix-requires-clause-some
grow_matrix-requires-clause-some g c =
    let p = c.args.plan.now in
    let s = c.args.self.now in
    let place = c.args.place in
    let collection = c.in-Some.collection.now in
    let m = c.index_mut-matrix.result.now in
    let at : slice_get p.collections place ≡ Some collection = found c.as_slice.result.now p.collections place collection c.as_slice.ensures c.in-Some.ensures.lookup.3.0 c.in-Some.ensures.lookup.1 in
    let m_at : slice_get s.made.items place ≡ Some m = found s.made.items s.made.items place m refl (omega (arith, c.requires.at.matrices.all, slice_get_within p.collections place collection at)) c.index_mut-matrix.ensures.value in
    columns_within c.args.graph.now p c.args.n place collection s.made.items m at c.requires.at.matrices m_at

pub returns-in-Some-clause-matrices : goal.returns-in-Some-clause-matrices
returns-in-Some-clause-matrices g c =
    let p = c.args.plan.now in
    let s = c.args.self.now in
    let place = c.args.place in
    let collection = c.in-Some.collection.now in
    let m = c.index_mut-matrix.result.now in
    let at : slice_get p.collections place ≡ Some collection = found c.as_slice.result.now p.collections place collection c.as_slice.ensures c.in-Some.ensures.lookup.3.0 c.in-Some.ensures.lookup.1 in
    let m_at : slice_get s.made.items place ≡ Some m = found s.made.items s.made.items place m refl (omega (arith, c.requires.at.matrices.all, slice_get_within p.collections place collection at)) c.index_mut-matrix.ensures.value in
    on_ok c.grow_matrix.result (λ grown. grown_at c.args.graph.now p c.args.n place c.args.count collection s.made.items c.requires.views c.requires.same at c.requires.at.matrices m m_at c.grow_matrix.new.matrix grown) c.grow_matrix.ensures

pub returns-in-Some-clause-each : goal.returns-in-Some-clause-each
returns-in-Some-clause-each g c =
    let p = c.args.plan.now in
    let s = c.args.self.now in
    let place = c.args.place in
    let collection = c.in-Some.collection.now in
    let m = c.index_mut-matrix.result.now in
    let at : slice_get p.collections place ≡ Some collection = found c.as_slice.result.now p.collections place collection c.as_slice.ensures c.in-Some.ensures.lookup.3.0 c.in-Some.ensures.lookup.1 in
    let m_at : slice_get s.made.items place ≡ Some m = found s.made.items s.made.items place m refl (omega (arith, c.requires.at.matrices.all, slice_get_within p.collections place collection at)) c.index_mut-matrix.ensures.value in
    on_ok c.grow_matrix.result (λ grown. all_grown c.stands_with_more.ensures g.U.Updater.answer c.args.graph.now p c.args.n place s.made.items m c.grow_matrix.new.matrix (views_to_add collection.views m c.args.count) m_at grown s.kept.items c.requires.at.each) c.grow_matrix.ensures

pub returns-in-None-clause-matrices : goal.returns-in-None-clause-matrices
returns-in-None-clause-matrices g c =
    let p = c.args.plan.now in
    let s = c.args.self.now in
    grown_nothing c.args.graph.now p c.args.n c.args.place c.args.count s.made.items c.requires.views c.requires.same (omega (arith, ap (λ (x : List CollectionPlan). length x) c.as_slice.ensures, c.in-None.ensures.lookup.3)) c.requires.at.matrices
