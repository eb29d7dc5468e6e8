-- The views are those that the collection has by then.
use Rattle.std.proofs.Common.{◌≡◌, ◌∙◌, ◌+◌, ℕ, List, Some, None, slice_get, slice_range, length, refl, sym, ap, subst, arith}
use Rattle.std.specs.Prelude.{OnOk, OnErr}
use Rattle.std.proofs.lemmas.Option.{slice_get_within}
use Rattle.surge_outside.specs.Written.{appended, GrewByFront}
use Rattle.gvdl_check.specs.declared.plan.ViewPlan.{ViewPlan}
use Rattle.gvdl_check.specs.declared.plan.Step.TheVariants as step
use Rattle.surge_session.specs.Live.{LiveGraph, graph_at}
use Rattle.surge_session.specs.State.{Shows, rules_of, shown_graph}
use Rattle.surge_session.specs.Output.{views_before, made_at, order_text, shown_text}
use Rattle.surge_session.proofs.LiveFacts.{shown_is, graph_passed}
use Rattle.surge_session.proofs.Places.{seen, shown_all, all_columns, columns_within}
use Rattle.surge_session.proofs.Texts.{found, missing, shown_with}
use Rattle.surge_session.proofs.Written.{nothing_written}
use Rattle.surge_session.proofs.statement.show_order.Goals as goal

pub views_between-views-requires-clause-within : goal.views_between-views-requires-clause-within
views_between-views-requires-clause-within g c =
    let p = c.args.plan.now in
    let s = c.args.state.now in
    let graph = c.args.graph.now in
    let place = c.args.place in
    let collection = c.in-Some.collection.now in
    let m = c.index-matrix.result.now in
    let at : slice_get p.collections place ≡ Some collection = found c.as_slice.result.now p.collections place collection c.as_slice.ensures c.in-Some.ensures.lookup.3.0 c.in-Some.ensures.lookup.1 in
    let m_at : slice_get s.made.items place ≡ Some m = found s.made.items s.made.items place m refl (omega (arith, c.requires.at.all, slice_get_within p.collections place collection at)) c.index-matrix.ensures in
    omega (arith, c.views.ensures.count, columns_within graph p c.args.n place collection s.made.items m at c.requires.at m_at, ap (λ (x : List ViewPlan). length x) c.as_slice-in-Some.ensures)

pub write_order-requires-clause-shown : goal.write_order-requires-clause-shown
write_order-requires-clause-shown g c =
    let p = c.args.plan.now in
    let s = c.args.state.now in
    let graph = c.args.graph.now in
    let place = c.args.place in
    let collection = c.in-Some.collection.now in
    let m = c.index-matrix.result.now in
    let at : slice_get p.collections place ≡ Some collection = found c.as_slice.result.now p.collections place collection c.as_slice.ensures c.in-Some.ensures.lookup.3.0 c.in-Some.ensures.lookup.1 in
    let m_at : slice_get s.made.items place ≡ Some m = found s.made.items s.made.items place m refl (omega (arith, c.requires.at.all, slice_get_within p.collections place collection at)) c.index-matrix.ensures in
    let is : c.views_between-views.result.now ≡ views_before p c.args.n collection place =
    c.views_between-views.ensures ∙ ap (λ (vs : List ViewPlan). slice_range vs 0 c.views.result) c.as_slice-in-Some.ensures ∙ ap (λ (k : ℕ). slice_range collection.views 0 k) c.views.ensures.count
    ∙ seen graph p c.args.n place collection s.made.items m at c.requires.at m_at in
    let here : shown_graph graph m ≡ graph_at graph p c.args.n = shown_is (graph_at graph p c.args.n) (rules_of (made_at p c.args.n place)) m (c.requires.at.shows place m m_at) in
    subst (λ (w : LiveGraph). Shows w m 0 c.views_between-views.result.now) (sym here) (shown_all graph p c.args.n place collection s.made.items m at c.requires.at m_at c.views_between-views.result.now is)

pub write_order-requires-clause-all : goal.write_order-requires-clause-all
write_order-requires-clause-all g c =
    let p = c.args.plan.now in
    let s = c.args.state.now in
    let graph = c.args.graph.now in
    let place = c.args.place in
    let collection = c.in-Some.collection.now in
    let m = c.index-matrix.result.now in
    let at : slice_get p.collections place ≡ Some collection = found c.as_slice.result.now p.collections place collection c.as_slice.ensures c.in-Some.ensures.lookup.3.0 c.in-Some.ensures.lookup.1 in
    let m_at : slice_get s.made.items place ≡ Some m = found s.made.items s.made.items place m refl (omega (arith, c.requires.at.all, slice_get_within p.collections place collection at)) c.index-matrix.ensures in
    let is : c.views_between-views.result.now ≡ views_before p c.args.n collection place =
    c.views_between-views.ensures ∙ ap (λ (vs : List ViewPlan). slice_range vs 0 c.views.result) c.as_slice-in-Some.ensures ∙ ap (λ (k : ℕ). slice_range collection.views 0 k) c.views.ensures.count
    ∙ seen graph p c.args.n place collection s.made.items m at c.requires.at m_at in
    all_columns graph p c.args.n place collection s.made.items m at c.requires.at m_at c.views_between-views.result.now is

pub returns-in-Some-clause-ok : goal.returns-in-Some-clause-ok
returns-in-Some-clause-ok g c =
    let p = c.args.plan.now in
    let s = c.args.state.now in
    let graph = c.args.graph.now in
    let place = c.args.place in
    let collection = c.in-Some.collection.now in
    let m = c.index-matrix.result.now in
    let at : slice_get p.collections place ≡ Some collection = found c.as_slice.result.now p.collections place collection c.as_slice.ensures c.in-Some.ensures.lookup.3.0 c.in-Some.ensures.lookup.1 in
    let m_at : slice_get s.made.items place ≡ Some m = found s.made.items s.made.items place m refl (omega (arith, c.requires.at.all, slice_get_within p.collections place collection at)) c.index-matrix.ensures in
    let is : c.views_between-views.result.now ≡ views_before p c.args.n collection place =
    c.views_between-views.ensures ∙ ap (λ (vs : List ViewPlan). slice_range vs 0 c.views.result) c.as_slice-in-Some.ensures ∙ ap (λ (k : ℕ). slice_range collection.views 0 k) c.views.ensures.count
    ∙ seen graph p c.args.n place collection s.made.items m at c.requires.at m_at in
    let here : shown_graph graph m ≡ graph_at graph p c.args.n = shown_is (graph_at graph p c.args.n) (rules_of (made_at p c.args.n place)) m (c.requires.at.shows place m m_at) in
    let then : graph_at graph p (c.args.n + 1) ≡ graph_at graph p c.args.n = graph_passed graph p c.args.n (step.ShowOrder place) c.requires.step refl in
    let text : order_text (shown_graph graph m) collection.name c.views_between-views.result.now ≡ shown_text graph p c.args.n place =
    ap (λ (vs : List ViewPlan). order_text (shown_graph graph m) collection.name vs) is ∙ ap (λ (w : LiveGraph). order_text w collection.name (views_before p c.args.n collection place)) (here ∙ sym then)
    ∙ sym (shown_with graph p c.args.n place (Some collection) at) in
    subst (λ (bytes : List ℕ). OnOk c.write_order.result (g.O.Sink.written c.write_order.new.out ≡ appended (g.O.Sink.written c.args.out.now) bytes)) text c.write_order.ensures.ok

pub returns-in-Some-clause-err : goal.returns-in-Some-clause-err
returns-in-Some-clause-err g c =
    let p = c.args.plan.now in
    let s = c.args.state.now in
    let graph = c.args.graph.now in
    let place = c.args.place in
    let collection = c.in-Some.collection.now in
    let m = c.index-matrix.result.now in
    let at : slice_get p.collections place ≡ Some collection = found c.as_slice.result.now p.collections place collection c.as_slice.ensures c.in-Some.ensures.lookup.3.0 c.in-Some.ensures.lookup.1 in
    let m_at : slice_get s.made.items place ≡ Some m = found s.made.items s.made.items place m refl (omega (arith, c.requires.at.all, slice_get_within p.collections place collection at)) c.index-matrix.ensures in
    let is : c.views_between-views.result.now ≡ views_before p c.args.n collection place =
    c.views_between-views.ensures ∙ ap (λ (vs : List ViewPlan). slice_range vs 0 c.views.result) c.as_slice-in-Some.ensures ∙ ap (λ (k : ℕ). slice_range collection.views 0 k) c.views.ensures.count
    ∙ seen graph p c.args.n place collection s.made.items m at c.requires.at m_at in
    let here : shown_graph graph m ≡ graph_at graph p c.args.n = shown_is (graph_at graph p c.args.n) (rules_of (made_at p c.args.n place)) m (c.requires.at.shows place m m_at) in
    let then : graph_at graph p (c.args.n + 1) ≡ graph_at graph p c.args.n = graph_passed graph p c.args.n (step.ShowOrder place) c.requires.step refl in
    let text : order_text (shown_graph graph m) collection.name c.views_between-views.result.now ≡ shown_text graph p c.args.n place =
    ap (λ (vs : List ViewPlan). order_text (shown_graph graph m) collection.name vs) is ∙ ap (λ (w : LiveGraph). order_text w collection.name (views_before p c.args.n collection place)) (here ∙ sym then)
    ∙ sym (shown_with graph p c.args.n place (Some collection) at) in
    subst (λ (bytes : List ℕ). OnErr c.write_order.result (GrewByFront (g.O.Sink.written c.args.out.now) (g.O.Sink.written c.write_order.new.out) bytes)) text c.write_order.ensures.err

pub returns-in-None-clause-ok : goal.returns-in-None-clause-ok
returns-in-None-clause-ok g c =
    let p = c.args.plan.now in
    nothing_written (g.O.Sink.written c.args.out.now) (shown_text c.args.graph.now p c.args.n c.args.place)
    (shown_with c.args.graph.now p c.args.n c.args.place None (missing c.as_slice.result.now p.collections c.args.place c.as_slice.ensures c.in-None.ensures.lookup.3))
