-- The collection grows, and each kept run on it.
use Rattle.std.proofs.Common.{◌≡◌, ◌∙◌, ◌+◌, ◌<◌, ◌≤◌, ◌++◌, ℕ, List, Some, length, take, drop, All, slice_get, slice_range, flat_map, refl, sym, ap, ap₂, subst, arith}
use Rattle.std.specs.Prelude.{OnOk, OnErr}
use Rattle.std.proofs.lemmas.List.{length-map}
use Rattle.surge_outside.specs.Written.{appended, GrewByFront}
use Rattle.gvdl_check.specs.declared.plan.CollectionPlan.{CollectionPlan}
use Rattle.gvdl_check.specs.declared.plan.ViewPlan.{ViewPlan}
use Rattle.gvdl_check.specs.declared.plan.Step.TheVariants as step
use Rattle.view_matrix.specs.Matrices.{MatrixData}
use Rattle.surge_session.specs.declared.kept.Kept.{Kept}
use Rattle.surge_session.specs.Live.{graph_at}
use Rattle.surge_session.specs.Output.{made_at, views_added, kept_at, kept_text, append_text}
use Rattle.surge_session.specs.State.{IsKept, IsAt, places_of}
use Rattle.surge_session.proofs.LiveFacts.{live_passed, graph_passed}
use Rattle.surge_session.proofs.Places.{views_more, kept_same, added_is}
use Rattle.surge_session.proofs.Stating.{step_fits, both_ok, came_back}
use Rattle.surge_session.proofs.Texts.{found, append_with}
use Rattle.surge_session.proofs.statement.execute_append.Goals as goal

pub grow-requires-clause-views : goal.grow-requires-clause-views
grow-requires-clause-views g c = λ other. views_more c.args.setting.plan.now c.args.n other (step.Append c.args.place c.requires.step.0 c.args.count) c.requires.step.1

pub grow-requires-clause-same : goal.grow-requires-clause-same
grow-requires-clause-same g c = graph_passed c.args.setting.graph.now c.args.setting.plan.now c.args.n (step.Append c.args.place c.requires.step.0 c.args.count) c.requires.step.1 refl

pub append_all-requires-clause-collection : goal.append_all-requires-clause-collection
append_all-requires-clause-collection g c =
    let p = c.args.setting.plan.now in
    let fits = step_fits c.args.setting.graph.now p c.args.n (step.Append c.args.place c.requires.step.0 c.args.count) c.requires.fits c.requires.step.1 in
    found c.as_slice.result.now p.collections c.args.place c.index-as_slice-place.result c.as_slice.ensures (omega (arith, fits.1, ap (λ (cs : List CollectionPlan). length cs) c.as_slice.ensures)) c.index-as_slice-place.is

pub append_all-requires-clause-kept : goal.append_all-requires-clause-kept
append_all-requires-clause-kept g c =
    let answer = g.U.Updater.answer in
    let graph = c.args.setting.graph.now in
    let p = c.args.setting.plan.now in
    let n = c.args.n in
    subst (λ (made : List MatrixData). All (IsKept answer graph p n made) c.deref_mut.result.now) (sym c.deref.ensures.value)
    (subst (λ (kept : List Kept). All (IsKept answer graph p n c.grow.new.self.made.items) kept) (sym c.deref_mut.ensures.value) c.in-Ok.ensures.each)

pub returns-in-Ok-clause-at : goal.returns-in-Ok-clause-at
returns-in-Ok-clause-at g c =
    let answer = g.U.Updater.answer in
    let graph = c.args.setting.graph.now in
    let p = c.args.setting.plan.now in
    let n = c.args.n in
    let made = c.grow.new.self.made.items in
    let old = c.grow.new.self.kept in
    let new = c.append_all.new.kept in
    let s = step.Append c.args.place c.requires.step.0 c.args.count in
    both_ok c.append_all.result
    (λ kept places.
    let before : places_of new ≡ places_of old.items = places ∙ ap places_of c.deref_mut.ensures.value in
    let same : length new ≡ length old.items = omega (arith, ap (λ (ns : List ℕ). length ns) before, length-map new (λ (k : Kept). k.place), length-map old.items (λ (k : Kept). k.place)) in
    let back = came_back new old.items old.len same (omega arith) in
    subst (λ (items : List Kept). IsAt answer graph p (n + 1) c.grow.new.self.live.items made items) (sym back) (record {
      live = ap (λ v. v.items) c.grow.ensures.live ∙ c.requires.at.live ∙ sym (live_passed graph p n s c.requires.step.1 refl);
      matrices = c.in-Ok.ensures.matrices;
      places = before ∙ ap (λ v. places_of v.items) c.grow.ensures.kept ∙ c.requires.at.places ∙ sym (kept_same p n s c.requires.step.1 refl);
      each = subst (λ (ms : List MatrixData). All (IsKept answer graph p (n + 1) ms) new) c.deref.ensures.value kept;
    }))
    c.append_all.ensures.kept c.append_all.ensures.places

pub returns-in-Ok-clause-ok : goal.returns-in-Ok-clause-ok
returns-in-Ok-clause-ok g c =
    let answer = g.U.Updater.answer in
    let form = c.args.setting.form in
    let graph = c.args.setting.graph.now in
    let p = c.args.setting.plan.now in
    let n = c.args.n in
    let place = c.args.place in
    let collection = c.index-as_slice-place.result in
    let s = step.Append place c.requires.step.0 c.args.count in
    let fits = step_fits graph p n s c.requires.fits c.requires.step.1 in
    let at : slice_get p.collections place ≡ Some collection = found c.as_slice.result.now p.collections place collection c.as_slice.ensures (omega (arith, fits.1, ap (λ (cs : List CollectionPlan). length cs) c.as_slice.ensures)) c.index-as_slice-place.is in
    let added : slice_range collection.views c.views-first.result (length (made_at p (n + 1) place)) ≡ views_added p n collection place =
    ap (λ (k : ℕ). slice_range collection.views k (length (made_at p (n + 1) place))) c.views-first.ensures ∙ added_is p n place collection at (omega (arith, views_more p n place s c.requires.step.1)) in
    let kept : places_of c.deref_mut.result.now ≡ kept_at p n = ap places_of c.deref_mut.ensures.value ∙ ap (λ v. places_of v.items) c.grow.ensures.kept ∙ c.requires.at.places in
    let text : flat_map (kept_text answer form (graph_at graph p (n + 1)) p collection.name (slice_range collection.views c.views-first.result (length (made_at p (n + 1) place))) place) (places_of c.deref_mut.result.now) ≡ append_text answer form graph p n place =
    ap₂ (λ (vs : List ViewPlan) (ks : List ℕ). flat_map (kept_text answer form (graph_at graph p (n + 1)) p collection.name vs place) ks) added kept ∙ sym (append_with answer form graph p n place (Some collection) at) in
    subst (λ (t : List ℕ). OnOk c.append_all.result (g.O.Sink.written c.append_all.new.out ≡ appended (g.O.Sink.written c.args.out.now) t)) text c.append_all.ensures.ok

pub returns-in-Ok-clause-err : goal.returns-in-Ok-clause-err
returns-in-Ok-clause-err g c =
    let answer = g.U.Updater.answer in
    let form = c.args.setting.form in
    let graph = c.args.setting.graph.now in
    let p = c.args.setting.plan.now in
    let n = c.args.n in
    let place = c.args.place in
    let collection = c.index-as_slice-place.result in
    let s = step.Append place c.requires.step.0 c.args.count in
    let fits = step_fits graph p n s c.requires.fits c.requires.step.1 in
    let at : slice_get p.collections place ≡ Some collection = found c.as_slice.result.now p.collections place collection c.as_slice.ensures (omega (arith, fits.1, ap (λ (cs : List CollectionPlan). length cs) c.as_slice.ensures)) c.index-as_slice-place.is in
    let added : slice_range collection.views c.views-first.result (length (made_at p (n + 1) place)) ≡ views_added p n collection place =
    ap (λ (k : ℕ). slice_range collection.views k (length (made_at p (n + 1) place))) c.views-first.ensures ∙ added_is p n place collection at (omega (arith, views_more p n place s c.requires.step.1)) in
    let kept : places_of c.deref_mut.result.now ≡ kept_at p n = ap places_of c.deref_mut.ensures.value ∙ ap (λ v. places_of v.items) c.grow.ensures.kept ∙ c.requires.at.places in
    let text : flat_map (kept_text answer form (graph_at graph p (n + 1)) p collection.name (slice_range collection.views c.views-first.result (length (made_at p (n + 1) place))) place) (places_of c.deref_mut.result.now) ≡ append_text answer form graph p n place =
    ap₂ (λ (vs : List ViewPlan) (ks : List ℕ). flat_map (kept_text answer form (graph_at graph p (n + 1)) p collection.name vs place) ks) added kept ∙ sym (append_with answer form graph p n place (Some collection) at) in
    subst (λ (t : List ℕ). OnErr c.append_all.result (GrewByFront (g.O.Sink.written c.args.out.now) (g.O.Sink.written c.append_all.new.out) t)) text c.append_all.ensures.err
