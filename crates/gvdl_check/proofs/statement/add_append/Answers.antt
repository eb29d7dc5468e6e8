-- The collection is there, and has more views than before.
use Rattle.std.proofs.Common.{◌≡◌, ◌∙◌, List, length, sym, ap, arith, Ok}
use Rattle.gvdl_check.specs.declared.plan.CollectionPlan.{CollectionPlan}
use Rattle.gvdl_check.specs.declared.plan.Step.{Step}
use Rattle.gvdl_check.specs.Singles.{rules_at}
use Rattle.gvdl_check.specs.KnownLaws.{found_within}
use Rattle.gvdl_check.proofs.AppendFacts.{appended, views_read, append_gives}
use Rattle.gvdl_check.proofs.statement.add_append.Goals as goal

pub bounds-as_slice-place : goal.bounds-as_slice-place
bounds-as_slice-place c =
    let k = c.args.known.now in
    let within = found_within c.args.graph.now k c.requires c.args.target.now (c.in_ok-collection.collection, c.in_ok-collection.base) c.in_ok-collection.ensures in
    let size = ap (λ (l : List CollectionPlan). length l) c.as_slice.ensures in
    omega (arith, within.0, size)

pub add_views-requires : goal.add_views-requires
add_views-requires c =
    let k = c.args.known.now in
    let within = found_within c.args.graph.now k c.requires c.args.target.now (c.in_ok-collection.collection, c.in_ok-collection.base) c.in_ok-collection.ensures in
    within.0

pub bounds-as_slice-place-2 : goal.bounds-as_slice-place-2
bounds-as_slice-place-2 c =
    let k = c.args.known.now in
    let place = c.in_ok-collection.collection in
    let found = found_within c.args.graph.now k c.requires c.args.target.now (place, c.in_ok-collection.base) c.in_ok-collection.ensures in
    let more = appended c.args.graph.now c.as_slice-2.result.now k.collections c.add_views.new.collections place c.args.items.now found.0 found.1 c.in_ok-add_views.ensures in
    let size = ap (λ (l : List CollectionPlan). length l) c.as_slice-3.ensures in
    omega (arith, more.within, size)

pub overflow_sub-count : goal.overflow_sub-count
overflow_sub-count c =
    let k = c.args.known.now in
    let place = c.in_ok-collection.collection in
    let those = c.add_views.new.collections in
    let found = found_within c.args.graph.now k c.requires c.args.target.now (place, c.in_ok-collection.base) c.in_ok-collection.ensures in
    let more = appended c.args.graph.now c.as_slice-2.result.now k.collections those place c.args.items.now found.0 found.1 c.in_ok-add_views.ensures in
    let first = views_read c.as_slice.result.now k.collections place c.len-first.result c.index-as_slice-place.result c.as_slice.ensures found.0 c.len-first.ensures in
    let all = views_read c.as_slice-3.result.now those place c.len.result c.index-as_slice-place-2.result c.as_slice-3.ensures more.within c.len.ensures in
    omega (arith, first, all, more.grown)

pub overflow_cast-first : goal.overflow_cast-first
overflow_cast-first c =
    let k = c.args.known.now in
    let place = c.in_ok-collection.collection in
    let found = found_within c.args.graph.now k c.requires c.args.target.now (place, c.in_ok-collection.base) c.in_ok-collection.ensures in
    let first = views_read c.as_slice.result.now k.collections place c.len-first.result c.index-as_slice-place.result c.as_slice.ensures found.0 c.len-first.ensures in
    omega (arith, first, found.1)

pub overflow_cast-count : goal.overflow_cast-count
overflow_cast-count c =
    let k = c.args.known.now in
    let place = c.in_ok-collection.collection in
    let those = c.add_views.new.collections in
    let found = found_within c.args.graph.now k c.requires c.args.target.now (place, c.in_ok-collection.base) c.in_ok-collection.ensures in
    let more = appended c.args.graph.now c.as_slice-2.result.now k.collections those place c.args.items.now found.0 found.1 c.in_ok-add_views.ensures in
    let all = views_read c.as_slice-3.result.now those place c.len.result c.index-as_slice-place-2.result c.as_slice-3.ensures more.within c.len.ensures in
    omega (arith, all, more.few)

pub returns : goal.returns
returns c =
    let g = c.args.graph.now in
    let k = c.args.known.now in
    let target = c.args.target.now in
    let items = c.args.items.now in
    let place = c.in_ok-collection.collection in
    let base = c.in_ok-collection.base in
    let those = c.add_views.new.collections in
    let rules = c.as_slice-2.result.now in
    let found = found_within g k c.requires target (place, base) c.in_ok-collection.ensures in
    let more = appended g rules k.collections those place items found.0 found.1 c.in_ok-add_views.ensures in
    let first = views_read c.as_slice.result.now k.collections place c.len-first.result c.index-as_slice-place.result c.as_slice.ensures found.0 c.len-first.ensures in
    let all = views_read c.as_slice-3.result.now those place c.len.result c.index-as_slice-place-2.result c.as_slice-3.ensures more.within c.len.ensures in
    let same : rules ≡ rules_at k.singles base = cc (c.as_slice-2.ensures, c.in_ok-rules.ensures) in
    let gives = append_gives g k target items place base rules those c.len-first.result c.len.result c.in_ok-collection.ensures same c.in_ok-add_views.ensures first all in
    gives ∙ ap (λ (steps : List Step). Ok (record k { collections = those; steps = steps })) (sym c.in_ok-push.ensures.ok)
