-- The run is kept with the views that were added.
use Rattle.std.proofs.Common.{◌≡◌, ◌+◌, ◌<◌, ℕ, List, Some, length, slice_get, slice_range, arith, subst}
use Rattle.std.specs.Prelude.{OnOk, OnErr}
use Rattle.std.proofs.lemmas.Option.{slice_get_within}
use Rattle.surge_outside.specs.Written.{appended, GrewByFront}
use Rattle.surge_session.specs.Live.{graph_at}
use Rattle.surge_session.specs.Output.{made_at, kept_text}
use Rattle.surge_session.proofs.Appending.{has_before, first_within, all_below, few_before, has_name, in_no_phases, kept_with_more, within_added, within_views, shows_views, text_of_added}
use Rattle.surge_session.proofs.Places.{live_size}
use Rattle.surge_session.proofs.Stating.{at_index, matrix_here, kept_apart}
use Rattle.surge_session.proofs.Texts.{if_ok, kept_elsewhere}
use Rattle.surge_session.proofs.Written.{nothing_written}
use Rattle.surge_session.proofs.statement.append_kept.Goals as goal

pub returns-then-run-place-clause-kept : goal.returns-then-run-place-clause-kept
returns-then-run-place-clause-kept g c =
    let answer = g.U.Updater.answer in
    let graph = c.args.setting.graph.now in
    let p = c.args.setting.plan.now in
    let n = c.args.n in
    let place = c.args.added.place in
    let made = c.args.added.made.now in
    let k = c.args.kept.now in
    let kept = c.requires.kept in
    let run = c.index-as_slice-kept.result in
    let run_at : slice_get p.runs k.place ≡ Some run = at_index c.as_slice.result.now p.runs k.place run kept.run c.as_slice.ensures kept.at c.index-as_slice-kept.is in
    kept_apart answer graph p n place c.requires.step.0 c.requires.step.1 made k run kept run_at c.requires.step.2 c.if-run-place.true

pub returns-then-run-place-clause-ok : goal.returns-then-run-place-clause-ok
returns-then-run-place-clause-ok g c =
    let answer = g.U.Updater.answer in
    let graph = c.args.setting.graph.now in
    let p = c.args.setting.plan.now in
    let n = c.args.n in
    let place = c.args.added.place in
    let made = c.args.added.made.now in
    let k = c.args.kept.now in
    let kept = c.requires.kept in
    let run = c.index-as_slice-kept.result in
    let run_at : slice_get p.runs k.place ≡ Some run = at_index c.as_slice.result.now p.runs k.place run kept.run c.as_slice.ensures kept.at c.index-as_slice-kept.is in
    let name = c.args.added.collection.now.name in
    let added = slice_range c.args.added.collection.now.views c.args.added.first (length (made_at p (n + 1) place)) in
    let w = graph_at graph p (n + 1) in
    nothing_written (g.O.Sink.written c.args.out.now) (kept_text answer c.args.setting.form w p name added place k.place) (kept_elsewhere answer c.args.setting.form w p name added place k.place run run_at c.if-run-place.true)

pub bounds-made-place : goal.bounds-made-place
bounds-made-place g c =
    let p = c.args.setting.plan.now in
    omega (arith, c.requires.matrices.all, slice_get_within p.collections c.args.added.place c.args.added.collection.now c.requires.collection)

pub run_more-requires-clause-first : goal.run_more-requires-clause-first
run_more-requires-clause-first g c =
    let answer = g.U.Updater.answer in
    let graph = c.args.setting.graph.now in
    let p = c.args.setting.plan.now in
    let n = c.args.n in
    let place = c.args.added.place in
    let made = c.args.added.made.now in
    let k = c.args.kept.now in
    let kept = c.requires.kept in
    let run = c.index-as_slice-kept.result in
    let run_at : slice_get p.runs k.place ≡ Some run = at_index c.as_slice.result.now p.runs k.place run kept.run c.as_slice.ensures kept.at c.index-as_slice-kept.is in
    let within : place < length p.collections = slice_get_within p.collections place c.args.added.collection.now c.requires.collection in
    let m = c.index-made-place.result in
    let m_at : slice_get made place ≡ Some m = matrix_here graph p (n + 1) made c.requires.matrices place m within c.index-made-place.is in
    first_within answer graph p n place c.requires.step.0 c.requires.step.1 made k kept run run_at c.if-run-place.false c.requires.step.2 c.requires.matrices m m_at c.args.added.first c.requires.first

pub run_more-requires-clause-has : goal.run_more-requires-clause-has
run_more-requires-clause-has g c =
    let answer = g.U.Updater.answer in
    let graph = c.args.setting.graph.now in
    let p = c.args.setting.plan.now in
    let n = c.args.n in
    let place = c.args.added.place in
    let made = c.args.added.made.now in
    let k = c.args.kept.now in
    let kept = c.requires.kept in
    let run = c.index-as_slice-kept.result in
    let run_at : slice_get p.runs k.place ≡ Some run = at_index c.as_slice.result.now p.runs k.place run kept.run c.as_slice.ensures kept.at c.index-as_slice-kept.is in
    let within : place < length p.collections = slice_get_within p.collections place c.args.added.collection.now c.requires.collection in
    let m = c.index-made-place.result in
    let m_at : slice_get made place ≡ Some m = matrix_here graph p (n + 1) made c.requires.matrices place m within c.index-made-place.is in
    has_before answer graph p n place c.requires.step.0 c.requires.step.1 made k kept run run_at c.if-run-place.false c.requires.step.2 c.requires.matrices m m_at c.args.added.first c.requires.first

pub run_more-requires-clause-below : goal.run_more-requires-clause-below
run_more-requires-clause-below g c =
    let answer = g.U.Updater.answer in
    let graph = c.args.setting.graph.now in
    let p = c.args.setting.plan.now in
    let n = c.args.n in
    let place = c.args.added.place in
    let made = c.args.added.made.now in
    let k = c.args.kept.now in
    let kept = c.requires.kept in
    let run = c.index-as_slice-kept.result in
    let run_at : slice_get p.runs k.place ≡ Some run = at_index c.as_slice.result.now p.runs k.place run kept.run c.as_slice.ensures kept.at c.index-as_slice-kept.is in
    let within : place < length p.collections = slice_get_within p.collections place c.args.added.collection.now c.requires.collection in
    let m = c.index-made-place.result in
    let m_at : slice_get made place ≡ Some m = matrix_here graph p (n + 1) made c.requires.matrices place m within c.index-made-place.is in
    all_below answer graph p n place c.requires.step.0 c.requires.step.1 made k kept run run_at c.if-run-place.false c.requires.step.2 c.requires.matrices m m_at c.args.added.first c.requires.first

pub run_more-requires-clause-count : goal.run_more-requires-clause-count
run_more-requires-clause-count g c =
    let answer = g.U.Updater.answer in
    let graph = c.args.setting.graph.now in
    let p = c.args.setting.plan.now in
    let n = c.args.n in
    let place = c.args.added.place in
    let made = c.args.added.made.now in
    let k = c.args.kept.now in
    let kept = c.requires.kept in
    let run = c.index-as_slice-kept.result in
    let run_at : slice_get p.runs k.place ≡ Some run = at_index c.as_slice.result.now p.runs k.place run kept.run c.as_slice.ensures kept.at c.index-as_slice-kept.is in
    let within : place < length p.collections = slice_get_within p.collections place c.args.added.collection.now c.requires.collection in
    let m = c.index-made-place.result in
    let m_at : slice_get made place ≡ Some m = matrix_here graph p (n + 1) made c.requires.matrices place m within c.index-made-place.is in
    few_before answer graph p n place c.requires.step.0 c.requires.step.1 made k kept run run_at c.if-run-place.false c.requires.step.2 c.requires.matrices m m_at c.args.added.first c.requires.first

pub run_more-requires-clause-unphased : goal.run_more-requires-clause-unphased
run_more-requires-clause-unphased g c =
    let answer = g.U.Updater.answer in
    let graph = c.args.setting.graph.now in
    let p = c.args.setting.plan.now in
    let n = c.args.n in
    let place = c.args.added.place in
    let made = c.args.added.made.now in
    let k = c.args.kept.now in
    let kept = c.requires.kept in
    let run = c.index-as_slice-kept.result in
    let run_at : slice_get p.runs k.place ≡ Some run = at_index c.as_slice.result.now p.runs k.place run kept.run c.as_slice.ensures kept.at c.index-as_slice-kept.is in
    let within : place < length p.collections = slice_get_within p.collections place c.args.added.collection.now c.requires.collection in
    let m = c.index-made-place.result in
    let m_at : slice_get made place ≡ Some m = matrix_here graph p (n + 1) made c.requires.matrices place m within c.index-made-place.is in
    in_no_phases answer graph p n place c.requires.step.0 c.requires.step.1 made k kept run run_at c.if-run-place.false c.requires.step.2 c.requires.matrices m m_at c.args.added.first c.requires.first

pub run_more-requires-clause-kept : goal.run_more-requires-clause-kept
run_more-requires-clause-kept g c =
    let answer = g.U.Updater.answer in
    let graph = c.args.setting.graph.now in
    let p = c.args.setting.plan.now in
    let n = c.args.n in
    let place = c.args.added.place in
    let made = c.args.added.made.now in
    let k = c.args.kept.now in
    let kept = c.requires.kept in
    let run = c.index-as_slice-kept.result in
    let run_at : slice_get p.runs k.place ≡ Some run = at_index c.as_slice.result.now p.runs k.place run kept.run c.as_slice.ensures kept.at c.index-as_slice-kept.is in
    let within : place < length p.collections = slice_get_within p.collections place c.args.added.collection.now c.requires.collection in
    let m = c.index-made-place.result in
    let m_at : slice_get made place ≡ Some m = matrix_here graph p (n + 1) made c.requires.matrices place m within c.index-made-place.is in
    has_name answer graph p n place c.requires.step.0 c.requires.step.1 made k kept run run_at c.if-run-place.false c.requires.step.2 c.requires.matrices m m_at c.args.added.first c.requires.first

pub write_from-requires-clause-live : goal.write_from-requires-clause-live
write_from-requires-clause-live g c =
    let graph = c.args.setting.graph.now in
    let p = c.args.setting.plan.now in
    let n = c.args.n in
    let place = c.args.added.place in
    let made = c.args.added.made.now in
    let within : place < length p.collections = slice_get_within p.collections place c.args.added.collection.now c.requires.collection in
    let m = c.index-made-place.result in
    let m_at : slice_get made place ≡ Some m = matrix_here graph p (n + 1) made c.requires.matrices place m within c.index-made-place.is in
    live_size graph p (n + 1) place made m c.requires.matrices m_at

pub write_from-requires-clause-first : goal.write_from-requires-clause-first
write_from-requires-clause-first g c =
    let answer = g.U.Updater.answer in
    let graph = c.args.setting.graph.now in
    let p = c.args.setting.plan.now in
    let n = c.args.n in
    let place = c.args.added.place in
    let made = c.args.added.made.now in
    let k = c.args.kept.now in
    let kept = c.requires.kept in
    let run = c.index-as_slice-kept.result in
    let run_at : slice_get p.runs k.place ≡ Some run = at_index c.as_slice.result.now p.runs k.place run kept.run c.as_slice.ensures kept.at c.index-as_slice-kept.is in
    let within : place < length p.collections = slice_get_within p.collections place c.args.added.collection.now c.requires.collection in
    let m = c.index-made-place.result in
    let m_at : slice_get made place ≡ Some m = matrix_here graph p (n + 1) made c.requires.matrices place m within c.index-made-place.is in
    first_within answer graph p n place c.requires.step.0 c.requires.step.1 made k kept run run_at c.if-run-place.false c.requires.step.2 c.requires.matrices m m_at c.args.added.first c.requires.first

pub write_from-requires-clause-within : goal.write_from-requires-clause-within
write_from-requires-clause-within g c =
    let answer = g.U.Updater.answer in
    let graph = c.args.setting.graph.now in
    let p = c.args.setting.plan.now in
    let n = c.args.n in
    let place = c.args.added.place in
    let made = c.args.added.made.now in
    let k = c.args.kept.now in
    let kept = c.requires.kept in
    let run = c.index-as_slice-kept.result in
    let run_at : slice_get p.runs k.place ≡ Some run = at_index c.as_slice.result.now p.runs k.place run kept.run c.as_slice.ensures kept.at c.index-as_slice-kept.is in
    let within : place < length p.collections = slice_get_within p.collections place c.args.added.collection.now c.requires.collection in
    let m = c.index-made-place.result in
    let m_at : slice_get made place ≡ Some m = matrix_here graph p (n + 1) made c.requires.matrices place m within c.index-made-place.is in
    within_views answer graph p n place c.requires.step.0 c.requires.step.1 made k kept run run_at c.if-run-place.false c.requires.step.2 c.requires.matrices m m_at c.args.added.first c.requires.first c.args.added.collection.now c.requires.collection

pub write_from-requires-clause-shows : goal.write_from-requires-clause-shows
write_from-requires-clause-shows g c =
    let answer = g.U.Updater.answer in
    let graph = c.args.setting.graph.now in
    let p = c.args.setting.plan.now in
    let n = c.args.n in
    let place = c.args.added.place in
    let made = c.args.added.made.now in
    let k = c.args.kept.now in
    let kept = c.requires.kept in
    let run = c.index-as_slice-kept.result in
    let run_at : slice_get p.runs k.place ≡ Some run = at_index c.as_slice.result.now p.runs k.place run kept.run c.as_slice.ensures kept.at c.index-as_slice-kept.is in
    let within : place < length p.collections = slice_get_within p.collections place c.args.added.collection.now c.requires.collection in
    let m = c.index-made-place.result in
    let m_at : slice_get made place ≡ Some m = matrix_here graph p (n + 1) made c.requires.matrices place m within c.index-made-place.is in
    shows_views answer graph p n place c.requires.step.0 c.requires.step.1 made k kept run run_at c.if-run-place.false c.requires.step.2 c.requires.matrices m m_at c.args.added.first c.requires.first c.args.added.collection.now c.requires.collection

pub returns-clause-kept : goal.returns-clause-kept
returns-clause-kept g c =
    let answer = g.U.Updater.answer in
    let graph = c.args.setting.graph.now in
    let p = c.args.setting.plan.now in
    let n = c.args.n in
    let place = c.args.added.place in
    let made = c.args.added.made.now in
    let k = c.args.kept.now in
    let kept = c.requires.kept in
    let run = c.index-as_slice-kept.result in
    let run_at : slice_get p.runs k.place ≡ Some run = at_index c.as_slice.result.now p.runs k.place run kept.run c.as_slice.ensures kept.at c.index-as_slice-kept.is in
    let within : place < length p.collections = slice_get_within p.collections place c.args.added.collection.now c.requires.collection in
    let m = c.index-made-place.result in
    let m_at : slice_get made place ≡ Some m = matrix_here graph p (n + 1) made c.requires.matrices place m within c.index-made-place.is in
    if_ok c.write_from.result (kept_with_more answer graph p n place c.requires.step.0 c.requires.step.1 made k kept run run_at c.if-run-place.false c.requires.step.2 c.requires.matrices m m_at c.args.added.first c.requires.first c.run_more.new.engine c.in-Ok.ensures.has c.in-Ok.ensures.order c.in-Ok.ensures.count)

pub returns-clause-ok : goal.returns-clause-ok
returns-clause-ok g c =
    let answer = g.U.Updater.answer in
    let graph = c.args.setting.graph.now in
    let p = c.args.setting.plan.now in
    let n = c.args.n in
    let place = c.args.added.place in
    let made = c.args.added.made.now in
    let k = c.args.kept.now in
    let kept = c.requires.kept in
    let run = c.index-as_slice-kept.result in
    let run_at : slice_get p.runs k.place ≡ Some run = at_index c.as_slice.result.now p.runs k.place run kept.run c.as_slice.ensures kept.at c.index-as_slice-kept.is in
    let within : place < length p.collections = slice_get_within p.collections place c.args.added.collection.now c.requires.collection in
    let m = c.index-made-place.result in
    let m_at : slice_get made place ≡ Some m = matrix_here graph p (n + 1) made c.requires.matrices place m within c.index-made-place.is in
    subst (λ (t : List ℕ). OnOk c.write_from.result (g.O.Sink.written c.write_from.new.out ≡ appended (g.O.Sink.written c.args.out.now) t)) (text_of_added answer graph p n place c.requires.step.0 c.requires.step.1 made k kept run run_at c.if-run-place.false c.requires.step.2 c.requires.matrices m m_at c.args.added.first c.requires.first c.args.added.collection.now c.requires.collection c.args.setting.form) c.write_from.ensures.ok

pub returns-clause-err : goal.returns-clause-err
returns-clause-err g c =
    let answer = g.U.Updater.answer in
    let graph = c.args.setting.graph.now in
    let p = c.args.setting.plan.now in
    let n = c.args.n in
    let place = c.args.added.place in
    let made = c.args.added.made.now in
    let k = c.args.kept.now in
    let kept = c.requires.kept in
    let run = c.index-as_slice-kept.result in
    let run_at : slice_get p.runs k.place ≡ Some run = at_index c.as_slice.result.now p.runs k.place run kept.run c.as_slice.ensures kept.at c.index-as_slice-kept.is in
    let within : place < length p.collections = slice_get_within p.collections place c.args.added.collection.now c.requires.collection in
    let m = c.index-made-place.result in
    let m_at : slice_get made place ≡ Some m = matrix_here graph p (n + 1) made c.requires.matrices place m within c.index-made-place.is in
    subst (λ (t : List ℕ). OnErr c.write_from.result (GrewByFront (g.O.Sink.written c.args.out.now) (g.O.Sink.written c.write_from.new.out) t)) (text_of_added answer graph p n place c.requires.step.0 c.requires.step.1 made k kept run run_at c.if-run-place.false c.requires.step.2 c.requires.matrices m m_at c.args.added.first c.requires.first c.args.added.collection.now c.requires.collection c.args.setting.form) c.write_from.ensures.err

pub returns-clause-calls : goal.returns-clause-calls
returns-clause-calls g c =
    let answer = g.U.Updater.answer in
    let graph = c.args.setting.graph.now in
    let p = c.args.setting.plan.now in
    let n = c.args.n in
    let place = c.args.added.place in
    let made = c.args.added.made.now in
    let k = c.args.kept.now in
    let kept = c.requires.kept in
    let run = c.index-as_slice-kept.result in
    let run_at : slice_get p.runs k.place ≡ Some run = at_index c.as_slice.result.now p.runs k.place run kept.run c.as_slice.ensures kept.at c.index-as_slice-kept.is in
    let within : place < length p.collections = slice_get_within p.collections place c.args.added.collection.now c.requires.collection in
    let m = c.index-made-place.result in
    let m_at : slice_get made place ≡ Some m = matrix_here graph p (n + 1) made c.requires.matrices place m within c.index-made-place.is in
    let cost = within_added answer graph p n place c.requires.step.0 c.requires.step.1 made k kept run run_at c.if-run-place.false c.requires.step.2 c.requires.matrices m m_at c.args.added.first c.requires.first c.run_more.new.engine c.in-Ok.ensures.has c.in-Ok.ensures.order c.in-Ok.ensures.count in
    if_ok c.write_from.result (omega (arith, cost, c.in-Ok.ensures.calls))
