-- The run goes on from what it kept.
use Rattle.std.proofs.Common.{◌≡◌, ◌∙◌, ◌+◌, ◌<◌, ◌≤◌, ℕ, List, Some, length, slice_get, refl, sym, ap, subst, arith}
use Rattle.std.specs.Prelude.{OnOk, OnErr}
use Rattle.surge_outside.specs.Written.{appended, GrewByFront}
use Rattle.gvdl_check.specs.declared.plan.CollectionPlan.{CollectionPlan}
use Rattle.surge_session.proofs.Following.{told, edited_here, has_old, unphased, named, kept_followed, cost, text}
use Rattle.surge_session.proofs.Places.{columns_within, shows_front}
use Rattle.surge_session.proofs.Stating.{at_index, its_collection, matrix_here}
use Rattle.surge_session.proofs.Texts.{found, if_ok}
use Rattle.surge_session.proofs.edit.follow.Goals as goal

pub bounds-made-run : goal.bounds-made-run
bounds-made-run g c =
    let graph = c.args.setting.graph.now in
    let p = c.args.setting.plan.now in
    let k = c.args.kept.now in
    let kept = c.requires.turns.3 in
    let run = c.index-as_slice-kept.result in
    let run_at : slice_get p.runs k.place ≡ Some run = at_index c.as_slice.result.now p.runs k.place run kept.run c.as_slice.ensures kept.at c.index-as_slice-kept.is in
    omega (arith, c.requires.matrices.all, its_collection graph p k.place run c.requires.fits run_at)

pub advance-requires-clause-edited : goal.advance-requires-clause-edited
advance-requires-clause-edited g c =
    let answer = g.U.Updater.answer in
    let graph = c.args.setting.graph.now in
    let p = c.args.setting.plan.now in
    let n = c.args.n in
    let made = c.args.made.now in
    let k = c.args.kept.now in
    let s = c.requires.step in
    let turns = c.requires.turns in
    let kept = turns.3 in
    let run = c.index-as_slice-kept.result in
    let run_at : slice_get p.runs k.place ≡ Some run = at_index c.as_slice.result.now p.runs k.place run kept.run c.as_slice.ensures kept.at c.index-as_slice-kept.is in
    let lt : run.collection < length p.collections = its_collection graph p k.place run c.requires.fits run_at in
    let m = c.index-made-run.result in
    let m_at : slice_get made run.collection ≡ Some m = matrix_here graph p (n + 1) made c.requires.matrices run.collection m lt c.index-made-run.is in
    told graph p n k.place s.0 run c.requires.fits s.1 s.2 run_at (named answer graph p n s.0 s.1 s.2 turns.0 made c.args.changes.now turns.1 c.requires.matrices turns.2 k kept run run_at m m_at) kept.earlier

pub advance-requires-clause-unphased : goal.advance-requires-clause-unphased
advance-requires-clause-unphased g c =
    let answer = g.U.Updater.answer in
    let graph = c.args.setting.graph.now in
    let p = c.args.setting.plan.now in
    let n = c.args.n in
    let made = c.args.made.now in
    let k = c.args.kept.now in
    let s = c.requires.step in
    let turns = c.requires.turns in
    let kept = turns.3 in
    let run = c.index-as_slice-kept.result in
    let run_at : slice_get p.runs k.place ≡ Some run = at_index c.as_slice.result.now p.runs k.place run kept.run c.as_slice.ensures kept.at c.index-as_slice-kept.is in
    let lt : run.collection < length p.collections = its_collection graph p k.place run c.requires.fits run_at in
    let m = c.index-made-run.result in
    let m_at : slice_get made run.collection ≡ Some m = matrix_here graph p (n + 1) made c.requires.matrices run.collection m lt c.index-made-run.is in
    unphased answer graph p n s.0 s.1 s.2 turns.0 made c.args.changes.now turns.1 c.requires.matrices turns.2 k kept run run_at m m_at

pub advance-requires-clause-turns : goal.advance-requires-clause-turns
advance-requires-clause-turns g c =
    let answer = g.U.Updater.answer in
    let graph = c.args.setting.graph.now in
    let p = c.args.setting.plan.now in
    let n = c.args.n in
    let made = c.args.made.now in
    let k = c.args.kept.now in
    let s = c.requires.step in
    let turns = c.requires.turns in
    let kept = turns.3 in
    let run = c.index-as_slice-kept.result in
    let run_at : slice_get p.runs k.place ≡ Some run = at_index c.as_slice.result.now p.runs k.place run kept.run c.as_slice.ensures kept.at c.index-as_slice-kept.is in
    let lt : run.collection < length p.collections = its_collection graph p k.place run c.requires.fits run_at in
    let m = c.index-made-run.result in
    let m_at : slice_get made run.collection ≡ Some m = matrix_here graph p (n + 1) made c.requires.matrices run.collection m lt c.index-made-run.is in
    (kept.matrix, edited_here answer graph p n s.0 s.1 s.2 turns.0 made c.args.changes.now turns.1 c.requires.matrices turns.2 k kept run run_at m m_at, has_old answer graph p n s.0 s.1 s.2 turns.0 made c.args.changes.now turns.1 c.requires.matrices turns.2 k kept run run_at m m_at)

pub write_from-requires-clause-within : goal.write_from-requires-clause-within
write_from-requires-clause-within g c =
    let answer = g.U.Updater.answer in
    let graph = c.args.setting.graph.now in
    let p = c.args.setting.plan.now in
    let n = c.args.n in
    let made = c.args.made.now in
    let k = c.args.kept.now in
    let s = c.requires.step in
    let turns = c.requires.turns in
    let kept = turns.3 in
    let run = c.index-as_slice-kept.result in
    let run_at : slice_get p.runs k.place ≡ Some run = at_index c.as_slice.result.now p.runs k.place run kept.run c.as_slice.ensures kept.at c.index-as_slice-kept.is in
    let lt : run.collection < length p.collections = its_collection graph p k.place run c.requires.fits run_at in
    let m = c.index-made-run.result in
    let m_at : slice_get made run.collection ≡ Some m = matrix_here graph p (n + 1) made c.requires.matrices run.collection m lt c.index-made-run.is in
    let collection = c.index-as_slice-run.result in
    let c_at : slice_get p.collections run.collection ≡ Some collection = found c.as_slice-2.result.now p.collections run.collection collection c.as_slice-2.ensures (omega (arith, lt, ap (λ (cs : List CollectionPlan). length cs) c.as_slice-2.ensures)) c.index-as_slice-run.is in
    columns_within graph p (n + 1) run.collection collection made m c_at c.requires.matrices m_at

pub write_from-requires-clause-shows : goal.write_from-requires-clause-shows
write_from-requires-clause-shows g c =
    let answer = g.U.Updater.answer in
    let graph = c.args.setting.graph.now in
    let p = c.args.setting.plan.now in
    let n = c.args.n in
    let made = c.args.made.now in
    let k = c.args.kept.now in
    let s = c.requires.step in
    let turns = c.requires.turns in
    let kept = turns.3 in
    let run = c.index-as_slice-kept.result in
    let run_at : slice_get p.runs k.place ≡ Some run = at_index c.as_slice.result.now p.runs k.place run kept.run c.as_slice.ensures kept.at c.index-as_slice-kept.is in
    let lt : run.collection < length p.collections = its_collection graph p k.place run c.requires.fits run_at in
    let m = c.index-made-run.result in
    let m_at : slice_get made run.collection ≡ Some m = matrix_here graph p (n + 1) made c.requires.matrices run.collection m lt c.index-made-run.is in
    let collection = c.index-as_slice-run.result in
    let c_at : slice_get p.collections run.collection ≡ Some collection = found c.as_slice-2.result.now p.collections run.collection collection c.as_slice-2.ensures (omega (arith, lt, ap (λ (cs : List CollectionPlan). length cs) c.as_slice-2.ensures)) c.index-as_slice-run.is in
    shows_front graph p (n + 1) run.collection collection made m c_at c.requires.matrices m_at

pub returns-clause-kept : goal.returns-clause-kept
returns-clause-kept g c =
    let answer = g.U.Updater.answer in
    let graph = c.args.setting.graph.now in
    let p = c.args.setting.plan.now in
    let n = c.args.n in
    let made = c.args.made.now in
    let k = c.args.kept.now in
    let s = c.requires.step in
    let turns = c.requires.turns in
    let kept = turns.3 in
    let run = c.index-as_slice-kept.result in
    let run_at : slice_get p.runs k.place ≡ Some run = at_index c.as_slice.result.now p.runs k.place run kept.run c.as_slice.ensures kept.at c.index-as_slice-kept.is in
    let lt : run.collection < length p.collections = its_collection graph p k.place run c.requires.fits run_at in
    let m = c.index-made-run.result in
    let m_at : slice_get made run.collection ≡ Some m = matrix_here graph p (n + 1) made c.requires.matrices run.collection m lt c.index-made-run.is in
    if_ok c.write_from.result (kept_followed answer graph p n s.0 s.1 s.2 turns.0 made c.args.changes.now turns.1 c.requires.matrices turns.2 k kept run run_at m m_at c.advance.new.self c.in-Ok.ensures.has c.advance.ensures.order (record { place = k.place; engine = c.advance.new.self }) refl)

pub returns-clause-ok : goal.returns-clause-ok
returns-clause-ok g c =
    let answer = g.U.Updater.answer in
    let graph = c.args.setting.graph.now in
    let p = c.args.setting.plan.now in
    let n = c.args.n in
    let made = c.args.made.now in
    let k = c.args.kept.now in
    let s = c.requires.step in
    let turns = c.requires.turns in
    let kept = turns.3 in
    let run = c.index-as_slice-kept.result in
    let run_at : slice_get p.runs k.place ≡ Some run = at_index c.as_slice.result.now p.runs k.place run kept.run c.as_slice.ensures kept.at c.index-as_slice-kept.is in
    let lt : run.collection < length p.collections = its_collection graph p k.place run c.requires.fits run_at in
    let m = c.index-made-run.result in
    let m_at : slice_get made run.collection ≡ Some m = matrix_here graph p (n + 1) made c.requires.matrices run.collection m lt c.index-made-run.is in
    let collection = c.index-as_slice-run.result in
    let c_at : slice_get p.collections run.collection ≡ Some collection = found c.as_slice-2.result.now p.collections run.collection collection c.as_slice-2.ensures (omega (arith, lt, ap (λ (cs : List CollectionPlan). length cs) c.as_slice-2.ensures)) c.index-as_slice-run.is in
    subst (λ (t : List ℕ). OnOk c.write_from.result (g.O.Sink.written c.write_from.new.out ≡ appended (g.O.Sink.written c.args.out.now) t)) (text answer graph p n s.0 s.1 s.2 turns.0 made c.args.changes.now turns.1 c.requires.matrices turns.2 k kept run run_at m m_at c.args.setting.form collection c_at) c.write_from.ensures.ok

pub returns-clause-err : goal.returns-clause-err
returns-clause-err g c =
    let answer = g.U.Updater.answer in
    let graph = c.args.setting.graph.now in
    let p = c.args.setting.plan.now in
    let n = c.args.n in
    let made = c.args.made.now in
    let k = c.args.kept.now in
    let s = c.requires.step in
    let turns = c.requires.turns in
    let kept = turns.3 in
    let run = c.index-as_slice-kept.result in
    let run_at : slice_get p.runs k.place ≡ Some run = at_index c.as_slice.result.now p.runs k.place run kept.run c.as_slice.ensures kept.at c.index-as_slice-kept.is in
    let lt : run.collection < length p.collections = its_collection graph p k.place run c.requires.fits run_at in
    let m = c.index-made-run.result in
    let m_at : slice_get made run.collection ≡ Some m = matrix_here graph p (n + 1) made c.requires.matrices run.collection m lt c.index-made-run.is in
    let collection = c.index-as_slice-run.result in
    let c_at : slice_get p.collections run.collection ≡ Some collection = found c.as_slice-2.result.now p.collections run.collection collection c.as_slice-2.ensures (omega (arith, lt, ap (λ (cs : List CollectionPlan). length cs) c.as_slice-2.ensures)) c.index-as_slice-run.is in
    subst (λ (t : List ℕ). OnErr c.write_from.result (GrewByFront (g.O.Sink.written c.args.out.now) (g.O.Sink.written c.write_from.new.out) t)) (text answer graph p n s.0 s.1 s.2 turns.0 made c.args.changes.now turns.1 c.requires.matrices turns.2 k kept run run_at m m_at c.args.setting.form collection c_at) c.write_from.ensures.err

pub returns-clause-calls : goal.returns-clause-calls
returns-clause-calls g c =
    let answer = g.U.Updater.answer in
    let graph = c.args.setting.graph.now in
    let p = c.args.setting.plan.now in
    let n = c.args.n in
    let made = c.args.made.now in
    let k = c.args.kept.now in
    let s = c.requires.step in
    let turns = c.requires.turns in
    let kept = turns.3 in
    let run = c.index-as_slice-kept.result in
    let run_at : slice_get p.runs k.place ≡ Some run = at_index c.as_slice.result.now p.runs k.place run kept.run c.as_slice.ensures kept.at c.index-as_slice-kept.is in
    let lt : run.collection < length p.collections = its_collection graph p k.place run c.requires.fits run_at in
    let m = c.index-made-run.result in
    let m_at : slice_get made run.collection ≡ Some m = matrix_here graph p (n + 1) made c.requires.matrices run.collection m lt c.index-made-run.is in
    if_ok c.write_from.result (omega (arith, c.in-Ok.ensures.calls, cost answer graph p n s.0 s.1 s.2 turns.0 made c.args.changes.now turns.1 c.requires.matrices turns.2 k kept run run_at m m_at c.edits_are_taken_back.ensures))
