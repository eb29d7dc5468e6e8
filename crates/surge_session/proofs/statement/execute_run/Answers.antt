-- The run is the one that the statement names, on the views that its collection has by then.
use Rattle.std.proofs.Common.{◌≡◌, ◌∙◌, ◌+◌, ◌<◌, ◌≤◌, ℕ, List, Some, length, slice_get, sym, ap, subst, arith, true, is_some}
use Rattle.surge_outside.specs.Written.{appended, GrewByFront}
use Rattle.gvdl_check.specs.declared.plan.CollectionPlan.{CollectionPlan}
use Rattle.gvdl_check.specs.declared.plan.Step.TheVariants as step
use Rattle.view_matrix.specs.Matrices.{MatrixData}
use Rattle.surge_session.specs.State.{HasRunIn}
use Rattle.surge_session.proofs.Places.{counted, columns_within, shows_front, live_size}
use Rattle.surge_session.proofs.Stating.{step_fits, run_here, its_collection, matrix_here, order_is, ran_calls, ran_text, run_step_work}
use Rattle.surge_session.proofs.Texts.{found, kept_unphased}
use Rattle.surge_session.proofs.Written.{whole_front}
use Rattle.surge_session.proofs.statement.execute_run.Goals as goal

pub run_first-requires-clause-matrix : goal.run_first-requires-clause-matrix
run_first-requires-clause-matrix g c =
    let graph = c.args.setting.graph.now in
    let p = c.args.setting.plan.now in
    let n = c.args.n in
    let place = c.args.place in
    let made = c.args.state.now.made.items in
    let run = c.index-as_slice-place.result in
    let m = c.index-matrix.result.now in
    let fits = step_fits graph p n (step.Run place) c.requires.fits c.requires.step in
    let run_at : slice_get p.runs place ≡ Some run = run_here p place c.as_slice.result.now run fits.1 c.as_slice.ensures c.index-as_slice-place.is in
    let lt : run.collection < length p.collections = its_collection graph p place run c.requires.fits run_at in
    let m_at : slice_get made run.collection ≡ Some m = matrix_here graph p n made c.requires.at.matrices run.collection m lt c.index-matrix.ensures in
    live_size graph p n run.collection made m c.requires.at.matrices m_at

pub write_from-requires-clause-live : goal.write_from-requires-clause-live
write_from-requires-clause-live g c =
    let graph = c.args.setting.graph.now in
    let p = c.args.setting.plan.now in
    let n = c.args.n in
    let place = c.args.place in
    let made = c.args.state.now.made.items in
    let run = c.index-as_slice-place.result in
    let m = c.index-matrix.result.now in
    let fits = step_fits graph p n (step.Run place) c.requires.fits c.requires.step in
    let run_at : slice_get p.runs place ≡ Some run = run_here p place c.as_slice.result.now run fits.1 c.as_slice.ensures c.index-as_slice-place.is in
    let lt : run.collection < length p.collections = its_collection graph p place run c.requires.fits run_at in
    let m_at : slice_get made run.collection ≡ Some m = matrix_here graph p n made c.requires.at.matrices run.collection m lt c.index-matrix.ensures in
    live_size graph p n run.collection made m c.requires.at.matrices m_at

pub write_from-requires-clause-within : goal.write_from-requires-clause-within
write_from-requires-clause-within g c =
    let graph = c.args.setting.graph.now in
    let p = c.args.setting.plan.now in
    let n = c.args.n in
    let place = c.args.place in
    let made = c.args.state.now.made.items in
    let run = c.index-as_slice-place.result in
    let m = c.index-matrix.result.now in
    let fits = step_fits graph p n (step.Run place) c.requires.fits c.requires.step in
    let run_at : slice_get p.runs place ≡ Some run = run_here p place c.as_slice.result.now run fits.1 c.as_slice.ensures c.index-as_slice-place.is in
    let lt : run.collection < length p.collections = its_collection graph p place run c.requires.fits run_at in
    let m_at : slice_get made run.collection ≡ Some m = matrix_here graph p n made c.requires.at.matrices run.collection m lt c.index-matrix.ensures in
    let collection = c.index-as_slice-run.result in
    let c_at : slice_get p.collections run.collection ≡ Some collection = found c.as_slice-2.result.now p.collections run.collection collection c.as_slice-2.ensures (omega (arith, lt, ap (λ (cs : List CollectionPlan). length cs) c.as_slice-2.ensures)) c.index-as_slice-run.is in
    columns_within graph p n run.collection collection made m c_at c.requires.at.matrices m_at

pub write_from-requires-clause-shows : goal.write_from-requires-clause-shows
write_from-requires-clause-shows g c =
    let graph = c.args.setting.graph.now in
    let p = c.args.setting.plan.now in
    let n = c.args.n in
    let place = c.args.place in
    let made = c.args.state.now.made.items in
    let run = c.index-as_slice-place.result in
    let m = c.index-matrix.result.now in
    let fits = step_fits graph p n (step.Run place) c.requires.fits c.requires.step in
    let run_at : slice_get p.runs place ≡ Some run = run_here p place c.as_slice.result.now run fits.1 c.as_slice.ensures c.index-as_slice-place.is in
    let lt : run.collection < length p.collections = its_collection graph p place run c.requires.fits run_at in
    let m_at : slice_get made run.collection ≡ Some m = matrix_here graph p n made c.requires.at.matrices run.collection m lt c.index-matrix.ensures in
    let collection = c.index-as_slice-run.result in
    let c_at : slice_get p.collections run.collection ≡ Some collection = found c.as_slice-2.result.now p.collections run.collection collection c.as_slice-2.ensures (omega (arith, lt, ap (λ (cs : List CollectionPlan). length cs) c.as_slice-2.ensures)) c.index-as_slice-run.is in
    shows_front graph p n run.collection collection made m c_at c.requires.at.matrices m_at

pub returns-in-Err-write_from-clause-err : goal.returns-in-Err-write_from-clause-err
returns-in-Err-write_from-clause-err g c =
    let graph = c.args.setting.graph.now in
    let p = c.args.setting.plan.now in
    let n = c.args.n in
    let place = c.args.place in
    let made = c.args.state.now.made.items in
    let run = c.index-as_slice-place.result in
    let m = c.index-matrix.result.now in
    let fits = step_fits graph p n (step.Run place) c.requires.fits c.requires.step in
    let run_at : slice_get p.runs place ≡ Some run = run_here p place c.as_slice.result.now run fits.1 c.as_slice.ensures c.index-as_slice-place.is in
    let lt : run.collection < length p.collections = its_collection graph p place run c.requires.fits run_at in
    let m_at : slice_get made run.collection ≡ Some m = matrix_here graph p n made c.requires.at.matrices run.collection m lt c.index-matrix.ensures in
    let collection = c.index-as_slice-run.result in
    let c_at : slice_get p.collections run.collection ≡ Some collection = found c.as_slice-2.result.now p.collections run.collection collection c.as_slice-2.ensures (omega (arith, lt, ap (λ (cs : List CollectionPlan). length cs) c.as_slice-2.ensures)) c.index-as_slice-run.is in
    subst (λ (t : List ℕ). GrewByFront (g.O.Sink.written c.args.out.now) (g.O.Sink.written c.write_from.new.out) t) (ran_text g.U.Updater.answer graph p n place run c.requires.step run_at made c.requires.at.matrices m m_at c.args.setting.form collection c_at) c.in-Err-write_from.ensures.err

pub keep-requires-clause-run : goal.keep-requires-clause-run
keep-requires-clause-run g c =
    let p = c.args.setting.plan.now in
    let fits = step_fits c.args.setting.graph.now p c.args.n (step.Run c.args.place) c.requires.fits c.requires.step in
    run_here p c.args.place c.as_slice.result.now c.index-as_slice-place.result fits.1 c.as_slice.ensures c.index-as_slice-place.is

pub keep-requires-clause-place : goal.keep-requires-clause-place
keep-requires-clause-place g c =
    let fits = step_fits c.args.setting.graph.now c.args.setting.plan.now c.args.n (step.Run c.args.place) c.requires.fits c.requires.step in
    fits.0

pub keep-requires-clause-unphased : goal.keep-requires-clause-unphased
keep-requires-clause-unphased g c =
    let graph = c.args.setting.graph.now in
    let p = c.args.setting.plan.now in
    let n = c.args.n in
    let place = c.args.place in
    let made = c.args.state.now.made.items in
    let run = c.index-as_slice-place.result in
    let m = c.index-matrix.result.now in
    let fits = step_fits graph p n (step.Run place) c.requires.fits c.requires.step in
    let run_at : slice_get p.runs place ≡ Some run = run_here p place c.as_slice.result.now run fits.1 c.as_slice.ensures c.index-as_slice-place.is in
    let lt : run.collection < length p.collections = its_collection graph p place run c.requires.fits run_at in
    let m_at : slice_get made run.collection ≡ Some m = matrix_here graph p n made c.requires.at.matrices run.collection m lt c.index-matrix.ensures in
    λ named. kept_unphased graph p place run c.requires.fits run_at named

pub keep-requires-clause-matrix : goal.keep-requires-clause-matrix
keep-requires-clause-matrix g c =
    let graph = c.args.setting.graph.now in
    let p = c.args.setting.plan.now in
    let n = c.args.n in
    let place = c.args.place in
    let made = c.args.state.now.made.items in
    let run = c.index-as_slice-place.result in
    let m = c.index-matrix.result.now in
    let fits = step_fits graph p n (step.Run place) c.requires.fits c.requires.step in
    let run_at : slice_get p.runs place ≡ Some run = run_here p place c.as_slice.result.now run fits.1 c.as_slice.ensures c.index-as_slice-place.is in
    let lt : run.collection < length p.collections = its_collection graph p place run c.requires.fits run_at in
    let m_at : slice_get made run.collection ≡ Some m = matrix_here graph p n made c.requires.at.matrices run.collection m lt c.index-matrix.ensures in
    omega (arith, c.requires.at.matrices.all, lt)

pub keep-requires-clause-has : goal.keep-requires-clause-has
keep-requires-clause-has g c =
    let graph = c.args.setting.graph.now in
    let p = c.args.setting.plan.now in
    let n = c.args.n in
    let place = c.args.place in
    let made = c.args.state.now.made.items in
    let run = c.index-as_slice-place.result in
    let m = c.index-matrix.result.now in
    let fits = step_fits graph p n (step.Run place) c.requires.fits c.requires.step in
    let run_at : slice_get p.runs place ≡ Some run = run_here p place c.as_slice.result.now run fits.1 c.as_slice.ensures c.index-as_slice-place.is in
    let lt : run.collection < length p.collections = its_collection graph p place run c.requires.fits run_at in
    let m_at : slice_get made run.collection ≡ Some m = matrix_here graph p n made c.requires.at.matrices run.collection m lt c.index-matrix.ensures in
    λ other other_at.
    let same : m ≡ other = (let e : Some m ≡ Some other = sym m_at ∙ other_at in cc) in
    subst (λ (x : MatrixData). HasRunIn g.U.Updater.answer graph run x c.in-Ok.engine) same c.in-Ok.ensures.has

pub keep-requires-clause-order : goal.keep-requires-clause-order
keep-requires-clause-order g c =
    let graph = c.args.setting.graph.now in
    let p = c.args.setting.plan.now in
    let n = c.args.n in
    let place = c.args.place in
    let made = c.args.state.now.made.items in
    let run = c.index-as_slice-place.result in
    let m = c.index-matrix.result.now in
    let fits = step_fits graph p n (step.Run place) c.requires.fits c.requires.step in
    let run_at : slice_get p.runs place ≡ Some run = run_here p place c.as_slice.result.now run fits.1 c.as_slice.ensures c.index-as_slice-place.is in
    let lt : run.collection < length p.collections = its_collection graph p place run c.requires.fits run_at in
    let m_at : slice_get made run.collection ≡ Some m = matrix_here graph p n made c.requires.at.matrices run.collection m lt c.index-matrix.ensures in
    c.in-Ok.ensures.order ∙ order_is g.U.Updater.answer graph p n place run c.requires.step run_at made c.requires.at.matrices m m_at

pub keep-requires-clause-count : goal.keep-requires-clause-count
keep-requires-clause-count g c =
    let graph = c.args.setting.graph.now in
    let p = c.args.setting.plan.now in
    let n = c.args.n in
    let place = c.args.place in
    let made = c.args.state.now.made.items in
    let run = c.index-as_slice-place.result in
    let m = c.index-matrix.result.now in
    let fits = step_fits graph p n (step.Run place) c.requires.fits c.requires.step in
    let run_at : slice_get p.runs place ≡ Some run = run_here p place c.as_slice.result.now run fits.1 c.as_slice.ensures c.index-as_slice-place.is in
    let lt : run.collection < length p.collections = its_collection graph p place run c.requires.fits run_at in
    let m_at : slice_get made run.collection ≡ Some m = matrix_here graph p n made c.requires.at.matrices run.collection m lt c.index-matrix.ensures in
    omega (arith, c.in-Ok.ensures.count, counted graph p n run.collection made m c.requires.at.matrices m_at)

pub returns-in-Ok-keep-clause-ok : goal.returns-in-Ok-keep-clause-ok
returns-in-Ok-keep-clause-ok g c =
    let graph = c.args.setting.graph.now in
    let p = c.args.setting.plan.now in
    let n = c.args.n in
    let place = c.args.place in
    let made = c.args.state.now.made.items in
    let run = c.index-as_slice-place.result in
    let m = c.index-matrix.result.now in
    let fits = step_fits graph p n (step.Run place) c.requires.fits c.requires.step in
    let run_at : slice_get p.runs place ≡ Some run = run_here p place c.as_slice.result.now run fits.1 c.as_slice.ensures c.index-as_slice-place.is in
    let lt : run.collection < length p.collections = its_collection graph p place run c.requires.fits run_at in
    let m_at : slice_get made run.collection ≡ Some m = matrix_here graph p n made c.requires.at.matrices run.collection m lt c.index-matrix.ensures in
    let collection = c.index-as_slice-run.result in
    let c_at : slice_get p.collections run.collection ≡ Some collection = found c.as_slice-2.result.now p.collections run.collection collection c.as_slice-2.ensures (omega (arith, lt, ap (λ (cs : List CollectionPlan). length cs) c.as_slice-2.ensures)) c.index-as_slice-run.is in
    c.in_default.ensures.ok ∙ ap (λ (t : List ℕ). appended (g.O.Sink.written c.args.out.now) t) (ran_text g.U.Updater.answer graph p n place run c.requires.step run_at made c.requires.at.matrices m m_at c.args.setting.form collection c_at)

pub returns-in-Ok-keep-clause-calls : goal.returns-in-Ok-keep-clause-calls
returns-in-Ok-keep-clause-calls g c =
    let graph = c.args.setting.graph.now in
    let p = c.args.setting.plan.now in
    let n = c.args.n in
    let place = c.args.place in
    let made = c.args.state.now.made.items in
    let run = c.index-as_slice-place.result in
    let m = c.index-matrix.result.now in
    let fits = step_fits graph p n (step.Run place) c.requires.fits c.requires.step in
    let run_at : slice_get p.runs place ≡ Some run = run_here p place c.as_slice.result.now run fits.1 c.as_slice.ensures c.index-as_slice-place.is in
    let lt : run.collection < length p.collections = its_collection graph p place run c.requires.fits run_at in
    let m_at : slice_get made run.collection ≡ Some m = matrix_here graph p n made c.requires.at.matrices run.collection m lt c.index-matrix.ensures in
    let order = c.in-Ok.ensures.order ∙ order_is g.U.Updater.answer graph p n place run c.requires.step run_at made c.requires.at.matrices m m_at in
    omega (arith, c.in-Ok.ensures.calls, ran_calls g.U.Updater.answer graph p n place run c.requires.step run_at made c.requires.at.matrices m m_at c.in-Ok.engine c.in-Ok.ensures.has order, run_step_work g.U.Updater.answer graph p n place run c.requires.step run_at)

-- the run was written, and finds no memory to be kept
pub returns-in-Err-keep-clause-err : goal.returns-in-Err-keep-clause-err
returns-in-Err-keep-clause-err g c =
    let graph = c.args.setting.graph.now in
    let p = c.args.setting.plan.now in
    let n = c.args.n in
    let place = c.args.place in
    let made = c.args.state.now.made.items in
    let run = c.index-as_slice-place.result in
    let m = c.index-matrix.result.now in
    let fits = step_fits graph p n (step.Run place) c.requires.fits c.requires.step in
    let run_at : slice_get p.runs place ≡ Some run = run_here p place c.as_slice.result.now run fits.1 c.as_slice.ensures c.index-as_slice-place.is in
    let lt : run.collection < length p.collections = its_collection graph p place run c.requires.fits run_at in
    let m_at : slice_get made run.collection ≡ Some m = matrix_here graph p n made c.requires.at.matrices run.collection m lt c.index-matrix.ensures in
    let collection = c.index-as_slice-run.result in
    let c_at : slice_get p.collections run.collection ≡ Some collection = found c.as_slice-2.result.now p.collections run.collection collection c.as_slice-2.ensures (omega (arith, lt, ap (λ (cs : List CollectionPlan). length cs) c.as_slice-2.ensures)) c.index-as_slice-run.is in
    whole_front (g.O.Sink.written c.args.out.now) (g.O.Sink.written c.write_from.new.out) _ (c.in_default.ensures.ok ∙ ap (λ (t : List ℕ). appended (g.O.Sink.written c.args.out.now) t) (ran_text g.U.Updater.answer graph p n place run c.requires.step run_at made c.requires.at.matrices m m_at c.args.setting.form collection c_at))
