-- The view is stepped, and its answer kept.
use Rattle.std.proofs.Common.{◌≢◌, ◌≤◌, refl, sym, ap, ◌∙◌, subst, All, length, length-set, set, arith, Some}
use Rattle.std.specs.Vec.{with_item}
use Rattle.view_matrix.specs.Matrices.{IsView}
use Rattle.arc_rows.specs.declared.rows.Rows.{Rows}
use Rattle.arc_rows.specs.RowLists.{AreOfAll}
use Rattle.view_segment.specs.declared.segment.Segment.{Segment}
use Rattle.view_segment.specs.Segments.{last_stepped, taken_back}
use Rattle.view_segment.specs.Tasks.{work_of}
use Rattle.view_engine.specs.Engines.{IsKernelOf, IsSound, segments_in, task_of}
use Rattle.view_engine.proofs.Assigning.{views_within}
use Rattle.view_engine.proofs.Moving.{at_of, is_new, is_before, is_change, engine_now, has_stepped, so_far_now}
use Rattle.view_engine.proofs.Putting.{all_at}
use Rattle.view_engine.proofs.Refusing.{on_err, leads_back, still_before, taken_before, no_kernel, set_same, set_back}
use Rattle.view_engine.proofs.engine.Engine.step.Goals as goal

pub step-requires-clause-plan : goal.step-requires-clause-plan
step-requires-clause-plan g c = record {
  checked = c.requires.engine.checked;
  kernel = c.in_ok-kernel.ensures.ready.0;
  some = c.requires.engine.some;
  limit = c.requires.engine.limit;
}

pub step-requires-clause-views : goal.step-requires-clause-views
step-requires-clause-views g c =
    let e = c.args.self.now in
    let s = c.index_mut.result.now in
    all_at (λ (s : Segment). All (IsView c.args.matrix.now) s.views) (segments_in e) (views_within c.args.matrix.now e c.requires.engine c.requires.stands.views)
    c.args.segment s (at_of (segments_in e) c.args.segment s c.requires.segment c.index_mut.ensures.value)

pub step-requires-clause-unfinished : goal.step-requires-clause-unfinished
step-requires-clause-unfinished g c =
    let e = c.args.self.now in
    let s = c.index_mut.result.now in
    let at = at_of (segments_in e) c.args.segment s c.requires.segment c.index_mut.ensures.value in
    let few : length s.works ≤ length s.views = (all_at IsSound (segments_in e) c.requires.engine.sound c.args.segment s at).few in
    let other : length s.works ≢ length s.views = c.requires.unfinished s at in
    omega (arith, few, other)

pub hold-requires : goal.hold-requires
hold-requires g c =
    let e = c.args.self.now in
    let s = c.index_mut.result.now in
    let m = c.args.matrix.now in
    let given = c.in_ok-given.given in
    let is = c.in_ok-given.ensures.given in
    let at = at_of (segments_in e) c.args.segment s c.requires.segment c.index_mut.ensures.value in
    record {
      new = is_new g.U.Updater.answer m e c.requires.fresh c.requires.engine c.requires.stands c.args.segment s at given is;
      before = is_before g.U.Updater.answer m e c.requires.fresh c.requires.engine c.requires.stands c.args.segment s at given is;
      change = is_change g.U.Updater.answer m e c.requires.fresh c.requires.engine c.requires.stands c.args.segment s at given is;
    }

pub returns-in-Ok : goal.returns-in-Ok
returns-in-Ok g c =
    let e = c.args.self.now in
    let s = c.index_mut.result.now in
    let t = c.step.new.self in
    let m = c.args.matrix.now in
    let k = c.args.segment in
    let given = c.in_ok-given.given in
    let is = c.in_ok-given.ensures.given in
    let fresh = c.requires.fresh in
    let engine = c.requires.engine in
    let stands = c.requires.stands in
    let at = at_of (segments_in e) k s c.requires.segment c.index_mut.ensures.value in
    let kept = c.in-Ok.ensures.ok in
    let work = work_of (task_of g.U.Updater.answer m e) (last_stepped s) given.view.0 in
    let segments = with_item e.segments k t in
    let kernel = Some c.step.new.kernel in
    let ready : IsKernelOf e.graph.now e.program.now.along (Some c.step.new.kernel) = (c.in_ok-given.ensures.kernel, subst (λ (rows : Rows). AreOfAll e.program.now.along e.graph.now rows) (sym c.step.ensures.rows) c.in_ok-kernel.ensures.ready.1) in
    record {
      engine = engine_now g.U.Updater.answer m e fresh engine stands k s at given is t work c.in_ok-given.ensures.views c.in_ok-given.ensures.work c.in_ok-given.ensures.stands segments kernel c.hold.new.results refl kept refl ready;
      moved = has_stepped g.U.Updater.answer m e fresh engine stands k s at given is t work c.in_ok-given.ensures.views c.in_ok-given.ensures.work c.in_ok-given.ensures.stands segments kernel c.hold.new.results refl kept
          (g.U.Counted.calls c.args.updater.now) (g.U.Counted.calls c.step.new.updater) c.in_ok-given.ensures.calls;
      stands = so_far_now g.U.Updater.answer m e fresh engine stands k s at given is t work c.in_ok-given.ensures.views c.in_ok-given.ensures.work c.in_ok-given.ensures.stands segments kernel c.hold.new.results refl kept (λ on last. c.in_ok-given.ensures.history (c.goes_on-grows.ensures.goes_on on last));
      back = leads_back e k s t given.kept work at c.in_ok-given.ensures.views c.in_ok-given.ensures.work is.kept segments kernel ready refl given c.hold.new.results kept;
      err = tt;
    }

pub returns-in_err-kernel-clause-err : goal.returns-in_err-kernel-clause-err
returns-in_err-kernel-clause-err g c =
    let e = c.args.self.now in
    on_err c.from_residual.result (still_before e e.segments c.take_kernel.new.kernel refl (no_kernel e c.take_kernel.new.kernel c.take_kernel.ensures.taken))

pub returns-in_err-given-clause-err : goal.returns-in_err-given-clause-err
returns-in_err-given-clause-err g c =
    let e = c.args.self.now in
    let s = c.index_mut.result.now in
    let k = c.args.segment in
    let at = at_of (segments_in e) k s c.requires.segment c.index_mut.ensures.value in
    on_err c.from_residual-in_err-given.result
    (still_before e (with_item e.segments k c.step.new.self) c.take_kernel.new.kernel
    (ap (λ (t : Segment). set (segments_in e) k t) c.in_err-given.ensures.err ∙ set_same (segments_in e) k s at) (no_kernel e c.take_kernel.new.kernel c.take_kernel.ensures.taken))

pub take_back-requires : goal.take_back-requires
take_back-requires g c =
    let e = c.args.self.now in
    let s = c.index_mut.result.now in
    let t = c.step.new.self in
    let u = c.index_mut-in-Err.result.now in
    let k = c.args.segment in
    let given = c.in_ok-given.given in
    let at = at_of (segments_in e) k s c.requires.segment c.index_mut.ensures.value in
    let now = at_of (set (segments_in e) k t) k u (omega (arith, c.requires.segment, length-set (segments_in e) k t)) c.index_mut-in-Err.ensures.value in
    (set_back s t given.kept (work_of (task_of g.U.Updater.answer c.args.matrix.now e) (last_stepped s) given.view.0) c.in_ok-given.ensures.views c.in_ok-given.ensures.work c.in_ok-given.ensures.given.kept (segments_in e) k u at now).0

pub returns-clause-err : goal.returns-clause-err
returns-clause-err g c =
    let e = c.args.self.now in
    let s = c.index_mut.result.now in
    let t = c.step.new.self in
    let u = c.index_mut-in-Err.result.now in
    let k = c.args.segment in
    let given = c.in_ok-given.given in
    let at = at_of (segments_in e) k s c.requires.segment c.index_mut.ensures.value in
    let now = at_of (set (segments_in e) k t) k u (omega (arith, c.requires.segment, length-set (segments_in e) k t)) c.index_mut-in-Err.ensures.value in
    let ready : IsKernelOf e.graph.now e.program.now.along (Some c.step.new.kernel) = (c.in_ok-given.ensures.kernel, subst (λ (rows : Rows). AreOfAll e.program.now.along e.graph.now rows) (sym c.step.ensures.rows) c.in_ok-kernel.ensures.ready.1) in
    taken_before e k s t given.kept (work_of (task_of g.U.Updater.answer c.args.matrix.now e) (last_stepped s) given.view.0) at c.in_ok-given.ensures.views c.in_ok-given.ensures.work c.in_ok-given.ensures.given.kept
    (with_item (with_item e.segments k t) k c.take_back.new.self) (Some c.step.new.kernel) ready u now (ap (λ (x : Segment). set (set (segments_in e) k t) k x) {y = taken_back u given.kept} c.take_back.ensures) c.hold.new.results c.in-Err.ensures.err
