-- The next view has its segment.
use Rattle.std.proofs.Common.{◌+◌, refl, sym, subst, All}
use Rattle.view_matrix.specs.Matrices.{IsView}
use Rattle.view_segment.specs.declared.segment.Segment.{Segment}
use Rattle.view_engine.proofs.Assigning.{views_within, engine_more, one_more, stands_by, next_of}
use Rattle.view_engine.specs.Assigning.{AreGrown, HasStayed}
use Rattle.view_engine.specs.Engines.{segments_in}
use Rattle.view_engine.proofs.Refusing.{on_err, grown_put}
use Rattle.view_engine.proofs.engine.Engine.assign.Goals as goal

pub decide-decision-requires-clause-views : goal.decide-decision-requires-clause-views
decide-decision-requires-clause-views c =
    subst (All (λ (s : Segment). All (IsView c.args.matrix.now) s.views)) (sym c.deref.ensures.value) (views_within c.args.matrix.now c.args.self.now c.requires.engine c.requires.views)

pub returns-clause-engine : goal.returns-clause-engine
returns-clause-engine c =
    let e = c.args.self.now in
    engine_more e c.put.new.segments c.decide-decision.result.anew c.decide-decision.result.later _ c.in_ok-put.ensures.ok
    (next_of c.as_slice.result.now e.order e.assigned (record { 0 = 0 }) c.as_slice.ensures c.requires.left) c.requires.engine c.requires.left c.decide-decision.ensures.later

pub returns-clause-one : goal.returns-clause-one
returns-clause-one c =
    let e = c.args.self.now in
    one_more e c.put.new.segments c.decide-decision.result.anew c.decide-decision.result.later _ c.in_ok-put.ensures.ok
    (next_of c.as_slice.result.now e.order e.assigned (record { 0 = 0 }) c.as_slice.ensures c.requires.left)

pub returns-clause-stands : goal.returns-clause-stands
returns-clause-stands c = λ answer ready so_far.
    let e = c.args.self.now in
    stands_by answer c.args.matrix.now e c.put.new.segments c.decide-decision.result _ c.deref.result.now c.deref.ensures.value c.in_ok-put.ensures.ok
    (next_of c.as_slice.result.now e.order e.assigned (record { 0 = 0 }) c.as_slice.ensures c.requires.left) c.decide-decision.ensures.decided ready so_far

pub returns-clause-grown : goal.returns-clause-grown
returns-clause-grown c =
    let e = c.args.self.now in
    record {
      assigned = e.assigned + 1;
      later = c.decide-decision.result.later;
      is = refl;
      grown = λ ss is. subst (AreGrown ss) (sym c.in_ok-put.ensures.ok) (grown_put _ c.decide-decision.result.anew ss (segments_in e) is);
    }

pub returns-in_err-put-clause-err : goal.returns-in_err-put-clause-err
returns-in_err-put-clause-err c =
    let stayed : HasStayed c.args.self.now (record c.args.self.now { segments = c.put.new.segments }) = record { same = refl; segments = c.in_err-put.ensures.err } in
    on_err c.from_residual.result stayed
