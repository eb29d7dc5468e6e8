-- The view is stepped, and the next one has its segment.
use Rattle.std.proofs.Common.{sym, ap, ◌∙◌, subst, All, List, length, set, slice_get, arith}
use Rattle.std.specs.Vec.{with_item}
use Rattle.view_matrix.specs.Matrices.{IsView}
use Rattle.view_segment.specs.declared.segment.Segment.{Segment}
use Rattle.view_engine.specs.Engines.{segments_in}
use Rattle.view_engine.proofs.Moving.{at_of, moved_then, stands_then}
use Rattle.view_engine.proofs.Refusing.{before_back}
use Rattle.view_engine.proofs.engine.Engine.move_on.Goals as goal

pub fill-requires : goal.fill-requires
fill-requires g c = record {
  engine = c.in_ok-kept.ensures.engine;
  views = subst (All (IsView c.args.matrix.now)) (sym c.in_ok-kept.ensures.moved.moved.order) c.requires.stands.views;
}

pub returns-in-Ok : goal.returns-in-Ok
returns-in-Ok g c =
    let a = c.args.self.now in
    let b = c.step.new.self in
    let n = c.fill.new.self in
    let stepped = c.in_ok-kept.ensures.moved in
    let more = c.in-Ok.ensures.more in
    record {
      engine = c.in-Ok.ensures.engine;
      fresh = more.spent ∙ stepped.spent;
      moved = moved_then c.args.segment a b n (g.U.Counted.calls c.args.updater.now) (g.U.Counted.calls c.step.new.updater) stepped more;
      stands =
          stands_then g.U.Updater.answer c.args.matrix.now c.args.segment a b n (g.U.Counted.calls c.args.updater.now) (g.U.Counted.calls c.step.new.updater)
          c.requires.engine c.requires.stands stepped c.in-Ok.ensures.engine more (λ ready. c.in-Ok.ensures.stands g.U.Updater.answer ready c.in_ok-kept.ensures.stands);
      err = tt;
    }

pub take_back-requires : goal.take_back-requires
take_back-requires g c =
    let n = c.fill.new.self in
    let k = c.args.segment in
    let back = c.in_ok-kept.ensures.back in
    let same = c.in-Err.ensures.err.segments in
    let u = c.index_mut.result.now in
    let at = at_of (segments_in n) k u (omega (arith, c.requires.segment, back.size, ap length same)) c.index_mut.ensures.value in
    back.some u (sym (ap (λ (ss : List Segment). slice_get ss k) same) ∙ at)

pub returns-in-Err-clause-err : goal.returns-in-Err-clause-err
returns-in-Err-clause-err g c =
    let n = c.fill.new.self in
    let k = c.args.segment in
    let back = c.in_ok-kept.ensures.back in
    let stayed = c.in-Err.ensures.err in
    let u = c.index_mut.result.now in
    let at = at_of (segments_in n) k u (omega (arith, c.requires.segment, back.size, ap length stayed.segments)) c.index_mut.ensures.value in
    before_back c.args.self.now c.step.new.self n (with_item n.segments k c.take_back.new.self) k c.in_ok-kept.kept u back stayed at (ap (λ (x : Segment). set (segments_in n) k x) c.take_back.ensures)
