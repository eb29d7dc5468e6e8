-- Segments are what they were where not all views got theirs.
use Rattle.std.proofs.Common.{ap, arith, length, subst, List}
use Rattle.view_segment.specs.declared.segment.Segment.{Segment}
use Rattle.view_engine.specs.Assigning.{IsMark}
use Rattle.view_engine.specs.Engines.{segments_in}
use Rattle.view_engine.proofs.Refusing.{grown_same, grown_size, stayed_by_cut}
use Rattle.view_engine.proofs.engine.Engine.assign_all.Goals as goal

pub cut-requires : goal.cut-requires
cut-requires c =
    let ss = segments_in c.args.self.now in
    let ts = segments_in c.assign_rest.new.self in
    omega (arith, c.mark_of-before.ensures.segments, ap length c.deref.ensures.value, grown_size ss ts (c.in-Err.ensures.err.grown ss (grown_same ss)))

pub returns-in-Err-clause-err : goal.returns-in-Err-clause-err
returns-in-Err-clause-err c =
    let e = c.args.self.now in
    let grown = c.in-Err.ensures.err in
    stayed_by_cut e c.assign_rest.new.self c.cut.new.segments grown
    (c.cut.ensures (segments_in e) (subst (λ (ss : List Segment). IsMark ss c.mark_of-before.result) c.deref.ensures.value c.mark_of-before.ensures) (grown.grown (segments_in e) (grown_same (segments_in e))))
