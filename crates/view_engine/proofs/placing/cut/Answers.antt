-- What was put is taken off.
use Rattle.std.proofs.Common.{◌∙◌, ap, take, arith}
use Rattle.view_segment.specs.declared.segment.Segment.{Segment}
use Rattle.view_engine.proofs.Refusing.{cut_by}
use Rattle.view_engine.proofs.placing.cut.Goals as goal

pub returns-then-mark-gt0 : goal.returns-then-mark-gt0
returns-then-mark-gt0 c = λ before is grown.
    cut_by before c.args.segments.now.items c.truncate.new.self.items c.args.mark.segments c.args.mark.views c.keep_first.new.self c.index_mut.result.now grown is.segments is.views (omega (arith, c.if-mark-gt0.true)) c.truncate.ensures.items
    (c.keep_first.ensures ∙ ap (λ (s : Segment). let t : Segment = record s { views = take c.args.mark.views s.views } in t) c.index_mut.ensures.value)
