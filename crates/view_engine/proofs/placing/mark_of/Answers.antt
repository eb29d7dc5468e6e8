-- The segments, and the views of the last one.
use Rattle.std.proofs.Common.{◌-◌, ◌∙◌, sym, ap, length}
use Rattle.view_segment.specs.declared.segment.Segment.{Segment}
use Rattle.view_engine.proofs.Deciding.{some_there}
use Rattle.view_engine.proofs.Putting.{last_at}
use Rattle.view_engine.proofs.Refusing.{none_marked, one_marked}
use Rattle.view_engine.proofs.placing.mark_of.Goals as goal

pub returns-then-is_empty : goal.returns-then-is_empty
returns-then-is_empty c = none_marked c.args.segments.now (sym c.is_empty.ensures ∙ c.if-is_empty.true)

pub returns : goal.returns
returns c =
    let ss = c.args.segments.now in
    let s = c.index-segments-segments.result in
    one_marked ss (length ss - 1) s c.views.result.now (some_there (length ss) (sym c.is_empty.ensures ∙ c.if-is_empty.false)) c.views.ensures c.index-segments-segments.is
