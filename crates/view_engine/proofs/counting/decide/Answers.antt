-- What the last segment tells.
use Rattle.std.proofs.Common.{sym, ap, ◌∙◌, ◌-◌, length}
use Rattle.view_order.specs.Greedy.{numbers}
use Rattle.view_segment.specs.declared.segment.Segment.{Segment}
use Rattle.view_engine.proofs.Deciding.{decided_all, knows_one, some_there}
use Rattle.view_engine.proofs.Putting.{last_at}
use Rattle.view_engine.proofs.counting.decide.Goals as goal

pub returns-clause-decided : goal.returns-clause-decided
returns-clause-decided c = λ task same knows.
    let ss = c.args.segments.now in
    let s = c.index-segments-segments.result in
    let last = last_at ss (length ss - 1) s (some_there (length ss) (sym c.is_empty.ensures ∙ c.if-is_empty.false)) in
    let views = last.0 ∙ ap (λ (t : Segment). numbers t.views) (sym c.index-segments-segments.is) in
    let works = last.1 ∙ ap (λ (t : Segment). t.works) (sym c.index-segments-segments.is) in
    decided_all task ss s views works c.args.split c.args.view c.decide_behind.result
    (c.decide_behind.ensures.decided task same (knows_one task ss s views works c.args.split c.args.later knows))
