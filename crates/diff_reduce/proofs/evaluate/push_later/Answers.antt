-- One more mark.
use Rattle.std.proofs.Common.{◌∙◌, ◌<◌, ◌++◌, ◌∷◌, [], if◌then◌else◌, Bool, length, ap, arith}
use Rattle.std.specs.Prelude.{◌&&◌, not}
use Rattle.std.specs.Ordering.{is_ne}
use Rattle.diff_reduce.specs.Later.{covered, later_of}
use Rattle.diff_reduce.proofs.LaterLaws.{later_of-append}
use Rattle.diff_reduce.proofs.Walks.{walk_onto}
use Rattle.diff_reduce.proofs.evaluate.push_later.Goals as goal

pub loop-mark-preserved : goal.loop-mark-preserved
loop-mark-preserved g c =
    let low : c.loop-mark.mark-index < length c.args.marks.now = omega arith in
    walk_onto (later_of g.T.Time.leq g.T.Time.lub g.T.Ord.cmp c.args.t c.args.last c.args.key) (later_of-append g.T.Time.leq g.T.Time.lub g.T.Ord.cmp c.args.t c.args.last c.args.key) _ c.loop-mark.later.items _ c.args.marks.now c.loop-mark.mark-index c.mark-item.result low c.mark-item.is c.loop-mark.invariant
    (c.in_ok-push_if.ensures
    ∙ ap (λ (b : Bool). c.loop-mark.later.items ++ (if b then (c.lub-bound.result, c.args.key) ∷ [] else [])) c.is_named.ensures
    ∙ ap (λ v. c.loop-mark.later.items ++ (if is_ne (g.T.Ord.cmp v c.args.t) && not (covered g.T.Time.leq g.T.Time.lub c.args.t c.args.last c.mark-item.result) then (v, c.args.key) ∷ [] else [])) c.lub-bound.ensures)
