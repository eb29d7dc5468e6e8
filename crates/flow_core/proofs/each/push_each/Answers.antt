-- One more record.
use Rattle.std.proofs.Common.{◌∙◌, ◌<◌, ◌++◌, ◌∷◌, [], length, ap, arith}
use Rattle.weighted.specs.WordLaws.{mapped, mapped-append}
use Rattle.flow_core.proofs.Walks.{walk_onto}
use Rattle.flow_core.proofs.each.push_each.Goals as goal

pub loop-record-preserved : goal.loop-record-preserved
loop-record-preserved g c =
    let low : c.loop-record.record-index < length c.as_slice-record-items.result.now = omega arith in
    c.in_ok-push.ensures.items
    ∙ ap (λ v. c.loop-record.entries.items ++ (v, c.loop-record-item.result.1) ∷ []) c.apply.ensures
    ∙ walk_onto (mapped (g.E.Each.gives c.args.each.now)) (mapped-append (g.E.Each.gives c.args.each.now)) _ c.loop-record.entries.items c.as_slice-record-items.result.now c.loop-record.record-index c.loop-record-item.result low c.loop-record-item.is c.loop-record.invariant
