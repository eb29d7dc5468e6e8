-- One more record.
use Rattle.std.proofs.Common.{◌∙◌, ◌<◌, ◌++◌, ◌∷◌, [], length, map, ap, sym, arith}
use Rattle.flow_core.specs.Expanded.{expanded, expanded-append, expanded-one}
use Rattle.flow_core.proofs.Walks.{walk_onto}
use Rattle.flow_core.proofs.flat_map.push_expanded.Goals as goal

pub loop-record-preserved : goal.loop-record-preserved
loop-record-preserved g c =
    let low : c.loop-record.record-index < length c.as_slice-record-items.result.now = omega arith in
    let gives = g.E.Expand.gives c.args.expand.now in
    c.in_ok-push_given.ensures
    ∙ ap (λ v. c.loop-record.entries.items ++ map (λ b. (b, c.loop-record-item.result.1)) v) (c.as_slice.ensures ∙ c.in_ok-expand.ensures)
    ∙ ap (λ v. c.loop-record.entries.items ++ v) (sym (expanded-one gives c.loop-record-item.result))
    ∙ walk_onto (expanded gives) (expanded-append gives) _ c.loop-record.entries.items c.as_slice-record-items.result.now c.loop-record.record-index c.loop-record-item.result low c.loop-record-item.is c.loop-record.invariant
