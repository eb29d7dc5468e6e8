use Rattle.std.proofs.Common.{sym, arith}
use Rattle.graph_meanings.proofs.WeightFacts.{none-refused, heavy-refused, one-present, one-counted, all-weighed}
use Rattle.graph_meanings.proofs.weights.has_weights.Goals as goal

pub returns-in_default : goal.returns-in_default
returns-in_default c = none-refused c.args.graph.now c.args.column c.args.arcs.now c.loop-arc.arc-index _ c.loop-arc-test.true (sym c.in_default.ensures)

pub returns-then-weight-total : goal.returns-then-weight-total
returns-then-weight-total c =
    let kept = c.loop-arc.invariant in
    heavy-refused c.args.graph.now c.args.column c.args.arcs.now c.loop-arc.arc-index _ c.in-Some.weight c.loop-arc.total c.loop-arc-test.true (sym c.in-Some.ensures) kept.counted kept.small c.if-weight-total.true

pub loop-arc-preserved : goal.loop-arc-preserved
loop-arc-preserved c =
    let kept = c.loop-arc.invariant in
    record {
      present = one-present c.args.graph.now c.args.column c.args.arcs.now c.loop-arc.arc-index _ c.in-Some.weight c.loop-arc-test.true (sym c.in-Some.ensures) kept.present;
      counted = one-counted c.args.graph.now c.args.column c.args.arcs.now c.loop-arc.arc-index _ c.in-Some.weight c.loop-arc.total c.loop-arc-test.true (sym c.in-Some.ensures) kept.counted;
      small = omega (arith, c.if-weight-total.false, kept.small);
    }

pub returns : goal.returns
returns c =
    let kept = c.loop-arc.invariant in
    all-weighed c.args.graph.now c.args.column c.args.arcs.now c.loop-arc.arc-index c.loop-arc.total c.loop-arc-test.false kept.present kept.counted kept.small
