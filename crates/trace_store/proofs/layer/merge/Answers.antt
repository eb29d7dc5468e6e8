-- One step along both layers, for each order of their first records, and the end of the walk.
use Rattle.std.proofs.Common.{◌≡◌, ◌∙◌, ◌<◌, ◌++◌, length, drop, get_or, ap, sym, arith}
use Rattle.std.specs.declared.cmp.Ordering.TheVariants.{Less, Equal, Greater}
use Rattle.weighted.proofs.Joining.{walk_left, walk_right, walk_both, walk_left_end, walk_right_end}
use Rattle.trace_store.proofs.Places.{read_at}
use Rattle.trace_store.proofs.layer.merge.Goals as goal
use Rattle.trace_store.proofs.layer.merge.Goals.{then-loop-i-test+else-j-len, else-loop-i-test}

pub loop-i-preserved-in-Less : goal.loop-i-preserved-in-Less
loop-i-preserved-in-Less g c =
    let in_left : c.loop-i.i < length c.args.left.now = omega arith in
    let in_right : c.loop-i.j < length c.args.right.now = omega arith in
    let order : g.R.Ord.cmp c.get-x.result.0 c.get-y.result.0 ≡ Less = sym c.cmp.ensures ∙ c.in-Less.is in
    let x = sym (read_at c.args.left.now c.loop-i.i c.get-x.result c.get-x.result c.get-x.ensures) in
    let y = sym (read_at c.args.right.now c.loop-i.j c.get-y.result c.get-y.result c.get-y.ensures) in
    record { in_left = omega arith; in_right = omega arith; room = omega arith; walk = rw c.push.ensures.items (walk_left g.R.Ord.cmp g.met.R.Ord.total g.met.R.Record.same c.loop-i.entries.items c.args.left.now c.args.right.now _ c.loop-i.i c.loop-i.j c.get-x.result c.get-y.result in_left in_right x y order c.loop-i.invariant.walk) }

pub loop-i-preserved-in-Greater : goal.loop-i-preserved-in-Greater
loop-i-preserved-in-Greater g c =
    let in_left : c.loop-i.i < length c.args.left.now = omega arith in
    let in_right : c.loop-i.j < length c.args.right.now = omega arith in
    let order : g.R.Ord.cmp c.get-x.result.0 c.get-y.result.0 ≡ Greater = sym c.cmp.ensures ∙ c.in-Greater.is in
    let x = sym (read_at c.args.left.now c.loop-i.i c.get-x.result c.get-x.result c.get-x.ensures) in
    let y = sym (read_at c.args.right.now c.loop-i.j c.get-y.result c.get-y.result c.get-y.ensures) in
    record { in_left = omega arith; in_right = omega arith; room = omega arith; walk = rw c.push-in-Greater.ensures.items (walk_right g.R.Ord.cmp g.met.R.Ord.total g.met.R.Record.same c.loop-i.entries.items c.args.left.now c.args.right.now _ c.loop-i.i c.loop-i.j c.get-x.result c.get-y.result in_left in_right x y order c.loop-i.invariant.walk) }

pub loop-i-preserved : goal.loop-i-preserved
loop-i-preserved g c =
    let in_left : c.loop-i.i < length c.args.left.now = omega arith in
    let in_right : c.loop-i.j < length c.args.right.now = omega arith in
    let order : g.R.Ord.cmp c.get-x.result.0 c.get-y.result.0 ≡ Equal = sym c.cmp.ensures ∙ c.in-Equal.is in
    let x = sym (read_at c.args.left.now c.loop-i.i c.get-x.result c.get-x.result c.get-x.ensures) in
    let y = sym (read_at c.args.right.now c.loop-i.j c.get-y.result c.get-y.result c.get-y.ensures) in
    let step = walk_both g.R.Ord.cmp g.met.R.Ord.total g.met.R.Record.same c.loop-i.entries.items c.args.left.now c.args.right.now _ c.loop-i.i c.loop-i.j c.get-x.result c.get-y.result in_left in_right x y order c.loop-i.invariant.walk in
    record { in_left = omega arith; in_right = omega arith; room = omega arith; walk = rw (c.push_unless_zero.ensures.items, c.add.ensures) step }

pub returns : goal.returns
returns g c =
    let made : c.push_rest-2.new.entries.items ≡ (c.loop-i.entries.items ++ drop c.loop-i.i c.args.left.now) ++ drop c.loop-i.j c.args.right.now = c.push_rest-2.ensures.items ∙ ap (λ v. v ++ drop c.loop-i.j c.args.right.now) c.push_rest.ensures.items in
    made ∙ elim c.loop-i-test.branch [
      | then-loop-i-test+else-j-len w ↦ walk_left_end g.R.Ord.cmp g.met.R.Ord.total g.met.R.Record.same c.loop-i.entries.items c.args.left.now c.args.right.now _ c.loop-i.i c.loop-i.j (omega arith) c.loop-i.invariant.walk
      | else-loop-i-test w ↦ walk_right_end g.R.Ord.cmp g.met.R.Ord.total g.met.R.Record.same c.loop-i.entries.items c.args.left.now c.args.right.now _ c.loop-i.i c.loop-i.j (omega arith) c.loop-i.invariant.walk
    ]
