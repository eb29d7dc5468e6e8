-- One step along both lists, for each order of their first records, and the end of the walk.
use Rattle.std.proofs.Common.{◌≡◌, ◌∙◌, ◌<◌, ◌++◌, length, drop, sym, arith}
use Rattle.std.specs.declared.cmp.Ordering.TheVariants.{Less, Equal, Greater}
use Rattle.std.proofs.lemmas.Grind.{common_steps}
use Rattle.weighted.proofs.Joining.{walk_left, walk_right, walk_both, walk_left_end, walk_right_end}
use Rattle.weighted.proofs.join.join.Goals as goal
use Rattle.weighted.proofs.join.join.Goals.{then-loop-i-test+else-j-right, else-loop-i-test}

pub loop-i-preserved-in-Less : goal.loop-i-preserved-in-Less
loop-i-preserved-in-Less g c =
    let in_left : c.loop-i.i < length c.args.left.now = omega arith in
    let in_right : c.loop-i.j < length c.args.right.now = omega arith in
    let order : g.R.Ord.cmp c.index-left-i.result.0 c.index-right-j.result.0 ≡ Less = sym c.cmp.ensures ∙ c.in-Less.is in
    record { in_left = omega arith; in_right = omega arith; walk = rw c.in_ok-push-in-Less.ensures.items (walk_left g.R.Ord.cmp g.met.R.Ord.total g.met.R.Record.same c.loop-i.entries.items c.args.left.now c.args.right.now _ c.loop-i.i c.loop-i.j c.index-left-i.result c.index-right-j.result in_left in_right c.index-left-i.is c.index-right-j.is order c.loop-i.invariant.walk) }

pub loop-i-preserved-in-Greater : goal.loop-i-preserved-in-Greater
loop-i-preserved-in-Greater g c =
    let in_left : c.loop-i.i < length c.args.left.now = omega arith in
    let in_right : c.loop-i.j < length c.args.right.now = omega arith in
    let order : g.R.Ord.cmp c.index-left-i.result.0 c.index-right-j.result.0 ≡ Greater = sym c.cmp.ensures ∙ c.in-Greater.is in
    record { in_left = omega arith; in_right = omega arith; walk = rw c.in_ok-push-in-Greater.ensures.items (walk_right g.R.Ord.cmp g.met.R.Ord.total g.met.R.Record.same c.loop-i.entries.items c.args.left.now c.args.right.now _ c.loop-i.i c.loop-i.j c.index-left-i.result c.index-right-j.result in_left in_right c.index-left-i.is c.index-right-j.is order c.loop-i.invariant.walk) }

pub loop-i-preserved : goal.loop-i-preserved
loop-i-preserved g c =
    let in_left : c.loop-i.i < length c.args.left.now = omega arith in
    let in_right : c.loop-i.j < length c.args.right.now = omega arith in
    let order : g.R.Ord.cmp c.index-left-i.result.0 c.index-right-j.result.0 ≡ Equal = sym c.cmp.ensures ∙ c.in-Equal.is in
    let step = walk_both g.R.Ord.cmp g.met.R.Ord.total g.met.R.Record.same c.loop-i.entries.items c.args.left.now c.args.right.now _ c.loop-i.i c.loop-i.j c.index-left-i.result c.index-right-j.result in_left in_right c.index-left-i.is c.index-right-j.is order c.loop-i.invariant.walk in
    record { in_left = omega arith; in_right = omega arith; walk = rw (c.in_ok-push_unless_zero-in-Equal.ensures, c.add.ensures) step }

pub returns : goal.returns
returns g c =
    let made : c.extend_from_slice-2.new.self.items ≡ (c.loop-i.entries.items ++ drop c.loop-i.i c.args.left.now) ++ drop c.loop-i.j c.args.right.now = grind (arith, common_steps) in
    made ∙ elim c.loop-i-test.branch [
      | then-loop-i-test+else-j-right w ↦ walk_left_end g.R.Ord.cmp g.met.R.Ord.total g.met.R.Record.same c.loop-i.entries.items c.args.left.now c.args.right.now _ c.loop-i.i c.loop-i.j (omega arith) c.loop-i.invariant.walk
      | else-loop-i-test w ↦ walk_right_end g.R.Ord.cmp g.met.R.Ord.total g.met.R.Record.same c.loop-i.entries.items c.args.left.now c.args.right.now _ c.loop-i.i c.loop-i.j (omega arith) c.loop-i.invariant.walk
    ]
