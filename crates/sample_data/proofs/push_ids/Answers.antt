use Rattle.std.proofs.Common.{◌≡◌, ◌∙◌, ◌<◌, ◌+◌, ◌++◌, ◌-◌, ℕ, ap, sym, arith}
use Rattle.sample_data.specs.Sample.{ids_from}
use Rattle.sample_data.proofs.Unrolled.{ids_moved, ids_left}
use Rattle.sample_data.proofs.push_ids.Goals as goal

pub loop-left-preserved : goal.loop-left-preserved
loop-left-preserved c =
    let some : 0 < c.loop-left.left = omega (arith, c.loop-left-test.true) in
    let few = c.loop-left.invariant.few in
    let same : 2_001 - c.loop-left.left ≡ 2_000 + 1 - c.loop-left.left = omega arith in
    let next : (2_001 - c.loop-left.left) + 1 ≡ 2_001 - (c.loop-left.left - 1) = omega (arith, some, few) in
    let rest = ids_moved c.loop-left.text.items c.push_field.new.text.items (c.args.text.now.items ++ ids_from 1 2_000) (2_001 - c.loop-left.left) c.loop-left.left some c.in_ok-push_field.ensures c.loop-left.invariant.pushed in
    record {
      few = omega (arith, few);
      pushed = ap (λ (x : ℕ). c.push_field.new.text.items ++ ids_from x (c.loop-left.left - 1)) (sym next) ∙ rest;
    }

pub returns : goal.returns
returns c =
    let none : c.loop-left.left ≡ 0 = omega (arith, c.loop-left-test.false) in
    ids_left c.loop-left.text.items (c.args.text.now.items ++ ids_from 1 2_000) (2_001 - c.loop-left.left)
    (ap (λ (n : ℕ). c.loop-left.text.items ++ ids_from (2_001 - c.loop-left.left) n) (sym none) ∙ c.loop-left.invariant.pushed)
