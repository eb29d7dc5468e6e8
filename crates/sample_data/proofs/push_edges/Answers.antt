use Rattle.std.proofs.Common.{◌≡◌, ◌∙◌, ◌<◌, ◌++◌, ◌-◌, ℕ, ap, sym, arith}
use Rattle.sample_data.specs.Sample.{edges_drawn}
use Rattle.sample_data.proofs.Unrolled.{edges_moved, edges_left}
use Rattle.sample_data.proofs.push_edges.Goals as goal

pub loop-left-preserved : goal.loop-left-preserved
loop-left-preserved c =
    let some : 0 < c.loop-left.left = omega (arith, c.loop-left-test.true) in
    let rest = edges_moved c.loop-left.text.items c.push_edge.new.text.items (c.args.text.now.items ++ edges_drawn 10_000 c.args.draws.state) c.loop-left.draws.state c.loop-left.left some c.in_ok-push_edge.ensures.text c.loop-left.invariant.pushed in
    record {
      pushed = ap (λ (x : ℕ). c.push_edge.new.text.items ++ edges_drawn (c.loop-left.left - 1) x) c.push_edge.ensures.state ∙ rest;
    }

pub returns : goal.returns
returns c =
    let none : c.loop-left.left ≡ 0 = omega (arith, c.loop-left-test.false) in
    edges_left c.loop-left.text.items (c.args.text.now.items ++ edges_drawn 10_000 c.args.draws.state) c.loop-left.draws.state
    (ap (λ (n : ℕ). c.loop-left.text.items ++ edges_drawn n c.loop-left.draws.state) (sym none) ∙ c.loop-left.invariant.pushed)
