use Rattle.std.proofs.Common.{◌≡◌, ◌∙◌, ℕ, length, ap, arith}
use Rattle.std.specs.List.{count_by, range_with_len}
use Rattle.view_order.specs.Greedy.{numbers}
use Rattle.view_versions.specs.Slow.{new_task, old_task}
use Rattle.view_versions.specs.Touched.{is_touched_in, touched}
use Rattle.view_versions.proofs.Same.{at-most-one, count-next}
use Rattle.view_versions.proofs.slow.count_touched.Goals as goal

pub loop-node-preserved : goal.loop-node-preserved
loop-node-preserved g c =
    let v = c.args.versions in
    let answer = g.U.Updater.answer in
    record {
      counted = count-next (is_touched_in (old_task answer v) (new_task answer v) (numbers c.args.views.now)) c.loop-node.node c.loop-node.count c.one_if-count.result c.in_ok-touched.touched c.loop-node.invariant.counted c.in_ok-touched.ensures c.one_if-count.ensures;
      few = omega (arith, c.loop-node.invariant.few, at-most-one c.in_ok-touched.touched c.one_if-count.result c.one_if-count.ensures);
    }

pub returns : goal.returns
unfolding touched
returns g c =
    let v = c.args.versions in
    let answer = g.U.Updater.answer in
    let all : c.loop-node.node ≡ length v.graph.now.ids = omega arith in
    c.loop-node.invariant.counted ∙ ap (λ (n : ℕ). count_by (is_touched_in (old_task answer v) (new_task answer v) (numbers c.args.views.now)) (range_with_len 0 n)) all
