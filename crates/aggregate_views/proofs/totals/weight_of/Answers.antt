-- One word more.
use Rattle.std.proofs.Common.{◌+◌, ◌%◌, ◌^◌, ◌∙◌, ap}
use Rattle.std.specs.Prelude.{if◌then◌else◌}
use Rattle.std.specs.Ordering.{is_eq}
use Rattle.aggregate_views.proofs.Walks.{weight_taken}
use Rattle.aggregate_views.proofs.totals.weight_of.Goals as goal

pub loop-other-preserved : goal.loop-other-preserved
loop-other-preserved g c = weight_taken g.R.Ord.cmp c.args.words.now c.loop-other.other-index c.loop-other-item.result c.loop-other-item.result c.args.wanted c.loop-other.sum c.add-sum.result _ c.loop-other-test.true c.loop-other-item.is (c.add-sum.ensures ∙ ap (λ n. (c.loop-other.sum + n) % 2 ^ 64) (c.weight_if.ensures ∙ ap (λ b. if b then c.loop-other-item.result.1 else 0) (c.is_eq.ensures ∙ ap is_eq c.cmp.ensures))) c.loop-other.invariant
