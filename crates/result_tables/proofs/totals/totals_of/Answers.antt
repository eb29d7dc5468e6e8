-- One more value.
use Rattle.std.proofs.Common.{◌∙◌, ◌+◌, ℕ, ℤ, ◌+ℤ◌, get_or, sym, ap}
use Rattle.std.proofs.lemmas.List.Sums.{sum_by_more}
use Rattle.graph_model.specs.declared.value.Val.{Val}
use Rattle.graph_model.specs.declared.value.Val.TheVariants.{Nil}
use Rattle.result_tables.specs.TableText.{count_one, number_of}
use Rattle.result_tables.proofs.Summing.{sum_more, one_low, one_high, one_few}
use Rattle.result_tables.proofs.totals.totals_of.Goals as goal

pub loop-value-preserved : goal.loop-value-preserved
loop-value-preserved c =
    let values = c.args.values.now in
    let i = c.loop-value.value-index in
    let v : Val = get_or values i Nil in
    let step = c.with_value-totals.ensures in
    let so_far = c.loop-value.invariant in
    record {
      count = step.count ∙ ap (λ (n : ℕ). n + count_one v) so_far.count ∙ sym (sum_by_more count_one values i Nil c.loop-value-test.true);
      few = one_few c.loop-value.totals.count c.with_value-totals.result.count i v step.count so_far.few;
      sum = step.sum ∙ ap (λ (z : ℤ). z +ℤ number_of v) so_far.sum ∙ sym (sum_more values i Nil c.loop-value-test.true);
      low = one_low c.loop-value.totals.sum c.with_value-totals.result.sum (number_of v) i step.sum step.least so_far.low;
      high = one_high c.loop-value.totals.sum c.with_value-totals.result.sum (number_of v) i step.sum step.greatest so_far.high;
    }
