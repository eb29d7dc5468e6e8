-- One more entry.
use Rattle.std.proofs.Common.{◌∙◌, ◌<◌, length, ap, arith}
use Rattle.weighted.specs.SumLaws.{filtered, filtered-append}
use Rattle.weighted.specs.WordLaws.{mapped, mapped-append}
use Rattle.diff_reduce.proofs.Walks.{walk_onto}
use Rattle.diff_reduce.proofs.reading.push_values.Goals as goal

pub loop-entry-preserved : goal.loop-entry-preserved
loop-entry-preserved g c =
    let low : c.loop-entry.entry-index < length c.args.entries.now = omega arith in
    walk_onto (λ es. mapped (λ r. r.0.1) (filtered (λ r. g.T.Time.leq r.1 c.args.t.now) es)) (λ xs ys. ap (mapped (λ r. r.0.1)) (filtered-append (λ r. g.T.Time.leq r.1 c.args.t.now) xs ys) ∙ mapped-append (λ r. r.0.1) (filtered (λ r. g.T.Time.leq r.1 c.args.t.now) xs) (filtered (λ r. g.T.Time.leq r.1 c.args.t.now) ys)) _ c.loop-entry.values _ c.args.entries.now c.loop-entry.entry-index c.entry-item.result low c.entry-item.is c.loop-entry.invariant c.in_ok-push_if_timely.ensures
