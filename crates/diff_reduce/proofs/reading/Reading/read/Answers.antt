-- The values of the key's entries are those of the key.
use Rattle.std.proofs.Common.{◌∙◌, ◌++◌, ap, sym}
use Rattle.weighted.specs.Normal.{normal}
use Rattle.weighted.specs.SumLaws.{filtered}
use Rattle.weighted.specs.WordLaws.{mapped}
use Rattle.diff_reduce.proofs.Outcomes.{OnOk-imply}
use Rattle.diff_reduce.proofs.reading.Reading.read.Goals as goal

pub returns-clause-values : goal.returns-clause-values
returns-clause-values g c = OnOk-imply c.normalize.result _ _ (λ is. is ∙ ap (normal g.V.Ord.cmp) (c.in_ok-push_values.ensures ∙ ap (λ v. v ++ mapped (λ r. r.0.1) (filtered (λ r. g.T.Time.leq r.1 c.args.t) c.as_slice.result.now)) c.clear.ensures ∙ ap (λ v. mapped (λ r. r.0.1) (filtered (λ r. g.T.Time.leq r.1 c.args.t) v)) c.as_slice.ensures ∙ sym (c.in_ok-seek_entries.ensures.values c.args.t))) c.normalize.ensures.value

pub returns-clause-only : goal.returns-clause-only
returns-clause-only g c = OnOk-imply c.normalize.result _ _ (λ _. c.in_ok-seek_entries.ensures.only) c.normalize.ensures.batch

pub returns-clause-each : goal.returns-clause-each
returns-clause-each g c = OnOk-imply c.normalize.result _ _ (λ _. c.in_ok-seek_entries.ensures.each) c.normalize.ensures.batch
