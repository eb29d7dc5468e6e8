-- The view stands in the same segment.
use Rattle.std.proofs.Common.{sym, ap, ◌∙◌, ◌+◌, ℕ}
use Rattle.view_engine.proofs.Deciding.{decided_same}
use Rattle.view_engine.proofs.counting.decide_behind.Goals as goal

pub returns-else-starts_new-clause-decided : goal.returns-else-starts_new-clause-decided
returns-else-starts_new-clause-decided c = λ task same knows.
    decided_same task c.args.segment.now c.args.view c.args.later c.args.split (c.args.later + c.counts_for-counts.result.next_difference) c.requires.sound.filled knows
    (λ auto. ap (λ (n : ℕ). c.args.later + n) (c.counts_for-counts.ensures.difference task same knows auto))
    (sym c.if-starts_new.false ∙ c.starts_new.ensures ∙ c.counts_for-counts.ensures.rule task same knows)
