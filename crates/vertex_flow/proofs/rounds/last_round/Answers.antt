-- The last entry has the last round.
use Rattle.std.proofs.Common.{refl, sym}
use Rattle.vertex_flow.proofs.Lasts.{last-round, less_then}
use Rattle.vertex_flow.proofs.rounds.last_round.Goals as goal

pub returns-in-Some : goal.returns-in-Some
returns-in-Some c = last-round _ (λ x y h. less_then x.0.0 y.0.0 _ _ refl h) c.args.made.now c.in-Some.field-0.now c.as_slice.ensures.batch.rising (sym (rw c.as_slice.ensures.value at c.in-Some.ensures.value))
