-- Before the round at which something may be due, the due time is above in the order of a dictionary.
use Rattle.std.proofs.Common.{◌∙◌, sym, arith}
use Rattle.diff_iterate.proofs.Dues.{above_inner, above_outer}
use Rattle.diff_iterate.proofs.busy.due_round.Goals as goal

pub returns-in-Less-clause-before : goal.returns-in-Less-clause-before
returns-in-Less-clause-before g c = λ k from low. absurd (omega arith)

pub returns-in-Equal-clause-before : goal.returns-in-Equal-clause-before
returns-in-Equal-clause-before g c = λ k from low. above_inner (g.T.Ord.cmp c.args.due.outer c.args.t) c.args.due.inner.0 k (sym c.cmp.ensures ∙ c.in-Equal.is) (omega arith)

pub returns-in-Greater-clause-before : goal.returns-in-Greater-clause-before
returns-in-Greater-clause-before g c = λ k from low. above_outer (g.T.Ord.cmp c.args.due.outer c.args.t) _ (sym c.cmp.ensures ∙ c.in-Greater.is)
