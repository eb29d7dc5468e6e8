-- The key's points, and the times of its entries.
use Rattle.std.proofs.Common.{◌∙◌, ◌++◌, map, ap, subst}
use Rattle.std.specs.Prelude.{filter}
use Rattle.std.specs.List.{Contains}
use Rattle.std.specs.Ordering.{is_eq}
use Rattle.diff_reduce.proofs.evaluate.read_marks.Goals as goal

pub returns-clause-marks : goal.returns-clause-marks
returns-clause-marks g c = c.in_ok-push_times.ensures ∙ ap (λ v. v ++ map (λ e. e.0.1) c.args.entries.now) (c.in_ok-push_seconds.ensures ∙ ap (λ v. v ++ map (λ p. p.1) (filter (λ p. is_eq (g.K.Ord.cmp p.0 c.args.key)) c.args.points.now)) c.clear.ensures)

pub returns-clause-last : goal.returns-clause-last
returns-clause-last g c = λ a e. subst (λ v. Contains v a) (c.as_slice.ensures ∙ c.in_ok-push_seconds.ensures ∙ ap (λ v. v ++ map (λ p. p.1) (filter (λ p. is_eq (g.K.Ord.cmp p.0 c.args.key)) c.args.points.now)) c.clear.ensures) (c.last_of-last.ensures a e)
