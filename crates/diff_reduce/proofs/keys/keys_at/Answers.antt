-- The keys that were pushed, each once.
use Rattle.std.proofs.Common.{◌≡◌, ◌∙◌, ◌++◌, map, ap, sym, subst}
use Rattle.std.specs.Prelude.{filter}
use Rattle.std.specs.List.{Contains}
use Rattle.std.specs.Ordering.{is_eq}
use Rattle.diff_reduce.proofs.keys.keys_at.Goals as goal

pub returns-clause-each : goal.returns-clause-each
returns-clause-each g c = λ k h.
    let all : c.into_vec-keys.result.items ≡ map (λ e. e.0.0) c.args.delta.now ++ map (λ d. d.1) (filter (λ d. is_eq (g.T.Ord.cmp d.0 c.args.t.now)) c.args.due.now) = c.into_vec-keys.ensures ∙ c.in_ok-push_seconds.ensures ∙ ap (λ v. v ++ map (λ d. d.1) (filter (λ d. is_eq (g.T.Ord.cmp d.0 c.args.t.now)) c.args.due.now)) (c.in_ok-push_fed.ensures ∙ ap (λ v. v ++ map (λ e. e.0.0) c.args.delta.now) c.new-named.ensures) in
    c.make_set.ensures.each k (subst (λ v. Contains v k) (sym all) h)

pub returns-clause-only : goal.returns-clause-only
returns-clause-only g c = λ k h.
    let all : c.into_vec-keys.result.items ≡ map (λ e. e.0.0) c.args.delta.now ++ map (λ d. d.1) (filter (λ d. is_eq (g.T.Ord.cmp d.0 c.args.t.now)) c.args.due.now) = c.into_vec-keys.ensures ∙ c.in_ok-push_seconds.ensures ∙ ap (λ v. v ++ map (λ d. d.1) (filter (λ d. is_eq (g.T.Ord.cmp d.0 c.args.t.now)) c.args.due.now)) (c.in_ok-push_fed.ensures ∙ ap (λ v. v ++ map (λ e. e.0.0) c.args.delta.now) c.new-named.ensures) in
    subst (λ v. Contains v k) all (c.make_set.ensures.only k h)
