-- What the part and the reduce stand for.
use Rattle.std.proofs.Common.{◌≡◌, ◌+◌, ℕ, ap, arith, sym}
use Rattle.keyed_loop.proofs.Told.{body_told}
use Rattle.inner_theory.specs.InsideLaws.{body-inside}
use Rattle.keyed_loop.proofs.inside.body_inside.Goals as goal

none_more : (n m : ℕ) → n ≡ m → 0 + n ≡ m
none_more n m h = omega (arith, h)

pub returns-clause-apply : goal.returns-clause-apply
returns-clause-apply g c = λ items reduce is. ap (λ k held. k.1 (k.0 held)) is

pub returns-clause-inside : goal.returns-clause-inside
returns-clause-inside g c = rw (← c.second.ensures) (λ items reduce is run h.
    body_told g.T.Time.leq g.T.Time.lub g.T.Ord.cmp g.G.Key.Ord.cmp g.G.Value.Ord.cmp _ _ _ run items _ (sym (ap (λ k. k.0) is))
    (body-inside g.T.Time.leq g.T.Time.lub g.met.T.Time.lattice g.T.Ord.cmp g.G.Key.Ord.cmp g.G.Value.Ord.cmp (g.I.Operator.apply c.args.body.now.first.inner) (g.I.Operator.seal c.args.body.now.first.inner) _ (g.I.Operator.due c.args.body.now.first.inner) _ _ (g.I.Operator.stands c.args.body.now.first.inner) _
    (g.met.I.Operator.answers c.args.body.now.first.inner)
    (λ r s. none_more _ _ (c.evaluations.ensures.counted r s))
    c.evaluations.ensures.each
    c.evaluations.ensures.fed
    run h.0 h.1))
