-- One more pair.
use Rattle.std.proofs.Common.{◌<◌, length, arith, subst, inl, inr}
use Rattle.std.specs.List.{Contains}
use Rattle.std.proofs.lemmas.List.{take_all}
use Rattle.diff_reduce.proofs.Elements.{put_in, put_only}
use Rattle.diff_reduce.proofs.pairs.Pairs.add.Goals as goal

pub loop-pair-preserved : goal.loop-pair-preserved
loop-pair-preserved g c =
    let low : c.loop-pair.pair-index < length c.args.more.now = omega arith in
    record {
      old = λ p m. c.in_ok-put.ensures.old p (c.loop-pair.invariant.old p m);
      more = put_in c.args.more.now c.loop-pair.pair-index c.pair-item.result low c.pair-item.is c.loop-pair.self _ c.loop-pair.invariant.more c.in_ok-put.ensures.old c.in_ok-put.ensures.more;
      only = put_only c.args.more.now c.loop-pair.pair-index c.pair-item.result low c.pair-item.is c.args.self.now c.loop-pair.self _ c.loop-pair.invariant.only c.in_ok-put.ensures.only;
    }

pub returns-clause-only : goal.returns-clause-only
returns-clause-only g c = λ p m. elim (c.loop-pair.invariant.only p m) [ inl o ↦ inl o | inr t ↦ inr (subst (λ ms. Contains ms p) (take_all c.loop-pair.pair-index c.args.more.now c.loop-pair-test.false) t) ]
