-- One pair less, and none left.
use Rattle.std.proofs.Common.{◌∙◌, ◌<◌, ◌+◌, ◌∷◌, length, drop, ap, sym, refl, arith}
use Rattle.std.proofs.lemmas.List.{drop_more, drop_all}
use Rattle.std.specs.Cmp.{tied_itself}
use Rattle.std.specs.Prelude.{filter, map}
use Rattle.std.specs.Ordering.{is_eq, is_ne}
use Rattle.ordered_pairs.specs.FirstParts.{none_left, one_less}
use Rattle.diff_reduce.proofs.pairs.take_out.Goals as goal

pub loop-second-preserved : goal.loop-second-preserved
loop-second-preserved g c =
    let low : c.loop-second.second-index < length c.args.seconds.now = omega arith in
    let next = c.loop-second.invariant.left ∙ drop_more c.args.seconds.now c.loop-second.second-index c.second-item.result low ∙ ap (λ v. v ∷ drop (c.loop-second.second-index + 1) c.args.seconds.now) (sym c.second-item.is) in
    let one = one_less g.A.Ord.cmp g.B.Ord.cmp g.met.A.Ord.total (λ p. p) (λ p. p.1) c.args.first.now g.met.A.Record.same (tied_itself g.met.B.Ord.total) (λ b. b) (λ p. refl) c.second-item.result (drop (c.loop-second.second-index + 1) c.args.seconds.now) c.loop-second.pairs.keys next in
    record {
      left = ap (λ ks. map (λ p. p.1) (filter (λ p. is_eq (g.A.Ord.cmp p.0 c.args.first.now)) ks)) c.remove.ensures.keys ∙ one.0;
      others = ap (λ ks. filter (λ p. is_ne (g.A.Ord.cmp p.0 c.args.first.now)) ks) c.remove.ensures.keys ∙ one.1 ∙ c.loop-second.invariant.others;
    }

pub returns : goal.returns
returns g c =
    let none = c.loop-second.invariant.left ∙ drop_all c.loop-second.second-index c.args.seconds.now c.loop-second-test.false in
    sym (none_left g.A.Ord.cmp g.B.Ord.cmp g.met.A.Ord.total (λ p. p) (λ p. p.1) c.args.first.now c.loop-second.pairs.keys none) ∙ c.loop-second.invariant.others
