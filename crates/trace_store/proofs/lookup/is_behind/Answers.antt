-- The entry before the place has a smaller key, so each one before it has.
use Rattle.std.proofs.Common.{◌≡◌, ◌∙◌, ◌+◌, ◌-◌, true, ap, sym, subst, arith}
use Rattle.std.specs.List.{AllWithin}
use Rattle.std.specs.Ordering.{is_lt}
use Rattle.trace_store.proofs.Keys.{all_before}
use Rattle.trace_store.proofs.lookup.is_behind.Goals as goal

pub returns : goal.returns
returns g c = λ h.
    let at : (c.args.place - 1) + 1 ≡ c.args.place = omega arith in
    let lt : is_lt (g.K.Ord.cmp c.get.result.0.0.0 c.args.key.now) ≡ true = ap is_lt (sym c.cmp.ensures) ∙ sym c.is_lt.ensures ∙ h in
    (omega arith, subst (λ n. AllWithin (λ e. is_lt (g.K.Ord.cmp e.0.0.0 c.args.key.now) ≡ true) c.args.layer.now 0 n) at (all_before g.K.Ord.cmp g.V.Ord.cmp g.T.Ord.cmp g.met.K.Ord.total c.args.key.now c.args.layer.now (c.args.place - 1) c.get.result c.requires c.get.ensures lt))
