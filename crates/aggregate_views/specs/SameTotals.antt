-- Totals that compare as equal are the same.
use Rattle.std.specs.Prelude.{◌≡◌, ℕ, refl}
use Rattle.std.specs.declared.cmp.Ordering.{Ordering}
use Rattle.std.specs.declared.cmp.Ordering.TheVariants.{Less, Equal, Greater}
use Rattle.std.specs.Ordering.{ordering_then, nat_cmp}
use Rattle.std.proofs.lemmas.Map.Lookups.{exact_unsigned}
use Rattle.aggregate_views.specs.declared.part.Totals.{Totals}

abbrev pub totals_cmp : Totals → Totals → Ordering
totals_cmp x y = ordering_then (nat_cmp x.count y.count) (ordering_then (nat_cmp x.low y.low) (nat_cmp x.high y.high))

both_equal : (a b : Ordering) → ordering_then a b ≡ Equal → (a ≡ Equal) × (b ≡ Equal)
both_equal Less b e = absurd cc
both_equal Equal b e = (refl, e)
both_equal Greater b e = absurd cc

totals_from : (n n' l l' h h' : ℕ) → n ≡ n' → l ≡ l' → h ≡ h' → Path Totals (record { count = n; low = l; high = h }) (record { count = n'; low = l'; high = h' })
totals_from n n' l l' h h' p q r = cc

pub totals_same : (x y : Totals) → totals_cmp x y ≡ Equal → x ≡ y
totals_same x y e =
    let count = both_equal _ _ e in
    let low = both_equal _ _ count.1 in
    totals_from x.count y.count x.low y.low x.high y.high (exact_unsigned x.count y.count count.0) (exact_unsigned x.low y.low low.0) (exact_unsigned x.high y.high low.1)
