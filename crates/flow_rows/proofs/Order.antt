-- Where the least due time is not below a time, no other due time is at or below it.
use Rattle.std.proofs.Common.{◌≡◌, ◌∙◌, false, true, Bool, IsTrue, List, [], ◌∷◌, Ordering, refl, ap}
use Rattle.std.specs.Prelude.{not, ◌&&◌}
use Rattle.std.specs.declared.cmp.Ordering.TheVariants.{Less, Equal, Greater}
use Rattle.std.specs.Ordering.{is_gt, is_ge, ordering_reverse}
use Rattle.std.specs.Cmp.{IsTotalOrder}
use Rattle.std.specs.List.{list_all}
use Rattle.std.proofs.lemmas.Bool.{false≢true}
use Rattle.std.proofs.lemmas.Cmp.{upto}
use Rattle.flow_core.specs.Runs.{Every, NoneAbove}
use Rattle.flow_core.specs.Lists.{Every-map}

module _ {T : Type 0} (cmp : T → T → Ordering) (total : IsTotalOrder cmp) (same : (x y : T) → cmp x y ≡ Equal → x ≡ y) where
  not_after : (a b : T) (r : Ordering) → cmp a b ≡ r → IsTrue (is_ge r) → is_gt (cmp b a) ≡ false
  not_after a b Less e h = absurd (false≢true h)
  not_after a b Equal e h = ap is_gt (total.antisymm b a ∙ ap ordering_reverse e)
  not_after a b Greater e h = ap is_gt (total.antisymm b a ∙ ap ordering_reverse e)

  both_ways : (a b : T) (r : Ordering) → cmp a b ≡ r → is_gt r ≡ false → is_gt (cmp b a) ≡ false → a ≡ b
  both_ways a b Less e h k = absurd (let f = ap is_gt (total.antisymm b a ∙ ap ordering_reverse e) in cc)
  both_ways a b Equal e h k = same a b e
  both_ways a b Greater e h k = absurd cc

  pub only_there : (leq : T → T → Bool) (in_order : (s t : T) → IsTrue (leq s t) → is_gt (cmp s t) ≡ false) (due : List T) (d t : T)
      → Every (λ s. is_gt (cmp d s) ≡ false) due → IsTrue (is_ge (cmp d t)) → Every (λ s. IsTrue (leq s t) → s ≡ t) due
  only_there leq in_order due d t least h = Every-map (λ s. is_gt (cmp d s) ≡ false) (λ s. IsTrue (leq s t) → s ≡ t) due
      (λ s above below. both_ways s t (cmp s t) refl (in_order s t below) (upto total t d s (not_after d t (cmp d t) refl h) above)) least

both_true : (a b : Bool) → not a && b ≡ true → (a ≡ false) × (b ≡ true)
both_true true b h = absurd cc
both_true false b h = (refl, h)

-- tested one after the other
pub none_above : {T : Type 0} (leq : T → T → Bool) (t : T) (times : List T) → list_all (λ s. not (leq t s)) times ≡ true → NoneAbove leq t times
none_above leq t [] h = tt
none_above leq t (s ∷ ss) h = let k = both_true (leq t s) (list_all (λ s. not (leq t s)) ss) h in (k.0, none_above leq t ss k.1)
