-- The lesser of two least times is the least of both lists.
use Rattle.std.proofs.Common.{◌≡◌, ◌⊎◌, ◌∙◌, false, if◌then◌else◌, List, ◌++◌, Ordering, refl, ap, inl, inr}
use Rattle.std.specs.declared.cmp.Ordering.TheVariants.{Less, Equal, Greater}
use Rattle.std.specs.Ordering.{is_gt, is_lt, ord_min, ordering_reverse}
use Rattle.std.specs.Cmp.{IsTotalOrder}
use Rattle.std.proofs.lemmas.Cmp.{upto}
use Rattle.flow_core.specs.Runs.{Every, Member}
use Rattle.flow_core.specs.Lists.{Every-append, Every-map, Member-front, Member-back}

module _ {T : Type 0} (cmp : T → T → Ordering) (total : IsTotalOrder cmp) where
  min_cases : (a b : T) (r : Ordering) → cmp b a ≡ r → ((ord_min cmp a b ≡ b) × (is_gt (cmp b a) ≡ false)) ⊎ ((ord_min cmp a b ≡ a) × (is_gt (cmp a b) ≡ false))
  min_cases a b Less e = inl (ap (λ v. if is_lt v then b else a) e, ap is_gt e)
  min_cases a b Equal e = inr (ap (λ v. if is_lt v then b else a) e, ap is_gt (total.antisymm a b ∙ ap ordering_reverse e))
  min_cases a b Greater e = inr (ap (λ v. if is_lt v then b else a) e, ap is_gt (total.antisymm a b ∙ ap ordering_reverse e))

  pub least_both : (xs ys : List T) (a b : T) → Member a xs × Every (λ s. is_gt (cmp a s) ≡ false) xs → Member b ys × Every (λ s. is_gt (cmp b s) ≡ false) ys → Member (ord_min cmp a b) (xs ++ ys) × Every (λ s. is_gt (cmp (ord_min cmp a b) s) ≡ false) (xs ++ ys)
  least_both xs ys a b h k = elim (min_cases a b (cmp b a) refl) [
    | inl w ↦ rw (w.0) (Member-back b xs ys k.0, Every-append (λ s. is_gt (cmp b s) ≡ false) xs ys (Every-map (λ s. is_gt (cmp a s) ≡ false) (λ s. is_gt (cmp b s) ≡ false) xs (λ s p. upto total b a s w.1 p) h.1) k.1)
    | inr w ↦ rw (w.0) (Member-front a xs ys h.0, Every-append (λ s. is_gt (cmp a s) ≡ false) xs ys h.1 (Every-map (λ s. is_gt (cmp b s) ≡ false) (λ s. is_gt (cmp a s) ≡ false) ys (λ s p. upto total a b s w.1 p) k.1))
  ]
