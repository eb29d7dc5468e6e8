-- Pairs in order: one more, and the first.
use Rattle.std.proofs.Common.{◌≡◌, false, List, [], ◌∷◌, Ordering, refl, ap, sym, subst, inl, inr}
use Rattle.std.specs.Prelude.{◌⊎◌, slice_get}
use Rattle.std.specs.BTreeSet.{insert_key}
use Rattle.std.specs.Cmp.{IsTotalOrder, tied_itself}
use Rattle.std.specs.List.{AllByRecursion}
use Rattle.std.specs.List.Sorted.{IsStrictlySortedBy}
use Rattle.std.specs.Ordering.{is_gt, match_ordering, ordering_then}
use Rattle.std.specs.declared.cmp.Ordering.TheVariants.{Less, Equal, Greater}
use Rattle.std.specs.declared.option.Option.TheVariants.{Some}
use Rattle.std.proofs.lemmas.Map.Keys.{sorted_head}
use Rattle.trace_store.specs.Traces.{in_turn}
use Rattle.flow_core.specs.Runs.{Every, Member}
use Rattle.diff_reduce.specs.Stands.{due_times}

-- ---- one key more

module _ {X : Type 0} (cmp : X → X → Ordering) (same : (x y : X) → cmp x y ≡ Equal → x ≡ y) (k : X) where
  old_by : (o : Ordering) (x p : X) (xs more : List X) → Member p (x ∷ xs) → (Member p xs → Member p more) → Member p (match_ordering o (k ∷ x ∷ xs) (x ∷ xs) (x ∷ more))
  old_by Less x p xs more m go = inr m
  old_by Equal x p xs more m go = m
  old_by Greater x p xs more (inl e) go = inl e
  old_by Greater x p xs more (inr m) go = inr (go m)

  pub insert_old : (xs : List X) (p : X) → Member p xs → Member p (insert_key cmp xs k)
  insert_old [] p m = absurd m
  insert_old (x ∷ xs) p m = old_by (cmp k x) x p xs (insert_key cmp xs k) m (insert_old xs p)

  new_by : (o : Ordering) (x : X) (xs more : List X) → cmp k x ≡ o → Member k more → Member k (match_ordering o (k ∷ x ∷ xs) (x ∷ xs) (x ∷ more))
  new_by Less x xs more e m = inl refl
  new_by Equal x xs more e m = inl (same k x e)
  new_by Greater x xs more e m = inr m

  pub insert_new : (xs : List X) → Member k (insert_key cmp xs k)
  insert_new [] = inl refl
  insert_new (x ∷ xs) = new_by (cmp k x) x xs (insert_key cmp xs k) refl (insert_new xs)

  only_by : (o : Ordering) (x p : X) (xs more : List X) → Member p (match_ordering o (k ∷ x ∷ xs) (x ∷ xs) (x ∷ more)) → (Member p more → Member p xs ⊎ (k ≡ p)) → Member p (x ∷ xs) ⊎ (k ≡ p)
  only_by Less x p xs more (inl e) go = inr (sym e)
  only_by Less x p xs more (inr m) go = inl m
  only_by Equal x p xs more m go = inl m
  only_by Greater x p xs more (inl e) go = inl (inl e)
  only_by Greater x p xs more (inr m) go = elim (go m) [ inl a ↦ inl (inr a) | inr e ↦ inr e ]

  pub insert_only : (xs : List X) (p : X) → Member p (insert_key cmp xs k) → Member p xs ⊎ (k ≡ p)
  insert_only [] p (inl e) = inr (sym e)
  insert_only [] p (inr m) = absurd m
  insert_only (x ∷ xs) p m = only_by (cmp k x) x p xs (insert_key cmp xs k) m (insert_only xs p)

-- ---- the first pair

module _ {A B : Type 0} (acmp : A → A → Ordering) (bcmp : B → B → Ordering) (order : IsTotalOrder acmp) where
  first_part : (x y : A × B) → in_turn acmp bcmp x y ≡ Less → is_gt (acmp x.0 y.0) ≡ false
  first_part x y h = two (acmp x.0 y.0) (bcmp x.1 y.1) h where
    two : (r s : Ordering) → ordering_then r s ≡ Less → is_gt r ≡ false
    two Less s h = refl
    two Equal s h = refl
    two Greater s h = absurd (cc)

  above_all : (p : A × B) (ps : List (A × B)) → AllByRecursion (λ y. in_turn acmp bcmp p y ≡ Less) ps → Every (λ s. is_gt (acmp p.0 s) ≡ false) (due_times ps)
  above_all p [] h = tt
  above_all p (q ∷ ps) h = (first_part p q h.0, above_all p ps h.1)

  pub least_first : (ps : List (A × B)) (p : A × B) → slice_get ps 0 ≡ Some p → IsStrictlySortedBy (in_turn acmp bcmp) ps → Member p.0 (due_times ps) × Every (λ s. is_gt (acmp p.0 s) ≡ false) (due_times ps)
  least_first [] p e r = absurd (cc)
  least_first (q ∷ ps) p e r = subst (λ v. Member v.0 (due_times (q ∷ ps)) × Every (λ s. is_gt (acmp v.0 s) ≡ false) (due_times (q ∷ ps))) (is q p e) (inl refl, (ap is_gt (tied_itself order q.0), above_all q ps (sorted_head (in_turn acmp bcmp) q ps r))) where
    is : (x y : A × B) → Some x ≡ Some y → x ≡ y
    is x y h = cc
