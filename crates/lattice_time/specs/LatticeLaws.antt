-- The laws of times, proved once for all times that are numbers and once for pairs.
use Rattle.std.specs.Prelude.{◌≡◌, ℕ, Bool, true, false, IsTrue, nat_le, ◌&&◌, max, refl}
use Rattle.std.specs.declared.cmp.Ordering.{Ordering}
use Rattle.std.specs.declared.cmp.Ordering.TheVariants.{Less, Equal, Greater}
use Rattle.std.specs.Ordering.{nat_cmp, is_gt, ordering_then}
use Rattle.std.proofs.Common.{arith, ap, sym, ◌∙◌}
use Rattle.std.proofs.lemmas.Bool.Decides.{nat_tests}
use Rattle.lattice_time.specs.Lattice.{IsLattice}

-- ---- the order of numbers

le_both : (m n : ℕ) → IsTrue (nat_le m n) → IsTrue (nat_le n m) → m ≡ n
le_both m n h k = grind (arith, nat_tests)

le_refl : (m : ℕ) → IsTrue (nat_le m m)
le_refl m = grind (arith, nat_tests)

le_trans : (m n k : ℕ) → IsTrue (nat_le m n) → IsTrue (nat_le n k) → IsTrue (nat_le m k)
le_trans m n k p q = grind (arith, nat_tests)

max_left : (m n : ℕ) → IsTrue (nat_le m (max m n))
max_left m n = grind (arith, nat_tests)

max_right : (m n : ℕ) → IsTrue (nat_le n (max m n))
max_right m n = grind (arith, nat_tests)

max_least : (m n k : ℕ) → IsTrue (nat_le m k) → IsTrue (nat_le n k) → IsTrue (nat_le (max m n) k)
max_least m n k p q = grind (arith, nat_tests)

-- ---- times that are numbers

pub number_in_order : (m n : ℕ) → IsTrue (nat_le m n) → is_gt (nat_cmp m n) ≡ false
number_in_order m n h = grind (arith, nat_tests)

pub zero_is_least : (n : ℕ) → IsTrue (nat_le 0 n)
zero_is_least n = grind (arith, nat_tests)

-- of a type whose values are numbers under a name
pub numbers_lattice : {T : Type 0} (f : T → ℕ) (g : ℕ → T) → ((t : T) → g (f t) ≡ t) → ((n : ℕ) → f (g n) ≡ n) → IsLattice (λ s t. nat_le (f s) (f t)) (λ s t. g (max (f s) (f t)))
numbers_lattice {T} f g back forth = record {
  reflexive = λ s. le_refl (f s);
  transitive = λ r s t. le_trans (f r) (f s) (f t);
  antisymmetric = λ s t p q. sym (back s) ∙ ap g (le_both (f s) (f t) p q) ∙ back t;
  left = λ s t. rw (forth (max (f s) (f t))) (max_left (f s) (f t));
  right = λ s t. rw (forth (max (f s) (f t))) (max_right (f s) (f t));
  least = λ s t u p q. rw (forth (max (f s) (f t))) (max_least (f s) (f t) (f u) p q);
}

-- ---- pairs

pub and_first : (a b : Bool) → IsTrue (a && b) → IsTrue a
and_first true b h = refl
and_first false b h = h

pub and_second : (a b : Bool) → IsTrue (a && b) → IsTrue b
and_second true b h = h
and_second false b h = absurd (cc)

pub and_both : (a b : Bool) → IsTrue a → IsTrue b → IsTrue (a && b)
and_both true b h k = k
and_both false b h k = h

-- coordinate by coordinate
pub pair_lattice : {A B P : Type 0} {aleq : A → A → Bool} {alub : A → A → A} {bleq : B → B → Bool} {blub : B → B → B} (f : P → A) (g : P → B) (p : A → B → P) → ((t : P) → p (f t) (g t) ≡ t) → ((a : A) (b : B) → f (p a b) ≡ a) → ((a : A) (b : B) → g (p a b) ≡ b) → IsLattice aleq alub → IsLattice bleq blub → IsLattice (λ s t. aleq (f s) (f t) && bleq (g s) (g t)) (λ s t. p (alub (f s) (f t)) (blub (g s) (g t)))
pair_lattice {A} {B} {P} {aleq} {alub} {bleq} {blub} f g p back first second a b = record {
  reflexive = λ s. and_both _ _ (a.reflexive (f s)) (b.reflexive (g s));
  transitive = λ r s t h k. and_both _ _ (a.transitive _ _ _ (and_first _ _ h) (and_first _ _ k)) (b.transitive _ _ _ (and_second _ _ h) (and_second _ _ k));
  antisymmetric = λ s t h k.
      let x : f s ≡ f t = a.antisymmetric (f s) (f t) (and_first _ _ h) (and_first _ _ k) in
      let y : g s ≡ g t = b.antisymmetric (g s) (g t) (and_second _ _ h) (and_second _ _ k) in
      sym (back s) ∙ ap (λ v. p v (g s)) x ∙ ap (λ v. p (f t) v) y ∙ back t;
  left = λ s t. rw (first (alub (f s) (f t)) (blub (g s) (g t)), second (alub (f s) (f t)) (blub (g s) (g t))) (and_both _ _ (a.left (f s) (f t)) (b.left (g s) (g t)));
  right = λ s t. rw (first (alub (f s) (f t)) (blub (g s) (g t)), second (alub (f s) (f t)) (blub (g s) (g t))) (and_both _ _ (a.right (f s) (f t)) (b.right (g s) (g t)));
  least = λ s t u h k. rw (first (alub (f s) (f t)) (blub (g s) (g t)), second (alub (f s) (f t)) (blub (g s) (g t))) (and_both _ _ (a.least _ _ _ (and_first _ _ h) (and_first _ _ k)) (b.least _ _ _ (and_second _ _ h) (and_second _ _ k)));
}

-- the first in dictionary order is no greater
then_not_gt : (r s : Ordering) → is_gt r ≡ false → (r ≡ Equal → is_gt s ≡ false) → is_gt (ordering_then r s) ≡ false
then_not_gt Less s h k = refl
then_not_gt Equal s h k = k refl
then_not_gt Greater s h k = h

pub pair_in_order : {A B : Type 0} (C : A → A → Ordering) (D : B → B → Ordering) (aleq : A → A → Bool) (bleq : B → B → Bool) → ((s t : A) → IsTrue (aleq s t) → is_gt (C s t) ≡ false) → ((s t : B) → IsTrue (bleq s t) → is_gt (D s t) ≡ false) → (s t : A) (u v : B) → IsTrue (aleq s t && bleq u v) → is_gt (ordering_then (C s t) (D u v)) ≡ false
pair_in_order C D aleq bleq a b s t u v h = then_not_gt (C s t) (D u v) (a s t (and_first (aleq s t) (bleq u v) h)) (λ _. b u v (and_second (aleq s t) (bleq u v) h))
