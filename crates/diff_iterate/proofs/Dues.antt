-- What is due to the body of a loop, by outer times and by rounds.
use Rattle.std.proofs.Common.{◌≡◌, ◌∙◌, ℕ, ◌+◌, ◌<◌, ◌⊎◌, Bool, true, false, IsTrue, List, [], ◌∷◌, ◌++◌, Ordering, length, refl, ap, sym, subst, inl, inr, arith, zero, suc}
use Rattle.std.specs.Prelude.{◌&&◌, nat_le, map}
use Rattle.std.specs.declared.cmp.Ordering.TheVariants.{Less, Equal, Greater}
use Rattle.std.specs.Ordering.{is_gt, nat_cmp, ordering_then}
use Rattle.std.specs.Cmp.{IsTotalOrder}
use Rattle.std.proofs.lemmas.Cmp.{upto, then_total, on_total, nat_cmp_total}
use Rattle.std.proofs.lemmas.Bool.Decides.{nat_tests}
use Rattle.lattice_time.specs.Lattice.{IsLattice}
use Rattle.lattice_time.specs.LatticeLaws.{and_first, and_second, pair_in_order, number_in_order}
use Rattle.lattice_time.specs.declared.pair.Pair.{Pair}
use Rattle.lattice_time.specs.declared.round.Round.{Round}
use Rattle.flow_core.specs.Runs.{Run, Every, Member, NoneBelow, times_of}
use Rattle.flow_core.specs.Lists.{Every-map, Every-member, Member-back}
use Rattle.flow_core.specs.RunLaws.{times_of-append}
use Rattle.loop_theory.specs.declared.input.LoopInput.{LoopInput}
use Rattle.loop_theory.specs.Loops.{pair_leq, pair_of, Exchange, steps_from}
use Rattle.loop_theory.specs.TimeLaws.{lap_has}

-- ---- before a step

level_of : (n r : ℕ) → IsTrue (nat_le n (r + 1)) → nat_le n r ≡ false → n ≡ r + 1
level_of n r h k = grind (arith, nat_tests)

zero_of : (n : ℕ) → IsTrue (nat_le n 0) → n ≡ 0
zero_of n h = grind (arith, nat_tests)

and_rest : (a b : Bool) → IsTrue a → (a && b) ≡ false → b ≡ false
and_rest true b h k = k
and_rest false b h k = absurd (cc)

module _ {T : Type 0} (leq : T → T → Bool) (t : T) where
  pair_is : (d : Pair T Round) (r : ℕ) → d.outer ≡ t → d.inner.0 ≡ r → d ≡ pair_of t r
  pair_is d r p q = ap (λ v. pair_of v d.inner.0) p ∙ ap (pair_of t) q

  -- a due time at or below round 0 is that round
  pub due_first : (due : List (Pair T Round)) → Every (λ d. IsTrue (leq d.outer t) → d.outer ≡ t) due → Every (λ d. IsTrue (pair_leq leq d (pair_of t 0)) → d ≡ pair_of t 0) due
  due_first due h = Every-map (λ d. IsTrue (leq d.outer t) → d.outer ≡ t) (λ d. IsTrue (pair_leq leq d (pair_of t 0)) → d ≡ pair_of t 0) due (λ d f low. pair_is d 0 (f (and_first (leq d.outer t) (nat_le d.inner.0 0) low)) (zero_of d.inner.0 (and_second (leq d.outer t) (nat_le d.inner.0 0) low))) h

  due_next_by : (r : ℕ) (due : List (Pair T Round)) → NoneBelow (pair_leq leq) (pair_of t r) due → Every (λ d. IsTrue (leq d.outer t) → d.outer ≡ t) due → Every (λ d. IsTrue (pair_leq leq d (pair_of t (r + 1))) → d ≡ pair_of t (r + 1)) due
  due_next_by r [] h k = tt
  due_next_by r (d ∷ due) h k = (
    (λ low.
        let under : IsTrue (leq d.outer t) = and_first (leq d.outer t) (nat_le d.inner.0 (r + 1)) low in
        let here : d.outer ≡ t = k.0 under in
        let round : d.inner.0 ≡ r + 1 = level_of d.inner.0 r (and_second (leq d.outer t) (nat_le d.inner.0 (r + 1)) low) (and_rest (leq d.outer t) (nat_le d.inner.0 r) under h.0) in
        pair_is d (r + 1) here round),
    due_next_by r due h.1 k.1,
  )

  -- a due time at or below the next round is that round, since none is at or below the round before
  pub due_next : {F X : Type 0} (r : ℕ) (due : List (Pair T Round)) (run : Run (Pair T Round) (LoopInput F X) X) (es : List (Exchange F X)) → 0 < r → length es ≡ r → Every (λ s. NoneBelow (pair_leq leq) s due) (times_of (run.steps ++ steps_from t 0 es)) → Every (λ d. IsTrue (leq d.outer t) → d.outer ≡ t) due → Every (λ d. IsTrue (pair_leq leq d (pair_of t r)) → d ≡ pair_of t r) due
  due_next zero due run es low count ahead h = absurd (omega arith)
  due_next (suc r) due run es low count ahead h =
      let last : Member (pair_of t (0 + r)) (times_of (steps_from t 0 es)) = lap_has t 0 r es (omega arith) in
      let all : Every (λ s. NoneBelow (pair_leq leq) s due) (times_of run.steps ++ times_of (steps_from t 0 es)) = subst (λ v. Every (λ s. NoneBelow (pair_leq leq) s due) v) (times_of-append run.steps (steps_from t 0 es)) ahead in
      let below : NoneBelow (pair_leq leq) (pair_of t (0 + r)) due = Every-member (λ s. NoneBelow (pair_leq leq) s due) (times_of run.steps ++ times_of (steps_from t 0 es)) (pair_of t (0 + r)) all (Member-back (pair_of t (0 + r)) (times_of run.steps) (times_of (steps_from t 0 es)) last) in
      subst (λ v. Every (λ d. IsTrue (pair_leq leq d (pair_of t v)) → d ≡ pair_of t v) due) (omega arith) (due_next_by (0 + r) due below h)

  -- ---- after a step

  pub outer_due_first : (r : ℕ) (old new : List (Pair T Round)) → Every (λ d. Member d old ⊎ IsTrue (pair_leq leq (pair_of t r) d)) new → Every (λ d. Member d old ⊎ IsTrue (leq t d.outer)) new
  outer_due_first r old new h = Every-map (λ d. Member d old ⊎ IsTrue (pair_leq leq (pair_of t r) d)) (λ d. Member d old ⊎ IsTrue (leq t d.outer)) new (λ d w. elim w [ inl m ↦ inl m | inr k ↦ inr (and_first (leq t d.outer) (nat_le r d.inner.0) k) ]) h

  pub outer_due_more : (r : ℕ) (old mid new : List (Pair T Round)) → Every (λ d. Member d old ⊎ IsTrue (leq t d.outer)) mid → Every (λ d. Member d mid ⊎ IsTrue (pair_leq leq (pair_of t r) d)) new → Every (λ d. Member d old ⊎ IsTrue (leq t d.outer)) new
  outer_due_more r old mid new g h = Every-map (λ d. Member d mid ⊎ IsTrue (pair_leq leq (pair_of t r) d)) (λ d. Member d old ⊎ IsTrue (leq t d.outer)) new (λ d w. elim w [ inl m ↦ Every-member (λ d. Member d old ⊎ IsTrue (leq t d.outer)) mid d g m | inr k ↦ inr (and_first (leq t d.outer) (nat_le r d.inner.0) k) ]) h

  pub outer_due_is : (lub : T → T → T) (lattice : IsLattice leq lub) (old new : List (Pair T Round)) → Every (λ d. IsTrue (leq d.outer t) → d.outer ≡ t) old → Every (λ d. Member d old ⊎ IsTrue (leq t d.outer)) new → Every (λ d. IsTrue (leq d.outer t) → d.outer ≡ t) new
  outer_due_is lub lattice old new g h = Every-map (λ d. Member d old ⊎ IsTrue (leq t d.outer)) (λ d. IsTrue (leq d.outer t) → d.outer ≡ t) new (λ d w low. elim w [ inl m ↦ Every-member (λ d. IsTrue (leq d.outer t) → d.outer ≡ t) old d g m low | inr k ↦ lattice.antisymmetric d.outer t low k ]) h

-- ---- due times by their outer part

pub outer_of_due : {T : Type 0} (P : T → Type 0) (due : List (Pair T Round)) → Every P (map (λ d. d.outer) due) → Every (λ d. P d.outer) due
outer_of_due P [] h = tt
outer_of_due P (d ∷ due) h = (h.0, outer_of_due P due h.1)

Member-outer : {T : Type 0} (d : Pair T Round) (due : List (Pair T Round)) → Member d due → Member d.outer (map (λ d. d.outer) due)
Member-outer d [] m = absurd m
Member-outer d (e ∷ due) (inl p) = inl (ap (λ v. v.outer) p)
Member-outer d (e ∷ due) (inr m) = inr (Member-outer d due m)

pub due_of_outer : {T : Type 0} (leq : T → T → Bool) (t : T) (old new : List (Pair T Round)) → Every (λ d. Member d old ⊎ IsTrue (leq t d.outer)) new → Every (λ d. Member d (map (λ d. d.outer) old) ⊎ IsTrue (leq t d)) (map (λ d. d.outer) new)
due_of_outer leq t old [] h = tt
due_of_outer leq t old (d ∷ new) h = (elim h.0 [ inl m ↦ inl (Member-outer d old m) | inr k ↦ inr k ], due_of_outer leq t old new h.1)

pub no_outer_due : {T : Type 0} (due : List (Pair T Round)) → map (λ d. d.outer) due ≡ [] → due ≡ []
no_outer_due [] h = refl
no_outer_due (d ∷ due) h = absurd (cc)

-- ---- the least due time

first_not_gt : (r s : Ordering) → is_gt (ordering_then r s) ≡ false → is_gt r ≡ false
first_not_gt Less s h = refl
first_not_gt Equal s h = refl
first_not_gt Greater s h = h

module _ {T : Type 0} (cmp : T → T → Ordering) where
  abbrev pub pair_cmp : Pair T Round → Pair T Round → Ordering
  pair_cmp s t = ordering_then (cmp s.outer t.outer) (nat_cmp s.inner.0 t.inner.0)

  least_outer : (d : Pair T Round) (due : List (Pair T Round)) → Every (λ s. is_gt (pair_cmp d s) ≡ false) due → Every (λ s. is_gt (cmp d.outer s) ≡ false) (map (λ d. d.outer) due)
  least_outer d [] h = tt
  least_outer d (e ∷ due) h = (first_not_gt (cmp d.outer e.outer) (nat_cmp d.inner.0 e.inner.0) h.0, least_outer d due h.1)

  -- the least pair in dictionary order has the least outer time
  pub next_outer : (d : Pair T Round) (due : List (Pair T Round)) → Member d due × Every (λ s. is_gt (pair_cmp d s) ≡ false) due → Member d.outer (map (λ d. d.outer) due) × Every (λ s. is_gt (cmp d.outer s) ≡ false) (map (λ d. d.outer) due)
  next_outer d due h = (Member-outer d due h.0, least_outer d due h.1)

  -- where the least due time is above a round in that order, none is at or below it
  module _ (total : IsTotalOrder cmp) (leq : T → T → Bool) (in_order : (s t : T) → IsTrue (leq s t) → is_gt (cmp s t) ≡ false) where
    pairs_total : IsTotalOrder pair_cmp
    pairs_total = then_total (on_total (λ (p : Pair T Round). p.outer) total) (on_total (λ (p : Pair T Round). p.inner.0) nat_cmp_total)

    not_below : (b : Bool) (d s x : Pair T Round) → pair_leq leq s x ≡ b → is_gt (pair_cmp d s) ≡ false → pair_cmp d x ≡ Greater → b ≡ false
    not_below false d s x e h k = refl
    not_below true d s x e h k =
        let up : is_gt (pair_cmp s x) ≡ false = pair_in_order cmp nat_cmp leq nat_le in_order number_in_order s.outer x.outer s.inner.0 x.inner.0 e in
        let less : is_gt (pair_cmp d x) ≡ false = upto pairs_total d s x h up in
        let more : is_gt (pair_cmp d x) ≡ true = ap is_gt k in
        sym more ∙ less

    pub none_before : (due : List (Pair T Round)) (d x : Pair T Round) → Every (λ s. is_gt (pair_cmp d s) ≡ false) due → pair_cmp d x ≡ Greater → NoneBelow (pair_leq leq) x due
    none_before due d x least after = Every-map (λ s. is_gt (pair_cmp d s) ≡ false) (λ s. pair_leq leq s x ≡ false) due (λ s h. not_below (pair_leq leq s x) d s x refl h after) least

-- ---- the order of a dictionary, one part at a time

above_number : (n k : ℕ) → k < n → nat_cmp n k ≡ Greater
above_number n k h = grind (arith, nat_tests)

pub above_inner : (r : Ordering) (n k : ℕ) → r ≡ Equal → k < n → ordering_then r (nat_cmp n k) ≡ Greater
above_inner r n k e h = rw e (above_number n k h)

pub above_outer : (r s : Ordering) → r ≡ Greater → ordering_then r s ≡ Greater
above_outer r s e = rw e refl
