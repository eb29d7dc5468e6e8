-- The times of the body of a loop, and those of the loop.
use Rattle.std.specs.Prelude.{◌≡◌, ℕ, ◌+◌, ◌<◌, ◌≤◌, ◌&&◌, ◌⊎◌, nat_le, max, Bool, true, false, IsTrue, List, [], ◌∷◌, ◌++◌, length, map, fold, refl}
use Rattle.std.proofs.Common.{arith, ap, sym, subst, ◌∙◌, inl, inr, zero, suc}
use Rattle.std.proofs.lemmas.Bool.Decides.{nat_tests}
use Rattle.lattice_time.specs.LatticeLaws.{and_first}
use Rattle.lattice_time.specs.declared.pair.Pair.{Pair}
use Rattle.lattice_time.specs.declared.round.Round.{Round}
use Rattle.flow_core.specs.Runs.{Step, Every, Member, NoneAbove, NoneBelow, IsLubOf, times_of}
use Rattle.flow_core.specs.Lists.{Every-append, Every-append_front, Every-append_back, Every-map, Every-member, Member-split}
use Rattle.flow_core.specs.RunLaws.{times_of-append}
use Rattle.loop_theory.specs.Loops.{pair_leq, pair_lub, pair_of, Exchange, Lap, IsLap, lap_step, steps_from, body_steps, NoOuterAbove}

-- ---- least upper bounds of pairs

outer_bound : {T : Type 0} (lub : T → T → T) (us : List (Pair T Round)) (a : Pair T Round) → (fold (pair_lub lub) a us).outer ≡ fold lub a.outer (map (λ u. u.outer) us)
outer_bound lub [] a = refl
outer_bound lub (u ∷ us) a = outer_bound lub us (pair_lub lub a u)

max_below : (a b n : ℕ) → a < n → b < n → max a b < n
max_below a b n p q = omega arith

inner_bound : {T : Type 0} (rounds : ℕ) (lub : T → T → T) (us : List (Pair T Round)) (a : Pair T Round) → a.inner.0 < rounds → Every (λ u. u.inner.0 < rounds) us → (fold (pair_lub lub) a us).inner.0 < rounds
inner_bound rounds lub [] a h k = h
inner_bound rounds lub (u ∷ us) a h k = inner_bound rounds lub us (pair_lub lub a u) (max_below a.inner.0 u.inner.0 rounds h k.0) k.1

le_itself : (n : ℕ) → nat_le n n ≡ true
le_itself n = grind (arith, nat_tests)

first_false : (a : Bool) (n : ℕ) → (a && nat_le n n) ≡ false → a ≡ false
first_false false n h = refl
first_false true n h = absurd (let both : true ≡ false = sym (le_itself n) ∙ h in (cc))

-- ---- one lap

module _ {T F X : Type 0} where
  -- each time of a lap is a round of its outer time
  lap_time : (t : T) (k : ℕ) (es : List (Exchange F X)) (s : Pair T Round) → Member s (times_of (steps_from t k es)) → (s.outer ≡ t) × (s.inner.0 < k + length es)
  lap_time t k [] s m = absurd m
  lap_time t k (e ∷ es) s (inl p) = (let q : s.inner.0 ≡ k = ap (λ v. v.inner.0) p in (ap (λ v. v.outer) p, omega arith))
  lap_time t k (e ∷ es) s (inr m) = (let w : (s.outer ≡ t) × (s.inner.0 < suc k + length es) = lap_time t (suc k) es s m in (w.0, omega (arith, w.1)))

  -- each round of a lap is a time of it
  pub lap_has : (t : T) (k j : ℕ) (es : List (Exchange F X)) → j < length es → Member (pair_of t (k + j)) (times_of (steps_from t k es))
  lap_has t k j [] low = absurd (omega arith)
  lap_has t k zero (e ∷ es) low = inl (ap (pair_of t) (omega arith))
  lap_has t k (suc j) (e ∷ es) low = inr (subst (λ v. Member (pair_of t v) (times_of (steps_from t (suc k) es))) (omega arith) (lap_has t (suc k) j es (omega arith)))

-- ---- all laps

module _ {T F X : Type 0} (rounds : ℕ) where
  -- each time of the body is a round below the rounds, of a time of the loop
  pub body_time : (laps : List (Lap T F X)) (s : Pair T Round) → Every (IsLap rounds) laps → Member s (times_of (body_steps laps)) → Member s.outer (times_of (map lap_step laps)) × (s.inner.0 < rounds)
  body_time [] s h m = absurd m
  body_time (l ∷ ls) s h m =
      let count : length l.taken ≡ rounds = h.0.count in
      let split : Member s (times_of (steps_from l.time 0 l.taken) ++ times_of (body_steps ls)) = subst (λ v. Member s v) (times_of-append (steps_from l.time 0 l.taken) (body_steps ls)) m in
      elim (Member-split s (times_of (steps_from l.time 0 l.taken)) (times_of (body_steps ls)) split) [
        | inl here ↦ (inl ((lap_time l.time 0 l.taken s here).0), (let low : s.inner.0 < 0 + length l.taken = (lap_time l.time 0 l.taken s here).1 in omega arith))
        | inr there ↦ (inr ((body_time ls s h.1 there).0), (body_time ls s h.1 there).1)
      ]

  body_times : (laps : List (Lap T F X)) (us : List (Pair T Round)) → Every (IsLap rounds) laps → Every (λ u. Member u (times_of (body_steps laps))) us → Every (λ u. Member u (times_of (map lap_step laps))) (map (λ u. u.outer) us) × Every (λ u. u.inner.0 < rounds) us
  body_times laps [] h k = (tt, tt)
  body_times laps (u ∷ us) h k =
      let here : Member u.outer (times_of (map lap_step laps)) × (u.inner.0 < rounds) = body_time laps u h k.0 in
      let rest : Every (λ u. Member u (times_of (map lap_step laps))) (map (λ u. u.outer) us) × Every (λ u. u.inner.0 < rounds) us = body_times laps us h k.1 in
      ((here.0, rest.0), (here.1, rest.1))

  module _ (lub : T → T → T) where
    -- a bound of times of the body is a round below the rounds of a bound of times of the loop
    pub bound_outer : (laps : List (Lap T F X)) (d : Pair T Round) → Every (IsLap rounds) laps → IsLubOf (pair_lub lub) (times_of (body_steps laps)) d → IsLubOf lub (times_of (map lap_step laps)) d.outer × (d.inner.0 < rounds)
    bound_outer laps d h p =
        let first : Member p.first.outer (times_of (map lap_step laps)) × (p.first.inner.0 < rounds) = body_time laps p.first h p.first_is_time in
        let others : Every (λ u. Member u (times_of (map lap_step laps))) (map (λ u. u.outer) p.others) × Every (λ u. u.inner.0 < rounds) p.others = body_times laps p.others h p.others_are_times in (
          record { first = p.first.outer; others = map (λ u. u.outer) p.others; first_is_time = first.0; others_are_times = others.0; is_lub = ap (λ v. v.outer) p.is_lub ∙ outer_bound lub p.others p.first },
          subst (λ v. v.inner.0 < rounds) (sym p.is_lub) (inner_bound rounds lub p.others p.first first.1 others.1),
        )

    -- so it is with what is due
    pub due_outer : (leq : T → T → Bool) (seal : Pair T Round) (laps : List (Lap T F X)) (due : List (Pair T Round)) → Every (IsLap rounds) laps → Every (λ d. IsLubOf (pair_lub lub) (times_of (body_steps laps)) d × IsTrue (pair_leq leq seal d)) due → Every (λ d. IsLubOf lub (times_of (map lap_step laps)) d × IsTrue (leq seal.outer d)) (map (λ d. d.outer) due) × Every (λ d. d.inner.0 < rounds) due
    due_outer leq seal laps [] h k = (tt, tt)
    due_outer leq seal laps (d ∷ due) h k =
        let here : IsLubOf lub (times_of (map lap_step laps)) d.outer × (d.inner.0 < rounds) = bound_outer laps d h k.0.0 in
        let rest : Every (λ d. IsLubOf lub (times_of (map lap_step laps)) d × IsTrue (leq seal.outer d)) (map (λ d. d.outer) due) × Every (λ d. d.inner.0 < rounds) due = due_outer leq seal laps due h k.1 in
        (((here.0, and_first (leq seal.outer d.outer) (nat_le seal.inner.0 d.inner.0) k.0.1), rest.0), (here.1, rest.1))

  -- ---- no due time is at or below a time of the loop

  module _ (leq : T → T → Bool) where
    lap_ahead : (l : Lap T F X) (due : List (Pair T Round)) → IsLap rounds l → Every (λ d. d.inner.0 < rounds) due → Every (λ s. NoneBelow (pair_leq leq) s due) (times_of (steps_from l.time 0 l.taken)) → NoneBelow leq l.time (map (λ d. d.outer) due)
    lap_ahead l [] h low ahead = tt
    lap_ahead l (d ∷ due) h low ahead =
        let count : length l.taken ≡ rounds = h.count in
        let below : d.inner.0 < rounds = low.0 in
        let is : Member (pair_of l.time (0 + d.inner.0)) (times_of (steps_from l.time 0 l.taken)) = lap_has l.time 0 d.inner.0 l.taken (omega arith) in
        let zero_more : 0 + d.inner.0 ≡ d.inner.0 = omega arith in
        let here : pair_leq leq d (pair_of l.time d.inner.0) ≡ false = (Every-member (λ s. NoneBelow (pair_leq leq) s (d ∷ due)) (times_of (steps_from l.time 0 l.taken)) (pair_of l.time d.inner.0) ahead (subst (λ v. Member (pair_of l.time v) (times_of (steps_from l.time 0 l.taken))) zero_more is)).0 in
        (first_false (leq d.outer l.time) d.inner.0 here, lap_ahead l due h low.1 (Every-map (λ s. NoneBelow (pair_leq leq) s (d ∷ due)) (λ s. NoneBelow (pair_leq leq) s due) (times_of (steps_from l.time 0 l.taken)) (λ s w. w.1) ahead))

    pub laps_ahead : (laps : List (Lap T F X)) (due : List (Pair T Round)) → Every (IsLap rounds) laps → Every (λ d. d.inner.0 < rounds) due → Every (λ s. NoneBelow (pair_leq leq) s due) (times_of (body_steps laps)) → Every (λ t. NoneBelow leq t (map (λ d. d.outer) due)) (times_of (map lap_step laps))
    laps_ahead [] due h low ahead = tt
    laps_ahead (l ∷ ls) due h low ahead =
        let split : Every (λ s. NoneBelow (pair_leq leq) s due) (times_of (steps_from l.time 0 l.taken) ++ times_of (body_steps ls)) = subst (λ v. Every (λ s. NoneBelow (pair_leq leq) s due) v) (times_of-append (steps_from l.time 0 l.taken) (body_steps ls)) ahead in (
          lap_ahead l due h.0 low (Every-append_front (λ s. NoneBelow (pair_leq leq) s due) (times_of (steps_from l.time 0 l.taken)) (times_of (body_steps ls)) split),
          laps_ahead ls due h.1 low (Every-append_back (λ s. NoneBelow (pair_leq leq) s due) (times_of (steps_from l.time 0 l.taken)) (times_of (body_steps ls)) split),
        )

    -- ---- where no time of the loop is at or above t, none of the body is at an outer time at or above t

    lap_above : (s t : T) (k : ℕ) (es : List (Exchange F X)) → leq t s ≡ false → NoOuterAbove leq t (times_of (steps_from s k es))
    lap_above s t k [] h = tt
    lap_above s t k (e ∷ es) h = (h, lap_above s t (suc k) es h)

    pub laps_above : (laps : List (Lap T F X)) (t : T) → NoneAbove leq t (times_of (map lap_step laps)) → NoOuterAbove leq t (times_of (body_steps laps))
    laps_above [] t h = tt
    laps_above (l ∷ ls) t h = subst (λ v. NoOuterAbove leq t v) (sym (times_of-append (steps_from l.time 0 l.taken) (body_steps ls))) (Every-append (λ s. leq t s.outer ≡ false) (times_of (steps_from l.time 0 l.taken)) (times_of (body_steps ls)) (lap_above l.time t 0 l.taken h.0) (laps_above ls t h.1))
