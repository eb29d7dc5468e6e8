-- Rounds of a lap, as the code takes them.
use Rattle.std.proofs.Common.{◌≡◌, ◌∙◌, ◌⊎◌, ℕ, ◌+◌, ◌-◌, ◌<◌, ◌≤◌, Bool, List, [], ◌++◌, refl, ap, sym, subst, inl, inr, arith, zero, suc}
use Rattle.std.specs.Prelude.{IsTrue}
use Rattle.lattice_time.specs.declared.pair.Pair.{Pair}
use Rattle.lattice_time.specs.declared.round.Round.{Round}
use Rattle.weighted.specs.Alike.{Alike, Alike-refl, Alike-is, Alike-trans, Alike-append, Alike-mapped, Alike-negated, negated}
use Rattle.flow_core.specs.Runs.{Run, NoneAbove, NoneBelow, times_of, continued}
use Rattle.loop_theory.specs.declared.input.LoopInput.{LoopInput}
use Rattle.loop_theory.specs.Inputs.{moving, as_moving}
use Rattle.loop_theory.specs.Loops.{in_round, at_round, pair_leq, pair_of}
use Rattle.loop_theory.specs.LoopLaws.{seal_below}
use Rattle.loop_theory.specs.Underway.{Underway, underway_first, underway_more, underway_skip}

module _ {T F X : Type 0} (leq : T → T → Bool) (stood : Run (Pair T Round) (LoopInput F X) X → Type 0) (t : T) where
  -- round 0, and what the loop makes at rounds 0 and 1
  pub begun : (stands : Run (Pair T Round) (LoopInput F X) X → Type 0) (fed : List (LoopInput F X × ℕ)) (moved made gone change : List (X × ℕ)) (old mid new : List ((Round × X) × ℕ)) (charge : ℕ) → ((run : Run (Pair T Round) (LoopInput F X) X) → stood run → NoneAbove (pair_leq leq) (pair_of t 0) (times_of run.steps) → stands (continued run (pair_of t 0) fed made charge)) → Alike moved (moving fed) → gone ≡ negated moved → Alike change (made ++ gone) → old ≡ [] → mid ≡ old ++ at_round 0 moved → new ≡ mid ++ at_round 1 change → Underway leq stood stands t fed 1 change new charge
  begun stands fed moved made gone change old mid new charge runs m n c none p q =
      let away : Alike change (made ++ negated (moving fed)) = Alike-trans c (Alike-append (Alike-refl made) (Alike-trans (Alike-is n) (Alike-negated moved (moving fed) m))) in
      let first : Alike mid (at_round 0 (moving fed)) = Alike-trans (Alike-is (p ∙ ap (λ v. v ++ at_round 0 moved) none)) (Alike-mapped (in_round {X = X} 0) moved (moving fed) m) in
      underway_first leq stood t stands fed made change new charge runs away (Alike-trans (Alike-is q) (Alike-append first (Alike-refl (at_round 1 change))))

  -- a later round; so far the charge rose from begun to was, and with it to then
  pub taken : (stands stands' : Run (Pair T Round) (LoopInput F X) X → Type 0) (fed feed : List (LoopInput F X × ℕ)) (r : ℕ) (change made : List (X × ℕ)) (old new : List ((Round × X) × ℕ)) (begun was then : ℕ) → begun ≤ was → was ≤ then → Underway leq stood stands t fed r change old (was - begun) → 0 < r → Alike feed (as_moving change) → ((run : Run (Pair T Round) (LoopInput F X) X) → stands run → NoneAbove (pair_leq leq) (pair_of t r) (times_of run.steps) → stands' (continued run (pair_of t r) feed made (then - was))) → new ≡ old ++ at_round (r + 1) made → Underway leq stood stands' t fed (r + 1) made new (then - begun)
  taken stands stands' fed feed r change made old new begun was then from to k low fit runs e =
      let up : suc r ≡ r + 1 = omega arith in
      subst (λ n. Underway leq stood stands' t fed (r + 1) made new n) (omega arith) (subst (λ v. Underway leq stood stands' t fed v made new ((was - begun) + (then - was))) up (underway_more leq stood t stands stands' fed feed r change made old new (was - begun) (then - was) k low fit runs (Alike-is (e ∙ ap (λ v. old ++ at_round v made) (sym up)))))

  -- rounds that are skipped
  pub skipped : (stands : Run (Pair T Round) (LoopInput F X) X → Type 0) (due : List (Pair T Round)) (fed : List (LoopInput F X × ℕ)) (r to : ℕ) (change : List (X × ℕ)) (made : List ((Round × X) × ℕ)) (charge : ℕ) → ((k : ℕ) (run : Run (Pair T Round) (LoopInput F X) X) → stands run → NoneAbove (pair_leq leq) (pair_of t k) (times_of run.steps) → NoneBelow (pair_leq leq) (pair_of t k) due → stands (continued run (pair_of t k) [] [] 0)) → 0 < r → r ≤ to → (r < to → change ≡ []) → ((k : ℕ) → r ≤ k → k < to → NoneBelow (pair_leq leq) (pair_of t k) due) → Underway leq stood stands t fed r change made charge → Underway leq stood stands t fed to change made charge
  skipped stands due fed r to change made charge idle low order none below k = elim (apart r to order) [
    | inl same ↦ subst (λ v. Underway leq stood stands t fed v change made charge) same k
    | inr more ↦ subst (λ v. Underway leq stood stands t fed to v made charge) (sym (none more.1.0)) (subst (λ v. Underway leq stood stands t fed v [] made charge) more.1.1 (underway_skip leq stood t stands fed more.0 r made charge (λ j small large run h above. idle j run h above (below j small (subst (λ v. j < v) more.1.1 large))) low (subst (λ v. Underway leq stood stands t fed r v made charge) (none more.1.0) k)))
  ] where
    apart : (r to : ℕ) → r ≤ to → (r ≡ to) ⊎ ((n : ℕ) × ((r < to) × (r + n ≡ to)))
    apart zero zero h = inl refl
    apart zero (suc to) h = inr (suc to, (omega arith, omega arith))
    apart (suc r) zero h = absurd (omega arith)
    apart (suc r) (suc to) h = elim (apart r to (omega arith)) [
      | inl e ↦ inl (ap suc e)
      | inr w ↦ inr (w.0, ((let a : r < to = w.1.0 in omega arith), (let b : r + w.0 ≡ to = w.1.1 in omega arith)))
    ]

  -- the whole lap, made a batch
  pub finished : (stands : Run (Pair T Round) (LoopInput F X) X → Type 0) (fed : List (LoopInput F X × ℕ)) (r rounds : ℕ) (change : List (X × ℕ)) (entries made : List ((Round × X) × ℕ)) (charge : ℕ) → r ≤ rounds → rounds ≤ r → Underway leq stood stands t fed r change entries charge → Alike made entries → ((last : List (X × ℕ)) × Underway leq stood stands t fed rounds last made charge)
  finished stands fed r rounds change entries made charge most least k a =
      let same : r ≡ rounds = omega arith in
      let whole : Underway leq stood stands t fed r change made charge = record { taken = k.taken; count = k.count; goes = k.goes; next = k.next; gives = Alike-trans a k.gives; charged = k.charged; runs = k.runs } in
      (change, subst (λ v. Underway leq stood stands t fed v change made charge) same whole)

-- a seal that was kept is at or below each round
pub kept_below : {T : Type 0} (leq : T → T → Bool) (t : T) (old new : Pair T Round) → new ≡ old → old.inner.0 ≡ 0 → IsTrue (leq old.outer t) → (k : ℕ) → IsTrue (pair_leq leq new (pair_of t k))
kept_below leq t old new same level over k = subst (λ v. IsTrue (pair_leq leq v (pair_of t k))) (sym same) (seal_below leq old t k level over)
