-- A loop: at each round its body was fed, and made, what that many applications give.
use Rattle.std.specs.Prelude.{◌≡◌, ℕ, ◌<◌, ◌≤◌, ◌&&◌, nat_le, Bool, true, false, IsTrue, List, [], ◌∷◌, ◌++◌, map, refl}
use Rattle.std.proofs.Common.{arith, ap, sym, zero, suc}
use Rattle.std.proofs.lemmas.Bool.Decides.{nat_tests}
use Rattle.lattice_time.specs.LatticeLaws.{and_both, zero_is_least}
use Rattle.lattice_time.specs.declared.pair.Pair.{Pair}
use Rattle.lattice_time.specs.declared.round.Round.{Round}
use Rattle.weighted.specs.Alike.{Alike, Alike-refl, Alike-is, Alike-trans, Alike-append, Alike-mapped}
use Rattle.flow_core.specs.Runs.{Every, NoneBelow, Answers, fed_to, made_to}
use Rattle.loop_theory.specs.declared.input.LoopInput.{LoopInput}
use Rattle.loop_theory.specs.declared.input.LoopInput.TheVariants.{Moving}
use Rattle.loop_theory.specs.Inputs.{fixed, as_moving, Alike-fixed, Alike-moving}
use Rattle.loop_theory.specs.Loops.{after_rounds, loop_apply, pair_leq, pair_lub, pair_of, Lap, IsLap, lap_step, body_steps}
use Rattle.loop_theory.specs.Rounds.{changes_same}
use Rattle.loop_theory.specs.LapLaws.{came_to, laps_fed, laps_made, laps_begin, laps_give}

-- ---- one collection has one loop

module _ {F X : Type 0} (body : List (LoopInput F X × ℕ) → List (X × ℕ)) (respects : (xs ys : List (LoopInput F X × ℕ)) → Alike xs ys → Alike (body xs) (body ys)) where
  after_respects : (xs ys : List (LoopInput F X × ℕ)) (q : ℕ) → Alike xs ys → Alike (after_rounds body xs q) (after_rounds body ys q)
  after_respects xs ys zero h = Alike-moving xs ys h
  after_respects xs ys (suc q) h = respects (fixed xs ++ as_moving (after_rounds body xs q)) (fixed ys ++ as_moving (after_rounds body ys q)) (Alike-append (Alike-fixed xs ys h) (Alike-mapped Moving (after_rounds body xs q) (after_rounds body ys q) (after_respects xs ys q h)))

  pub loop_respects : (rounds : ℕ) (xs ys : List (LoopInput F X × ℕ)) → Alike xs ys → Alike (loop_apply body rounds xs) (loop_apply body rounds ys)
  loop_respects rounds xs ys h = changes_same (after_rounds body xs) (after_rounds body ys) rounds (λ q _. after_respects xs ys q h)

  -- ---- by rounds: it needs of the body that it answers up to the round

  module _ {T : Type 0} (leq : T → T → Bool) (rounds : ℕ) (laps : List (Lap T F X)) (each : Every (IsLap rounds) laps) (t : T) where
    -- what the body made up to a round is its function of what it was fed
    abbrev pub ClosedAt : ℕ → Type 0
    ClosedAt r = Alike (made_to (pair_leq leq) (body_steps laps) (pair_of t r)) (body (fed_to (pair_leq leq) (body_steps laps) (pair_of t r)))

    loop_at : (q : ℕ) → q ≤ rounds → ((k : ℕ) → k < q → ClosedAt k) → Alike (came_to leq laps t q) (after_rounds body (fed_to leq (map lap_step laps) t) q)
    loop_at zero low closed = Alike-is (laps_begin leq laps t)
    loop_at (suc q) low closed =
        let input : List (LoopInput F X × ℕ) = fed_to leq (map lap_step laps) t in
        let before : Alike (came_to leq laps t q) (after_rounds body input q) = loop_at q (omega arith) (λ k less. closed k (omega arith)) in
        let fed : Alike (fed_to (pair_leq leq) (body_steps laps) (pair_of t q)) (fixed input ++ as_moving (after_rounds body input q)) = Alike-trans (laps_fed leq rounds laps t q (omega arith) each) (Alike-append (Alike-refl (fixed input)) (Alike-mapped Moving (came_to leq laps t q) (after_rounds body input q) before)) in
        Alike-trans (Alike-is (sym (laps_made leq laps t q))) (Alike-trans (closed q (omega arith)) (respects (fed_to (pair_leq leq) (body_steps laps) (pair_of t q)) (fixed input ++ as_moving (after_rounds body input q)) fed))

    -- at a round the body was fed the fixed part and what so many applications give
    pub loop_fed : (r : ℕ) → r < rounds → ((k : ℕ) → k < r → ClosedAt k) → Alike (fed_to (pair_leq leq) (body_steps laps) (pair_of t r)) (fixed (fed_to leq (map lap_step laps) t) ++ as_moving (after_rounds body (fed_to leq (map lap_step laps) t) r))
    loop_fed r low closed = Alike-trans (laps_fed leq rounds laps t r low each) (Alike-append (Alike-refl (fixed (fed_to leq (map lap_step laps) t))) (Alike-mapped Moving (came_to leq laps t r) (after_rounds body (fed_to leq (map lap_step laps) t) r) (loop_at r (omega arith) closed)))

    -- and made what one more gives
    pub loop_made : (r : ℕ) → r < rounds → ((k : ℕ) → k ≤ r → ClosedAt k) → Alike (made_to (pair_leq leq) (body_steps laps) (pair_of t r)) (after_rounds body (fed_to leq (map lap_step laps) t) (suc r))
    loop_made r low closed = Alike-trans (Alike-is (laps_made leq laps t r)) (loop_at (suc r) (omega arith) (λ k less. closed k (omega arith)))

    -- so the loop made its function of what came in
    pub loop_closed : ((k : ℕ) → k < rounds → ClosedAt k) → Alike (made_to leq (map lap_step laps) t) (loop_apply body rounds (fed_to leq (map lap_step laps) t))
    loop_closed closed = Alike-trans (laps_give leq rounds laps t each) (changes_same (came_to leq laps t) (after_rounds body (fed_to leq (map lap_step laps) t)) rounds (λ q low. loop_at q low (λ k less. closed k (omega arith))))

-- ---- where the body answers

-- a seal at round 0 is at or below each round where its outer time is at or below
pub seal_below : {T : Type 0} (leq : T → T → Bool) (seal : Pair T Round) (t : T) (k : ℕ) → seal.inner.0 ≡ 0 → IsTrue (leq seal.outer t) → IsTrue (pair_leq leq seal (pair_of t k))
seal_below leq seal t k level over = and_both (leq seal.outer t) (nat_le seal.inner.0 k) over (rw level (zero_is_least k))

earlier_by : (a : Bool) (n k r : ℕ) → k ≤ r → (a && nat_le n r) ≡ false → (a && nat_le n k) ≡ false
earlier_by false n k r low h = refl
earlier_by true n k r low h = not_up n k r low h where
  not_up : (n k r : ℕ) → k ≤ r → nat_le n r ≡ false → nat_le n k ≡ false
  not_up n k r low h = grind (arith, nat_tests)

-- what is not due at or below a round is not due at or below an earlier one
pub none_earlier : {T : Type 0} (leq : T → T → Bool) (t : T) (k r : ℕ) (due : List (Pair T Round)) → k ≤ r → NoneBelow (pair_leq leq) (pair_of t r) due → NoneBelow (pair_leq leq) (pair_of t k) due
none_earlier leq t k r [] low h = tt
none_earlier leq t k r (d ∷ due) low h = (earlier_by (leq d.outer t) d.inner.0 k r low h.0, none_earlier leq t k r due low h.1)

-- where no outer time is due at or below t, none is at a round of t
pub none_outer : {T : Type 0} (leq : T → T → Bool) (t : T) (k : ℕ) (due : List (Pair T Round)) → NoneBelow leq t (map (λ d. d.outer) due) → NoneBelow (pair_leq leq) (pair_of t k) due
none_outer leq t k [] h = tt
none_outer leq t k (d ∷ due) h = (ap (λ v. v && nat_le d.inner.0 k) h.0, none_outer leq t k due h.1)

-- what holds at a round r of an outer time at or above the seal, with nothing due at or below it: what the body was fed
-- sums to the fixed part and what r applications give, and what it made to what r + 1 give
pub record HoldsAtRound {T F X : Type 0} (leq : T → T → Bool) (body : List (LoopInput F X × ℕ) → List (X × ℕ)) (laps : List (Lap T F X)) (t : T) (r : ℕ) : Type 0 where
  pub fed : Alike (fed_to (pair_leq leq) (body_steps laps) (pair_of t r)) (fixed (fed_to leq (map lap_step laps) t) ++ as_moving (after_rounds body (fed_to leq (map lap_step laps) t) r))
  pub made : Alike (made_to (pair_leq leq) (body_steps laps) (pair_of t r)) (after_rounds body (fed_to leq (map lap_step laps) t) (suc r))

pub loop_rounds : {T F X : Type 0} (leq : T → T → Bool) (lub : T → T → T) (body : List (LoopInput F X × ℕ) → List (X × ℕ)) → ((xs ys : List (LoopInput F X × ℕ)) → Alike xs ys → Alike (body xs) (body ys)) → (seal : Pair T Round) (due : List (Pair T Round)) (rounds : ℕ) (laps : List (Lap T F X)) (before base : ℕ) → Every (IsLap rounds) laps → Answers (pair_leq leq) (pair_lub lub) body seal due (record { steps = body_steps laps; before = before; base = base }) → (t : T) (r : ℕ) → r < rounds → seal.inner.0 ≡ 0 → IsTrue (leq seal.outer t) → NoneBelow (pair_leq leq) (pair_of t r) due → HoldsAtRound leq body laps t r
loop_rounds leq lub body respects seal due rounds laps before base each answers t r low level over below =
    let closed : (k : ℕ) → k ≤ r → Alike (made_to (pair_leq leq) (body_steps laps) (pair_of t k)) (body (fed_to (pair_leq leq) (body_steps laps) (pair_of t k))) = (λ k less. answers.closed (pair_of t k) (seal_below leq seal t k level over) (none_earlier leq t k r due less below)) in
    record { fed = loop_fed body respects leq rounds laps each t r low (λ k less. closed k (omega arith)); made = loop_made body respects leq rounds laps each t r low closed }
