-- A lap on its way, round by round.
use Rattle.std.specs.Prelude.{◌≡◌, ℕ, ◌+◌, ◌*◌, ◌<◌, ◌≤◌, ◌&&◌, nat_le, Bool, true, false, List, [], ◌∷◌, ◌++◌, length, map, refl}
use Rattle.std.proofs.Common.{arith, ap, sym, subst, ◌∙◌, zero, suc, append_assoc, append-nil, length-append}
use Rattle.std.proofs.lemmas.Bool.Decides.{nat_tests}
use Rattle.std.proofs.lemmas.List.{map-append}
use Rattle.lattice_time.specs.declared.pair.Pair.{Pair}
use Rattle.lattice_time.specs.declared.round.Round.{Round}
use Rattle.weighted.specs.Alike.{Alike, Alike-refl, Alike-is, Alike-sym, Alike-trans, Alike-append, Alike-mapped, negated}
use Rattle.flow_core.specs.Runs.{Step, Run, NoneAbove, times_of, continued}
use Rattle.flow_core.specs.Lists.{Every-append}
use Rattle.loop_theory.specs.declared.input.LoopInput.{LoopInput}
use Rattle.loop_theory.specs.declared.input.LoopInput.TheVariants.{Moving}
use Rattle.loop_theory.specs.Inputs.{moving, as_moving}
use Rattle.loop_theory.specs.Loops.{in_round, at_round, changes, pair_leq, pair_of, Exchange, charge_of, FedBy, IsFed, first_of, came, Lap, IsLap, lap_step, steps_from, body_steps, StandsByLaps, last_made, next_change, NoOuterAbove, extended}
use Rattle.loop_theory.specs.Rounds.{Alike-grown, first_old, first_more, changes_same}
use Rattle.flow_core.specs.RunLaws.{times_of-append}
use Rattle.loop_theory.specs.LapLaws.{and_false, not_le}
use Rattle.loop_theory.specs.TimeLaws.{laps_above}

-- so far the body took these rounds of a lap, and stands for each run for which it stood with their steps after it: the
-- change that the next round is to be fed, what the loop made up to it, and what the body was charged
pub record Underway {T F X : Type 0} (leq : T → T → Bool) (stood stands : Run (Pair T Round) (LoopInput F X) X → Type 0) (t : T) (fed : List (LoopInput F X × ℕ)) (rounds : ℕ) (change : List (X × ℕ)) (made : List ((Round × X) × ℕ)) (charge : ℕ) : Type 0 where
  pub taken : List (Exchange F X)
  pub count : length taken ≡ rounds
  pub goes : IsFed fed taken
  pub next : Alike change (next_change fed taken)
  pub gives : Alike made (changes (came fed taken) rounds)
  pub charged : charge_of taken ≡ charge
  pub runs : (run : Run (Pair T Round) (LoopInput F X) X) → stood run → NoOuterAbove leq t (times_of run.steps) → stands (extended run (steps_from t 0 taken))

-- ---- times

module _ {T : Type 0} (leq : T → T → Bool) where
  pub outer_above : (t : T) (r : ℕ) (times : List (Pair T Round)) → NoOuterAbove leq t times → NoneAbove (pair_leq leq) (pair_of t r) times
  outer_above t r [] h = tt
  outer_above t r (s ∷ times) h = (ap (λ v. v && nat_le r s.inner.0) h.0, outer_above t r times h.1)

  module _ {F X : Type 0} where
    rounds_above : (t : T) (r k : ℕ) (es : List (Exchange F X)) → k + length es ≤ r → NoneAbove (pair_leq leq) (pair_of t r) (times_of (steps_from t k es))
    rounds_above t r k [] h = tt
    rounds_above t r k (e ∷ es) h = (ap (λ v. leq t t && v) (not_le r k (omega arith)) ∙ and_false (leq t t), rounds_above t r (suc k) es (omega arith))

    -- no time of the run so far is at or above the next round
    pub above_next : (t : T) (r : ℕ) (run : Run (Pair T Round) (LoopInput F X) X) (es : List (Exchange F X)) → length es ≤ r → NoOuterAbove leq t (times_of run.steps) → NoneAbove (pair_leq leq) (pair_of t r) (times_of (run.steps ++ steps_from t 0 es))
    above_next t r run es h above = subst (λ v. NoneAbove (pair_leq leq) (pair_of t r) v) (sym (times_of-append run.steps (steps_from t 0 es))) (Every-append (λ s. pair_leq leq (pair_of t r) s ≡ false) (times_of run.steps) (times_of (steps_from t 0 es)) (outer_above t r (times_of run.steps) above) (rounds_above t r 0 es (omega arith)))

-- ---- one more exchange

module _ {F X : Type 0} where
  steps_more : {T : Type 0} (t : T) (k r : ℕ) (es : List (Exchange F X)) (e : Exchange F X) → k + length es ≡ r → steps_from t k (es ++ e ∷ []) ≡ steps_from t k es ++ record { time = pair_of t r; fed = e.fed; made = e.made; charge = e.charge } ∷ []
  steps_more t k r [] e h = ap (λ v. record { time = pair_of t v; fed = e.fed; made = e.made; charge = e.charge } ∷ []) (omega arith)
  steps_more t k r (x ∷ es) e h = ap (λ v. record { time = pair_of t k; fed = x.fed; made = x.made; charge = x.charge } ∷ v) (steps_more t (suc k) r es e (omega arith))

  charge_more : (es : List (Exchange F X)) (e : Exchange F X) → charge_of (es ++ e ∷ []) ≡ charge_of es + e.charge
  charge_more [] e = omega arith
  charge_more (x ∷ es) e = omega (arith, charge_more es e)

  fed_more : (change : List (X × ℕ)) (es : List (Exchange F X)) (e : Exchange F X) → FedBy change es → Alike e.fed (as_moving (last_made change es)) → FedBy change (es ++ e ∷ [])
  fed_more change [] e h k = (k, tt)
  fed_more change (x ∷ es) e h k = (h.0, fed_more x.made es e h.1 k)

  last_more : (change : List (X × ℕ)) (es : List (Exchange F X)) (e : Exchange F X) → last_made change (es ++ e ∷ []) ≡ e.made
  last_more change [] e = refl
  last_more change (x ∷ es) e = last_more x.made es e

  lap_goes : (fed : List (LoopInput F X × ℕ)) (es : List (Exchange F X)) (e : Exchange F X) → 0 < length es → IsFed fed es → Alike e.fed (as_moving (next_change fed es)) → IsFed fed (es ++ e ∷ [])
  lap_goes fed [] e low h k = absurd (omega arith)
  lap_goes fed (x ∷ es) e low h k = (h.0, fed_more (x.made ++ negated (moving fed)) es e h.1 k)

  lap_next : (fed : List (LoopInput F X × ℕ)) (es : List (Exchange F X)) (e : Exchange F X) → 0 < length es → next_change fed (es ++ e ∷ []) ≡ e.made
  lap_next fed [] e low = absurd (omega arith)
  lap_next fed (x ∷ es) e low = last_more (x.made ++ negated (moving fed)) es e

  came_old : (fed : List (LoopInput F X × ℕ)) (es : List (Exchange F X)) (e : Exchange F X) (q : ℕ) → q ≤ length es → came fed (es ++ e ∷ []) q ≡ came fed es q
  came_old fed es e zero low = refl
  came_old fed es e (suc q) low = first_old (λ e. e.made) (suc q) es (e ∷ []) low

  came_is : (fed : List (LoopInput F X × ℕ)) (es : List (Exchange F X)) (q : ℕ) → 0 < q → came fed es q ≡ first_of (λ e. e.made) q es
  came_is fed es zero low = absurd (omega arith)
  came_is fed es (suc q) low = refl

  lap_gives : (fed : List (LoopInput F X × ℕ)) (es : List (Exchange F X)) (e : Exchange F X) (r : ℕ) (made made' : List ((Round × X) × ℕ)) → 0 < r → length es ≡ r → Alike made (changes (came fed es) r) → Alike made' (made ++ at_round (suc r) e.made) → Alike made' (changes (came fed (es ++ e ∷ [])) (suc r))
  lap_gives fed es e r made made' low count h k =
      let old : Alike (changes (came fed es) r) (changes (came fed (es ++ e ∷ [])) r) = changes_same (came fed es) (came fed (es ++ e ∷ [])) r (λ q small. Alike-is (sym (came_old fed es e q (omega arith)))) in
      let before : came fed (es ++ e ∷ []) r ≡ came fed es r = came_old fed es e r (omega arith) in
      let after : came fed (es ++ e ∷ []) (suc r) ≡ came fed es r ++ e.made = first_more (λ e. e.made) r es e count ∙ ap (λ v. v ++ e.made) (sym (came_is fed es r low)) in
      let grown : Alike e.made (came fed (es ++ e ∷ []) (suc r) ++ negated (came fed (es ++ e ∷ []) r)) = Alike-trans (Alike-sym (Alike-grown (came fed es r) e.made)) (Alike-is (ap (λ v. v ++ negated (came fed es r)) (sym after) ∙ ap (λ v. came fed (es ++ e ∷ []) (suc r) ++ negated v) (sym before))) in
      Alike-trans k (Alike-append (Alike-trans h old) (Alike-mapped (in_round {X = X} (suc r)) e.made (came fed (es ++ e ∷ []) (suc r) ++ negated (came fed (es ++ e ∷ []) r)) grown))

-- ---- rounds that are taken

module _ {T F X : Type 0} (leq : T → T → Bool) (stood : Run (Pair T Round) (LoopInput F X) X → Type 0) (t : T) where
  -- no round yet
  pub underway_none : (fed : List (LoopInput F X × ℕ)) (change : List (X × ℕ)) (made : List ((Round × X) × ℕ)) → Alike change (moving fed) → Alike made (at_round 0 (moving fed)) → Underway leq stood stood t fed 0 change made 0
  underway_none fed change made c m = record {
    taken = [];
    count = refl;
    goes = tt;
    next = c;
    gives = m;
    charged = refl;
    runs = λ run h above. subst (λ v. stood (record { steps = v; before = run.before; base = run.base })) (sym (append-nil run.steps)) h;
  }

  -- round 0
  pub underway_first : (stands : Run (Pair T Round) (LoopInput F X) X → Type 0) (fed : List (LoopInput F X × ℕ)) (out change : List (X × ℕ)) (made : List ((Round × X) × ℕ)) (n : ℕ) → ((run : Run (Pair T Round) (LoopInput F X) X) → stood run → NoneAbove (pair_leq leq) (pair_of t 0) (times_of run.steps) → stands (continued run (pair_of t 0) fed out n)) → Alike change (out ++ negated (moving fed)) → Alike made (at_round 0 (moving fed) ++ at_round 1 change) → Underway leq stood stands t fed 1 change made n
  underway_first stands fed out change made n runs c m = record {
    taken = record { fed = fed; made = out; charge = n } ∷ [];
    count = refl;
    goes = (Alike-refl fed, tt);
    next = c;
    gives = Alike-trans m (Alike-append (Alike-refl (at_round 0 (moving fed))) (Alike-mapped (in_round {X = X} 1) change ((out ++ []) ++ negated (moving fed)) (rw (append-nil out) c)));
    charged = omega arith;
    runs = λ run h above. runs run h (outer_above leq t 0 (times_of run.steps) above);
  }

  -- a later round
  pub underway_more : (stands stands' : Run (Pair T Round) (LoopInput F X) X → Type 0) (fed feed : List (LoopInput F X × ℕ)) (r : ℕ) (change out : List (X × ℕ)) (made made' : List ((Round × X) × ℕ)) (m n : ℕ) → Underway leq stood stands t fed r change made m → 0 < r → Alike feed (as_moving change) → ((run : Run (Pair T Round) (LoopInput F X) X) → stands run → NoneAbove (pair_leq leq) (pair_of t r) (times_of run.steps) → stands' (continued run (pair_of t r) feed out n)) → Alike made' (made ++ at_round (suc r) out) → Underway leq stood stands' t fed (suc r) out made' (m + n)
  underway_more stands stands' fed feed r change out made made' m n k low fit runs given =
      let e : Exchange F X = record { fed = feed; made = out; charge = n } in
      let count : length k.taken ≡ r = k.count in
      let some : 0 < length k.taken = omega arith in
      let step : Step (Pair T Round) (LoopInput F X) X = record { time = pair_of t r; fed = feed; made = out; charge = n } in
      record {
        taken = k.taken ++ e ∷ [];
        count = omega (arith, length-append k.taken (e ∷ []));
        goes = lap_goes fed k.taken e some k.goes (Alike-trans fit (Alike-mapped Moving change (next_change fed k.taken) k.next));
        next = Alike-is (sym (lap_next fed k.taken e some));
        gives = lap_gives fed k.taken e r made made' low count k.gives given;
        charged = omega (arith, charge_more k.taken e, k.charged);
        runs = λ run h above.
            let steps : steps_from t 0 (k.taken ++ e ∷ []) ≡ steps_from t 0 k.taken ++ step ∷ [] = steps_more t 0 r k.taken e (omega arith) in
            let whole : (run.steps ++ steps_from t 0 k.taken) ++ step ∷ [] ≡ run.steps ++ steps_from t 0 (k.taken ++ e ∷ []) = append_assoc run.steps (steps_from t 0 k.taken) (step ∷ []) ∙ ap (λ v. run.steps ++ v) (sym steps) in
            subst (λ v. stands' (record { steps = v; before = run.before; base = run.base })) whole (runs (extended run (steps_from t 0 k.taken)) (k.runs run h above) (above_next leq t r run k.taken (omega arith) above));
      }

  -- ---- rounds that are skipped stand in the run as steps that are fed nothing

  pub underway_skip : (stands : Run (Pair T Round) (LoopInput F X) X → Type 0) (fed : List (LoopInput F X × ℕ)) (n r : ℕ) (made : List ((Round × X) × ℕ)) (m : ℕ) → ((k : ℕ) → r ≤ k → k < r + n → (run : Run (Pair T Round) (LoopInput F X) X) → stands run → NoneAbove (pair_leq leq) (pair_of t k) (times_of run.steps) → stands (continued run (pair_of t k) [] [] 0)) → 0 < r → Underway leq stood stands t fed r [] made m → Underway leq stood stands t fed (r + n) [] made m
  underway_skip stands fed zero r made m idle low k = subst (λ v. Underway leq stood stands t fed v [] made m) (omega arith) k
  underway_skip stands fed (suc n) r made m idle low k =
      let one : Underway leq stood stands t fed (suc r) [] made m = subst (λ v. Underway leq stood stands t fed (suc r) [] made v) (omega arith) (underway_more stands stands fed [] r [] [] made made m 0 k low (Alike-refl []) (idle r (omega arith) (omega arith)) (Alike-is (sym (append-nil made)))) in
      subst (λ v. Underway leq stood stands t fed v [] made m) (omega arith) (underway_skip stands fed n (suc r) made m (λ j small large. idle j (omega arith) (omega arith)) (omega arith) one)

-- ---- a lap that is whole

module _ {T F X : Type 0} (leq : T → T → Bool) where
  body_more : (ls : List (Lap T F X)) (l : Lap T F X) → body_steps (ls ++ l ∷ []) ≡ body_steps ls ++ steps_from l.time 0 l.taken
  body_more [] l = append-nil (steps_from l.time 0 l.taken)
  body_more (k ∷ ls) l = ap (λ v. steps_from k.time 0 k.taken ++ v) (body_more ls l) ∙ sym (append_assoc (steps_from k.time 0 k.taken) (body_steps ls) (steps_from l.time 0 l.taken))

  -- one more step of the loop
  pub laps_continued : (body body' : Run (Pair T Round) (LoopInput F X) X → Type 0) (rounds : ℕ) (run : Run T (LoopInput F X) (Round × X)) (t : T) (fed : List (LoopInput F X × ℕ)) (change : List (X × ℕ)) (made : List ((Round × X) × ℕ)) (charge : ℕ) → Underway leq body body' t fed rounds change made charge → StandsByLaps body rounds run → NoneAbove leq t (times_of run.steps) → StandsByLaps body' rounds (continued run t fed made charge)
  laps_continued body body' rounds run t fed change made charge k h above =
      let lap : Lap T F X = record { time = t; fed = fed; taken = k.taken; made = made; charge = charge } in
      let step : Step T (LoopInput F X) (Round × X) = record { time = t; fed = fed; made = made; charge = charge } in
      let times : NoneAbove leq t (times_of (map lap_step h.laps)) = subst (λ v. NoneAbove leq t (times_of v)) h.steps above in
      record {
        laps = h.laps ++ lap ∷ [];
        steps = ap (λ v. v ++ step ∷ []) h.steps ∙ sym (map-append lap_step h.laps (lap ∷ []));
        each = Every-append (IsLap rounds) h.laps (lap ∷ []) h.each (record { count = k.count; goes = k.goes; gives = k.gives; charge = sym k.charged }, tt);
        sealed = omega (arith, h.sealed, length-append run.steps (step ∷ []));
        stands = subst (λ v. body' (record { steps = v; before = run.before * rounds; base = run.base })) (sym (body_more h.laps lap)) (k.runs (record { steps = body_steps h.laps; before = run.before * rounds; base = run.base }) h.stands (laps_above rounds leq h.laps t times));
      }

  -- a lap of which each round is skipped
  idle_lap : (body : Run (Pair T Round) (LoopInput F X) X → Type 0) (t : T) (n : ℕ) → ((k : ℕ) (run : Run (Pair T Round) (LoopInput F X) X) → body run → NoneAbove (pair_leq leq) (pair_of t k) (times_of run.steps) → body (continued run (pair_of t k) [] [] 0)) → Underway leq body body t [] n [] [] 0
  idle_lap body t zero idle = underway_none leq body t [] [] [] (Alike-refl []) (Alike-refl [])
  idle_lap body t (suc n) idle = subst (λ v. Underway leq body body t [] v [] [] 0) (omega arith) (underway_skip leq body t body [] n 1 [] 0 (λ k _ _. idle k) (omega arith) (underway_first leq body t body [] [] [] [] 0 (idle 0) (Alike-refl []) (Alike-refl [])))

  -- a step of the loop that is fed nothing, where nothing is due, need not be taken
  pub laps_idle : (body : Run (Pair T Round) (LoopInput F X) X → Type 0) (rounds : ℕ) (run : Run T (LoopInput F X) (Round × X)) (t : T) → ((k : ℕ) (run : Run (Pair T Round) (LoopInput F X) X) → body run → NoneAbove (pair_leq leq) (pair_of t k) (times_of run.steps) → body (continued run (pair_of t k) [] [] 0)) → StandsByLaps body rounds run → NoneAbove leq t (times_of run.steps) → StandsByLaps body rounds (continued run t [] [] 0)
  laps_idle body rounds run t idle h above = laps_continued body body rounds run t [] [] [] 0 (idle_lap body t rounds idle) h above
