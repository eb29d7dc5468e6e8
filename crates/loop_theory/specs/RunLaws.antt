-- What holds of the runs of a loop.
use Rattle.std.specs.Prelude.{◌≡◌, ℕ, ◌+◌, ◌*◌, ◌<◌, Bool, IsTrue, List, [], ◌∷◌, ◌++◌, length, map, refl}
use Rattle.std.proofs.Common.{arith, ap, sym, subst, ◌∙◌, suc, length-append}
use Rattle.lattice_time.specs.declared.pair.Pair.{Pair}
use Rattle.lattice_time.specs.declared.round.Round.{Round}
use Rattle.weighted.specs.Alike.{Alike}
use Rattle.flow_core.specs.Runs.{Run, Every, Answers, empty_run, sealed, times_of, IsLubOf}
use Rattle.loop_theory.specs.declared.input.LoopInput.{LoopInput}
use Rattle.loop_theory.specs.Loops.{loop_apply, pair_leq, pair_lub, pair_of, Exchange, Lap, IsLap, lap_step, steps_from, body_steps, StandsByLaps}
use Rattle.loop_theory.specs.LoopLaws.{loop_closed, seal_below, none_outer}
use Rattle.loop_theory.specs.TimeLaws.{due_outer, laps_ahead}

one_lap : (a b c n m : ℕ) → a ≡ n → b ≡ m * n → c ≡ a + b → c ≡ (1 + m) * n
one_lap a b c n m p q r = omega arith

no_lap : (n : ℕ) → 0 ≡ 0 * n
no_lap n = omega arith

module _ {T F X : Type 0} where
  -- a run of no steps
  pub laps_fresh : (body : Run (Pair T Round) (LoopInput F X) X → Type 0) (rounds : ℕ) → body empty_run → StandsByLaps body rounds empty_run
  laps_fresh body rounds h = record {
    laps = [];
    steps = refl;
    each = tt;
    sealed = omega arith;
    stands = subst (λ v. body (record { steps = []; before = v; base = 0 })) (no_lap rounds) h;
  }

  -- what the body answers for its run, the loop answers for its own
  pub laps_answers : (leq : T → T → Bool) (lub : T → T → T) (apply : List (LoopInput F X × ℕ) → List (X × ℕ)) → ((xs ys : List (LoopInput F X × ℕ)) → Alike xs ys → Alike (apply xs) (apply ys)) → (seal : Pair T Round) (due : List (Pair T Round)) (body : Run (Pair T Round) (LoopInput F X) X → Type 0) → ((r : Run (Pair T Round) (LoopInput F X) X) → body r → Answers (pair_leq leq) (pair_lub lub) apply seal due r) → (rounds : ℕ) (run : Run T (LoopInput F X) (Round × X)) → seal.inner.0 ≡ 0 → StandsByLaps body rounds run → Answers leq lub (loop_apply apply rounds) seal.outer (map (λ d. d.outer) due) run
  laps_answers leq lub apply respects seal due body answers rounds run level h =
      let inner : Run (Pair T Round) (LoopInput F X) X = record { steps = body_steps h.laps; before = run.before * rounds; base = run.base } in
      let a : Answers (pair_leq leq) (pair_lub lub) apply seal due inner = answers inner h.stands in
      let times : Every (λ d. IsLubOf lub (times_of (map lap_step h.laps)) d × IsTrue (leq seal.outer d)) (map (λ d. d.outer) due) × Every (λ d. d.inner.0 < rounds) due = due_outer rounds lub leq seal h.laps due h.each a.lubs in
      record {
        closed = λ t over below. rw h.steps (loop_closed apply respects leq rounds h.laps h.each t (λ k low. a.closed (pair_of t k) (seal_below leq seal t k level over) (none_outer leq t k due below)));
        lubs = rw h.steps times.0;
        ahead = rw h.steps (laps_ahead rounds leq h.laps due h.each times.1 a.ahead);
      }

  -- ---- a seal

  steps_count : (t : T) (k : ℕ) (es : List (Exchange F X)) → length (steps_from t k es) ≡ length es
  steps_count t k [] = refl
  steps_count t k (e ∷ es) = omega (arith, steps_count t (suc k) es)

  -- the body took one step a round
  laps_count : (rounds : ℕ) (laps : List (Lap T F X)) → Every (IsLap rounds) laps → length (body_steps laps) ≡ length (map (lap_step {T = T} {F = F} {X = X}) laps) * rounds
  laps_count rounds [] h = no_lap rounds
  laps_count rounds (l ∷ ls) h =
      let count : length l.taken ≡ rounds = h.0.count in
      let more : length (map (lap_step {T = T} {F = F} {X = X}) (l ∷ ls)) ≡ 1 + length (map (lap_step {T = T} {F = F} {X = X}) ls) = omega arith in
      one_lap (length (steps_from l.time 0 l.taken)) (length (body_steps ls)) (length (steps_from l.time 0 l.taken ++ body_steps ls)) rounds (length (map (lap_step {T = T} {F = F} {X = X}) ls)) (steps_count l.time 0 l.taken ∙ count) (laps_count rounds ls h.1) (length-append (steps_from l.time 0 l.taken) (body_steps ls))
      ∙ ap (λ v. v * rounds) (sym more)

  pub laps_sealed : (body body' : Run (Pair T Round) (LoopInput F X) X → Type 0) (rounds charge : ℕ) (run : Run T (LoopInput F X) (Round × X)) → ((r : Run (Pair T Round) (LoopInput F X) X) → body r → body' (sealed r charge)) → StandsByLaps body rounds run → StandsByLaps body' rounds (sealed run charge)
  laps_sealed body body' rounds charge run seal h = record {
    laps = h.laps;
    steps = h.steps;
    each = h.each;
    sealed = omega arith;
    stands = subst (λ v. body' (record { steps = body_steps h.laps; before = v; base = charge })) (laps_count rounds h.laps h.each ∙ ap (λ v. length v * rounds) (sym h.steps)) (seal (record { steps = body_steps h.laps; before = run.before * rounds; base = run.base }) h.stands);
  }
