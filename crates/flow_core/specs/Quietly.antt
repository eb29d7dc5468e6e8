-- The runs of an operator that is handed an updater of its own.
use Rattle.std.specs.Prelude.{◌≡◌, ℕ, ◌≤◌, Bool, IsTrue, List, [], ◌∷◌, ◌++◌, length, map, if◌then◌else◌, refl}
use Rattle.std.proofs.Common.{arith, ap}
use Rattle.std.proofs.lemmas.List.{map-append}
use Rattle.flow_core.specs.Linear.{paid_nothing}
use Rattle.flow_core.specs.Runs.{Step, Run, Every, Answers, NoneAbove, NoneBelow, continued, empty_run, fed_to, made_to, sealed, times_of}

-- a step, of which nothing is charged outside
abbrev pub uncharged : {T I O : Type 0} → Step T I O → Step T I O
uncharged s = record { time = s.time; fed = s.fed; made = s.made; charge = 0 }

-- the operator inside stands for the run, whatever its steps were charged and it was at the seal; and outside nothing was
-- ever charged
pub record StandsQuietly {T I O : Type 0} (stands : Run T I O → Type 0) (run : Run T I O) : Type 0 where
  pub charged : List (Step T I O)
  pub inner_base : ℕ
  pub steps : run.steps ≡ map uncharged charged
  pub inner : stands (record { steps = charged; before = run.before; base = inner_base })
  pub base : run.base ≡ 0

module _ {T I O : Type 0} where
  pub quiet_fed : (leq : T → T → Bool) (ss : List (Step T I O)) (t : T) → fed_to leq (map uncharged ss) t ≡ fed_to leq ss t
  quiet_fed leq [] t = refl
  quiet_fed leq (s ∷ ss) t = ap (λ v. (if leq s.time t then s.fed else []) ++ v) (quiet_fed leq ss t)

  pub quiet_made : (leq : T → T → Bool) (ss : List (Step T I O)) (t : T) → made_to leq (map uncharged ss) t ≡ made_to leq ss t
  quiet_made leq [] t = refl
  quiet_made leq (s ∷ ss) t = ap (λ v. (if leq s.time t then s.made else []) ++ v) (quiet_made leq ss t)

  quiet_times : (ss : List (Step T I O)) → times_of (map uncharged ss) ≡ times_of ss
  quiet_times [] = refl
  quiet_times (s ∷ ss) = ap (λ v. s.time ∷ v) (quiet_times ss)

  quiet_length : (ss : List (Step T I O)) → length (map uncharged ss) ≡ length ss
  quiet_length [] = refl
  quiet_length (s ∷ ss) = omega (arith, quiet_length ss)

  -- where no step of the whole is at or above a time, none inside is
  pub quiet_above : (leq : T → T → Bool) (t : T) (ss steps : List (Step T I O)) → steps ≡ map uncharged ss → NoneAbove leq t (times_of steps) → NoneAbove leq t (times_of ss)
  quiet_above leq t ss steps is h = rw (← quiet_times ss, ← is) h

  pub quiet_fresh : (stands : Run T I O → Type 0) → stands empty_run → StandsQuietly stands empty_run
  quiet_fresh stands h = record { charged = []; inner_base = 0; steps = refl; inner = h; base = refl }

  pub quiet_answers : (leq : T → T → Bool) (lub : T → T → T) (apply : List (I × ℕ) → List (O × ℕ)) (seal : T) (due : List T) (stands : Run T I O → Type 0) → ((r : Run T I O) → stands r → Answers leq lub apply seal due r) → (run : Run T I O) → StandsQuietly stands run → Answers leq lub apply seal due run
  quiet_answers leq lub apply seal due stands answers run h =
      let inner : Answers leq lub apply seal due (record { steps = h.charged; before = run.before; base = h.inner_base }) = answers (record { steps = h.charged; before = run.before; base = h.inner_base }) h.inner in
      record {
        closed = λ t over below. rw (h.steps, quiet_made leq h.charged t, quiet_fed leq h.charged t) (inner.closed t over below);
        lubs = rw (h.steps, quiet_times h.charged) inner.lubs;
        ahead = rw (h.steps, quiet_times h.charged) inner.ahead;
      }

  -- one more step, whatever it is charged inside
  pub quiet_continued : (leq : T → T → Bool) (old new : Run T I O → Type 0) (run : Run T I O) (t : T) (fed : List (I × ℕ)) (made : List (O × ℕ)) (charge : ℕ) → ((r : Run T I O) → old r → NoneAbove leq t (times_of r.steps) → new (continued r t fed made charge)) → StandsQuietly old run → NoneAbove leq t (times_of run.steps) → StandsQuietly new (continued run t fed made 0)
  quiet_continued leq old new run t fed made charge step h above =
      let last : Step T I O = record { time = t; fed = fed; made = made; charge = charge } in
      record {
        charged = h.charged ++ last ∷ [];
        inner_base = h.inner_base;
        steps = rw (h.steps, map-append uncharged h.charged (last ∷ [])) refl;
        inner = step (record { steps = h.charged; before = run.before; base = h.inner_base }) h.inner (quiet_above leq t h.charged run.steps h.steps above);
        base = h.base;
      }

  pub quiet_idle : (leq : T → T → Bool) (seal : T) (due : List T) (stands : Run T I O → Type 0) → ((r : Run T I O) (u : T) → stands r → NoneAbove leq u (times_of r.steps) → IsTrue (leq seal u) → NoneBelow leq u due → stands (continued r u [] [] 0)) → (run : Run T I O) (t : T) → StandsQuietly stands run → NoneAbove leq t (times_of run.steps) → IsTrue (leq seal t) → NoneBelow leq t due → StandsQuietly stands (continued run t [] [] 0)
  quiet_idle leq seal due stands idle run t h above over below = quiet_continued leq stands stands run t [] [] 0 (λ r k later. idle r t k later over below) h above

  uncharged_free : (ss : List (Step T I O)) → Every (λ s. s.charge ≡ 0) (map uncharged ss)
  uncharged_free [] = tt
  uncharged_free (s ∷ ss) = (refl, uncharged_free ss)

  -- no step is charged
  pub quiet_free : (stands : Run T I O → Type 0) (run : Run T I O) → StandsQuietly stands run → Every (λ s. s.charge ≡ 0) run.steps
  quiet_free stands run h = rw h.steps (uncharged_free h.charged)

  pub quiet_paid : (stands : Run T I O → Type 0) (run : Run T I O) → StandsQuietly stands run → run.base ≤ 0
  quiet_paid stands run h = paid_nothing run.base h.base

  -- a seal
  pub quiet_sealed : (old new : Run T I O → Type 0) (run : Run T I O) (charge : ℕ) → ((r : Run T I O) → old r → new (sealed r charge)) → StandsQuietly old run → StandsQuietly new (sealed run 0)
  quiet_sealed old new run charge seal h = record {
    charged = h.charged;
    inner_base = charge;
    steps = h.steps;
    inner = rw (h.steps, quiet_length h.charged) (seal (record { steps = h.charged; before = run.before; base = h.inner_base }) h.inner);
    base = refl;
  }
