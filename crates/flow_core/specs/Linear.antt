-- Operators whose every step makes the function of what it is fed.
use Rattle.std.specs.Prelude.{◌≡◌, ℕ, ◌≤◌, Bool, true, false, List, [], ◌∷◌, ◌++◌, if◌then◌else◌, refl}
use Rattle.std.proofs.Common.{arith}
use Rattle.weighted.specs.Alike.{Alike, Alike-refl, Alike-sym, Alike-trans, Alike-append}
use Rattle.flow_core.specs.Runs.{Step, Run, Every, fed_to, made_to, times_of, Answers, continued}
use Rattle.flow_core.specs.Lists.{Every-append, Every-all}

-- the function of a sum is the sum of the functions, and one collection has one function
pub record IsLinear {I O : Type 0} (f : List (I × ℕ) → List (O × ℕ)) : Type 0 where
  pub nothing : f [] ≡ []
  pub sum : (xs ys : List (I × ℕ)) → Alike (f (xs ++ ys)) (f xs ++ f ys)
  pub respects : (xs ys : List (I × ℕ)) → Alike xs ys → Alike (f xs) (f ys)

-- a step made the function of what it was fed, and was charged nothing
pub record IsStepOf {T I O : Type 0} (f : List (I × ℕ) → List (O × ℕ)) (step : Step T I O) : Type 0 where
  pub made : Alike step.made (f step.fed)
  pub free : step.charge ≡ 0

-- so did each step, and nothing was ever charged
abbrev pub StandsByStep : {T I O : Type 0} → (List (I × ℕ) → List (O × ℕ)) → Run T I O → Type 0
StandsByStep f run = Every (IsStepOf f) run.steps × (run.base ≡ 0)

pub paid_nothing : (base : ℕ) → base ≡ 0 → base ≤ 0
paid_nothing base h = omega arith

module _ {I O : Type 0} (f : List (I × ℕ) → List (O × ℕ)) (linear : IsLinear f) where
  part_same : (b : Bool) (fed : List (I × ℕ)) (made : List (O × ℕ)) → Alike made (f fed) → Alike (if b then made else []) (f (if b then fed else []))
  part_same true fed made h = h
  part_same false fed made h = rw linear.nothing (Alike-refl [])

  closed_steps : {T : Type 0} (leq : T → T → Bool) (steps : List (Step T I O)) (t : T) → Every (IsStepOf f) steps → Alike (made_to leq steps t) (f (fed_to leq steps t))
  closed_steps leq [] t h = rw linear.nothing (Alike-refl [])
  closed_steps leq (s ∷ ss) t h =
      let sum : Alike (f ((if leq s.time t then s.fed else []) ++ fed_to leq ss t)) (f (if leq s.time t then s.fed else []) ++ f (fed_to leq ss t)) = linear.sum (if leq s.time t then s.fed else []) (fed_to leq ss t) in
      Alike-trans (Alike-append (part_same (leq s.time t) s.fed s.made h.0.made) (closed_steps leq ss t h.1)) (Alike-sym sum)

  pub linear_answers : {T : Type 0} (leq : T → T → Bool) (lub : T → T → T) (seal : T) (run : Run T I O) → StandsByStep f run → Answers leq lub f seal [] run
  linear_answers leq lub seal run h = record {
    closed = λ t _ _. closed_steps leq run.steps t h.0;
    lubs = tt;
    ahead = Every-all (λ _. Unit {0}) (times_of run.steps) (λ _. tt);
  }

  pub linear_continued : {T : Type 0} (run : Run T I O) (t : T) (fed : List (I × ℕ)) (made : List (O × ℕ)) → Alike made (f fed) → StandsByStep f run → StandsByStep f (continued run t fed made 0)
  linear_continued run t fed made e h = (Every-append (IsStepOf f) run.steps (record { time = t; fed = fed; made = made; charge = 0 } ∷ []) h.0 (record { made = e; free = refl }, tt), h.1)

  pub linear_idle : {T : Type 0} (run : Run T I O) (t : T) → StandsByStep f run → StandsByStep f (continued run t [] [] 0)
  linear_idle run t h = linear_continued run t [] [] (rw linear.nothing (Alike-refl [])) h
