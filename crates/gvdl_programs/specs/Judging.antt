-- What it is to judge: to give a value, or the first refusal.
use Rattle.std.specs.Prelude.{◌≡◌, Bool, true, false, List, [], ◌∷◌, Result, Ok, Err}
use Rattle.gvdl_programs.specs.declared.refusal.Refusal.{Refusal}
use Rattle.gvdl_programs.specs.declared.refusal.Stop.{Stop}
use Rattle.gvdl_programs.specs.declared.refusal.Stop.TheVariants as stop

abbrev pub Judged : Type 0 → Type 0
Judged A = Result A Refusal

-- one judgement after the other
infixl 10 ◌>>=◌
abbrev pub ◌>>=◌ : {A B E : Type 0} → Result A E → (A → Result B E) → Result B E
(Ok a) >>= f = f a
(Err e) >>= f = Err e

infixl 10 ◌>>◌
abbrev pub ◌>>◌ : {A B E : Type 0} → Result A E → Result B E → Result B E
a >> b = a >>= (λ _. b)

-- refuses unless this holds
abbrev pub expect : Bool → Refusal → Judged (Unit {0})
expect true r = Ok tt
expect false r = Err r

-- all of them, from the left
abbrev pub each : {A : Type 0} → List (Judged A) → Judged (List A)
each [] = Ok []
each (said ∷ more) = do
  a ← said
  others ← each more
  Ok (a ∷ others)

-- goes through the list from the left, each time from what the one before gave
abbrev pub in_turn : {A B : Type 0} → (B → A → Judged B) → B → List A → Judged B
in_turn f b [] = Ok b
in_turn f b (a ∷ more) = do
  c ← f b a
  in_turn f c more

-- ---- what a function that judges answers

-- a fact of the refusal, where judging didn't end for want of memory
abbrev pub IfRefused : Stop → (Refusal → Type 0) → Type 0
IfRefused (stop.Refused r) P = P r
IfRefused stop.NoMemory P = Unit {0}

-- it answers what is judged so, or that memory was refused
abbrev pub Tells : {A : Type 0} → Judged A → Result A Stop → Type 0
Tells said (Ok a) = said ≡ Ok a
Tells said (Err e) = IfRefused e (λ r. said ≡ Err r)

-- it leaves what is judged so behind, or answers the refusal or that memory was refused
abbrev pub Leaves : {A : Type 0} → Judged A → Result (Unit {0}) Stop → A → Type 0
Leaves said (Ok u) left = said ≡ Ok left
Leaves said (Err e) left = IfRefused e (λ r. said ≡ Err r)
