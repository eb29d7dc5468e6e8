-- Clauses on an answer that is Ok, and on whether an operator is spent.
use Rattle.std.proofs.Common.{◌≡◌, ◌∙◌, Bool, true, false, List, [], ◌∷◌, length, Result, Ok, Err, IfOk, OnOk, refl, sym}
use Rattle.std.specs.Prelude.{◌||◌, ◌==◌, OnErr, is_err}
use Rattle.std.proofs.Common.{arith, eqb-true}

module _ {X Y : Type 0} where
  pub IfOk-imply : (r : Result X Y) (P R : X → Type 0) → ((x : X) → P x → R x) → IfOk r P → IfOk r R
  IfOk-imply (Ok x) P R f p = f x p
  IfOk-imply (Err e) P R f p = tt

  pub IfOk-and_OnOk : (r : Result X Y) (P : X → Type 0) (Q : Type 0) (R : X → Type 0) → ((x : X) → P x → Q → R x) → IfOk r P → OnOk r Q → IfOk r R
  IfOk-and_OnOk (Ok x) P Q R f p q = f x p q
  IfOk-and_OnOk (Err e) P Q R f p q = tt

  pub OnOk-imply : (r : Result X Y) (P R : Type 0) → (P → R) → OnOk r P → OnOk r R
  OnOk-imply (Ok x) P R f p = f p
  OnOk-imply (Err e) P R f p = tt

  pub OnOk-two : (r : Result X Y) (P Q R : Type 0) → (P → Q → R) → OnOk r P → OnOk r Q → OnOk r R
  OnOk-two (Ok x) P Q R f p q = f p q
  OnOk-two (Err e) P Q R f p q = tt

  pub OnOk-any : (r : Result X Y) (P : Type 0) → P → OnOk r P
  OnOk-any (Ok x) P p = p
  OnOk-any (Err e) P p = tt

  -- after an answer, an operator is broken where that was an error, and its body tells whether it is spent
  pub live_still : (r : Result X Y) (broken spent : Bool) → broken ≡ is_err r → OnOk r (spent ≡ false) → OnOk r ((broken || spent) ≡ false)
  live_still (Ok x) broken spent b s = rw (b, s) refl
  live_still (Err e) broken spent b s = tt

  pub spent_now : (r : Result X Y) (broken spent : Bool) → broken ≡ is_err r → OnErr r ((broken || spent) ≡ true)
  spent_now (Ok x) broken spent b = tt
  spent_now (Err e) broken spent b = rw b refl

  -- what holds of an operator that isn't spent, after an answer
  pub unless_spent : (r : Result X Y) (spent : Bool) (P : Type 0) → OnOk r P → OnErr r (spent ≡ true) → spent ≡ false → P
  unless_spent (Ok x) spent P p s live = p
  unless_spent (Err e) spent P p s live = absurd (let both : true ≡ false = sym s ∙ live in (cc))

pub or_first : (a b : Bool) → (a || b) ≡ false → a ≡ false
or_first false b h = refl
or_first true b h = h

pub or_second : (a b : Bool) → (a || b) ≡ false → b ≡ false
or_second false b h = h
or_second true b h = absurd (cc)

pub or_true : (a b : Bool) → b ≡ true → (a || b) ≡ true
or_true false b h = h
or_true true b h = refl

pub empty_is : {A : Type 0} (xs : List A) → (length xs == 0) ≡ true → xs ≡ []
empty_is [] h = refl
empty_is (x ∷ xs) h = absurd (let none : length (x ∷ xs) ≡ 0 = eqb-true (length (x ∷ xs)) 0 h in omega arith)
