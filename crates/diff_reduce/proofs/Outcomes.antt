-- Clauses on an answer that is Ok.
use Rattle.std.proofs.Common.{Result, Ok, Err, IfOk, OnOk}

module _ {X Y : Type 0} where
  pub IfOk-and_OnOk : (r : Result X Y) {P : X → Type 0} {Q : Type 0} {R : X → Type 0} → IfOk r P → OnOk r Q → ((x : X) → P x → Q → R x) → IfOk r R
  IfOk-and_OnOk (Ok x) p q f = f x p q
  IfOk-and_OnOk (Err e) p q f = tt

  pub IfOk-then_OnOk : (r : Result X Y) {P : X → Type 0} {R : Type 0} → IfOk r P → ((x : X) → P x → R) → OnOk r R
  IfOk-then_OnOk (Ok x) p f = f x p
  IfOk-then_OnOk (Err e) p f = tt

  pub OnOk-imply : (r : Result X Y) (P R : Type 0) → (P → R) → OnOk r P → OnOk r R
  OnOk-imply (Ok x) P R f p = f p
  OnOk-imply (Err e) P R f p = tt
