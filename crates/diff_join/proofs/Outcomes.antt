-- Clauses on an answer that is Ok.
use Rattle.std.proofs.Common.{Result, Ok, Err, IfOk, OnOk}

module _ {X Y : Type 0} where
  pub IfOk-imply : (r : Result X Y) (P R : X → Type 0) → ((x : X) → P x → R x) → IfOk r P → IfOk r R
  IfOk-imply (Ok x) P R f p = f x p
  IfOk-imply (Err e) P R f p = tt

  pub IfOk-with_two : (r : Result X Y) (P : X → Type 0) (Q S : Type 0) (R : X → Type 0) → ((x : X) → P x → Q → S → R x) → IfOk r P → OnOk r Q → OnOk r S → IfOk r R
  IfOk-with_two (Ok x) P Q S R f p q s = f x p q s
  IfOk-with_two (Err e) P Q S R f p q s = tt

  pub OnOk-with_two : (r : Result X Y) (P : X → Type 0) (Q S R : Type 0) → ((x : X) → P x → Q → S → R) → IfOk r P → OnOk r Q → OnOk r S → OnOk r R
  OnOk-with_two (Ok x) P Q S R f p q s = f x p q s
  OnOk-with_two (Err e) P Q S R f p q s = tt

  pub OnOk-any : (r : Result X Y) (P : Type 0) → P → OnOk r P
  OnOk-any (Ok x) P p = p
  OnOk-any (Err e) P p = tt
