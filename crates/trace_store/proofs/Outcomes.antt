-- Clauses on an answer that is Ok.
use Rattle.std.proofs.Common.{Result, Ok, Err, IfOk}

pub IfOk-imply : {X Y : Type 0} (r : Result X Y) {P Q : X → Type 0} → ((x : X) → P x → Q x) → IfOk r P → IfOk r Q
IfOk-imply (Ok x) f p = f x p
IfOk-imply (Err e) f p = tt
