-- What holds of a value where there is one.
use Rattle.std.specs.Prelude.{Result, Ok, Err, IfOk}

module _ {A E : Type 0} where
  pub ok-so : (r : Result A E) (P Q : A → Type 0) → ((x : A) → P x → Q x) → IfOk r P → IfOk r Q
  ok-so (Ok x) P Q f p = f x p
  ok-so (Err e) P Q f p = tt
