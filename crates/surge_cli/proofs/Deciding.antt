-- The status is the one that is expected.
use Rattle.std.proofs.Common.{◌≡◌, ℕ, List, Option, Some, None, sym, subst, inl, inr}
use Rattle.std.specs.Prelude.{IfSome, ◌⊎◌}
use Rattle.vertex_lang.specs.Expressions.{Answer}
use Rattle.surge_cli.specs.declared.status.Status.{Status}
use Rattle.surge_cli.specs.declared.status.Status.TheVariants as status
use Rattle.surge_cli.specs.Expected.{Held, Expectation, Expects}
use Rattle.surge_cli.specs.Headline.{Written, Means}
use Rattle.surge_cli.specs.Causes.{AgreesWith}

agrees : (answer : Answer) (files : Held) (words : List (List ℕ)) (s : Status) (old new : Written) (a b : ℕ) → Means answer (Some files) words s old new a b → (e : Expectation) → Expects files words e → AgreesWith s e
agrees answer files words status.Done old new a b h e k = (h.job, h.due.only e k)
agrees answer files words status.Usage old new a b h e k = h.0.only e k
agrees answer files words (status.Absent role) old new a b h e k = h.0.only e k
agrees answer files words (status.Data fault) old new a b h e k = h.0.only e k
agrees answer files words (status.Script fault) old new a b h e k = h.0.only e k
agrees answer files words (status.Replay fault) old new a b h e k = h.0.only e k
agrees answer files words status.ReadFault old new a b h e k = tt
agrees answer files words status.WriteFault old new a b h e k = tt
agrees answer files words status.NoMemory old new a b h e k = tt

agrees_told : (answer : Answer) (held : Option Held) (words : List (List ℕ)) (s : Status) (old new : Written) (a b : ℕ) → Means answer held words s old new a b → IfSome held (λ files. (e : Expectation) → Expects files words e → AgreesWith s e)
agrees_told answer None words s old new a b h = tt
agrees_told answer (Some files) words s old new a b h = agrees answer files words s old new a b h

-- the same of the status once its line was written
pub reported_agrees : (answer : Answer) (held : Option Held) (words : List (List ℕ)) (s r : Status) (old new : Written) (a b : ℕ) → (r ≡ s) ⊎ ((r ≡ status.NoMemory) × (s ≡ status.Done → ⊥)) → Means answer held words s old new a b → IfSome held (λ files. (e : Expectation) → Expects files words e → AgreesWith r e)
reported_agrees answer held words s r old new a b (inl is) h = subst (λ (x : Status). IfSome held (λ files. (e : Expectation) → Expects files words e → AgreesWith x e)) (sym is) (agrees_told answer held words s old new a b h)
reported_agrees answer None words s r old new a b (inr is) h = tt
reported_agrees answer (Some files) words s r old new a b (inr is) h = λ e k. subst (λ (x : Status). AgreesWith x e) (sym is.0) tt
