-- A node that was never touched has the same value in both views, by the lists.
use Rattle.std.proofs.Common.{◌≡◌, ◌∙◌, ◌<◌, ℕ, false, List, get_or, sym, ap, refl, arith, inl, inr}
use Rattle.std.proofs.lemmas.Bool.{cases_lt}
use Rattle.graph_model.specs.declared.value.Val.{Val}
use Rattle.vertex_lang.specs.Expressions.{Answer}
use Rattle.vertex_lang.specs.Rounds.{value_at, lone}
use Rattle.round_kernel.specs.declared.frame.Frame.{Frame}
use Rattle.round_kernel.specs.declared.frame.Lists.{Lists}
use Rattle.round_kernel.specs.Frames.{StandAt, count_in, lone_at, old_lone_at, was_touched_at}
use Rattle.round_kernel.proofs.Filled.{untouched-agree}

-- both views start with the same values
same-start : (answer : Answer) (f : Frame) → lone_at answer f 0 ≡ old_lone_at answer f 0
unfolding lone
same-start answer f = refl

pub untouched-same : (answer : Answer) (f : Frame) (r : ℕ) (lists : Lists) → StandAt answer f r (was_touched_at answer f r) lists → f.first ≡ false → (v : ℕ) → v < count_in f
    → get_or lists.touched.items v false ≡ false → value_at lists.old_now.items v ≡ value_at lists.new_now.items v
untouched-same answer f r lists at one v low off =
    ap (λ (vs : List Val). value_at vs v) (at.old_now one).values_are ∙ sym agree ∙ ap (λ (vs : List Val). value_at vs v) (sym at.new_now.values_are) where
      agree : value_at (lone_at answer f r) v ≡ value_at (old_lone_at answer f r) v
      agree = elim (cases_lt 0 r) [
        | inl later ↦ untouched-agree answer f r lists lists.touched.items later at refl one v r low off (omega arith)
        | inr none ↦
            let zero : r ≡ 0 = omega (arith, none) in
            ap (λ (k : ℕ). value_at (lone_at answer f k) v) zero ∙ ap (λ (vs : List Val). value_at vs v) (same-start answer f) ∙ sym (ap (λ (k : ℕ). value_at (old_lone_at answer f k) v) zero)
      ]
