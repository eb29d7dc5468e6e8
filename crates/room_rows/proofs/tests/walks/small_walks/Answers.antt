use Rattle.std.proofs.Common.{◌≡◌, ◌<◌, ℕ, [], ◌∷◌, refl, ap, sym, arith, inl, inr}
use Rattle.std.specs.Prelude.{Contains}
use Rattle.room_rows.specs.Examples.{three}
use Rattle.walk_theory.specs.Weighing.{contains-here, contains-there, contains-cases, contains-none}
use Rattle.room_rows.proofs.tests.walks.small_walks.Goals as goal

pub returns-clause-two : goal.returns-clause-two
returns-clause-two c = (contains-here (0, 1) ((1, 2) ∷ (0, 2) ∷ []), refl, (contains-there (0, 1) ((1, 2) ∷ (0, 2) ∷ []) (1, 2) (contains-here (1, 2) ((0, 2) ∷ [])), refl, refl))

pub returns-clause-one : goal.returns-clause-one
returns-clause-one c = (contains-there (0, 1) ((1, 2) ∷ (0, 2) ∷ []) (0, 2) (contains-there (1, 2) ((0, 2) ∷ []) (0, 2) (contains-here (0, 2) [])), refl, refl)

pub returns-clause-none : goal.returns-clause-none
returns-clause-none c = refl

pub returns-clause-weight : goal.returns-clause-weight
returns-clause-weight c = refl

apart : (m n : ℕ) → m < n → m ≡ n → ⊥
apart m n low e = omega arith

pub returns-clause-apart : goal.returns-clause-apart
returns-clause-apart c = λ h. apart 1 2 (omega arith) h.2.1

pub returns-clause-elsewhere : goal.returns-clause-elsewhere
returns-clause-elsewhere c = λ h. apart 0 2 (omega arith) h

backwards : Contains three (1, 0) → ⊥
backwards h = elim (contains-cases (0, 1) ((1, 2) ∷ (0, 2) ∷ []) (1, 0) h) [
  | inl e ↦ absurd (apart 0 1 (omega arith) (ap (λ (a : ℕ × ℕ). a.0) e))
  | inr later ↦ elim (contains-cases (1, 2) ((0, 2) ∷ []) (1, 0) later) [
    | inl e ↦ absurd (apart 0 2 (omega arith) (sym (ap (λ (a : ℕ × ℕ). a.1) e)))
    | inr last ↦ elim (contains-cases (0, 2) [] (1, 0) last) [
      | inl e ↦ absurd (apart 0 1 (omega arith) (ap (λ (a : ℕ × ℕ). a.0) e))
      | inr none ↦ absurd (contains-none (1, 0) none)
    ]
  ]
]

pub returns-clause-other : goal.returns-clause-other
returns-clause-other c = λ h. backwards h.0
