-- Runs are marked one after the other.
use Rattle.std.proofs.Common.{◌≡◌, ◌∙◌, ℕ, ◌<◌, ◌≤◌, List, [], ◌∷◌, ◌++◌, zero, suc, length, take, drop, get_or, refl, ap, arith, append-nil}
use Rattle.std.specs.Prelude.{set}
use Rattle.std.proofs.lemmas.List.{drop_all, take_all}
use Rattle.gvdl_check.specs.declared.plan.RunPlan.{RunPlan}
use Rattle.gvdl_check.specs.Known.{run_marked, runs_marked}

-- the runs in front are marked, and those behind are still to be marked
abbrev pub marked_to : ℕ → List ℕ → ℕ → List RunPlan → List RunPlan
marked_to last numbers i all = take i all ++ runs_marked last (drop i numbers) (drop i all)

pub marked_on : (last i : ℕ) (numbers : List ℕ) (all : List RunPlan) (none : RunPlan) → i < length numbers → i < length all
    → marked_to last numbers (suc i) (set all i (run_marked last (get_or numbers i 0) (get_or all i none))) ≡ marked_to last numbers i all
marked_on last i [] all none a b = absurd (omega arith)
marked_on last i (number ∷ numbers) [] none a b = absurd (omega arith)
marked_on last zero (number ∷ numbers) (run ∷ all) none a b = refl
marked_on last (suc i) (number ∷ numbers) (run ∷ all) none a b =
    ap (λ (runs : List RunPlan). run ∷ runs) (marked_on last i numbers all none (omega arith) (omega arith))

none_left : (last : ℕ) (numbers : List ℕ) → runs_marked last numbers [] ≡ []
none_left last [] = refl
none_left last (number ∷ numbers) = refl

pub all_marked : (last : ℕ) (numbers : List ℕ) (i : ℕ) (all : List RunPlan) → length all ≤ i → marked_to last numbers i all ≡ all
all_marked last numbers i all le =
    ap (λ (runs : List RunPlan). runs ++ runs_marked last (drop i numbers) (drop i all)) (take_all i all le)
    ∙ ap (λ (runs : List RunPlan). all ++ runs_marked last (drop i numbers) runs) (drop_all i all le)
    ∙ ap (λ (runs : List RunPlan). all ++ runs) (none_left last (drop i numbers))
    ∙ append-nil all
