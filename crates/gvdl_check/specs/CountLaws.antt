-- One step more: the edges that came, the columns that steps name, and the numbers of the statements of runs.
use Rattle.std.proofs.Common.{◌≡◌, ℕ, ◌+◌, ◌<◌, ◌≤◌, List, [], ◌∷◌, ◌++◌, length, take, get_or, refl, ap, subst, inl, inr, arith, length-append}
use Rattle.std.specs.List.{sum_by}
use Rattle.std.proofs.lemmas.Bool.{cases_lt}
use Rattle.std.proofs.lemmas.List.{get_or_append_left, get_or_push, take-append-le, take_all}
use Rattle.std.proofs.lemmas.List.Elements.{All-push}
use Rattle.std.proofs.lemmas.List.Sums.{sum_by_push}
use Rattle.graph_model.specs.GraphData.{GraphData}
use Rattle.gvdl_check.specs.declared.plan.Step.{Step}
use Rattle.gvdl_check.specs.declared.plan.Step.TheVariants as step
use Rattle.gvdl_check.specs.Steps.{comes, runs}
use Rattle.gvdl_check.specs.StepLaws.{first_count}
use Rattle.gvdl_check.specs.Fits.{ColumnsFit, CountsFit}

module _ (g : GraphData) (steps : List Step) (loaded edges : ℕ) (numbers : List ℕ) (ran : ℕ) (fit : CountsFit g steps loaded edges numbers ran) where
  -- a step that makes no run, behind which runs have the numbers that they had
  numbered_on : (s : Step) → runs s ≡ 0 → (n place : ℕ) → n ≤ length (steps ++ s ∷ []) → place < sum_by runs (take n (steps ++ s ∷ [])) → get_or numbers place 0 < n + 2
  numbered_on s none n place le lt = elim (cases_lt n (length steps + 1)) [
    | inl h ↦ fit.numbered n place (omega (arith, h)) (subst (λ (l : List Step). place < sum_by runs l) (take-append-le n steps (s ∷ []) (omega (arith, h))) lt)
    | inr h ↦
        let all = ap (sum_by runs) (take_all n (steps ++ s ∷ []) (omega (arith, h, length-append steps (s ∷ [])))) in
        let old = ap (sum_by runs) (take_all (length steps) steps (omega arith)) in
        let before = fit.numbered (length steps) place (omega arith) (omega (arith, lt, all, old, none, sum_by_push runs steps s)) in
        omega (arith, before, h)
  ]

  -- no edge comes with the step and no run is made by it
  pub quiet_counts : (s : Step) → comes s ≡ 0 → runs s ≡ 0 → ColumnsFit g s → CountsFit g (steps ++ s ∷ []) loaded edges numbers ran
  quiet_counts s no_edge no_run columns = record {
    columns = All-push (ColumnsFit g) steps s fit.columns columns;
    edges = omega (arith, fit.edges, no_edge, sum_by_push comes steps s);
    numbers = fit.numbers;
    numbered = numbered_on s no_run;
  }

  -- so many edges of a file come
  pub insert_counts : (count : ℕ) → CountsFit g (steps ++ step.Insert edges count ∷ []) loaded (edges + count) numbers ran
  insert_counts count =
      let s = step.Insert edges count in
      record {
        columns = All-push (ColumnsFit g) steps s fit.columns tt;
        edges = omega (arith, fit.edges, sum_by_push comes steps s);
        numbers = fit.numbers;
        numbered = numbered_on s refl;
      }

  -- a run is made by the next statement
  numbered_run : (number : ℕ) (s : Step) → number ≡ length steps + 2 → runs s ≡ 1 → sum_by runs steps ≡ ran → (n place : ℕ) → n ≤ length (steps ++ s ∷ []) → place < sum_by runs (take n (steps ++ s ∷ []))
      → get_or (numbers ++ number ∷ []) place 0 < n + 2
  numbered_run number s is one made n place le lt = elim (cases_lt place (length numbers)) [
    | inl h ↦
        let here = get_or_append_left numbers (number ∷ []) 0 place h in
        elim (cases_lt n (length steps + 1)) [
          | inl k ↦
              let before = fit.numbered n place (omega (arith, k)) (subst (λ (l : List Step). place < sum_by runs l) (take-append-le n steps (s ∷ []) (omega (arith, k))) lt) in
              omega (arith, here, before)
          | inr k ↦
              let old = ap (sum_by runs) (take_all (length steps) steps (omega arith)) in
              let before = fit.numbered (length steps) place (omega arith) (omega (arith, h, old, made, fit.numbers)) in
              omega (arith, here, before, k)
        ]
    | inr h ↦ elim (cases_lt n (length steps + 1)) [
      | inl k ↦
          let front = ap (sum_by runs) (take-append-le n steps (s ∷ []) (omega (arith, k))) in
          absurd (omega (arith, h, lt, front, first_runs n, made, fit.numbers))
      | inr k ↦
          let all = ap (sum_by runs) (take_all n (steps ++ s ∷ []) (omega (arith, k, length-append steps (s ∷ [])))) in
          let same : length numbers ≡ place = omega (arith, h, lt, all, one, made, fit.numbers, sum_by_push runs steps s) in
          omega (arith, get_or_push numbers number 0 place same, is, k)
    ]
  ] where
    first_runs : (n : ℕ) → sum_by runs (take n steps) ≤ sum_by runs steps
    first_runs n = first_count runs steps n

  pub run_counts : (number : ℕ) (s : Step) → number ≡ length steps + 2 → comes s ≡ 0 → runs s ≡ 1 → ColumnsFit g s → sum_by runs steps ≡ ran
      → CountsFit g (steps ++ s ∷ []) loaded edges (numbers ++ number ∷ []) (ran + 1)
  run_counts number s is no_edge one columns made = record {
    columns = All-push (ColumnsFit g) steps s fit.columns columns;
    edges = omega (arith, fit.edges, no_edge, sum_by_push comes steps s);
    numbers = omega (arith, fit.numbers, length-append numbers (number ∷ []));
    numbered = numbered_run number s is one made;
  }
