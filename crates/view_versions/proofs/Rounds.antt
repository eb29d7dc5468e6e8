-- The values after all rounds, by what changed from round to round.
use Rattle.std.proofs.Common.{◌≡◌, ◌∙◌, ◌+◌, ◌<◌, ◌≤◌, ◌⊎◌, inl, inr, ℕ, List, [], Some, length, get_or, sym, ap, subst, refl, arith}
use Rattle.std.proofs.lemmas.Bool.{cases_lt}
use Rattle.std.proofs.lemmas.List.{ext_get_or, get_or_past}
use Rattle.graph_model.specs.declared.value.Val.{Val}
use Rattle.graph_model.specs.declared.value.Val.TheVariants.{Nil}
use Rattle.graph_model.specs.GraphData.{GraphData}
use Rattle.vertex_lang.specs.declared.arc.Arc.{Arc}
use Rattle.vertex_lang.specs.declared.program.Program.{Program}
use Rattle.vertex_lang.specs.Expressions.{Answer}
use Rattle.vertex_lang.specs.RoundLaws.{length-lone, stays}
use Rattle.vertex_lang.specs.Rounds.{lone}
use Rattle.change_lists.specs.declared.history.Change.{Change}
use Rattle.change_lists.specs.declared.history.History.{History}
use Rattle.change_lists.specs.ChangeLists.{HasChanges}
use Rattle.change_lists.specs.UnchangedLaws.{unchanged-at}
use Rattle.round_kernel.specs.Histories.{IsHistory}

module _ (answer : Answer) (p : Program) (graph : GraphData) (arcs : List Arc) (n : ℕ) (h : History) (is : IsHistory answer p graph (Some arcs) n h) where
  -- where no change is listed nothing changes
  nothing : (k : ℕ) → k < n → length h.changes ≤ k → lone answer p graph arcs (k + 1) ≡ lone answer p graph arcs k
  nothing k low past =
      let none : get_or h.changes k [] ≡ [] = get_or_past h.changes k [] past in
      let here : HasChanges (length graph.ids) (lone answer p graph arcs k) (lone answer p graph arcs (k + 1)) [] = subst (λ (cs : List Change). HasChanges (length graph.ids) (lone answer p graph arcs k) (lone answer p graph arcs (k + 1)) cs) none (is.changes k low) in
      ext_get_or Nil (lone answer p graph arcs (k + 1)) (lone answer p graph arcs k) (length-lone answer p graph arcs (k + 1) ∙ sym (length-lone answer p graph arcs k))
      (λ v under. unchanged-at (length graph.ids) (lone answer p graph arcs k) (lone answer p graph arcs (k + 1)) [] v (omega (arith, under, length-lone answer p graph arcs (k + 1))) here refl)

  -- so behind them stand the values after all rounds
  pub values-last : (k : ℕ) → k ≤ n → (k ≡ n) ⊎ (length h.changes ≤ k) → lone answer p graph arcs k ≡ lone answer p graph arcs n
  values-last k low (inl same) = ap (λ (i : ℕ). lone answer p graph arcs i) same
  values-last k low (inr past) = elim (cases_lt k n) [
    | inl less ↦ sym (stays answer p graph arcs k n (nothing k less past) low)
    | inr here ↦ let same : k ≡ n = omega arith in ap (λ (i : ℕ). lone answer p graph arcs i) same
  ]

  -- one round more
  pub values-next : (k : ℕ) (now next : List Val) → k < n → length now ≡ length graph.ids → now ≡ lone answer p graph arcs k
      → ((after : List Val) → length after ≡ length now → HasChanges (length now) now after (get_or h.changes k []) → next ≡ after)
      → next ≡ lone answer p graph arcs (k + 1)
  values-next k now next low size so_far assigned =
      let cs = get_or h.changes k [] in
      let after = lone answer p graph arcs (k + 1) in
      assigned after (length-lone answer p graph arcs (k + 1) ∙ sym size)
      (subst (λ (m : ℕ). HasChanges m now after cs) (sym size) (subst (λ (vs : List Val). HasChanges (length graph.ids) vs after cs) (sym so_far) (is.changes k low)))
