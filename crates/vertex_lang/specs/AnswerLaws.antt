-- The answer of a plain run, as a function and as a relation.
use Rattle.std.proofs.Common.{◌≡◌, ◌≢◌, ◌∙◌, ◌+◌, ◌<◌, ◌≤◌, ℕ, zero, suc, Bool, true, false, cond, List, [], ◌∷◌, Option, Some, None, length, sym, ap, subst, refl, inl, inr, add-one, arith}
use Rattle.std.proofs.lemmas.Bool.{cases_lt, cases_order, true≢false, and_parts, and_from, cond-true, cond-false, false_from_ne_true, false≢true}
use Rattle.std.specs.List.Sorted.{IsPermutation}
use Rattle.graph_model.specs.declared.value.Val.{Val}
use Rattle.graph_model.specs.GraphData.{GraphData}
use Rattle.vertex_lang.specs.declared.arc.Arc.{Arc}
use Rattle.vertex_lang.specs.declared.program.Program.{Program}
use Rattle.vertex_lang.specs.declared.lone.Rounds.{Rounds}
use Rattle.vertex_lang.specs.declared.lone.Rounds.TheVariants as rounds
use Rattle.vertex_lang.specs.declared.lone.Outcome.{Outcome}
use Rattle.vertex_lang.specs.declared.lone.Outcome.TheVariants as outcome
use Rattle.vertex_lang.specs.declared.lone.Lone.{Lone}
use Rattle.vertex_lang.specs.Expressions.{Answer}
use Rattle.vertex_lang.specs.Rounds.{lone}
use Rattle.vertex_lang.specs.GatherLaws.{values-exact}
use Rattle.vertex_lang.specs.RoundLaws.{length-lone, permuted-arcs}
use Rattle.vertex_lang.specs.Lone.{same_values, first_settled, settled_at, answer_from, OutcomeIs, IsAnswerFrom, IsAnswer, answer_of, HasAllValuesAt, HasAllValues, number_of, rounds_run}

same_values_itself : (vs : List Val) → same_values vs vs ≡ true
same_values_itself [] = refl
same_values_itself (v ∷ vs) = and_from _ _ (values-exact.itself v) (same_values_itself vs)

pub same_values_is : (vs ws : List Val) → same_values vs ws ≡ true → vs ≡ ws
same_values_is [] [] e = refl
same_values_is [] (w ∷ ws) e = absurd (false≢true e)
same_values_is (v ∷ vs) [] e = absurd (false≢true e)
same_values_is (v ∷ vs) (w ∷ ws) e =
    let parts = and_parts _ _ e in
    let first = values-exact.one v w parts.0 in
    let rest = same_values_is vs ws parts.1 in
    cc

pub same_values_from : (vs ws : List Val) → vs ≡ ws → same_values vs ws ≡ true
same_values_from vs ws e = ap (λ (us : List Val). same_values us ws) e ∙ same_values_itself ws

other_values : (vs ws : List Val) → vs ≢ ws → same_values vs ws ≡ false
other_values vs ws ne = false_from_ne_true _ (λ e. ne (same_values_is vs ws e))

lone_from : (o o' : Outcome) (vs vs' : List Val) → o ≡ o' → vs ≡ vs' → Path Lone (record { outcome = o; values = vs }) (record { outcome = o'; values = vs' })
lone_from o o' vs vs' e f = cc

module _ (values : ℕ → List Val) where
  -- the first round that settles is found
  found : (n k r : ℕ) → k ≤ r → r < k + n → values (r + 1) ≡ values r → ((j : ℕ) → j < r → values (j + 1) ≢ values j) → first_settled values n k ≡ Some r
  unfolding first_settled
  found zero k r low high e before = absurd (omega arith)
  found (suc n) k r low high e before = elim (cases_order k r) [
    | inl here ↦ cond-true _ _ _ (ap (λ j. same_values (values (suc j)) (values j)) here ∙ same_values_from _ _ (ap values (sym (add-one r)) ∙ e)) ∙ ap (λ j. Some j) here
    | inr (inl less) ↦ cond-false _ _ _ (other_values _ _ (λ same. before k less (ap values (add-one k) ∙ same))) ∙ found n (suc k) r (omega arith) (omega arith) e before
    | inr (inr more) ↦ absurd (omega arith)
  ]

  -- where each round changes something none is found
  missing : (n k : ℕ) → ((j : ℕ) → j < k + n → values (j + 1) ≢ values j) → first_settled values n k ≡ None
  unfolding first_settled
  missing zero k each = refl
  missing (suc n) k each = cond-false _ _ _ (other_values _ _ (λ same. each k (omega arith) (ap values (add-one k) ∙ same))) ∙ missing n (suc k) (λ j low. each j (omega arith))

  pub outcome_answer : (n : ℕ) (o : Outcome) (vs : List Val) → OutcomeIs values n o vs → Path Lone (record { outcome = o; values = vs }) (settled_at values (first_settled values n 0))
  outcome_answer n (outcome.Settled r) vs h =
      ap (λ (us : List Val). record { outcome = outcome.Settled r; values = us }) h.1
      ∙ ap (λ (o : Option ℕ). settled_at values o) (sym (found n 0 r (omega arith) (let low = h.0.within in omega arith) h.0.settled h.0.first))
  outcome_answer n (outcome.After r) vs h = absurd h
  outcome_answer n (outcome.Phases r) vs h = absurd h
  outcome_answer n outcome.Unsettled vs h =
      ap (λ (us : List Val). record { outcome = outcome.Unsettled; values = us }) h.1
      ∙ ap (λ (o : Option ℕ). settled_at values o) (sym (missing n 0 (λ j low. h.0 j (omega arith))))

  answer_from_is : (limit : Rounds) (l : Lone) → IsAnswerFrom values limit l → l ≡ answer_from values limit
  answer_from_is (rounds.Within n) l h = outcome_answer n l.outcome l.values h
  answer_from_is (rounds.For n) l h = lone_from _ _ _ _ h.0 h.1

-- what meets the relation is the answer
pub answer_is : (answer : Answer) (p : Program) (graph : GraphData) (arcs : List Arc) (limit : Rounds) (l : Lone) → IsAnswer answer p graph arcs limit l → l ≡ answer_of answer p graph arcs limit
answer_is answer p graph arcs limit l h = answer_from_is (lone answer p graph arcs) limit l h

-- ---- from the function to the relation

module _ (values : ℕ → List Val) where
  -- what the search from a round on finds
  abbrev Finds : ℕ → ℕ → Option ℕ → Type 0
  Finds n k None = (j : ℕ) → k ≤ j → j < k + n → values (j + 1) ≢ values j
  Finds n k (Some r) = (k ≤ r) × (r < k + n) × (values (r + 1) ≡ values r) × ((j : ℕ) → k ≤ j → j < r → values (j + 1) ≢ values j)

  finds-later : (n k : ℕ) (o : Option ℕ) → values (k + 1) ≢ values k → Finds n (suc k) o → Finds (suc n) k o
  finds-later n k None other h = λ j low high. elim (cases_lt k j) [
    | inl less ↦ h j (omega arith) (omega arith)
    | inr here ↦ let same : k ≡ j = omega arith in subst (λ i. values (i + 1) ≢ values i) same other
  ]
  finds-later n k (Some r) other h = (
    omega (arith, h.0),
    omega (arith, h.1),
    h.2,
    λ j low high. elim (cases_lt k j) [
      | inl less ↦ h.3 j (omega arith) high
      | inr here ↦ let same : k ≡ j = omega arith in subst (λ i. values (i + 1) ≢ values i) same other
    ],
  )

  finds-by : (n k : ℕ) (b : Bool) (o : Option ℕ) → same_values (values (suc k)) (values k) ≡ b → Finds n (suc k) o → Finds (suc n) k (cond b (Some k) o)
  finds-by n k true o e h = (omega arith, omega arith, ap values (add-one k) ∙ same_values_is _ _ e, λ j low high. absurd (omega arith))
  finds-by n k false o e h = finds-later n k o (λ same. true≢false (sym (same_values_from _ _ (ap values (sym (add-one k)) ∙ same)) ∙ e)) h

  finds : (n k : ℕ) → Finds n k (first_settled values n k)
  unfolding first_settled
  finds zero k = λ j low high. absurd (omega arith)
  finds (suc n) k = finds-by n k (same_values (values (suc k)) (values k)) (first_settled values n (suc k)) refl (finds n (suc k))

  found_outcome : (n : ℕ) (o : Option ℕ) → Finds n 0 o → OutcomeIs values n (settled_at values o).outcome (settled_at values o).values
  found_outcome n None h = (λ k low. h k (omega arith) (omega arith), refl)
  found_outcome n (Some r) h = (record { within = omega (arith, h.1); settled = h.2; first = λ k low. h.3 k (omega arith) low }, refl)

  pub answer_from_meets : (limit : Rounds) → IsAnswerFrom values limit (answer_from values limit)
  answer_from_meets (rounds.Within n) = found_outcome n (first_settled values n 0) (finds n 0)
  answer_from_meets (rounds.For n) = (refl, refl)

-- the answer meets the relation
pub answer_meets : (answer : Answer) (p : Program) (graph : GraphData) (arcs : List Arc) (limit : Rounds) → IsAnswer answer p graph arcs limit (answer_of answer p graph arcs limit)
answer_meets answer p graph arcs limit = answer_from_meets (lone answer p graph arcs) limit

-- ---- how many values

outcome_size : (answer : Answer) (p : Program) (graph : GraphData) (arcs : List Arc) (n : ℕ) (o : Outcome) (vs : List Val) → OutcomeIs (lone answer p graph arcs) n o vs → HasAllValuesAt graph o vs
outcome_size answer p graph arcs n (outcome.Settled r) vs h = ap (λ (us : List Val). length us) h.1 ∙ length-lone answer p graph arcs r
outcome_size answer p graph arcs n (outcome.After r) vs h = absurd h
outcome_size answer p graph arcs n (outcome.Phases r) vs h = absurd h
outcome_size answer p graph arcs n outcome.Unsettled vs h = tt

after_size : (answer : Answer) (p : Program) (graph : GraphData) (arcs : List Arc) (n : ℕ) (o : Outcome) (vs : List Val) → o ≡ outcome.After n → vs ≡ lone answer p graph arcs n → HasAllValuesAt graph o vs
after_size answer p graph arcs n o vs e f = subst (λ (x : Outcome). HasAllValuesAt graph x vs) (sym e) (ap (λ (us : List Val). length us) f ∙ length-lone answer p graph arcs n)

pub answer_size : (answer : Answer) (p : Program) (graph : GraphData) (arcs : List Arc) (limit : Rounds) (l : Lone) → IsAnswer answer p graph arcs limit l → HasAllValues graph l
answer_size answer p graph arcs (rounds.Within n) l h = outcome_size answer p graph arcs n l.outcome l.values h
answer_size answer p graph arcs (rounds.For n) l h = after_size answer p graph arcs n l.outcome l.values h.0 h.1

-- ---- by rounds that are the same, and so in any order of the arcs

outcome_same : (f g : ℕ → List Val) (n : ℕ) (o : Outcome) (vs : List Val) → ((r : ℕ) → f r ≡ g r) → OutcomeIs f n o vs → OutcomeIs g n o vs
outcome_same f g n (outcome.Settled r) vs same h =
    (record { within = h.0.within; settled = sym (same (r + 1)) ∙ h.0.settled ∙ same r; first = λ k low e. h.0.first k low (same (k + 1) ∙ e ∙ sym (same k)) }, h.1 ∙ same r)
outcome_same f g n (outcome.After r) vs same h = absurd h
outcome_same f g n (outcome.Phases r) vs same h = absurd h
outcome_same f g n outcome.Unsettled vs same h = (λ k low e. h.0 k low (same (k + 1) ∙ e ∙ sym (same k)), h.1)

pub meets_same : (f g : ℕ → List Val) (limit : Rounds) (l : Lone) → ((r : ℕ) → f r ≡ g r) → IsAnswerFrom f limit l → IsAnswerFrom g limit l
meets_same f g (rounds.Within n) l same h = outcome_same f g n l.outcome l.values same h
meets_same f g (rounds.For n) l same h = (h.0, h.1 ∙ same n)

pub answer_permuted : (answer : Answer) (p : Program) (graph : GraphData) (xs ys : List Arc) (limit : Rounds) → IsPermutation xs ys → answer_of answer p graph xs limit ≡ answer_of answer p graph ys limit
answer_permuted answer p graph xs ys limit s = answer_is answer p graph ys limit (answer_of answer p graph xs limit) (meets_same (lone answer p graph xs) (lone answer p graph ys) limit (answer_of answer p graph xs limit) (λ r. permuted-arcs answer p graph xs ys r s) (answer_meets answer p graph xs limit))

-- ---- how many rounds

pub outcome_rounds : (values : ℕ → List Val) (n : ℕ) (o : Outcome) (vs : List Val) → OutcomeIs values n o vs → rounds_run n o ≤ n
outcome_rounds values n (outcome.Settled r) vs h = let low = h.0.within in omega arith
outcome_rounds values n (outcome.After r) vs h = absurd h
outcome_rounds values n (outcome.Phases r) vs h = absurd h
outcome_rounds values n outcome.Unsettled vs h = omega arith

after_rounds : (n m : ℕ) (o : Outcome) → o ≡ outcome.After n → rounds_run m o ≤ n
after_rounds n m o e = subst (λ x. rounds_run m x ≤ n) (sym e) (omega arith)

-- at most those that are allowed
pub few_rounds : (answer : Answer) (p : Program) (graph : GraphData) (arcs : List Arc) (limit : Rounds) (l : Lone) → IsAnswer answer p graph arcs limit l → rounds_run (number_of limit) l.outcome ≤ number_of limit
few_rounds answer p graph arcs (rounds.Within n) l h = outcome_rounds (lone answer p graph arcs) n l.outcome l.values h
few_rounds answer p graph arcs (rounds.For n) l h = after_rounds n n l.outcome h.0
