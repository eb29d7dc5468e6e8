-- Which edges are live where a plan goes on over a graph with more edges: those that were.
use Rattle.std.proofs.Common.{◌≡◌, ◌∙◌, ◌+◌, ◌-◌, ◌<◌, ◌≤◌, inl, inr, ℕ, zero, suc, Bool, false, ◌&&◌, ◌||◌, List, length, Option, Some, None, slice_get, refl, sym, ap, ap₂, arith}
use Rattle.std.specs.Prelude.{not, nat_lt}
use Rattle.std.proofs.lemmas.Bool.{cases_lt}
use Rattle.std.proofs.lemmas.List.FromFn.{length-map-range_with_len}
use Rattle.graph_model.specs.GraphData.{GraphData}
use Rattle.edge_predicates.specs.declared.pred.Pred.{Pred}
use Rattle.edge_predicates.specs.Truth.{truth}
use Rattle.gvdl_check.specs.declared.plan.Step.{Step}
use Rattle.gvdl_check.specs.declared.plan.Step.TheVariants as step
use Rattle.gvdl_check.specs.declared.plan.Plan.{Plan}
use Rattle.gvdl_check.specs.Steps.{comes, edits}
use Rattle.gvdl_check.specs.Fits.{PlanFits}
use Rattle.grown_graphs.specs.Growing.{GrowsTo}
use Rattle.grown_graphs.specs.Laws.{same-truths}
use Rattle.surge_session.specs.Live.{is_live, live_loaded, live_inserted, live_removed, live_after, live_at, graph_at}
use Rattle.surge_session.proofs.Brought.{brought, brought_within, inside, not_below, not_brought, outside}
use Rattle.surge_session.proofs.GrownViews.{HasGrown}
use Rattle.surge_session.proofs.LiveFacts.{live_count, live_next, live_passed}

abbrev left : GraphData → Pred → ℕ → Bool
left g rule e = not (truth g e rule)

-- ---- a plan, and one that begins with its steps over a graph with more edges

module _ (g h : GraphData) (p q : Plan) (fits : PlanFits g p) (more : GrowsTo g h) (loaded : q.loaded ≡ p.loaded)
    (steps : (n : ℕ) → n < length p.steps → slice_get q.steps n ≡ slice_get p.steps n) where
  loaded_few : p.loaded ≤ length g.ends
  loaded_few = omega (arith, fits.edges)

  -- ---- no edge behind those of the first graph is live

  behind_first : (e : ℕ) → length g.ends ≤ e → is_live (live_loaded h q) e ≡ false
  behind_first e le = elim (cases_lt e (length h.ends)) [
    | inl lt ↦ inside h (λ (k : ℕ). nat_lt k q.loaded) e lt ∙ not_below e q.loaded (omega (arith, loaded, loaded_few, le))
    | inr past ↦ outside (live_loaded h q) (length h.ends) e (length-map-range_with_len (λ (k : ℕ). nat_lt k q.loaded) 0 (length h.ends)) (omega (arith, past))
  ]

  behind_inserted : (live : List Bool) (first count e : ℕ) → first + count ≤ e → is_live live e ≡ false → is_live (live_inserted h live first count) e ≡ false
  behind_inserted live first count e le was = elim (cases_lt e (length h.ends)) [
    | inl lt ↦ inside h (λ (k : ℕ). is_live live k || brought first count k) e lt ∙ ap₂ (λ (a b : Bool). a || b) was (not_brought first count e le)
    | inr past ↦ outside (live_inserted h live first count) (length h.ends) e (length-map-range_with_len (λ (k : ℕ). is_live live k || brought first count k) 0 (length h.ends)) (omega (arith, past))
  ]

  behind_removed : (live : List Bool) (rule : Pred) (e : ℕ) → is_live live e ≡ false → is_live (live_removed h live rule) e ≡ false
  behind_removed live rule e was = elim (cases_lt e (length h.ends)) [
    | inl lt ↦ inside h (λ (k : ℕ). is_live live k && left h rule k) e lt ∙ ap (λ (b : Bool). b && left h rule e) was
    | inr past ↦ outside (live_removed h live rule) (length h.ends) e (length-map-range_with_len (λ (k : ℕ). is_live live k && left h rule k) 0 (length h.ends)) (omega (arith, past))
  ]

  behind_after : (n : ℕ) (live : List Bool) (s : Option Step) → slice_get p.steps n ≡ s → (e : ℕ) → length g.ends ≤ e → is_live live e ≡ false → is_live (live_after h live s) e ≡ false
  behind_after n live None at e le was = was
  behind_after n live (Some (step.Insert first count)) at e le was = behind_inserted live first count e (omega (arith, brought_within g p fits n first count at, le)) was
  behind_after n live (Some (step.Remove rule)) at e le was = behind_removed live rule e was
  behind_after n live (Some step.Nothing) at e le was = was
  behind_after n live (Some (step.Make place count)) at e le was = was
  behind_after n live (Some (step.Run place)) at e le was = was
  behind_after n live (Some (step.Append place first count)) at e le was = was
  behind_after n live (Some (step.ShowOrder place)) at e le was = was
  behind_after n live (Some (step.ShowWork place)) at e le was = was
  behind_after n live (Some (step.ShowTree place)) at e le was = was
  behind_after n live (Some (step.Aggregate place by sum)) at e le was = was

  none_behind : (n : ℕ) → n ≤ length p.steps → (e : ℕ) → length g.ends ≤ e → is_live (live_at h q n) e ≡ false
  unfolding live_at
  none_behind zero le e past = behind_first e past
  none_behind (suc n) le e past =
      let lt : n < length p.steps = omega (arith, le) in
      ap (λ (s : Option Step). is_live (live_after h (live_at h q n) s) e) (steps n lt)
      ∙ behind_after n (live_at h q n) (slice_get p.steps n) refl e past (none_behind n (omega (arith, le)) e past)

  -- ---- of the edges of the first graph the same are live

  module _ (e : ℕ) (lt : e < length g.ends) where
    within : e < length h.ends
    within = omega (arith, lt, more.count)

    same_inserted : (a b : List Bool) (first count : ℕ) → is_live b e ≡ is_live a e → is_live (live_inserted h b first count) e ≡ is_live (live_inserted g a first count) e
    same_inserted a b first count same =
        inside h (λ (k : ℕ). is_live b k || brought first count k) e within ∙ ap (λ (x : Bool). x || brought first count e) same
        ∙ sym (inside g (λ (k : ℕ). is_live a k || brought first count k) e lt)

    same_removed : (a b : List Bool) (rule : Pred) → is_live b e ≡ is_live a e → is_live (live_removed h b rule) e ≡ is_live (live_removed g a rule) e
    same_removed a b rule same =
        let told : truth h e rule ≡ truth g e rule = (same-truths g h e more lt).0 rule in
        inside h (λ (k : ℕ). is_live b k && left h rule k) e within ∙ ap₂ (λ (x y : Bool). x && not y) same told
        ∙ sym (inside g (λ (k : ℕ). is_live a k && left g rule k) e lt)

    same_after : (a b : List Bool) (s : Option Step) → is_live b e ≡ is_live a e → is_live (live_after h b s) e ≡ is_live (live_after g a s) e
    same_after a b None same = same
    same_after a b (Some (step.Insert first count)) same = same_inserted a b first count same
    same_after a b (Some (step.Remove rule)) same = same_removed a b rule same
    same_after a b (Some step.Nothing) same = same
    same_after a b (Some (step.Make place count)) same = same
    same_after a b (Some (step.Run place)) same = same
    same_after a b (Some (step.Append place first count)) same = same
    same_after a b (Some (step.ShowOrder place)) same = same
    same_after a b (Some (step.ShowWork place)) same = same
    same_after a b (Some (step.ShowTree place)) same = same
    same_after a b (Some (step.Aggregate place by sum)) same = same

    same_live : (n : ℕ) → n ≤ length p.steps → is_live (live_at h q n) e ≡ is_live (live_at g p n) e
    unfolding live_at
    same_live zero le =
        inside h (λ (k : ℕ). nat_lt k q.loaded) e within ∙ ap (nat_lt e) loaded ∙ sym (inside g (λ (k : ℕ). nat_lt k p.loaded) e lt)
    same_live (suc n) le =
        let before : n < length p.steps = omega (arith, le) in
        ap (λ (s : Option Step). is_live (live_after h (live_at h q n) s) e) (steps n before)
        ∙ same_after (live_at g p n) (live_at h q n) (slice_get p.steps n) (same_live n (omega (arith, le)))

  none_there : (n e : ℕ) → length g.ends ≤ e → is_live (live_at g p n) e ≡ false
  none_there n e le = outside (live_at g p n) (length g.ends) e (live_count g p n) le

  -- the graph before a step that both plans have
  pub has_grown : (n : ℕ) → n ≤ length p.steps → HasGrown (graph_at g p n) (graph_at h q n)
  has_grown n le = record {
    graph = more;
    live = λ e. elim (cases_lt e (length g.ends)) [
      | inl lt ↦ same_live e lt n le
      | inr past ↦ none_behind n le e (omega (arith, past)) ∙ sym (none_there n e (omega (arith, past)))
    ];
    none = none_there n;
  }

-- ---- where no edge comes or goes

module _ (h : GraphData) (q : Plan) (m n : ℕ) (none : (i : ℕ) (s : Step) → m ≤ i → i < n → slice_get q.steps i ≡ Some s → edits s ≡ false) where
  one_passed : (i : ℕ) (s : Option Step) → m ≤ i → i < n → slice_get q.steps i ≡ s → live_at h q (i + 1) ≡ live_at h q i
  one_passed i None le lt at = live_next h q i None at
  one_passed i (Some s) le lt at = live_passed h q i s at (none i s le lt at)

  pub all_passed : (count : ℕ) → m + count ≤ n → live_at h q (m + count) ≡ live_at h q m
  all_passed zero le = ap (live_at h q) (let e : m + zero ≡ m = omega arith in e)
  all_passed (suc count) le =
      ap (live_at h q) (let e : m + suc count ≡ m + count + 1 = omega arith in e)
      ∙ one_passed (m + count) (slice_get q.steps (m + count)) (omega arith) (omega (arith, le)) refl
      ∙ all_passed count (omega (arith, le))
