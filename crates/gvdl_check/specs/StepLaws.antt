-- One step more, and what holds at each step of a plan.
use Rattle.std.proofs.Common.{◌≡◌, ◌∙◌, ℕ, ◌+◌, ◌-◌, ◌<◌, ◌≤◌, ◌==◌, Bool, true}
use Rattle.std.proofs.Common.{false, List, [], ◌∷◌, ◌++◌}
use Rattle.std.proofs.Common.{length, take, drop, get_or, refl, sym, ap, subst, inl, inr}
use Rattle.std.proofs.Common.{arith, length-append}
use Rattle.std.specs.List.{sum_by}
use Rattle.std.proofs.lemmas.Bool.{cases_lt, eqb-true, eqb-false, eq-eqb, ne_eqb, cond-true}
use Rattle.std.proofs.lemmas.Bool.{cond-false}
use Rattle.std.proofs.lemmas.List.{get_or_append_left, get_or_push, get_or_past, get_or-set_same}
use Rattle.std.proofs.lemmas.List.{get_or-set_other}
use Rattle.std.proofs.lemmas.List.{length-set, take-append-le, take_at, take-append-drop, take_more}
use Rattle.std.proofs.lemmas.List.{take_all}
use Rattle.std.proofs.lemmas.List.Sums.{sum_by-append, sum_by_push}
use Rattle.gvdl_check.specs.declared.plan.ViewPlan.{ViewPlan}
use Rattle.gvdl_check.specs.declared.plan.CollectionPlan.{CollectionPlan}
use Rattle.gvdl_check.specs.declared.plan.RunPlan.{RunPlan}
use Rattle.gvdl_check.specs.declared.plan.Step.{Step}
use Rattle.gvdl_check.specs.declared.plan.Step.TheVariants as step
use Rattle.gvdl_check.specs.declared.plan.Plan.{Plan}
use Rattle.gvdl_check.specs.Known.{collection_plan, collection_at, views_in, with_views}
use Rattle.gvdl_check.specs.Known.{append_step}
use Rattle.gvdl_check.specs.Steps.{makes, runs, gives, Follows, StepsFit, StepFits}
use Rattle.gvdl_check.specs.Steps.{views_at}

-- ---- one step more

abbrev Each : ℕ → List Step → Type 0
Each loaded steps = (n : ℕ) → n < length steps → Follows loaded (take n steps) (get_or steps n step.Nothing)

each_push : (loaded : ℕ) (steps : List Step) (s : Step) → Each loaded steps → Follows loaded steps s → Each loaded (steps ++ s ∷ [])
each_push loaded steps s all last n lt = elim (cases_lt n (length steps)) [
  | inl h ↦
      let front = take-append-le n steps (s ∷ []) (omega (arith, h)) in
      let here = get_or_append_left steps (s ∷ []) step.Nothing n h in
      subst (λ (b : List Step). Follows loaded b (get_or (steps ++ s ∷ []) n step.Nothing)) (sym front)
      (subst (Follows loaded (take n steps)) (sym here) (all n h))
  | inr h ↦
      let same : length steps ≡ n = omega (arith, h, lt, length-append steps (s ∷ [])) in
      let front = take_at steps (s ∷ []) n same in
      let here = get_or_push steps s step.Nothing n same in
      subst (λ (b : List Step). Follows loaded b (get_or (steps ++ s ∷ []) n step.Nothing)) (sym front)
      (subst (Follows loaded steps) (sym here) last)
]

module _ (loaded : ℕ) (steps : List Step) (cs : List CollectionPlan) (rs : List RunPlan) (fit : StepsFit loaded steps cs rs) where
  -- a step that makes nothing
  pub quiet_fits : (s : Step) → makes s ≡ 0 → runs s ≡ 0 → ((place : ℕ) → gives place s ≡ 0) → Follows loaded steps s
      → StepsFit loaded (steps ++ s ∷ []) cs rs
  quiet_fits s no_collection no_run no_view last = record {
    collections = omega (arith, sum_by_push makes steps s, no_collection, fit.collections);
    runs = omega (arith, sum_by_push runs steps s, no_run, fit.runs);
    views = λ place. omega (arith, sum_by_push (gives place) steps s, no_view place, fit.views place);
    each = each_push loaded steps s fit.each last;
  }

  pub run_fits : (r : RunPlan) → StepsFit loaded (steps ++ step.Run (length rs) ∷ []) cs (rs ++ r ∷ [])
  run_fits r =
      let s = step.Run (length rs) in
      record {
        collections = omega (arith, sum_by_push makes steps s, fit.collections);
        runs = omega (arith, sum_by_push runs steps s, fit.runs, length-append rs (r ∷ []));
        views = λ place. omega (arith, sum_by_push (gives place) steps s, fit.views place);
        each = each_push loaded steps s fit.each (sym fit.runs);
      }

  -- ---- a collection more

  none_past : (place : ℕ) → length cs ≤ place → length (views_in cs place) ≡ 0
  none_past place le = ap (λ (c : CollectionPlan). length c.views) (get_or_past cs place (collection_plan [] []) le)

  pub make_fits : (name : List ℕ) (views : List ViewPlan)
      → StepsFit loaded (steps ++ step.Make (length cs) (length views) ∷ []) (cs ++ collection_plan name views ∷ []) rs
  make_fits name views =
      let s = step.Make (length cs) (length views) in
      let c = collection_plan name views in
      record {
        collections = omega (arith, sum_by_push makes steps s, fit.collections, length-append cs (c ∷ []));
        runs = omega (arith, sum_by_push runs steps s, fit.runs);
        views = given;
        each = each_push loaded steps s fit.each (sym fit.collections, fit.views (length cs) ∙ none_past (length cs) (omega arith));
      } where
        given : (place : ℕ) → sum_by (gives place) (steps ++ step.Make (length cs) (length views) ∷ [])
            ≡ length (views_in (cs ++ collection_plan name views ∷ []) place)
        given place = elim (cases_lt place (length cs)) [
          | inl h ↦
              let other = ne_eqb (length cs) place (λ e. omega (arith, e, h)) in
              let here = ap (λ (d : CollectionPlan). length d.views)
              (get_or_append_left cs (collection_plan name views ∷ []) (collection_plan [] []) place h) in
              let more = sum_by_push (gives place) steps (step.Make (length cs) (length views)) in
              omega (arith, more, cond-false (length cs == place) (length views) 0 other, fit.views place, here)
          | inr h ↦ elim (cases_lt (length cs) place) [
            | inl lt ↦
                let other = ne_eqb (length cs) place (λ e. omega (arith, e, lt)) in
                let all = length-append cs (collection_plan name views ∷ []) in
                let here = ap (λ (d : CollectionPlan). length d.views)
                (get_or_past (cs ++ collection_plan name views ∷ []) place (collection_plan [] []) (omega (arith, all, lt))) in
                let more = sum_by_push (gives place) steps (step.Make (length cs) (length views)) in
                omega (arith, more, cond-false (length cs == place) (length views) 0 other, fit.views place, none_past place h, here)
            | inr le ↦
                let same : length cs ≡ place = omega (arith, h, le) in
                let this = eq-eqb (length cs) place same in
                let here = ap (λ (d : CollectionPlan). length d.views)
                (get_or_push cs (collection_plan name views) (collection_plan [] []) place same) in
                let more = sum_by_push (gives place) steps (step.Make (length cs) (length views)) in
                omega (arith, more, cond-true (length cs == place) (length views) 0 this, fit.views place, none_past place h, here)
          ]
        ]

  -- ---- more views in a collection

  pub append_fits : (place : ℕ) (views : List ViewPlan) → place < length cs → length (views_in cs place) ≤ length views
      → StepsFit loaded (steps ++ append_step cs (with_views cs place views) place ∷ []) (with_views cs place views) rs
  append_fits place views within grown =
      let s = append_step cs (with_views cs place views) place in
      let c = collection_plan (collection_at cs place).name views in
      record {
        collections = omega (arith, sum_by_push makes steps s, fit.collections, length-set cs place c);
        runs = omega (arith, sum_by_push runs steps s, fit.runs);
        views = given;
        each = each_push loaded steps s fit.each (omega (arith, within, fit.collections), sym (fit.views place));
      } where
        here : length (views_in (with_views cs place views) place) ≡ length views
        here = ap (λ (d : CollectionPlan). length d.views)
            (get_or-set_same cs place (collection_plan (collection_at cs place).name views) (collection_plan [] []) within)

        given : (other : ℕ) → sum_by (gives other) (steps ++ append_step cs (with_views cs place views) place ∷ [])
            ≡ length (views_in (with_views cs place views) other)
        given other = by (place == other) refl where
          count : ℕ
          count = length (views_in (with_views cs place views) place) - length (views_in cs place)

          by : (b : Bool) → (place == other) ≡ b
              → sum_by (gives other) (steps ++ append_step cs (with_views cs place views) place ∷ [])
              ≡ length (views_in (with_views cs place views) other)
          by true e =
              let more = sum_by_push (gives other) steps (append_step cs (with_views cs place views) place) in
              let same : place ≡ other = eqb-true place other e in
              let there = ap (λ (p : ℕ). length (views_in (with_views cs place views) p)) same in
              let before = ap (λ (p : ℕ). length (views_in cs p)) same in
              omega (arith, more, cond-true (place == other) count 0 e, fit.views other, here, there, before, grown)
          by false e =
              let more = sum_by_push (gives other) steps (append_step cs (with_views cs place views) place) in
              let differ : other ≡ place → ⊥ = λ same. eqb-false place other e (sym same) in
              let there = ap (λ (d : CollectionPlan). length d.views)
              (get_or-set_other cs place other (collection_plan (collection_at cs place).name views) (collection_plan [] []) differ) in
              omega (arith, more, cond-false (place == other) count 0 e, fit.views other, there)

-- ---- each step of a plan

-- the first steps count at most what all count
pub first_count : (f : Step → ℕ) (steps : List Step) (n : ℕ) → sum_by f (take n steps) ≤ sum_by f steps
first_count f steps n =
    let all = ap (sum_by f) (take-append-drop n steps) in
    let parts = sum_by-append f (take n steps) (drop n steps) in
    omega (arith, all, parts)

-- and so they do with the next
next_count : (f : Step → ℕ) (steps : List Step) (n : ℕ) (s : Step) → n < length steps → get_or steps n step.Nothing ≡ s
    → sum_by f (take n steps) + f s ≤ sum_by f steps
next_count f steps n s lt is =
    let more = ap (sum_by f) (take_more steps n step.Nothing lt ∙ ap (λ (x : Step). take n steps ++ x ∷ []) is) in
    let parts = sum_by_push f (take n steps) s in
    omega (arith, more, parts, first_count f steps (n + 1))

module _ (p : Plan) (fit : StepsFit p.loaded p.steps p.collections p.runs) where
  step_fits : (n : ℕ) (s : Step) → n < length p.steps → get_or p.steps n step.Nothing ≡ s → Follows p.loaded (take n p.steps) s
      → StepFits p n s
  step_fits n step.Nothing lt is h = tt
  step_fits n (step.Make place count) lt is h =
      let one = next_count makes p.steps n (step.Make place count) lt is in
      let all = next_count (gives place) p.steps n (step.Make place count) lt is in
      let own = eq-eqb place place refl in
      let given = cond-true (place == place) count 0 own in
      (h.0, omega (arith, h.0, one, fit.collections), h.1, omega (arith, all, given, fit.views place))
  step_fits n (step.Run place) lt is h =
      (h, omega (arith, h, next_count runs p.steps n (step.Run place) lt is, fit.runs))
  step_fits n (step.Append place first count) lt is h =
      let all = next_count (gives place) p.steps n (step.Append place first count) lt is in
      let own = eq-eqb place place refl in
      let given = cond-true (place == place) count 0 own in
      let some = first_count makes p.steps n in
      (h.0, omega (arith, h.0, some, fit.collections), h.1, omega (arith, all, given, h.1, fit.views place))
  step_fits n (step.ShowOrder place) lt is h = (h, omega (arith, h, first_count makes p.steps n, fit.collections))
  step_fits n (step.ShowWork place) lt is h = (h, omega (arith, h, first_count runs p.steps n, fit.runs))
  step_fits n (step.ShowTree place) lt is h = (h, omega (arith, h, first_count makes p.steps n, fit.collections))
  step_fits n (step.Insert first count) lt is h = h
  step_fits n (step.Remove rule) lt is h = tt
  step_fits n (step.Aggregate place by sum) lt is h = (h, omega (arith, h, first_count makes p.steps n, fit.collections))

  pub each_fits : (n : ℕ) → n < length p.steps → StepFits p n (get_or p.steps n step.Nothing)
  each_fits n lt = step_fits n (get_or p.steps n step.Nothing) lt refl (fit.each n lt)

  pub some_views : (n place : ℕ) → views_at p n place ≤ length (views_in p.collections place)
  some_views n place = omega (arith, first_count (gives place) p.steps n, fit.views place)

  pub all_views : (place : ℕ) → views_at p (length p.steps) place ≡ length (views_in p.collections place)
  all_views place = ap (sum_by (gives place)) (take_all (length p.steps) p.steps (omega arith)) ∙ fit.views place
