-- The collections after an append.
use Rattle.std.proofs.Common.{◌≡◌, ◌∙◌, ℕ, ◌<◌, ◌≤◌, ◌-◌, List, [], ◌∷◌, ◌++◌, length, get_or, sym, ap, subst, arith, Option, Ok}
use Rattle.std.proofs.lemmas.List.{get_or_default, get_or-set_same, length-set}
use Rattle.graph_model.specs.GraphData.{GraphData}
use Rattle.gvdl_tree.specs.declared.script.Item.{Item}
use Rattle.edge_predicates.specs.declared.pred.Pred.{Pred}
use Rattle.gvdl_check.specs.declared.plan.CollectionPlan.{CollectionPlan}
use Rattle.gvdl_programs.specs.Judging.{Judged, ◌>>=◌}
use Rattle.gvdl_programs.specs.JudgingLaws.{goes_on, through, same_value}
use Rattle.gvdl_check.specs.declared.known.Known.{Known}
use Rattle.gvdl_check.specs.declared.plan.Step.{Step}
use Rattle.gvdl_check.specs.declared.plan.Step.TheVariants as step
use Rattle.gvdl_check.specs.Known.{collection_plan, collection_at, views_in, with_views, append_step, with_append}
use Rattle.gvdl_check.specs.Names.{collection_of}
use Rattle.gvdl_check.specs.Singles.{rules_at}
use Rattle.gvdl_check.specs.Views.{items_added}
use Rattle.gvdl_check.specs.ViewLaws.{views_few, views_grow}
use Rattle.gvdl_check.specs.Plans.{views_appended, append}

-- the collection is there, with all views that it had and no more than it may have
pub record Appended (these those : List CollectionPlan) (place : ℕ) : Type 0 where
  pub within : place < length those
  pub grown : length (views_in these place) ≤ length (views_in those place)
  pub few : length (views_in those place) ≤ 1_024

pub appended : (g : GraphData) (base : List Pred) (these those : List CollectionPlan) (place : ℕ) (items : List Item)
    → place < length these → length (views_in these place) ≤ 1_024 → views_appended g base these place items ≡ Ok those
    → Appended these those place
appended g base these those place items lt few e =
    let u = through (items_added g base (views_in these place) items) (λ views. Ok (with_views these place views)) those e in
    let c = collection_plan (collection_at these place).name u.value in
    let same : length (with_views these place u.value) ≡ length these = length-set these place c in
    let here : length (views_in (with_views these place u.value) place) ≡ length u.value =
    ap (λ (d : CollectionPlan). length d.views) (get_or-set_same these place c (collection_plan [] []) lt) in
    let grown = views_grow g base items (views_in these place) u.value u.first in
    let all = views_few g base items (views_in these place) u.value few u.first in
    subst (λ (those : List CollectionPlan). Appended these those place) (same_value (with_views these place u.value) those u.rest) (record {
      within = omega (arith, lt, same);
      grown = omega (arith, here, grown);
      few = omega (arith, here, all);
    })

-- how many views a collection has, as it is read
pub views_read : (read cs : List CollectionPlan) (place n : ℕ) (d : CollectionPlan) → read ≡ cs → place < length cs
    → n ≡ length (get_or read place d).views → n ≡ length (views_in cs place)
views_read read cs place n d same lt e =
    e ∙ ap (λ (l : List CollectionPlan). length (get_or l place d).views) same
    ∙ ap (λ (c : CollectionPlan). length c.views) (get_or_default cs place d (collection_plan [] []) lt)

-- what is known after an append, from its parts
pub append_gives : (g : GraphData) (k : Known) (target : List ℕ) (items : List Item) (place : ℕ) (base : Option ℕ)
    (rules : List Pred) (those : List CollectionPlan) (first all : ℕ) → collection_of k.names target ≡ Ok (place, base)
    → rules ≡ rules_at k.singles base → views_appended g rules k.collections place items ≡ Ok those
    → first ≡ length (views_in k.collections place) → all ≡ length (views_in those place)
    → append g k target items ≡ Ok (record k { collections = those; steps = k.steps ++ step.Append place first (all - first) ∷ [] })
append_gives g k target items place base rules those first all found same more a b =
    let more_on : ℕ × Option ℕ → Judged (List CollectionPlan) = λ f. views_appended g (rules_at k.singles f.1) k.collections f.0 items in
    let last : ℕ × Option ℕ → List CollectionPlan → Judged Known = λ f cs. Ok (with_append k f.0 cs) in
    let on = goes_on (collection_of k.names target) (place, base) (λ f. more_on f >>= last f) found in
    let added = sym (ap (λ (r : List Pred). views_appended g r k.collections place items) same) ∙ more in
    let then = goes_on (more_on (place, base)) those (last (place, base)) added in
    let one : append_step k.collections those place ≡ step.Append place first (all - first) =
    ap (λ (n : ℕ). step.Append place n (length (views_in those place) - n)) (sym a)
    ∙ ap (λ (n : ℕ). step.Append place first (n - first)) (sym b) in
    on ∙ then ∙ ap (λ (s : Step). Ok (record k { collections = those; steps = k.steps ++ s ∷ [] })) one
