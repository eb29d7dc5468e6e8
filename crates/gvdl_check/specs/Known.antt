-- What is known after some statements, and how it grows.
use Rattle.std.specs.Prelude.{ℕ, ◌+◌, ◌-◌, ◌&&◌, nat_lt, List, [], ◌∷◌, ◌++◌, length, get_or, set, Option, None, Some, is_some}
use Rattle.std.specs.Prelude.{codes}
use Rattle.edge_predicates.specs.declared.pred.Pred.{Pred}
use Rattle.gvdl_programs.specs.declared.template.ProgramTemplate.{ProgramTemplate}
use Rattle.gvdl_programs.specs.declared.template.Callable.TheVariants as callable
use Rattle.gvdl_check.specs.declared.names.Meaning.TheVariants as meaning
use Rattle.gvdl_check.specs.declared.plan.ViewPlan.{ViewPlan}
use Rattle.gvdl_check.specs.declared.plan.CollectionPlan.{CollectionPlan}
use Rattle.gvdl_check.specs.declared.plan.RunPlan.{RunPlan}
use Rattle.gvdl_check.specs.declared.plan.Step.{Step}
use Rattle.gvdl_check.specs.declared.plan.Step.TheVariants as step
use Rattle.gvdl_check.specs.declared.known.Known.{Known}
use Rattle.gvdl_check.specs.Names.{NameList}
use Rattle.gvdl_check.specs.Singles.{with_view}

-- the names that stand from the start
abbrev pub first_names : NameList
first_names =
    (codes "hops", meaning.Program callable.Hops)
    ∷ (codes "dist", meaning.Program callable.Dist)
    ∷ (codes "wcc", meaning.Program callable.Wcc)
    ∷ (codes "pagerank", meaning.Program callable.Pagerank)
    ∷ []

-- after the load of a graph with this name, where so many edges come with the edges file
abbrev pub loaded : List ℕ → ℕ → Known
loaded graph count = record {
  names = first_names ++ (graph, meaning.Base None) ∷ [];
  singles = [];
  collections = [];
  runs = [];
  numbers = [];
  steps = [];
  loaded = count;
  edges = count;
  files = 1;
}

-- after one more step, which adds nothing else
abbrev pub with_step : Known → Step → Known
with_step k s = record k { steps = k.steps ++ s ∷ [] }

-- after so many edges of a file
abbrev pub with_insert : Known → ℕ → Known
with_insert k count = record k {
  steps = k.steps ++ step.Insert k.edges count ∷ [];
  edges = k.edges + count;
  files = k.files + 1;
}

-- after a single view on the graph or a single view
abbrev pub with_single : Known → List ℕ → Option ℕ → Pred → Known
with_single k name base p = record k {
  names = k.names ++ (name, meaning.Base (Some (length k.singles))) ∷ [];
  singles = with_view k.singles base p;
  steps = k.steps ++ step.Nothing ∷ [];
}

abbrev pub collection_plan : List ℕ → List ViewPlan → CollectionPlan
collection_plan name views = record { name = name; views = views }

-- after a collection on the graph or a single view
abbrev pub with_collection : Known → List ℕ → Option ℕ → List ViewPlan → Known
with_collection k name base views = record k {
  names = k.names ++ (name, meaning.Collection (length k.collections) base) ∷ [];
  collections = k.collections ++ collection_plan name views ∷ [];
  steps = k.steps ++ step.Make (length k.collections) (length views) ∷ [];
}

-- the collection with this place
abbrev pub collection_at : List CollectionPlan → ℕ → CollectionPlan
collection_at collections place = get_or collections place (collection_plan [] [])

-- the views of the collection with this place
abbrev pub views_in : List CollectionPlan → ℕ → List ViewPlan
views_in collections place = (collection_at collections place).views

-- the collections, where the one with this place has these views
abbrev pub with_views : List CollectionPlan → ℕ → List ViewPlan → List CollectionPlan
with_views collections place views =
    set collections place (collection_plan (collection_at collections place).name views)

-- the step from these collections to those, by which the one with this place has more views
abbrev pub append_step : (these those : List CollectionPlan) → ℕ → Step
append_step these those place =
    step.Append place (length (views_in these place))
    (length (views_in those place) - length (views_in these place))

-- after an append to the collection with this place, with the collections that there are then
abbrev pub with_append : Known → ℕ → List CollectionPlan → Known
with_append k place collections = record k {
  collections = collections;
  steps = k.steps ++ append_step k.collections collections place ∷ [];
}

abbrev pub with_program : Known → List ℕ → ProgramTemplate → Known
with_program k name t = record k {
  names = k.names ++ (name, meaning.Program (callable.Written t)) ∷ [];
  steps = k.steps ++ step.Nothing ∷ [];
}

-- after a run, whose statement has this number, with the names that are taken then
abbrev pub with_run : Known → ℕ → NameList → RunPlan → Known
with_run k number names run = record k {
  names = names;
  runs = k.runs ++ run ∷ [];
  numbers = k.numbers ++ number ∷ [];
  steps = k.steps ++ step.Run (length k.runs) ∷ [];
}

-- ---- runs that are kept while edges come or go

-- Such a run is told to be edited: it is kept, and its statement stands before the last one by which edges come or go.
abbrev pub run_marked : (last number : ℕ) → RunPlan → RunPlan
run_marked last number run = record run { edited = is_some run.keep && nat_lt number last }

abbrev pub runs_marked : ℕ → List ℕ → List RunPlan → List RunPlan
runs_marked last [] runs = []
runs_marked last (number ∷ numbers) [] = []
runs_marked last (number ∷ numbers) (run ∷ runs) = run_marked last number run ∷ runs_marked last numbers runs
