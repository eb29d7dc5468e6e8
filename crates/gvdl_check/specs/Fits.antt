-- What holds of every plan that is made for a graph, and of what is known on the way to it.
use Rattle.std.specs.Prelude.{◌≡◌, ℕ, ◌+◌, ◌<◌, ◌≤◌, Bool, true, false, nat_lt, IsTrue, All, List, [], ◌∷◌}
use Rattle.std.specs.Prelude.{length, map, take, slice_get, Option, None, Some, is_some, IfSome}
use Rattle.std.specs.Prelude.{get_or, bytes_eq}
use Rattle.std.specs.List.{list_all, sum_by, IsDistinct}
use Rattle.graph_model.specs.GraphData.{GraphData}
use Rattle.edge_predicates.specs.declared.pred.Place.{Place}
use Rattle.edge_predicates.specs.declared.pred.Place.TheVariants as place
use Rattle.edge_predicates.specs.declared.pred.Pred.{Pred}
use Rattle.edge_predicates.specs.declared.pred.Pred.TheOpen.{Pred-F}
use Rattle.edge_predicates.specs.declared.pred.Pred.TheFolds.{fold-Pred}
use Rattle.graph_model.specs.declared.cell.Column.{Column}
use Rattle.segment_split.specs.Rule.{HasNumber}
use Rattle.vertex_lang.specs.Values.{lowest_number}
use Rattle.vertex_lang.specs.Leaves.{HoldsNumber, IsChecked, is_int}
use Rattle.vertex_lang.specs.Lone.{number_of}
use Rattle.gvdl_programs.specs.Calls.{HasNoLowest, ArgFits}
use Rattle.gvdl_programs.specs.Fits.{ProgramFits}
use Rattle.gvdl_check.specs.declared.names.Meaning.{Meaning}
use Rattle.gvdl_check.specs.declared.names.Meaning.TheVariants as meaning
use Rattle.gvdl_check.specs.declared.plan.ViewPlan.{ViewPlan}
use Rattle.gvdl_check.specs.declared.plan.RunPlan.{RunPlan}
use Rattle.gvdl_check.specs.declared.plan.Step.{Step}
use Rattle.gvdl_check.specs.declared.plan.Step.TheVariants as step
use Rattle.gvdl_check.specs.declared.plan.Plan.{Plan}
use Rattle.gvdl_check.specs.declared.known.Known.{Known}
use Rattle.gvdl_check.specs.Known.{views_in}
use Rattle.gvdl_check.specs.Steps.{comes, edits, runs, StepsFit, StepFits, runs_at, views_at}

-- the column that a place names is one of the graph
abbrev pub place_fits : GraphData → Place → Bool
place_fits g (place.Number z) = true
place_fits g (place.Str text) = true
place_fits g (place.Bool b) = true
place_fits g place.SrcId = true
place_fits g place.DstId = true
place_fits g (place.Src column) = nat_lt column (length g.node_columns)
place_fits g (place.Dst column) = nat_lt column (length g.node_columns)
place_fits g (place.Edge column) = nat_lt column (length g.edge_columns)

abbrev pub fits_of : GraphData → Pred-F Bool → Bool
fits_of g (Pred-F.Or members) = list_all (λ fits. fits) members
fits_of g (Pred-F.And members) = list_all (λ fits. fits) members
fits_of g (Pred-F.Not member) = member
fits_of g (Pred-F.Constant b) = true
fits_of g (Pred-F.Compare a sign b) = list_all (place_fits g) (a ∷ b ∷ [])
fits_of g (Pred-F.Missing a) = place_fits g a

-- each column that a predicate names is one of the graph
unfoldable pub fits : GraphData → Pred → Bool
fits g = fold-Pred Bool (fits_of g)

abbrev pub RuleFits : GraphData → List Pred → Type 0
RuleFits g rules = All (λ p. IsTrue (fits g p)) rules

-- the views of a collection
pub record ViewsFit (g : GraphData) (views : List ViewPlan) : Type 0 where
  pub few : length views ≤ 1_024
  pub rules : All (λ view. RuleFits g view.rule.rules) views
  pub distinct : IsDistinct bytes_eq (map (λ view. view.name) views)

-- A run on one of so many collections, of a program that fits the graph, with rounds and segments that are allowed. A
-- property among the arguments of its call is the name of a column, and its program holds the number -(2^63) only where
-- an argument is that number.
pub record RunFits (g : GraphData) (collections : ℕ) (run : RunPlan) : Type 0 where
  pub collection : run.collection < collections
  pub checked : IsChecked run.program g
  pub call : All (ArgFits g) run.call.args
  pub numbers : HasNoLowest run.call.args → HoldsNumber run.program lowest_number → ⊥
  pub some : 1 ≤ number_of run.rounds
  pub limit : number_of run.rounds ≤ 1_000_000
  pub split : HasNumber run.split
  pub phases : IfSome run.phases (λ n. (1 ≤ n) × (n ≤ 1_000) × (run.keep ≡ None))

-- the column that is summed, where one is, is one of the edges and has numbers
abbrev pub SumFits : GraphData → Option ℕ → Type 0
SumFits g None = Unit {0}
SumFits g (Some column) = (c : Column) × (slice_get g.edge_columns column ≡ Some c) × IsTrue (is_int c.kind)

-- each column that a step names is one of the graph
abbrev pub ColumnsFit : GraphData → Step → Type 0
ColumnsFit g (step.Remove rule) = IsTrue (fits g rule)
ColumnsFit g (step.Aggregate place by sum) = (by < length g.node_columns) × SumFits g sum
ColumnsFit g _ = Unit {0}

-- The run with this place is told to be edited, where it is kept. No work is shown of such a run.
abbrev pub IsToldEdited : Plan → ℕ → Type 0
IsToldEdited p place = (run : RunPlan) → slice_get p.runs place ≡ Some run → run.edited ≡ is_some run.keep

abbrev pub ShowsWork : Plan → Step → Type 0
ShowsWork p (step.ShowWork place) = (run : RunPlan) → slice_get p.runs place ≡ Some run → run.edited ≡ false
ShowsWork p _ = Unit {0}

pub record PlanFits (g : GraphData) (p : Plan) : Type 0 where
  pub collections : All (λ c. ViewsFit g c.views) p.collections
  pub runs : All (RunFits g (length p.collections)) p.runs
  pub steps : (n : ℕ) → n < length p.steps → StepFits p n (get_or p.steps n step.Nothing)
  -- at each step a collection has some of the views that it has at the end
  pub views : (n place : ℕ) → views_at p n place ≤ length (views_in p.collections place)
  pub all : (place : ℕ) → views_at p (length p.steps) place ≡ length (views_in p.collections place)
  -- all edges that come are edges of the graph
  pub edges : p.loaded + sum_by comes p.steps ≤ length g.ends
  pub columns : All (ColumnsFit g) p.steps
  -- a run that is kept while edges come or go is told to be edited
  pub edited : (n place : ℕ) → n < length p.steps → edits (get_or p.steps n step.Nothing) ≡ true → place < runs_at p n → IsToldEdited p place
  pub works : All (ShowsWork p) p.steps

-- no program of the plan holds the number -(2^63)
abbrev pub HoldsNoLowest : Plan → Type 0
HoldsNoLowest p = All (λ run. HoldsNumber run.program lowest_number → ⊥) p.runs

-- ---- on the way to the plan

-- what a name stands for, where there are so many collections and runs
abbrev pub MeaningFits : GraphData → (collections runs : ℕ) → Meaning → Type 0
MeaningFits g n m (meaning.Program p) = ProgramFits g p
MeaningFits g n m (meaning.Base place) = Unit {0}
MeaningFits g n m (meaning.Collection place base) = place < n
MeaningFits g n m (meaning.Kept place) = place < m

-- what the steps so far name of the graph, the edges that came, and the numbers of the statements of so many runs
pub record CountsFit (g : GraphData) (steps : List Step) (loaded came : ℕ) (told : List ℕ) (ran : ℕ) : Type 0 where
  pub columns : All (ColumnsFit g) steps
  pub edges : came ≡ loaded + sum_by comes steps
  pub numbers : length told ≡ ran
  pub numbered : (n place : ℕ) → n ≤ length steps → place < sum_by runs (take n steps) → get_or told place 0 < n + 2

-- what is known fits the graph
pub record KnownFits (g : GraphData) (k : Known) : Type 0 where
  pub names : All (λ taken. MeaningFits g (length k.collections) (length k.runs) taken.1) k.names
  pub singles : All (RuleFits g) k.singles
  pub collections : All (λ c. ViewsFit g c.views) k.collections
  pub runs : All (RunFits g (length k.collections)) k.runs
  pub steps : StepsFit k.loaded k.steps k.collections k.runs
  pub counts : CountsFit g k.steps k.loaded k.edges k.numbers (length k.runs)

-- what is known has as many items of each kind at most
pub record IsSmall (n : ℕ) (k : Known) : Type 0 where
  pub singles : length k.singles ≤ n
  pub collections : length k.collections ≤ n
  pub runs : length k.runs ≤ n
  pub files : k.files ≤ n + 1
