-- What the views of a run in phases share, and what is reached on one of them. Only the code's own contracts cite it.
use Rattle.std.specs.Prelude.{◌≡◌, ℕ, ◌*◌, ◌≤◌, List, [], ◌∷◌, ◌++◌, length, All, Option, Some, None}
use Rattle.graph_model.specs.declared.number.ViewNo.{ViewNo}
use Rattle.vertex_lang.specs.declared.arc.Arc.{Arc}
use Rattle.vertex_lang.specs.declared.lone.Lone.{Lone}
use Rattle.vertex_lang.specs.Expressions.{Answer}
use Rattle.vertex_lang.specs.Leaves.{IsChecked}
use Rattle.vertex_lang.specs.Phases.{phases_answer, starts_of}
use Rattle.view_matrix.specs.Matrices.{IsView}
use Rattle.result_tables.specs.Results.{Held, ResultsData, held_on, shown, table_held}
use Rattle.result_tables.specs.TableText.{table_of}
use Rattle.phase_runs.specs.declared.course.Course.{Course}
use Rattle.phase_runs.specs.declared.course.Reached.{Reached}
use Rattle.phase_runs.specs.declared.views.Answered.{Answered}
use Rattle.phase_runs.specs.declared.views.Last.{Last}
use Rattle.phase_runs.specs.Answers.{view_arcs, answer_on}

pub record IsCourse (c : Course) : Type 0 where
  pub checked : IsChecked c.program.now c.graph.now
  pub starts : c.starts.now ≡ starts_of c.program.now c.graph.now
  pub matrix : length c.matrix.now.live ≡ length c.graph.now.ends
  pub few_nodes : length c.graph.now.ids ≤ 1_000_000
  pub some : 1 ≤ c.rounds
  pub begun : 1 ≤ c.phases

-- what its table shows
abbrev pub told : Reached → Lone
told r = record { outcome = r.outcome; values = shown r.outcome r.values }

-- what phases over these arcs come to
pub record Reaches (answer : Answer) (c : Course) (arcs : List Arc) (r : Reached) : Type 0 where
  pub ends : told r ≡ phases_answer answer c.program.now c.graph.now arcs c.rounds c.phases
  pub size : length r.values ≡ length c.graph.now.ids

-- ---- on a view

abbrev pub held_of : ViewNo → Reached → Held
held_of view r = record { view = view; outcome = r.outcome; values = r.values }

-- with one more answer
abbrev pub with_held : ResultsData → Held → ResultsData
with_held m h = record { nodes = m.nodes; held = m.held ++ h ∷ [] }

-- what the phases on a view come to
abbrev pub ReachesOn : Answer → Course → ViewNo → Reached → Type 0
ReachesOn answer c view r = Reaches answer c (view_arcs c.program.now c.graph.now c.matrix.now view) r

-- how often the updater is called for a view at most
abbrev pub most_calls : Course → ℕ
most_calls c = length c.graph.now.ids * (c.rounds * c.phases)

-- ---- the answers so far

-- the table of an answer is that of its view
abbrev pub IsRight : Answer → Course → Held → Type 0
IsRight answer c h = table_held h ≡ table_of (answer_on answer c.program.now c.graph.now c.matrix.now c.rounds c.phases h.view)

-- the answer on a view is held, with all that was reached
pub record IsLast (answer : Answer) (c : Course) (results : ResultsData) (last : Last) : Type 0 where
  pub view : IsView c.matrix.now last.view
  pub held : held_on results last.view ≡ Some (held_of last.view last.reached)
  pub reached : ReachesOn answer c last.view last.reached

-- where there is none no answer is held
abbrev pub LastStands : Answer → Course → ResultsData → Option Last → Type 0
LastStands answer c results None = results.held ≡ []
LastStands answer c results (Some last) = IsLast answer c results last

pub record Stands (answer : Answer) (c : Course) (a : Answered) : Type 0 where
  pub nodes : a.results.nodes ≡ length c.graph.now.ids
  pub right : All (IsRight answer c) a.results.held
  pub last : LastStands answer c a.results a.last

abbrev pub place_of_last : Option Last → Option ℕ
place_of_last None = None
place_of_last (Some last) = Some last.view.0
