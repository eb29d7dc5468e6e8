-- What follows from the definitions, each law as one statement.
use Rattle.std.specs.Prelude.{◌≡◌, ◌<◌, ◌≤◌, ◌*◌, ℕ, Bool, not, List, length, All}
use Rattle.graph_model.specs.declared.number.EdgeNo.{EdgeNo}
use Rattle.graph_model.specs.GraphData.{GraphData}
use Rattle.edge_predicates.specs.declared.pred.ViewRule.{ViewRule}
use Rattle.vertex_lang.specs.Expressions.{Answer}
use Rattle.vertex_lang.specs.Lone.{number_of}
use Rattle.view_matrix.specs.Matrices.{MatrixData, live_of, with_changes, with_views}
use Rattle.view_segment.specs.Tasks.{Task}
use Rattle.view_versions.specs.declared.engine.VersionEngine.{VersionEngine}
use Rattle.view_versions.specs.Edits.{AreEdits, taken_back}
use Rattle.view_versions.specs.Engines.{Stands}
use Rattle.view_versions.specs.Touched.{edit_works, touched}

-- changes each of which turns an edge are edits of the matrix that they make, and taken back there they give the matrix again
abbrev pub EditsAreTakenBack : Type 0
EditsAreTakenBack = (m : MatrixData) (changes : List (EdgeNo × Bool)) → All (λ c. c.0.0 < length m.live) changes → All (λ c. c.1 ≡ not (live_of m c.0.0)) changes
    → AreEdits (with_changes m changes) changes × (taken_back (with_changes m changes) changes ≡ m)

-- the works of views, each behind its own version before, are at most the touched nodes times the views times the rounds
abbrev pub WorksAreTouched : Type 0
WorksAreTouched = (old new : Task) (views : List ℕ) → edit_works old new views ≤ touched old new views * (length views * number_of new.rounds)

-- an engine that stands for a matrix stands for it with more views behind its own
abbrev pub StandsWithMore : Type 0
StandsWithMore = (answer : Answer) (m : MatrixData) (e : VersionEngine) (graph : GraphData) (rules : List ViewRule) → Stands answer m e → Stands answer (with_views m graph rules) e
