-- Two versions of the views of a run.
use Rattle.std.specs.Prelude.{◌≡◌, ◌≤◌, length}
use Rattle.vertex_lang.specs.Expressions.{Answer}
use Rattle.vertex_lang.specs.Leaves.{IsChecked}
use Rattle.vertex_lang.specs.Lone.{number_of}
use Rattle.view_segment.specs.Tasks.{Task, task_over}
use Rattle.view_versions.specs.declared.slow.Versions.{Versions}

-- the program fits the graph, and both matrices are of its edges
pub record AreVersions (v : Versions) : Type 0 where
  pub checked : IsChecked v.program.now v.graph.now
  pub limit : number_of v.rounds ≤ 1_000_000
  pub old : length v.old.now.live ≡ length v.graph.now.ends
  pub new : length v.new.now.live ≡ length v.graph.now.ends

abbrev pub old_task : Answer → Versions → Task
old_task answer v = task_over answer v.program.now v.graph.now v.rounds v.old.now

abbrev pub new_task : Answer → Versions → Task
new_task answer v = task_over answer v.program.now v.graph.now v.rounds v.new.now
