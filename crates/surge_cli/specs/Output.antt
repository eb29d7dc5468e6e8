-- What is printed.
use Rattle.std.specs.Prelude.{ℕ, List}
use Rattle.vertex_lang.specs.Expressions.{Answer}
use Rattle.change_text.specs.Spelling.{tables_text}
use Rattle.gvdl_printer.specs.Canonical.{canonical}
use Rattle.surge_session.specs.Output.{plan_text}
use Rattle.surge_session.specs.Works.{plan_work}
use Rattle.surge_cli.specs.declared.words.Task.{Task}
use Rattle.surge_cli.specs.declared.words.Task.TheVariants as task
use Rattle.surge_cli.specs.declared.job.Job.{Job}
use Rattle.surge_cli.specs.declared.job.Due.{Due}
use Rattle.surge_cli.specs.declared.job.Due.TheVariants as dues

-- The statements of a plan print their texts, one after the other: what each of them prints over the graph, given the
-- statements before it, is told where plans are executed. A script that is only checked is printed in its canonical form.
abbrev pub text_for : Answer → Job → Task → List ℕ
text_for answer job (task.Run form turns) = plan_text answer form job.graph job.plan
text_for answer job task.Check = canonical job.script

abbrev pub job_output : Answer → Job → List ℕ
job_output answer job = text_for answer job job.task

-- of a change text its tables are printed
abbrev pub output : Answer → Due → List ℕ
output answer (dues.Run job) = job_output answer job
output answer (dues.Replay blocks) = tables_text blocks

-- at most so often the updater is called: the works of all views that are run, and never where a script is only checked
abbrev pub work_for : Answer → Job → Task → ℕ
work_for answer job (task.Run form turns) = plan_work answer job.graph job.plan
work_for answer job task.Check = 0

abbrev pub job_work : Answer → Job → ℕ
job_work answer job = work_for answer job job.task

abbrev pub due_work : Answer → Due → ℕ
due_work answer (dues.Run job) = job_work answer job
due_work answer (dues.Replay blocks) = 0
