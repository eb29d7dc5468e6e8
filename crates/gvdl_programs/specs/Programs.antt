-- A program that a script writes, judged against a graph.
use Rattle.std.specs.Prelude.{ℕ, List, [], ◌∷◌, ◌++◌, length, is_none, Ok}
use Rattle.graph_model.specs.GraphData.{GraphData}
use Rattle.gvdl_tree.specs.declared.expression.ExprTree.{ExprTree}
use Rattle.gvdl_tree.specs.declared.script.Along.{Along}
use Rattle.gvdl_tree.specs.declared.script.Along.TheVariants as along
use Rattle.gvdl_tree.specs.declared.script.Gather.{Gather}
use Rattle.gvdl_tree.specs.declared.script.Gather.TheVariants as gather
use Rattle.vertex_lang.specs.declared.program.Along.{Along as ProgramAlong}
use Rattle.vertex_lang.specs.declared.program.Along.TheVariants as program_along
use Rattle.vertex_lang.specs.declared.program.Gather.{Gather as ProgramGather}
use Rattle.vertex_lang.specs.declared.program.Gather.TheVariants as program_gather
use Rattle.gvdl_programs.specs.declared.refusal.Refusal.TheVariants as refusal
use Rattle.gvdl_programs.specs.declared.template.ExprTemplate.{ExprTemplate}
use Rattle.gvdl_programs.specs.declared.template.ProgramTemplate.{ProgramTemplate}
use Rattle.gvdl_programs.specs.declared.expression.Part.TheVariants as part
use Rattle.gvdl_programs.specs.Judging.{Judged, ◌>>=◌, ◌>>◌, expect, in_turn}
use Rattle.gvdl_programs.specs.Expressions.{Places, place_of, expression}

abbrev pub direction : Along → ProgramAlong
direction along.Out = program_along.Out
direction along.In = program_along.In
direction along.Both = program_along.Both

abbrev pub gathering : Gather → ProgramGather
gathering gather.Min = program_gather.Min
gathering gather.Max = program_gather.Max
gathering gather.Sum = program_gather.Sum
gathering gather.Count = program_gather.Count

-- with one parameter more, whose name none before it has
abbrev pub parameter_added : Places → List ℕ → Judged Places
parameter_added ps name = do
  expect (is_none (place_of ps name)) refusal.RepeatedName
  Ok (ps ++ (name, length ps) ∷ [])

-- the parameters from the left, each against the ones before
abbrev pub parameters_of : List (List ℕ) → Judged Places
parameters_of names = in_turn parameter_added [] names

abbrev pub program_template : ℕ → Along → (start send : ExprTemplate) → Gather → ExprTemplate → ProgramTemplate
program_template parameters way start send how update = record {
  parameters = parameters;
  along = direction way;
  start = start;
  send = send;
  gather = gathering how;
  update = update;
}

-- the parameters, then the start, the message and the update
abbrev pub declared : GraphData → List (List ℕ) → Along → (start send : ExprTree) → Gather → ExprTree → Judged ProgramTemplate
declared g names way start send how update = do
  ps ← parameters_of names
  first ← expression g part.Start ps start
  message ← expression g part.Send ps send
  next ← expression g part.Update ps update
  Ok (program_template (length names) way first message how next)
