use Rattle.std.proofs.Common.{◌≡◌, map, drop}
use Rattle.gvdl_programs.specs.Judging.{each}
use Rattle.gvdl_programs.specs.Calls.{number_argument}
use Rattle.gvdl_programs.specs.Turns.{behind}
use Rattle.gvdl_programs.proofs.arguments.number_arguments.Given as goal

abbrev pub invariant-loop-arg : goal.invariant-loop-arg
invariant-loop-arg l = each (map number_argument l.args) ≡ behind l.numbers (each (map number_argument (drop l.arg-index l.args)))
