use Rattle.std.proofs.Common.{◌≡◌, drop}
use Rattle.gvdl_programs.specs.Judging.{in_turn}
use Rattle.gvdl_programs.specs.Programs.{parameter_added, parameters_of}
use Rattle.gvdl_programs.proofs.parameters.Parameters.of.Given as goal

abbrev pub invariant-loop-name : goal.invariant-loop-name
invariant-loop-name l = parameters_of l.names ≡ in_turn parameter_added l.parameters (drop l.name-index l.names)
