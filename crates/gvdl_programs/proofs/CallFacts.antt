-- A call that is told is checked, and holds no number -(2^63) that it was not given.
use Rattle.std.proofs.Common.{List, Result, Ok, Err}
use Rattle.std.specs.Prelude.{IfOk}
use Rattle.graph_model.specs.GraphData.{GraphData}
use Rattle.gvdl_tree.specs.declared.script.Arg.{Arg}
use Rattle.vertex_lang.specs.declared.program.Program.{Program}
use Rattle.vertex_lang.specs.Leaves.{HoldsNumber, IsChecked}
use Rattle.vertex_lang.specs.Values.{lowest_number}
use Rattle.gvdl_programs.specs.declared.refusal.Stop.{Stop}
use Rattle.gvdl_programs.specs.declared.template.Callable.{Callable}
use Rattle.gvdl_programs.specs.Judging.{Tells}
use Rattle.gvdl_programs.specs.Calls.{HasNoLowest, called}
use Rattle.gvdl_programs.specs.Fits.{ProgramFits}
use Rattle.gvdl_programs.specs.ProgramLaws.{called_checked}
use Rattle.gvdl_programs.specs.NumberLaws.{called_numbers}

pub told_checked : (g : GraphData) (c : Callable) (args : List Arg) → ProgramFits g c → (r : Result Program Stop) → Tells (called g c args) r → IfOk r (λ p. IsChecked p g)
told_checked g c args h (Ok p) told = called_checked g c args p h told
told_checked g c args h (Err e) told = tt

pub told_numbers : (g : GraphData) (c : Callable) (args : List Arg) → ProgramFits g c → (r : Result Program Stop) → Tells (called g c args) r → HasNoLowest args → IfOk r (λ p. HoldsNumber p lowest_number → ⊥)
told_numbers g c args h (Ok p) told k = called_numbers g c args p h k told
told_numbers g c args h (Err e) told k = tt
