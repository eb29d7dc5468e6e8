-- The program that a call means.
use Rattle.std.specs.Prelude.{ℕ, ℤ, ◌≢◌, All, Contains, ◌==◌, List, [], ◌∷◌, length, map, Ok, Err}
use Rattle.graph_model.specs.GraphData.{GraphData, names_of}
use Rattle.gvdl_tree.specs.declared.script.Arg.{Arg}
use Rattle.gvdl_tree.specs.declared.script.Arg.TheVariants as arg
use Rattle.vertex_lang.specs.declared.program.Program.{Program}
use Rattle.vertex_lang.specs.Values.{lowest_number}
use Rattle.graph_algos.specs.Hops.{hops}
use Rattle.graph_algos.specs.Dist.{dist}
use Rattle.graph_algos.specs.Wcc.{wcc}
use Rattle.graph_algos.specs.PageRank.{pagerank}
use Rattle.gvdl_programs.specs.declared.refusal.Refusal.TheVariants as refusal
use Rattle.gvdl_programs.specs.declared.template.ProgramTemplate.{ProgramTemplate}
use Rattle.gvdl_programs.specs.declared.template.Callable.{Callable}
use Rattle.gvdl_programs.specs.declared.template.Callable.TheVariants as callable
use Rattle.gvdl_programs.specs.Judging.{Judged, ◌>>=◌, ◌>>◌, expect, each}
use Rattle.gvdl_programs.specs.Columns.{int_column}
use Rattle.gvdl_programs.specs.Filled.{filled_program}

-- a number is needed
abbrev pub number_argument : Arg → Judged ℤ
number_argument (arg.Number z) = Ok z
number_argument (arg.Prop name) = Err refusal.WrongArguments

-- no argument is the number -(2^63), which no script can write
abbrev pub HasNoLowest : List Arg → Type 0
HasNoLowest args = All (λ a. a ≢ arg.Number lowest_number) args

-- a property among the arguments names a column of the edges
abbrev pub ArgFits : GraphData → Arg → Type 0
ArgFits g (arg.Number z) = Unit {0}
ArgFits g (arg.Prop name) = Contains (names_of g.edge_columns) name

-- a property of the edges is needed, of whole numbers
abbrev pub weight_of : GraphData → Arg → Judged ℕ
weight_of g (arg.Number z) = Err refusal.WrongArguments
weight_of g (arg.Prop name) = int_column g.edge_columns name

abbrev pub hops_called : List Arg → Judged Program
hops_called (a ∷ []) = do
  source ← number_argument a
  Ok (hops source)
hops_called _ = Err refusal.WrongArguments

abbrev pub dist_called : GraphData → List Arg → Judged Program
dist_called g (a ∷ b ∷ []) = do
  source ← number_argument a
  column ← weight_of g b
  Ok (dist source column)
dist_called g _ = Err refusal.WrongArguments

-- a program without parameters
abbrev pub plain_called : Program → List Arg → Judged Program
plain_called program [] = Ok program
plain_called program _ = Err refusal.WrongArguments

-- as many numbers as the program has parameters
abbrev pub written_called : ProgramTemplate → List Arg → Judged Program
written_called t args = do
  expect (length args == t.parameters) refusal.WrongArguments
  numbers ← each (map number_argument args)
  Ok (filled_program t numbers)

abbrev pub called : GraphData → Callable → List Arg → Judged Program
called g callable.Hops args = hops_called args
called g callable.Dist args = dist_called g args
called g callable.Wcc args = plain_called wcc args
called g callable.Pagerank args = plain_called pagerank args
called g (callable.Written t) args = written_called t args
