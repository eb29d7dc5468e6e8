-- The built-in program `wcc`.
use Rattle.vertex_lang.specs.declared.program.Along.TheVariants as along
use Rattle.vertex_lang.specs.declared.program.Gather.TheVariants as gather
use Rattle.vertex_lang.specs.declared.program.Expr.TheVariants as expr
use Rattle.vertex_lang.specs.declared.program.Program.{Program}
use Rattle.graph_algos.specs.Shared.{least_so_far}

-- start: id; send: value; gather: min; update: min(start, gathered)
abbrev pub wcc : Program
wcc = record {
  along = along.Both;
  start = expr.Id;
  send = expr.Value;
  gather = gather.Min;
  update = least_so_far;
}
