-- The built-in program `hops`.
use Rattle.std.specs.Prelude.{ℤ, pos}
use Rattle.vertex_lang.specs.declared.program.Along.TheVariants as along
use Rattle.vertex_lang.specs.declared.program.Gather.TheVariants as gather
use Rattle.vertex_lang.specs.declared.program.Expr.TheVariants as expr
use Rattle.vertex_lang.specs.declared.program.Program.{Program}
use Rattle.graph_algos.specs.Shared.{from_source, value_and, least_so_far}

-- start: if id = source then 0 else none; send: value + 1; gather: min; update: min(start, gathered)
abbrev pub hops : ℤ → Program
hops source = record {
  along = along.Out;
  start = from_source source;
  send = value_and (expr.Number (pos 1));
  gather = gather.Min;
  update = least_so_far;
}
