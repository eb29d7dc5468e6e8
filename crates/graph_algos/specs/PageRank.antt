-- The built-in program `pagerank`.
use Rattle.std.specs.Prelude.{pos, true, false, [], ◌∷◌}
use Rattle.vertex_lang.specs.declared.program.Along.TheVariants as along
use Rattle.vertex_lang.specs.declared.program.Gather.TheVariants as gather
use Rattle.vertex_lang.specs.declared.program.Expr.{Expr}
use Rattle.vertex_lang.specs.declared.program.Expr.TheVariants as expr
use Rattle.vertex_lang.specs.declared.program.Program.{Program}

-- gathered * 850000 / 1000000
abbrev pub share : Expr
share = expr.Product expr.Gathered ((true, expr.Number (pos 850000)) ∷ (false, expr.Number (pos 1000000)) ∷ [])

-- start: 1000000; send: value / outdeg; gather: sum; update: 150000 + gathered * 850000 / 1000000
abbrev pub pagerank : Program
pagerank = record {
  along = along.Out;
  start = expr.Number (pos 1000000);
  send = expr.Product expr.Value ((false, expr.Outdeg) ∷ []);
  gather = gather.Sum;
  update = expr.Sum (expr.Number (pos 150000)) ((true, share) ∷ []);
}
