-- The updates of the programs of the cases.
use Rattle.std.specs.Prelude.{pos, true, [], ◌∷◌}
use Rattle.vertex_lang.specs.declared.program.Check.TheVariants as check
use Rattle.vertex_lang.specs.declared.program.Cmp.TheVariants as cmp
use Rattle.vertex_lang.specs.declared.program.Expr.{Expr}
use Rattle.vertex_lang.specs.declared.program.Expr.TheVariants as expr

abbrev pub plus : Expr → Expr → Expr
plus first second = expr.Sum first ((true, second) ∷ [])

-- start + gathered
abbrev pub grown : Expr
grown = plus expr.Start expr.Gathered

-- if start < 3 then start + gathered else value + gathered
abbrev pub grown_at_first : Expr
grown_at_first = expr.If (check.Compare expr.Start cmp.Lt (expr.Number (pos 3)) ∷ []) grown (plus expr.Value expr.Gathered)
