-- Expressions that built-in programs share.
use Rattle.std.specs.Prelude.{ℤ, pos, true, [], ◌∷◌}
use Rattle.vertex_lang.specs.declared.program.Cmp.TheVariants as cmp
use Rattle.vertex_lang.specs.declared.program.Check.TheVariants as check
use Rattle.vertex_lang.specs.declared.program.Expr.{Expr}
use Rattle.vertex_lang.specs.declared.program.Expr.TheVariants as expr

-- if id = source then 0 else none
abbrev pub from_source : ℤ → Expr
from_source source = expr.If (check.Compare expr.Id cmp.Eq (expr.Number source) ∷ []) (expr.Number (pos 0)) expr.Nil

-- value + more
abbrev pub value_and : Expr → Expr
value_and more = expr.Sum expr.Value ((true, more) ∷ [])

-- min(start, gathered)
abbrev pub least_so_far : Expr
least_so_far = expr.Least expr.Start expr.Gathered
