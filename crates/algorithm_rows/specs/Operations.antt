-- Operations on the value with which a node started, and the value that it has.
use Rattle.std.specs.Prelude.{Bool, [], ◌∷◌}
use Rattle.vertex_lang.specs.declared.program.Expr.{Expr}
use Rattle.vertex_lang.specs.declared.program.Expr.TheVariants as expr

-- start + value, start - value
abbrev pub summed : Bool → Expr
summed plus = expr.Sum expr.Start ((plus, expr.Value) ∷ [])

-- start * value, start / value
abbrev pub multiplied : Bool → Expr
multiplied times = expr.Product expr.Start ((times, expr.Value) ∷ [])

-- min(start, value)
abbrev pub lesser_of_both : Expr
lesser_of_both = expr.Least expr.Start expr.Value

-- max(start, value)
abbrev pub greater_of_both : Expr
greater_of_both = expr.Most expr.Start expr.Value

-- start else value
abbrev pub first_of_both : Expr
first_of_both = expr.Else (expr.Start ∷ expr.Value ∷ [])

-- -start
abbrev pub negative : Expr
negative = expr.Minus expr.Start
