-- Updates of which the form is known. No contract of a public function cites this.
use Rattle.std.specs.Prelude.{◌≡◌, ◌∷◌, [], ⊤, true, false}
use Rattle.vertex_lang.specs.declared.program.Expr.{Expr}
use Rattle.vertex_lang.specs.declared.program.Expr.TheVariants as expr
use Rattle.quick_updates.specs.declared.form.Form.{Form}
use Rattle.quick_updates.specs.declared.form.Form.TheVariants as forms

-- the tree of each known form: min(start, gathered), and base + gathered * factor / divisor
abbrev pub HasForm : Expr → Form → Type 0
HasForm e forms.Least = e ≡ expr.Least expr.Start expr.Gathered
HasForm e (forms.Damped d) = e ≡ expr.Sum (expr.Number d.base) ((true, expr.Product expr.Gathered ((true, expr.Number d.factor) ∷ (false, expr.Number d.divisor) ∷ [])) ∷ [])
HasForm e forms.Other = ⊤
