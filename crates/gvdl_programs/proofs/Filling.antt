-- An expression with its numbers filled in, case by case.
use Rattle.std.proofs.Common.{◌≡◌, ◌∙◌, ℕ, ℤ, pos, Bool, List, map, get_or, sym, ap}
use Rattle.gvdl_tree.specs.declared.expression.Word.{Word}
use Rattle.vertex_lang.specs.declared.program.Cmp.{Cmp}
use Rattle.vertex_lang.specs.declared.program.Expr.{Expr}
use Rattle.vertex_lang.specs.declared.program.Expr.TheVariants as expr
use Rattle.vertex_lang.specs.declared.program.Check.{Check}
use Rattle.vertex_lang.specs.declared.program.Check.TheVariants as check
use Rattle.gvdl_programs.specs.declared.template.ExprTemplate.{ExprTemplate}
use Rattle.gvdl_programs.specs.declared.template.ExprTemplate.TheVariants as template
use Rattle.gvdl_programs.specs.declared.template.ExprTemplate.TheVariants.{rolls-If, rolls-Else, rolls-Sum, rolls-Product, rolls-Minus, rolls-Number, rolls-Nil, rolls-Word, rolls-EdgeProp, rolls-NodeProp, rolls-Param, rolls-Least, rolls-Most}
use Rattle.gvdl_programs.specs.declared.template.CheckTemplate.{CheckTemplate}
use Rattle.gvdl_programs.specs.declared.template.CheckTemplate.TheVariants as check_template
use Rattle.gvdl_programs.specs.declared.template.CheckTemplate.TheVariants.{rolls-Compare, rolls-IsNil}
use Rattle.gvdl_programs.specs.declared.template.CheckTemplate.TheOpen.{ExprTemplate-F, CheckTemplate-F}
use Rattle.gvdl_programs.specs.declared.template.CheckTemplate.TheViews.{roll-ExprTemplate}
use Rattle.gvdl_programs.specs.declared.template.CheckTemplate.TheFolds.{fold-roll-ExprTemplate, fold-roll-CheckTemplate, map-ExprTemplate}
use Rattle.gvdl_programs.specs.Filled.{filled, filled_check, expression_filled, check_filled, word_expression}

module _ (ns : List ℤ) where
  filled_rolls : (t : ExprTemplate) (x : ExprTemplate-F CheckTemplate ExprTemplate) → roll-ExprTemplate x ≡ t → filled ns t ≡ expression_filled ns (map-ExprTemplate CheckTemplate ExprTemplate Check Expr (filled_check ns) (filled ns) x)
  unfolding filled filled_check
  filled_rolls t x r = ap (filled ns) (sym r) ∙ fold-roll-ExprTemplate Check Expr check_filled (expression_filled ns) x

  pub filled-If : (cs : List CheckTemplate) (a b : ExprTemplate) → filled ns (template.If cs a b) ≡ expr.If (map (filled_check ns) cs) (filled ns a) (filled ns b)
  filled-If cs a b = filled_rolls _ (ExprTemplate-F.If cs a b) (rolls-If cs a b)

  pub filled-Else : (ms : List ExprTemplate) → filled ns (template.Else ms) ≡ expr.Else (map (filled ns) ms)
  filled-Else ms = filled_rolls _ (ExprTemplate-F.Else ms) (rolls-Else ms)

  pub filled-Sum : (a : ExprTemplate) (rest : List (Bool × ExprTemplate)) → filled ns (template.Sum a rest) ≡ expr.Sum (filled ns a) (map (λ m. (m.0, filled ns m.1)) rest)
  filled-Sum a rest = filled_rolls _ (ExprTemplate-F.Sum a rest) (rolls-Sum a rest)

  pub filled-Product : (a : ExprTemplate) (rest : List (Bool × ExprTemplate)) → filled ns (template.Product a rest) ≡ expr.Product (filled ns a) (map (λ m. (m.0, filled ns m.1)) rest)
  filled-Product a rest = filled_rolls _ (ExprTemplate-F.Product a rest) (rolls-Product a rest)

  pub filled-Minus : (a : ExprTemplate) → filled ns (template.Minus a) ≡ expr.Minus (filled ns a)
  filled-Minus a = filled_rolls _ (ExprTemplate-F.Minus a) (rolls-Minus a)

  pub filled-Number : (z : ℤ) → filled ns (template.Number z) ≡ expr.Number z
  filled-Number z = filled_rolls _ (ExprTemplate-F.Number z) (rolls-Number z)

  pub filled-Nil : filled ns template.Nil ≡ expr.Nil
  filled-Nil = filled_rolls _ ExprTemplate-F.Nil rolls-Nil

  pub filled-Word : (w : Word) → filled ns (template.Word w) ≡ word_expression w
  filled-Word w = filled_rolls _ (ExprTemplate-F.Word w) (rolls-Word w)

  pub filled-EdgeProp : (column : ℕ) → filled ns (template.EdgeProp column) ≡ expr.EdgeProp column
  filled-EdgeProp column = filled_rolls _ (ExprTemplate-F.EdgeProp column) (rolls-EdgeProp column)

  pub filled-NodeProp : (column : ℕ) → filled ns (template.NodeProp column) ≡ expr.NodeProp column
  filled-NodeProp column = filled_rolls _ (ExprTemplate-F.NodeProp column) (rolls-NodeProp column)

  pub filled-Param : (n : ℕ) → filled ns (template.Param n) ≡ expr.Number (get_or ns n (pos 0))
  filled-Param n = filled_rolls _ (ExprTemplate-F.Param n) (rolls-Param n)

  pub filled-Least : (a b : ExprTemplate) → filled ns (template.Least a b) ≡ expr.Least (filled ns a) (filled ns b)
  filled-Least a b = filled_rolls _ (ExprTemplate-F.Least a b) (rolls-Least a b)

  pub filled-Most : (a b : ExprTemplate) → filled ns (template.Most a b) ≡ expr.Most (filled ns a) (filled ns b)
  filled-Most a b = filled_rolls _ (ExprTemplate-F.Most a b) (rolls-Most a b)

  pub filled-Compare : (a : ExprTemplate) (sign : Cmp) (b : ExprTemplate) → filled_check ns (check_template.Compare a sign b) ≡ check.Compare (filled ns a) sign (filled ns b)
  unfolding filled filled_check
  filled-Compare a sign b = ap (filled_check ns) (sym (rolls-Compare a sign b)) ∙ fold-roll-CheckTemplate Check Expr check_filled (expression_filled ns) (CheckTemplate-F.Compare a sign b)

  pub filled-IsNil : (a : ExprTemplate) → filled_check ns (check_template.IsNil a) ≡ check.IsNil (filled ns a)
  unfolding filled filled_check
  filled-IsNil a = ap (filled_check ns) (sym (rolls-IsNil a)) ∙ fold-roll-CheckTemplate Check Expr check_filled (expression_filled ns) (CheckTemplate-F.IsNil a)
