-- An expression with the numbers of a call in place of its parameters.
use Rattle.std.specs.Prelude.{ℤ, pos, List, get_or}
use Rattle.gvdl_tree.specs.declared.expression.Word.{Word}
use Rattle.gvdl_tree.specs.declared.expression.Word.TheVariants as word
use Rattle.vertex_lang.specs.declared.program.Expr.{Expr}
use Rattle.vertex_lang.specs.declared.program.Expr.TheVariants as expr
use Rattle.vertex_lang.specs.declared.program.Check.{Check}
use Rattle.vertex_lang.specs.declared.program.Check.TheVariants as check
use Rattle.vertex_lang.specs.declared.program.Program.{Program}
use Rattle.gvdl_programs.specs.declared.template.ExprTemplate.{ExprTemplate}
use Rattle.gvdl_programs.specs.declared.template.CheckTemplate.{CheckTemplate}
use Rattle.gvdl_programs.specs.declared.template.CheckTemplate.TheOpen.{ExprTemplate-F, CheckTemplate-F}
use Rattle.gvdl_programs.specs.declared.template.CheckTemplate.TheFolds.{fold-ExprTemplate, fold-CheckTemplate}
use Rattle.gvdl_programs.specs.declared.template.ProgramTemplate.{ProgramTemplate}

abbrev pub word_expression : Word → Expr
word_expression word.Id = expr.Id
word_expression word.Start = expr.Start
word_expression word.Value = expr.Value
word_expression word.Gathered = expr.Gathered
word_expression word.Count = expr.Count
word_expression word.Outdeg = expr.Outdeg

abbrev pub check_filled : CheckTemplate-F Check Expr → Check
check_filled (CheckTemplate-F.Compare a sign b) = check.Compare a sign b
check_filled (CheckTemplate-F.IsNil a) = check.IsNil a

abbrev pub expression_filled : List ℤ → ExprTemplate-F Check Expr → Expr
expression_filled numbers (ExprTemplate-F.If checks a b) = expr.If checks a b
expression_filled numbers (ExprTemplate-F.Else members) = expr.Else members
expression_filled numbers (ExprTemplate-F.Sum first rest) = expr.Sum first rest
expression_filled numbers (ExprTemplate-F.Product first rest) = expr.Product first rest
expression_filled numbers (ExprTemplate-F.Minus a) = expr.Minus a
expression_filled numbers (ExprTemplate-F.Number z) = expr.Number z
expression_filled numbers ExprTemplate-F.Nil = expr.Nil
expression_filled numbers (ExprTemplate-F.Word w) = word_expression w
expression_filled numbers (ExprTemplate-F.EdgeProp column) = expr.EdgeProp column
expression_filled numbers (ExprTemplate-F.NodeProp column) = expr.NodeProp column
expression_filled numbers (ExprTemplate-F.Param n) = expr.Number (get_or numbers n (pos 0))
expression_filled numbers (ExprTemplate-F.Least a b) = expr.Least a b
expression_filled numbers (ExprTemplate-F.Most a b) = expr.Most a b

-- the expression, where the parameter at each place is the number at this place
unfoldable pub filled : List ℤ → ExprTemplate → Expr
filled numbers = fold-ExprTemplate Check Expr check_filled (expression_filled numbers)

unfoldable pub filled_check : List ℤ → CheckTemplate → Check
filled_check numbers = fold-CheckTemplate Check Expr check_filled (expression_filled numbers)

abbrev pub filled_program : ProgramTemplate → List ℤ → Program
filled_program t numbers = record {
  along = t.along;
  start = filled numbers t.start;
  send = filled numbers t.send;
  gather = t.gather;
  update = filled numbers t.update;
}
