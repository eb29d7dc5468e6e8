-- Which programs fit a graph: each part names only what it may name, each property is a column of whole numbers, and no
-- number is -(2^63).
use Rattle.std.specs.Prelude.{Bool, true, not, ◌&&◌, IsTrue}
use Rattle.std.specs.List.{list_all}
use Rattle.std.specs.Ordering.{int_eq}
use Rattle.graph_model.specs.GraphData.{GraphData}
use Rattle.gvdl_tree.specs.declared.expression.Word.{Word}
use Rattle.gvdl_tree.specs.declared.expression.Word.TheVariants as word
use Rattle.vertex_lang.specs.Values.{lowest_number}
use Rattle.vertex_lang.specs.Leaves.{Leaf, in_start, in_send, in_update}
use Rattle.gvdl_programs.specs.declared.template.ExprTemplate.{ExprTemplate}
use Rattle.gvdl_programs.specs.declared.template.CheckTemplate.{CheckTemplate}
use Rattle.gvdl_programs.specs.declared.template.CheckTemplate.TheOpen.{ExprTemplate-F, CheckTemplate-F}
use Rattle.gvdl_programs.specs.declared.template.CheckTemplate.TheFolds.{fold-ExprTemplate, fold-CheckTemplate}
use Rattle.gvdl_programs.specs.declared.template.ProgramTemplate.{ProgramTemplate}
use Rattle.gvdl_programs.specs.declared.template.Callable.{Callable}
use Rattle.gvdl_programs.specs.declared.template.Callable.TheVariants as callable
use Rattle.gvdl_programs.specs.declared.expression.Part.{Part}
use Rattle.gvdl_programs.specs.declared.expression.Part.TheVariants as part

-- a word, as an expression of a program holds it
abbrev pub word_leaf : Word → Leaf
word_leaf word.Id = Leaf.id
word_leaf word.Start = Leaf.start
word_leaf word.Value = Leaf.value
word_leaf word.Gathered = Leaf.gathered
word_leaf word.Count = Leaf.count
word_leaf word.Outdeg = Leaf.outdeg

-- what a part of a program may hold
abbrev pub in_part : GraphData → Part → Leaf → Bool
in_part g part.Start = in_start g.node_columns
in_part g part.Send = in_send g.edge_columns
in_part g part.Update = in_update

-- anything but the number -(2^63)
abbrev pub not_lowest : Leaf → Bool
not_lowest (Leaf.number z) = not (int_eq z lowest_number)
not_lowest _ = true

abbrev pub check_fits : CheckTemplate-F Bool Bool → Bool
check_fits (CheckTemplate-F.Compare a sign b) = a && b
check_fits (CheckTemplate-F.IsNil a) = a

abbrev pub expression_fits : (Leaf → Bool) → ExprTemplate-F Bool Bool → Bool
expression_fits q (ExprTemplate-F.If checks a b) = list_all (λ fits. fits) checks && (a && b)
expression_fits q (ExprTemplate-F.Else members) = list_all (λ fits. fits) members
expression_fits q (ExprTemplate-F.Sum first rest) = first && list_all (λ member. member.1) rest
expression_fits q (ExprTemplate-F.Product first rest) = first && list_all (λ member. member.1) rest
expression_fits q (ExprTemplate-F.Minus a) = a
expression_fits q (ExprTemplate-F.Number z) = q (Leaf.number z)
expression_fits q ExprTemplate-F.Nil = true
expression_fits q (ExprTemplate-F.Word w) = q (word_leaf w)
expression_fits q (ExprTemplate-F.EdgeProp column) = q (Leaf.edge_property column)
expression_fits q (ExprTemplate-F.NodeProp column) = q (Leaf.node_property column)
expression_fits q (ExprTemplate-F.Param n) = true
expression_fits q (ExprTemplate-F.Least a b) = a && b
expression_fits q (ExprTemplate-F.Most a b) = a && b

-- Each number, word and property that the expression holds is allowed. A parameter is none of them before the call.
unfoldable pub fits : (Leaf → Bool) → ExprTemplate → Bool
fits q = fold-ExprTemplate Bool Bool check_fits (expression_fits q)

unfoldable pub fits_check : (Leaf → Bool) → CheckTemplate → Bool
fits_check q = fold-CheckTemplate Bool Bool check_fits (expression_fits q)

-- no number that is written in the program is -(2^63)
pub record WritesNoLowest (t : ProgramTemplate) : Type 0 where
  pub start : IsTrue (fits not_lowest t.start)
  pub send : IsTrue (fits not_lowest t.send)
  pub update : IsTrue (fits not_lowest t.update)

pub record TemplateFits (g : GraphData) (t : ProgramTemplate) : Type 0 where
  pub start : IsTrue (fits (in_part g part.Start) t.start)
  pub send : IsTrue (fits (in_part g part.Send) t.send)
  pub update : IsTrue (fits (in_part g part.Update) t.update)
  pub numbers : WritesNoLowest t

-- the built-in programs fit every graph
abbrev pub ProgramFits : GraphData → Callable → Type 0
ProgramFits g (callable.Written t) = TemplateFits g t
ProgramFits g _ = Unit {0}
