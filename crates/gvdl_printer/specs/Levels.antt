-- How tightly a place binds. In the text of a tree it is a number, since what stands in parentheses is told by comparing it.
use Rattle.std.specs.Prelude.{ℕ}
use Rattle.gvdl_printer.specs.declared.place.PredicatePlace.{PredicatePlace}
use Rattle.gvdl_printer.specs.declared.place.PredicatePlace.TheVariants as predicate
use Rattle.gvdl_printer.specs.declared.place.ExpressionPlace.{ExpressionPlace}
use Rattle.gvdl_printer.specs.declared.place.ExpressionPlace.TheVariants as expression

abbrev pub predicate_level : PredicatePlace → ℕ
predicate_level predicate.Alone = 0
predicate_level predicate.OrMember = 1
predicate_level predicate.AndMember = 2

abbrev pub expression_level : ExpressionPlace → ℕ
expression_level expression.Alone = 0
expression_level expression.Branch = 1
expression_level expression.Term = 2
expression_level expression.Factor = 3
