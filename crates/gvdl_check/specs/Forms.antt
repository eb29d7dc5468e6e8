-- The form of the language that a script is written in, and what only form 2 has.
use Rattle.std.specs.Prelude.{ℕ, Bool, true, false, not, ◌||◌, ◌==◌, Option, None, Some, is_some, Result, Ok, Err}
use Rattle.gvdl_tree.specs.declared.script.OrderWord.{OrderWord}
use Rattle.gvdl_tree.specs.declared.script.OrderWord.TheVariants as order_word
use Rattle.gvdl_tree.specs.declared.script.Statement.{Statement}
use Rattle.gvdl_tree.specs.declared.script.Statement.TheVariants as statement
use Rattle.gvdl_check.specs.declared.fault.CheckFault.{CheckFault}
use Rattle.gvdl_check.specs.declared.fault.CheckFault.TheVariants as fault

-- there are two forms, and a script that writes none is of the first
abbrev pub is_form : Option ℕ → Bool
is_form None = true
is_form (Some n) = (n == 1) || (n == 2)

abbrev pub is_second : Option ℕ → Bool
is_second None = false
is_second (Some n) = n == 2

abbrev pub form_known : Bool → Result (Unit {0}) CheckFault
form_known true = Ok tt
form_known false = Err fault.BadForm

-- judged before the first statement
abbrev pub form_judged : Option ℕ → Result (Unit {0}) CheckFault
form_judged form = form_known (is_form form)

abbrev pub is_tree_order : Option OrderWord → Bool
is_tree_order (Some order_word.Tree) = true
is_tree_order _ = false

-- only form 2 has the statement
abbrev pub needs_second : Statement → Bool
needs_second (statement.Run call target within number o d keep phases) = is_tree_order o || is_some phases
needs_second (statement.ShowTree name) = true
needs_second (statement.Insert file) = true
needs_second (statement.Remove rule) = true
needs_second (statement.Aggregate target by sum) = true
needs_second _ = false

-- the statement may stand in a script of this form
abbrev pub suits : Option ℕ → Statement → Bool
suits form s = is_second form || not (needs_second s)
