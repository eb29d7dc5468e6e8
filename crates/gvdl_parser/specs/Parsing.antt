-- What reading a script from its tokens answers.
use Rattle.std.specs.Prelude.{◌≡◌, ℕ, List, Result, Ok, Err}
use Rattle.phrase_theory.specs.FirstFault.{IsFirstSyntax, IsFirstTooDeep}
use Rattle.gvdl_tokens.specs.declared.token.Token.{Token}
use Rattle.gvdl_tree.specs.declared.script.Script.{Script}
use Rattle.gvdl_parser.specs.declared.script.TokenFault.{TokenFault}
use Rattle.gvdl_parser.specs.declared.script.TokenFault.TheVariants as faults
use Rattle.gvdl_parser.specs.Terminals.{opens}
use Rattle.gvdl_parser.specs.Statements.{script}

-- The tokens are this script, with at most 64 levels, and no other, with any number of levels.
pub record IsTheScript (ts : List Token) (tree : Script) : Type 0 where
  pub whole : script 64 ts tree
  pub only : (n : ℕ) (other : Script) → script n ts other → other ≡ tree

-- The only script, or the first fault.
abbrev pub Parses : List Token → Result Script TokenFault → Type 0
Parses ts (Ok tree) = IsTheScript ts tree
Parses ts (Err faults.NoMemory) = Unit {0}
Parses ts (Err (faults.Syntax k)) = IsFirstSyntax opens script 64 ts k
Parses ts (Err (faults.TooDeep k)) = IsFirstTooDeep opens script 64 ts k
