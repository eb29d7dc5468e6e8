-- What is promised of the canonical text of a script that some text is.
use Rattle.std.specs.Prelude.{◌≡◌, ◌⊎◌, ◌<◌, ◌^◌, ℕ, List, length, Result, Ok, Err}
use Rattle.gvdl_tree.specs.declared.script.Script.{Script}
use Rattle.gvdl_parser.specs.declared.fault.ParseFault.{ParseFault}
use Rattle.gvdl_parser.specs.declared.fault.ParseFault.TheVariants as faults
use Rattle.gvdl_parser.specs.Script.{IsScriptWith, IsScript}
use Rattle.gvdl_printer.specs.Canonical.{canonical_tokens}

-- The text is this script, with at most so many levels open at once, and its tokens are the canonical ones.
pub record IsScriptAgain (levels : ℕ) (text : List ℕ) (tree : Script) : Type 0 where
  pub again : IsScriptWith levels text tree
  pub tokens_are : again.all.tokens ≡ canonical_tokens tree

-- this script, or that memory was refused
abbrev pub IsAnswer : Script → Result Script ParseFault → Type 0
IsAnswer tree answer = (answer ≡ Ok tree) ⊎ (answer ≡ Err faults.NoMemory)

-- what the parser promises of its answer for a text that is a script
abbrev pub IsParserAnswer : List ℕ → Result Script ParseFault → Type 0
IsParserAnswer text answer = (tree : Script) → IsScript text tree → IsAnswer tree answer

-- The parser takes the text, and each answer that it may give for it is this script, or that memory was refused.
pub record IsParsedAs (text : List ℕ) (tree : Script) : Type 0 where
  pub taken : length text < 2 ^ 31
  pub answered : (answer : Result Script ParseFault) → IsParserAnswer text answer → IsAnswer tree answer
