-- What it is for a text to be a script, and what its first fault is.
use Rattle.std.specs.Prelude.{◌≡◌, ◌⊎◌, ℕ, ◌<◌, List, length, Some, slice_get}
use Rattle.std.specs.Str.{IsUtf8}
use Rattle.phrase_theory.specs.FirstFault.{IsSoundTo, IsFirstSyntax, IsFirstTooDeep}
use Rattle.gvdl_tokens.specs.declared.token.Token.{Token}
use Rattle.gvdl_tokens.specs.declared.place.Place.{Place}
use Rattle.gvdl_tokens.specs.declared.tokens.Ending.{Ending}
use Rattle.gvdl_tokens.specs.declared.tokens.Ending.TheVariants as ending
use Rattle.gvdl_tokens.specs.declared.tokens.Tokens.{Tokens}
use Rattle.gvdl_tokens.specs.Tokens.{HasTokens}
use Rattle.gvdl_tree.specs.declared.script.Script.{Script}
use Rattle.gvdl_parser.specs.declared.fault.ScriptFault.{ScriptFault}
use Rattle.gvdl_parser.specs.declared.fault.ScriptFault.TheVariants as faults
use Rattle.gvdl_parser.specs.Terminals.{opens}
use Rattle.gvdl_parser.specs.Statements.{script}

-- The tokens of the text, up to its end, are this script, with at most so many levels open at once.
pub record IsScriptWith (levels : ℕ) (text : List ℕ) (tree : Script) : Type 0 where
  pub all : Tokens
  pub has : HasTokens text all
  pub place : Place
  pub ended : all.ending ≡ ending.End place
  pub phrase : script levels all.tokens tree

-- the text is this script
abbrev pub IsScript : List ℕ → Script → Type 0
IsScript text tree = IsScriptWith 64 text tree

-- What stands behind the tokens is a syntax fault at this place: something that is no token, or the end of the text
-- where the tokens are no whole script.
abbrev pub EndsBadly : List Token → Ending → Place → Type 0
EndsBadly tokens (ending.End place) here = (place ≡ here) × ((n : ℕ) (tree : Script) → script n tokens tree → ⊥)
EndsBadly tokens (ending.Syntax place) here = place ≡ here
EndsBadly tokens (ending.NumberTooLarge place) here = ⊥

-- The first token that no script has after the tokens before it is at this place; or no token is a fault, and what
-- follows them is.
abbrev pub HasSyntaxAt : Tokens → Place → Type 0
HasSyntaxAt all here = ((k : ℕ) × (k < length all.tokens) × IsFirstSyntax opens script 64 all.tokens k × (slice_get all.places k ≡ Some here))
    ⊎ (IsSoundTo opens script 64 all.tokens (length all.tokens) × EndsBadly all.tokens all.ending here)

-- The first fault among tokens and what stands behind them. Each token is judged in this order: whether it is one, whether
-- it is a number that is too large, whether a script has it there, whether it opens a level too many.
abbrev pub IsFirst : Tokens → ScriptFault → Type 0
IsFirst all (faults.Syntax line column) = HasSyntaxAt all (record { line = line; column = column })
IsFirst all (faults.NumberTooLarge line column) = IsSoundTo opens script 64 all.tokens (length all.tokens) × (all.ending ≡ ending.NumberTooLarge (record { line = line; column = column }))
IsFirst all (faults.TooDeep line column) = (k : ℕ) × IsFirstTooDeep opens script 64 all.tokens k × (slice_get all.places k ≡ Some (record { line = line; column = column }))
IsFirst all faults.NotUtf8 = ⊥

-- the first fault of a text
abbrev pub IsFirstFault : List ℕ → ScriptFault → Type 0
IsFirstFault text faults.NotUtf8 = IsUtf8 text → ⊥
IsFirstFault text fault = (all : Tokens) × HasTokens text all × IsFirst all fault
