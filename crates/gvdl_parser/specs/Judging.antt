-- What the parts of parsing a text answer.
use Rattle.std.specs.Prelude.{◌≡◌, Option, Some, None, Result, Ok, Err}
use Rattle.gvdl_tokens.specs.declared.place.Place.{Place}
use Rattle.gvdl_tokens.specs.declared.tokens.Ending.{Ending}
use Rattle.gvdl_tokens.specs.declared.tokens.Ending.TheVariants as ending
use Rattle.gvdl_tokens.specs.declared.tokens.Tokens.{Tokens}
use Rattle.gvdl_tree.specs.declared.script.Script.{Script}
use Rattle.gvdl_parser.specs.declared.fault.ScriptFault.{ScriptFault}
use Rattle.gvdl_parser.specs.declared.fault.ScriptFault.TheVariants as faults
use Rattle.gvdl_parser.specs.declared.fault.ParseFault.{ParseFault}
use Rattle.gvdl_parser.specs.declared.fault.ParseFault.TheVariants as outcome
use Rattle.gvdl_parser.specs.Statements.{script}
use Rattle.gvdl_parser.specs.Parsing.{IsTheScript}
use Rattle.gvdl_parser.specs.Script.{IsFirst}

-- what is wrong where the tokens end so and are no whole script
abbrev pub ending_fault : Ending → ScriptFault
ending_fault (ending.End place) = faults.Syntax place.line place.column
ending_fault (ending.Syntax place) = faults.Syntax place.line place.column
ending_fault (ending.NumberTooLarge place) = faults.NumberTooLarge place.line place.column

-- a syntax fault at the place of a token, or behind them all
abbrev pub syntax_fault : Option Place → Ending → ScriptFault
syntax_fault (Some place) end = faults.Syntax place.line place.column
syntax_fault None end = ending_fault end

-- a level too many at the place of a token
abbrev pub deep_fault : Option Place → Ending → ScriptFault
deep_fault (Some place) end = faults.TooDeep place.line place.column
deep_fault None end = ending_fault end

abbrev pub EndsWhole : Tokens → Type 0
EndsWhole all = (place : Place) × (all.ending ≡ ending.End place)

-- The tokens with what stands behind them are this script; or this is their first fault, and they are no script.
abbrev pub Judges : Tokens → Result Script ParseFault → Type 0
Judges all (Ok tree) = IsTheScript all.tokens tree × EndsWhole all
Judges all (Err (outcome.Fault fault)) = IsFirst all fault × ((tree : Script) → script 64 all.tokens tree → EndsWhole all → ⊥)
Judges all (Err outcome.NoMemory) = Unit {0}
