-- What the check may ask of a script.
use Rattle.std.specs.Prelude.{ℕ, ◌<◌, ◌^◌, List, length}
use Rattle.gvdl_tree.specs.declared.script.Script.{Script}
use Rattle.gvdl_parser.specs.Script.{IsScript}

-- some text shorter than 2^31 bytes is this script
pub record IsWritten (s : Script) : Type 0 where
  pub text : List ℕ
  pub short : length text < 2 ^ 31
  pub script : IsScript text s

-- a script that was read from a text shorter than 2^31 bytes is written so
pub written_so : (text : List ℕ) (s : Script) → length text < 2 ^ 31 → IsScript text s → IsWritten s
written_so text s short script = record { text = text; short = short; script = script }
