-- An error is one of the words, or of memory.
use Rattle.std.proofs.Common.{◌∙◌, map, string_bytes}
use Rattle.clap.specs.Words.{app_of}
use Rattle.surge_cli.proofs.CommandLine.{refused}
use Rattle.surge_cli.proofs.words.matches.Goals as goal

pub returns : goal.returns
returns c = refused (app_of c.in_ok-command.field-0) (map string_bytes c.args.words.now) c.in-Err.error c.in_ok-command.ensures c.in-Err.ensures.kinds (λ e. c.in_default.not-OutOfMemory (c.kind.ensures ∙ e))
