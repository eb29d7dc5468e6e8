use Rattle.std.proofs.Common.{◌∷◌, []}
use Rattle.gvdl_tokens.specs.declared.token.Token.TheVariants as t
use Rattle.gvdl_printer.specs.Layout.{plain}
use Rattle.gvdl_printer.proofs.Growing.{fresh_text}
use Rattle.gvdl_printer.proofs.printer.print_string.Goals as goal

pub returns : goal.returns
returns c = fresh_text c.new-page.result c.string.new.self (plain (t.Str c.args.string.now) ∷ []) c.new-page.ensures c.in_ok-string.ensures
