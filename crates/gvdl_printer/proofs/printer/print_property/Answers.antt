use Rattle.std.proofs.Common.{◌∷◌, []}
use Rattle.gvdl_printer.specs.Canonical.{prop_piece}
use Rattle.gvdl_printer.proofs.Growing.{fresh_text}
use Rattle.gvdl_printer.proofs.printer.print_property.Goals as goal

pub returns : goal.returns
returns c = fresh_text c.new-page.result c.prop.new.page (prop_piece c.args.name.now ∷ []) c.new-page.ensures c.in_ok-prop.ensures
