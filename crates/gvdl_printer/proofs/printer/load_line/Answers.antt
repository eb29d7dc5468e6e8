use Rattle.gvdl_printer.specs.Canonical.{load_pieces}
use Rattle.gvdl_printer.proofs.Growing.{fresh_line, same_text}
use Rattle.gvdl_printer.proofs.printer.load_line.Goals as goal

pub returns : goal.returns
returns c = same_text c.ended.result _ _ c.ended.ensures (fresh_line c.new-page.result c.load.new.page (load_pieces c.args.script.now) c.new-page.ensures c.in_ok-load.ensures)
