use Rattle.gvdl_printer.specs.Canonical.{statement_pieces}
use Rattle.gvdl_printer.proofs.Growing.{fresh_line, same_text}
use Rattle.gvdl_printer.proofs.printer.statement_line.Goals as goal

pub returns : goal.returns
returns c = same_text c.ended.result _ _ c.ended.ensures (fresh_line c.new-page.result c.write_statement.new.page (statement_pieces c.args.statement.now) c.new-page.ensures c.in_ok-write_statement.ensures)
