use Rattle.gvdl_printer.specs.Canonical.{form_pieces}
use Rattle.gvdl_printer.proofs.Growing.{fresh_line, same_text}
use Rattle.gvdl_printer.proofs.printer.written_form.Goals as goal

pub returns : goal.returns
returns c = same_text c.ended.result _ _ c.ended.ensures (fresh_line c.new-page.result c.write_form.new.page (form_pieces c.args.number) c.new-page.ensures c.in_ok-write_form.ensures)
