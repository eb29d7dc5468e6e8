use Rattle.gvdl_printer.specs.Canonical.{call_pieces}
use Rattle.gvdl_printer.proofs.Growing.{fresh_text}
use Rattle.gvdl_printer.proofs.printer.print_call.Goals as goal

pub returns : goal.returns
returns c = fresh_text c.new-page.result c.call.new.page (call_pieces c.args.called.now) c.new-page.ensures c.in_ok-call.ensures
