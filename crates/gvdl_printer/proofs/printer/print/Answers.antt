use Rattle.gvdl_printer.proofs.Again.{fewest, short_for, again_for, parsed_for}
use Rattle.gvdl_printer.proofs.printer.print.Goals as goal

pub returns-clause-read_again : goal.returns-clause-read_again
returns-clause-read_again c = λ n text g.
    let law = c.laid_out_tokens_are_read_again.ensures in
    again_for law.read (record { before = law.before; behind = law.behind }) n text c.args.script.now c.lines.result g c.lines.ensures

pub returns-clause-short : goal.returns-clause-short
returns-clause-short c = λ n text g. short_for n text c.args.script.now c.lines.result g c.lines.ensures

pub returns-clause-parsed : goal.returns-clause-parsed
returns-clause-parsed c = λ text small g.
    let law = c.laid_out_tokens_are_read_again.ensures in
    parsed_for law.read (record { before = law.before; behind = law.behind }) text c.args.script.now c.lines.result small g c.lines.ensures

pub returns-clause-fewest : goal.returns-clause-fewest
returns-clause-fewest c = λ n ts h. fewest n ts c.args.script.now h
