use Rattle.change_text.proofs.Lines.{no_comma, no_id, no_value}
use Rattle.change_text.proofs.line.read_row.Goals as goal

pub returns-in_default : goal.returns-in_default
returns-in_default c = no_comma c.args.line.now c.in_default.ensures

pub returns-in_default-number_of : goal.returns-in_default-number_of
returns-in_default-number_of c = no_id c.args.line.now c.in-Some.digits.now c.in-Some.behind.now c.in-Some.ensures c.in_default-number_of.ensures

pub returns-in_default-read_value : goal.returns-in_default-read_value
returns-in_default-read_value c = no_value c.args.line.now c.in-Some.digits.now c.in-Some.behind.now c.in-Some.ensures c.in_default-read_value.ensures
