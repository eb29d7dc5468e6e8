use Rattle.gvdl_tokens.proofs.Printing.{read_again, sign_apart, closed_apart}
use Rattle.gvdl_tokens.proofs.spelling.laid_out_tokens_are_read_again.Goals as goal

pub returns-clause-read : goal.returns-clause-read
returns-clause-read c = read_again

pub returns-clause-before : goal.returns-clause-before
returns-clause-before c = sign_apart

pub returns-clause-behind : goal.returns-clause-behind
returns-clause-behind c = closed_apart
