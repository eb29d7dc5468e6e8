use Rattle.std.proofs.Common.{[]}
use Rattle.gvdl_tokens.proofs.Printing.{are_printable}
use Rattle.gvdl_tokens.proofs.lexer.lex.Goals as goal

pub returns-in-Ok-clause-printable : goal.returns-in-Ok-clause-printable
returns-in-Ok-clause-printable c =
    are_printable [] c.without_mark.result.now c.in-Ok.tokens.tokens c.in-Ok.tokens.places c.in-Ok.tokens.ending c.without_mark.ensures.utf8 c.in-Ok.ensures.lexed
