use Rattle.std.proofs.Common.{Bool, sym, subst}
use Rattle.gvdl_tokens.specs.Reading.{BeginsSign}
use Rattle.gvdl_tokens.proofs.Lexemes.{no_sign}
use Rattle.gvdl_tokens.proofs.front.sign.Goals as goal

pub returns-in-None : goal.returns-in-None
returns-in-None c =
    no_sign c.args.first c.args.rest.now c.requires.no_string c.requires.no_quoted c.requires.no_name c.requires.no_number
    (λ s h. c.in-None.ensures.none s (subst (λ (x : Bool). BeginsSign s c.args.first x) (sym c.is_next.ensures) h)) c.requires.stands
