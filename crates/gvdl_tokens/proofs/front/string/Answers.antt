use Rattle.std.proofs.Common.{Option, subst, lit<}
use Rattle.std.specs.Prelude.{MatchOption}
use Rattle.gvdl_tokens.specs.declared.enclosed.Enclosed.{Enclosed}
use Rattle.gvdl_tokens.specs.Reading.{Closes, IsUnclosed}
use Rattle.gvdl_tokens.proofs.Lexemes.{string_lexeme}
use Rattle.gvdl_tokens.proofs.Utf8.{content_utf8}
use Rattle.gvdl_tokens.proofs.front.string.Goals as goal

pub owned_text-text-requires : goal.owned_text-text-requires
owned_text-text-requires c =
    let closes : Closes 39 c.args.bytes.now c.in-Some.enclosed.content c.in-Some.enclosed.rest.now =
    subst (λ (o : Option Enclosed). MatchOption o (IsUnclosed 39 c.args.bytes.now) (λ e. Closes 39 c.args.bytes.now e.content e.rest.now)) c.in-Some.is c.in_ok-enclosed.ensures in
    content_utf8 39 c.args.bytes.now c.in-Some.enclosed.content c.in-Some.enclosed.rest.now (lit< tt) closes c.requires.utf8

pub returns : goal.returns
returns c =
    let closes : Closes 39 c.args.bytes.now c.in-Some.enclosed.content c.in-Some.enclosed.rest.now =
    subst (λ (o : Option Enclosed). MatchOption o (IsUnclosed 39 c.args.bytes.now) (λ e. Closes 39 c.args.bytes.now e.content e.rest.now)) c.in-Some.is c.in_ok-enclosed.ensures in
    rw c.owned_text-text.ensures (string_lexeme c.args.bytes.now c.in-Some.enclosed.content c.in-Some.enclosed.rest.now closes)
