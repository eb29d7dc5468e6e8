use Rattle.std.proofs.Common.{Option, sym, subst, lit<}
use Rattle.std.specs.Prelude.{MatchOption}
use Rattle.gvdl_tokens.specs.declared.enclosed.Enclosed.{Enclosed}
use Rattle.gvdl_tokens.specs.Reading.{Closes, IsUnclosed}
use Rattle.gvdl_tokens.proofs.Runs.{empty, not_empty}
use Rattle.gvdl_tokens.proofs.Lexemes.{quoted_lexeme, not_empty_name}
use Rattle.gvdl_tokens.proofs.Utf8.{content_utf8}
use Rattle.gvdl_tokens.proofs.front.quoted_name.Goals as goal

pub owned_text-text-requires : goal.owned_text-text-requires
owned_text-text-requires c =
    let closes : Closes 34 c.args.bytes.now c.in-Some.enclosed.content c.in-Some.enclosed.rest.now =
    subst (λ (o : Option Enclosed). MatchOption o (IsUnclosed 34 c.args.bytes.now) (λ e. Closes 34 c.args.bytes.now e.content e.rest.now)) c.in-Some.is c.in_ok-enclosed.ensures in
    content_utf8 34 c.args.bytes.now c.in-Some.enclosed.content c.in-Some.enclosed.rest.now (lit< tt) closes c.requires.utf8

pub returns-then-is_empty : goal.returns-then-is_empty
returns-then-is_empty c =
    let closes : Closes 34 c.args.bytes.now c.in-Some.enclosed.content c.in-Some.enclosed.rest.now =
    subst (λ (o : Option Enclosed). MatchOption o (IsUnclosed 34 c.args.bytes.now) (λ e. Closes 34 c.args.bytes.now e.content e.rest.now)) c.in-Some.is c.in_ok-enclosed.ensures in
    not_empty_name c.args.bytes.now c.in-Some.enclosed.content c.in-Some.enclosed.rest.now closes (empty c.in-Some.enclosed.content (sym c.if-is_empty.ensures))

pub returns : goal.returns
returns c =
    let closes : Closes 34 c.args.bytes.now c.in-Some.enclosed.content c.in-Some.enclosed.rest.now =
    subst (λ (o : Option Enclosed). MatchOption o (IsUnclosed 34 c.args.bytes.now) (λ e. Closes 34 c.args.bytes.now e.content e.rest.now)) c.in-Some.is c.in_ok-enclosed.ensures in
    rw c.owned_text-text.ensures (quoted_lexeme c.args.bytes.now c.in-Some.enclosed.content c.in-Some.enclosed.rest.now (not_empty c.in-Some.enclosed.content (sym c.if-is_empty.ensures)) closes)
