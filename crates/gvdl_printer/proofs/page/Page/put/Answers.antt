use Rattle.std.proofs.Common.{◌≡◌, ◌∙◌, ◌++◌, Bool, ap, rules}
use Rattle.std.specs.Prelude.{◌||◌}
use Rattle.gvdl_tokens.specs.declared.token.Token.TheVariants as t
use Rattle.gvdl_printer.specs.declared.page.Page.{Page}
use Rattle.gvdl_printer.specs.Layout.{Piece, space_unless, is_close_before}
use Rattle.gvdl_printer.proofs.Growing.{put_is}
use Rattle.gvdl_printer.proofs.page.Page.put.Goals as goal

pub returns : goal.returns
returns c =
    let page : Page = c.args.self.now in
    let x : Piece = record { token = t.Sign c.args.mark; tight = c.args.tight } in
    let before : c.space.new.self.text ≡ page.text ++ space_unless (page.close || is_close_before c.args.mark c.args.tight) = c.in_ok-space.ensures ∙ ap (λ (b : Bool). page.text ++ space_unless (page.close || b)) c.is_close_before.ensures in
    ap (λ (b : Bool). record { text = c.push_bytes.new.text; close = b }) c.is_close_behind-self.ensures ∙ put_is page x _ _ _ before c.in_ok-push_bytes.ensures (search rules)
