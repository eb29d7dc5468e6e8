use Rattle.std.proofs.Common.{◌≡◌, ap, rules}
use Rattle.gvdl_tokens.specs.declared.token.Token.TheVariants as t
use Rattle.gvdl_tokens.specs.Spelling.{enclosed}
use Rattle.gvdl_printer.specs.Layout.{plain}
use Rattle.gvdl_printer.proofs.Growing.{put_is}
use Rattle.gvdl_printer.proofs.page.Page.quoted.Goals as goal

pub returns : goal.returns
returns c = put_is c.args.self.now (plain (t.Quoted c.args.name.now)) _ _ _ c.in_ok-space.ensures c.in_ok-push_enclosed.ensures (let e : c.as_bytes.result.now ≡ c.args.name.now = search rules in ap (enclosed 34) e)
