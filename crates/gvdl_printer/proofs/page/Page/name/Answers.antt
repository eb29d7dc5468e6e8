use Rattle.std.proofs.Common.{rules}
use Rattle.gvdl_tokens.specs.declared.token.Token.TheVariants as t
use Rattle.gvdl_printer.specs.Layout.{plain}
use Rattle.gvdl_printer.proofs.Growing.{put_is}
use Rattle.gvdl_printer.proofs.page.Page.name.Goals as goal

pub returns : goal.returns
returns c = put_is c.args.self.now (plain (t.Name c.args.name.now)) _ _ _ c.in_ok-space.ensures c.in_ok-push_bytes.ensures (search rules)
