use Rattle.std.proofs.Common.{rules}
use Rattle.gvdl_tokens.specs.declared.token.Token.TheVariants as t
use Rattle.gvdl_printer.specs.Layout.{plain}
use Rattle.gvdl_printer.proofs.Growing.{put_is}
use Rattle.gvdl_printer.proofs.page.Page.word.Goals as goal

pub returns : goal.returns
returns c = put_is c.args.self.now (plain (t.Word c.args.keyword)) _ _ _ c.in_ok-space.ensures c.in_ok-push_bytes.ensures (search rules)
