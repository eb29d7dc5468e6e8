use Rattle.std.proofs.Common.{◌∙◌, sym, subst}
use Rattle.std.specs.Str.{IsUtf8}
use Rattle.gvdl_tokens.proofs.Utf8.{past_mark}
use Rattle.gvdl_tokens.proofs.lexer.without_mark.Goals as goal

pub returns-then-starts_with-clause-utf8 : goal.returns-then-starts_with-clause-utf8
returns-then-starts_with-clause-utf8 c =
    subst IsUtf8 (sym c.split_at.ensures.back) (past_mark c.args.text.now (sym c.starts_with.ensures.value ∙ c.if-starts_with.true) c.requires)
