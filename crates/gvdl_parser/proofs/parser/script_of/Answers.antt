use Rattle.std.proofs.Common.{sym, subst, List, Err}
use Rattle.phrase_theory.specs.FirstFault.{IsFirstSyntax, IsFirstTooDeep}
use Rattle.gvdl_tokens.specs.declared.token.Token.{Token}
use Rattle.gvdl_parser.specs.declared.fault.ScriptFault.{ScriptFault}
use Rattle.gvdl_parser.specs.declared.fault.ParseFault.TheVariants as outcome
use Rattle.gvdl_parser.specs.declared.script.TokenFault.{TokenFault}
use Rattle.gvdl_parser.specs.Terminals.{opens}
use Rattle.gvdl_parser.specs.Statements.{script}
use Rattle.gvdl_parser.specs.Parsing.{IsTheScript, Parses}
use Rattle.gvdl_parser.specs.Judging.{Judges}
use Rattle.gvdl_parser.proofs.JudgingLaws.{broken_behind, syntax_judged, deep_judged}
use Rattle.gvdl_parser.proofs.parser.script_of.Goals as goal

pub returns-then-is_end : goal.returns-then-is_end
returns-then-is_end c = (subst (λ (x : List Token). IsTheScript x c.in-Ok.script) c.as_slice.ensures c.in-Ok.ensures, c.is_end.ensures.whole c.if-is_end.true)

pub returns-else-is_end : goal.returns-else-is_end
returns-else-is_end c = subst (λ (x : ScriptFault). Judges c.args.all.now (Err (outcome.Fault x))) (sym c.ending_fault.ensures)
    (broken_behind c.args.all.now c.in-Ok.script (subst (λ (x : List Token). IsTheScript x c.in-Ok.script) c.as_slice.ensures c.in-Ok.ensures) (c.is_end.ensures.broken c.if-is_end.false))

pub returns-in-Err-Syntax : goal.returns-in-Err-Syntax
returns-in-Err-Syntax c = syntax_judged c.args.all.now c.in-Err-Syntax.k c.syntax_at.result c.requires
    (subst (λ (x : List Token). IsFirstSyntax opens script 64 x c.in-Err-Syntax.k) c.as_slice.ensures (subst (λ (x : TokenFault). Parses c.as_slice.result.now (Err x)) c.in-Err-Syntax.field-0-is c.in-Err-Syntax.ensures)) c.syntax_at.ensures

pub returns-in-Err-TooDeep : goal.returns-in-Err-TooDeep
returns-in-Err-TooDeep c = deep_judged c.args.all.now c.in-Err-TooDeep.k c.too_deep_at.result c.requires
    (subst (λ (x : List Token). IsFirstTooDeep opens script 64 x c.in-Err-TooDeep.k) c.as_slice.ensures (subst (λ (x : TokenFault). Parses c.as_slice.result.now (Err x)) c.in-Err-TooDeep.field-0-is c.in-Err-TooDeep.ensures)) c.too_deep_at.ensures
