use Rattle.std.proofs.Common.{refl, subst, List, []}
use Rattle.phrase_theory.specs.declared.fault.Fault.{Fault}
use Rattle.phrase_theory.specs.Reading.{Finds, Fails}
use Rattle.phrase_theory.specs.WholeLaws.{whole_is, stuck_is, sunk_is}
use Rattle.gvdl_tokens.specs.declared.token.Token.{Token}
use Rattle.gvdl_parser.specs.Terminals.{opens}
use Rattle.gvdl_parser.specs.Statements.{script, after_script}
use Rattle.gvdl_parser.proofs.script.parse_tokens.Goals as goal

pub returns-in-Ok : goal.returns-in-Ok
returns-in-Ok c =
    let p : Finds script after_script 64 c.args.tokens.now c.in-Ok.script [] = subst (λ (x : List Token). Finds script after_script 64 c.args.tokens.now c.in-Ok.script x) c.in-Ok.ensures.end c.in-Ok.ensures.read in
    let q = whole_is script after_script refl 64 c.args.tokens.now c.in-Ok.script p in
    record { whole = q.0; only = q.1 }

pub returns-in-Err-Syntax : goal.returns-in-Err-Syntax
returns-in-Err-Syntax c = stuck_is script after_script refl 64 c.args.tokens.now c.script.new.cursor.rest.now
    (subst (λ (x : Fault). Fails opens script after_script 64 c.args.tokens.now x c.script.new.cursor.rest.now) c.in-Err-Syntax.field-0-is c.in-Err-Syntax.ensures.read).why

pub returns-in-Err-TooDeep : goal.returns-in-Err-TooDeep
returns-in-Err-TooDeep c = sunk_is script after_script refl 64 c.args.tokens.now c.script.new.cursor.rest.now
    (subst (λ (x : Fault). Fails opens script after_script 64 c.args.tokens.now x c.script.new.cursor.rest.now) c.in-Err-TooDeep.field-0-is c.in-Err-TooDeep.ensures.read).why
