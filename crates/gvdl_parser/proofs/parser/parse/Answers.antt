use Rattle.std.proofs.Common.{◌∙◌, ap, refl, inr, Err}
use Rattle.gvdl_tokens.specs.declared.fault.LexFault.{LexFault}
use Rattle.gvdl_parser.proofs.JudgingLaws.{as_many, found, only, faulted, all_scripts, all_faults, not_text, no_text, lone_fault}
use Rattle.gvdl_parser.proofs.parser.parse.Goals as goal

pub script_of-requires : goal.script_of-requires
script_of-requires c = as_many _ c.in-Ok.tokens c.in-Ok.ensures.read

pub returns-in-Ok-clause-found : goal.returns-in-Ok-clause-found
returns-in-Ok-clause-found c = found c.args.text.now c.in-Ok.tokens c.in-Ok.ensures.read c.in-Ok.ensures.only c.script_of.result c.script_of.ensures

pub returns-in-Ok-clause-only : goal.returns-in-Ok-clause-only
returns-in-Ok-clause-only c = only c.args.text.now c.in-Ok.tokens c.in-Ok.ensures.read c.in-Ok.ensures.only c.script_of.result c.script_of.ensures

pub returns-in-Ok-clause-fault : goal.returns-in-Ok-clause-fault
returns-in-Ok-clause-fault c = faulted c.args.text.now c.in-Ok.tokens c.in-Ok.ensures.read c.in-Ok.ensures.only c.script_of.result c.script_of.ensures

pub returns-in-Ok-clause-every_script : goal.returns-in-Ok-clause-every_script
returns-in-Ok-clause-every_script c = all_scripts c.args.text.now c.in-Ok.tokens c.in-Ok.ensures.read c.in-Ok.ensures.only c.script_of.result c.script_of.ensures

pub returns-in-Ok-clause-every_fault : goal.returns-in-Ok-clause-every_fault
returns-in-Ok-clause-every_fault c = all_faults c.args.text.now c.in-Ok.tokens c.in-Ok.ensures.read c.in-Ok.ensures.only c.script_of.result c.script_of.ensures

pub returns-in-Err-NotUtf8-clause-fault : goal.returns-in-Err-NotUtf8-clause-fault
returns-in-Err-NotUtf8-clause-fault c = not_text c.args.text.now (c.lex.ensures.not_utf8 (c.in-Err-NotUtf8.is ∙ ap (λ (x : LexFault). Err x) c.in-Err-NotUtf8.field-0-is)) _ refl

pub returns-in-Err-NotUtf8-clause-every_script : goal.returns-in-Err-NotUtf8-clause-every_script
returns-in-Err-NotUtf8-clause-every_script c = no_text c.args.text.now (c.lex.ensures.not_utf8 (c.in-Err-NotUtf8.is ∙ ap (λ (x : LexFault). Err x) c.in-Err-NotUtf8.field-0-is)) _

pub returns-in-Err-NotUtf8-clause-every_fault : goal.returns-in-Err-NotUtf8-clause-every_fault
returns-in-Err-NotUtf8-clause-every_fault c = lone_fault c.args.text.now (c.lex.ensures.not_utf8 (c.in-Err-NotUtf8.is ∙ ap (λ (x : LexFault). Err x) c.in-Err-NotUtf8.field-0-is)) _ refl

pub returns-in-Err-NoMemory-clause-every_script : goal.returns-in-Err-NoMemory-clause-every_script
returns-in-Err-NoMemory-clause-every_script c = λ s k. inr refl

pub returns-in-Err-NoMemory-clause-every_fault : goal.returns-in-Err-NoMemory-clause-every_fault
returns-in-Err-NoMemory-clause-every_fault c = λ f k. inr refl
