-- A text is one script at most, or has one first fault.
use Rattle.std.proofs.Common.{◌≡◌, ◌∙◌, sym, inl, inr, Result, Ok, Err, ap}
use Rattle.std.specs.Prelude.{◌⊎◌}
use Rattle.gvdl_tree.specs.declared.script.Script.{Script}
use Rattle.gvdl_parser.specs.declared.fault.ParseFault.{ParseFault}
use Rattle.gvdl_parser.specs.declared.fault.ParseFault.TheVariants as outcome
use Rattle.gvdl_parser.specs.declared.fault.ScriptFault.{ScriptFault}
use Rattle.gvdl_check.specs.Written.{written_so}
use Rattle.surge_cli.proofs.stages.parse_script.Goals as goal

no_fault : (r : Result Script ParseFault) (s : Script) (f : ScriptFault) → r ≡ Ok s → (r ≡ Err (outcome.Fault f)) ⊎ (r ≡ Err outcome.NoMemory) → ⊥
no_fault r s f is (inl h) = let e = sym is ∙ h in absurd cc
no_fault r s f is (inr h) = let e = sym is ∙ h in absurd cc

no_script : (r : Result Script ParseFault) (s : Script) (f : ScriptFault) → r ≡ Err (outcome.Fault f) → (r ≡ Ok s) ⊎ (r ≡ Err outcome.NoMemory) → ⊥
no_script r s f is (inl ok) = let e = sym is ∙ ok in absurd cc
no_script r s f is (inr err) = let e = sym is ∙ err in absurd cc

same_fault : (r : Result Script ParseFault) (f g : ScriptFault) → r ≡ Err (outcome.Fault f) → (r ≡ Err (outcome.Fault g)) ⊎ (r ≡ Err outcome.NoMemory) → g ≡ f
same_fault r f g is (inl h) = let e = sym is ∙ h in cc
same_fault r f g is (inr h) = let e = sym is ∙ h in absurd cc

pub returns-in-Ok-clause-ok : goal.returns-in-Ok-clause-ok
returns-in-Ok-clause-ok c = record {
  found = c.in-Ok.ensures.found;
  only = c.in-Ok.ensures.only 64;
  sound = λ fault h. no_fault c.parse.result c.in-Ok.script fault c.in-Ok.is (c.parse.ensures.every_fault fault h);
}

pub returns-in-Ok-clause-written : goal.returns-in-Ok-clause-written
returns-in-Ok-clause-written c = written_so c.args.text.now c.in-Ok.script c.requires c.in-Ok.ensures.found

pub returns-in-Err-Fault-clause-err : goal.returns-in-Err-Fault-clause-err
returns-in-Err-Fault-clause-err c =
    let is : c.parse.result ≡ Err (outcome.Fault c.in-Err-Fault.fault) = c.in-Err-Fault.is ∙ ap Err c.in-Err-Fault.field-0-is in
    record {
      found = c.parse.ensures.fault c.in-Err-Fault.fault is;
      only = λ other h. same_fault c.parse.result c.in-Err-Fault.fault other is (c.parse.ensures.every_fault other h);
      none = λ script h. no_script c.parse.result script c.in-Err-Fault.fault is (c.parse.ensures.every_script script h);
    }
