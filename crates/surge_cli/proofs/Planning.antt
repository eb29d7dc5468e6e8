-- The check of a script answers its plan or its refusal.
use Rattle.std.proofs.Common.{◌≡◌, Result, Ok, Err, refl, sym, subst, inl, inr}
use Rattle.gvdl_check.specs.declared.fault.CheckFault.{CheckFault}
use Rattle.gvdl_check.specs.declared.plan.Plan.{Plan}
use Rattle.gvdl_check.specs.Faults.{Agrees}
use Rattle.surge_cli.specs.declared.status.Status.{Status}
use Rattle.surge_cli.specs.Expected.{planned}
use Rattle.surge_cli.specs.Stages.{IsSaid}

itself : {A : Type 0} (r : Result A Status) → IsSaid r r
itself (Ok a) = refl
itself (Err s) = inr refl

agreed : (said r : Result Plan CheckFault) → Agrees said r → IsSaid (planned said) (planned r)
agreed said r (inl is) = subst (λ (x : Result Plan CheckFault). IsSaid (planned x) (planned r)) is (itself (planned r))
agreed said r (inr is) = subst (λ (x : Result Plan CheckFault). IsSaid (planned said) (planned x)) (sym is) (inl tt)

-- what is made of the answer
pub plan_said : (said r answer : Result Plan CheckFault) → Agrees said r → r ≡ answer → IsSaid (planned said) (planned answer)
plan_said said r answer h is = subst (λ (x : Result Plan CheckFault). IsSaid (planned said) (planned x)) is (agreed said r h)
