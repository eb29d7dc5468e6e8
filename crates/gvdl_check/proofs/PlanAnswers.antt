-- What the check answers.
use Rattle.std.proofs.Common.{◌≡◌, ◌∙◌, ℕ, Bool, true, false, List, length, sum, sym, ap, refl, inl, inr, Result, Ok, Err, IfOk}
use Rattle.graph_model.specs.GraphData.{GraphData}
use Rattle.gvdl_tree.specs.declared.script.Script.{Script}
use Rattle.gvdl_check.specs.declared.plan.Plan.{Plan}
use Rattle.gvdl_check.specs.declared.fault.CheckFault.{CheckFault}
use Rattle.gvdl_check.specs.declared.fault.CheckFault.TheVariants as fault
use Rattle.gvdl_programs.specs.declared.refusal.Stop.{Stop}
use Rattle.gvdl_programs.specs.declared.refusal.Stop.TheVariants as stop
use Rattle.gvdl_programs.specs.Judging.{Judged, ◌>>=◌, IfRefused}
use Rattle.gvdl_check.specs.Faults.{at, stop_at, Agrees}
use Rattle.gvdl_check.specs.Forms.{is_form, form_known}
use Rattle.gvdl_check.specs.Plans.{plan_loaded, plan}
use Rattle.gvdl_check.specs.Fits.{PlanFits, HoldsNoLowest}
use Rattle.gvdl_check.specs.Written.{IsWritten}
use Rattle.gvdl_check.specs.NumberLaws.{no_lowest}
use Rattle.gvdl_check.specs.PlanLaws.{plan_sound}

-- a refusal of the first part is the answer
pub stopped : {A B : Type 0} (n : ℕ) (said : Judged A) (f : A → Result B CheckFault) (e : Stop)
    → IfRefused e (λ r. said ≡ Err r) → Agrees (at n said >>= f) (Err (stop_at n e))
stopped n said f (stop.Refused r) h = inl (sym (ap (λ (s : Judged _). at n s >>= f) h))
stopped n said f stop.NoMemory h = inr refl

-- a form that there isn't is the answer
pub form_refused : (s : Script) (g : GraphData) (groups : List ℕ) → is_form s.form ≡ false → Agrees (plan s g groups) (Err fault.BadForm)
form_refused s g groups bad = inl (sym (ap (λ (b : Bool). form_known b >>= λ _. plan_loaded s g groups) bad))

-- behind a form that there is, what is said of the statements is the answer
pub form_taken : (s : Script) (g : GraphData) (groups : List ℕ) (r : Result Plan CheckFault) → is_form s.form ≡ true → Agrees (plan_loaded s g groups) r → Agrees (plan s g groups) r
form_taken s g groups r good (inl e) = inl (e ∙ sym (ap (λ (b : Bool). form_known b >>= λ _. plan_loaded s g groups) good))
form_taken s g groups r good (inr e) = inr e

-- a value that is answered is what is said
said_so : {A : Type 0} (said : Result A CheckFault) (a : A) → Agrees said (Ok a) → said ≡ Ok a
said_so said a (inl e) = sym e
said_so said a (inr e) = absurd cc

pub fitting : (s : Script) (g : GraphData) (groups : List ℕ) (r : Result Plan CheckFault) → sum groups ≡ length g.ends → Agrees (plan s g groups) r → IfOk r (λ p. PlanFits g p)
fitting s g groups (Ok p) all h = (plan_sound s g groups p all (said_so (plan s g groups) p h)).fits
fitting s g groups (Err x) all h = tt

pub holding_none : (s : Script) (g : GraphData) (groups : List ℕ) (r : Result Plan CheckFault) → IsWritten s → sum groups ≡ length g.ends → Agrees (plan s g groups) r → IfOk r HoldsNoLowest
holding_none s g groups (Ok p) written all h = no_lowest s g groups p written all (said_so (plan s g groups) p h)
holding_none s g groups (Err x) written all h = tt

pub counted : (s : Script) (g : GraphData) (groups : List ℕ) (r : Result Plan CheckFault) → sum groups ≡ length g.ends → Agrees (plan s g groups) r
    → IfOk r (λ p. length p.steps ≡ length s.statements)
counted s g groups (Ok p) all h = (plan_sound s g groups p all (said_so (plan s g groups) p h)).steps
counted s g groups (Err x) all h = tt
