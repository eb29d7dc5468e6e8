-- What a refusal is called outside, with the number of its statement.
use Rattle.std.specs.Prelude.{◌≡◌, ◌⊎◌, ℕ, Result, Ok, Err}
use Rattle.gvdl_check.specs.declared.fault.CheckFault.{CheckFault}
use Rattle.gvdl_check.specs.declared.fault.CheckFault.TheVariants as fault
use Rattle.gvdl_programs.specs.declared.refusal.Refusal.{Refusal}
use Rattle.gvdl_programs.specs.declared.refusal.Stop.{Stop}
use Rattle.gvdl_programs.specs.declared.refusal.Stop.TheVariants as stop
use Rattle.gvdl_programs.specs.Judging.{Judged}

abbrev pub fault_at : ℕ → Refusal → CheckFault
fault_at n r = fault.Fault (record { statement = n; refusal = r })

-- what is judged of the statement with this number
abbrev pub at : {A : Type 0} → ℕ → Judged A → Result A CheckFault
at n (Ok a) = Ok a
at n (Err r) = Err (fault_at n r)

abbrev pub stop_at : ℕ → Stop → CheckFault
stop_at n (stop.Refused r) = fault_at n r
stop_at n stop.NoMemory = fault.NoMemory

-- the answer is what is said, or that memory was refused
abbrev pub Agrees : {A : Type 0} → Result A CheckFault → Result A CheckFault → Type 0
Agrees said result = (result ≡ said) ⊎ (result ≡ Err fault.NoMemory)
