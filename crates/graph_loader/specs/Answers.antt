-- What the answers of a load tell.
use Rattle.std.specs.Prelude.{◌≡◌, ℕ, ⊤, Option, Some, None, Result, Ok, Err}
use Rattle.graph_loader.specs.declared.fault.DataFile.{DataFile}
use Rattle.graph_loader.specs.declared.fault.DataKind.{DataKind}
use Rattle.graph_loader.specs.declared.fault.DataKind.TheVariants as wrong
use Rattle.graph_loader.specs.declared.fault.DataFault.{DataFault}
use Rattle.graph_loader.specs.declared.fault.LoadFault.{LoadFault}
use Rattle.graph_loader.specs.declared.fault.LoadFault.TheVariants as load
use Rattle.graph_loader.specs.declared.fault.Blame.{Blame}
use Rattle.graph_loader.specs.declared.fault.Refusal.{Refusal}
use Rattle.graph_loader.specs.declared.fault.Refusal.TheVariants as refusal

abbrev pub kind_number : DataKind → ℕ
kind_number wrong.NoHeader = 1
kind_number wrong.BadHeader = 2
kind_number wrong.TooManyColumns = 3
kind_number wrong.WrongWidth = 4
kind_number wrong.NotUtf8 = 5
kind_number wrong.BadId = 6
kind_number wrong.RepeatedId = 7
kind_number wrong.UnknownNode = 8
kind_number wrong.BadCell = 9
kind_number wrong.TooManyNodes = 10
kind_number wrong.TooManyEdges = 11
kind_number wrong.TooLarge = 12

-- a fact of the fault, where no graph was loaded for a fault of the files
abbrev pub IfFault : LoadFault → (DataFault → Type 0) → Type 0
IfFault (load.Fault f) P = P f
IfFault load.NoMemory P = ⊤

-- ---- inside the loader

abbrev pub blame_refused : ℕ → DataKind → Refusal
blame_refused column kind = refusal.Blame (record { column = column; kind = kind })

abbrev pub fault_at : DataFile → ℕ → Refusal → LoadFault
fault_at file row (refusal.Blame b) = load.Fault (record { file = file; row = row; column = b.column; kind = b.kind })
fault_at file row refusal.NoMemory = load.NoMemory

-- a fact of what is wrong, where a record wasn't taken for that
abbrev pub IfBlame : Refusal → (Blame → Type 0) → Type 0
IfBlame (refusal.Blame b) P = P b
IfBlame refusal.NoMemory P = ⊤

-- an answer that tells the value or what is wrong, or that memory was refused
abbrev pub Answers : {A : Type 0} → Result A Blame → Result A Refusal → Type 0
Answers r (Ok x) = r ≡ Ok x
Answers r (Err e) = IfBlame e (λ b. r ≡ Err b)

-- an answer that tells what is wrong, that nothing is, or that memory was refused
abbrev pub Tells : {A : Type 0} → Option Blame → Result A Refusal → Type 0
Tells o (Ok x) = o ≡ None
Tells o (Err e) = IfBlame e (λ b. o ≡ Some b)

-- an answer that tells what is wrong, or that nothing is but what this says, or that memory was refused
abbrev pub TellsBut : {A : Type 0} → Option Blame → Option Blame → Result A Refusal → Type 0
TellsBut rest o (Ok x) = o ≡ rest
TellsBut rest o (Err e) = IfBlame e (λ b. o ≡ Some b)

-- an answer of a whole file that tells what is wrong, that nothing is, or that memory was refused
abbrev pub TellsFault : {A : Type 0} → Option DataFault → Result A LoadFault → Type 0
TellsFault o (Ok x) = o ≡ None
TellsFault o (Err e) = IfFault e (λ f. o ≡ Some f)
