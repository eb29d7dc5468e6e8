-- The names of a script and what they mean.
use Rattle.std.specs.Prelude.{ℕ, List, [], ◌∷◌, Option, None, Some, Ok, Err, if◌then◌else◌}
use Rattle.std.specs.Prelude.{bytes_eq}
use Rattle.gvdl_programs.specs.declared.refusal.Refusal.TheVariants as refusal
use Rattle.gvdl_programs.specs.declared.template.Callable.{Callable}
use Rattle.gvdl_check.specs.declared.names.Meaning.{Meaning}
use Rattle.gvdl_check.specs.declared.names.Meaning.TheVariants as meaning
use Rattle.gvdl_programs.specs.Judging.{Judged}

-- names, each with its meaning
abbrev pub NameList : Type 0
NameList = List (List ℕ × Meaning)

-- what a name stands for, where it is taken
abbrev pub meaning_of : NameList → List ℕ → Option Meaning
meaning_of [] name = None
meaning_of (taken ∷ more) name =
    if bytes_eq name taken.0 then Some taken.1 else meaning_of more name

-- a name may be taken once
abbrev pub as_new : Option Meaning → Judged (Unit {0})
as_new None = Ok tt
as_new (Some m) = Err refusal.RepeatedName

abbrev pub new_name : NameList → List ℕ → Judged (Unit {0})
new_name names name = as_new (meaning_of names name)

-- the graph, or the place of a single view
abbrev pub as_base : Option Meaning → Judged (Option ℕ)
as_base (Some (meaning.Base place)) = Ok place
as_base _ = Err refusal.UnknownName

abbrev pub base_of : NameList → List ℕ → Judged (Option ℕ)
base_of names name = as_base (meaning_of names name)

-- the place of a collection, and what its views stand on
abbrev pub as_collection : Option Meaning → Judged (ℕ × Option ℕ)
as_collection (Some (meaning.Collection place base)) = Ok (place, base)
as_collection _ = Err refusal.UnknownName

abbrev pub collection_of : NameList → List ℕ → Judged (ℕ × Option ℕ)
collection_of names name = as_collection (meaning_of names name)

-- the place of a kept run
abbrev pub as_kept : Option Meaning → Judged ℕ
as_kept (Some (meaning.Kept run)) = Ok run
as_kept _ = Err refusal.UnknownName

abbrev pub kept_of : NameList → List ℕ → Judged ℕ
kept_of names name = as_kept (meaning_of names name)

-- the program with this name
abbrev pub as_program : Option Meaning → Option Callable
as_program (Some (meaning.Program program)) = Some program
as_program _ = None

abbrev pub program_named : NameList → List ℕ → Option Callable
program_named names name = as_program (meaning_of names name)

abbrev pub known_program : Option Callable → Judged Callable
known_program None = Err refusal.UnknownName
known_program (Some program) = Ok program

abbrev pub program_of : NameList → List ℕ → Judged Callable
program_of names name = known_program (program_named names name)
