-- A file that is absent, or whose reading failed, is one that was reached, and so is each that was asked for.
use Rattle.std.proofs.Common.{◌≡◌, ◌∙◌, ◌≤◌, ℕ, List, Option, Result, Ok, Err, refl, sym, subst, arith, inl, inr}
use Rattle.std.specs.Prelude.{IfErr, ◌⊎◌}
use Rattle.graph_model.specs.GraphData.{GraphData}
use Rattle.gvdl_tree.specs.declared.script.Script.{Script}
use Rattle.surge_cli.specs.declared.status.FileRole.{FileRole}
use Rattle.surge_cli.specs.declared.status.FileRole.TheVariants as role
use Rattle.surge_cli.specs.declared.status.Status.{Status}
use Rattle.surge_cli.specs.declared.status.Status.TheVariants as status
use Rattle.surge_cli.specs.FilesState.{FilesState, GoesOn, AsksNoOther}
use Rattle.surge_cli.specs.Expected.{Held, Grouped, grouped, inserts_of}
use Rattle.surge_cli.specs.Reaches.{HasScript, GivesGraph, ReachesData, ReachesNamed, ReachesChanges}
use Rattle.surge_cli.specs.Causes.{AsksOnly, IsUpTo, UpTo, RisesAt, Counts, Causes}
use Rattle.surge_cli.specs.Stages.{IsInner, IsReplayInner, IsInnerAt, IsFile, IsBehind, RisesBefore}
use Rattle.surge_cli.proofs.GoingOn.{risen_since}

-- ---- places

-- what holds of the file of one fetch
pub at_file : (P : FileRole → List ℕ → Type 0) (role : FileRole) (name : List ℕ) → P role name → (r : FileRole) (n : List ℕ) → IsFile role name r n → P r n
at_file P role name h r n is = subst (λ (x : FileRole). P x n) (sym is.0) (subst (λ (x : List ℕ). P role x) (sym is.1) h)

-- the data files are reached behind the script
pub data_named : (held : Option Held) (file : List ℕ) (script : Script) → HasScript held file script → (r : FileRole) (n : List ℕ) → ReachesData held script r n → ReachesNamed held file r n
data_named held file script has role.Script n h = absurd h
data_named held file script has role.Changes n h = absurd h
data_named held file script has role.Nodes n h = (script, has, h)
data_named held file script has role.Edges n h = (script, has, h)
data_named held file script has (role.Insert m) n h = (script, has, h)

-- ---- what was asked

pub asks_none : (P : FileRole → List ℕ → Type 0) (f : List ℕ → ℕ) → AsksOnly P f f
asks_none P f = λ name no. refl

pub asks_both : (P : FileRole → List ℕ → Type 0) (f g h : List ℕ → ℕ) → AsksOnly P f g → AsksOnly P g h → AsksOnly P f h
asks_both P f g h first second = λ name no. second name no ∙ first name no

-- files of one place are files of another
pub asks_so : (P Q : FileRole → List ℕ → Type 0) (f g : List ℕ → ℕ) → ((r : FileRole) (n : List ℕ) → P r n → Q r n) → AsksOnly P f g → AsksOnly Q f g
asks_so P Q f g to h = λ name no. h name (λ r is. no r (to r name is))

-- at most the file of this role and name was asked for, which is in its place
pub asks_file : (P : FileRole → List ℕ → Type 0) (role : FileRole) (name : List ℕ) → P role name → (a b : FilesState) → AsksNoOther name a b → AsksOnly P a.asked b.asked
asks_file P role name h a b only = λ other no. only other (λ e. no role (subst (λ (x : List ℕ). P role x) (sym e) h))

pub up_to_itself : (r : FileRole) → IsUpTo r r
up_to_itself role.Script = tt
up_to_itself role.Nodes = tt
up_to_itself role.Edges = tt
up_to_itself role.Changes = tt
up_to_itself (role.Insert m) = omega arith

pub script_first : (r : FileRole) → IsUpTo r role.Script
script_first role.Script = tt
script_first role.Nodes = tt
script_first role.Edges = tt
script_first role.Changes = tt
script_first (role.Insert m) = tt

-- what was asked before stands before each file of the second stage
abbrev pub StandsBefore : (P Q : FileRole → List ℕ → Type 0) (f g : List ℕ → ℕ) → Type 0
StandsBefore P Q f g = (r : FileRole) (n : List ℕ) → P r n → AsksOnly (UpTo Q r) f g

pub none_before : (P Q : FileRole → List ℕ → Type 0) (f : List ℕ → ℕ) → StandsBefore P Q f f
none_before P Q f = λ r n is. asks_none (UpTo Q r) f

-- ---- files that are inserted

-- those that are put behind the graph of the data files
pub behind_data : (held : Option Held) (script : Script) (graph : GraphData) → GivesGraph held script graph → (r : FileRole) (n : List ℕ) → IsBehind held (grouped graph) (inserts_of script) r n → ReachesData held script r n
behind_data held script graph gives role.Script n h = absurd h
behind_data held script graph gives role.Nodes n h = absurd h
behind_data held script graph gives role.Edges n h = absurd h
behind_data held script graph gives role.Changes n h = absurd h
behind_data held script graph gives (role.Insert m) n h = (graph, gives, h)

up_to_edges : (m : ℕ) (r : FileRole) → IsUpTo role.Edges r → IsUpTo (role.Insert m) r
up_to_edges m role.Script h = tt
up_to_edges m role.Nodes h = tt
up_to_edges m role.Edges h = tt
up_to_edges m role.Changes h = tt
up_to_edges m (role.Insert k) h = absurd h

-- the data files are asked for before them
pub data_before : (P : FileRole → List ℕ → Type 0) (held : Option Held) (w : Grouped) (inserts : List (ℕ × List ℕ)) (f g : List ℕ → ℕ) → AsksOnly (UpTo P role.Edges) f g → StandsBefore (IsBehind held w inserts) P f g
data_before P held w inserts f g h role.Script n is = absurd is
data_before P held w inserts f g h role.Nodes n is = absurd is
data_before P held w inserts f g h role.Edges n is = absurd is
data_before P held w inserts f g h role.Changes n is = absurd is
data_before P held w inserts f g h (role.Insert m) n is = λ name no. h name (λ r up. no r (up_to_edges m r up.0, up.1))

-- ---- counts

-- files of one place are files of another, and what rose since a later time rose since an earlier one
mapped : (P Q : FileRole → List ℕ → Type 0) (role : FileRole) (a b c f g h : List ℕ → ℕ) → ((r : FileRole) (n : List ℕ) → P r n → Q r n) → ((n : List ℕ) → a n ≤ b n) → StandsBefore P Q f g → RisesAt P role b c g h → RisesAt Q role a c f h
mapped P Q role a b c f g h to le before is = record {
  name = is.name;
  place = to role is.name is.place;
  risen = risen_since (a is.name) (b is.name) (c is.name) (le is.name) is.risen;
  last = asks_both (UpTo Q role) f g h (before role is.name is.place) (asks_so (UpTo P role) (UpTo Q role) g h (λ r n up. (up.0, to r n up.1)) is.last);
}

pub rises_so : (P Q : FileRole → List ℕ → Type 0) (s : Status) (a b c : FilesState) → ((r : FileRole) (n : List ℕ) → P r n → Q r n) → GoesOn a b → StandsBefore P Q a.asked b.asked → RisesBefore P s b c → RisesBefore Q s a c
rises_so P Q status.Done a b c to on before h = tt
rises_so P Q status.Usage a b c to on before h = tt
rises_so P Q (status.Absent role) a b c to on before h = mapped P Q role a.absences b.absences c.absences a.asked b.asked c.asked to on.absences before h
rises_so P Q (status.Data fault) a b c to on before h = tt
rises_so P Q (status.Script fault) a b c to on before h = tt
rises_so P Q status.ReadFault a b c to on before h = (h.0, mapped P Q h.0 a.faults b.faults c.faults a.asked b.asked c.asked to on.faults before h.1)
rises_so P Q status.WriteFault a b c to on before h = tt
rises_so P Q status.NoMemory a b c to on before h = tt
rises_so P Q (status.Replay fault) a b c to on before h = tt

-- the same of what a stage answers
pub stage_rises : {A : Type 0} (P Q : FileRole → List ℕ → Type 0) (r : Result A Status) (a b c : FilesState) → ((r : FileRole) (n : List ℕ) → P r n → Q r n) → GoesOn a b → StandsBefore P Q a.asked b.asked → IfErr r (λ s. RisesBefore P s b c) → IfErr r (λ s. RisesBefore Q s a c)
stage_rises P Q (Ok x) a b c to on before h = tt
stage_rises P Q (Err s) a b c to on before h = rises_so P Q s a b c to on before h

inner_rises : (P : FileRole → List ℕ → Type 0) (s : Status) (a b : FilesState) → IsInner s → RisesBefore P s a b
inner_rises P status.Done a b h = tt
inner_rises P status.Usage a b h = tt
inner_rises P (status.Absent role) a b h = absurd h
inner_rises P (status.Data fault) a b h = tt
inner_rises P (status.Script fault) a b h = tt
inner_rises P status.ReadFault a b h = absurd h
inner_rises P status.WriteFault a b h = tt
inner_rises P status.NoMemory a b h = tt
inner_rises P (status.Replay fault) a b h = absurd h

replay_rises : (P : FileRole → List ℕ → Type 0) (s : Status) (a b : FilesState) → IsReplayInner s → RisesBefore P s a b
replay_rises P status.Done a b h = tt
replay_rises P status.Usage a b h = tt
replay_rises P (status.Absent role) a b h = absurd h
replay_rises P (status.Data fault) a b h = tt
replay_rises P (status.Script fault) a b h = tt
replay_rises P status.ReadFault a b h = absurd h
replay_rises P status.WriteFault a b h = tt
replay_rises P status.NoMemory a b h = tt
replay_rises P (status.Replay fault) a b h = tt

-- the same of the file of a role
pub rises_at : (P : FileRole → List ℕ → Type 0) (r : FileRole) (s : Status) (a b : FilesState) → IsInnerAt r s → RisesBefore P s a b
rises_at P role.Script s a b h = inner_rises P s a b h
rises_at P role.Nodes s a b h = inner_rises P s a b h
rises_at P role.Edges s a b h = inner_rises P s a b h
rises_at P (role.Insert n) s a b h = inner_rises P s a b h
rises_at P role.Changes s a b h = replay_rises P s a b h

-- a stage that asks nothing of the files
pub inner_counts : {A : Type 0} (P : FileRole → List ℕ → Type 0) (r : Result A Status) (a b : FilesState) → IfErr r IsInner → IfErr r (λ s. RisesBefore P s a b)
inner_counts P (Ok x) a b h = tt
inner_counts P (Err s) a b h = inner_rises P s a b h

-- the same on the way to a change text
pub replay_counts : {A : Type 0} (P : FileRole → List ℕ → Type 0) (r : Result A Status) (a b : FilesState) → IfErr r IsReplayInner → IfErr r (λ s. RisesBefore P s a b)
replay_counts P (Ok x) a b h = tt
replay_counts P (Err s) a b h = replay_rises P s a b h

-- nothing of the files is asked by what stops at the words
pub words_rise : (P : FileRole → List ℕ → Type 0) (s : Status) (a b : FilesState) → s ≡ status.NoMemory → RisesBefore P s a b
words_rise P s a b is = subst (λ (x : Status). RisesBefore P x a b) (sym is) tt

-- the change text alone is reached
pub changes_named : (file : List ℕ) (r : FileRole) (n : List ℕ) → IsFile role.Changes file r n → ReachesChanges file r n
changes_named file r n is = at_file (ReachesChanges file) role.Changes file refl r n is

-- ---- the counts of all ends

-- a status once its line was written
pub reported_causes : (P : FileRole → List ℕ → Type 0) (s r : Status) (c d : Counts) → (r ≡ s) ⊎ ((r ≡ status.NoMemory) × (s ≡ status.Done → ⊥)) → Causes P s c d → Causes P r c d
reported_causes P s r c d (inl is) h = subst (λ (x : Status). Causes P x c d) (sym is) h
reported_causes P s r c d (inr is) h = subst (λ (x : Status). Causes P x c d) (sym is.0) tt
