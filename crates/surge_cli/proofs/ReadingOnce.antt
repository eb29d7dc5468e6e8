-- Places of files are asked for once.
use Rattle.std.proofs.Common.{◌≡◌, ◌≤◌, ◌+◌, ℕ, List, [], ◌∷◌, Option, arith, refl, sym, subst, inl, inr}
use Rattle.std.specs.Prelude.{if◌then◌else◌}
use Rattle.std.specs.Str.{bytes_eq}
use Rattle.gvdl_tree.specs.declared.script.Script.{Script}
use Rattle.surge_cli.specs.declared.words.Source.{Source}
use Rattle.surge_cli.specs.declared.words.Source.TheVariants as source
use Rattle.surge_cli.specs.declared.words.CommandLine.{CommandLine}
use Rattle.surge_cli.specs.declared.words.CommandLine.TheVariants as line
use Rattle.surge_cli.specs.FilesState.{FilesState, times, AsksEach, AsksBelow}
use Rattle.surge_cli.specs.Expected.{Held, inserts_of}
use Rattle.surge_cli.specs.Reaches.{HasScript}
use Rattle.surge_cli.specs.Once.{IsRead, IsReadOf, IsReadFor, AsksOnce}
use Rattle.surge_cli.specs.Stages.{names_of}

-- ---- the pieces of a file

pub none_below : (name : List ℕ) (end : ℕ) (s : FilesState) → AsksBelow name end s s
none_below name end s = λ other place. omega arith

-- ---- one file after the other

pub none_each : (names : List (List ℕ)) (s : FilesState) → AsksEach names s s
none_each names s = λ name place. omega arith

-- the files of a list, the first of which is read first
pub each_then : (name : List ℕ) (names : List (List ℕ)) (a b c : FilesState) → AsksEach (name ∷ []) a b → AsksEach names b c → AsksEach (name ∷ names) a c
each_then name names a b c first second = λ other place.
    sum (a.asked_at other place) (b.asked_at other place) (c.asked_at other place) (if bytes_eq name other then 1 else 0) (times other names) (first other place) (second other place) where
      sum : (x y z s t : ℕ) → y ≤ x + (s + 0) → z ≤ y + t → z ≤ x + (s + t)
      sum x y z s t h k = omega (arith, h, k)

-- only the first of them was read
pub each_first : (name : List ℕ) (names : List (List ℕ)) (a b : FilesState) → AsksEach (name ∷ []) a b → AsksEach (name ∷ names) a b
each_first name names a b first = each_then name names a b b first (none_each names b)

-- ---- the files of the words

pub script_and_data : (held : Option Held) (file : List ℕ) (script : Script) (a b c : FilesState) → HasScript held file script → AsksEach (file ∷ []) a b → AsksEach (script.nodes ∷ script.edges ∷ names_of (inserts_of script)) b c → AsksOnce (IsRead held file) a c
script_and_data held file script a b c has first second =
    let rest = script.nodes ∷ script.edges ∷ names_of (inserts_of script) in
    (file ∷ rest, inr (script, has, refl), each_then file rest a b c first second)

pub script_alone : (held : Option Held) (file : List ℕ) (a b : FilesState) → AsksEach (file ∷ []) a b → AsksOnce (IsRead held file) a b
script_alone held file a b first = (file ∷ [], inl refl, first)

pub sample_alone : (held : Option Held) (number : ℕ) (s : FilesState) → AsksOnce (IsReadOf held (source.Sample number)) s s
sample_alone held number s = ([], refl, none_each [] s)

of_source : (held : Option Held) (from : Source) (s : FilesState) → AsksOnce (IsReadOf held from) s s
of_source held (source.Script file) s = (file ∷ [], inl refl, none_each (file ∷ []) s)
of_source held (source.Sample number) s = sample_alone held number s

-- nothing was asked
pub nothing_read : (held : Option Held) (words : CommandLine) (s : FilesState) → AsksOnce (IsReadFor held words) s s
nothing_read held line.NotOfForm s = ([], refl, none_each [] s)
nothing_read held (line.Asked asked) s = of_source held asked.source s
nothing_read held (line.Replay name) s = (name ∷ [], refl, none_each (name ∷ []) s)

-- the change text alone was read
pub changes_alone : (held : Option Held) (words : CommandLine) (name : List ℕ) (a b : FilesState) → words ≡ line.Replay name → AsksEach (name ∷ []) a b → AsksOnce (IsReadFor held words) a b
changes_alone held words name a b is h = subst (λ (x : CommandLine). AsksOnce (IsReadFor held x) a b) (sym is) (name ∷ [], refl, h)
