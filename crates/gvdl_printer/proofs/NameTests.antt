-- The test for names answers whether a text is one.
use Rattle.std.proofs.Common.{◌≡◌, ◌<◌, ◌⊎◌, ◌↔◌, ◌∙◌, ℕ, zero, suc, Bool, true, false, List, [], ◌∷◌, get_or, refl, sym, ap, inl, inr, arith}
use Rattle.std.specs.Prelude.{not, ◌&&◌, ◌||◌, bytes_eq, IsTrue}
use Rattle.std.specs.List.{list_all}
use Rattle.std.specs.Str.{IsUtf8}
use Rattle.std.proofs.lemmas.Bool.Decides.{nat_tests}
use Rattle.std.proofs.lemmas.Slice.Eq.{bytes_eq-Decides}
use Rattle.std.proofs.lemmas.Str.{IsUtf8-from_ascii}
use Rattle.gvdl_tokens.specs.declared.word.Word.{Word}
use Rattle.gvdl_tokens.specs.declared.word.Word.TheVariants as w
use Rattle.gvdl_tokens.specs.Characters.{begins_name, in_name}
use Rattle.gvdl_tokens.specs.Spelling.{word_spelling, IsWordShaped, IsNotReserved, IsName}
use Rattle.gvdl_printer.specs.Names.{reserved_words, is_spelled, is_word_shaped, is_name}

pub decided : (x : Bool) → (x ≡ true) ⊎ (x ≡ false)
decided true = inl refl
decided false = inr refl

pub both : (x y : Bool) → (x && y) ≡ true → (x ≡ true) × (y ≡ true)
both true y h = (refl, h)
both false y h = absurd cc

both_true : (x y : Bool) → x ≡ true → y ≡ true → (x && y) ≡ true
both_true true y h k = k
both_true false y h k = absurd cc

or_false : (x y : Bool) → (x ≡ true → ⊥) → y ≡ false → (x || y) ≡ false
or_false true y h e = absurd (h refl)
or_false false y h e = e

-- ---- reserved words

pub each_spelled : (w : Word) → is_spelled reserved_words (word_spelling w) ≡ true
each_spelled w.Load = refl
each_spelled w.Graph = refl
each_spelled w.Nodes = refl
each_spelled w.Edges = refl
each_spelled w.Create = refl
each_spelled w.View = refl
each_spelled w.Collection = refl
each_spelled w.On = refl
each_spelled w.Where = refl
each_spelled w.Window = refl
each_spelled w.From = refl
each_spelled w.To = refl
each_spelled w.Width = refl
each_spelled w.Step = refl
each_spelled w.Program = refl
each_spelled w.Along = refl
each_spelled w.Out = refl
each_spelled w.In = refl
each_spelled w.Both = refl
each_spelled w.Start = refl
each_spelled w.Send = refl
each_spelled w.Gather = refl
each_spelled w.Update = refl
each_spelled w.Min = refl
each_spelled w.Max = refl
each_spelled w.Sum = refl
each_spelled w.Count = refl
each_spelled w.Run = refl
each_spelled w.Within = refl
each_spelled w.For = refl
each_spelled w.Rounds = refl
each_spelled w.Round = refl
each_spelled w.Order = refl
each_spelled w.Greedy = refl
each_spelled w.Declared = refl
each_spelled w.Split = refl
each_spelled w.None = refl
each_spelled w.Every = refl
each_spelled w.Auto = refl
each_spelled w.Keep = refl
each_spelled w.As = refl
each_spelled w.Append = refl
each_spelled w.Show = refl
each_spelled w.Work = refl
each_spelled w.And = refl
each_spelled w.Or = refl
each_spelled w.Not = refl
each_spelled w.Is = refl
each_spelled w.Absent = refl
each_spelled w.True = refl
each_spelled w.False = refl
each_spelled w.Src = refl
each_spelled w.Dst = refl
each_spelled w.Id = refl
each_spelled w.Value = refl
each_spelled w.Gathered = refl
each_spelled w.Outdeg = refl
each_spelled w.Edge = refl
each_spelled w.Node = refl
each_spelled w.If = refl
each_spelled w.Then = refl
each_spelled w.Else = refl
each_spelled w.Form = refl
each_spelled w.Insert = refl
each_spelled w.Remove = refl
each_spelled w.Tree = refl
each_spelled w.Group = refl
each_spelled w.By = refl
each_spelled w.Aggregate = refl
each_spelled w.Phases = refl
each_spelled w.Changes = refl
each_spelled w.Replay = refl

none_spelled : (ws : List Word) (bytes : List ℕ) → IsNotReserved bytes → is_spelled ws bytes ≡ false
none_spelled [] bytes h = refl
none_spelled (w ∷ ws) bytes h =
    or_false (bytes_eq bytes (word_spelling w)) (is_spelled ws bytes) (λ e. let d = bytes_eq-Decides bytes (word_spelling w) in h w (d.0 e)) (none_spelled ws bytes h)

not_spelled : (bytes : List ℕ) → not (is_spelled reserved_words bytes) ≡ true → IsNotReserved bytes
not_spelled bytes h w e = let no : is_spelled reserved_words bytes ≡ true = ap (is_spelled reserved_words) e ∙ each_spelled w in absurd (let f : false ≡ true = ap not (sym no) ∙ h in cc)

-- ---- shapes

shaped : (bytes : List ℕ) → is_word_shaped bytes ≡ true → IsWordShaped bytes
shaped [] h = absurd cc
shaped (b ∷ bs) h = both (begins_name b) (list_all in_name bs) h

shape_is : (bytes : List ℕ) → IsWordShaped bytes → is_word_shaped bytes ≡ true
shape_is [] h = absurd h
shape_is (b ∷ bs) h = both_true (begins_name b) (list_all in_name bs) h.0 h.1

-- ---- names

pub name_tested : (bytes : List ℕ) → is_name bytes ≡ true → IsName bytes
name_tested bytes h = let k = both (is_word_shaped bytes) (not (is_spelled reserved_words bytes)) h in (shaped bytes k.0, not_spelled bytes k.1)

pub name_is : (bytes : List ℕ) → IsName bytes → is_name bytes ≡ true
name_is bytes h = both_true (is_word_shaped bytes) (not (is_spelled reserved_words bytes)) (shape_is bytes h.0) (ap not (none_spelled reserved_words bytes h.1))

-- a test that answers so is this one
pub same_test : (x : Bool) (bytes : List ℕ) → (IsTrue x ↔ IsName bytes) → x ≡ is_name bytes
same_test true bytes h = sym (name_is bytes (h.0 refl))
same_test false bytes h = elim (decided (is_name bytes)) [ inl e ↦ absurd (let no : false ≡ true = h.1 (name_tested bytes e) in cc) | inr e ↦ sym e ]

-- ---- a name is ASCII

pub small_name : (b : ℕ) → in_name b ≡ true → b < 128
small_name b h = grind (arith, nat_tests)

small_first : (b : ℕ) → begins_name b ≡ true → b < 128
small_first b h = grind (arith, nat_tests)

each_small : (s : List ℕ) (i : ℕ) → list_all in_name s ≡ true → get_or s i 0 < 128
each_small [] i h = omega arith
each_small (b ∷ s) zero h = let k = both (in_name b) (list_all in_name s) h in small_name b k.0
each_small (b ∷ s) (suc i) h = let k = both (in_name b) (list_all in_name s) h in each_small s i k.1

shaped_small : (s : List ℕ) (i : ℕ) → IsWordShaped s → get_or s i 0 < 128
shaped_small [] i h = absurd h
shaped_small (b ∷ s) zero h = small_first b h.0
shaped_small (b ∷ s) (suc i) h = each_small s i h.1

pub shaped_utf8 : (bytes : List ℕ) → IsWordShaped bytes → IsUtf8 bytes
shaped_utf8 bytes h = IsUtf8-from_ascii bytes (λ i. shaped_small bytes i h)

pub name_utf8 : (bytes : List ℕ) → IsName bytes → IsUtf8 bytes
name_utf8 bytes h = shaped_utf8 bytes h.0
