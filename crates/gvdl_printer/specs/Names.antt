-- Whether a text is a name, by computing.
use Rattle.std.specs.Prelude.{ℕ, Bool, false, not, ◌&&◌, List, [], ◌∷◌, bytes_eq}
use Rattle.std.specs.List.{list_all, list_any}
use Rattle.gvdl_tokens.specs.declared.word.Word.{Word}
use Rattle.gvdl_tokens.specs.declared.word.Word.TheVariants as w
use Rattle.gvdl_tokens.specs.Characters.{begins_name, in_name}
use Rattle.gvdl_tokens.specs.Spelling.{word_spelling}

abbrev pub reserved_words : List Word
reserved_words = w.Load ∷ w.Graph ∷ w.Nodes ∷ w.Edges ∷ w.Create ∷ w.View ∷ w.Collection ∷ w.On ∷ w.Where ∷ w.Window ∷ w.From ∷ w.To
    ∷ w.Width ∷ w.Step ∷ w.Program ∷ w.Along ∷ w.Out ∷ w.In ∷ w.Both ∷ w.Start ∷ w.Send ∷ w.Gather ∷ w.Update ∷ w.Min
    ∷ w.Max ∷ w.Sum ∷ w.Count ∷ w.Run ∷ w.Within ∷ w.For ∷ w.Rounds ∷ w.Round ∷ w.Order ∷ w.Greedy ∷ w.Declared ∷ w.Split
    ∷ w.None ∷ w.Every ∷ w.Auto ∷ w.Keep ∷ w.As ∷ w.Append ∷ w.Show ∷ w.Work ∷ w.And ∷ w.Or ∷ w.Not ∷ w.Is
    ∷ w.Absent ∷ w.True ∷ w.False ∷ w.Src ∷ w.Dst ∷ w.Id ∷ w.Value ∷ w.Gathered ∷ w.Outdeg ∷ w.Edge ∷ w.Node ∷ w.If
    ∷ w.Then ∷ w.Else ∷ w.Form ∷ w.Insert ∷ w.Remove ∷ w.Tree ∷ w.Group ∷ w.By ∷ w.Aggregate ∷ w.Phases ∷ w.Changes ∷ w.Replay ∷ []

-- whether one of these words is spelled so
abbrev pub is_spelled : List Word → List ℕ → Bool
is_spelled words bytes = list_any (λ w. bytes_eq bytes (word_spelling w)) words

-- a letter or _, and then letters, digits, _ and -
abbrev pub is_word_shaped : List ℕ → Bool
is_word_shaped [] = false
is_word_shaped (b ∷ bs) = begins_name b && list_all in_name bs

-- the shape of a word, and none of the reserved ones
abbrev pub is_name : List ℕ → Bool
is_name bytes = is_word_shaped bytes && not (is_spelled reserved_words bytes)
