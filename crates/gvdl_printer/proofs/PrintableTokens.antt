-- The tokens of a text can be spelled: what stands in a name or between quotes is UTF-8, since the text is.
use Rattle.std.proofs.Common.{◌≡◌, ◌∙◌, inl, inr, ◌<◌, ◌^◌, ℕ, Bool, true, false, List, [], ◌∷◌, ◌++◌, length, take, drop, get_or, refl, sym, ap, subst, append_assoc, length-append, arith}
use Rattle.std.specs.Prelude.{◌&&◌, nat_eq, if◌then◌else◌}
use Rattle.std.specs.List.{concat, list_all, starts_with}
use Rattle.std.specs.Str.{IsUtf8}
use Rattle.std.specs.Fmt.{decimal}
use Rattle.std.proofs.lemmas.Bool.Decides.{nat_tests, Decides-eqb}
use Rattle.std.proofs.lemmas.List.{take_at, drop_at, get_or_at}
use Rattle.std.proofs.lemmas.Str.{IsUtf8-drop, IsUtf8-take, IsUtf8-from_ascii, IsCharBoundary-after_ascii, IsCharBoundary-before_ascii, IsCharBoundary-at_seam, IsUtf8-past_char}
use Rattle.std.proofs.lemmas.Slice.Eq.{starts_is}
use Rattle.std.proofs.lemmas.Fmt.{IsAscii-decimal}
use lib.Utf8.{encode}
use Rattle.gvdl_tokens.specs.declared.token.Token.{Token}
use Rattle.gvdl_tokens.specs.declared.token.Token.TheVariants as t
use Rattle.gvdl_tokens.specs.declared.token.Sign.{Sign}
use Rattle.gvdl_tokens.specs.declared.token.Sign.TheVariants as sign
use Rattle.gvdl_tokens.specs.declared.word.Word.{Word}
use Rattle.gvdl_tokens.specs.declared.word.Word.TheVariants as word
use Rattle.gvdl_tokens.specs.declared.place.Place.{Place}
use Rattle.gvdl_tokens.specs.declared.tokens.Ending.{Ending}
use Rattle.gvdl_tokens.specs.declared.tokens.Tokens.{Tokens}
use Rattle.gvdl_tokens.specs.Characters.{is_blank, is_digit, in_name, IsSkipped, AreSkipped, IsGap}
use Rattle.gvdl_tokens.specs.Spelling.{doubled, enclosed, word_spelling, sign_spelling, IsWordShaped, IsDigits, Spells}
use Rattle.gvdl_tokens.specs.Tokens.{IsAtFront, Lexes, HasTokens, byte_order_mark, unmarked}
use Rattle.gvdl_tokens.specs.Printing.{spell, IsPrintable, ArePrintable}
use Rattle.gvdl_printer.proofs.NameTests.{decided, both, small_name}

and_true : (x y : Bool) → x ≡ true → y ≡ true → (x && y) ≡ true
and_true true y h k = k
and_true false y h k = absurd cc

past_one : (b : ℕ) (bs : List ℕ) → b < 128 → IsUtf8 (b ∷ bs) → IsUtf8 bs
past_one b bs lt u = IsUtf8-drop (b ∷ bs) 1 u (IsCharBoundary-after_ascii (b ∷ bs) 0 u (omega arith) lt)

small_digit : (b : ℕ) → is_digit b ≡ true → b < 128
small_digit b h = grind (arith, nat_tests)

small_blank : (b : ℕ) → is_blank b ≡ true → b < 128
small_blank b h = grind (arith, nat_tests)

past_run : (p : ℕ → Bool) → ((b : ℕ) → p b ≡ true → b < 128) → (s r : List ℕ) → list_all p s ≡ true → IsUtf8 (s ++ r) → IsUtf8 r
past_run p small [] r h u = u
past_run p small (b ∷ s) r h u = let k = both (p b) (list_all p s) h in past_run p small s r k.1 (past_one b (s ++ r) (small b k.0) u)

all_in_name : (s : List ℕ) → IsWordShaped s → list_all in_name s ≡ true
all_in_name [] h = absurd h
all_in_name (b ∷ s) h = and_true (in_name b) (list_all in_name s) (grind (arith, nat_tests, h.0)) h.1

all_digits : (s : List ℕ) → IsDigits s → list_all is_digit s ≡ true
all_digits [] h = absurd h
all_digits (x ∷ xs) h = and_true (is_digit x) (list_all is_digit xs) h.0 h.1

word_in_name : (w : Word) → list_all in_name (word_spelling w) ≡ true
word_in_name word.Load = refl
word_in_name word.Graph = refl
word_in_name word.Nodes = refl
word_in_name word.Edges = refl
word_in_name word.Create = refl
word_in_name word.View = refl
word_in_name word.Collection = refl
word_in_name word.On = refl
word_in_name word.Where = refl
word_in_name word.Window = refl
word_in_name word.From = refl
word_in_name word.To = refl
word_in_name word.Width = refl
word_in_name word.Step = refl
word_in_name word.Program = refl
word_in_name word.Along = refl
word_in_name word.Out = refl
word_in_name word.In = refl
word_in_name word.Both = refl
word_in_name word.Start = refl
word_in_name word.Send = refl
word_in_name word.Gather = refl
word_in_name word.Update = refl
word_in_name word.Min = refl
word_in_name word.Max = refl
word_in_name word.Sum = refl
word_in_name word.Count = refl
word_in_name word.Run = refl
word_in_name word.Within = refl
word_in_name word.For = refl
word_in_name word.Rounds = refl
word_in_name word.Round = refl
word_in_name word.Order = refl
word_in_name word.Greedy = refl
word_in_name word.Declared = refl
word_in_name word.Split = refl
word_in_name word.None = refl
word_in_name word.Every = refl
word_in_name word.Auto = refl
word_in_name word.Keep = refl
word_in_name word.As = refl
word_in_name word.Append = refl
word_in_name word.Show = refl
word_in_name word.Work = refl
word_in_name word.And = refl
word_in_name word.Or = refl
word_in_name word.Not = refl
word_in_name word.Is = refl
word_in_name word.Absent = refl
word_in_name word.True = refl
word_in_name word.False = refl
word_in_name word.Src = refl
word_in_name word.Dst = refl
word_in_name word.Id = refl
word_in_name word.Value = refl
word_in_name word.Gathered = refl
word_in_name word.Outdeg = refl
word_in_name word.Edge = refl
word_in_name word.Node = refl
word_in_name word.If = refl
word_in_name word.Then = refl
word_in_name word.Else = refl
word_in_name word.Form = refl
word_in_name word.Insert = refl
word_in_name word.Remove = refl
word_in_name word.Tree = refl
word_in_name word.Group = refl
word_in_name word.By = refl
word_in_name word.Aggregate = refl
word_in_name word.Phases = refl
word_in_name word.Changes = refl
word_in_name word.Replay = refl

-- a text cut at a character of its own
module _ (q : ℕ) (small : q < 128) (s rest : List ℕ) (u : IsUtf8 (s ++ q ∷ rest)) where
  inside : length s < length (s ++ q ∷ rest)
  inside = omega (arith, length-append s (q ∷ rest))

  at_cut : get_or (s ++ q ∷ rest) (length s) 0 < 128
  at_cut = rw (get_or_at s q rest 0 (length s) refl) small

  before_cut : IsUtf8 s
  before_cut = subst IsUtf8 (take_at s (q ∷ rest) (length s) refl) (IsUtf8-take (s ++ q ∷ rest) (length s) u (IsCharBoundary-before_ascii (s ++ q ∷ rest) (length s) inside at_cut))

  from_cut : IsUtf8 (q ∷ rest)
  from_cut = subst IsUtf8 (drop_at s (q ∷ rest) (length s) refl) (IsUtf8-drop (s ++ q ∷ rest) (length s) u (IsCharBoundary-before_ascii (s ++ q ∷ rest) (length s) inside at_cut))

-- ---- behind a token

past_sign : (s : Sign) (rest : List ℕ) → IsUtf8 (sign_spelling s ++ rest) → IsUtf8 rest
past_sign sign.Semicolon rest u = past_one 59 rest (omega arith) u
past_sign sign.Comma rest u = past_one 44 rest (omega arith) u
past_sign sign.Colon rest u = past_one 58 rest (omega arith) u
past_sign sign.Dot rest u = past_one 46 rest (omega arith) u
past_sign sign.Open rest u = past_one 40 rest (omega arith) u
past_sign sign.Close rest u = past_one 41 rest (omega arith) u
past_sign sign.OpenBracket rest u = past_one 91 rest (omega arith) u
past_sign sign.CloseBracket rest u = past_one 93 rest (omega arith) u
past_sign sign.OpenBrace rest u = past_one 123 rest (omega arith) u
past_sign sign.CloseBrace rest u = past_one 125 rest (omega arith) u
past_sign sign.Plus rest u = past_one 43 rest (omega arith) u
past_sign sign.Minus rest u = past_one 45 rest (omega arith) u
past_sign sign.Star rest u = past_one 42 rest (omega arith) u
past_sign sign.Slash rest u = past_one 47 rest (omega arith) u
past_sign sign.Equal rest u = past_one 61 rest (omega arith) u
past_sign sign.NotEqual rest u = past_one 61 rest (omega arith) (past_one 33 (61 ∷ rest) (omega arith) u)
past_sign sign.Less rest u = past_one 60 rest (omega arith) u
past_sign sign.AtMost rest u = past_one 61 rest (omega arith) (past_one 60 (61 ∷ rest) (omega arith) u)
past_sign sign.Greater rest u = past_one 62 rest (omega arith) u
past_sign sign.AtLeast rest u = past_one 61 rest (omega arith) (past_one 62 (61 ∷ rest) (omega arith) u)

past_enclosed : (q : ℕ) (content rest : List ℕ) → q < 128 → IsUtf8 (enclosed q content ++ rest) → IsUtf8 rest
past_enclosed q content rest small u =
    past_one q rest small (from_cut q small (q ∷ doubled q content) rest (subst IsUtf8 (ap (λ (x : List ℕ). q ∷ x) (append_assoc (doubled q content) (q ∷ []) rest)) u))

past_token : (token : Token) (bytes rest : List ℕ) → IsAtFront token bytes rest → IsUtf8 bytes → IsUtf8 rest
past_token (t.Name name) bytes rest f u = let h = f.spells in let n = h.1 in past_run in_name small_name f.spelling rest (all_in_name f.spelling n.0) (subst IsUtf8 f.split u)
past_token (t.Quoted s) bytes rest f u = let h = f.spells in past_enclosed 34 s rest (omega arith) (subst IsUtf8 (f.split ∙ ap (λ (x : List ℕ). x ++ rest) h.0) u)
past_token (t.Number n) bytes rest f u = let h = f.spells in past_run is_digit small_digit f.spelling rest (all_digits f.spelling h.0) (subst IsUtf8 f.split u)
past_token (t.Str s) bytes rest f u = past_enclosed 39 s rest (omega arith) (subst IsUtf8 (f.split ∙ ap (λ (x : List ℕ). x ++ rest) f.spells) u)
past_token (t.Word w) bytes rest f u =
    past_run in_name small_name f.spelling rest (subst (λ (x : List ℕ). list_all in_name x ≡ true) (sym f.spells) (word_in_name w)) (subst IsUtf8 f.split u)
past_token (t.Sign s) bytes rest f u = past_sign s rest (subst IsUtf8 (f.split ∙ ap (λ (x : List ℕ). x ++ rest) f.spells) u)
past_token t.End bytes rest f u = absurd f.spells

-- ---- behind a gap

past_piece : (piece rest : List ℕ) → IsSkipped piece → IsUtf8 (piece ++ rest) → IsUtf8 rest
past_piece piece rest (inl x) u = past_one x.0 rest (small_blank x.0 x.2) (subst (λ (y : List ℕ). IsUtf8 (y ++ rest)) x.1 u)
past_piece piece rest (inr x) u =
    past_one 10 rest (omega arith) (from_cut 10 (omega arith) x.0 rest (subst IsUtf8 (ap (λ (y : List ℕ). y ++ rest) x.1 ∙ append_assoc x.0 (10 ∷ []) rest) u))

past_pieces : (pieces : List (List ℕ)) (rest : List ℕ) → AreSkipped pieces → IsUtf8 (concat pieces ++ rest) → IsUtf8 rest
past_pieces [] rest h u = u
past_pieces (piece ∷ pieces) rest h u = past_pieces pieces rest h.1 (past_piece piece (concat pieces ++ rest) h.0 (subst IsUtf8 (append_assoc piece (concat pieces) rest) u))

past_gap : (bytes gap rest : List ℕ) → bytes ≡ gap ++ rest → IsGap gap → IsUtf8 bytes → IsUtf8 rest
past_gap bytes gap rest e g u = past_pieces g.pieces rest g.skipped (subst IsUtf8 (e ∙ ap (λ (x : List ℕ). x ++ rest) g.whole) u)

-- ---- behind a byte order mark

marked : (text : List ℕ) → starts_with nat_eq text byte_order_mark ≡ true → text ≡ byte_order_mark ++ drop 3 text
marked text h = let s = starts_is Decides-eqb text byte_order_mark true (sym h) in s.0 refl

mark_encoded : encode 0xFEFF ≡ byte_order_mark
unfolding encode
mark_encoded = refl

past_mark : (text : List ℕ) → starts_with nat_eq text byte_order_mark ≡ true → IsUtf8 text → IsUtf8 (drop 3 text)
past_mark text h u = IsUtf8-past_char text (drop 3 text) 0xFEFF u (marked text h ∙ ap (λ (x : List ℕ). x ++ drop 3 text) (sym mark_encoded))

-- ---- what is read can be spelled

spell_utf8 : (token : Token) (spelling : List ℕ) → Spells token spelling → IsUtf8 spelling → IsUtf8 (spell token)
spell_utf8 (t.Name name) spelling h u = subst IsUtf8 h.0 u
spell_utf8 (t.Quoted name) spelling h u = subst IsUtf8 h.0 u
spell_utf8 (t.Number n) spelling h u = let small : n < 2 ^ 63 = h.2 in IsUtf8-from_ascii (decimal n) (IsAscii-decimal n (omega arith))
spell_utf8 (t.Str s) spelling h u = subst IsUtf8 h u
spell_utf8 (t.Word w) spelling h u = subst IsUtf8 h u
spell_utf8 (t.Sign s) spelling h u = subst IsUtf8 h u
spell_utf8 t.End spelling h u = absurd h

front_utf8 : (token : Token) (bytes rest : List ℕ) (f : IsAtFront token bytes rest) → IsUtf8 bytes → IsUtf8 f.spelling
front_utf8 token bytes rest f u =
    subst IsUtf8 (ap (take (length f.spelling)) f.split ∙ take_at f.spelling rest (length f.spelling) refl)
    (IsUtf8-take bytes (length f.spelling) u (IsCharBoundary-at_seam bytes f.spelling rest f.split (past_token token bytes rest f u)))

printable : (token : Token) (bytes rest : List ℕ) → IsAtFront token bytes rest → IsUtf8 bytes → IsPrintable token
printable token bytes rest f u = record { bytes = f.spelling; spelled = f.spells; utf8 = spell_utf8 token f.spelling f.spells (front_utf8 token bytes rest f u) }

are_printable : (before bytes : List ℕ) (tokens : List Token) (places : List Place) (end : Ending) → IsUtf8 bytes → Lexes before bytes tokens places end → ArePrintable tokens
are_printable before bytes [] places end u l = tt
are_printable before bytes (token ∷ tokens) [] end u l = absurd l
are_printable before bytes (token ∷ tokens) (p ∷ places) end u l =
    let n = l.1 in
    let v : IsUtf8 n.behind = past_gap bytes n.gap n.behind n.split n.skipped u in
    (printable token n.behind l.0 n.front v, are_printable (before ++ n.gap ++ n.front.spelling) l.0 tokens places end (past_token token n.behind l.0 n.front v) l.3)

unmarked_utf8 : (text : List ℕ) → IsUtf8 text → IsUtf8 (unmarked text)
unmarked_utf8 text u = elim (decided (starts_with nat_eq text byte_order_mark)) [
  | inl h ↦ subst (λ (x : Bool). IsUtf8 (if x then drop 3 text else text)) (sym h) (past_mark text h u)
  | inr h ↦ subst (λ (x : Bool). IsUtf8 (if x then drop 3 text else text)) (sym h) u
]

pub tokens_printable : (text : List ℕ) (all : Tokens) → HasTokens text all → ArePrintable all.tokens
tokens_printable text all has = are_printable [] (unmarked text) all.tokens all.places all.ending (unmarked_utf8 text has.utf8) has.lexed
