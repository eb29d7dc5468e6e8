-- What is left of a text behind characters of its own.
use Rattle.std.proofs.Common.{◌≡◌, inl, inr, ◌<◌, ℕ, zero, suc, Bool, true, List, [], ◌∷◌, ◌++◌, length, drop, get_or, refl, sym, ap, subst, ◌∙◌, append_assoc, length-append, arith}
use Rattle.std.specs.Prelude.{◌==◌, nat_eq}
use Rattle.std.specs.List.{concat, list_all, starts_with}
use Rattle.std.specs.Str.{IsUtf8}
use Rattle.std.proofs.lemmas.Bool.Decides.{nat_tests, Decides-eqb}
use Rattle.std.proofs.lemmas.List.{take_at, drop_at, get_or_at}
use Rattle.std.proofs.lemmas.Str.{IsUtf8-append, IsUtf8-drop, IsUtf8-take, IsUtf8-from_ascii, IsCharBoundary-after_ascii, IsCharBoundary-before_ascii, IsUtf8-past_char}
use Rattle.std.proofs.lemmas.Slice.Eq.{starts_is}
use lib.Utf8.{encode}
use Rattle.gvdl_tokens.specs.declared.token.Token.{Token}
use Rattle.gvdl_tokens.specs.declared.token.Token.TheVariants as t
use Rattle.gvdl_tokens.specs.declared.token.Sign.{Sign}
use Rattle.gvdl_tokens.specs.declared.token.Sign.TheVariants as sign
use Rattle.gvdl_tokens.specs.Characters.{is_blank, is_digit, in_name, IsSkipped, AreSkipped, IsGap}
use Rattle.gvdl_tokens.specs.Spelling.{doubled, enclosed, word_spelling, sign_spelling}
use Rattle.gvdl_tokens.specs.Tokens.{IsAtFront, byte_order_mark}
use Rattle.gvdl_tokens.specs.Reading.{Closes}
use Rattle.gvdl_tokens.proofs.Runs.{both}
use Rattle.gvdl_tokens.proofs.Enclosing.{decided, is_quote, doubled_quote, doubled_other}
use Rattle.gvdl_tokens.proofs.Fronts.{all_in_name, all_digits, regrouped}
use Rattle.gvdl_tokens.proofs.Words.{word_shaped}

small_name : (b : ℕ) → in_name b ≡ true → b < 128
small_name b h = grind (arith, nat_tests)

past_one : (b : ℕ) (bs : List ℕ) → b < 128 → IsUtf8 (b ∷ bs) → IsUtf8 bs
past_one b bs lt u = IsUtf8-drop (b ∷ bs) 1 u (IsCharBoundary-after_ascii (b ∷ bs) 0 u (omega arith) lt)

small_digit : (b : ℕ) → is_digit b ≡ true → b < 128
small_digit b h = grind (arith, nat_tests)

small_blank : (b : ℕ) → is_blank b ≡ true → b < 128
small_blank b h = grind (arith, nat_tests)

past_run : (p : ℕ → Bool) → ((b : ℕ) → p b ≡ true → b < 128) → (s r : List ℕ) → list_all p s ≡ true → IsUtf8 (s ++ r) → IsUtf8 r
past_run p small [] r h u = u
past_run p small (b ∷ s) r h u = let k = both (p b) (list_all p s) h in past_run p small s r k.1 (past_one b (s ++ r) (small b k.0) u)

each_small : (s : List ℕ) (i : ℕ) → list_all in_name s ≡ true → get_or s i 0 < 128
each_small [] i h = omega arith
each_small (b ∷ s) zero h = let k = both (in_name b) (list_all in_name s) h in small_name b k.0
each_small (b ∷ s) (suc i) h = let k = both (in_name b) (list_all in_name s) h in each_small s i k.1

pub name_utf8 : (s : List ℕ) → list_all in_name s ≡ true → IsUtf8 s
name_utf8 s h = IsUtf8-from_ascii s (λ i. each_small s i h)

-- a text cut at a character of its own
module _ (q : ℕ) (small : q < 128) (s rest : List ℕ) (u : IsUtf8 (s ++ q ∷ rest)) where
  inside : length s < length (s ++ q ∷ rest)
  inside = omega (arith, length-append s (q ∷ rest))

  at_cut : get_or (s ++ q ∷ rest) (length s) 0 < 128
  at_cut = rw (get_or_at s q rest 0 (length s) refl) small

  pub before_cut : IsUtf8 s
  before_cut = subst IsUtf8 (take_at s (q ∷ rest) (length s) refl) (IsUtf8-take (s ++ q ∷ rest) (length s) u (IsCharBoundary-before_ascii (s ++ q ∷ rest) (length s) inside at_cut))

  pub from_cut : IsUtf8 (q ∷ rest)
  from_cut = subst IsUtf8 (drop_at s (q ∷ rest) (length s) refl) (IsUtf8-drop (s ++ q ∷ rest) (length s) u (IsCharBoundary-before_ascii (s ++ q ∷ rest) (length s) inside at_cut))

one_small : (b : ℕ) → b < 128 → (i : ℕ) → get_or (b ∷ []) i 0 < 128
one_small b lt zero = lt
one_small b lt (suc i) = omega arith

-- quotes that stand for one are a character each
module _ (q : ℕ) (small : q < 128) where
  undoubled : (s content : List ℕ) → IsUtf8 (s ++ doubled q content) → IsUtf8 (s ++ content)
  undoubled s [] u = u
  undoubled s (b ∷ content) u = elim (decided (b == q)) [
    | inl h ↦
        let is : b ≡ q = is_quote b q h in
        let lt : b < 128 = subst (λ (x : ℕ). x < 128) (sym is) small in
        let v : IsUtf8 (s ++ b ∷ b ∷ doubled q content) = subst (λ (x : List ℕ). IsUtf8 (s ++ x)) (doubled_quote q b content h) u in
        let left : IsUtf8 (doubled q content) = past_one b (doubled q content) lt (past_one b (b ∷ doubled q content) lt (from_cut b lt s (b ∷ doubled q content) v)) in
        let one : IsUtf8 (b ∷ []) = IsUtf8-from_ascii (b ∷ []) (one_small b lt) in
        IsUtf8-append s (b ∷ content) (before_cut b lt s (b ∷ doubled q content) v) (IsUtf8-append (b ∷ []) content one (undoubled [] content left))
    | inr h ↦
        let v : IsUtf8 (s ++ b ∷ doubled q content) = subst (λ (x : List ℕ). IsUtf8 (s ++ x)) (doubled_other q b content h) u in
        subst IsUtf8 (append_assoc s (b ∷ []) content) (undoubled (s ++ b ∷ []) content (subst IsUtf8 (sym (append_assoc s (b ∷ []) (doubled q content))) v))
  ]

pub content_utf8 : (q : ℕ) (bs content rest : List ℕ) → q < 128 → Closes q bs content rest → IsUtf8 (q ∷ bs) → IsUtf8 content
content_utf8 q bs content rest small c u =
    undoubled q small [] content (before_cut q small (doubled q content) rest (subst IsUtf8 c.split (past_one q bs small u)))

-- ---- behind a token

past_sign : (s : Sign) (rest : List ℕ) → IsUtf8 (sign_spelling s ++ rest) → IsUtf8 rest
past_sign sign.Semicolon rest u = past_one 59 rest (omega arith) u
past_sign sign.Comma rest u = past_one 44 rest (omega arith) u
past_sign sign.Colon rest u = past_one 58 rest (omega arith) u
past_sign sign.Dot rest u = past_one 46 rest (omega arith) u
past_sign sign.Open rest u = past_one 40 rest (omega arith) u
past_sign sign.Close rest u = past_one 41 rest (omega arith) u
past_sign sign.OpenBracket rest u = past_one 91 rest (omega arith) u
past_sign sign.CloseBracket rest u = past_one 93 rest (omega arith) u
past_sign sign.OpenBrace rest u = past_one 123 rest (omega arith) u
past_sign sign.CloseBrace rest u = past_one 125 rest (omega arith) u
past_sign sign.Plus rest u = past_one 43 rest (omega arith) u
past_sign sign.Minus rest u = past_one 45 rest (omega arith) u
past_sign sign.Star rest u = past_one 42 rest (omega arith) u
past_sign sign.Slash rest u = past_one 47 rest (omega arith) u
past_sign sign.Equal rest u = past_one 61 rest (omega arith) u
past_sign sign.NotEqual rest u = past_one 61 rest (omega arith) (past_one 33 (61 ∷ rest) (omega arith) u)
past_sign sign.Less rest u = past_one 60 rest (omega arith) u
past_sign sign.AtMost rest u = past_one 61 rest (omega arith) (past_one 60 (61 ∷ rest) (omega arith) u)
past_sign sign.Greater rest u = past_one 62 rest (omega arith) u
past_sign sign.AtLeast rest u = past_one 61 rest (omega arith) (past_one 62 (61 ∷ rest) (omega arith) u)

past_enclosed : (q : ℕ) (content rest : List ℕ) → q < 128 → IsUtf8 (enclosed q content ++ rest) → IsUtf8 rest
past_enclosed q content rest small u =
    past_one q rest small (from_cut q small (q ∷ doubled q content) rest (subst IsUtf8 (regrouped q content rest) u))

pub past_token : (token : Token) (bytes rest : List ℕ) → IsAtFront token bytes rest → IsUtf8 bytes → IsUtf8 rest
past_token (t.Name name) bytes rest f u = let h = f.spells in let n = h.1 in past_run in_name small_name f.spelling rest (all_in_name f.spelling n.0) (subst IsUtf8 f.split u)
past_token (t.Quoted s) bytes rest f u = let h = f.spells in past_enclosed 34 s rest (omega arith) (subst IsUtf8 (f.split ∙ ap (λ (x : List ℕ). x ++ rest) h.0) u)
past_token (t.Number n) bytes rest f u = let h = f.spells in past_run is_digit small_digit f.spelling rest (all_digits f.spelling h.0) (subst IsUtf8 f.split u)
past_token (t.Str s) bytes rest f u = past_enclosed 39 s rest (omega arith) (subst IsUtf8 (f.split ∙ ap (λ (x : List ℕ). x ++ rest) f.spells) u)
past_token (t.Word w) bytes rest f u =
    past_run in_name small_name f.spelling rest (subst (λ (x : List ℕ). list_all in_name x ≡ true) (sym f.spells) (all_in_name (word_spelling w) (word_shaped w))) (subst IsUtf8 f.split u)
past_token (t.Sign s) bytes rest f u = past_sign s rest (subst IsUtf8 (f.split ∙ ap (λ (x : List ℕ). x ++ rest) f.spells) u)
past_token t.End bytes rest f u = absurd f.spells

-- ---- behind a gap

past_piece : (piece rest : List ℕ) → IsSkipped piece → IsUtf8 (piece ++ rest) → IsUtf8 rest
past_piece piece rest (inl x) u = past_one x.0 rest (small_blank x.0 x.2) (subst (λ (y : List ℕ). IsUtf8 (y ++ rest)) x.1 u)
past_piece piece rest (inr x) u =
    past_one 10 rest (omega arith) (from_cut 10 (omega arith) x.0 rest (subst IsUtf8 (ap (λ (y : List ℕ). y ++ rest) x.1 ∙ append_assoc x.0 (10 ∷ []) rest) u))

past_pieces : (pieces : List (List ℕ)) (rest : List ℕ) → AreSkipped pieces → IsUtf8 (concat pieces ++ rest) → IsUtf8 rest
past_pieces [] rest h u = u
past_pieces (piece ∷ pieces) rest h u = past_pieces pieces rest h.1 (past_piece piece (concat pieces ++ rest) h.0 (subst IsUtf8 (append_assoc piece (concat pieces) rest) u))

pub past_gap : (bytes gap rest : List ℕ) → bytes ≡ gap ++ rest → IsGap gap → IsUtf8 bytes → IsUtf8 rest
past_gap bytes gap rest e g u = past_pieces g.pieces rest g.skipped (subst IsUtf8 (e ∙ ap (λ (x : List ℕ). x ++ rest) g.whole) u)

-- ---- behind a byte order mark

pub marked : (text : List ℕ) → starts_with nat_eq text byte_order_mark ≡ true → text ≡ byte_order_mark ++ drop 3 text
marked text h = let s = starts_is Decides-eqb text byte_order_mark true (sym h) in s.0 refl

mark_encoded : encode 0xFEFF ≡ byte_order_mark
unfolding encode
mark_encoded = refl

pub past_mark : (text : List ℕ) → starts_with nat_eq text byte_order_mark ≡ true → IsUtf8 text → IsUtf8 (drop 3 text)
past_mark text h u = IsUtf8-past_char text (drop 3 text) 0xFEFF u (marked text h ∙ ap (λ (x : List ℕ). x ++ drop 3 text) (sym mark_encoded))
