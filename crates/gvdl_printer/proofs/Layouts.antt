-- Lines of pieces are tokens that are laid out with gaps.
use Rattle.std.proofs.Common.{◌≡◌, ◌≢◌, ◌∙◌, ◌⊎◌, ◌<◌, ℕ, zero, suc, Bool, true, false, List, [], ◌∷◌, ◌++◌, map, get_or, refl, sym, ap, inl, inr, append_assoc, arith}
use Rattle.std.specs.Prelude.{◌||◌}
use Rattle.std.specs.List.{flat_map}
use Rattle.std.specs.Str.{IsUtf8}
use Rattle.std.proofs.lemmas.Str.{IsUtf8-from_ascii}
use Rattle.gvdl_tokens.specs.declared.token.Token.{Token}
use Rattle.gvdl_tokens.specs.declared.token.Token.TheVariants as t
use Rattle.gvdl_tokens.specs.declared.token.Sign.{Sign}
use Rattle.gvdl_tokens.specs.declared.token.Sign.TheVariants as s
use Rattle.gvdl_tokens.specs.Characters.{IsGap}
use Rattle.gvdl_tokens.specs.Printing.{spell, ArePrintable, needs_gap, Laid, text_of, IsApart, IsLayout, IsLast, stands_close, is_closed}
use Rattle.gvdl_printer.specs.Layout.{Piece, tokens, is_close_before, is_close_behind, starts_close, ends_close, space_unless, laid, line}

-- ---- gaps

none_utf8 : IsUtf8 []
none_utf8 = IsUtf8-from_ascii [] (λ i. omega arith)

pub one_utf8 : (b : ℕ) → b < 128 → IsUtf8 (b ∷ [])
one_utf8 b lt = IsUtf8-from_ascii (b ∷ []) small where
  small : (i : ℕ) → get_or (b ∷ []) i 0 < 128
  small zero = lt
  small (suc i) = omega arith

no_gap : IsGap []
no_gap = record { pieces = []; whole = refl; skipped = tt }

space_gap : IsGap (32 ∷ [])
space_gap = record { pieces = (32 ∷ []) ∷ []; whole = refl; skipped = (inl (32, refl, refl), tt) }

line_gap : IsGap (10 ∷ [])
line_gap = record { pieces = (10 ∷ []) ∷ []; whole = refl; skipped = (inl (10, refl, refl), tt) }

spaced_gap : (close : Bool) → IsGap (space_unless close) × IsUtf8 (space_unless close)
spaced_gap true = (no_gap, none_utf8)
spaced_gap false = (space_gap, one_utf8 32 (omega arith))

-- ---- where no space stands, none is needed

close_sign : (s : Sign) (tight : Bool) → is_close_before s tight ≡ true → stands_close s ≡ true
close_sign s.Semicolon tight h = refl
close_sign s.Comma tight h = refl
close_sign s.Colon tight h = refl
close_sign s.Dot tight h = refl
close_sign s.Open tight h = refl
close_sign s.Close tight h = refl
close_sign s.OpenBracket tight h = refl
close_sign s.CloseBracket tight h = refl
close_sign s.OpenBrace tight h = refl
close_sign s.CloseBrace tight h = refl
close_sign s.Plus tight h = refl
close_sign s.Minus tight h = absurd cc
close_sign s.Star tight h = refl
close_sign s.Slash tight h = refl
close_sign s.Equal tight h = absurd cc
close_sign s.NotEqual tight h = refl
close_sign s.Less tight h = refl
close_sign s.AtMost tight h = refl
close_sign s.Greater tight h = refl
close_sign s.AtLeast tight h = refl

closed_sign : (s : Sign) (tight : Bool) → is_close_behind s tight ≡ true → is_closed s ≡ true
closed_sign s.Semicolon tight h = refl
closed_sign s.Comma tight h = refl
closed_sign s.Colon tight h = refl
closed_sign s.Dot tight h = refl
closed_sign s.Open tight h = refl
closed_sign s.Close tight h = refl
closed_sign s.OpenBracket tight h = refl
closed_sign s.CloseBracket tight h = refl
closed_sign s.OpenBrace tight h = refl
closed_sign s.CloseBrace tight h = refl
closed_sign s.Plus tight h = refl
closed_sign s.Minus tight h = refl
closed_sign s.Star tight h = refl
closed_sign s.Slash tight h = refl
closed_sign s.Equal tight h = refl
closed_sign s.NotEqual tight h = refl
closed_sign s.Less tight h = absurd cc
closed_sign s.AtMost tight h = refl
closed_sign s.Greater tight h = absurd cc
closed_sign s.AtLeast tight h = refl

-- what the lexer promises a printer
pub record IsLawful : Type 0 where
  pub before : (token : Token) (s : Sign) → stands_close s ≡ true → needs_gap token (t.Sign s) ≡ false
  pub behind : (s : Sign) (token : Token) → is_closed s ≡ true → needs_gap (t.Sign s) token ≡ false

apart_before : (law : IsLawful) → (a b : Token) (tight : Bool) → starts_close b tight ≡ true → needs_gap a b ≡ false
apart_before law a (t.Sign s) tight h = law.before a s (close_sign s tight h)
apart_before law a (t.Name p) tight h = absurd cc
apart_before law a (t.Quoted p) tight h = absurd cc
apart_before law a (t.Number n) tight h = absurd cc
apart_before law a (t.Str p) tight h = absurd cc
apart_before law a (t.Word w) tight h = absurd cc
apart_before law a t.End tight h = absurd cc

apart_behind : (law : IsLawful) → (a b : Token) (tight : Bool) → ends_close a tight ≡ true → needs_gap a b ≡ false
apart_behind law (t.Sign s) b tight h = law.behind s b (closed_sign s tight h)
apart_behind law (t.Name p) b tight h = absurd cc
apart_behind law (t.Quoted p) b tight h = absurd cc
apart_behind law (t.Number n) b tight h = absurd cc
apart_behind law (t.Str p) b tight h = absurd cc
apart_behind law (t.Word w) b tight h = absurd cc
apart_behind law t.End b tight h = absurd cc

close_cases : (x y : Bool) → space_unless (x || y) ≡ [] → (x ≡ true) ⊎ (y ≡ true)
close_cases true y h = inl refl
close_cases false true h = inr refl
close_cases false false h = absurd (let no : 32 ∷ [] ≡ [] = h in cc)

-- ---- one line

-- pieces with the gaps before them
laid_on : Bool → List Piece → List Laid
laid_on close [] = []
laid_on close (x ∷ more) = record { gap = space_unless (close || starts_close x.token x.tight); token = x.token } ∷ laid_on (ends_close x.token x.tight) more

text_on : (close : Bool) (pieces : List Piece) (rest : List Laid) (last : List ℕ) → text_of (laid_on close pieces ++ rest) last ≡ laid close pieces ++ text_of rest last
unfolding laid_on
text_on close [] rest last = refl
text_on close (x ∷ more) rest last =
    let gap : List ℕ = space_unless (close || starts_close x.token x.tight) in
    let next : List ℕ = laid (ends_close x.token x.tight) more in
    ap (λ (bytes : List ℕ). gap ++ (spell x.token ++ bytes)) (text_on (ends_close x.token x.tight) more rest last)
    ∙ ap (λ (bytes : List ℕ). gap ++ bytes) (sym (append_assoc (spell x.token) next (text_of rest last)))
    ∙ sym (append_assoc gap (spell x.token ++ next) (text_of rest last))

tokens_on : (close : Bool) (pieces : List Piece) (rest : List Laid) → map (λ x. x.token) (laid_on close pieces ++ rest) ≡ tokens pieces ++ map (λ x. x.token) rest
unfolding laid_on
tokens_on close [] rest = refl
tokens_on close (x ∷ more) rest = ap (λ (ts : List Token). x.token ∷ ts) (tokens_on (ends_close x.token x.tight) more rest)

-- nothing, or a gap, comes first
pub StartsApart : List Laid → Type 0
StartsApart [] = Unit {0}
StartsApart (x ∷ more) = x.gap ≢ []

apart_on : (law : IsLawful) → (x : Piece) (more : List Piece) (rest : List Laid) → StartsApart rest → IsApart x.token (laid_on (ends_close x.token x.tight) more ++ rest)
unfolding laid_on StartsApart
apart_on law x [] [] h = tt
apart_on law x [] (y ∷ rest) h = λ e. absurd (h e)
apart_on law x (y ∷ more) rest h = λ e. elim (close_cases (ends_close x.token x.tight) (starts_close y.token y.tight) e) [ inl k ↦ apart_behind law x.token y.token x.tight k | inr k ↦ apart_before law x.token y.token y.tight k ]

layout_on : (law : IsLawful) → (close : Bool) (pieces : List Piece) (rest : List Laid) → ArePrintable (tokens pieces) → StartsApart rest → IsLayout rest → IsLayout (laid_on close pieces ++ rest)
unfolding laid_on
layout_on law close [] rest p apart h = h
layout_on law close (x ∷ more) rest p apart h =
    let gap = spaced_gap (close || starts_close x.token x.tight) in
    (gap.0, gap.1, p.0, apart_on law x more rest apart, layout_on law (ends_close x.token x.tight) more rest p.1 apart h)

-- ---- lines

-- the text is these tokens, laid out
pub record IsLaid (text : List ℕ) (ts : List Token) : Type 0 where
  pub items : List Laid
  pub last : List ℕ
  pub text_is : text ≡ text_of items last
  pub tokens_are : map (λ x. x.token) items ≡ ts
  pub layout : IsLayout items
  pub apart : StartsApart items
  pub is_last : IsLast last

unfoldable pub Starts : List Piece → Type 0
Starts [] = ⊥
Starts (x ∷ more) = Unit {0}

-- a line behind a gap
line_laid : (law : IsLawful) → (gap : List ℕ) → IsGap gap → IsUtf8 gap → (pieces : List Piece) → Starts pieces → ArePrintable (tokens pieces) → (text : List ℕ) (ts : List Token) → IsLaid (10 ∷ text) ts
    → (items : List Laid) × (last : List ℕ) × (gap ++ (line pieces ++ text) ≡ text_of items last) × (map (λ x. x.token) items ≡ tokens pieces ++ ts) × IsLayout items × IsLast last × (gap ≢ [] → StartsApart items)
unfolding Starts StartsApart
line_laid law gap is utf8 [] some p text ts rest = absurd some
line_laid law gap is utf8 (x ∷ more) some p text ts rest =
    let close : Bool = ends_close x.token x.tight in
    let behind : List Laid = laid_on close more ++ rest.items in
    let front : List ℕ = spell x.token ++ laid close more in
    let ending : 10 ∷ text ≡ text_of rest.items rest.last = rest.text_is in
    let bytes : gap ++ (line (x ∷ more) ++ text) ≡ gap ++ (spell x.token ++ text_of behind rest.last) =
    ap (λ (y : List ℕ). gap ++ y) (append_assoc front (10 ∷ []) text ∙ ap (λ (y : List ℕ). front ++ y) ending ∙ append_assoc (spell x.token) (laid close more) (text_of rest.items rest.last) ∙ ap (λ (y : List ℕ). spell x.token ++ y) (sym (text_on close more rest.items rest.last))) in
    (record { gap = gap; token = x.token } ∷ behind, rest.last, bytes, ap (λ (ts : List Token). x.token ∷ ts) (tokens_on close more rest.items ∙ ap (λ (ys : List Token). tokens more ++ ys) rest.tokens_are), (is, utf8, p.0, apart_on law x more rest.items rest.apart, layout_on law close more rest.items p.1 rest.apart rest.layout), rest.is_last, λ h. h)

unfoldable pub AllStart : List (List Piece) → Type 0
AllStart [] = Unit {0}
AllStart (pieces ∷ lines) = Starts pieces × AllStart lines

printable_front : (xs ys : List Token) → ArePrintable (xs ++ ys) → ArePrintable xs
printable_front [] ys h = tt
printable_front (x ∷ xs) ys h = (h.0, printable_front xs ys h.1)

printable_back : (xs ys : List Token) → ArePrintable (xs ++ ys) → ArePrintable ys
printable_back [] ys h = h
printable_back (x ∷ xs) ys h = printable_back xs ys h.1

line_some : (gap : List ℕ) → gap ≡ 10 ∷ [] → gap ≢ []
line_some gap e h = let none : gap ≡ [] = h in let some : gap ≡ 10 ∷ [] = e in cc

-- lines behind the end of a line
lines_laid : (law : IsLawful) → (lines : List (List Piece)) → AllStart lines → ArePrintable (flat_map tokens lines) → IsLaid (10 ∷ flat_map line lines) (flat_map tokens lines)
unfolding AllStart StartsApart
lines_laid law [] some p = record { items = []; last = 10 ∷ []; text_is = refl; tokens_are = refl; layout = tt; apart = tt; is_last = (inl line_gap, one_utf8 10 (omega arith)) }
lines_laid law (pieces ∷ lines) some p =
    let rest = lines_laid law lines some.1 (printable_back (tokens pieces) (flat_map tokens lines) p) in
    let whole = line_laid law (10 ∷ []) line_gap (one_utf8 10 (omega arith)) pieces some.0 (printable_front (tokens pieces) (flat_map tokens lines) p) (flat_map line lines) (flat_map tokens lines) rest in
    record { items = whole.0; last = whole.1; text_is = whole.2; tokens_are = whole.3; layout = whole.4; apart = whole.6 (line_some (10 ∷ []) refl); is_last = whole.5 }

-- a text of lines
pub record IsText (text : List ℕ) (ts : List Token) : Type 0 where
  pub items : List Laid
  pub last : List ℕ
  pub text_is : text ≡ text_of items last
  pub tokens_are : map (λ x. x.token) items ≡ ts
  pub layout : IsLayout items
  pub is_last : IsLast last

pub text_laid : (law : IsLawful) → (pieces : List Piece) (lines : List (List Piece)) → Starts pieces → AllStart lines → ArePrintable (tokens pieces ++ flat_map tokens lines) → IsText (line pieces ++ flat_map line lines) (tokens pieces ++ flat_map tokens lines)
text_laid law pieces lines first others p =
    let rest = lines_laid law lines others (printable_back (tokens pieces) (flat_map tokens lines) p) in
    let whole = line_laid law [] no_gap none_utf8 pieces first (printable_front (tokens pieces) (flat_map tokens lines) p) (flat_map line lines) (flat_map tokens lines) rest in
    record { items = whole.0; last = whole.1; text_is = whole.2; tokens_are = whole.3; layout = whole.4; is_last = whole.5 }
