-- Lines of blocks: each says one thing, none holds the byte that ends it.
use Rattle.std.proofs.Common.{◌≡◌, ◌≢◌, ◌∙◌, ◌⊎◌, inl, inr, ℕ, ◌<◌, ◌^◌, List, [], ◌∷◌, ◌++◌, length, map, get_or, codes, Option, Some, None, All, refl, sym, ap, ap₂, arith, append_assoc, decimal}
use Rattle.std.proofs.lemmas.List.{append_cancel_left}
use Rattle.std.proofs.lemmas.Fmt.{decimal_injective}
use Rattle.std.proofs.lemmas.List.Elements.{All-append, All-cons, All-head, All-nil, All-tail}
use denote.Ref.{Bor}
use Rattle.std.specs.Int.{IsInRange}
use Rattle.graph_model.specs.declared.value.Val.{Val}
use Rattle.vertex_lang.specs.declared.lone.Outcome.{Outcome}
use Rattle.vertex_lang.specs.declared.lone.Outcome.TheVariants as outcome
use Rattle.result_tables.specs.TableText.{outcome_text, value_text}
use Rattle.change_text.specs.declared.kind.Kind.{Kind}
use Rattle.change_text.specs.declared.kind.Kind.TheVariants as kind
use Rattle.change_text.specs.declared.row.Row.{Row}
use Rattle.change_text.specs.Blocks.{Block, IsBlock, IsHead, IsLine, IsOutcome, IsRow}
use Rattle.change_text.specs.Spelling.{front_lines, block_lines, last_line, opening_line, row_line, word}
use Rattle.change_text.specs.Inside.{Lacks, IsCutAt, IsCutLast, Opens, ReadsNumber, ReadsValue, ReadsRow, ReadsRounds, ReadsShown, ReadsSaid, held_said, said}
use Rattle.change_text.proofs.Split.{first_split, has, lacks_append, lacks_back, lacks_by_test, lacks_cons, lacks_front, lacks_same, last_split, same_head}
use Rattle.change_text.proofs.Numbers.{lacks_in, lacks_value, same_value_text}

not_comma : IsInRange 48 57 44 → ⊥
not_comma r = omega (arith, r.0)

not_blank : IsInRange 48 57 32 → ⊥
not_blank r = omega (arith, r.0)

not_end : IsInRange 48 57 10 → ⊥
not_end r = omega (arith, r.0)

minus_no_end : ◌≢◌ {A = ℕ} 45 10
minus_no_end e = omega (arith, e)

-- ---- rows

pub row_is_line : (row : Row) → IsRow row → IsLine (row_line row)
row_is_line row is =
    lacks_append 10 (decimal row.id) (44 ∷ value_text row.value) (lacks_in 10 row.id not_end (omega (arith, is.0)))
    (lacks_cons 10 44 (value_text row.value) (λ e. absurd (omega (arith, e))) (lacks_value 10 not_end minus_no_end row.value is.1))

abbrev pub row_with : ℕ → Val → Row
row_with id value = record { id = id; value = value }

same_row : (r s : Row) → r.id ≡ s.id → r.value ≡ s.value → r ≡ s
same_row r s p q = ap (λ (id : ℕ). row_with id r.value) p ∙ ap (λ (value : Val). row_with s.id value) q

pub same_row_line : (r s : Row) → IsRow r → IsRow s → row_line r ≡ row_line s → r ≡ s
same_row_line r s p q e =
    let cut = first_split 44 (decimal r.id) (decimal s.id) (value_text r.value) (value_text s.value) (lacks_in 44 r.id not_comma (omega (arith, p.0))) (lacks_in 44 s.id not_comma (omega (arith, q.0))) e in
    same_row r s (decimal_injective r.id s.id (omega (arith, p.0)) (omega (arith, q.0)) cut.0) (same_value_text r.value s.value p.1 q.1 cut.1)

last_lacks : Lacks 44 last_line
last_lacks = lacks_by_test 44 last_line refl

pub row_not_last : (row : Row) → row_line row ≡ last_line → ⊥
row_not_last row e = has 44 (decimal row.id) (value_text row.value) last_line last_lacks (sym e)

-- what was read of a line, cut at its comma
pub no_comma : (line : List ℕ) → Lacks 44 line → ReadsRow line None
no_comma line lacks row is e = has 44 (decimal row.id) (value_text row.value) line lacks e

row_cut : (line front behind : List ℕ) (row : Row) → IsCutAt 44 line front behind → IsRow row → line ≡ row_line row → (front ≡ decimal row.id) × (behind ≡ value_text row.value)
row_cut line front behind row cut is e =
    first_split 44 front (decimal row.id) behind (value_text row.value) cut.without (lacks_in 44 row.id not_comma (omega (arith, is.0))) (sym cut.split ∙ e)

pub no_id : (line front behind : List ℕ) → IsCutAt 44 line front behind → ReadsNumber front None → ReadsRow line None
no_id line front behind cut never row is e = never row.id is.0 (row_cut line front behind row cut is e).0

pub no_value : (line front behind : List ℕ) → IsCutAt 44 line front behind → ReadsValue behind None → ReadsRow line None
no_value line front behind cut never row is e = never row.value is.1 (row_cut line front behind row cut is e).1

pub row_read : (line front behind : List ℕ) (id : ℕ) (value : Val) → IsCutAt 44 line front behind → ReadsNumber front (Some id) → ReadsValue behind (Some value)
    → ReadsRow line (Some (record { id = id; value = value }))
row_read line front behind id value cut p q = (
  (p.0, q.0),
  cut.split ∙ ap₂ (λ (a b : List ℕ). a ++ 44 ∷ b) p.1 q.1,
)

-- ---- first lines

unsettled_lacks : Lacks 32 (codes "unsettled")
unsettled_lacks = lacks_by_test 32 (codes "unsettled") refl

wide : (r : ℕ) → r < 2 ^ 32 → r < 2 ^ 64
wide r h = omega (arith, h)

-- how a run ended that isn't unsettled: a word and a number
abbrev IsShown : Outcome → Type 0
IsShown o = o ≢ outcome.Unsettled

abbrev how_word : Outcome → List ℕ
how_word (outcome.Settled r) = codes "settled"
how_word (outcome.After r) = codes "after"
how_word (outcome.Phases r) = codes "phases"
how_word outcome.Unsettled = []

abbrev how_many : Outcome → ℕ
how_many (outcome.Settled r) = r
how_many (outcome.After r) = r
how_many (outcome.Phases r) = r
how_many outcome.Unsettled = 0

word_has_no_blank : (o : Outcome) → Lacks 32 (how_word o)
word_has_no_blank (outcome.Settled r) = lacks_by_test 32 (codes "settled") refl
word_has_no_blank (outcome.After r) = lacks_by_test 32 (codes "after") refl
word_has_no_blank (outcome.Phases r) = lacks_by_test 32 (codes "phases") refl
word_has_no_blank outcome.Unsettled = lacks_by_test 32 [] refl

few : (o : Outcome) → IsShown o → IsOutcome o → how_many o < 2 ^ 32
few (outcome.Settled r) shown is = is
few (outcome.After r) shown is = is
few (outcome.Phases r) shown is = is
few outcome.Unsettled shown is = absurd (shown refl)

many_have_no_blank : (o : Outcome) → IsShown o → IsOutcome o → Lacks 32 (decimal (how_many o))
many_have_no_blank o shown is = lacks_in 32 (how_many o) not_blank (wide (how_many o) (few o shown is))

-- cut at the last blank
two : (head how digits : List ℕ) → head ++ 32 ∷ (how ++ 32 ∷ digits) ≡ (head ++ 32 ∷ how) ++ 32 ∷ digits
two head how digits = sym (append_assoc head (32 ∷ how) (32 ∷ digits))

said_in_two : (head : List ℕ) (o : Outcome) → IsShown o → said head o ≡ (head ++ 32 ∷ how_word o) ++ 32 ∷ decimal (how_many o)
said_in_two head (outcome.Settled r) shown = two head (codes "settled") (decimal r)
said_in_two head (outcome.After r) shown = two head (codes "after") (decimal r)
said_in_two head (outcome.Phases r) shown = two head (codes "phases") (decimal r)
said_in_two head outcome.Unsettled shown = absurd (shown refl)

digits_cut : (o : Outcome) (bytes head front last : List ℕ) → IsShown o → IsOutcome o → IsCutLast 32 bytes front last → bytes ≡ said head o → (front ≡ head ++ 32 ∷ how_word o) × (last ≡ decimal (how_many o))
digits_cut o bytes head front last shown is cut e =
    last_split 32 front (head ++ 32 ∷ how_word o) last (decimal (how_many o)) cut.without (many_have_no_blank o shown is) (sym cut.split ∙ e ∙ said_in_two head o shown)

-- no blank, no number, no blank before it, or another word before it
pub no_blank : (bytes : List ℕ) → Lacks 32 bytes → ReadsSaid bytes None
no_blank bytes lacks head outcome is e = has 32 head (outcome_text outcome) bytes lacks e

pub no_rounds : (bytes front last : List ℕ) → IsCutLast 32 bytes front last → ReadsRounds last None → ReadsShown bytes None
no_rounds bytes front last cut never head o shown is e = never (how_many o) (few o shown is) (digits_cut o bytes head front last shown is cut e).1

pub no_word : (bytes front last : List ℕ) → IsCutLast 32 bytes front last → Lacks 32 front → ReadsShown bytes None
no_word bytes front last cut lacks head o shown is e = has 32 head (how_word o) front lacks (digits_cut o bytes head front last shown is cut e).0

another : (o : Outcome) (how : List ℕ) → IsShown o → how ≢ codes "settled" → how ≢ codes "after" → how ≢ codes "phases" → how ≢ how_word o
another (outcome.Settled r) how shown p q s = p
another (outcome.After r) how shown p q s = q
another (outcome.Phases r) how shown p q s = s
another outcome.Unsettled how shown p q s = absurd (shown refl)

pub other_word : (bytes front last head how : List ℕ) → IsCutLast 32 bytes front last → IsCutLast 32 front head how → how ≢ codes "settled" → how ≢ codes "after" → how ≢ codes "phases" → ReadsShown bytes None
other_word bytes front last head how cut inner no_settled no_after no_phases other o shown is e =
    another o how shown no_settled no_after no_phases
    (last_split 32 head other how (how_word o) inner.without (word_has_no_blank o) (sym inner.split ∙ (digits_cut o bytes other front last shown is cut e).0)).1

read_in_two : (bytes front last head how : List ℕ) (o : Outcome) → IsShown o → IsCutLast 32 bytes front last → last ≡ decimal (how_many o) → IsCutLast 32 front head how → how ≡ how_word o → bytes ≡ said head o
read_in_two bytes front last head how o shown cut p inner is =
    cut.split ∙ ap₂ (λ (a b : List ℕ). a ++ 32 ∷ b) (inner.split ∙ ap (λ (w : List ℕ). head ++ 32 ∷ w) is) p ∙ sym (said_in_two head o shown)

pub settled_read : (bytes front last head how : List ℕ) (r : ℕ) → IsCutLast 32 bytes front last → ReadsRounds last (Some r) → IsCutLast 32 front head how → how ≡ codes "settled" → ReadsShown bytes (Some (head, outcome.Settled r))
settled_read bytes front last head how r cut p inner is = (p.0, read_in_two bytes front last head how (outcome.Settled r) (λ e. absurd cc) cut p.1 inner is)

pub after_read : (bytes front last head how : List ℕ) (r : ℕ) → IsCutLast 32 bytes front last → ReadsRounds last (Some r) → IsCutLast 32 front head how → how ≡ codes "after" → ReadsShown bytes (Some (head, outcome.After r))
after_read bytes front last head how r cut p inner is = (p.0, read_in_two bytes front last head how (outcome.After r) (λ e. absurd cc) cut p.1 inner is)

pub phases_read : (bytes front last head how : List ℕ) (r : ℕ) → IsCutLast 32 bytes front last → ReadsRounds last (Some r) → IsCutLast 32 front head how → how ≡ codes "phases" → ReadsShown bytes (Some (head, outcome.Phases r))
phases_read bytes front last head how r cut p inner is = (p.0, read_in_two bytes front last head how (outcome.Phases r) (λ e. absurd cc) cut p.1 inner is)

pub unsettled_read : (bytes front last : List ℕ) → IsCutLast 32 bytes front last → last ≡ codes "unsettled" → ReadsSaid bytes (Some (front, outcome.Unsettled))
unsettled_read bytes front last cut is = (tt, cut.split ∙ ap (λ (w : List ℕ). front ++ 32 ∷ w) is)

pub shown_read : (bytes : List ℕ) (p : List ℕ × Outcome) → ReadsShown bytes (Some p) → ReadsSaid bytes (Some p)
shown_read bytes p h = h

pub not_said : (bytes front last : List ℕ) → IsCutLast 32 bytes front last → last ≢ codes "unsettled" → ReadsShown bytes None → ReadsSaid bytes None
not_said bytes front last cut ne never head (outcome.Settled r) is e = never head (outcome.Settled r) (λ f. absurd cc) is e
not_said bytes front last cut ne never head (outcome.After r) is e = never head (outcome.After r) (λ f. absurd cc) is e
not_said bytes front last cut ne never head (outcome.Phases r) is e = never head (outcome.Phases r) (λ f. absurd cc) is e
not_said bytes front last cut ne never head outcome.Unsettled is e =
    ne (last_split 32 front head last (codes "unsettled") cut.without unsettled_lacks (sym cut.split ∙ e)).1

pub said_by : (bytes front last : List ℕ) (r : Option (Bor (List ℕ) × Outcome)) → IsCutLast 32 bytes front last → last ≢ codes "unsettled" → ReadsShown bytes (held_said r) → ReadsSaid bytes (held_said r)
said_by bytes front last None cut ne h = not_said bytes front last cut ne h
said_by bytes front last (Some p) cut ne h = h

-- ---- one line has one reading

-- a number isn't a word
no_letter : (n : ℕ) → n < 2 ^ 64 → codes "unsettled" ≡ decimal n → ⊥
no_letter n low e = lacks_in 117 n (λ r. omega (arith, r.1)) low 0 0 (omega (arith, ap length e)) (sym (ap (λ (xs : List ℕ). get_or xs 0 0) e))

-- the word and the number say how the run ended
by_word : (o p : Outcome) → IsShown o → IsShown p → how_word o ≡ how_word p → how_many o ≡ how_many p → o ≡ p
by_word (outcome.Settled r) (outcome.Settled s) x y e f = ap (λ (n : ℕ). outcome.Settled n) f
by_word (outcome.Settled r) (outcome.After s) x y e f = absurd (omega (arith, same_head e))
by_word (outcome.Settled r) (outcome.Phases s) x y e f = absurd (omega (arith, same_head e))
by_word (outcome.After r) (outcome.Settled s) x y e f = absurd (omega (arith, same_head e))
by_word (outcome.After r) (outcome.After s) x y e f = ap (λ (n : ℕ). outcome.After n) f
by_word (outcome.After r) (outcome.Phases s) x y e f = absurd (omega (arith, same_head e))
by_word (outcome.Phases r) (outcome.Settled s) x y e f = absurd (omega (arith, same_head e))
by_word (outcome.Phases r) (outcome.After s) x y e f = absurd (omega (arith, same_head e))
by_word (outcome.Phases r) (outcome.Phases s) x y e f = ap (λ (n : ℕ). outcome.Phases n) f
by_word outcome.Unsettled p x y e f = absurd (x refl)
by_word (outcome.Settled r) outcome.Unsettled x y e f = absurd (y refl)
by_word (outcome.After r) outcome.Unsettled x y e f = absurd (y refl)
by_word (outcome.Phases r) outcome.Unsettled x y e f = absurd (y refl)

both_shown : (a b : List ℕ) (o p : Outcome) → IsShown o → IsShown p → IsOutcome o → IsOutcome p → said a o ≡ said b p → (a ≡ b) × (o ≡ p)
both_shown a b o p x y is it e =
    let cut = last_split 32 (a ++ 32 ∷ how_word o) (b ++ 32 ∷ how_word p) (decimal (how_many o)) (decimal (how_many p)) (many_have_no_blank o x is) (many_have_no_blank p y it) (sym (said_in_two a o x) ∙ e ∙ said_in_two b p y) in
    let inner = last_split 32 a b (how_word o) (how_word p) (word_has_no_blank o) (word_has_no_blank p) cut.0 in
    (inner.0, by_word o p x y inner.1 (decimal_injective (how_many o) (how_many p) (wide (how_many o) (few o x is)) (wide (how_many p) (few p y it)) cut.1))

one_shown : (a b : List ℕ) (p : Outcome) → IsShown p → IsOutcome p → said a outcome.Unsettled ≡ said b p → ⊥
one_shown a b p y it e =
    let cut = last_split 32 a (b ++ 32 ∷ how_word p) (codes "unsettled") (decimal (how_many p)) unsettled_lacks (many_have_no_blank p y it) (e ∙ said_in_two b p y) in
    no_letter (how_many p) (wide (how_many p) (few p y it)) cut.1

shown_or : (o : Outcome) → (o ≡ outcome.Unsettled) ⊎ IsShown o
shown_or (outcome.Settled r) = inr (λ e. absurd cc)
shown_or (outcome.After r) = inr (λ e. absurd cc)
shown_or (outcome.Phases r) = inr (λ e. absurd cc)
shown_or outcome.Unsettled = inl refl

same_by : (a b : List ℕ) (o p : Outcome) → (o ≡ outcome.Unsettled) ⊎ IsShown o → (p ≡ outcome.Unsettled) ⊎ IsShown p → IsOutcome o → IsOutcome p → said a o ≡ said b p → (a ≡ b) × (o ≡ p)
same_by a b o p (inr x) (inr y) is it e = both_shown a b o p x y is it e
same_by a b o p (inl x) (inr y) is it e = absurd (one_shown a b p y it (ap (said a) (sym x) ∙ e))
same_by a b o p (inr x) (inl y) is it e = absurd (one_shown b a o x is (ap (said b) (sym y) ∙ sym e))
same_by a b o p (inl x) (inl y) is it e =
    let cut = last_split 32 a b (codes "unsettled") (codes "unsettled") unsettled_lacks unsettled_lacks (ap (said a) (sym x) ∙ e ∙ ap (said b) y) in
    (cut.0, x ∙ sym y)

same_outcome_text : (a b : List ℕ) (o p : Outcome) → IsOutcome o → IsOutcome p → said a o ≡ said b p → (a ≡ b) × (o ≡ p)
same_outcome_text a b o p is it e = same_by a b o p (shown_or o) (shown_or p) is it e

pub same_opening : (k l : Kind) (a b : List ℕ) (o p : Outcome) → IsOutcome o → IsOutcome p → opening_line k a o ≡ opening_line l b p → (k ≡ l) × (a ≡ b) × (o ≡ p)
same_opening kind.Full kind.Full a b o p x y e = let r = same_outcome_text a b o p x y (append_cancel_left (codes "view ") (said a o) (said b p) e) in (refl, r.0, r.1)
same_opening kind.Full kind.Change a b o p x y e = absurd (omega (arith, same_head e))
same_opening kind.Change kind.Full a b o p x y e = absurd (omega (arith, same_head e))
same_opening kind.Change kind.Change a b o p x y e = let r = same_outcome_text a b o p x y (append_cancel_left (codes "change ") (said a o) (said b p) e) in (refl, r.0, r.1)

outcome_lacks : (o : Outcome) → IsOutcome o → Lacks 10 (outcome_text o)
outcome_lacks (outcome.Settled r) is = lacks_append 10 (codes "settled ") (decimal r) (lacks_by_test 10 (codes "settled ") refl) (lacks_in 10 r not_end (wide r is))
outcome_lacks (outcome.After r) is = lacks_append 10 (codes "after ") (decimal r) (lacks_by_test 10 (codes "after ") refl) (lacks_in 10 r not_end (wide r is))
outcome_lacks (outcome.Phases r) is = lacks_append 10 (codes "phases ") (decimal r) (lacks_by_test 10 (codes "phases ") refl) (lacks_in 10 r not_end (wide r is))
outcome_lacks outcome.Unsettled is = lacks_by_test 10 (codes "unsettled") refl

word_lacks : (k : Kind) → Lacks 10 (word k)
word_lacks kind.Full = lacks_by_test 10 (codes "view ") refl
word_lacks kind.Change = lacks_by_test 10 (codes "change ") refl

pub opening_is_line : (k : Kind) (head : List ℕ) (o : Outcome) → IsHead head → IsOutcome o → IsLine (opening_line k head o)
opening_is_line k head o h is =
    lacks_append 10 (word k) (said head o) (word_lacks k)
    (lacks_append 10 head (32 ∷ outcome_text o) h.1 (lacks_cons 10 32 (outcome_text o) (λ e. absurd (omega (arith, e))) (outcome_lacks o is)))

pub last_is_line : IsLine last_line
last_is_line = lacks_by_test 10 last_line refl

rows_are_lines : (rows : List Row) → All IsRow rows → All IsLine (map row_line rows)
rows_are_lines [] all = All-nil IsLine
rows_are_lines (r ∷ rs) all = All-cons IsLine (row_line r) (map row_line rs) (row_is_line r (All-head IsRow r rs all)) (rows_are_lines rs (All-tail IsRow r rs all))

pub fronts_are_lines : (b : Block) → IsBlock b → All IsLine (front_lines b)
fronts_are_lines b is = All-cons IsLine (opening_line b.kind b.head b.outcome) (map row_line b.rows) (opening_is_line b.kind b.head b.outcome is.head is.outcome) (rows_are_lines b.rows is.rows)

pub block_are_lines : (b : Block) → IsBlock b → All IsLine (block_lines b)
block_are_lines b is = All-append IsLine (front_lines b) (last_line ∷ []) (fronts_are_lines b is) (All-cons IsLine last_line [] last_is_line (All-nil IsLine))

-- ---- what was read of a first line

opened_as : (k : Kind) (bytes head : List ℕ) (o : Outcome) (line : List ℕ) → line ≡ word k ++ bytes → IsLine line → ReadsSaid bytes (Some (head, o)) → head ≢ [] → Opens k head o line
opened_as k bytes head o line e is h some = record {
  head = (some, lacks_front 10 head (32 ∷ outcome_text o) (lacks_same 10 bytes (said head o) h.1 (lacks_back 10 (word k) bytes (lacks_same 10 line (word k ++ bytes) e is))));
  outcome = h.0;
  line_is = e ∙ ap (λ (bs : List ℕ). word k ++ bs) h.1;
}

pub opened : (k : Kind) (bytes head : List ℕ) (o : Outcome) (line : List ℕ) → line ≡ word k ++ bytes → IsLine line → ReadsSaid bytes (Some (head, o)) → head ≢ [] → Opens k head o line
opened = opened_as

-- behind the word of this kind nothing is said, or nothing of a head
pub not_opened : (k : Kind) (bytes line : List ℕ) → line ≡ word k ++ bytes → ReadsSaid bytes None → (l : Kind) (head : List ℕ) (o : Outcome) → Opens l head o line → ⊥
not_opened kind.Full bytes line e never kind.Full head o h = never head o h.outcome (append_cancel_left (codes "view ") bytes (said head o) (sym e ∙ h.line_is))
not_opened kind.Full bytes line e never kind.Change head o h = omega (arith, same_head (sym e ∙ h.line_is))
not_opened kind.Change bytes line e never kind.Full head o h = omega (arith, same_head (sym e ∙ h.line_is))
not_opened kind.Change bytes line e never kind.Change head o h = never head o h.outcome (append_cancel_left (codes "change ") bytes (said head o) (sym e ∙ h.line_is))

pub no_head : (k : Kind) (bytes line : List ℕ) (o : Outcome) → IsOutcome o → line ≡ word k ++ bytes → bytes ≡ said [] o → (l : Kind) (head : List ℕ) (p : Outcome) → Opens l head p line → ⊥
no_head k bytes line o is e f l head p h =
    let same = same_opening k l [] head o p is h.outcome (ap (λ (bs : List ℕ). word k ++ bs) (sym f) ∙ sym e ∙ h.line_is) in
    h.head.0 (sym same.1)
