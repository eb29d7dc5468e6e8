-- The last colon of a field, and the column that the field spells; the header of a further file.
use Rattle.std.proofs.Common.{◌≡◌, ◌≢◌, ◌∙◌, sym, refl, ap, add-one, ℕ, suc, ◌+◌, ◌<◌, ◌≤◌, Bool, true, false, List, [], ◌∷◌, ◌++◌, length, map, take, drop, get_or, Option, Some, None, if◌then◌else◌, arith, lit<}
use Rattle.std.specs.Prelude.{◌==◌, ◌&&◌, nat_lt}
use Rattle.std.specs.Str.{bytes_eq}
use Rattle.std.proofs.Math.Seq.{drop-cons}
use Rattle.std.specs.Str.Pattern.{RFindsChar, SplitsAroundMatch}
use Rattle.std.proofs.lemmas.Str.Pattern.{NoCharPasses-char, drop_at_char}
use Rattle.std.proofs.lemmas.List.{drop_all, take-append-drop}
use Rattle.std.proofs.lemmas.Bool.Decides.{nat_tests}
use Rattle.graph_loader.specs.declared.fault.Blame.{Blame}
use Rattle.graph_loader.specs.declared.fault.DataKind.TheVariants as wrong
use Rattle.graph_loader.specs.DataFiles.{Row, blame, column_word, earlier_of, field_of, header_fault}
use Rattle.graph_model.specs.declared.cell.Column.{Column}
use Rattle.graph_loader.specs.LoadSteps.{word_fault}
use Rattle.graph_loader.specs.Spelling.{cut_at_last_colon}

no-colon : (bs : List ℕ) → ((i : ℕ) → i < length bs → get_or bs i 0 ≢ 58) → cut_at_last_colon bs ≡ None
no-colon [] h = refl
no-colon (b ∷ rest) h = rw (no-colon rest (λ i lt. h (suc i) (omega arith))) (cases (b == 58) refl) where
  cases : (t : Bool) → (b == 58) ≡ t → ◌≡◌ {A = Option (List ℕ × List ℕ)} (if t then Some ([], rest) else None) None
  cases true e = absurd (h 0 (omega arith) (grind (arith, nat_tests)))
  cases false e = refl

last-colon : (front back : List ℕ) → cut_at_last_colon back ≡ None → cut_at_last_colon (front ++ 58 ∷ back) ≡ Some (front, back)
last-colon [] back e = rw e refl
last-colon (b ∷ front) back e = rw (last-colon front back e) refl

pub none-is-none : (bs : List ℕ) → RFindsChar 58 bs None → cut_at_last_colon bs ≡ None
none-is-none bs h = no-colon bs (λ i lt. NoCharPasses-char 58 bs i h (lit< tt) lt)

pub split-is-cut : (bs front back : List ℕ) → SplitsAroundMatch (RFindsChar 58) bs front back → cut_at_last_colon bs ≡ Some (front, back)
split-is-cut bs front back s =
    let found = s.2 in
    let none : cut_at_last_colon back ≡ None = rw s.4 (none-is-none (drop s.1 bs) found.0) in
    let tail : drop s.0 bs ≡ 58 ∷ back = drop_at_char 58 bs s.0 s.1 found.1 (lit< tt) ∙ ap (λ (l : List ℕ). 58 ∷ l) (sym s.4) in
    let whole : bs ≡ front ++ 58 ∷ back = sym (take-append-drop s.0 bs) ∙ ap (λ (l : List ℕ). take s.0 bs ++ l) tail ∙ ap (λ (l : List ℕ). l ++ 58 ∷ back) (sym s.3) in
    rw whole (last-colon front back none)

-- ---- the header of a further file

-- the first fault of a header from a place on
pub header-step : (row : Row) (words : List (List ℕ)) (word : List ℕ) (place : ℕ)
    → header_fault (place + 1) (word ∷ words) (drop place row) ≡ earlier_of (word_fault row place word) (header_fault (place + 2) words (drop (place + 1) row))
header-step row words word place = cases (nat_lt place (length row)) refl where
  blamed : Blame
  blamed = blame (place + 1) wrong.BadHeader

  judged : (t : Bool) (rest : Option Blame) → (if t then rest else Some blamed) ≡ earlier_of (if true && t then None else Some blamed) rest
  judged true rest = refl
  judged false rest = refl

  cases : (t : Bool) → nat_lt place (length row) ≡ t
      → header_fault (place + 1) (word ∷ words) (drop place row) ≡ earlier_of (if t && bytes_eq (field_of row place) word then None else Some blamed) (header_fault (place + 2) words (drop (place + 1) row))
  cases true p =
      let lt : place < length row = grind (arith, nat_tests) in
      let one : drop place row ≡ field_of row place ∷ drop (place + 1) row = drop-cons row place [] lt ∙ ap (λ n. field_of row place ∷ drop n row) (sym (add-one place)) in
      let next : place + 1 + 1 ≡ place + 2 = omega arith in
      rw one (ap (λ n. if bytes_eq (field_of row place) word then header_fault n words (drop (place + 1) row) else Some blamed) next ∙ judged (bytes_eq (field_of row place) word) (header_fault (place + 2) words (drop (place + 1) row)))
  cases false p =
      let none : drop place row ≡ [] = drop_all place row (grind (arith, nat_tests)) in
      rw none refl

-- a field behind the last word
pub one-too-many : (row : Row) (place : ℕ) → place < length row → header_fault (place + 1) [] (drop place row) ≡ Some (blame (place + 1) wrong.BadHeader)
one-too-many row place lt = rw (drop-cons row place [] lt) refl

-- behind the last column
pub columns-end : (row : Row) (columns : List Column) (p : ℕ) (all : Option Blame) → length columns ≤ p → p ≤ length columns → all ≡ header_fault (p + 3) (map column_word (drop p columns)) (drop (p + 2) row)
    → all ≡ header_fault (length columns + 2 + 1) [] (drop (length columns + 2) row)
columns-end row columns p all le ge a =
    let none : drop p columns ≡ [] = drop_all p columns le in
    let one : p + 3 ≡ length columns + 2 + 1 = omega arith in
    let two : p + 2 ≡ length columns + 2 = omega arith in
    a ∙ ap (λ l. header_fault (p + 3) (map column_word l) (drop (p + 2) row)) none ∙ ap (λ n. header_fault n [] (drop (p + 2) row)) one ∙ ap (λ n. header_fault (length columns + 2 + 1) [] (drop n row)) two
