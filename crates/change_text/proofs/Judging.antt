-- A text is judged by the lines that were read of it and what is left.
use Rattle.std.proofs.Common.{◌≡◌, ◌∙◌, ℕ, ◌+◌, ◌-◌, ◌<◌, List, [], ◌∷◌, ◌++◌, length, take, drop, map, Option, Some, None, All, refl, sym, ap, subst, arith, append_assoc, append-nil, length-append, take_at, take-append-drop, is_some, true}
use Rattle.std.proofs.lemmas.List.{length-take-le}
use Rattle.std.proofs.lemmas.List.Elements.{All-append, All-take, All-nil}
use Rattle.change_text.specs.declared.reader.Opened.{Opened}
use Rattle.change_text.specs.declared.reader.Reader.{Reader}
use Rattle.change_text.specs.declared.row.Row.{Row}
use Rattle.change_text.specs.Blocks.{Block, AreBlocks, AreFrom, IsBlock, IsLine}
use Rattle.change_text.specs.Spelling.{changes_lines, ended, front_lines, last_line, row_line}
use Rattle.change_text.specs.Reading.{Begins, IsBadLine, IsChanges}
use Rattle.change_text.specs.Inside.{IsCutAt, IsPart, IsReader, Refused, last_table, lines_so_far, open_lines, opened_block}
use Rattle.change_text.proofs.Split.{first_split, has, same_tail}
use Rattle.change_text.proofs.Lines.{fronts_are_lines}
use Rattle.change_text.proofs.Blocks.{are_lines, are_push, blocks_front, ended-append, ended_front, lines_push, no_end, one_more}

-- lines that some change text begins with
begins_from : (lines left : List (List ℕ)) (blocks : List Block) (text rest : List ℕ) → AreBlocks blocks → changes_lines blocks ≡ lines ++ left → text ≡ ended lines ++ rest → Begins (length lines) text
begins_from lines left blocks text rest are is e = record {
  blocks = blocks;
  are = are;
  many = omega (arith, ap (λ (ls : List (List ℕ)). length ls) is, length-append lines left);
  rest = rest;
  text_is = e ∙ ap (λ (ls : List (List ℕ)). ended ls ++ rest) (sym (ap (λ (ls : List (List ℕ)). take (length lines) ls) is ∙ take_at lines left (length lines) refl));
}

open_begins : (begun : Option Opened) (blocks : List Block) (rows table : List Row) (place : ℕ) (text rest : List ℕ) → AreBlocks blocks → IsPart begun (last_table None blocks) rows table place
    → text ≡ ended (changes_lines blocks ++ open_lines begun rows) ++ rest → Begins (length (changes_lines blocks ++ open_lines begun rows)) text
open_begins None blocks rows table place text rest are part e = begins_from (changes_lines blocks ++ []) [] blocks text rest are (sym (append-nil (changes_lines blocks ++ []) ∙ append-nil (changes_lines blocks))) e
open_begins (Some o) blocks rows table place text rest are part e =
    begins_from (changes_lines blocks ++ front_lines (opened_block o rows)) (last_line ∷ []) (blocks ++ opened_block o rows ∷ []) text rest
    (are_push None blocks (opened_block o rows) are part.block part.follows)
    (lines_push blocks (opened_block o rows) ∙ sym (append_assoc (changes_lines blocks) (front_lines (opened_block o rows)) (last_line ∷ [])))
    e

open_are_lines : (begun : Option Opened) (blocks : List Block) (rows table : List Row) (place : ℕ) → AreBlocks blocks → IsPart begun (last_table None blocks) rows table place → All IsLine (changes_lines blocks ++ open_lines begun rows)
open_are_lines None blocks rows table place are part = All-append IsLine (changes_lines blocks) [] (are_lines None blocks are) (All-nil IsLine)
open_are_lines (Some o) blocks rows table place are part = All-append IsLine (changes_lines blocks) (front_lines (opened_block o rows)) (are_lines None blocks are) (fronts_are_lines (opened_block o rows) part.block)

-- one line more than that begins none
bad_next : (lines : List (List ℕ)) (text rest : List ℕ) → All IsLine lines → text ≡ ended lines ++ rest → ((line behind : List ℕ) → rest ≡ line ++ 10 ∷ behind → IsLine line → Refused lines line)
    → Begins (length lines + 1) text → ⊥
bad_next lines text rest are e never b =
    let taken = take (length lines + 1) (changes_lines b.blocks) in
    let left = drop (length lines + 1) (changes_lines b.blocks) in
    let one = one_more lines taken rest b.rest are (All-take IsLine (length lines + 1) (changes_lines b.blocks) (are_lines None b.blocks b.are)) (length-take-le (length lines + 1) (changes_lines b.blocks) b.many) (sym e ∙ b.text_is) in
    never one.line one.behind one.rest_is one.is_line b.blocks left b.are
    (sym (take-append-drop (length lines + 1) (changes_lines b.blocks)) ∙ ap (λ (ls : List (List ℕ)). ls ++ left) one.lines ∙ append_assoc lines (one.line ∷ []) left)

-- and so the text is no change text, unless nothing is left
not_further : (lines more : List (List ℕ)) (text rest : List ℕ) (blocks : List Block) → AreBlocks blocks → text ≡ ended lines ++ rest → changes_lines blocks ≡ lines ++ more → rest ≡ ended more
    → (Begins (length lines + 1) text → ⊥) → (rest ≡ [] → changes_lines blocks ≡ lines → ⊥) → ⊥
not_further lines [] text rest blocks are e is f bad whole = whole f (is ∙ append-nil lines)
not_further lines (l ∷ ls) text rest blocks are e is f bad whole =
    let more : text ≡ ended (lines ++ l ∷ []) ++ ended ls = e ∙ ap (λ (bytes : List ℕ). ended lines ++ bytes) (f ∙ ended-append (l ∷ []) ls) ∙ sym (append_assoc (ended lines) (ended (l ∷ [])) (ended ls)) ∙ ap (λ (bytes : List ℕ). bytes ++ ended ls) (sym (ended-append lines (l ∷ []))) in
    bad (subst (λ (n : ℕ). Begins n text) (length-append lines (l ∷ [])) (begins_from (lines ++ l ∷ []) ls blocks text (ended ls) are (is ∙ sym (append_assoc lines (l ∷ []) ls)) more))

no_changes : (lines : List (List ℕ)) (text rest : List ℕ) → All IsLine lines → text ≡ ended lines ++ rest → (Begins (length lines + 1) text → ⊥) → ((blocks : List Block) → AreBlocks blocks → rest ≡ [] → changes_lines blocks ≡ lines → ⊥)
    → (blocks : List Block) → IsChanges text blocks → ⊥
no_changes lines text rest are e bad whole blocks is =
    let further = ended_front lines (changes_lines blocks) rest are (are_lines None blocks is.are) (sym e ∙ is.text_is) in
    not_further lines further.more text rest blocks is.are e further.lines further.rest_is bad (whole blocks is.are)

less_one : (n : ℕ) → (n + 1) - 1 ≡ n
less_one n = omega arith

is_bad : (lines : List (List ℕ)) (text rest : List ℕ) → Begins (length lines) text → All IsLine lines → text ≡ ended lines ++ rest → ((line behind : List ℕ) → rest ≡ line ++ 10 ∷ behind → IsLine line → Refused lines line)
    → ((blocks : List Block) → AreBlocks blocks → rest ≡ [] → changes_lines blocks ≡ lines → ⊥) → IsBadLine text (length lines + 1)
is_bad lines text rest begins are e never whole =
    let bad = bad_next lines text rest are e never in record {
      none = no_changes lines text rest are e bad whole;
      before = subst (λ (n : ℕ). Begins n text) (sym (less_one (length lines))) begins;
      bad = bad;
    }

-- a block that is open isn't whole
not_whole : (before : Option Block) (b : Block) (more : List Block) → IsBlock b → AreFrom before more → front_lines b ≡ changes_lines more → ⊥
not_whole before b [] is are e = cc
not_whole before b (c ∷ cs) is are e = no_end b.rows c.rows (changes_lines cs) is.rows are.0.rows (same_tail e ∙ append_assoc (map row_line c.rows) (last_line ∷ []) (changes_lines cs))

open_whole : (begun : Option Opened) (o : Opened) (blocks others : List Block) (rows table : List Row) (place : ℕ) → begun ≡ Some o → AreBlocks blocks → IsPart begun (last_table None blocks) rows table place → AreBlocks others
    → changes_lines others ≡ changes_lines blocks ++ open_lines begun rows → ⊥
open_whole None o blocks others rows table place some are part q e = absurd cc
open_whole (Some p) o blocks others rows table place some are part q e =
    let goes = blocks_front None blocks others (front_lines (opened_block p rows)) are q (sym e) in
    not_whole (last_table None blocks) (opened_block p rows) goes.more part.block goes.are goes.lines

some_of : (x : Option Opened) → is_some x ≡ true → (o : Opened) × (x ≡ Some o)
some_of None e = absurd cc
some_of (Some o) e = (o, refl)

-- ---- a reader's text

module _ (r : Reader) (text rest : List ℕ) (is : IsReader r) (e : text ≡ ended (lines_so_far r) ++ rest) where
  so_far_begins : Begins (length (lines_so_far r)) text
  so_far_begins = open_begins r.begun r.flat.blocks r.flat.rows r.table.items r.place text rest is.are is.part e

  so_far_lines : All IsLine (lines_so_far r)
  so_far_lines = open_are_lines r.begun r.flat.blocks r.flat.rows r.table.items r.place is.are is.part

  -- no byte ends a line of the rest
  pub unfinished : 0 < length rest → IsLine rest → IsBadLine text (length (lines_so_far r) + 1)
  unfinished some line =
      is_bad (lines_so_far r) text rest so_far_begins so_far_lines e
      (λ l behind f is_line. absurd (has 10 l behind rest line f))
      (λ blocks are none same. omega (arith, some, ap (λ (bytes : List ℕ). length bytes) none))

  -- the next line was refused
  pub refused : (line behind : List ℕ) → IsCutAt 10 rest line behind → Refused (lines_so_far r) line → IsBadLine text (length (lines_so_far r) + 1)
  refused line behind cut never =
      is_bad (lines_so_far r) text rest so_far_begins so_far_lines e
      (λ l more f is_line. subst (λ (bytes : List ℕ). Refused (lines_so_far r) bytes) (first_split 10 line l behind more cut.without is_line (sym cut.split ∙ f)).0 never)
      (λ blocks are none same. omega (arith, ap (λ (bytes : List ℕ). length bytes) (sym cut.split ∙ none), length-append line (10 ∷ behind)))

  -- the text ends in a block
  pub missing : (o : Opened) → r.begun ≡ Some o → rest ≡ [] → IsBadLine text (length (lines_so_far r) + 1)
  missing o some none =
      is_bad (lines_so_far r) text rest so_far_begins so_far_lines e
      (λ l behind f is_line. absurd (omega (arith, ap (λ (bytes : List ℕ). length bytes) (sym f ∙ none), length-append l (10 ∷ behind))))
      (λ blocks are empty same. open_whole r.begun o r.flat.blocks blocks r.flat.rows r.table.items r.place some is.are is.part are same)

  pub missing_end : is_some r.begun ≡ true → rest ≡ [] → IsBadLine text (length (lines_so_far r) + 1)
  missing_end some none = let o = some_of r.begun some in missing o.0 o.1 none

  -- the text ends behind a block
  pub whole_text : r.begun ≡ None → rest ≡ [] → IsChanges text r.flat.blocks
  whole_text none empty = record {
    are = is.are;
    text_is = e ∙ ap (λ (bytes : List ℕ). ended (lines_so_far r) ++ bytes) empty ∙ append-nil (ended (lines_so_far r))
        ∙ ap (λ (o : Option Opened). ended (changes_lines r.flat.blocks ++ open_lines o r.flat.rows)) none ∙ ap ended (append-nil (changes_lines r.flat.blocks));
  }
