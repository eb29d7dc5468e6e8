-- Lists of blocks: their lines are read in one way, and one more block.
use Rattle.std.proofs.Common.{◌≡◌, ◌∙◌, ◌⊎◌, ℕ, ◌+◌, List, [], ◌∷◌, ◌++◌, length, map, Option, Some, None, All, refl, sym, ap, subst, arith, inl, inr, append_assoc, append-nil, length-append}
use Rattle.std.proofs.lemmas.List.Concat.{flat_map-append}
use Rattle.std.proofs.lemmas.List.Elements.{All-append, All-head, All-nil, All-tail}
use Rattle.vertex_lang.specs.declared.lone.Outcome.{Outcome}
use Rattle.result_tables.specs.TableText.{line_end}
use Rattle.change_text.specs.declared.kind.Kind.{Kind}
use Rattle.change_text.specs.declared.kind.Kind.TheVariants as kind
use Rattle.change_text.specs.declared.row.Row.{Row}
use Rattle.change_text.specs.Blocks.{Block, AreFrom, Follows, IsBlock, IsLine, IsRising, IsRow, rows_after, table_of}
use Rattle.change_text.specs.Spelling.{block_lines, changes_lines, changes_text, ended, front_lines, last_line, opening_line, row_line}
use Rattle.change_text.specs.Reading.{IsChanges}
use Rattle.change_text.specs.Inside.{RisesIn, last_rows, last_table}
use Rattle.change_text.proofs.Split.{first_split, same_cons, same_head, same_tail}
use Rattle.change_text.proofs.Lines.{block_are_lines, row_not_last, same_opening, same_row_line}
use Rattle.change_text.proofs.Rows.{rising_put_all}

-- ---- lines, each with the byte that ends it

one_ended : (line : List ℕ) (rest : List ℕ) → (line ++ line_end) ++ rest ≡ line ++ 10 ∷ rest
one_ended line rest = append_assoc line line_end rest

ended_cons : (line : List ℕ) (lines : List (List ℕ)) (rest : List ℕ) → ended (line ∷ lines) ++ rest ≡ line ++ 10 ∷ (ended lines ++ rest)
ended_cons line lines rest = append_assoc (line ++ line_end) (ended lines) rest ∙ one_ended line (ended lines ++ rest)

pub ended-append : (xs ys : List (List ℕ)) → ended (xs ++ ys) ≡ ended xs ++ ended ys
ended-append xs ys = flat_map-append (λ (line : List ℕ). line ++ line_end) xs ys

-- the next line of two texts that begin with a line
same_line : (a b x y : List ℕ) → IsLine a → IsLine b → (xs ys : List (List ℕ)) → ended (a ∷ xs) ++ x ≡ ended (b ∷ ys) ++ y → (a ≡ b) × (ended xs ++ x ≡ ended ys ++ y)
same_line a b x y p q xs ys e =
    first_split 10 a b (ended xs ++ x) (ended ys ++ y) p q (sym (ended_cons a xs x) ∙ e ∙ ended_cons b ys y)

no_lines : (line : List ℕ) (lines : List (List ℕ)) (rest : List ℕ) → ended (line ∷ lines) ++ rest ≡ [] → ⊥
no_lines line lines rest e = omega (arith, ap length (sym (ended_cons line lines rest) ∙ e), length-append line (10 ∷ (ended lines ++ rest)))

-- lines and a rest, which together are lines
pub record Further (xs ys : List (List ℕ)) (rest : List ℕ) : Type 0 where
  pub more : List (List ℕ)
  pub lines : ys ≡ xs ++ more
  pub rest_is : rest ≡ ended more

pub ended_front : (xs ys : List (List ℕ)) (rest : List ℕ) → All IsLine xs → All IsLine ys → ended xs ++ rest ≡ ended ys → Further xs ys rest
ended_front [] ys rest p q e = record { more = ys; lines = refl; rest_is = e }
ended_front (x ∷ xs) [] rest p q e = absurd (no_lines x xs rest e)
ended_front (x ∷ xs) (y ∷ ys) rest p q e =
    let cut = same_line x y rest [] (All-head IsLine x xs p) (All-head IsLine y ys q) xs ys (e ∙ sym (append-nil (ended (y ∷ ys)))) in
    let r = ended_front xs ys rest (All-tail IsLine x xs p) (All-tail IsLine y ys q) (cut.1 ∙ append-nil (ended ys)) in
    record { more = r.more; lines = same_cons (sym cut.0) r.lines; rest_is = r.rest_is }

-- a text is cut in lines in one way: one more line than those that were read
pub record OneMore (xs ys : List (List ℕ)) (rest : List ℕ) : Type 0 where
  pub line : List ℕ
  pub behind : List ℕ
  pub is_line : IsLine line
  pub lines : ys ≡ xs ++ line ∷ []
  pub rest_is : rest ≡ line ++ 10 ∷ behind

pub one_more : (xs ys : List (List ℕ)) (x y : List ℕ) → All IsLine xs → All IsLine ys → length ys ≡ length xs + 1 → ended xs ++ x ≡ ended ys ++ y → OneMore xs ys x
one_more [] [] x y p q many e = absurd (omega (arith, many))
one_more [] (l ∷ []) x y p q many e = record { line = l; behind = ended [] ++ y; is_line = All-head IsLine l [] q; lines = refl; rest_is = e ∙ ended_cons l [] y }
one_more [] (l ∷ m ∷ ls) x y p q many e = absurd (omega (arith, many))
one_more (k ∷ xs) [] x y p q many e = absurd (omega (arith, many))
one_more (k ∷ xs) (l ∷ ys) x y p q many e =
    let cut = same_line k l x y (All-head IsLine k xs p) (All-head IsLine l ys q) xs ys e in
    let r = one_more xs ys x y (All-tail IsLine k xs p) (All-tail IsLine l ys q) (omega (arith, many)) cut.1 in
    record { line = r.line; behind = r.behind; is_line = r.is_line; lines = same_cons (sym cut.0) r.lines; rest_is = r.rest_is }

-- ---- the lines of a block

-- behind the rows of one block come the same lines as behind those rows of another: its last line, or one more row
abbrev pub Behind : List Row → List Row → List ℕ → Type 0
Behind rows others line = ((others ≡ rows) × (line ≡ last_line)) ⊎ ((p : Row × List Row) × (others ≡ rows ++ p.0 ∷ p.1) × (line ≡ row_line p.0))

behind_cons : (r s : Row) (rows others : List Row) (line : List ℕ) → s ≡ r → Behind rows others line → Behind (r ∷ rows) (s ∷ others) line
behind_cons r s rows others line e (inl h) = inl (same_cons e h.0, h.1)
behind_cons r s rows others line e (inr h) = inr (h.0, same_cons e h.1, h.2)

pub behind_rows : (rows others : List Row) (line : List ℕ) (x y : List (List ℕ)) → All IsRow rows → All IsRow others → map row_line rows ++ line ∷ x ≡ map row_line others ++ last_line ∷ y → Behind rows others line
behind_rows [] [] line x y p q e = inl (refl, same_head e)
behind_rows [] (s ∷ others) line x y p q e = inr ((s, others), refl, same_head e)
behind_rows (r ∷ rows) [] line x y p q e = absurd (row_not_last r (same_head e))
behind_rows (r ∷ rows) (s ∷ others) line x y p q e =
    let same : s ≡ r = sym (same_row_line r s (All-head IsRow r rows p) (All-head IsRow s others q) (same_head e)) in
    behind_cons r s rows others line same (behind_rows rows others line x y (All-tail IsRow r rows p) (All-tail IsRow s others q) (same_tail e))

-- without a line behind the rows, a block has no end
pub no_end : (rows others : List Row) (y : List (List ℕ)) → All IsRow rows → All IsRow others → map row_line rows ≡ map row_line others ++ last_line ∷ y → ⊥
no_end [] [] y p q e = cc
no_end [] (s ∷ others) y p q e = cc
no_end (r ∷ rows) [] y p q e = row_not_last r (same_head e)
no_end (r ∷ rows) (s ∷ others) y p q e = no_end rows others y (All-tail IsRow r rows p) (All-tail IsRow s others q) (same_tail e)

same_rows : (rows others : List Row) (x y : List (List ℕ)) → All IsRow rows → All IsRow others → map row_line rows ++ last_line ∷ x ≡ map row_line others ++ last_line ∷ y → (rows ≡ others) × (x ≡ y)
same_rows [] [] x y p q e = (refl, same_tail e)
same_rows [] (s ∷ others) x y p q e = absurd (row_not_last s (sym (same_head e)))
same_rows (r ∷ rows) [] x y p q e = absurd (row_not_last r (same_head e))
same_rows (r ∷ rows) (s ∷ others) x y p q e =
    let k = same_rows rows others x y (All-tail IsRow r rows p) (All-tail IsRow s others q) (same_tail e) in
    (same_cons (same_row_line r s (All-head IsRow r rows p) (All-head IsRow s others q) (same_head e)) k.0, k.1)

abbrev block_with : Kind → List ℕ → Outcome → List Row → Block
block_with k head o rows = record { kind = k; head = head; outcome = o; rows = rows }

pub same_block : (b c : Block) → b.kind ≡ c.kind → b.head ≡ c.head → b.outcome ≡ c.outcome → b.rows ≡ c.rows → b ≡ c
same_block b c p q r s =
    ap (λ (k : Kind). block_with k b.head b.outcome b.rows) p
    ∙ ap (λ (head : List ℕ). block_with c.kind head b.outcome b.rows) q
    ∙ ap (λ (o : Outcome). block_with c.kind c.head o b.rows) r
    ∙ ap (λ (rows : List Row). block_with c.kind c.head c.outcome rows) s

pub lines_split : (b : Block) (x : List (List ℕ)) → block_lines b ++ x ≡ opening_line b.kind b.head b.outcome ∷ (map row_line b.rows ++ last_line ∷ x)
lines_split b x = append_assoc (front_lines b) (last_line ∷ []) x

pub block_front : (b c : Block) (x y : List (List ℕ)) → IsBlock b → IsBlock c → block_lines b ++ x ≡ block_lines c ++ y → (b ≡ c) × (x ≡ y)
block_front b c x y p q e =
    let f = sym (lines_split b x) ∙ e ∙ lines_split c y in
    let opening = same_opening b.kind c.kind b.head c.head b.outcome c.outcome p.outcome q.outcome (same_head f) in
    let rows = same_rows b.rows c.rows x y p.rows q.rows (same_tail f) in
    (same_block b c opening.0 opening.1 opening.2 rows.0, rows.1)

-- ---- the lines of blocks

-- blocks whose lines go on behind those of other blocks
pub record GoesOn (before : Option Block) (bs cs : List Block) (x : List (List ℕ)) : Type 0 where
  pub more : List Block
  pub blocks : cs ≡ bs ++ more
  pub lines : x ≡ changes_lines more
  pub are : AreFrom (last_table before bs) more

pub blocks_front : (before : Option Block) (bs cs : List Block) (x : List (List ℕ)) → AreFrom before bs → AreFrom before cs → changes_lines bs ++ x ≡ changes_lines cs → GoesOn before bs cs x
blocks_front before [] cs x p q e = record { more = cs; blocks = refl; lines = e; are = q }
blocks_front before (b ∷ bs) [] x p q e = absurd cc
blocks_front before (b ∷ bs) (c ∷ cs) x p q e =
    let f = sym (append_assoc (block_lines b) (changes_lines bs) x) ∙ e in
    let k = block_front b c (changes_lines bs ++ x) (changes_lines cs) p.0 q.0 f in
    let same : c ≡ b = sym k.0 in
    let r = blocks_front (Some (table_of before b)) bs cs x p.2 (subst (λ (d : Block). AreFrom (Some (table_of before d)) cs) same q.2) k.1 in
    record { more = r.more; blocks = same_cons same r.blocks; lines = r.lines; are = r.are }

pub are_lines : (before : Option Block) (bs : List Block) → AreFrom before bs → All IsLine (changes_lines bs)
are_lines before [] are = All-nil IsLine
are_lines before (b ∷ bs) are = All-append IsLine (block_lines b) (changes_lines bs) (block_are_lines b are.0) (are_lines (Some (table_of before b)) bs are.2)

no_ended : (lines : List (List ℕ)) → ended lines ≡ [] → lines ≡ []
no_ended [] e = refl
no_ended (l ∷ ls) e = absurd (no_lines l ls [] (append-nil (ended (l ∷ ls)) ∙ e))

none_more : (more : List Block) → [] ≡ changes_lines more → more ≡ []
none_more [] e = refl
none_more (b ∷ more) e = absurd cc

pub same_blocks : (text : List ℕ) (bs cs : List Block) → IsChanges text bs → IsChanges text cs → bs ≡ cs
same_blocks text bs cs p q =
    let lines = ended_front (changes_lines bs) (changes_lines cs) [] (are_lines None bs p.are) (are_lines None cs q.are) (append-nil (changes_text bs) ∙ sym p.text_is ∙ q.text_is) in
    let none : lines.more ≡ [] = no_ended lines.more (sym lines.rest_is) in
    let r = blocks_front None bs cs [] p.are q.are (append-nil (changes_lines bs) ∙ sym (lines.lines ∙ ap (λ (ls : List (List ℕ)). changes_lines bs ++ ls) none ∙ append-nil (changes_lines bs))) in
    sym (r.blocks ∙ ap (λ (ds : List Block). bs ++ ds) (none_more r.more r.lines) ∙ append-nil bs)

-- ---- one more block

pub are_push : (before : Option Block) (bs : List Block) (b : Block) → AreFrom before bs → IsBlock b → Follows (last_table before bs) b → AreFrom before (bs ++ b ∷ [])
are_push before [] b are is follows = (is, follows, tt)
are_push before (c ∷ bs) b are is follows = (are.0, are.1, are_push (Some (table_of before c)) bs b are.2 is follows)

pub last_push : (before : Option Block) (bs : List Block) (b : Block) → last_table before (bs ++ b ∷ []) ≡ Some (table_of (last_table before bs) b)
last_push before [] b = refl
last_push before (c ∷ bs) b = last_push (Some (table_of before c)) bs b

pub lines_push : (bs : List Block) (b : Block) → changes_lines (bs ++ b ∷ []) ≡ changes_lines bs ++ block_lines b
lines_push bs b = flat_map-append block_lines bs (b ∷ []) ∙ ap (λ (ls : List (List ℕ)). changes_lines bs ++ ls) (append-nil (block_lines b))

pub rises_as : (k : Kind) (before : Option Block) (rows : List Row) → RisesIn before → IsRising rows → IsRising (rows_after k before rows)
rises_as kind.Full before rows up own = own
rises_as kind.Change None rows up own = own
rises_as kind.Change (Some table) rows up own = rising_put_all table.rows rows up

pub last_rises : (before : Option Block) (bs : List Block) → RisesIn before → AreFrom before bs → RisesIn (last_table before bs)
last_rises before [] up are = up
last_rises before (b ∷ bs) up are = last_rises (Some (table_of before b)) bs (rises_as b.kind before b.rows up are.0.rising) are.2

pub rows_rise : (before : Option Block) → RisesIn before → IsRising (last_rows before)
rows_rise None up = tt
rows_rise (Some table) up = up
