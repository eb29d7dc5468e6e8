-- One more line: what it leaves where it is taken, and why no change text has it where it is not.
use Rattle.std.proofs.Common.{◌≡◌, ◌≢◌, ◌∙◌, ℕ, ◌<◌, ◌≤◌, true, false, List, [], ◌∷◌, ◌++◌, length, take, map, Option, Some, None, All, refl, sym, ap, subst, arith, append_assoc, append-nil, true≢false, inl, inr}
use Rattle.std.proofs.lemmas.List.{map_push}
use Rattle.std.proofs.lemmas.List.Elements.{All-nil, All-push, All-weaker}
use Rattle.vertex_lang.specs.declared.lone.Outcome.{Outcome}
use Rattle.vertex_lang.specs.declared.lone.Outcome.TheVariants as outcome
use Rattle.change_text.specs.declared.kind.Kind.{Kind}
use Rattle.change_text.specs.declared.kind.Kind.TheVariants as kind
use Rattle.change_text.specs.declared.reader.Opened.{Opened}
use Rattle.change_text.specs.declared.row.Row.{Row}
use Rattle.change_text.specs.Blocks.{Block, AreBlocks, AreFrom, Differs, Follows, FollowsAs, HasRows, IsBlock, IsRising, IsRow, put, rows_after}
use Rattle.change_text.specs.Spelling.{changes_lines, front_lines, last_line, opening_line, row_line}
use Rattle.change_text.specs.Inside.{Brings, IsChanging, IsOpen, IsOpenAs, IsPart, IsShut, KeepsTable, Opens, ReadsRow, Refused, RisesIn, has_rows, last_outcome, last_rows, last_table, may_change, may_stand, next_id, open_lines, opened_block, settled}
use Rattle.change_text.proofs.Split.{same_head, same_tail}
use Rattle.change_text.proofs.Lines.{same_opening, same_row_line}
use Rattle.change_text.proofs.Rows.{all_lower, all_middle, differs_after, differs_before, next_push, put_push, rises_behind, rising_put_all, rising_push}
use Rattle.change_text.proofs.Blocks.{Behind, are_push, behind_rows, blocks_front, last_push, last_rises, lines_push, lines_split, same_block}

-- ---- first lines

another_opening : (before : Option Block) (line : List ℕ) (x : List (List ℕ)) (more : List Block) → AreFrom before more → line ∷ x ≡ changes_lines more
    → ((b : Block) → IsBlock b → Follows before b → line ≡ opening_line b.kind b.head b.outcome → ⊥) → ⊥
another_opening before line x [] are e never = cc
another_opening before line x (b ∷ more) are e never = never b are.0 are.1 (same_head e)

pub refused_opening : (blocks : List Block) (line : List ℕ) → AreBlocks blocks → ((b : Block) → IsBlock b → Follows (last_table None blocks) b → line ≡ opening_line b.kind b.head b.outcome → ⊥) → Refused (changes_lines blocks ++ []) line
refused_opening blocks line are never others more q e =
    let goes = blocks_front None blocks others (line ∷ more) are q (sym (e ∙ append_assoc (changes_lines blocks) [] (line ∷ more))) in
    another_opening (last_table None blocks) line more goes.more goes.are goes.lines never

pub opens_nothing : (blocks : List Block) (line : List ℕ) → AreBlocks blocks → ((k : Kind) (head : List ℕ) (o : Outcome) → Opens k head o line → ⊥) → Refused (changes_lines blocks ++ []) line
opens_nothing blocks line are never = refused_opening blocks line are (λ b is follows e. never b.kind b.head b.outcome (record { head = is.head; outcome = is.outcome; line_is = e }))

may_both : (x y : Outcome) → x ≢ outcome.Unsettled → y ≢ outcome.Unsettled → may_change (Some x) y ≡ true
may_both (outcome.Settled r) (outcome.Settled s) p q = refl
may_both (outcome.Settled r) (outcome.After s) p q = refl
may_both (outcome.Settled r) (outcome.Phases s) p q = refl
may_both (outcome.After r) (outcome.Settled s) p q = refl
may_both (outcome.After r) (outcome.After s) p q = refl
may_both (outcome.After r) (outcome.Phases s) p q = refl
may_both (outcome.Phases r) (outcome.Settled s) p q = refl
may_both (outcome.Phases r) (outcome.After s) p q = refl
may_both (outcome.Phases r) (outcome.Phases s) p q = refl
may_both outcome.Unsettled y p q = absurd (p refl)
may_both (outcome.Settled r) outcome.Unsettled p q = absurd (q refl)
may_both (outcome.After r) outcome.Unsettled p q = absurd (q refl)
may_both (outcome.Phases r) outcome.Unsettled p q = absurd (q refl)

both_may : (x y : Outcome) → may_change (Some x) y ≡ true → (x ≢ outcome.Unsettled) × (y ≢ outcome.Unsettled)
both_may (outcome.Settled r) (outcome.Settled s) e = (λ f. absurd cc, λ f. absurd cc)
both_may (outcome.Settled r) (outcome.After s) e = (λ f. absurd cc, λ f. absurd cc)
both_may (outcome.Settled r) (outcome.Phases s) e = (λ f. absurd cc, λ f. absurd cc)
both_may (outcome.After r) (outcome.Settled s) e = (λ f. absurd cc, λ f. absurd cc)
both_may (outcome.After r) (outcome.After s) e = (λ f. absurd cc, λ f. absurd cc)
both_may (outcome.After r) (outcome.Phases s) e = (λ f. absurd cc, λ f. absurd cc)
both_may (outcome.Phases r) (outcome.Settled s) e = (λ f. absurd cc, λ f. absurd cc)
both_may (outcome.Phases r) (outcome.After s) e = (λ f. absurd cc, λ f. absurd cc)
both_may (outcome.Phases r) (outcome.Phases s) e = (λ f. absurd cc, λ f. absurd cc)
both_may outcome.Unsettled y e = absurd cc
both_may (outcome.Settled r) outcome.Unsettled e = absurd cc
both_may (outcome.After r) outcome.Unsettled e = absurd cc
both_may (outcome.Phases r) outcome.Unsettled e = absurd cc

stands : (k : Kind) (before : Option Block) (b : Block) → FollowsAs k before b → may_stand (last_outcome before) k b.outcome ≡ true
stands kind.Full before b f = refl
stands kind.Change None b f = absurd f
stands kind.Change (Some table) b f = may_both table.outcome b.outcome f.0 f.1

may_follow : (k : Kind) (before : Option Block) (b : Block) → may_stand (last_outcome before) k b.outcome ≡ true → b.rows ≡ [] → FollowsAs k before b
may_follow kind.Full before b e none = tt
may_follow kind.Change None b e none = absurd cc
may_follow kind.Change (Some table) b e none = let m = both_may table.outcome b.outcome e in (m.0, m.1, subst (λ (rows : List Row). All (Differs table.rows) rows) (sym none) (All-nil (Differs table.rows)))

pub stands_nowhere : (blocks : List Block) (line head : List ℕ) (k : Kind) (o : Outcome) → AreBlocks blocks → Opens k head o line → may_stand (last_outcome (last_table None blocks)) k o ≡ false → Refused (changes_lines blocks ++ []) line
stands_nowhere blocks line head k o are opens never =
    refused_opening blocks line are (λ b is follows e.
    let same = same_opening b.kind k b.head head b.outcome o is.outcome opens.outcome (sym e ∙ opens.line_is) in
    let is_so : may_stand (last_outcome (last_table None blocks)) k o ≡ true =
    subst (λ (l : Kind). may_stand (last_outcome (last_table None blocks)) l o ≡ true) same.0
    (subst (λ (p : Outcome). may_stand (last_outcome (last_table None blocks)) b.kind p ≡ true) same.2 (stands b.kind (last_table None blocks) b follows)) in
    true≢false (sym is_so ∙ never))

none_has_rows : (o : Outcome) → HasRows o []
none_has_rows (outcome.Settled r) = tt
none_has_rows (outcome.After r) = tt
none_has_rows (outcome.Phases r) = tt
none_has_rows outcome.Unsettled = refl

keeps_first : (k : Kind) (before : Option Block) (table : List Row) → table ≡ last_rows before → KeepsTable k before [] table 0
keeps_first kind.Full before table e = omega arith
keeps_first kind.Change None table e = (e, omega arith, All-nil (λ (r : Row). r.id < next_id []))
keeps_first kind.Change (Some t) table e = (e, omega arith, All-nil (λ (r : Row). r.id < next_id []))

pub opened : (before : Option Block) (o : Opened) (line : List ℕ) (rows table : List Row) (place : ℕ) → IsShut before rows table place → Opens o.kind o.head o.outcome line → may_stand (last_outcome before) o.kind o.outcome ≡ true
    → IsOpen o before rows table place
opened before o line rows table place shut opens may =
    subst (λ (rs : List Row). IsOpen o before rs table place) (sym shut.none) (subst (λ (n : ℕ). IsOpen o before [] table n) (sym shut.place_is) (record {
      block = record { head = opens.head; outcome = opens.outcome; rows = All-nil IsRow; rising = tt; unsettled = none_has_rows o.outcome };
      follows = may_follow o.kind before (opened_block o []) may refl;
      keeps = keeps_first o.kind before table shut.keeps;
    }))

pub opened_lines : (blocks : List Block) (o : Opened) (line : List ℕ) (rows : List Row) → rows ≡ [] → Opens o.kind o.head o.outcome line
    → changes_lines blocks ++ front_lines (opened_block o rows) ≡ (changes_lines blocks ++ []) ++ line ∷ []
opened_lines blocks o line rows none opens =
    ap (λ (rs : List Row). changes_lines blocks ++ front_lines (opened_block o rs)) none
    ∙ ap (λ (l : List ℕ). changes_lines blocks ++ l ∷ []) (sym opens.line_is)
    ∙ ap (λ (ls : List (List ℕ)). ls ++ line ∷ []) (sym (append-nil (changes_lines blocks)))

-- ---- rows

another_row : (before : Option Block) (b c : Block) (line : List ℕ) (x : List (List ℕ)) → IsBlock b → IsBlock c → Follows before c → c.kind ≡ b.kind → c.head ≡ b.head → c.outcome ≡ b.outcome → line ≢ last_line → Behind b.rows c.rows line
    → ((row : Row) (rest : List Row) → line ≡ row_line row → IsBlock (record { kind = b.kind; head = b.head; outcome = b.outcome; rows = b.rows ++ row ∷ rest })
    → Follows before (record { kind = b.kind; head = b.head; outcome = b.outcome; rows = b.rows ++ row ∷ rest }) → ⊥) → ⊥
another_row before b c line x p q follows k head o ne (inl h) never = ne h.1
another_row before b c line x p q follows k head o ne (inr h) never =
    let longer : Block = record { kind = b.kind; head = b.head; outcome = b.outcome; rows = b.rows ++ h.0.0 ∷ h.0.1 } in
    let same : c ≡ longer = same_block c longer k head o h.1 in
    never h.0.0 h.0.1 h.2 (subst (λ (d : Block). IsBlock d) same q) (subst (λ (d : Block). Follows before d) same follows)

another_line : (before : Option Block) (b : Block) (line : List ℕ) (x : List (List ℕ)) (more : List Block) → IsBlock b → AreFrom before more → front_lines b ++ line ∷ x ≡ changes_lines more → line ≢ last_line
    → ((row : Row) (rest : List Row) → line ≡ row_line row → IsBlock (record { kind = b.kind; head = b.head; outcome = b.outcome; rows = b.rows ++ row ∷ rest })
    → Follows before (record { kind = b.kind; head = b.head; outcome = b.outcome; rows = b.rows ++ row ∷ rest }) → ⊥) → ⊥
another_line before b line x [] is are e ne never = cc
another_line before b line x (c ∷ more) is are e ne never =
    let f = e ∙ lines_split c (changes_lines more) in
    let opening = same_opening c.kind b.kind c.head b.head c.outcome b.outcome are.0.outcome is.outcome (sym (same_head f)) in
    another_row before b c line x is are.0 are.1 opening.0 opening.1 opening.2 ne (behind_rows b.rows c.rows line x (changes_lines more) is.rows are.0.rows (same_tail f)) never

-- what no block has behind those rows
abbrev pub NoRow : Option Block → Block → Row → Type 0
NoRow before b row = (rest : List Row) → IsBlock (record { kind = b.kind; head = b.head; outcome = b.outcome; rows = b.rows ++ row ∷ rest })
    → Follows before (record { kind = b.kind; head = b.head; outcome = b.outcome; rows = b.rows ++ row ∷ rest }) → ⊥

refused_line : (blocks : List Block) (b : Block) (line : List ℕ) → AreBlocks blocks → IsBlock b → line ≢ last_line → ((row : Row) (rest : List Row) → line ≡ row_line row → IsBlock (record { kind = b.kind; head = b.head; outcome = b.outcome; rows = b.rows ++ row ∷ rest })
    → Follows (last_table None blocks) (record { kind = b.kind; head = b.head; outcome = b.outcome; rows = b.rows ++ row ∷ rest }) → ⊥) → Refused (changes_lines blocks ++ front_lines b) line
refused_line blocks b line are is ne never others more q e =
    let goes = blocks_front None blocks others (front_lines b ++ line ∷ more) are q (sym (e ∙ append_assoc (changes_lines blocks) (front_lines b) (line ∷ more))) in
    another_line (last_table None blocks) b line more goes.more is goes.are goes.lines ne never

pub no_row_read : (blocks : List Block) (b : Block) (line : List ℕ) → AreBlocks blocks → IsBlock b → line ≢ last_line → ReadsRow line None → Refused (changes_lines blocks ++ front_lines b) line
no_row_read blocks b line are is ne never = refused_line blocks b line are is ne (λ row rest e more follows. never row (all_middle IsRow b.rows row rest more.rows) e)

pub row_refused : (blocks : List Block) (b : Block) (line : List ℕ) (row : Row) → AreBlocks blocks → IsBlock b → line ≢ last_line → ReadsRow line (Some row) → NoRow (last_table None blocks) b row → Refused (changes_lines blocks ++ front_lines b) line
row_refused blocks b line row are is ne read never =
    refused_line blocks b line are is ne (λ other rest e more follows.
    let same : other ≡ row = same_row_line other row (all_middle IsRow b.rows other rest more.rows) read.0 (sym e ∙ read.1) in
    never rest
    (subst (λ (r : Row). IsBlock (record { kind = b.kind; head = b.head; outcome = b.outcome; rows = b.rows ++ r ∷ rest })) same more)
    (subst (λ (r : Row). Follows (last_table None blocks) (record { kind = b.kind; head = b.head; outcome = b.outcome; rows = b.rows ++ r ∷ rest })) same follows))

-- its id isn't above the others
pub too_low : (before : Option Block) (b : Block) (row : Row) → row.id < next_id b.rows → NoRow before b row
too_low before b row low rest more follows = omega (arith, low, rises_behind b.rows row rest more.rising)

some_rows : (rows : List Row) (row : Row) (rest : List Row) → rows ++ row ∷ rest ≡ [] → ⊥
some_rows [] row rest e = cc
some_rows (r ∷ rs) row rest e = cc

no_rows : (o : Outcome) (rows : List Row) (row : Row) (rest : List Row) → has_rows o ≡ false → HasRows o (rows ++ row ∷ rest) → ⊥
no_rows (outcome.Settled r) rows row rest e h = cc
no_rows (outcome.After r) rows row rest e h = cc
no_rows (outcome.Phases r) rows row rest e h = cc
no_rows outcome.Unsettled rows row rest e h = some_rows rows row rest h

-- an unsettled block has no rows
pub unsettled_row : (before : Option Block) (b : Block) (row : Row) → has_rows b.outcome ≡ false → NoRow before b row
unsettled_row before b row e rest more follows = no_rows b.outcome b.rows row rest e more.unsettled

-- a row that doesn't differ
not_there : (k : Kind) (before : Option Block) (b : Block) (row : Row) (rest table after : List Row) (place : ℕ) → b.kind ≡ k → All (λ r. r.id < row.id) b.rows → KeepsTable k before b.rows table place → Brings k table place row after None
    → FollowsAs k before (record { kind = b.kind; head = b.head; outcome = b.outcome; rows = b.rows ++ row ∷ rest }) → ⊥
not_there kind.Full before b row rest table after place e low keeps brings follows = brings
not_there kind.Change None b row rest table after place e low keeps brings follows = follows
not_there kind.Change (Some t) b row rest table after place e low keeps brings follows =
    brings.0 (subst (λ (rs : List Row). Differs rs row) (sym keeps.0) (differs_after t.rows b.rows row low (all_middle (Differs t.rows) b.rows row rest follows.2)))

pub same_value_row : (before : Option Block) (b : Block) (row : Row) (table after : List Row) (place : ℕ) → IsBlock b → next_id b.rows ≤ row.id → KeepsTable b.kind before b.rows table place → Brings b.kind table place row after None → NoRow before b row
same_value_row before b row table after place is le keeps brings rest more follows =
    not_there b.kind before b row rest table after place refl (all_lower b.rows row.id is.rising le) keeps brings follows

rows_allowed : (o : Outcome) (rows more : List Row) → has_rows o ≡ true → HasRows o rows → HasRows o more
rows_allowed (outcome.Settled r) rows more e h = tt
rows_allowed (outcome.After r) rows more e h = tt
rows_allowed (outcome.Phases r) rows more e h = tt
rows_allowed outcome.Unsettled rows more e h = absurd cc

follows_more : (k : Kind) (before : Option Block) (b : Block) (row : Row) (table after : List Row) (place : ℕ) (next : ℕ) → All (λ r. r.id < row.id) b.rows → KeepsTable k before b.rows table place → FollowsAs k before b
    → Brings k table place row after (Some next) → FollowsAs k before (record { kind = b.kind; head = b.head; outcome = b.outcome; rows = b.rows ++ row ∷ [] })
follows_more kind.Full before b row table after place next low keeps follows brings = tt
follows_more kind.Change None b row table after place next low keeps follows brings = follows
follows_more kind.Change (Some t) b row table after place next low keeps follows brings = (
  follows.0,
  follows.1,
  All-push (Differs t.rows) b.rows row follows.2 (differs_before t.rows b.rows row low (subst (λ (rs : List Row). Differs rs row) keeps.0 brings.0)),
)

keeps_more : (k : Kind) (before : Option Block) (b : Block) (row : Row) (table after : List Row) (place next : ℕ) → FollowsAs k before b → KeepsTable k before b.rows table place → Brings k table place row after (Some next)
    → KeepsTable k before (b.rows ++ row ∷ []) after next
keeps_more kind.Full before b row table after place next follows keeps brings = brings
keeps_more kind.Change None b row table after place next follows keeps brings = absurd follows
keeps_more kind.Change (Some t) b row table after place next follows keeps brings = (
  brings.1 ∙ ap (λ (rs : List Row). put rs row) keeps.0 ∙ sym (put_push t.rows b.rows row),
  brings.2,
  All-weaker (λ (r : Row). r.id ≤ row.id) (λ (r : Row). r.id < next_id (b.rows ++ row ∷ [])) (λ r h. omega (arith, h, next_push b.rows row)) (take next after) brings.3,
)

pub row_taken : (before : Option Block) (o : Opened) (row : Row) (rows table after : List Row) (place next : ℕ) → IsOpen o before rows table place → IsRow row → next_id rows ≤ row.id → has_rows o.outcome ≡ true
    → Brings o.kind table place row after (Some next) → IsOpen o before (rows ++ row ∷ []) after next
row_taken before o row rows table after place next is good le has brings = record {
  block = record {
    head = is.block.head;
    outcome = is.block.outcome;
    rows = All-push IsRow rows row is.block.rows good;
    rising = rising_push rows row is.block.rising le;
    unsettled = rows_allowed o.outcome rows (rows ++ row ∷ []) has is.block.unsettled;
  };
  follows = follows_more o.kind before (opened_block o rows) row table after place next (all_lower rows row.id is.block.rising le) is.keeps is.follows brings;
  keeps = keeps_more o.kind before (opened_block o rows) row table after place next is.follows is.keeps brings;
}

pub row_lines : (blocks : List Block) (o : Opened) (rows : List Row) (row : Row) (line : List ℕ) → line ≡ row_line row
    → changes_lines blocks ++ front_lines (opened_block o (rows ++ row ∷ [])) ≡ (changes_lines blocks ++ front_lines (opened_block o rows)) ++ line ∷ []
row_lines blocks o rows row line e =
    ap (λ (ls : List (List ℕ)). changes_lines blocks ++ opening_line o.kind o.head o.outcome ∷ ls) (map_push row_line rows row ∙ ap (λ (l : List ℕ). map row_line rows ++ l ∷ []) (sym e))
    ∙ sym (append_assoc (changes_lines blocks) (front_lines (opened_block o rows)) (line ∷ []))

-- ---- last lines

pub closed_lines : (blocks : List Block) (b : Block) → changes_lines (blocks ++ b ∷ []) ++ [] ≡ (changes_lines blocks ++ front_lines b) ++ last_line ∷ []
closed_lines blocks b = append-nil (changes_lines (blocks ++ b ∷ [])) ∙ lines_push blocks b ∙ sym (append_assoc (changes_lines blocks) (front_lines b) (last_line ∷ []))

pub closed : (blocks : List Block) (b : Block) (rows table : List Row) (place : ℕ) → rows ≡ [] → place ≡ 0 → table ≡ rows_after b.kind (last_table None blocks) b.rows → IsShut (last_table None (blocks ++ b ∷ [])) rows table place
closed blocks b rows table place none at_zero keeps = record {
  none = none;
  keeps = keeps ∙ sym (ap last_rows (last_push None blocks b));
  place_is = at_zero;
}

pub closed_last : (blocks : List Block) (b : Block) → Some b.outcome ≡ last_outcome (last_table None (blocks ++ b ∷ []))
closed_last blocks b = sym (ap last_outcome (last_push None blocks b))

-- ---- the table of an open change rises

rises_so_far : (before : Option Block) (rows : List Row) → RisesIn before → IsRising rows → IsRising (rows_after kind.Change before rows)
rises_so_far None rows up own = own
rises_so_far (Some t) rows up own = rising_put_all t.rows rows up

pub kept_rises : (blocks : List Block) (o : Opened) (rows table : List Row) (place : ℕ) → AreBlocks blocks → o.kind ≡ kind.Change → IsOpen o (last_table None blocks) rows table place → IsRising table
kept_rises blocks o rows table place are change is =
    let keeps = subst (λ (k : Kind). KeepsTable k (last_table None blocks) rows table place) change is.keeps in
    subst (λ (rs : List Row). IsRising rs) (sym keeps.0) (rises_so_far (last_table None blocks) rows (last_rises None blocks tt are) is.block.rising)

-- ---- a reader that takes a line of an open block

pub row_none : (begun : Option Opened) (blocks : List Block) (rows table : List Row) (place : ℕ) (k : Kind) (how : Outcome) (line : List ℕ) → AreBlocks blocks → IsPart begun (last_table None blocks) rows table place
    → IsOpenAs begun k how → line ≢ last_line → ReadsRow line None → Refused (changes_lines blocks ++ open_lines begun rows) line
row_none None blocks rows table place k how line are part opens ne read = absurd opens
row_none (Some o) blocks rows table place k how line are part opens ne read = no_row_read blocks (opened_block o rows) line are part.block ne read

pub row_bad : (begun : Option Opened) (blocks : List Block) (rows table : List Row) (place : ℕ) (k : Kind) (how : Outcome) (line : List ℕ) (row : Row) → AreBlocks blocks → IsPart begun (last_table None blocks) rows table place
    → IsOpenAs begun k how → line ≢ last_line → ReadsRow line (Some row)
    → ((o : Opened) → IsOpen o (last_table None blocks) rows table place → o.kind ≡ k → o.outcome ≡ how → NoRow (last_table None blocks) (opened_block o rows) row) → Refused (changes_lines blocks ++ open_lines begun rows) line
row_bad None blocks rows table place k how line row are part opens ne read never = absurd opens
row_bad (Some o) blocks rows table place k how line row are part opens ne read never = row_refused blocks (opened_block o rows) line row are part.block ne read (never o part opens.0 opens.1)

changing_as : (k : Kind) (o : Opened) (blocks : List Block) (rows table : List Row) (place : ℕ) (row : Row) → AreBlocks blocks → IsOpen o (last_table None blocks) rows table place → o.kind ≡ k → next_id rows ≤ row.id → IsChanging k table place row
changing_as kind.Full o blocks rows table place row are is e le = tt
changing_as kind.Change o blocks rows table place row are is e le =
    let keeps = subst (λ (k : Kind). KeepsTable k (last_table None blocks) rows table place) e is.keeps in (
      kept_rises blocks o rows table place are e is,
      All-weaker (λ (r : Row). r.id < next_id rows) (λ (r : Row). r.id < row.id) (λ r h. omega (arith, h, le)) (take place table) keeps.2,
    )

pub changing : (begun : Option Opened) (blocks : List Block) (rows table : List Row) (place : ℕ) (k : Kind) (how : Outcome) (row : Row) → AreBlocks blocks → IsPart begun (last_table None blocks) rows table place
    → IsOpenAs begun k how → next_id rows ≤ row.id → IsChanging k table place row
changing None blocks rows table place k how row are part opens le = absurd opens
changing (Some o) blocks rows table place k how row are part opens le = changing_as k o blocks rows table place row are part opens.0 le

place_as : (k : Kind) (before : Option Block) (rows table : List Row) (place : ℕ) → KeepsTable k before rows table place → place ≤ length table
place_as kind.Full before rows table place keeps = keeps
place_as kind.Change before rows table place keeps = keeps.1

pub place_within : (begun : Option Opened) (before : Option Block) (rows table : List Row) (place : ℕ) (k : Kind) (how : Outcome) → IsPart begun before rows table place → IsOpenAs begun k how → place ≤ length table
place_within None before rows table place k how part opens = absurd opens
place_within (Some o) before rows table place k how part opens = place_as o.kind before rows table place part.keeps

-- a row that was taken: what is open then, and the lines so far
pub row_goes_on : (begun : Option Opened) (blocks : List Block) (rows table after : List Row) (place next : ℕ) (k : Kind) (how : Outcome) (row : Row) → IsPart begun (last_table None blocks) rows table place
    → IsOpenAs begun k how → IsRow row → next_id rows ≤ row.id → has_rows how ≡ true → Brings k table place row after (Some next) → IsPart begun (last_table None blocks) (rows ++ row ∷ []) after next
row_goes_on None blocks rows table after place next k how row part opens good le has brings = absurd opens
row_goes_on (Some o) blocks rows table after place next k how row part opens good le has brings =
    row_taken (last_table None blocks) o row rows table after place next part good le (subst (λ (p : Outcome). has_rows p ≡ true) (sym opens.1) has)
    (subst (λ (l : Kind). Brings l table place row after (Some next)) (sym opens.0) brings)

pub row_adds : (begun : Option Opened) (blocks : List Block) (rows : List Row) (k : Kind) (how : Outcome) (row : Row) (line : List ℕ) → IsOpenAs begun k how → line ≡ row_line row
    → changes_lines blocks ++ open_lines begun (rows ++ row ∷ []) ≡ (changes_lines blocks ++ open_lines begun rows) ++ line ∷ []
row_adds None blocks rows k how row line opens e = absurd opens
row_adds (Some o) blocks rows k how row line opens e = row_lines blocks o rows row line e

-- ---- a reader whose block ends

settled_is : (k : Kind) (before : Option Block) (rows table : List Row) (place : ℕ) → KeepsTable k before rows table place → settled k table rows ≡ rows_after k before rows
settled_is kind.Full before rows table place keeps = refl
settled_is kind.Change before rows table place keeps = keeps.0

module _ (blocks now : List Block) (o : Opened) (rows left table after : List Row) (place : ℕ) (begun : Option Opened) (are : AreBlocks blocks) (is : IsOpen o (last_table None blocks) rows table place) (shut : begun ≡ None)
    (now_is : now ≡ blocks ++ opened_block o rows ∷ []) (left_is : left ≡ []) (after_is : after ≡ settled o.kind table rows) where
  pub closed_are : AreBlocks now
  closed_are = subst (λ (bs : List Block). AreBlocks bs) (sym now_is) (are_push None blocks (opened_block o rows) are is.block is.follows)

  pub closed_outcome : Some o.outcome ≡ last_outcome (last_table None now)
  closed_outcome = closed_last blocks (opened_block o rows) ∙ ap (λ (bs : List Block). last_outcome (last_table None bs)) (sym now_is)

  pub closed_low : 0 ≡ next_id left
  closed_low = ap next_id (sym left_is)

  pub closed_part : IsPart begun (last_table None now) left after 0
  closed_part =
      subst (λ (x : Option Opened). IsPart x (last_table None now) left after 0) (sym shut)
      (subst (λ (bs : List Block). IsShut (last_table None bs) left after 0) (sym now_is)
      (closed blocks (opened_block o rows) left after 0 left_is refl (after_is ∙ settled_is o.kind (last_table None blocks) rows table place is.keeps)))

  pub closed_so_far : changes_lines now ++ open_lines begun left ≡ (changes_lines blocks ++ front_lines (opened_block o rows)) ++ last_line ∷ []
  closed_so_far =
      ap (λ (bs : List Block). changes_lines bs ++ open_lines begun left) now_is
      ∙ ap (λ (x : Option Opened). changes_lines (blocks ++ opened_block o rows ∷ []) ++ open_lines x left) shut
      ∙ closed_lines blocks (opened_block o rows)
