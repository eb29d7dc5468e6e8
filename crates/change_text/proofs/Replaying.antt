-- The tables of blocks, written one after the other.
use Rattle.std.proofs.Common.{◌≡◌, ◌∙◌, ℕ, ◌+◌, List, [], ◌∷◌, ◌++◌, length, take, Option, Some, None, All, refl, sym, ap, subst, arith, append_assoc, append-nil, length-append, Result, Ok, Err, OnOk, is_ok, true}
use Rattle.std.proofs.lemmas.List.{take-append-le}
use Rattle.std.proofs.Math.Seq.{take-append-add}
use Rattle.surge_outside.specs.declared.no_memory.NoMemory.{NoMemory}
use Rattle.surge_outside.specs.Written.{GrewByFront, appended}
use Rattle.change_text.specs.declared.kind.Kind.{Kind}
use Rattle.change_text.specs.declared.kind.Kind.TheVariants as kind
use Rattle.change_text.specs.declared.row.Row.{Row}
use Rattle.change_text.specs.Blocks.{Block, AreFrom, Differs, FollowsAs, IsRising, put_all, rows_after, table_of, tables_from}
use Rattle.change_text.specs.Spelling.{block_text, block_lines, changes_lines, changes_text, tables_text}
use Rattle.change_text.specs.Inside.{Advances, Stands, advanced, full, last_rows, RisesIn}
use Rattle.change_text.proofs.Blocks.{ended-append, rises_as}

-- ---- what was written

pub appended-append : (old : Option (List ℕ)) (a b : List ℕ) → appended (appended old a) b ≡ appended old (a ++ b)
appended-append None a b = refl
appended-append (Some xs) a b = ap Some (append_assoc xs a b)

pub nothing_appended : (old : Option (List ℕ)) → old ≡ appended old []
nothing_appended None = refl
nothing_appended (Some bytes) = ap Some (sym (append-nil bytes))

-- nothing is a front of everything
pub no_front : (old : Option (List ℕ)) (text : List ℕ) → GrewByFront old old text
no_front old text = (0, omega arith, nothing_appended old)

-- a front of a part behind what was written
pub front_behind : (old mid new : Option (List ℕ)) (before part behind text : List ℕ) → text ≡ before ++ (part ++ behind) → mid ≡ appended old before → GrewByFront mid new part → GrewByFront old new text
front_behind old mid new before part behind text is so_far grew = (
  length before + grew.0,
  omega (arith, ap (λ (bs : List ℕ). length bs) is, length-append before (part ++ behind), length-append part behind, grew.1),
  grew.2 ∙ ap (λ (w : Option (List ℕ)). appended w (take grew.0 part)) so_far ∙ appended-append old before (take grew.0 part)
      ∙ ap (λ (bs : List ℕ). appended old bs) (sym (ap (λ (bs : List ℕ). take (length before + grew.0) bs) is ∙ take-append-add before (part ++ behind) grew.0 ∙ ap (λ (bs : List ℕ). before ++ bs) (take-append-le grew.0 part behind grew.1))),
)

-- ---- tables

tables_cons : (b : Block) (bs : List Block) → changes_text (b ∷ bs) ≡ block_text b ++ changes_text bs
tables_cons b bs = ended-append (block_lines b) (changes_lines bs)

advanced_is : (k : Kind) (before : Option Block) (b : Block) (rows : List Row) → rows ≡ last_rows before → FollowsAs k before b → advanced k rows b.rows ≡ rows_after k before b.rows
advanced_is kind.Full before b rows e follows = refl
advanced_is kind.Change None b rows e follows = absurd follows
advanced_is kind.Change (Some t) b rows e follows = ap (λ (rs : List Row). put_all rs b.rows) e

advances_as : (k : Kind) (before : Option Block) (b : Block) (rows : List Row) → rows ≡ last_rows before → RisesIn before → IsRising b.rows → FollowsAs k before b → Advances k rows b.rows
advances_as kind.Full before b rows e up own follows = tt
advances_as kind.Change None b rows e up own follows = absurd follows
advances_as kind.Change (Some t) b rows e up own follows = (
  subst (λ (rs : List Row). IsRising rs) (sym e) up,
  own,
  subst (λ (rs : List Row). All (Differs rs) b.rows) (sym e) follows.2,
)

pub at_start : (all : List Block) → AreFrom None all → Stands all all [] []
at_start all are = record { before = None; rows_are = refl; rises = tt; are = are; whole = refl }

module _ (all left more : List Block) (b : Block) (text : List ℕ) (rows : List Row) (s : Stands all left text rows) (is : left ≡ b ∷ more) where
  are_now : AreFrom s.before (b ∷ more)
  are_now = subst (λ (bs : List Block). AreFrom s.before bs) is s.are

  pub advances : Advances b.kind rows b.rows
  advances = advances_as b.kind s.before b rows s.rows_are s.rises are_now.0.rising are_now.1

  module _ (table : List Row) (e : table ≡ advanced b.kind rows b.rows) where
    table_is : table ≡ rows_after b.kind s.before b.rows
    table_is = e ∙ advanced_is b.kind s.before b rows s.rows_are are_now.1

    block_is : table_of s.before b ≡ full b.head b.outcome table
    block_is = ap (λ (rs : List Row). full b.head b.outcome rs) (sym table_is)

    pub whole_now : tables_text all ≡ text ++ (block_text (full b.head b.outcome table) ++ changes_text (tables_from (Some (table_of s.before b)) more))
    whole_now =
        s.whole ∙ ap (λ (bs : List Block). text ++ changes_text (tables_from s.before bs)) is
        ∙ ap (λ (bytes : List ℕ). text ++ bytes) (tables_cons (table_of s.before b) (tables_from (Some (table_of s.before b)) more))
        ∙ ap (λ (c : Block). text ++ (block_text c ++ changes_text (tables_from (Some (table_of s.before b)) more))) block_is

    pub stands_next : Stands all more (text ++ block_text (full b.head b.outcome table)) table
    stands_next = record {
      before = Some (table_of s.before b);
      rows_are = table_is;
      rises = rises_as b.kind s.before b.rows s.rises are_now.0.rising;
      are = are_now.2;
      whole = whole_now ∙ sym (append_assoc text (block_text (full b.head b.outcome table)) (changes_text (tables_from (Some (table_of s.before b)) more)));
    }

    pub piece : (old mid new : Option (List ℕ)) → mid ≡ appended old text → GrewByFront mid new (block_text (full b.head b.outcome table)) → GrewByFront old new (tables_text all)
    piece old mid new so_far grew =
        front_behind old mid new text (block_text (full b.head b.outcome table)) (changes_text (tables_from (Some (table_of s.before b)) more)) (tables_text all) whole_now so_far grew

pub when_ok : (r : Result (Unit {0}) NoMemory) (P : Type 0) → OnOk r P → is_ok r ≡ true → P
when_ok (Ok x) P h e = h
when_ok (Err x) P h e = absurd cc

-- where nothing is left, all was written
pub all_written : (all left : List Block) (text : List ℕ) (rows : List Row) → Stands all left text rows → left ≡ [] → tables_text all ≡ text
all_written all left text rows s none = s.whole ∙ ap (λ (bs : List Block). text ++ changes_text (tables_from s.before bs)) none ∙ append-nil text
