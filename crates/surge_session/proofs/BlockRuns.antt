-- The blocks of several lists of tables, each list behind nothing: they are blocks of a change text, and their tables come back.
use Rattle.std.proofs.Common.{◌≡◌, ◌∙◌, ℕ, List, [], ◌∷◌, ◌++◌, map, flat_map, Option, Some, None, refl, sym, ap, ap₂, subst, append_assoc}
use Rattle.std.specs.Prelude.{All}
use Rattle.std.proofs.lemmas.List.Elements.{All-head, All-tail}
use Rattle.std.proofs.lemmas.Grind.{flat_map-append}
use Rattle.graph_model.specs.GraphData.{GraphData}
use Rattle.result_tables.specs.declared.form.Form.TheVariants as form
use Rattle.result_tables.specs.declared.table.Table.{Table}
use Rattle.change_text.specs.Blocks.{AreFrom, Block, Follows, IsBlock, table_of, tables_from}
use Rattle.change_text.specs.Laws.{TablesAreBlocks, TablesComeBack}
use Rattle.change_text.specs.Spelling.{block_text, changes_text}
use Rattle.change_text.specs.Writing.{IsTableHead, full_of}
use Rattle.surge_session.specs.Output.{Shown, alone, block_behind, blocks_behind, tables_in}
use Rattle.surge_session.proofs.Blocks.{changes-append, changes-cons}

module _ (g : GraphData) (come_back : TablesComeBack) (are_blocks : TablesAreBlocks) where
  abbrev pub full : Shown → Block
  full s = full_of s.head g s.table

  -- its head begins as that of a table, and all its rows are a block
  pub record Whole (s : Shown) : Type 0 where
    pub head : IsTableHead s.head
    pub block : IsBlock (full s)

  abbrev pub AreWhole : List (List Shown) → Type 0
  AreWhole lists = All (All Whole) lists

  -- the block before is that of the table before, where there is one
  abbrev StandsAt : Option Table → Option Block → Type 0
  StandsAt None b = Unit {0}
  StandsAt (Some t) b = (earlier : List ℕ) × (b ≡ Some (full_of earlier g t)) × IsBlock (full_of earlier g t)

  record Behind (before : Option Table) (b : Option Block) (s : Shown) : Type 0 where
    block : IsBlock (block_behind g before s)
    follows : Follows b (block_behind g before s)
    table : table_of b (block_behind g before s) ≡ full s

  one_behind : (before : Option Table) (b : Option Block) (s : Shown) → StandsAt before b → Whole s → Behind before b s
  one_behind None b s at whole =
      let law = come_back g s.head s.head None s.table whole.block tt in
      record { block = law.0; follows = tt; table = law.2 }
  one_behind (Some t) b s at whole =
      let law = come_back g s.head at.0 (Some t) s.table whole.block at.2 in
      record {
        block = law.0;
        follows = subst (λ (o : Option Block). Follows o (block_behind g (Some t) s)) (sym at.1) law.1;
        table = ap (λ (o : Option Block). table_of o (block_behind g (Some t) s)) at.1 ∙ law.2;
      }

  next_at : (before : Option Table) (b : Option Block) (s : Shown) → Whole s → Behind before b s → StandsAt (Some s.table) (Some (table_of b (block_behind g before s)))
  next_at before b s whole behind = (s.head, ap Some behind.table, whole.block)

  -- ---- one list, and blocks behind it that stand behind anything

  list_are : (before : Option Table) (b : Option Block) (list : List Shown) (more : List Block) → StandsAt before b → All Whole list → ((c : Option Block) → AreFrom c more) → AreFrom b (blocks_behind g before list ++ more)
  list_are before b [] more at whole rest = rest b
  list_are before b (s ∷ list) more at whole rest =
      let first = All-head Whole s list whole in
      let behind = one_behind before b s at first in
      (behind.block, behind.follows, list_are (Some s.table) (Some (table_of b (block_behind g before s))) list more (next_at before b s first behind) (All-tail Whole s list whole) rest)

  list_tables : (before : Option Table) (b : Option Block) (list : List Shown) (more tables : List Block) → StandsAt before b → All Whole list → ((c : Option Block) → tables_from c more ≡ tables)
      → tables_from b (blocks_behind g before list ++ more) ≡ map full list ++ tables
  list_tables before b [] more tables at whole rest = rest b
  list_tables before b (s ∷ list) more tables at whole rest =
      let first = All-head Whole s list whole in
      let behind = one_behind before b s at first in
      ap₂ (λ (x : Block) (xs : List Block). x ∷ xs) behind.table
      (list_tables (Some s.table) (Some (table_of b (block_behind g before s))) list more tables (next_at before b s first behind) (All-tail Whole s list whole) rest)

  -- ---- all lists

  abbrev pub all_blocks : List (List Shown) → List Block
  all_blocks lists = flat_map (blocks_behind g None) lists

  pub all_are : (lists : List (List Shown)) → AreWhole lists → (b : Option Block) → AreFrom b (all_blocks lists)
  all_are [] whole b = tt
  all_are (list ∷ lists) whole b = list_are None b list (all_blocks lists) tt (All-head (All Whole) list lists whole) (all_are lists (All-tail (All Whole) list lists whole))

  all_tables : (lists : List (List Shown)) → AreWhole lists → (b : Option Block) → tables_from b (all_blocks lists) ≡ flat_map (map full) lists
  all_tables [] whole b = refl
  all_tables (list ∷ lists) whole b =
      list_tables None b list (all_blocks lists) (flat_map (map full) lists) tt (All-head (All Whole) list lists whole) (all_tables lists (All-tail (All Whole) list lists whole))

  -- ---- texts

  pub all_changes : (lists : List (List Shown)) → flat_map (tables_in form.Changes g) lists ≡ changes_text (all_blocks lists)
  all_changes [] = refl
  all_changes (list ∷ lists) =
      ap (λ (bytes : List ℕ). changes_text (blocks_behind g None list) ++ bytes) (all_changes lists) ∙ sym (changes-append (blocks_behind g None list) (all_blocks lists))

  list_text : (list : List Shown) → All Whole list → changes_text (map full list) ≡ tables_in form.Tables g list
  list_text [] whole = refl
  list_text (s ∷ list) whole =
      changes-cons (full s) (map full list)
      ∙ ap₂ (λ (a b : List ℕ). a ++ b) (sym (are_blocks s.head g s.table (All-head Whole s list whole).head)) (list_text list (All-tail Whole s list whole))

  pub all_text : (lists : List (List Shown)) → AreWhole lists → changes_text (flat_map (map full) lists) ≡ flat_map (tables_in form.Tables g) lists
  all_text [] whole = refl
  all_text (list ∷ lists) whole =
      changes-append (map full list) (flat_map (map full) lists)
      ∙ ap₂ (λ (a b : List ℕ). a ++ b) (list_text list (All-head (All Whole) list lists whole)) (all_text lists (All-tail (All Whole) list lists whole))

  pub tables_back : (lists : List (List Shown)) → AreWhole lists → changes_text (tables_from None (all_blocks lists)) ≡ flat_map (tables_in form.Tables g) lists
  tables_back lists whole = ap changes_text (all_tables lists whole None) ∙ all_text lists whole
