-- A row more, or none.
use Rattle.std.proofs.Common.{◌≡◌, ◌∙◌, ◌++◌, [], ◌∷◌, List, length, Some, None, ap, sym, subst, arith}
use Rattle.std.specs.Vec.{with_items}
use Rattle.std.proofs.lemmas.List.{with_items_is}
use Rattle.change_text.specs.declared.row.Row.{Row}
use Rattle.change_text.specs.declared.kind.Kind.{Kind}
use Rattle.change_text.specs.Blocks.{Block, AreBlocks}
use Rattle.change_text.specs.Spelling.{changes_lines}
use Rattle.change_text.specs.Inside.{Brings, IsChanging, IsPart, has_rows, last_outcome, last_table, next_id, open_lines, opened_block}
use Rattle.change_text.proofs.Rows.{next_push}
use Rattle.change_text.proofs.Taking.{changing, row_adds, row_bad, row_goes_on, row_none, same_value_row, too_low, unsettled_row}
use Rattle.change_text.proofs.reader.Reader.take_row.Goals as goal

pub returns-in_default : goal.returns-in_default
returns-in_default c =
    let r = c.args.self.now in
    row_none r.begun r.flat.blocks r.flat.rows r.table.items r.place c.args.kind c.args.outcome c.args.line.now c.requires.reader.are c.requires.reader.part c.requires.begun c.requires.line c.in_default.ensures

pub returns-then-row-self : goal.returns-then-row-self
returns-then-row-self c =
    let r = c.args.self.now in
    row_bad r.begun r.flat.blocks r.flat.rows r.table.items r.place c.args.kind c.args.outcome c.args.line.now c.in-Some.row c.requires.reader.are c.requires.reader.part c.requires.begun c.requires.line c.in-Some.ensures
    (λ o is p q. too_low (last_table None r.flat.blocks) (opened_block o r.flat.rows) c.in-Some.row (omega (arith, c.if-row-self.true, c.requires.reader.low)))

pub returns-then-not-has_rows : goal.returns-then-not-has_rows
returns-then-not-has_rows c =
    let r = c.args.self.now in
    row_bad r.begun r.flat.blocks r.flat.rows r.table.items r.place c.args.kind c.args.outcome c.args.line.now c.in-Some.row c.requires.reader.are c.requires.reader.part c.requires.begun c.requires.line c.in-Some.ensures
    (λ o is p q. unsettled_row (last_table None r.flat.blocks) (opened_block o r.flat.rows) c.in-Some.row (ap has_rows q ∙ sym c.if-not-has_rows.ensures))

pub bring-requires-clause-change : goal.bring-requires-clause-change
bring-requires-clause-change c =
    let r = c.args.self.now in
    subst (λ (rs : List Row). IsChanging c.args.kind rs r.place c.in-Some.row) (sym c.deref_mut.ensures.value)
    (changing r.begun r.flat.blocks r.flat.rows r.table.items r.place c.args.kind c.args.outcome c.in-Some.row c.requires.reader.are c.requires.reader.part c.requires.begun
    (omega (arith, c.if-row-self.false, c.requires.reader.low)))

pub returns-in_default-bring : goal.returns-in_default-bring
returns-in_default-bring c =
    let r = c.args.self.now in
    row_bad r.begun r.flat.blocks r.flat.rows r.table.items r.place c.args.kind c.args.outcome c.args.line.now c.in-Some.row c.requires.reader.are c.requires.reader.part c.requires.begun c.requires.line c.in-Some.ensures
    (λ o is p q. same_value_row (last_table None r.flat.blocks) (opened_block o r.flat.rows) c.in-Some.row r.table.items c.bring.new.table r.place is.block
    (omega (arith, c.if-row-self.false, c.requires.reader.low)) is.keeps
    (subst (λ (k : Kind). Brings k r.table.items r.place c.in-Some.row c.bring.new.table None) (sym p)
    (subst (λ (rs : List Row). Brings c.args.kind rs r.place c.in-Some.row c.bring.new.table None) c.deref_mut.ensures.value c.in_default-bring.ensures)))

pub returns : goal.returns
returns c =
    let r = c.args.self.now in
    let row = c.in-Some.row in
    let blocks : c.push.new.self.blocks ≡ r.flat.blocks = c.in_ok-push.ensures.blocks in
    let rows : c.push.new.self.rows ≡ r.flat.rows ++ row ∷ [] = c.in_ok-push.ensures.rows in
    let after : List Row = (with_items r.table c.bring.new.table).items in
    let items : after ≡ c.bring.new.table = with_items_is r.table c.bring.new.table (c.bring.auto.table ∙ ap (λ (rs : List Row). length rs) c.deref_mut.ensures.value ∙ sym r.table.ok.0) in
    let part =
    row_goes_on r.begun r.flat.blocks r.flat.rows r.table.items c.bring.new.table r.place c.in-Some-bring.place c.args.kind c.args.outcome row c.requires.reader.part c.requires.begun c.in-Some.ensures.0
    (omega (arith, c.if-row-self.false, c.requires.reader.low)) (sym c.if-not-has_rows.ensures)
    (subst (λ (rs : List Row). Brings c.args.kind rs r.place row c.bring.new.table (Some c.in-Some-bring.place)) c.deref_mut.ensures.value c.in-Some-bring.ensures) in (
      record {
        are = subst (λ (bs : List Block). AreBlocks bs) (sym blocks) c.requires.reader.are;
        last = c.requires.reader.last ∙ ap (λ (bs : List Block). last_outcome (last_table None bs)) (sym blocks);
        low = sym (ap (λ (rs : List Row). next_id rs) rows ∙ next_push r.flat.rows row);
        part = subst (λ (bs : List Block). IsPart r.begun (last_table None bs) c.push.new.self.rows after c.in-Some-bring.place) (sym blocks)
            (subst (λ (rs : List Row). IsPart r.begun (last_table None r.flat.blocks) rs after c.in-Some-bring.place) (sym rows)
            (subst (λ (rs : List Row). IsPart r.begun (last_table None r.flat.blocks) (r.flat.rows ++ row ∷ []) rs c.in-Some-bring.place) (sym items) part));
      },
      ap (λ (bs : List Block). changes_lines bs ++ open_lines r.begun c.push.new.self.rows) blocks ∙ ap (λ (rs : List Row). changes_lines r.flat.blocks ++ open_lines r.begun rs) rows
          ∙ row_adds r.begun r.flat.blocks r.flat.rows c.args.kind c.args.outcome row c.args.line.now c.requires.begun c.in-Some.ensures.1,
    )
