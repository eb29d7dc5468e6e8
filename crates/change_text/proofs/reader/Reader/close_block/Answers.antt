-- A block more.
use Rattle.std.proofs.Common.{◌≡◌, ◌∙◌, ◌++◌, [], ◌∷◌, List, ℕ, ap}
use Rattle.change_text.specs.declared.row.Row.{Row}
use Rattle.change_text.specs.declared.reader.Opened.{Opened}
use Rattle.change_text.specs.Inside.{opened_block, settled}
use Rattle.change_text.proofs.Taking.{closed_are, closed_low, closed_outcome, closed_part, closed_so_far}
use Rattle.change_text.proofs.reader.Reader.close_block.Goals as goal

pub returns : goal.returns
returns c =
    let r = c.args.self.now in
    let q = c.requires.reader in
    let o : Opened = c.args.opened in
    let now : c.close.new.self.blocks ≡ r.flat.blocks ++ opened_block o r.flat.rows ∷ [] =
    c.in_ok-close.ensures.blocks ∙ ap (λ (head : List ℕ). r.flat.blocks ++ record { kind = o.kind; head = head; outcome = o.outcome; rows = r.flat.rows } ∷ []) c.as_slice.ensures in
    let left : c.close.new.self.rows ≡ [] = c.in_ok-close.ensures.rows in
    let after : c.settle.new.table.items ≡ settled o.kind r.table.items r.flat.rows = c.in_ok-settle.ensures ∙ ap (λ (rs : List Row). settled o.kind r.table.items rs) c.waiting.ensures in (
      record {
        are = closed_are r.flat.blocks c.close.new.self.blocks o r.flat.rows c.close.new.self.rows r.table.items c.settle.new.table.items r.place r.begun q.are q.part c.requires.shut now left after;
        last = closed_outcome r.flat.blocks c.close.new.self.blocks o r.flat.rows c.close.new.self.rows r.table.items c.settle.new.table.items r.place r.begun q.are q.part c.requires.shut now left after;
        low = closed_low r.flat.blocks c.close.new.self.blocks o r.flat.rows c.close.new.self.rows r.table.items c.settle.new.table.items r.place r.begun q.are q.part c.requires.shut now left after;
        part = closed_part r.flat.blocks c.close.new.self.blocks o r.flat.rows c.close.new.self.rows r.table.items c.settle.new.table.items r.place r.begun q.are q.part c.requires.shut now left after;
      },
      closed_so_far r.flat.blocks c.close.new.self.blocks o r.flat.rows c.close.new.self.rows r.table.items c.settle.new.table.items r.place r.begun q.are q.part c.requires.shut now left after,
    )
