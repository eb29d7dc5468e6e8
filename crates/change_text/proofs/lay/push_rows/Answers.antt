-- The lines of some more rows.
use Rattle.std.proofs.Common.{◌∙◌, ◌++◌, List, ℕ, ap, arith, map}
use Rattle.std.proofs.lemmas.Slice.{between_is, between_to_end}
use Rattle.change_text.specs.declared.row.Row.{Row}
use Rattle.change_text.specs.Spelling.{ended, row_line}
use Rattle.change_text.proofs.Writing.{more_lines}
use Rattle.change_text.proofs.lay.push_rows.Goals as goal

pub loop-done-preserved : goal.loop-done-preserved
loop-done-preserved c =
    let room = c.lay_rows-start.ensures.size ∙ c.loop-done.invariant.room in
    let laid = between_to_end c.lay_rows-start.new.room c.lay_rows-start.result 2_752 (omega (arith, room)) ∙ c.lay_rows-start.ensures.lines
    ∙ ap (λ (rs : List Row). ended (map row_line rs)) (between_is c.args.rows.now c.loop-done.done c.min-upto.result) in
    record {
      within = omega (arith, c.min-upto.ensures);
      room = room;
      lines = more_lines c.args.rows.now c.loop-done.done c.min-upto.result c.args.text.now.items c.loop-done.text.items c.extend_from_slice.new.self.items
          (omega (arith, c.loop-done-test.true, c.min-upto.ensures)) c.loop-done.invariant.lines
          (c.in_ok-extend_from_slice.ensures.items ∙ ap (λ (lines : List ℕ). c.loop-done.text.items ++ lines) laid);
    }
