use Rattle.std.proofs.Common.{◌≡◌, ◌*◌, ◌≤◌, length, drop, map}
use Rattle.change_text.specs.Spelling.{ended, row_line}
use Rattle.change_text.proofs.lay.lay_rows.Given as goal

abbrev pub invariant-loop-place : goal.invariant-loop-place
invariant-loop-place l = record {
  size : length l.room ≡ length l.fn.room;
  within : l.start ≤ length l.room;
  far : 43 * l.place ≤ l.start;
  lines : drop l.start l.room ≡ ended (map row_line (drop l.place l.rows));
}
