use Rattle.std.proofs.Common.{◌≡◌, ◌+◌, ◌*◌, ◌≤◌, length, drop}
use Rattle.result_tables.specs.TableText.{lines_between}
use Rattle.result_tables.proofs.lines.lay_lines.Given as goal

abbrev pub invariant-loop-place : goal.invariant-loop-place
invariant-loop-place l = record {
  from : l.from ≤ l.place;
  size : length l.room ≡ length l.fn.room;
  within : l.start ≤ length l.room;
  far : 43 * l.place ≤ l.start + 43 * l.from;
  lines : drop l.start l.room ≡ lines_between l.graph l.values l.place l.upto;
}
