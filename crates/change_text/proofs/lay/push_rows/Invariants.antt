use Rattle.std.proofs.Common.{◌≡◌, ◌++◌, ◌≤◌, ◌-◌, take, length, map}
use Rattle.change_text.specs.Spelling.{ended, row_line}
use Rattle.change_text.proofs.lay.push_rows.Given as goal

abbrev pub invariant-loop-done : goal.invariant-loop-done
invariant-loop-done l = record {
  within : l.done ≤ length l.rows;
  room : length l.room ≡ 2_752;
  lines : l.text.items ≡ l.fn.text.items ++ ended (map row_line (take l.done l.rows));
}

abbrev pub decreases-loop-done : goal.decreases-loop-done
decreases-loop-done l = length l.rows - l.done
