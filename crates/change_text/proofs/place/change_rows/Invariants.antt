use Rattle.std.proofs.Common.{◌≡◌, ◌<◌, ◌≤◌, length, take, All}
use Rattle.change_text.specs.Blocks.{put_all}
use Rattle.change_text.specs.Inside.{next_id}
use Rattle.change_text.proofs.place.change_rows.Given as goal

abbrev pub invariant-loop-row : goal.invariant-loop-row
invariant-loop-row l = record {
  table : l.table ≡ put_all l.fn.table (take l.row-index l.changes);
  from : l.from ≤ length l.table;
  below : All (λ r. r.id < next_id (take l.row-index l.changes)) (take l.from l.table);
}
