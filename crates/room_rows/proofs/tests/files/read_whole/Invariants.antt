-- What was read so far is a front of the file, and no count fell.
use Rattle.std.proofs.Common.{◌≡◌, ◌-◌, ◌≤◌, vec_len}
use Rattle.room_rows.proofs.Reading.{HasRead}
use Rattle.room_rows.proofs.tests.files.read_whole.Given as goal

abbrev pub invariant-loop-buf : goal.invariant-loop-buf
invariant-loop-buf g l = record {
  read : HasRead (g.F.Files.held l.initial.files) l.name l.bytes.items;
  held : g.F.Files.held l.files ≡ g.F.Files.held l.initial.files;
  faults : g.F.Files.faults l.initial.files ≤ g.F.Files.faults l.files;
  absences : g.F.Files.absences l.initial.files ≤ g.F.Files.absences l.files;
}

abbrev pub decreases-loop-buf : goal.decreases-loop-buf
decreases-loop-buf g l = l.limit - vec_len l.bytes
