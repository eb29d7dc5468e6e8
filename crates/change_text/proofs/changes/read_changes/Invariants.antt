use Rattle.std.proofs.Common.{◌≡◌, ◌++◌, ◌+◌, ◌≤◌, length}
use Rattle.change_text.specs.Spelling.{ended}
use Rattle.change_text.specs.Inside.{IsReader, lines_so_far}
use Rattle.change_text.proofs.changes.read_changes.Given as goal

abbrev pub invariant-lines : goal.invariant-lines
invariant-lines l = record {
  reader : IsReader l.reader;
  text : l.text ≡ ended (lines_so_far l.reader) ++ l.rest;
  number : l.number ≡ length (lines_so_far l.reader) + 1;
  fits : l.number + length l.rest ≤ 1 + length l.text;
}

abbrev pub decreases-lines : goal.decreases-lines
decreases-lines l = length l.rest
