use Rattle.std.proofs.Common.{◌≡◌, length}
use Rattle.gvdl_check.specs.Known.{runs_marked}
use Rattle.gvdl_check.proofs.MarkFacts.{marked_to}
use Rattle.gvdl_check.proofs.known.mark_runs.Given as goal

abbrev pub invariant-loop-place : goal.invariant-loop-place
invariant-loop-place l = record {
  size : length l.all.items ≡ length l.numbers;
  marked : marked_to l.last_edit l.numbers l.place l.all.items ≡ runs_marked l.last_edit l.numbers l.fn.runs;
}
