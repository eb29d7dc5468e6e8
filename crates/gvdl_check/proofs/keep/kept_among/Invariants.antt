use Rattle.std.proofs.Common.{◌≡◌, ◌≤◌, take}
use Rattle.gvdl_check.specs.Plans.{kept_among}
use Rattle.gvdl_check.proofs.keep.kept_among.Given as goal

abbrev pub invariant-loop-run : goal.invariant-loop-run
invariant-loop-run l = record {
  same : l.kept ≡ kept_among (take l.run-index l.runs);
  few : l.kept ≤ l.run-index;
}
