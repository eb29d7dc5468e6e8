use Rattle.std.proofs.Common.{◌≡◌, take}
use Rattle.gvdl_check.proofs.copies.+copying.Given as goal

abbrev pub invariant-copied_preds-loop-pred : goal.invariant-copied_preds-loop-pred
invariant-copied_preds-loop-pred l = l.copies ≡ take l.pred-index l.preds
