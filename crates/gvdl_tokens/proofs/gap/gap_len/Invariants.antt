use Rattle.std.proofs.Common.{◌≡◌, drop, cond}
use Rattle.gvdl_tokens.specs.Reading.{behind_gap, behind_comment}
use Rattle.gvdl_tokens.proofs.gap.gap_len.Given as goal

abbrev pub invariant-loop-i : goal.invariant-loop-i
invariant-loop-i l = cond l.in_comment (behind_comment (drop l.i l.bytes)) (behind_gap (drop l.i l.bytes)) ≡ behind_gap l.bytes
