use Rattle.view_matrix.proofs.Scans.{mask_taken, none_taken}
use Rattle.view_matrix.proofs.word.with_mask.Goals.{then-bit, else-bit}
use Rattle.view_matrix.proofs.word.with_mask.Goals as goal

pub returns : goal.returns
returns c =
    elim c.if-bit.branch [
      | then-bit w ↦ λ i. mask_taken c.args.word c.args.mask c.if-bit.result i c.args.bit w.if-bit.true w.result-is
      | else-bit w ↦ λ i. none_taken c.args.word c.args.mask c.if-bit.result i c.args.bit w.if-bit.false w.result-is
    ]
