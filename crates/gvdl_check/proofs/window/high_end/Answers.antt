-- The upper end is a number of the language.
use Rattle.std.proofs.Common.{arith}
use Rattle.std.proofs.lemmas.Int.{ints}
use Rattle.gvdl_check.proofs.WindowFacts.{sound}
use Rattle.gvdl_check.proofs.window.high_end.Goals as goal

pub overflow_cast-result : goal.overflow_cast-result
overflow_cast-result c =
    let w = c.args.window in
    let s = sound w.first w.last w.width w.step c.requires.window in
    omega (arith, ints, s.bounded, c.requires.limit)

pub returns : goal.returns
returns c =
    let w = c.args.window in
    let s = sound w.first w.last w.width w.step c.requires.window in
    omega (arith, ints, s.bounded, c.requires.limit)
