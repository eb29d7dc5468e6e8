-- The lower end is between the first and the last.
use Rattle.std.proofs.Common.{arith}
use Rattle.std.proofs.lemmas.Int.{ints}
use Rattle.gvdl_check.proofs.WindowFacts.{begins}
use Rattle.gvdl_check.proofs.window.low_end.Goals as goal

pub overflow_mul-offset : goal.overflow_mul-offset
overflow_mul-offset c =
    let w = c.args.window in
    let b = begins w.first w.last w.width w.step c.args.place c.requires.window c.requires.within in
    omega (arith, ints, b.offset)

pub overflow_cast-result : goal.overflow_cast-result
overflow_cast-result c =
    let w = c.args.window in
    let b = begins w.first w.last w.width w.step c.args.place c.requires.window c.requires.within in
    omega (arith, ints, b.within, b.offset)

pub returns-clause-value : goal.returns-clause-value
returns-clause-value c =
    let w = c.args.window in
    let b = begins w.first w.last w.width w.step c.args.place c.requires.window c.requires.within in
    omega (arith, ints, b.within, b.offset)

pub returns-clause-limit : goal.returns-clause-limit
returns-clause-limit c =
    let w = c.args.window in
    let b = begins w.first w.last w.width w.step c.args.place c.requires.window c.requires.within in
    omega (arith, ints, b.within, b.offset)
