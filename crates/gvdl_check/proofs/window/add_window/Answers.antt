-- The place of a window is below 2^64 - 1.
use Rattle.std.proofs.Common.{arith}
use Rattle.std.proofs.lemmas.Int.{ints}
use Rattle.gvdl_check.proofs.WindowFacts.{begins, sound}
use Rattle.gvdl_check.proofs.window.add_window.Goals as goal

pub window_name-requires : goal.window_name-requires
window_name-requires c =
    let w = c.args.window in
    let s = sound w.first w.last w.width w.step c.requires.window in
    let b = begins w.first w.last w.width w.step c.args.place c.requires.window c.requires.within in
    omega (arith, ints, b.offset, b.place, s.wide, s.bounded)
