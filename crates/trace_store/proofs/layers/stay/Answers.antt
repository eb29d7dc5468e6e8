-- What the newest layers have is at most what all have.
use Rattle.std.proofs.Common.{◌≡◌, ◌∙◌, ◌+◌, ◌-◌, ◌<◌, ◌++◌, length, drop, ap, arith, length-append}
use Rattle.weighted.specs.Batches.{joined}
use Rattle.trace_store.proofs.Joined.{joined-drop, joined-shorter}
use Rattle.trace_store.proofs.layers.stay.Goals as goal

pub overflow_add-sum : goal.overflow_add-sum
overflow_add-sum g c =
    let ls = c.args.layers.now in let k = c.loop-stay.stay - 1 in let l = c.index-layers-stay.result in
    let low : k < length ls = omega arith in
    let next : k + 1 ≡ c.loop-stay.stay = omega arith in
    let more : joined (drop k ls) ≡ l ++ joined (drop c.loop-stay.stay ls) = joined-drop ls k l low c.index-layers-stay.is ∙ ap (λ n. l ++ joined (drop n ls)) next in
    record { fits = omega (arith, c.requires.fits, joined-shorter ls k, ap length more, length-append l (joined (drop c.loop-stay.stay ls)), c.len-last.ensures.value, c.loop-stay.invariant.1) }
