-- The segment that is chosen has a view left, and is turned.
use Rattle.std.proofs.Common.{◌≡◌, ◌∙◌, ◌<◌, ◌≤◌, ℕ, length, refl, sym, subst, arith, Some}
use Rattle.std.proofs.lemmas.Option.{slice_get_within}
use Rattle.view_engine.specs.Engines.{segments_in}
use Rattle.view_turns.specs.Turns.{unfinished, next_segment, HasTurned}
use Rattle.view_turns.proofs.Unfinished.{zero_of, finished_if_none, few_left, chosen_left, chosen_next}
use Rattle.view_turns.proofs.Counting.{turned}
use Rattle.view_turns.proofs.turning.turn_next.Goals as goal

pub returns-then-is_empty-clause-finished : goal.returns-then-is_empty-clause-finished
returns-then-is_empty-clause-finished g c =
    let left = c.in_ok-left.left in
    let none : left.len ≡ 0 = zero_of left.len (sym c.is_empty.ensures ∙ c.if-is_empty.true) in
    λ _. (finished_if_none (segments_in c.args.engine.now) left.items c.in_ok-left.ensures (omega (arith, none)), refl, refl)

pub overflow_cast-len : goal.overflow_cast-len
overflow_cast-len g c =
    omega (arith, c.len.ensures, few_left (segments_in c.args.engine.now) c.in_ok-left.left.items c.in_ok-left.ensures, c.requires.engine.few_segments, c.requires.engine.within, c.requires.engine.few)

pub turn-requires-clause-segment : goal.turn-requires-clause-segment
turn-requires-clause-segment g c =
    let ss = segments_in c.args.engine.now in
    let lt : c.next_place-place.result < length c.in_ok-left.left.items = omega (arith, c.next_place-place.ensures.within, c.len.ensures) in
    let found = chosen_left ss c.in_ok-left.left.items c.next_place-place.result c.index.result.now c.in_ok-left.ensures lt c.index.ensures in
    slice_get_within ss c.index.result.now found.segment found.at

pub returns-clause-moved : goal.returns-clause-moved
returns-clause-moved g c = λ e.
    let moved = c.turn.ensures.moved e in
    let left = c.in_ok-left.left.items in
    let many : c.len.result ≡ length left = omega (arith, c.len.ensures) in
    let lt : c.next_place-place.result < length left = omega (arith, c.next_place-place.ensures.within, many) in
    let is : c.index.result.now ≡ next_segment c.args.draws.now c.args.engine.now =
    chosen_next c.args.draws.now left (unfinished c.args.engine.now) c.len.result c.next_place-place.result c.index.result.now c.in_ok-left.ensures lt many c.next_place-place.ensures.place c.index.ensures in
    subst (λ (k : ℕ). HasTurned k c.args.engine.now c.turn.new.self (g.U.Counted.calls c.args.updater.now) (g.U.Counted.calls c.turn.new.updater)) is
    (turned c.index.result.now c.args.engine.now c.turn.new.self (g.U.Counted.calls c.args.updater.now) (g.U.Counted.calls c.turn.new.updater) moved.1)

pub returns-clause-finished : goal.returns-clause-finished
returns-clause-finished g c = λ e.
    let lt : c.next_place-place.result < length c.in_ok-left.left.items = omega (arith, c.next_place-place.ensures.within, c.len.ensures) in
    let found = chosen_left (segments_in c.args.engine.now) c.in_ok-left.left.items c.next_place-place.result c.index.result.now c.in_ok-left.ensures lt c.index.ensures in
    absurd (found.left (c.turn.ensures.finished e found.segment found.at))
