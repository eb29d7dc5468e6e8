-- One of the bounds more, and all of them.
use Rattle.std.proofs.Common.{◌≡◌, ◌∙◌, ◌+◌, ◌&&◌, ℕ, List, pos, false, ap, ap₂, arith, get_or, take_all}
use Rattle.std.specs.Prelude.{nat_lt}
use Rattle.view_matrix.specs.declared.bounds.Bounds.{Bounds}
use Rattle.view_matrix.specs.Bounds.{all_meet, meets_at}
use Rattle.view_matrix.specs.Columns.{is_set}
use Rattle.view_matrix.proofs.Scans.{next_bounds}
use Rattle.view_matrix.proofs.scan.meeting_all.Goals as goal

pub loop-bounds-preserved : goal.loop-bounds-preserved
loop-bounds-preserved c =
    let none : Bounds = record { column = 0; low = pos 0; high = pos 0; inside = false } in
    let b : Bounds = get_or c.args.all.now c.loop-bounds.bounds-index none in
    let more : (i : ℕ) → is_set c.meeting_word-word.result i ≡ (nat_lt i c.args.count && meets_at c.args.graph.now (c.args.first + i) b) =
    λ i. c.meeting_word-word.ensures i ∙ ap₂ (λ (count first : ℕ). nat_lt i count && meets_at c.args.graph.now (first + i) b) c.turn_to.ensures.place.count_is c.turn_to.ensures.place.first_is in
    record {
      numbers = c.turn_to.ensures.are;
      word = λ i.
          next_bounds (meets_at c.args.graph.now (c.args.first + i)) c.args.all.now c.loop-bounds.bounds-index none c.loop-bounds.word c.meeting_word-word.result i c.args.count
          c.loop-bounds-test.true (c.loop-bounds.invariant.word i) (more i);
    }

pub returns-clause-word : goal.returns-clause-word
returns-clause-word c = λ i.
    c.loop-bounds.invariant.word i
    ∙ ap (λ (bounds : List Bounds). nat_lt i c.args.count && all_meet c.args.graph.now (c.args.first + i) bounds) (take_all c.loop-bounds.bounds-index c.args.all.now (omega (arith, c.loop-bounds-test.false)))
