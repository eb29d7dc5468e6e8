-- The table of one more block.
use Rattle.std.proofs.Common.{◌≡◌, ◌∙◌, ◌++◌, ◌+◌, ℕ, List, [], Option, get_or, drop, ap, sym, subst, arith}
use Rattle.change_text.specs.declared.row.Row.{Row}
use Rattle.surge_outside.specs.Written.{GrewByFront, appended}
use Rattle.change_text.specs.declared.flat.End.{End}
use Rattle.change_text.specs.Blocks.{Block, tables_from}
use Rattle.change_text.specs.Spelling.{block_text, changes_text, tables_text}
use Rattle.change_text.specs.Memory.{AreEnds, blocks_of}
use Rattle.change_text.specs.Inside.{Advances, Stands, advanced, full}
use Rattle.change_text.proofs.Holding.{block_of, next_blocks, next_ends, other_end}
use Rattle.change_text.proofs.Replaying.{advances, appended-append, front_behind, no_front, piece, stands_next, when_ok}
use Rattle.change_text.proofs.tables.replay.Goals as goal

pub advance-requires : goal.advance-requires
advance-requires g c =
    let i = c.loop-end.end-index in
    let ends : List End = c.parts-parts.result.ends.now in
    let e : End = get_or ends i other_end in
    let st = c.loop-end.invariant.stands in
    subst (λ (rs : List Row). Advances e.kind c.loop-end.table.items rs) (sym c.split_at-in-loop-end.ensures.front)
    (advances c.args.changes.now (blocks_of (drop i ends) c.loop-end.heads.now c.loop-end.rows.now) (blocks_of (drop (i + 1) ends) (drop e.head c.loop-end.heads.now) (drop e.rows c.loop-end.rows.now))
    (block_of e c.loop-end.heads.now c.loop-end.rows.now) st.0 c.loop-end.table.items st.1 (next_blocks ends i other_end c.loop-end.heads.now c.loop-end.rows.now c.loop-end-test.true))

pub returns-then-is_err-clause-err : goal.returns-then-is_err-clause-err
returns-then-is_err-clause-err g c =
    let st = c.loop-end.invariant.stands in
    front_behind (g.O.Sink.written c.args.out.now) (g.O.Sink.written c.loop-end.out) (g.O.Sink.written c.loop-end.out) st.0 [] (changes_text (tables_from st.1.before (blocks_of (drop c.loop-end.end-index c.parts-parts.result.ends.now) c.loop-end.heads.now c.loop-end.rows.now)))
    (tables_text c.args.changes.now) st.1.whole st.2 (no_front (g.O.Sink.written c.loop-end.out) [])

pub returns-in-Err-clause-err : goal.returns-in-Err-clause-err
returns-in-Err-clause-err g c =
    let i = c.loop-end.end-index in
    let ends : List End = c.parts-parts.result.ends.now in
    let e : End = get_or ends i other_end in
    let st = c.loop-end.invariant.stands in
    let b : Block = block_of e c.loop-end.heads.now c.loop-end.rows.now in
    let table : c.advance.new.table.items ≡ advanced e.kind c.loop-end.table.items b.rows =
    when_ok c.advance.result (c.advance.new.table.items ≡ advanced e.kind c.loop-end.table.items c.split_at-in-loop-end.result.0.now) c.advance.ensures c.if-is_err.ensures.negation
    ∙ ap (λ (rs : List Row). advanced e.kind c.loop-end.table.items rs) c.split_at-in-loop-end.ensures.front in
    let text : block_text (full c.split_at.result.0.now e.outcome c.as_slice.result.now) ≡ block_text (full b.head e.outcome c.advance.new.table.items) =
    ap (λ (head : List ℕ). block_text (full head e.outcome c.as_slice.result.now)) c.split_at.ensures.front ∙ ap (λ (rs : List Row). block_text (full b.head e.outcome rs)) c.as_slice.ensures.value in
    piece c.args.changes.now (blocks_of (drop i ends) c.loop-end.heads.now c.loop-end.rows.now) (blocks_of (drop (i + 1) ends) (drop e.head c.loop-end.heads.now) (drop e.rows c.loop-end.rows.now))
    b st.0 c.loop-end.table.items st.1 (next_blocks ends i other_end c.loop-end.heads.now c.loop-end.rows.now c.loop-end-test.true) c.advance.new.table.items table
    (g.O.Sink.written c.args.out.now) (g.O.Sink.written c.loop-end.out) (g.O.Sink.written c.write_rows.new.out) st.2
    (subst (λ (bs : List ℕ). GrewByFront (g.O.Sink.written c.loop-end.out) (g.O.Sink.written c.write_rows.new.out) bs) text c.in-Err.ensures.err)

pub loop-end-preserved : goal.loop-end-preserved
loop-end-preserved g c =
    let i = c.loop-end.end-index in
    let ends : List End = c.parts-parts.result.ends.now in
    let e : End = get_or ends i other_end in
    let st = c.loop-end.invariant.stands in
    let b : Block = block_of e c.loop-end.heads.now c.loop-end.rows.now in
    let table : c.advance.new.table.items ≡ advanced e.kind c.loop-end.table.items b.rows =
    when_ok c.advance.result (c.advance.new.table.items ≡ advanced e.kind c.loop-end.table.items c.split_at-in-loop-end.result.0.now) c.advance.ensures c.if-is_err.ensures.negation
    ∙ ap (λ (rs : List Row). advanced e.kind c.loop-end.table.items rs) c.split_at-in-loop-end.ensures.front in
    let more : List ℕ = block_text (full b.head e.outcome c.advance.new.table.items) in
    let text : block_text (full c.split_at.result.0.now e.outcome c.as_slice.result.now) ≡ more =
    ap (λ (head : List ℕ). block_text (full head e.outcome c.as_slice.result.now)) c.split_at.ensures.front ∙ ap (λ (rs : List Row). block_text (full b.head e.outcome rs)) c.as_slice.ensures.value in
    let stands =
    stands_next c.args.changes.now (blocks_of (drop i ends) c.loop-end.heads.now c.loop-end.rows.now) (blocks_of (drop (i + 1) ends) (drop e.head c.loop-end.heads.now) (drop e.rows c.loop-end.rows.now))
    b st.0 c.loop-end.table.items st.1 (next_blocks ends i other_end c.loop-end.heads.now c.loop-end.rows.now c.loop-end-test.true) c.advance.new.table.items table in
    let written : g.O.Sink.written c.write_rows.new.out ≡ appended (g.O.Sink.written c.args.out.now) (st.0 ++ more) =
    c.in_default.ensures.ok ∙ ap (λ (bs : List ℕ). appended (g.O.Sink.written c.loop-end.out) bs) text ∙ ap (λ (w : Option (List ℕ)). appended w more) st.2 ∙ appended-append (g.O.Sink.written c.args.out.now) st.0 more in
    record {
      ends = subst (λ (hs : List ℕ). AreEnds (drop (i + 1) ends) hs c.split_at-in-loop-end.result.1.now) (sym c.split_at.ensures.back)
          (subst (λ (rs : List Row). AreEnds (drop (i + 1) ends) (drop e.head c.loop-end.heads.now) rs) (sym c.split_at-in-loop-end.ensures.back)
          (next_ends ends i other_end c.loop-end.heads.now c.loop-end.rows.now c.loop-end-test.true c.loop-end.invariant.ends).2);
      stands = (
        st.0 ++ more,
        subst (λ (hs : List ℕ). Stands c.args.changes.now (blocks_of (drop (i + 1) ends) hs c.split_at-in-loop-end.result.1.now) (st.0 ++ more) c.advance.new.table.items) (sym c.split_at.ensures.back)
            (subst (λ (rs : List Row). Stands c.args.changes.now (blocks_of (drop (i + 1) ends) (drop e.head c.loop-end.heads.now) rs) (st.0 ++ more) c.advance.new.table.items) (sym c.split_at-in-loop-end.ensures.back) stands),
        written,
      );
      faults = omega (arith, c.loop-end.invariant.faults, c.write_rows.ensures.faults);
    }
