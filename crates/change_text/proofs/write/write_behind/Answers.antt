use Rattle.std.proofs.Common.{◌≡◌, ◌∙◌, List, ℕ, Some, OnOk, OnErr, sym, subst}
use Rattle.surge_outside.specs.Written.{GrewByFront, appended}
use Rattle.change_text.proofs.Writing.{both_shown, change_is, full_is, not_before, not_now}
use Rattle.change_text.specs.Writing.{is_shown}
use Rattle.change_text.proofs.write.write_behind.Goals as goal

pub returns-then-not-is_shown-clause-ok : goal.returns-then-not-is_shown-clause-ok
returns-then-not-is_shown-clause-ok g c =
    let text = full_is c.args.head.now c.args.graph.now (Some c.args.before.now) c.args.table.now c.requires.head (not_before (is_shown c.args.before.now.outcome) (is_shown c.args.table.now.outcome) (sym c.if-not-is_shown.ensures)) in
    subst (λ (bs : List ℕ). OnOk c.write_table.result (g.O.Sink.written c.write_table.new.out ≡ appended (g.O.Sink.written c.args.out.now) bs)) text c.write_table.ensures.ok

pub returns-then-not-is_shown-clause-err : goal.returns-then-not-is_shown-clause-err
returns-then-not-is_shown-clause-err g c =
    let text = full_is c.args.head.now c.args.graph.now (Some c.args.before.now) c.args.table.now c.requires.head (not_before (is_shown c.args.before.now.outcome) (is_shown c.args.table.now.outcome) (sym c.if-not-is_shown.ensures)) in
    subst (λ (bs : List ℕ). OnErr c.write_table.result (GrewByFront (g.O.Sink.written c.args.out.now) (g.O.Sink.written c.write_table.new.out) bs)) text c.write_table.ensures.err

pub returns-then-not-is_shown-2-clause-ok : goal.returns-then-not-is_shown-2-clause-ok
returns-then-not-is_shown-2-clause-ok g c =
    let text = full_is c.args.head.now c.args.graph.now (Some c.args.before.now) c.args.table.now c.requires.head (not_now (is_shown c.args.before.now.outcome) (is_shown c.args.table.now.outcome) (sym c.if-not-is_shown-2.ensures)) in
    subst (λ (bs : List ℕ). OnOk c.write_table-then-not-is_shown-2.result (g.O.Sink.written c.write_table-then-not-is_shown-2.new.out ≡ appended (g.O.Sink.written c.args.out.now) bs)) text
    c.write_table-then-not-is_shown-2.ensures.ok

pub returns-then-not-is_shown-2-clause-err : goal.returns-then-not-is_shown-2-clause-err
returns-then-not-is_shown-2-clause-err g c =
    let text = full_is c.args.head.now c.args.graph.now (Some c.args.before.now) c.args.table.now c.requires.head (not_now (is_shown c.args.before.now.outcome) (is_shown c.args.table.now.outcome) (sym c.if-not-is_shown-2.ensures)) in
    subst (λ (bs : List ℕ). OnErr c.write_table-then-not-is_shown-2.result (GrewByFront (g.O.Sink.written c.args.out.now) (g.O.Sink.written c.write_table-then-not-is_shown-2.new.out) bs)) text
    c.write_table-then-not-is_shown-2.ensures.err

pub returns-in-Ok-clause-ok : goal.returns-in-Ok-clause-ok
returns-in-Ok-clause-ok g c =
    let text = c.as_slice.ensures.value ∙ c.in-Ok.ensures
    ∙ change_is c.args.head.now c.args.graph.now c.args.before.now c.args.table.now
    (both_shown (is_shown c.args.before.now.outcome) (is_shown c.args.table.now.outcome) (sym c.if-not-is_shown.ensures) (sym c.if-not-is_shown-2.ensures)) in
    subst (λ (bs : List ℕ). OnOk c.put_all.result (g.O.Sink.written c.put_all.new.sink ≡ appended (g.O.Sink.written c.args.out.now) bs)) text c.put_all.ensures.all

pub returns-in-Ok-clause-err : goal.returns-in-Ok-clause-err
returns-in-Ok-clause-err g c =
    let text = c.as_slice.ensures.value ∙ c.in-Ok.ensures
    ∙ change_is c.args.head.now c.args.graph.now c.args.before.now c.args.table.now
    (both_shown (is_shown c.args.before.now.outcome) (is_shown c.args.table.now.outcome) (sym c.if-not-is_shown.ensures) (sym c.if-not-is_shown-2.ensures)) in
    subst (λ (bs : List ℕ). OnErr c.put_all.result (GrewByFront (g.O.Sink.written c.args.out.now) (g.O.Sink.written c.put_all.new.sink) bs)) text c.put_all.ensures.front
