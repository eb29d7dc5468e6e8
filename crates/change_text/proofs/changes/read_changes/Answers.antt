-- The first bad line.
use Rattle.std.proofs.Common.{ℕ, Bool, sym, subst}
use Rattle.std.proofs.lemmas.List.{nil_from_length}
use Rattle.change_text.specs.declared.fault.ReplayError.{ReplayError}
use Rattle.change_text.specs.Reading.{IsBadLine, IsError}
use Rattle.change_text.specs.Inside.{Takes}
use Rattle.change_text.proofs.Split.{no_items, some_items}
use Rattle.change_text.proofs.Judging.{missing_end, refused, unfinished}
use Rattle.change_text.proofs.changes.read_changes.Goals as goal

pub returns-in_default-clause-bad : goal.returns-in_default-clause-bad
returns-in_default-clause-bad c =
    let i = c.lines.invariant in
    subst (λ (e : ReplayError). IsError c.args.text.now e) (sym c.bad.ensures)
    (subst (λ (n : ℕ). IsBadLine c.args.text.now n) (sym i.number)
    (unfinished c.lines.reader c.args.text.now c.lines.rest.now i.reader i.text (some_items c.lines.rest.now (sym c.lines-test.ensures)) c.in_default.ensures))

pub returns-then-not-branch-clause-bad : goal.returns-then-not-branch-clause-bad
returns-then-not-branch-clause-bad c =
    let i = c.lines.invariant in
    subst (λ (e : ReplayError). IsError c.args.text.now e) (sym c.bad-then-not-branch.ensures)
    (subst (λ (n : ℕ). IsBadLine c.args.text.now n) (sym i.number)
    (refused c.lines.reader c.args.text.now c.lines.rest.now i.reader i.text c.in-Some.line.now c.in-Some.behind.now c.in-Some.ensures
    (subst (λ (b : Bool). Takes c.lines.reader c.in-Some.line.now c.take_line.new.self b) c.if-not-branch.true c.in_ok-take_line.ensures)))

pub returns-then-is_some-clause-bad : goal.returns-then-is_some-clause-bad
returns-then-is_some-clause-bad c =
    let i = c.lines.invariant in
    subst (λ (e : ReplayError). IsError c.args.text.now e) (sym c.bad-then-is_some.ensures)
    (subst (λ (n : ℕ). IsBadLine c.args.text.now n) (sym i.number)
    (missing_end c.lines.reader c.args.text.now c.lines.rest.now i.reader i.text (sym c.if-is_some.ensures) (nil_from_length c.lines.rest.now (no_items c.lines.rest.now (sym c.lines-test.ensures)))))
