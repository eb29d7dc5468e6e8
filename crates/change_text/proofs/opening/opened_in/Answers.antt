use Rattle.std.proofs.Common.{List, ℕ, length, ◌∙◌, sym, ap, arith}
use Rattle.std.proofs.lemmas.List.{nil_from_length}
use Rattle.change_text.specs.Inside.{said}
use Rattle.change_text.proofs.Split.{no_items, some_items}
use Rattle.change_text.proofs.Lines.{no_head, opened}
use Rattle.change_text.proofs.opening.opened_in.Goals as goal

pub returns-then-is_empty : goal.returns-then-is_empty
returns-then-is_empty c =
    no_head c.args.kind c.args.bytes.now c.args.line.now c.in-Some.outcome c.in-Some.ensures.0 c.requires.word
    (c.in-Some.ensures.1 ∙ ap (λ (head : List ℕ). said head c.in-Some.outcome) (nil_from_length c.in-Some.head.now (no_items c.in-Some.head.now (sym c.if-is_empty.ensures))))

pub returns : goal.returns
returns c =
    opened c.args.kind c.args.bytes.now c.in-Some.head.now c.in-Some.outcome c.args.line.now c.requires.word c.requires.line c.in-Some.ensures
    (λ e. omega (arith, some_items c.in-Some.head.now (sym c.if-is_empty.ensures), ap (λ (head : List ℕ). length head) e))
