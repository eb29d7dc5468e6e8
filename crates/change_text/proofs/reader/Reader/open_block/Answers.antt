use Rattle.std.proofs.Common.{◌∙◌, ◌++◌, Option, sym, ap, subst}
use Rattle.vertex_lang.specs.declared.lone.Outcome.{Outcome}
use Rattle.change_text.specs.declared.reader.Opened.{Opened}
use Rattle.change_text.specs.Spelling.{changes_lines}
use Rattle.change_text.specs.Inside.{Refused, may_stand, open_lines}
use Rattle.change_text.proofs.Taking.{opens_nothing, stands_nowhere}
use Rattle.change_text.proofs.reader.Reader.open_block.Goals as goal

pub returns-in_default : goal.returns-in_default
returns-in_default c =
    let r = c.args.self.now in
    subst (λ (x : Option Opened). Refused (changes_lines r.flat.blocks ++ open_lines x r.flat.rows) c.args.line.now) (sym c.requires.shut)
    (opens_nothing r.flat.blocks c.args.line.now c.requires.reader.are c.in_default.ensures)

pub returns-then-not-may_stand : goal.returns-then-not-may_stand
returns-then-not-may_stand c =
    let r = c.args.self.now in
    let o = c.in-Some.opening in
    subst (λ (x : Option Opened). Refused (changes_lines r.flat.blocks ++ open_lines x r.flat.rows) c.args.line.now) (sym c.requires.shut)
    (stands_nowhere r.flat.blocks c.args.line.now o.head.now o.kind o.outcome c.requires.reader.are c.in-Some.ensures
    (ap (λ (x : Option Outcome). may_stand x o.kind o.outcome) (sym c.requires.reader.last) ∙ sym c.if-not-may_stand.ensures))
