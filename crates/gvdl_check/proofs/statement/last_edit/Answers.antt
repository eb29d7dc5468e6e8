-- One statement more.
use Rattle.std.proofs.Common.{◌≡◌, ◌∙◌, ℕ, ◌+◌, List, ◌∷◌, drop, sym, ap, arith}
use Rattle.std.proofs.lemmas.List.{drop_all}
use Rattle.gvdl_tree.specs.declared.script.Statement.{Statement}
use Rattle.gvdl_programs.specs.Turns.{left_at}
use Rattle.gvdl_check.specs.Plans.{edit_seen, last_edit_from}
use Rattle.gvdl_check.proofs.statement.last_edit.Goals as goal

pub loop-statement-preserved : goal.loop-statement-preserved
loop-statement-preserved c =
    let ss = c.args.statements.now in
    let i = c.loop-statement.statement-index in
    let s = c.statement-item.result in
    let inv = c.loop-statement.invariant in
    let found = c.loop-statement.found in
    let seen = c.edit_seen-found.result in
    let here : drop i ss ≡ s ∷ drop (i + 1) ss = left_at ss i s c.loop-statement-test.true c.statement-item.is in
    let number : i + 2 ≡ c.loop-statement.number + 1 = omega (arith, inv.number) in
    let is : edit_seen s (i + 2) found ≡ seen = ap (λ (n : ℕ). edit_seen s n found) number ∙ sym c.edit_seen-found.ensures in
    let again : i + 2 + 1 ≡ i + 1 + 2 = omega arith in
    record {
      same = inv.same ∙ ap (λ (l : List Statement). last_edit_from found (i + 2) l) here
          ∙ ap (λ (f : ℕ). last_edit_from f (i + 2 + 1) (drop (i + 1) ss)) is
          ∙ ap (λ (n : ℕ). last_edit_from seen n (drop (i + 1) ss)) again;
      number = omega (arith, inv.number);
    }

pub returns : goal.returns
returns c =
    let ss = c.args.statements.now in
    let i = c.loop-statement.statement-index in
    sym (c.loop-statement.invariant.same ∙ ap (λ (l : List Statement). last_edit_from c.loop-statement.found (i + 2) l) (drop_all i ss c.loop-statement-test.false))
