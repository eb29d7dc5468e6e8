use Rattle.std.proofs.Common.{ap, rules, List, [], ◌∷◌, ◌++◌, ◌∙◌}
use Rattle.phrase_theory.specs.SequenceLaws.{passed_on}
use Rattle.phrase_theory.specs.ChainLaws.{chained_stuck, chained_first, chained_next, chained_fails, chained_done}
use Rattle.gvdl_parser.specs.Statements.{items}
use Rattle.gvdl_parser.proofs.StatementLaws.{item_chain}
use Rattle.gvdl_tree.specs.declared.script.Item.{Item}
use Rattle.gvdl_parser.proofs.view.items.Goals as goal

pub returns-in_err-first : goal.returns-in_err-first
unfolding items
returns-in_err-first c = passed_on _ c.from_residual.ensures.1 (chained_stuck item_chain (λ members. members) c.in_err-first.ensures)

pub returns-in_err-next : goal.returns-in_err-next
unfolding items
returns-in_err-next c = passed_on _ c.from_residual-in_err-next.ensures.1 (chained_fails item_chain (λ members. members) c.more.invariant (search rules) c.skip.ensures c.in_err-next.ensures)

pub more-init : goal.more-init
unfolding items
more-init c = chained_first item_chain (λ members. members) _ c.in_ok-first.ensures (c.in_ok-push.ensures.ok ∙ ap (λ (x : List Item). x ++ c.in_ok-first.first ∷ []) c.new-items.ensures)

pub more-preserved : goal.more-preserved
unfolding items
more-preserved c = chained_next item_chain (λ members. members) c.more.items _ c.more.invariant (search rules) c.skip.ensures c.in_ok-next.ensures c.in_ok-push-2.ensures.ok

pub returns : goal.returns
unfolding items
returns c = chained_done item_chain (λ members. members) c.more.invariant (search rules)
