use Rattle.std.proofs.Common.{◌∷◌, ◌-◌, length, take, drop}
use Rattle.gvdl_tokens.specs.declared.token.Sign.TheVariants as s
use Rattle.gvdl_tree.specs.declared.script.Item.{Item}
use Rattle.gvdl_printer.specs.Layout.{sign}
use Rattle.gvdl_printer.specs.Canonical.{item_pieces}
use Rattle.gvdl_printer.proofs.Growing.{then_more, part_more, chain_done}
use Rattle.gvdl_printer.proofs.view.items.Goals as goal

pub loop-other-preserved : goal.loop-other-preserved
loop-other-preserved c =
    part_more (λ (x : Item). sign s.Comma ∷ item_pieces x) (take (length c.args.views.now - 1) (drop 1 c.args.views.now)) c.loop-other.other-index c.other-item.result c.loop-other.page c.item-in-loop-other.new.page _ c.loop-other-test.true c.other-item.is
    (then_more _ _ _ _ _ c.in_ok-sign-in-len1-up.ensures c.in_ok-item-in-len1-up-2.ensures) c.loop-other.invariant

pub returns-after-loop-other : goal.returns-after-loop-other
returns-after-loop-other c =
    chain_done (sign s.Comma) item_pieces c.args.views.now c.first-item.result c.loop-other.other-index c.args.page.now c.item.new.page c.loop-other.page c.in-len1-up.len_at_least c.first-item.is c.in_ok-item-in-len1-up.ensures c.loop-other-test.false c.loop-other.invariant
