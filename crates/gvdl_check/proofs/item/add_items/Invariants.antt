use Rattle.std.proofs.Common.{◌≡◌, drop}
use Rattle.gvdl_check.specs.Views.{items_added}
use Rattle.gvdl_check.proofs.item.add_items.Given as goal

abbrev pub invariant-loop-item : goal.invariant-loop-item
invariant-loop-item l = items_added l.graph l.base l.fn.views l.items ≡ items_added l.graph l.base l.views (drop l.item-index l.items)
