use Rattle.std.proofs.Common.{◌∙◌, ◌++◌, ◌∷◌, [], List, sym, ap}
use Rattle.vertex_lang.specs.Rounds.{value_at}
use Rattle.change_lists.specs.declared.history.Change.{Change}
use Rattle.change_lists.proofs.Listing.{all-next}
use Rattle.change_lists.proofs.values.all_changes.Goals as goal

pub loop-node-preserved : goal.loop-node-preserved
loop-node-preserved c = c.in_ok-push.ensures.ok ∙ ap (λ (cs : List Change). cs ++ record { node = record { 0 = c.loop-node.node }; value = value_at c.args.new.now c.loop-node.node } ∷ []) c.loop-node.invariant ∙ sym (all-next c.args.new.now c.loop-node.node c.loop-node-test.true)
