use Rattle.std.proofs.Common.{◌∙◌, ap, [], ◌∷◌, ◌++◌}
use Rattle.graph_loader.proofs.EndFacts.{link-more}
use Rattle.graph_loader.proofs.ends.link.Goals as goal

pub loop-pair-preserved : goal.loop-pair-preserved
loop-pair-preserved c =
    link-more c.args.file c.args.nodes.now.ids.now.keys c.args.ends.now c.loop-pair.ends c.push.new.self c.args.waiting.now c.as_slice-pair-items.result.now c.loop-pair.pair-index _ c.as_slice-pair-items.ensures c.loop-pair-test.true
    c.loop-pair.invariant.0 c.loop-pair.invariant.1 c.in-Ok.ensures.told (c.in_ok-push-in-Ok.ensures.ok ∙ ap (λ e. c.loop-pair.ends ++ e ∷ []) c.in-Ok.ensures.ends)
