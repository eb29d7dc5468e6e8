use Rattle.std.proofs.Common.{◌≡◌, map, take}
use Rattle.surge_session.specs.State.{rules_of}
use Rattle.surge_session.proofs.state.add_views.Given as goal

abbrev pub invariant-loop-view : goal.invariant-loop-view
invariant-loop-view l = map (λ rule. rule.now) l.rules.items ≡ rules_of (take l.view-index l.views)
