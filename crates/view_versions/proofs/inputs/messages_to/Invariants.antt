use Rattle.std.proofs.Common.{◌≡◌, take}
use Rattle.vertex_lang.specs.Arcs.{messages}
use Rattle.vertex_lang.specs.Rounds.{carried}
use Rattle.view_versions.proofs.inputs.messages_to.Given as goal

abbrev pub invariant-loop-arc : goal.invariant-loop-arc
invariant-loop-arc l = l.messages.items ≡ messages (carried l.program l.graph l.arcs l.values) (take l.arc-index l.arcs) l.node
