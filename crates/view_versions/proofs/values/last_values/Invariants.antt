use Rattle.std.proofs.Common.{◌≡◌, List, Some, length}
use Rattle.vertex_lang.specs.declared.arc.Arc.{Arc}
use Rattle.vertex_lang.specs.Expressions.{Answer}
use Rattle.vertex_lang.specs.Rounds.{lone}
use Rattle.round_kernel.specs.Histories.{IsHistory}
use Rattle.view_versions.proofs.values.last_values.Given as goal

abbrev pub invariant-loop-round : goal.invariant-loop-round
invariant-loop-round l = record {
  size : length l.values.items ≡ length l.graph.ids;
  are : (answer : Answer) (arcs : List Arc) → IsHistory answer l.program l.graph (Some arcs) l.limit l.history → l.values.items ≡ lone answer l.program l.graph arcs l.round;
}
