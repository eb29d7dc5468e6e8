use Rattle.std.proofs.Common.{◌≡◌, map}
use Rattle.std.specs.List.{range_with_len}
use Rattle.vertex_lang.specs.Expressions.{start_of}
use Rattle.view_versions.proofs.values.starts_anew.Given as goal

abbrev pub invariant-loop-node : goal.invariant-loop-node
invariant-loop-node l = l.values.items ≡ map (start_of l.program l.graph) (range_with_len 0 l.node)
