use Rattle.std.proofs.Common.{◌≡◌, map, drop}
use Rattle.gvdl_programs.specs.Judging.{each}
use Rattle.gvdl_check.specs.Predicates.{predicate}
use Rattle.gvdl_programs.specs.Turns.{behind}
use Rattle.gvdl_check.proofs.predicate.+judging.Given as goal

abbrev pub invariant-predicates-loop-tree : goal.invariant-predicates-loop-tree
invariant-predicates-loop-tree l = each (map (predicate l.graph) l.trees) ≡ behind l.preds (each (map (predicate l.graph) (drop l.tree-index l.trees)))
