use Rattle.std.proofs.Common.{◌≡◌, map, drop}
use Rattle.gvdl_programs.specs.Judging.{each}
use Rattle.gvdl_programs.specs.Expressions.{expression, test, signed}
use Rattle.gvdl_programs.specs.Turns.{behind}
use Rattle.gvdl_programs.proofs.expression.+judging.Given as goal

abbrev pub invariant-checks-loop-tree : goal.invariant-checks-loop-tree
invariant-checks-loop-tree l = each (map (test l.graph l.part l.parameters) l.tests) ≡ behind l.judged (each (map (test l.graph l.part l.parameters) (drop l.tree-index l.tests)))

abbrev pub invariant-members_of-loop-tree : goal.invariant-members_of-loop-tree
invariant-members_of-loop-tree l = each (map (expression l.graph l.part l.parameters) l.trees) ≡ behind l.judged (each (map (expression l.graph l.part l.parameters) (drop l.tree-index l.trees)))

abbrev pub invariant-chain_of-loop-member : goal.invariant-chain_of-loop-member
invariant-chain_of-loop-member l = each (map (λ member. signed (member.0, expression l.graph l.part l.parameters member.1)) l.trees) ≡ behind l.judged (each (map (λ member. signed (member.0, expression l.graph l.part l.parameters member.1)) (drop l.member-index l.trees)))
