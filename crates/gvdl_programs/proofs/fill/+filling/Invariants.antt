use Rattle.std.proofs.Common.{◌≡◌, map, take}
use Rattle.gvdl_programs.specs.Filled.{filled, filled_check}
use Rattle.gvdl_programs.proofs.fill.+filling.Given as goal

abbrev pub invariant-filled_all-loop-template : goal.invariant-filled_all-loop-template
invariant-filled_all-loop-template l = l.members ≡ map (filled l.numbers) (take l.template-index l.templates)

abbrev pub invariant-filled_chain-loop-member : goal.invariant-filled_chain-loop-member
invariant-filled_chain-loop-member l = l.members ≡ map (λ m. (m.0, filled l.numbers m.1)) (take l.member-index l.templates)

abbrev pub invariant-filled_checks-loop-template : goal.invariant-filled_checks-loop-template
invariant-filled_checks-loop-template l = l.checks ≡ map (filled_check l.numbers) (take l.template-index l.templates)
