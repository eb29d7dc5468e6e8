use Rattle.std.proofs.Common.{◌≡◌, false, take}
use Rattle.std.specs.List.{list_any}
use Rattle.vertex_lang.specs.Named.{names, check_names}
use Rattle.vertex_lang.proofs.names.+reading.Given as goal

abbrev pub invariant-a_check_holds-loop-check : goal.invariant-a_check_holds-loop-check
invariant-a_check_holds-loop-check l = list_any (λ check. check_names l.word check) (take l.check-index l.checks) ≡ false

abbrev pub invariant-a_member_holds-loop-member : goal.invariant-a_member_holds-loop-member
invariant-a_member_holds-loop-member l = list_any (λ member. names l.word member) (take l.member-index l.members) ≡ false

abbrev pub invariant-a_part_holds-loop-part : goal.invariant-a_part_holds-loop-part
invariant-a_part_holds-loop-part l = list_any (λ part. names l.word part.1) (take l.part-index l.rest) ≡ false
