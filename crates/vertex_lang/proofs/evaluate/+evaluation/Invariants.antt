use Rattle.std.proofs.Common.{◌≡◌, true, fold, map, take}
use Rattle.std.specs.List.{list_all}
use Rattle.vertex_lang.specs.Expressions.{value_of, holds_of}
use Rattle.vertex_lang.specs.Naming.{environment}
use Rattle.vertex_lang.specs.Values.{added, scaled, first_given}
use Rattle.vertex_lang.proofs.evaluate.+evaluation.Given as goal

abbrev pub invariant-add_all-loop-plus : goal.invariant-add_all-loop-plus
invariant-add_all-loop-plus l = l.sum ≡ fold (λ sum member. added member.0 sum (value_of member.1 (environment l.words))) l.fn.first (take l.plus-index l.rest)

abbrev pub invariant-scale_all-loop-times : goal.invariant-scale_all-loop-times
invariant-scale_all-loop-times l = l.product ≡ fold (λ product member. scaled member.0 product (value_of member.1 (environment l.words))) l.fn.first (take l.times-index l.rest)

abbrev pub invariant-first_value-loop-member : goal.invariant-first_value-loop-member
invariant-first_value-loop-member l = l.first ≡ first_given (map (λ member. value_of member (environment l.words)) (take l.member-index l.members))

abbrev pub invariant-all_hold-loop-check : goal.invariant-all_hold-loop-check
invariant-all_hold-loop-check l = list_all (λ check. holds_of check (environment l.words)) (take l.check-index l.checks) ≡ true
