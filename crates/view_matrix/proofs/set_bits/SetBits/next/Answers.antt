-- The lowest bit comes first, and the others behind it.
use Rattle.std.proofs.Common.{◌∙◌, ◌<◌, ◌/◌, ◌^◌, sym, arith, w64}
use Rattle.std.specs.Int.{trailing_zeros}
use Rattle.std.proofs.Math.Nat.{div-le_self}
use Rattle.view_matrix.proofs.Bits.{left_nothing, left_next, none_left, lowest_within}
use Rattle.view_matrix.proofs.set_bits.SetBits.next.Goals as goal

pub returns-then-rest-eq0-clause-next : goal.returns-then-rest-eq0-clause-next
returns-then-rest-eq0-clause-next c = sym c.self.view_is ∙ left_nothing c.self.inside.rest c.self.inside.place c.if-rest-eq0.true

pub invariant_of-self : goal.invariant_of-self
invariant_of-self c =
    let rest = c.self.inside.rest in
    let place = c.self.inside.place in
    let some : 0 < rest = omega (arith, c.if-rest-eq0.false) in
    let invariant = c.self.invariant in
    record {
      few = omega (arith, lowest_within rest place some invariant.small invariant.none);
      small = omega (arith, invariant.small, div-le_self rest (2 ^ trailing_zeros w64 rest), div-le_self (rest / 2 ^ trailing_zeros w64 rest) 2);
      none = none_left rest place some invariant.small invariant.none;
    }

pub returns-clause-next : goal.returns-clause-next
returns-clause-next c = sym c.self.view_is ∙ left_next c.self.inside.rest c.self.inside.place (omega (arith, c.if-rest-eq0.false)) c.self.invariant.small c.self.invariant.none

pub returns-clause-within : goal.returns-clause-within
returns-clause-within c = lowest_within c.self.inside.rest c.self.inside.place (omega (arith, c.if-rest-eq0.false)) c.self.invariant.small c.self.invariant.none
