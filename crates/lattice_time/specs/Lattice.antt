-- Partially ordered times: any two have a least upper bound.
use Rattle.std.specs.Prelude.{◌≡◌, Bool, IsTrue}

-- leq is a partial order, and lub the least upper bound under it
pub record IsLattice {T : Type 0} (leq : T → T → Bool) (lub : T → T → T) : Type 0 where
  pub reflexive : (s : T) → IsTrue (leq s s)
  pub transitive : (r s t : T) → IsTrue (leq r s) → IsTrue (leq s t) → IsTrue (leq r t)
  pub antisymmetric : (s t : T) → IsTrue (leq s t) → IsTrue (leq t s) → s ≡ t
  -- an upper bound of both
  pub left : (s t : T) → IsTrue (leq s (lub s t))
  pub right : (s t : T) → IsTrue (leq t (lub s t))
  -- below each other upper bound
  pub least : (s t u : T) → IsTrue (leq s u) → IsTrue (leq t u) → IsTrue (leq (lub s t) u)
