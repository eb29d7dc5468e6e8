-- The weight that a cell holds, where it holds one.
use Rattle.std.specs.Prelude.{◌≡◌, ℕ, ℤ, pos, negsuc, Option, Some, None}
use Rattle.std.proofs.Common.{ap, sym, ◌∙◌}
use Rattle.graph_model.specs.GraphData.{Cell}

-- the number, where it isn't negative
abbrev pub natural_of : ℤ → Option ℕ
natural_of (pos n) = Some n
natural_of (negsuc n) = None

-- the number of a cell that holds one, where it isn't negative
abbrev pub weight_at : Cell → Option ℕ
weight_at (Cell.int z) = natural_of z
weight_at _ = None

some-natural : (z : ℤ) (w : ℕ) → natural_of z ≡ Some w → z ≡ pos w
some-natural (pos n) w e = cc
some-natural (negsuc n) w e = absurd cc

pub some-weight : (c : Cell) (w : ℕ) → weight_at c ≡ Some w → c ≡ Cell.int (pos w)
some-weight Cell.absent w e = absurd cc
some-weight (Cell.int z) w e = ap (λ (y : ℤ). Cell.int y) (some-natural z w e)
some-weight (Cell.str bytes) w e = absurd cc
some-weight (Cell.bool b) w e = absurd cc

pub no-weight : (c : Cell) (n : ℕ) → weight_at c ≡ None → c ≡ Cell.int (pos n) → ⊥
no-weight c n e f = let never : Path (Option ℕ) None (Some n) = sym e ∙ ap weight_at f in cc
