-- Two entries of one record are in order.
use Rattle.std.proofs.Common.{ℕ, zero, suc, List, [], ◌∷◌, nat_cmp, arith, refl, sym, subst}
use Rattle.std.specs.List.Sorted.{IsSortedByKey}
use Rattle.room_rows.proofs.tests.weights.sorted_entries_add_up.Goals as goal

pair_sorted : IsSortedByKey (λ (e : ℕ × ℕ). e.0) nat_cmp ((3, 2) ∷ (3, 5) ∷ [])
pair_sorted zero d a b = refl
pair_sorted (suc k) d a b = absurd (omega (arith, b))

pub from_sorted-sum-requires : goal.from_sorted-sum-requires
from_sorted-sum-requires g c = subst (λ (es : List (ℕ × ℕ)). IsSortedByKey (λ e. e.0) nat_cmp es) (sym c.in_ok-list.ensures) pair_sorted
