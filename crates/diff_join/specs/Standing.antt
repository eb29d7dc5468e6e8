-- The runs that a join stands for.
use Rattle.std.specs.Prelude.{◌≡◌, ℕ, Bool, IsTrue, List, ◌++◌}
use Rattle.weighted.specs.Alike.{Alike}
use Rattle.trace_store.specs.Traces.{accumulated}
use Rattle.flow_core.specs.declared.side.Side.{Side}
use Rattle.flow_core.specs.Sides.{lefts, rights}
use Rattle.flow_core.specs.Runs.{Run, Every, Member, NoneBelow, IsLubOf, fed_to, made_to, times_of}
use Rattle.diff_join.specs.Joins.{products_to, due_times}

-- s is the least upper bound of one of the times and the seal
abbrev pub IsReadAs : {T : Type 0} → (T → T → T) → T → List T → T → Type 0
IsReadAs {T} lub seal times s = (r : T) × Member r times × (s ≡ lub r seal)

-- left and right are the two traces, and kept the products that wait for their times
pub record StandsByProducts {T K A B O : Type 0} (leq : T → T → Bool) (lub : T → T → T) (apply : List (Side (K × A) (K × B) × ℕ) → List (O × ℕ)) (seal : T) (left : List (((K × A) × T) × ℕ)) (right : List (((K × B) × T) × ℕ)) (kept : List ((T × O) × ℕ)) (run : Run T (Side (K × A) (K × B)) O) : Type 0 where
  -- nothing was ever charged
  pub base : run.base ≡ 0
  pub free : Every (λ s. s.charge ≡ 0) run.steps
  -- the traces accumulate to the two sides of what was fed
  pub left_sums : (u : T) → IsTrue (leq seal u) → Alike (accumulated leq u left) (lefts (fed_to leq run.steps u))
  pub right_sums : (u : T) → IsTrue (leq seal u) → Alike (accumulated leq u right) (rights (fed_to leq run.steps u))
  -- what was made and what is kept sums to the function of what was fed
  pub products : (u : T) → IsTrue (leq seal u) → Alike (made_to leq run.steps u ++ products_to leq u kept) (apply (fed_to leq run.steps u))
  -- the times of the traces are times of the run, read as of the seal
  pub left_times : Every (λ e. IsReadAs lub seal (times_of run.steps) e.0.1) left
  pub right_times : Every (λ e. IsReadAs lub seal (times_of run.steps) e.0.1) right
  -- the times of what is kept are least upper bounds of times of the run, at or above the seal
  pub lubs : Every (λ d. IsLubOf lub (times_of run.steps) d × IsTrue (leq seal d)) (due_times kept)
  -- and none of them is at or below a time of the run
  pub ahead : Every (λ t. NoneBelow leq t (due_times kept)) (times_of run.steps)
