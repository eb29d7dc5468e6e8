-- Inside: the words of columns as they are made.
use Rattle.std.specs.Prelude.{◌≡◌, ℕ, ◌*◌, ◌<◌, ◌&&◌, nat_lt, Bool, List, length, get_or, IfSome}
use Rattle.graph_model.specs.GraphData.{GraphData}
use Rattle.edge_predicates.specs.declared.pred.ViewRule.{ViewRule}
use Rattle.edge_predicates.specs.Truth.{rule_truth}
use Rattle.std.specs.declared.vec.Vec.{Vec}
use Rattle.view_matrix.specs.declared.scan.Scan.{Scan}
use Rattle.view_matrix.specs.Columns.{bit_in}
use Rattle.view_matrix.specs.Bounds.{all_meet, AreOf}

-- the bits of the first so many words
abbrev pub bits_up_to : (ℕ → Bool) → ℕ → ℕ → List ℕ → Type 0
bits_up_to p len k words = (e : ℕ) → e < 64 * k → bit_in words e ≡ (nat_lt e len && p e)

-- the first so many words of the column of a rule
pub record HasWords (g : GraphData) (rule : ViewRule) (k : ℕ) (words : List ℕ) : Type 0 where
  pub count : length words ≡ k
  pub bits : bits_up_to (λ e. rule_truth g e rule) (length g.ends) k words

-- bounds by which a rule is told, if it is told by bounds
pub record IsScan (g : GraphData) (s : Scan) : Type 0 where
  pub columns : IfSome s.bounds (λ all. AreOf (length g.edge_columns) all.items)
  pub means : IfSome s.bounds (λ all. (e : ℕ) → all_meet g e all.items ≡ rule_truth g e s.rule.now)

-- the first so many words of the column of each rule
pub record HaveWords {A : Type 0} (g : GraphData) (k : ℕ) (scans : List Scan) (columns : List (Vec ℕ A)) : Type 0 where
  pub all : length columns ≡ length scans
  pub each : (j : ℕ) (s : Scan) (words : Vec ℕ A) → j < length scans → HasWords g (get_or scans j s).rule.now k (get_or columns j words).items
