-- Internal definitions: the weights of all pairs of a few groups, pair by pair in a table.
use Rattle.std.specs.Prelude.{ℕ, ◌+◌, ◌/◌, ◌%◌, ◌^◌, Bool, List, [], ◌∷◌, ◌++◌, if◌then◌else◌, Option, None, Some}
use Rattle.weighted.specs.Words.{minus}
use Rattle.graph_model.specs.GraphData.{GraphData}
use Rattle.aggregate_views.specs.declared.part.Part.{Part}
use Rattle.aggregate_views.specs.declared.part.Part.TheVariants.{Count, Low, High}
use Rattle.aggregate_views.specs.declared.table.PartWeights.{PartWeights}
use Rattle.aggregate_views.specs.Coding.{shifted_at}

abbrev pub no_weights : PartWeights
no_weights = record { count = 0; low = 0; high = 0 }

abbrev pub edge_weights : GraphData → Option ℕ → ℕ → PartWeights
edge_weights g None e = record { count = 1; low = 0; high = 0 }
edge_weights g (Some column) e = record { count = 1; low = shifted_at g column e % 4_294_967_296; high = shifted_at g column e / 4_294_967_296 }

abbrev pub weight_with : ℕ → Bool → ℕ → ℕ
weight_with sum comes weight = (sum + (if comes then weight else minus weight)) % 2 ^ 64

abbrev pub weights_with : PartWeights → Bool → PartWeights → PartWeights
weights_with w comes v = record { count = weight_with w.count comes v.count; low = weight_with w.low comes v.low; high = weight_with w.high comes v.high }

-- the entries of a pair
abbrev pub pair_entries : ℕ × ℕ → PartWeights → List (((ℕ × ℕ) × Part) × ℕ)
pair_entries p w = ((p, Count), w.count) ∷ ((p, Low), w.low) ∷ ((p, High), w.high) ∷ []

-- the pair at a place of a table of so many groups
abbrev pub pair_of : ℕ → ℕ → ℕ × ℕ
pair_of groups n = (n / groups, n % groups)

-- the entries of a table whose first pair has this place
abbrev pub table_entries : ℕ → ℕ → List PartWeights → List (((ℕ × ℕ) × Part) × ℕ)
table_entries groups n [] = []
table_entries groups n (w ∷ ws) = pair_entries (pair_of groups n) w ++ table_entries groups (n + 1) ws
