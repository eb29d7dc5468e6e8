-- Where the views of a run are split into segments.
use Rattle.std.specs.Prelude.{ℕ, ◌+◌, List, [], ◌∷◌, ◌++◌, length, fold, if◌then◌else◌, Option, Some, None}
use Rattle.std.specs.List.{sum_by}
use Rattle.graph_model.specs.declared.number.EdgeNo.{EdgeNo}
use Rattle.segment_split.specs.declared.SplitRule.{SplitRule}
use Rattle.segment_split.specs.declared.Counts.{Counts}
use Rattle.segment_split.specs.Rule.{starts_new}
use Rattle.view_matrix.specs.Matrices.{in_exactly_one}
use Rattle.view_segment.specs.Segments.{last_of}
use Rattle.view_segment.specs.Tasks.{Task, works_of}

-- the edges of a view that may be none
abbrev pub edges_before : Task → Option ℕ → List EdgeNo
edges_before task None = []
edges_before task (Some v) = task.edges v

-- how many edges stand in exactly one of two views
abbrev pub difference : Task → Option ℕ → ℕ → ℕ
difference task before v = in_exactly_one (edges_before task before) (task.edges v)

-- in how many edges views behind this one differ from the one before each, in total
abbrev pub differences : Task → ℕ → List ℕ → ℕ
differences task u [] = 0
differences task u (v ∷ vs) = difference task (Some u) v + differences task v vs

-- of the first, and of all behind it
abbrev pub first_number : List ℕ → ℕ
first_number [] = 0
first_number (n ∷ ns) = n

abbrev pub later_sum : List ℕ → ℕ
later_sum [] = 0
later_sum (n ∷ ns) = sum_by (λ m. m) ns

abbrev pub first_edges : Task → List ℕ → ℕ
first_edges task [] = 0
first_edges task (v ∷ vs) = length (task.edges v)

abbrev pub later_edges : Task → List ℕ → ℕ
later_edges task [] = 0
later_edges task (v ∷ vs) = differences task v vs

-- what the rule looks at, for the views of a segment, and the next view
abbrev pub counts_of : Task → List ℕ → ℕ → Counts
counts_of task views next = record {
  in_segment = length views;
  first_edges = first_edges task views;
  first_work = first_number (works_of task views);
  later_edges = later_edges task views;
  later_work = later_sum (works_of task views);
  next_edges = length (task.edges next);
  next_difference = difference task (last_of views) next;
}

-- ---- segments, as lists of views

-- Adds a view behind segments: the first starts one, and each next one where the rule says so of the last segment.
abbrev pub with_next : Task → SplitRule → List (List ℕ) → ℕ → List (List ℕ)
with_next task rule [] v = (v ∷ []) ∷ []
with_next task rule (s ∷ []) v = if starts_new rule (counts_of task s v) then s ∷ ((v ∷ []) ∷ []) else (s ++ (v ∷ [])) ∷ []
with_next task rule (s ∷ t ∷ ss) v = s ∷ with_next task rule (t ∷ ss) v

-- the segments of views in their order
unfoldable pub segments_of : Task → SplitRule → List ℕ → List (List ℕ)
segments_of task rule order = fold (with_next task rule) [] order

-- the works of all views of these segments
abbrev pub all_works : Task → List (List ℕ) → ℕ
all_works task segments = sum_by (λ views. sum_by (λ n. n) (works_of task views)) segments
