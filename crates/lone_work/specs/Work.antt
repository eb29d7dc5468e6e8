-- Where a node is active, touched and counted, given what it gets in each round of the view before (`old`) and of the new one.
use Rattle.std.specs.Prelude.{◌≡◌, ℕ, zero, suc, ◌+◌, Bool, true, false, not, ◌&&◌, ◌||◌, List, [], Option, Some, None, if◌then◌else◌}
use Rattle.std.specs.List.{sum_by}
use Rattle.graph_model.specs.declared.value.Val.{Val}
use Rattle.graph_model.specs.GraphData.{GraphData}
use Rattle.vertex_lang.specs.declared.arc.Arc.{Arc}
use Rattle.vertex_lang.specs.declared.program.Program.{Program}
use Rattle.vertex_lang.specs.Expressions.{Answer}
use Rattle.vertex_lang.specs.Rounds.{nodes_of, value_at, next_of, lone}
use Rattle.lone_work.specs.Items.{Item, same_item}
use Rattle.lone_work.specs.Inputs.{input_in}
use Rattle.multisets.specs.Multisets.{are_one, do_cancel}

-- what was got in the round before; before round 0 that is nothing
abbrev pub previous : {A : Type 0} → (ℕ → List A) → ℕ → List A
previous got zero = []
previous got (suc r) = got r

-- the difference between the rounds differs between the views
abbrev pub is_active : (ℕ → List Item) → (ℕ → List Item) → ℕ → Bool
is_active new old r = not (do_cancel same_item (new r) (old r) (previous new r) (previous old r))

-- active in a round up to this one
abbrev pub is_touched : (ℕ → List Item) → (ℕ → List Item) → ℕ → Bool
is_touched new old zero = is_active new old zero
is_touched new old (suc r) = is_touched new old r || is_active new old (suc r)

-- what is got in this round of a view differs from what was got in the round before
abbrev pub is_marked : (ℕ → List Item) → ℕ → Bool
is_marked got r = not (are_one same_item (got r) (previous got r))

abbrev pub is_counted : (ℕ → List Item) → (ℕ → List Item) → ℕ → Bool
is_counted new old r = is_touched new old r && (is_active new old r || is_marked old r)

-- the counted rounds below a number of rounds
abbrev pub rounds_counted : (ℕ → List Item) → (ℕ → List Item) → ℕ → ℕ
rounds_counted new old zero = 0
rounds_counted new old (suc r) = rounds_counted new old r + (if is_counted new old r then 1 else 0)

-- ---- of two neighbouring views of a segment

unfoldable pub node_active : Answer → Program → GraphData → List Arc → Option (List Arc) → ℕ → ℕ → Bool
node_active answer p graph new old v r = is_active (input_in answer p graph (Some new) v) (input_in answer p graph old v) r

unfoldable pub node_touched : Answer → Program → GraphData → List Arc → Option (List Arc) → ℕ → ℕ → Bool
node_touched answer p graph new old v r = is_touched (input_in answer p graph (Some new) v) (input_in answer p graph old v) r

unfoldable pub node_marked : Answer → Program → GraphData → Option (List Arc) → ℕ → ℕ → Bool
node_marked answer p graph view v r = is_marked (input_in answer p graph view v) r

unfoldable pub node_counted : Answer → Program → GraphData → List Arc → Option (List Arc) → ℕ → ℕ → Bool
node_counted answer p graph new old v r = is_counted (input_in answer p graph (Some new) v) (input_in answer p graph old v) r

-- the pairs of a node and a round below the number of rounds that are counted
unfoldable pub work : Answer → Program → GraphData → List Arc → Option (List Arc) → ℕ → ℕ
work answer p graph new old rounds = sum_by (λ v. rounds_counted (input_in answer p graph (Some new) v) (input_in answer p graph old v) rounds) (nodes_of graph)

-- ---- a step from round to round

-- the values in a view that may be none
abbrev pub lone_in : Answer → Program → GraphData → Option (List Arc) → ℕ → List Val
lone_in answer p graph None r = []
lone_in answer p graph (Some arcs) r = lone answer p graph arcs r

-- how a node's next value is found: evaluated where it is counted, as it was where it is touched, and else as in the view before
pub record IsStepped (answer : Answer) (p : Program) (graph : GraphData) (new : List Arc) (old : Option (List Arc)) (v r : ℕ) (value : Val) : Type 0 where
  pub evaluated : node_counted answer p graph new old v r ≡ true → value ≡ next_of answer p graph new (lone answer p graph new r) v
  pub stays : node_counted answer p graph new old v r ≡ false → node_touched answer p graph new old v r ≡ true → value ≡ value_at (lone answer p graph new r) v
  pub follows : node_touched answer p graph new old v r ≡ false → value ≡ value_at (lone_in answer p graph old (r + 1)) v

-- ---- round by round

-- touched in a round before this one
abbrev pub touched_before : Answer → Program → GraphData → List Arc → Option (List Arc) → ℕ → ℕ → Bool
touched_before answer p graph new old v zero = false
touched_before answer p graph new old v (suc r) = node_touched answer p graph new old v r

-- the rounds below a number of rounds in which the input changes
abbrev pub rounds_marked : (ℕ → List Item) → ℕ → ℕ
rounds_marked got zero = 0
rounds_marked got (suc r) = rounds_marked got r + (if is_marked got r then 1 else 0)
