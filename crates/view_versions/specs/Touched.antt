-- Which nodes an edit touches, and what it costs a view that goes on from its own version before.
use Rattle.std.specs.Prelude.{ℕ, zero, suc, Bool, false, not, ◌||◌, List, Some, count_by}
use Rattle.std.specs.List.{list_any, sum_by}
use Rattle.graph_model.specs.GraphData.{GraphData}
use Rattle.vertex_lang.specs.declared.arc.Arc.{Arc}
use Rattle.vertex_lang.specs.declared.program.Program.{Program}
use Rattle.vertex_lang.specs.Expressions.{Answer}
use Rattle.vertex_lang.specs.Lone.{number_of}
use Rattle.vertex_lang.specs.Rounds.{nodes_of}
use Rattle.multisets.specs.Multisets.{are_one}
use Rattle.lone_work.specs.Inputs.{input}
use Rattle.lone_work.specs.Items.{Item, same_item}
use Rattle.lone_work.specs.Work.{work}
use Rattle.view_segment.specs.Tasks.{Task, view_arcs}

-- what is got in some round below this number differs between two versions
abbrev pub differs : (ℕ → List Item) → (ℕ → List Item) → ℕ → Bool
differs new old zero = false
differs new old (suc r) = differs new old r || not (are_one same_item (new r) (old r))

-- the input of a node, its start, its value and its messages as a multiset, differs between two versions of a view in some round
-- of its plain run below this number
unfoldable pub node_differs : Answer → Program → GraphData → (new old : List Arc) → ℕ → ℕ → Bool
node_differs answer p graph new old v rounds = differs (input answer p graph new v) (input answer p graph old v) rounds

-- it differs in a view between two versions of the edges of all views, the one before (`old`) and the new one
abbrev pub differs_in : (old new : Task) → ℕ → ℕ → Bool
differs_in old new view v = node_differs new.answer new.program new.graph (view_arcs new view) (view_arcs old view) v (number_of new.rounds)

-- a node is touched where it differs in one of these views
abbrev pub is_touched_in : (old new : Task) → List ℕ → ℕ → Bool
is_touched_in old new views v = list_any (λ view. differs_in old new view v) views

-- how many nodes are touched
unfoldable pub touched : (old new : Task) → List ℕ → ℕ
touched old new views = count_by (is_touched_in old new views) (nodes_of new.graph)

-- the counted work of a view behind its own version before
abbrev pub edit_work : (old new : Task) → ℕ → ℕ
edit_work old new view = work new.answer new.program new.graph (view_arcs new view) (Some (view_arcs old view)) (number_of new.rounds)

-- of these views all in all
abbrev pub edit_works : (old new : Task) → List ℕ → ℕ
edit_works old new views = sum_by (edit_work old new) views
