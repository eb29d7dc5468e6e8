-- Lists of values as numbers, and what arcs bring that are read from them.
use Rattle.std.specs.Prelude.{ℕ, ℤ, Bool, true, if◌then◌else◌, List, map, filter}
use Rattle.graph_model.specs.declared.value.Val.{Val}
use Rattle.graph_model.specs.declared.value.Val.TheVariants.{Nil}
use Rattle.graph_model.specs.GraphData.{GraphData}
use Rattle.vertex_lang.specs.declared.arc.Arc.{Arc}
use Rattle.vertex_lang.specs.Arcs.{is_sent}
use Rattle.vertex_lang.specs.Expressions.{edge_value}
use Rattle.vertex_lang.specs.Values.{added}
use Rattle.message_forms.specs.Codes.{number_at}
use Rattle.arc_rows.specs.Views.{in_view}

-- what an arc brings, where it brings the number of its tail; none where its edge isn't in the view
abbrev pub brought_by : List ℤ → List Bool → Arc → Val
brought_by numbers edges a = if in_view edges a then number_at numbers a.tail.0 else Nil

-- what these arcs bring, in their order
abbrev pub sent_in_view : List ℤ → List Bool → List Arc → List Val
sent_in_view numbers edges row = filter is_sent (map (brought_by numbers edges) row)

-- what an arc brings, where it brings the number of its tail and the property added; none where its edge isn't in the view
abbrev pub brought_with : GraphData → ℕ → List ℤ → List Bool → Arc → Val
brought_with graph column numbers edges a = if in_view edges a then added true (number_at numbers a.tail.0) (edge_value graph a.edge.0 column) else Nil

-- what these arcs bring, in their order
abbrev pub sent_with : GraphData → ℕ → List ℤ → List Bool → List Arc → List Val
sent_with graph column numbers edges row = filter is_sent (map (brought_with graph column numbers edges) row)
