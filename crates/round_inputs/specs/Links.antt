-- What is kept of an arc: its tail, or its tail and a property of its edge.
use Rattle.std.specs.Prelude.{ℕ, true, List, map, filter, get_or}
use Rattle.graph_model.specs.declared.number.NodeNo.{NodeNo}
use Rattle.graph_model.specs.declared.value.Val.{Val}
use Rattle.graph_model.specs.GraphData.{GraphData}
use Rattle.vertex_lang.specs.Arcs.{is_sent}
use Rattle.vertex_lang.specs.declared.program.Program.{Program}
use Rattle.vertex_lang.specs.Expressions.{sent_by}
use Rattle.vertex_lang.specs.Rounds.{value_at}
use Rattle.vertex_lang.specs.Values.{added}
use Rattle.message_forms.specs.declared.edge_step.Link.{Link}
use Rattle.message_forms.specs.Codes.{value_in}

-- the same, where it brings the value of its tail and the property added
abbrev pub brought_over : List Val → Link → Val
brought_over values l = added true (value_at values l.tail.0) (value_in l.step)

abbrev pub values_over : List Val → List Link → List Val
values_over values links = filter is_sent (map (brought_over values) links)

-- what a node sends along the first edge, and these nodes, in their order
abbrev pub sent_by_tail : Program → GraphData → List ℕ → List Val → NodeNo → Val
sent_by_tail p graph degrees values t = sent_by p graph t.0 (value_at values t.0) (get_or degrees t.0 0) 0

abbrev pub sent_by_tails : Program → GraphData → List ℕ → List Val → List NodeNo → List Val
sent_by_tails p graph degrees values tails = filter is_sent (map (sent_by_tail p graph degrees values) tails)
