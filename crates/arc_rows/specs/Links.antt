-- What is kept of an arc: its tail, or its tail and a property of its edge.
use Rattle.std.specs.Prelude.{ℕ}
use Rattle.graph_model.specs.declared.number.NodeNo.{NodeNo}
use Rattle.graph_model.specs.GraphData.{GraphData}
use Rattle.vertex_lang.specs.declared.arc.Arc.{Arc}
use Rattle.vertex_lang.specs.Expressions.{edge_value}
use Rattle.message_forms.specs.declared.edge_step.Link.{Link}
use Rattle.message_forms.specs.Codes.{code_of}

abbrev pub tail_of : Arc → NodeNo
tail_of a = a.tail

abbrev pub link_of : GraphData → ℕ → Arc → Link
link_of graph column a = record { tail = a.tail; step = code_of (edge_value graph a.edge.0 column) }
