-- The plain run of a program: synchronous rounds over all nodes. Values stand by node number.
use Rattle.std.specs.Prelude.{ℕ, zero, suc, List, map, length, get_or}
use Rattle.std.specs.List.{range_with_len}
use Rattle.graph_model.specs.declared.value.Val.{Val}
use Rattle.graph_model.specs.declared.value.Val.TheVariants.{Nil}
use Rattle.graph_model.specs.GraphData.{GraphData, id_of}
use Rattle.vertex_lang.specs.declared.arc.Arc.{Arc}
use Rattle.vertex_lang.specs.declared.program.Program.{Program}
use Rattle.vertex_lang.specs.Expressions.{Answer, start_of, sent_by}
use Rattle.vertex_lang.specs.Arcs.{outdeg, messages, gathered_of}

abbrev pub nodes_of : GraphData → List ℕ
nodes_of graph = range_with_len 0 (length graph.ids)

abbrev pub value_at : List Val → ℕ → Val
value_at values v = get_or values v Nil

-- what an arc carries under these values
abbrev pub carried : Program → GraphData → List Arc → List Val → Arc → Val
carried p graph arcs values a = sent_by p graph a.tail.0 (value_at values a.tail.0) (outdeg arcs a.tail.0) a.edge.0

-- the messages that a node gets under these values
abbrev pub received : Program → GraphData → List Arc → List Val → ℕ → List Val
received p graph arcs values v = messages (carried p graph arcs values) arcs v

-- the next value of a node
abbrev pub next_of : Answer → Program → GraphData → List Arc → List Val → ℕ → Val
next_of answer p graph arcs values v =
    let ms = received p graph arcs values v in
    answer p (id_of graph v) (start_of p graph v) (value_at values v) (gathered_of p.gather ms) (length ms)

-- all nodes change together
unfoldable pub next : Answer → Program → GraphData → List Arc → List Val → List Val
next answer p graph arcs values = map (next_of answer p graph arcs values) (nodes_of graph)

-- the values after so many rounds
unfoldable pub lone : Answer → Program → GraphData → List Arc → ℕ → List Val
lone answer p graph arcs zero = map (start_of p graph) (nodes_of graph)
lone answer p graph arcs (suc r) = next answer p graph arcs (lone answer p graph arcs r)
