-- What a history says of the plain run of a view.
use Rattle.std.specs.Prelude.{◌≡◌, ◌<◌, ◌+◌, ℕ, List, [], length, map, get_or, IfSome, Option}
use Rattle.graph_model.specs.declared.value.Val.{Val}
use Rattle.graph_model.specs.GraphData.{GraphData}
use Rattle.vertex_lang.specs.declared.arc.Arc.{Arc}
use Rattle.vertex_lang.specs.declared.program.Program.{Program}
use Rattle.vertex_lang.specs.Expressions.{Answer, start_of}
use Rattle.vertex_lang.specs.Rounds.{nodes_of}
use Rattle.lone_work.specs.Work.{lone_in, node_marked}
use Rattle.change_lists.specs.declared.history.History.{History}
use Rattle.change_lists.specs.ChangeLists.{HasNodes, HasChanges}

-- they are the values with which the nodes start
abbrev pub AreStarts : Program → GraphData → List Val → Type 0
AreStarts p graph starts = starts ≡ map (start_of p graph) (nodes_of graph)

-- what is kept of a view, or of none, says what changes from round to round up to this number of rounds
pub record IsHistory (answer : Answer) (p : Program) (graph : GraphData) (view : Option (List Arc)) (rounds : ℕ) (h : History) : Type 0 where
  pub changes : (k : ℕ) → k < rounds → HasChanges (length graph.ids) (lone_in answer p graph view k) (lone_in answer p graph view (k + 1)) (get_or h.changes k [])
  pub marks : (k : ℕ) → k + 1 < rounds → HasNodes (length graph.ids) (λ v. node_marked answer p graph view v (k + 1)) (get_or h.marks k [])
  pub starts : IfSome h.starts (λ s. AreStarts p graph s.value)
