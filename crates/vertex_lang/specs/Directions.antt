-- In which direction an arc runs along its edge.
use Rattle.std.specs.Prelude.{◌≡◌, ◌⊎◌}
use Rattle.graph_model.specs.GraphData.{GraphData}
use Rattle.vertex_lang.specs.declared.arc.Arc.{Arc}
use Rattle.vertex_lang.specs.declared.program.Along.{Along}
use Rattle.vertex_lang.specs.declared.program.Along.TheVariants as along
use Rattle.vertex_lang.specs.Arcs.{forward, backward}

abbrev pub RunsAlong : Along → GraphData → Arc → Type 0
RunsAlong along.Out graph a = a ≡ forward graph a.edge
RunsAlong along.In graph a = a ≡ backward graph a.edge
RunsAlong along.Both graph a = (a ≡ forward graph a.edge) ⊎ (a ≡ backward graph a.edge)
