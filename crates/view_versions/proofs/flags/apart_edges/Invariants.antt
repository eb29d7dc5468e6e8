use Rattle.std.proofs.Common.{◌≡◌, Bool, map, take}
use Rattle.graph_model.specs.declared.number.EdgeNo.{EdgeNo}
use Rattle.view_versions.proofs.flags.apart_edges.Given as goal

abbrev pub invariant-loop-difference : goal.invariant-loop-difference
invariant-loop-difference l = l.edges ≡ map (λ (d : EdgeNo × Bool). d.0) (take l.difference-index l.difference-items)
