-- The edges of a view are edges of the graph.
use Rattle.std.proofs.Common.{◌<◌, ◌∙◌, ℕ, List, All, length, sym, subst}
use Rattle.graph_model.specs.declared.number.EdgeNo.{EdgeNo}
use Rattle.view_matrix.specs.Matrices.{edges_in}
use Rattle.phase_runs.proofs.Arcs.{edges-within}
use Rattle.phase_runs.proofs.course.Course.run_on.Goals as goal

pub arcs_of-requires : goal.arcs_of-requires
arcs_of-requires g c =
    let self = c.args.self.now in
    let m = self.matrix.now in
    let v : ℕ = c.args.view.0 in
    subst (λ (es : List EdgeNo). All (λ (e : EdgeNo). e.0 < length self.graph.now.ends) es) (sym (c.as_slice.ensures ∙ c.in_ok-edges.ensures.edges))
    (subst (λ (n : ℕ). All (λ (e : EdgeNo). e.0 < n) (edges_in m v)) c.requires.course.matrix (edges-within m v))
