-- The edges of a view are edges of the graph.
use Rattle.std.proofs.Common.{◌<◌, ◌∙◌, ℕ, List, length, sym, subst}
use Rattle.std.specs.Prelude.{All}
use Rattle.graph_model.specs.declared.number.EdgeNo.{EdgeNo}
use Rattle.view_matrix.specs.Matrices.{edges_in}
use Rattle.version_rows.proofs.Within.{edges-within}
use Rattle.version_rows.proofs.tests.views.arcs_at.Goals as goal

pub arcs_of-requires : goal.arcs_of-requires
arcs_of-requires c =
    let m = c.args.matrix.now in
    let v : ℕ = c.args.view.0 in
    subst (λ (es : List EdgeNo). All (λ e. e.0 < length c.args.graph.now.ends) es) (sym (c.as_slice.ensures ∙ c.in_ok-edges.ensures.edges))
    (subst (λ (n : ℕ). All (λ e. e.0 < n) (edges_in m v)) c.requires.matrix (edges-within m v))
