use Rattle.std.proofs.Common.{◌≡◌, ◌∙◌, ◌<◌, ℕ, Bool, List, length, ap, ap₂, sym, subst}
use Rattle.std.specs.Prelude.{All}
use Rattle.graph_model.specs.declared.number.EdgeNo.{EdgeNo}
use Rattle.vertex_lang.specs.declared.arc.Arc.{Arc}
use Rattle.vertex_lang.specs.Arcs.{arcs_between}
use Rattle.vertex_lang.specs.Lone.{number_of}
use Rattle.lone_work.specs.Inputs.{input}
use Rattle.view_matrix.specs.Matrices.{edges_in}
use Rattle.view_versions.specs.Slow.{new_task, old_task}
use Rattle.view_versions.specs.Touched.{differs, differs_in, node_differs}
use Rattle.view_versions.proofs.Choosing.{edges-within}
use Rattle.view_versions.proofs.Results.{ok-so}
use Rattle.view_versions.proofs.slow.differs_in.Goals as goal

pub arcs_of-requires : goal.arcs_of-requires
arcs_of-requires g c =
    let v = c.args.versions in
    subst (λ (es : List EdgeNo). All (λ e. e.0 < length v.graph.now.ends) es) (sym (c.as_slice.ensures ∙ c.in_ok-old_edges.ensures.edges))
    (subst (λ (n : ℕ). All (λ e. e.0 < n) (edges_in v.old.now c.args.view.0)) c.requires.versions.old (edges-within v.old.now c.args.view.0))

pub arcs_of-requires-2 : goal.arcs_of-requires-2
arcs_of-requires-2 g c =
    let v = c.args.versions in
    subst (λ (es : List EdgeNo). All (λ e. e.0 < length v.graph.now.ends) es) (sym (c.as_slice-2.ensures ∙ c.in_ok-new_edges.ensures.edges))
    (subst (λ (n : ℕ). All (λ e. e.0 < n) (edges_in v.new.now c.args.view.0)) c.requires.versions.new (edges-within v.new.now c.args.view.0))

pub returns : goal.returns
unfolding node_differs
returns g c =
    let v = c.args.versions in
    let answer = g.U.Updater.answer in
    let between = arcs_between v.program.now.along v.graph.now in
    let old = c.as_slice-3.ensures ∙ c.in_ok-old.ensures.arcs ∙ ap (λ (es : List EdgeNo). between es) (c.as_slice.ensures ∙ c.in_ok-old_edges.ensures.edges) in
    let new = c.as_slice-4.ensures ∙ c.in_ok-new.ensures.arcs ∙ ap (λ (es : List EdgeNo). between es) (c.as_slice-2.ensures ∙ c.in_ok-new_edges.ensures.edges) in
    let test = λ (xs ys : List Arc). differs (input answer v.program.now v.graph.now xs c.args.node) (input answer v.program.now v.graph.now ys c.args.node) (number_of v.rounds) in
    ok-so c.differs_over.result (λ (b : Bool). b ≡ test c.as_slice-4.result.now c.as_slice-3.result.now) (λ (b : Bool). b ≡ differs_in (old_task answer v) (new_task answer v) c.args.view.0 c.args.node)
    (λ b is. is ∙ ap₂ (λ (xs ys : List Arc). test xs ys) new old) c.differs_over.ensures
