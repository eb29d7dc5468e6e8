-- One more edge, kept or left out.
use Rattle.std.proofs.Common.{◌≡◌, ◌∙◌, ◌<◌, ◌++◌, ◌∷◌, [], ℕ, List, length, All, ap, sym, subst, arith}
use Rattle.std.proofs.lemmas.List.{length-append}
use Rattle.std.proofs.lemmas.List.Elements.{All-append}
use Rattle.graph_model.specs.declared.number.EdgeNo.{EdgeNo}
use Rattle.edge_predicates.specs.ViewEdges.{edge}
use Rattle.edge_predicates.proofs.Kept.{kept_more, left_out, kept_all, one_within}
use Rattle.edge_predicates.proofs.edges.view_edges.Goals as goal
use Rattle.edge_predicates.proofs.edges.view_edges.Goals.{then-is_in+in_ok-push, else-is_in}

pub returns-clause-edges : goal.returns-clause-edges
returns-clause-edges c = c.loop-number.invariant.edges ∙ kept_all c.args.graph.now c.args.rule.now c.loop-number.number (omega (arith, c.loop-number.invariant.all, c.loop-number-test.false))

pub loop-number-preserved : goal.loop-number-preserved
loop-number-preserved c =
    let invariant = c.loop-number.invariant in
    let graph = c.args.graph.now in
    let rule = c.args.rule.now in
    let number : ℕ = c.loop-number.number in
    let lt : number < length graph.ends = omega (arith, c.loop-number-test.true, invariant.all) in
    elim c.if-is_in.branch [
      | then-is_in+in_ok-push w ↦
          let grown : c.if-is_in.edges ≡ c.loop-number.edges ++ edge number ∷ [] = w.edges-is ∙ w.in_ok-push.ensures.ok in
          record {
            all = invariant.all;
            limit = invariant.limit;
            edges = kept_more graph rule number c.loop-number.edges c.if-is_in.edges lt (sym w.if-is_in.true ∙ c.rule_holds-is_in.ensures) invariant.edges grown;
            within = subst (λ (x : List EdgeNo). All (λ (e : EdgeNo). e.0 < length graph.ends) x) (sym grown)
                (All-append (λ (e : EdgeNo). e.0 < length graph.ends) c.loop-number.edges (edge number ∷ []) invariant.within (one_within (length graph.ends) number lt));
            few = omega (arith, ap (λ (v : List EdgeNo). length v) grown, length-append c.loop-number.edges (edge number ∷ []), invariant.few);
          }
      | else-is_in w ↦
          let same : c.if-is_in.edges ≡ c.loop-number.edges = w.edges-is in
          record {
            all = invariant.all;
            limit = invariant.limit;
            edges = left_out graph rule number c.if-is_in.edges lt (sym w.if-is_in.false ∙ c.rule_holds-is_in.ensures) (same ∙ invariant.edges);
            within = subst (λ (x : List EdgeNo). All (λ (e : EdgeNo). e.0 < length graph.ends) x) (sym same) invariant.within;
            few = omega (arith, ap (λ (v : List EdgeNo). length v) same, invariant.few);
          }
    ]
