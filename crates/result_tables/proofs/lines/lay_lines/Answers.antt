-- One more line, before the others.
use Rattle.std.proofs.Common.{◌∙◌, ◌++◌, ◌-◌, ℕ, List, ap, arith, get_or, drop}
use Rattle.graph_model.specs.GraphData.{nodes_by_id}
use Rattle.graph_model.specs.declared.value.Val.{Val}
use Rattle.graph_model.specs.declared.value.Val.TheVariants.{Nil}
use Rattle.result_tables.specs.TableText.{node_line, value_line}
use Rattle.result_tables.proofs.Growing.{one_before}
use Rattle.result_tables.proofs.lines.lay_lines.Goals as goal

pub loop-place-preserved : goal.loop-place-preserved
loop-place-preserved c =
    let graph = c.args.graph.now in
    let line = node_line graph c.args.values.now in
    let node = c.by_id-node.result in
    let value : Val = get_or c.args.values.now node.0 Nil in
    let place = c.loop-place.place in
    let rest : List ℕ = drop c.loop-place.start c.loop-place.room in
    record {
      from = omega (arith, c.loop-place-test.true);
      size = c.lay_line-start.ensures.size ∙ c.loop-place.invariant.size;
      within = omega (arith, c.lay_line-start.ensures.within, c.lay_line-start.ensures.size, c.loop-place.invariant.within);
      far = omega (arith, c.lay_line-start.ensures.far, c.loop-place.invariant.far, c.loop-place-test.true);
      lines = c.lay_line-start.ensures.line ∙ ap (λ (id : ℕ). value_line id value ++ rest) c.id.ensures.value
          ∙ ap (λ (lines : List ℕ). line node ++ lines) c.loop-place.invariant.lines
          ∙ one_before line (nodes_by_id graph.ids) (place - 1) place c.args.upto node (omega (arith, c.loop-place-test.true)) c.loop-place.auto.place
          (omega (arith, c.requires.upto, c.node_count-nodes.ensures.count, c.node_count-nodes.ensures.order)) c.by_id-node.ensures.place;
    }
