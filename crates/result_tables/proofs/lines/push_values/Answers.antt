-- The lines of some more nodes.
use Rattle.std.proofs.Common.{◌∙◌, ◌++◌, List, ℕ, ap, arith}
use Rattle.std.proofs.lemmas.Slice.{between_to_end}
use Rattle.graph_model.specs.GraphData.{nodes_by_id}
use Rattle.result_tables.specs.TableText.{node_line}
use Rattle.result_tables.proofs.Growing.{grown}
use Rattle.result_tables.proofs.lines.push_values.Goals as goal

pub loop-done-preserved : goal.loop-done-preserved
loop-done-preserved c =
    let graph = c.args.graph.now in
    let room = c.lay_lines-start.ensures.size ∙ c.loop-done.invariant.room in
    let laid = between_to_end c.lay_lines-start.new.room c.lay_lines-start.result 2_752 (omega (arith, room)) ∙ c.lay_lines-start.ensures.lines in
    record {
      within = omega (arith, c.min-upto.ensures);
      room = room;
      lines = grown (node_line graph c.args.values.now) (nodes_by_id graph.ids) c.loop-done.done c.min-upto.result c.args.text.now.items c.loop-done.text.items c.extend_from_slice.new.self.items
          (omega (arith, c.loop-done-test.true, c.min-upto.ensures)) c.loop-done.invariant.lines
          (c.in_ok-extend_from_slice.ensures.items ∙ ap (λ (lines : List ℕ). c.loop-done.text.items ++ lines) laid);
    }
