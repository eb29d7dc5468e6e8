use Rattle.std.proofs.Common.{◌∙◌, ◌<◌, ◌==◌, [], refl, set, get_or, length, take, arith, length-set}
use Rattle.std.proofs.lemmas.List.{length-take-le, take_more_set}
use Rattle.graph_model.specs.declared.number.NodeNo.{NodeNo}
use Rattle.arc_rows.specs.CopyLaws.{copy-counted, counted-low}
use Rattle.round_inputs.proofs.tails.pick_moved.Goals as goal

abbrev no_node : NodeNo
no_node = record { 0 = 0 }

pub loop-tail-preserved : goal.loop-tail-preserved
loop-tail-preserved c =
    let i = c.loop-tail.tail-index in
    let tail = get_or c.args.tails.now i no_node in
    let count = c.loop-tail.count in
    let picked = c.loop-tail.picked in
    let size = c.loop-tail.invariant.size in
    let within = c.loop-tail.invariant.within in
    let low : count < length picked = omega (arith, c.loop-tail-test.true, c.requires.room, size, within) in
    let told = get_or c.args.moved.now tail.0 0 == c.args.stamp in
    record {
      size = length-set picked count tail ∙ size;
      within = omega (arith, within, counted-low told c.from-count.result c.from-count.ensures);
      picked = copy-counted (λ (t : NodeNo). get_or c.args.moved.now t.0 0 == c.args.stamp) c.args.tails.now i no_node c.loop-tail-test.true [] (take count picked) c.loop-tail.invariant.picked
          count c.from-count.result told (set picked count tail) (length-take-le count picked (omega (arith, low))) (take_more_set picked count tail low) refl c.from-count.ensures;
    }
