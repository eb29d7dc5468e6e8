use Rattle.std.proofs.Common.{◌∙◌, ap, refl}
use Rattle.std.specs.Prelude.{not}
use Rattle.vertex_lang.specs.Lone.{same_value}
use Rattle.multisets.specs.Multisets.{are_one}
use Rattle.round_messages.specs.Sides.{all_brought}
use Rattle.round_inputs.proofs.Leftovers.{left-told}
use Rattle.round_inputs.proofs.compare.differ.Goals as goal

pub returns : goal.returns
returns c =
    let p = c.args.rounds.now.left.now.program.now in
    let graph = c.args.rounds.now.left.now.graph.now in
    let l = c.args.rounds.now.left.now.side in
    let r = c.args.rounds.now.right.now in
    let row = c.args.row.now in
    let ls = all_brought p graph l.edges.now l.degrees.now l.values.now row in
    let rs = all_brought p graph r.edges.now r.degrees.now r.values.now row in
    let first = c.fill.new.first.items in
    let second = c.fill.new.second.items in
    c.are_unlike.ensures ∙ ap not (left-told (λ x y. refl) first second ls rs (are_one same_value first second) c.in_ok-fill.ensures refl)
