use Rattle.std.proofs.Common.{◌∙◌, ap, refl}
use Rattle.std.specs.Prelude.{not}
use Rattle.vertex_lang.specs.Lone.{same_value}
use Rattle.multisets.specs.Multisets.{are_one}
use Rattle.round_inputs.specs.Links.{sent_by_tails}
use Rattle.round_inputs.proofs.Leftovers.{left-told}
use Rattle.round_inputs.proofs.tails.differ_by_tails.Goals as goal

pub returns : goal.returns
returns c =
    let p = c.args.rounds.now.left.now.program.now in
    let graph = c.args.rounds.now.left.now.graph.now in
    let l = c.args.rounds.now.left.now.side in
    let r = c.args.rounds.now.right.now in
    let tails = c.args.tails.now in
    let ls = sent_by_tails p graph l.degrees.now l.values.now tails in
    let rs = sent_by_tails p graph r.degrees.now r.values.now tails in
    let first = c.fill_by_tails.new.first.items in
    let second = c.fill_by_tails.new.second.items in
    c.are_unlike.ensures ∙ ap not (left-told (λ x y. refl) first second ls rs (are_one same_value first second) c.in_ok-fill_by_tails.ensures refl)
