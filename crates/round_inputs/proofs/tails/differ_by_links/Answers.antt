use Rattle.std.proofs.Common.{◌∙◌, ap, refl}
use Rattle.std.specs.Prelude.{not}
use Rattle.vertex_lang.specs.Lone.{same_value}
use Rattle.multisets.specs.Multisets.{are_one}
use Rattle.value_codes.specs.Numbers.{sent_over}
use Rattle.round_inputs.specs.Links.{values_over}
use Rattle.round_inputs.proofs.Leftovers.{left-told}
use Rattle.round_inputs.proofs.tails.differ_by_links.Goals as goal

pub returns : goal.returns
returns c =
    let links = c.args.links.now in
    let first = c.fill_by_links.new.first.items in
    let second = c.fill_by_links.new.second.items in
    c.are_unlike.ensures ∙ ap not (left-told (λ x y. refl) first second (sent_over c.args.numbers.now links) (values_over c.args.values.now links) (are_one same_value first second) c.in_ok-fill_by_links.ensures refl)
