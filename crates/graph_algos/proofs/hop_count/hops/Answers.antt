use Rattle.std.proofs.Common.{◌∙◌, ap, w64}
use Rattle.std.proofs.lemmas.Int.{to_z-of_z}
use Rattle.graph_algos.specs.Shared.{from_source}
use Rattle.graph_algos.specs.Hops.{hops}
use Rattle.graph_algos.specs.HopsLaws.{hops_checked}
use Rattle.graph_algos.proofs.SameParts.{same_parts}
use Rattle.graph_algos.proofs.hop_count.hops.Goals as goal

pub returns-clause-checked : goal.returns-clause-checked
returns-clause-checked c =
    let source = c.args.source in
    let start = c.in_ok-from_source.ensures ∙ ap from_source (to_z-of_z w64 source c.ranges.source) in
    λ graph. same_parts (hops source) graph _ _ _ _ _ start c.in_ok-value_and.ensures c.in_ok-least_so_far.ensures (hops_checked source graph)
