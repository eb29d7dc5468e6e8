use Rattle.std.proofs.Common.{take}
use Rattle.value_codes.specs.Numbers.{sent_over}
use Rattle.round_inputs.specs.Links.{values_over}
use Rattle.round_inputs.specs.Inputs.{AreLeft}
use Rattle.round_inputs.proofs.tails.fill_by_links.Given as goal

abbrev pub invariant-loop-link : goal.invariant-loop-link
invariant-loop-link l = AreLeft l.first.items l.second.items (sent_over l.numbers (take l.link-index l.links)) (values_over l.values (take l.link-index l.links))
