use Rattle.std.proofs.Common.{◌≡◌, true, false, take}
use Rattle.std.specs.List.{list_any, list_all}
use Rattle.edge_predicates.specs.Truth.{truth}
use Rattle.edge_predicates.proofs.truth.+holds.Given as goal

abbrev pub invariant-some_holds-loop-member : goal.invariant-some_holds-loop-member
invariant-some_holds-loop-member l = list_any (truth l.graph l.edge.0) (take l.member-index l.members) ≡ false

abbrev pub invariant-all_hold-loop-member : goal.invariant-all_hold-loop-member
invariant-all_hold-loop-member l = list_all (truth l.graph l.edge.0) (take l.member-index l.members) ≡ true
