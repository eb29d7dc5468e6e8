use Rattle.std.proofs.Common.{◌≡◌, ◌<◌, ◌≤◌, ◌-◌, length, take, drop, get_or}
use Rattle.tree_order.specs.declared.link.Link.{Link}
use Rattle.tree_order.specs.Links.{nearest_link}
use Rattle.tree_order.proofs.link.nearest.Given as goal

abbrev pub invariant-loop-place : goal.invariant-loop-place
invariant-loop-place l = record {
  from : 1 ≤ l.place;
  within : l.at < length l.links;
  best : l.best ≡ get_or l.links l.at l.best;
  nearest : (d : Link) → l.best ≡ nearest_link (get_or l.links 0 d) (take (l.place - 1) (drop 1 l.links));
}
