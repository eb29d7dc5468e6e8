-- What goes past the messages, and the messages.
use Rattle.std.proofs.Common.{◌∙◌, ap}
use Rattle.flow_core.specs.Expanded.{expanded}
use Rattle.diff_join.specs.Joins.{joined_sides}
use Rattle.view_items.specs.Collections.{own_items, sides}
use Rattle.vertex_flow.proofs.Functions.{bypass_is}
use Rattle.vertex_flow.proofs.items.items_of.Goals as goal

pub returns-clause-fresh : goal.returns-clause-fresh
returns-clause-fresh g c = record {
  is_new = c.new-2.ensures.fresh.is_new;
  nothing_due = c.new-2.ensures.fresh.nothing_due;
  at_least = c.new-2.ensures.fresh.at_least;
  live = c.new-2.ensures.fresh.live;
}

pub returns-clause-apply : goal.returns-clause-apply
returns-clause-apply g c = bypass_is (expanded own_items) (expanded sides) _ _ _ c.new-2.ensures.apply (c.new-messages.ensures.apply ∙ ap (joined_sides _) c.new.ensures)
