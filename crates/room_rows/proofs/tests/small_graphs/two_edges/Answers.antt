use Rattle.room_rows.proofs.SmallGraphs.{two-edges}
use Rattle.room_rows.proofs.tests.small_graphs.two_edges.Goals as goal

pub new-requires-3 : goal.new-requires-3
new-requires-3 c = two-edges c.in_ok-ids.ids c.in_ok-ends.ends _ _ _ _ c.new-none.ensures c.new-empty.ensures c.new.ensures c.new-2.ensures c.in_ok-ids.ensures c.in_ok-ends.ensures.count c.in_ok-ends.ensures.among
