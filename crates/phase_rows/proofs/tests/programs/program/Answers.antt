-- Each program fits the graph.
use Rattle.phase_rows.proofs.Small.{first_fits, grown_fits}
use Rattle.phase_rows.proofs.tests.programs.program.Goals as goal

pub counting-requires : goal.counting-requires
counting-requires c = grown_fits c.in_ok-grown-in-Grow.field-0 c.in_ok-grown-in-Grow.ensures

pub counting-requires-in-GrowAtFirst : goal.counting-requires-in-GrowAtFirst
counting-requires-in-GrowAtFirst c = first_fits c.in_ok-grown_at_first-in-GrowAtFirst.field-0 c.in_ok-grown_at_first-in-GrowAtFirst.ensures

pub returns-in_ok-grown-in-Grow : goal.returns-in_ok-grown-in-Grow
returns-in_ok-grown-in-Grow c = c.counting.ensures c.args.graph.now

pub returns-in_ok-grown_at_first-in-GrowAtFirst : goal.returns-in_ok-grown_at_first-in-GrowAtFirst
returns-in_ok-grown_at_first-in-GrowAtFirst c = c.counting-in-GrowAtFirst.ensures c.args.graph.now

pub returns-in_ok-hops-in-Hops : goal.returns-in_ok-hops-in-Hops
returns-in_ok-hops-in-Hops c = c.in_ok-hops-in-Hops.ensures.checked c.args.graph.now

pub returns-in_ok-wcc-in-Components : goal.returns-in_ok-wcc-in-Components
returns-in_ok-wcc-in-Components c = c.in_ok-wcc-in-Components.ensures.checked c.args.graph.now

pub returns-in_ok-pagerank-in-Ranks : goal.returns-in_ok-pagerank-in-Ranks
returns-in_ok-pagerank-in-Ranks c = c.in_ok-pagerank-in-Ranks.ensures.checked c.args.graph.now
