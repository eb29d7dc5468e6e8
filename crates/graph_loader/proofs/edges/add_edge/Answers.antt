use Rattle.std.proofs.Common.{map}
use Rattle.csv.specs.Records.{fields_of}
use Rattle.graph_model.specs.GraphData.{kind_of}
use Rattle.graph_loader.proofs.EndFacts.{by-pair}
use Rattle.graph_loader.proofs.edges.add_edge.Goals as goal

pub returns-in-Ok-clause-waits : goal.returns-in-Ok-clause-waits
returns-in-Ok-clause-waits c =
    by-pair c.args.source (map kind_of c.args.cells.now.items) c.args.nodes.now.ids.now.keys (fields_of c.args.row.now) c.args.ends.now c.make_room.new.ends c.args.waiting.now c.make_room.new.waiting c.read_edge.new.waiting
    c.in_ok-make_room.ensures.waits c.in_ok-make_room.ensures.ends c.in_ok-make_room.ensures.count c.in-Ok.ensures.waits c.in-Ok.ensures.told
