use Rattle.std.proofs.Common.{refl, sym, length, arith}
use Rattle.std.proofs.lemmas.List.{get_or_read}
use Rattle.arc_rows.specs.Links.{tail_of}
use Rattle.arc_rows.specs.ViewLaws.{row-few}
use Rattle.arc_rows.proofs.Picked.{row-edges}
use Rattle.arc_rows.proofs.Renewing.{renewed-at}
use Rattle.arc_rows.proofs.live.renew_tails_of.Goals as goal

pub put_tails-count-requires-clause-row : goal.put_tails-count-requires-clause-row
put_tails-count-requires-clause-row c = row-edges c.args.graph.now c.args.rows.now c.args.edges.now c.into-row.result.now c.args.node.0 c.requires.rows c.requires.edges c.into-row.ensures

pub overflow_cast-count : goal.overflow_cast-count
overflow_cast-count c = omega (arith, c.put_tails-count.ensures.few, row-few c.args.rows.now.by_head c.into-row.result.now c.args.node.0 c.into-row.ensures, c.requires.rows.few)

pub returns : goal.returns
returns c =
    renewed-at tail_of c.args.rows.now.by_head c.args.edges.now (length c.args.graph.now.ids) c.args.node.0 c.requires.node c.args.live.now _ c.requires.laid c.into-row.result.now c.into-row.ensures c.put_tails-count.result c.index.result.now
    (sym (get_or_read c.args.live.now.places.items c.args.node.0 c.index.result.now (omega (arith, c.requires.node, c.requires.laid.size)) c.index.ensures (record { from = 0; count = 0 })))
    c.put_tails-count.ensures refl
