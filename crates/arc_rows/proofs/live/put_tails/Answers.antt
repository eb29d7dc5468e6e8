use Rattle.std.proofs.Common.{length, refl, arith}
use Rattle.std.proofs.lemmas.List.{length-take}
use Rattle.arc_rows.specs.Links.{tail_of}
use Rattle.arc_rows.specs.CopyLaws.{counted-low}
use Rattle.arc_rows.proofs.Counting.{no_arc}
use Rattle.arc_rows.proofs.Renewing.{put-none, put-more, put-all}
use Rattle.arc_rows.proofs.live.put_tails.Goals as goal

pub loop-arc-init : goal.loop-arc-init
loop-arc-init c = put-none tail_of c.args.edges.now c.args.from (length c.args.row.now) c.args.row.now c.args.tails.now.items

pub overflow_add-from : goal.overflow_add-from
overflow_add-from c = omega (arith, c.loop-arc.invariant.few, length-take c.loop-arc.arc-index c.args.row.now, c.loop-arc-test.true, c.requires.room, c.args.tails.now.ok, c.args.tails.now.small)

pub index_mut-requires : goal.index_mut-requires
index_mut-requires c = omega (arith, c.loop-arc.invariant.few, length-take c.loop-arc.arc-index c.args.row.now, c.loop-arc-test.true, c.requires.room, c.loop-arc.invariant.size, c.loop-arc.tails.ok)

pub overflow_add-count : goal.overflow_add-count
overflow_add-count c = omega (arith, c.loop-arc.invariant.few, length-take c.loop-arc.arc-index c.args.row.now, c.loop-arc-test.true, c.requires.room, c.args.tails.now.ok, c.args.tails.now.small, counted-low _ c.from-count.result c.from-count.ensures)

pub loop-arc-preserved : goal.loop-arc-preserved
loop-arc-preserved c =
    put-more tail_of c.args.edges.now c.args.from (length c.args.row.now) c.args.row.now c.args.tails.now.items c.loop-arc.arc-index no_arc c.loop-arc-test.true
    c.loop-arc.count c.loop-arc.tails.items c.loop-arc.invariant c.loop-arc-test.true c.requires.room _ refl _ c.from-count.result refl c.from-count.ensures

pub returns : goal.returns
returns c = put-all tail_of c.args.edges.now c.args.from (length c.args.row.now) c.args.row.now c.args.tails.now.items c.loop-arc.arc-index c.loop-arc.count c.loop-arc.tails.items (omega (arith, c.loop-arc-test.false)) c.loop-arc.invariant
