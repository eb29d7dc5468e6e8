use Rattle.std.proofs.Common.{◌+◌, ◌∙◌, ℤ, w64, SFits, to_z, of_z, length, get_or, set, refl, ap, true, rules, arith}
use Rattle.std.proofs.lemmas.Int.{to_z-of_z}
use Rattle.std.proofs.lemmas.List.{length-take}
use Rattle.arc_rows.specs.Links.{link_of}
use Rattle.arc_rows.proofs.Counting.{no_arc}
use Rattle.arc_rows.proofs.Renewing.{put-none, put-more, put-same, put-all}
use Rattle.arc_rows.proofs.live.put_links.Goals as goal
use Rattle.arc_rows.proofs.live.put_links.Goals.{then-edges-arc, else-edges-arc}

pub loop-arc-init : goal.loop-arc-init
loop-arc-init c = put-none (link_of c.args.graph.now c.args.column) c.args.edges.now c.args.from (length c.args.row.now) c.args.row.now c.args.links.now.items

pub overflow_add-from : goal.overflow_add-from
overflow_add-from c = omega (arith, c.loop-arc.invariant.few, length-take c.loop-arc.arc-index c.args.row.now, c.loop-arc-test.true, c.requires.room, c.args.links.now.ok, c.args.links.now.small)

pub index_mut-requires : goal.index_mut-requires
index_mut-requires c = omega (arith, c.loop-arc.invariant.few, length-take c.loop-arc.arc-index c.args.row.now, c.loop-arc-test.true, c.requires.room, c.loop-arc.invariant.size, c.loop-arc.links.ok)

pub overflow_add-count : goal.overflow_add-count
overflow_add-count c = omega (arith, c.loop-arc.invariant.few, length-take c.loop-arc.arc-index c.args.row.now, c.loop-arc-test.true, c.requires.room, c.args.links.now.ok, c.args.links.now.small)

pub loop-arc-preserved : goal.loop-arc-preserved
loop-arc-preserved c =
    let pick = link_of c.args.graph.now c.args.column in
    let row = c.args.row.now in
    let i = c.loop-arc.arc-index in
    let a = get_or row i no_arc in
    let links = c.loop-arc.links.items in
    let place = c.args.from + c.loop-arc.count in
    elim c.if-edges-arc.branch [
      | then-edges-arc w ↦ let fits : SFits w64 w.step_of.result = search rules in rw (w.links-is, w.count-is) (put-more pick c.args.edges.now c.args.from (length row) row c.args.links.now.items i no_arc c.loop-arc-test.true
          c.loop-arc.count links c.loop-arc.invariant c.loop-arc-test.true c.requires.room
          (set links place (record { tail = a.tail; step = to_z w64 (of_z w64 w.step_of.result) }))
          (ap (λ (z : ℤ). set links place (record { tail = a.tail; step = z })) (to_z-of_z w64 w.step_of.result fits ∙ w.step_of.ensures.code)) true 1 w.if-edges-arc.true refl)
      | else-edges-arc w ↦ rw (w.links-is, w.count-is) (put-same pick c.args.edges.now c.args.from (length row) row c.args.links.now.items i no_arc c.loop-arc-test.true c.loop-arc.count links c.loop-arc.invariant w.if-edges-arc.false)
    ]

pub returns : goal.returns
returns c = put-all (link_of c.args.graph.now c.args.column) c.args.edges.now c.args.from (length c.args.row.now) c.args.row.now c.args.links.now.items c.loop-arc.arc-index c.loop-arc.count c.loop-arc.links.items (omega (arith, c.loop-arc-test.false)) c.loop-arc.invariant
