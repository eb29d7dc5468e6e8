use Rattle.std.proofs.Common.{◌∙◌, ◌<◌, sym, length, get_or, take, length-set, false, ℕ, arith}
use Rattle.std.proofs.lemmas.List.{get_or_read, length-take}
use Rattle.vertex_lang.specs.declared.arc.Arc.{Arc}
use Rattle.arc_rows.proofs.Counted.{degree-set, degree-out, degree-small}
use Rattle.arc_rows.proofs.degrees.count_degrees.Goals as goal
use Rattle.arc_rows.proofs.degrees.count_degrees.Goals.{then-edges-arc, else-edges-arc}

abbrev no_arc : Arc
no_arc = record { tail = record { 0 = 0 }; head = record { 0 = 0 }; edge = record { 0 = 0 }; back = false }

pub index_mut-requires : goal.index_mut-requires
index_mut-requires c = omega (arith, c.requires.tails c.loop-arc.arc-index no_arc c.loop-arc-test.true, c.loop-arc.invariant.size)

pub overflow_add-index_mut : goal.overflow_add-index_mut
overflow_add-index_mut c =
    let i = c.loop-arc.arc-index in
    let t = (get_or c.args.arcs.now i no_arc).tail.0 in
    let ds = c.loop-arc.degrees.items in
    let within : t < length ds = omega (arith, c.requires.tails i no_arc c.loop-arc-test.true, c.loop-arc.invariant.size) in
    let read = get_or_read ds t c.index_mut.result.now within c.index_mut.ensures.value 0 in
    omega (arith, read, c.loop-arc.invariant.degrees t (c.requires.tails i no_arc c.loop-arc-test.true), degree-small (take i c.args.arcs.now) c.args.edges.now t, length-take i c.args.arcs.now, c.requires.few)

pub loop-arc-preserved : goal.loop-arc-preserved
loop-arc-preserved c =
    let i = c.loop-arc.arc-index in
    let arcs = c.args.arcs.now in
    let a = get_or arcs i no_arc in
    let ds = c.loop-arc.degrees.items in
    let within : a.tail.0 < length ds = omega (arith, c.requires.tails i no_arc c.loop-arc-test.true, c.loop-arc.invariant.size) in
    elim c.if-edges-arc.branch [
      | then-edges-arc w ↦
          let read = get_or_read ds a.tail.0 w.index_mut.result.now within w.index_mut.ensures.value 0 in
          rw w.degrees-is record {
            size = omega (arith, c.loop-arc.invariant.size, length-set {A = ℕ});
            degrees = λ u low. degree-set arcs i no_arc c.args.edges.now ds w.index_mut.result.now c.loop-arc-test.true w.if-edges-arc.true within read u (c.loop-arc.invariant.degrees u low);
          }
      | else-edges-arc w ↦ rw w.degrees-is record {
        size = c.loop-arc.invariant.size;
        degrees = λ u low. c.loop-arc.invariant.degrees u low ∙ sym (degree-out arcs i no_arc c.args.edges.now u c.loop-arc-test.true w.if-edges-arc.false);
      }
    ]

pub returns-clause-small : goal.returns-clause-small
returns-clause-small c = λ u low. omega (arith, c.loop-arc.invariant.degrees u low, degree-small (take c.loop-arc.arc-index c.args.arcs.now) c.args.edges.now u, length-take c.loop-arc.arc-index c.args.arcs.now, c.requires.few)
