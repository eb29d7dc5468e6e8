use Rattle.std.proofs.Common.{◌<◌, ◌^◌, ℕ, length, get_or, length-set, false, arith}
use Rattle.std.proofs.lemmas.List.{get_or_read}
use Rattle.vertex_lang.specs.declared.arc.Arc.{Arc}
use Rattle.vertex_lang.proofs.Degrees.{degrees_step, outdeg_small}
use Rattle.vertex_lang.proofs.setting.count_degrees.Goals as goal

abbrev no_arc : Arc
no_arc = record { tail = record { 0 = 0 }; head = record { 0 = 0 }; edge = record { 0 = 0 }; back = false }

pub overflow_add-index_mut : goal.overflow_add-index_mut
overflow_add-index_mut c =
    let i = c.loop-arc.arc-index in
    let a = get_or c.args.arcs.now i no_arc in
    let is_arc = c.requires.arcs i no_arc c.loop-arc-test.true in
    let within : a.tail.0 < length c.loop-arc.degrees.items = omega (arith, c.loop-arc.invariant.size, is_arc.tail) in
    let read = get_or_read c.loop-arc.degrees.items a.tail.0 c.index_mut.result.now within c.index_mut.ensures.value 0 in
    let small : c.index_mut.result.now < 2 ^ 32 = omega (arith, read, c.loop-arc.invariant.degrees a.tail.0 within, outdeg_small c.args.arcs.now i a.tail.0, c.requires.few) in
    omega (arith, small)

pub loop-arc-preserved : goal.loop-arc-preserved
loop-arc-preserved c =
    let i = c.loop-arc.arc-index in
    let a = get_or c.args.arcs.now i no_arc in
    let is_arc = c.requires.arcs i no_arc c.loop-arc-test.true in
    let within : a.tail.0 < length c.loop-arc.degrees.items = omega (arith, c.loop-arc.invariant.size, is_arc.tail) in
    let read = get_or_read c.loop-arc.degrees.items a.tail.0 c.index_mut.result.now within c.index_mut.ensures.value 0 in
    record {
      size = omega (arith, c.loop-arc.invariant.size, length-set {A = ℕ});
      degrees = degrees_step c.args.arcs.now i no_arc c.loop-arc.degrees.items c.index_mut.result.now c.loop-arc-test.true within c.loop-arc.invariant.degrees read;
    }
