-- Each view stands in the matrix, and its block behind the table before.
use Rattle.std.proofs.Common.{◌≡◌, ◌∙◌, ◌<◌, ℕ, List, Some, None, slice_get, length, map, take, option_copied, refl, sym, ap, arith}
use Rattle.std.proofs.lemmas.List.{take_all}
use Rattle.surge_outside.specs.Written.{appended}
use Rattle.gvdl_check.specs.declared.plan.ViewPlan.{ViewPlan}
use Rattle.change_text.specs.Spelling.{changes_text}
use Rattle.surge_session.specs.Output.{Shown, blocks_behind, view_shown}
use Rattle.surge_session.specs.State.{shown_graph}
use Rattle.surge_session.proofs.Blocks.{before_fits, front_of, last_of, text_of}
use Rattle.surge_session.proofs.Texts.{found}
use Rattle.surge_session.proofs.tables.write_blocks.Goals as goal

pub overflow_cast-number : goal.overflow_cast-number
overflow_cast-number g c =
    let item = c.index-views-i.result in
    let lt : c.loop-i.i < length c.args.views.now = omega (arith, c.loop-i-test.true) in
    let at : slice_get c.args.views.now c.loop-i.i ≡ Some item = found c.args.views.now c.args.views.now c.loop-i.i item refl lt c.index-views-i.is in
    let shown = c.requires.shown c.loop-i.i item at in
    omega (arith, shown.0, c.views-all.ensures.count, c.views-all.ensures.limit)

pub overflow_add-number : goal.overflow_add-number
overflow_add-number g c =
    let item = c.index-views-i.result in
    let lt : c.loop-i.i < length c.args.views.now = omega (arith, c.loop-i-test.true) in
    let at : slice_get c.args.views.now c.loop-i.i ≡ Some item = found c.args.views.now c.args.views.now c.loop-i.i item refl lt c.index-views-i.is in
    let shown = c.requires.shown c.loop-i.i item at in
    omega (arith, shown.0, c.views-all.ensures.count, c.views-all.ensures.limit)

pub write_block-requires-clause-within : goal.write_block-requires-clause-within
write_block-requires-clause-within g c =
    let item = c.index-views-i.result in
    let lt : c.loop-i.i < length c.args.views.now = omega (arith, c.loop-i-test.true) in
    let at : slice_get c.args.views.now c.loop-i.i ≡ Some item = found c.args.views.now c.args.views.now c.loop-i.i item refl lt c.index-views-i.is in
    let shown = c.requires.shown c.loop-i.i item at in
    shown.0

pub write_block-requires-clause-shown : goal.write_block-requires-clause-shown
write_block-requires-clause-shown g c =
    let item = c.index-views-i.result in
    let lt : c.loop-i.i < length c.args.views.now = omega (arith, c.loop-i-test.true) in
    let at : slice_get c.args.views.now c.loop-i.i ≡ Some item = found c.args.views.now c.args.views.now c.loop-i.i item refl lt c.index-views-i.is in
    let shown = c.requires.shown c.loop-i.i item at in
    shown.1

pub write_block-requires-clause-before : goal.write_block-requires-clause-before
write_block-requires-clause-before g c =
    before_fits g.U.Updater.answer (shown_graph c.args.ran.graph.now c.args.ran.matrix.now) c.args.ran.run.now c.args.ran.collection.now.name (take c.loop-i.i c.args.views.now) c.as_ref.result c.loop-i.before c.as_ref.ensures.value c.loop-i.invariant.before

pub loop-i-preserved : goal.loop-i-preserved
loop-i-preserved g c =
    let graph = c.args.ran.graph.now in
    let f : ViewPlan → Shown = view_shown g.U.Updater.answer (shown_graph graph c.args.ran.matrix.now) c.args.ran.run.now c.args.ran.collection.now.name in
    let views = c.args.views.now in
    let i = c.loop-i.i in
    let item = c.index-views-i.result in
    let lt : i < length views = omega (arith, c.loop-i-test.true) in
    record {
      written = text_of graph f views i item lt c.index-views-i.is (g.O.Sink.written c.args.out.now) (g.O.Sink.written c.loop-i.out) (g.O.Sink.written c.write_block.new.out) (option_copied c.as_ref.result) c.loop-i.invariant.written
          (c.as_ref.ensures.value ∙ c.loop-i.invariant.before) c.in-Ok.ensures.ok;
      before = ap Some c.in-Ok.ensures.table ∙ sym (last_of graph f views i item lt c.index-views-i.is);
      faults = omega (arith, c.loop-i.invariant.faults, c.write_block.ensures.faults);
    }

pub returns-in-Err-clause-err : goal.returns-in-Err-clause-err
returns-in-Err-clause-err g c =
    let graph = c.args.ran.graph.now in
    let f : ViewPlan → Shown = view_shown g.U.Updater.answer (shown_graph graph c.args.ran.matrix.now) c.args.ran.run.now c.args.ran.collection.now.name in
    let views = c.args.views.now in
    let i = c.loop-i.i in
    let lt : i < length views = omega (arith, c.loop-i-test.true) in
    front_of graph f views i c.index-views-i.result lt c.index-views-i.is (g.O.Sink.written c.args.out.now) (g.O.Sink.written c.loop-i.out) (g.O.Sink.written c.write_block.new.out) (option_copied c.as_ref.result) c.loop-i.invariant.written
    (c.as_ref.ensures.value ∙ c.loop-i.invariant.before) c.in-Err.ensures.err

pub returns-clause-ok : goal.returns-clause-ok
returns-clause-ok g c =
    let graph = c.args.ran.graph.now in
    let f : ViewPlan → Shown = view_shown g.U.Updater.answer (shown_graph graph c.args.ran.matrix.now) c.args.ran.run.now c.args.ran.collection.now.name in
    let views = c.args.views.now in
    c.loop-i.invariant.written ∙ ap (λ (vs : List ViewPlan). appended (g.O.Sink.written c.args.out.now) (changes_text (blocks_behind graph None (map f vs)))) (take_all c.loop-i.i views (omega (arith, c.loop-i-test.false)))
