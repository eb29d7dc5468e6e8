-- Each turn steps one more view, of the segment that is chosen.
use Rattle.std.proofs.Common.{◌≡◌, ◌∙◌, ◌≤◌, length, sym, ap, arith, List, Ok}
use Rattle.graph_model.specs.declared.number.ViewNo.{ViewNo}
use Rattle.view_engine.specs.Engines.{stepped_in}
use Rattle.view_turns.specs.Laws.{all_stepped}
use Rattle.view_turns.specs.Turns.{seeded}
use Rattle.view_turns.proofs.Counting.{finished_when}
use Rattle.view_turns.proofs.Choosing.{run_on, drawn_on, turned_on, turned_still}
use Rattle.view_turns.proofs.turning.finish.Goals as goal

pub loop-turn-preserved : goal.loop-turn-preserved
loop-turn-preserved g c =
    let ensures = c.in-Ok-Moved.ensures in
    let is = ap Ok c.in-Ok-Moved.field-0-is in
    let turn = ensures.moved is in
    let old = c.loop-turn.engine in
    let new = c.turn_next.new.engine in
    let so_far = c.loop-turn.invariant in
    record {
      engine = c.turn_next.ensures.engine;
      fresh = ensures.fresh;
      stands = ensures.stands;
      run = run_on c.args.engine.now old new so_far.run turn.moved.run;
      order = turn.moved.order ∙ so_far.order;
      draws = drawn_on (seeded c.args.turns) c.loop-turn.draws c.turn_next.new.draws c.loop-turn._turn so_far.draws (ensures.draws is);
      turned = turned_on g.U.Updater.answer c.args.matrix.now (seeded c.args.turns) c.args.engine.now (g.U.Counted.calls c.args.updater.now) c.loop-turn._turn c.loop-turn.draws old
          (g.U.Counted.calls c.loop-turn.updater) new (g.U.Counted.calls c.turn_next.new.updater) so_far.draws so_far.turned so_far.stands turn;
      stepped = omega (arith, so_far.stepped, turn.stepped);
      calls = omega (arith, so_far.calls, turn.calls);
    }

pub returns-in-Ok-Finished-clause-turns : goal.returns-in-Ok-Finished-clause-turns
returns-in-Ok-Finished-clause-turns g c =
    let finished = c.in-Ok-Finished.ensures.finished (ap Ok c.in-Ok-Finished.field-0-is) in
    record {
      turns = c.loop-turn._turn;
      each = turned_still g.U.Updater.answer c.args.matrix.now (seeded c.args.turns) c.args.engine.now (g.U.Counted.calls c.args.updater.now) c.loop-turn._turn c.loop-turn.engine
          (g.U.Counted.calls c.loop-turn.updater) c.turn_next.new.engine (g.U.Counted.calls c.turn_next.new.updater) finished.1 (ap g.U.Counted.calls finished.2) c.loop-turn.invariant.turned;
    }

pub returns-clause-turns : goal.returns-clause-turns
returns-clause-turns g c = record { turns = c.loop-turn._turn; each = c.loop-turn.invariant.turned }

pub returns-in-Ok-Finished-clause-all : goal.returns-in-Ok-Finished-clause-all
returns-in-Ok-Finished-clause-all g c =
    let finished = c.in-Ok-Finished.ensures.finished (ap Ok c.in-Ok-Finished.field-0-is) in
    sym (all_stepped g.U.Updater.answer c.args.matrix.now c.turn_next.new.engine c.in-Ok-Finished.ensures.stands finished.0)

pub returns-clause-finished : goal.returns-clause-finished
returns-clause-finished g c =
    let e = c.loop-turn.engine in
    let le : length e.order ≤ stepped_in e = omega (arith, c.loop-turn.invariant.stepped, c.loop-turn-test.false, c.len-turn-end.ensures, ap (λ (vs : List ViewNo). length vs) c.loop-turn.invariant.order, ap (λ (vs : List ViewNo). length vs) c.order.ensures) in
    finished_when g.U.Updater.answer c.args.matrix.now e c.loop-turn.invariant.stands le

pub returns-clause-all : goal.returns-clause-all
returns-clause-all g c =
    let e = c.loop-turn.engine in
    let le : length e.order ≤ stepped_in e = omega (arith, c.loop-turn.invariant.stepped, c.loop-turn-test.false, c.len-turn-end.ensures, ap (λ (vs : List ViewNo). length vs) c.loop-turn.invariant.order, ap (λ (vs : List ViewNo). length vs) c.order.ensures) in
    sym (all_stepped g.U.Updater.answer c.args.matrix.now e c.loop-turn.invariant.stands (finished_when g.U.Updater.answer c.args.matrix.now e c.loop-turn.invariant.stands le))
