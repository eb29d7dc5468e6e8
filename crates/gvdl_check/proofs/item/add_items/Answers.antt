-- One item more.
use Rattle.std.proofs.Common.{◌∙◌, drop}
use Rattle.std.proofs.lemmas.Result.{err_from_is_err_and}
use Rattle.gvdl_check.specs.Views.{item_added, items_added}
use Rattle.gvdl_programs.specs.JudgingLaws.{refused_as}
use Rattle.gvdl_programs.specs.Turns.{turn_on, turn_stops, turn_done}
use Rattle.gvdl_check.proofs.item.add_items.Goals as goal

pub returns-in_err-add_item : goal.returns-in_err-add_item
returns-in_err-add_item c =
    let g = c.args.graph.now in
    let base = c.args.base.now in
    let items = c.args.items.now in
    let i = c.loop-item.item-index in
    let e = c.in_err-add_item.field-0.0 in
    let p = err_from_is_err_and c.from_residual.result c.from_residual.ensures.1 in
    rw (p.1, p.2) (record {
      told = refused_as (items_added g base c.args.views.now items) (items_added g base c.loop-item.views (drop i items)) e c.loop-item.invariant
          (turn_stops (item_added g base) c.loop-item.views items i c.item-item.result e c.loop-item-test.true c.item-item.is c.in_err-add_item.ensures.told);
    })

pub loop-item-preserved : goal.loop-item-preserved
loop-item-preserved c =
    c.loop-item.invariant ∙ turn_on (item_added c.args.graph.now c.args.base.now) c.loop-item.views c.add_item.new.views c.args.items.now c.loop-item.item-index c.item-item.result c.loop-item-test.true c.item-item.is c.in_ok-add_item.ensures.told

pub returns : goal.returns
returns c =
    record { told = c.loop-item.invariant ∙ turn_done (item_added c.args.graph.now c.args.base.now) c.loop-item.views c.args.items.now c.loop-item.item-index c.loop-item-test.false }
