-- One more word.
use Rattle.std.specs.Prelude.{min, sum_by}
use Rattle.std.proofs.Common.{◌≡◌, ◌<◌, length, arith}
use Rattle.flow_core.specs.Expanded.{expanded, expanded-append}
use Rattle.vertex_items.specs.Given.{start_in, own_in, message_in}
use Rattle.vertex_update.specs.Reading.{with_one}
use Rattle.vertex_update.specs.declared.single.Single.TheVariants.{Nothing}
use Rattle.vertex_update.proofs.Walks.{walk_fold, walk_push, walk_sum}
use Rattle.vertex_update.proofs.found.found_in.Goals as goal

pub loop-item-preserved : goal.loop-item-preserved
loop-item-preserved c =
    let low : c.loop-item.item-index < length c.args.words.now = omega arith in
    record {
      start = walk_fold (expanded start_in) with_one (expanded-append start_in) Nothing c.loop-item.found.start _ c.args.words.now c.loop-item.item-index c.loop-item-item.result low c.loop-item-item.is c.loop-item.invariant.start c.in_ok-take_in.ensures.start;
      own = walk_fold (expanded own_in) with_one (expanded-append own_in) Nothing c.loop-item.found.own _ c.args.words.now c.loop-item.item-index c.loop-item-item.result low c.loop-item-item.is c.loop-item.invariant.own c.in_ok-take_in.ensures.own;
      messages = walk_push (expanded message_in) (expanded-append message_in) c.loop-item.found.messages.items _ c.args.words.now c.loop-item.item-index c.loop-item-item.result low c.loop-item-item.is c.loop-item.invariant.messages c.in_ok-take_in.ensures.messages;
      count = walk_sum (expanded message_in) (λ m. m.1) 4_294_967_296 (expanded-append message_in) c.loop-item.found.count _ c.args.words.now c.loop-item.item-index c.loop-item-item.result low c.loop-item-item.is c.loop-item.invariant.count c.in_ok-take_in.ensures.count;
    }
