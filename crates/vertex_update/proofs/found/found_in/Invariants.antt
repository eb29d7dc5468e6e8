use Rattle.std.proofs.Common.{◌≡◌, take}
use Rattle.std.specs.Prelude.{fold, min, sum_by}
use Rattle.flow_core.specs.Expanded.{expanded}
use Rattle.vertex_items.specs.Given.{start_in, own_in, message_in}
use Rattle.vertex_update.specs.Reading.{with_one}
use Rattle.vertex_update.specs.declared.single.Single.TheVariants.{Nothing}
use Rattle.vertex_update.proofs.found.found_in.Given as goal

abbrev pub invariant-loop-item : goal.invariant-loop-item
invariant-loop-item l = record {
  start : l.found.start ≡ fold with_one Nothing (expanded start_in (take l.item-index l.words));
  own : l.found.own ≡ fold with_one Nothing (expanded own_in (take l.item-index l.words));
  messages : l.found.messages.items ≡ expanded message_in (take l.item-index l.words);
  count : l.found.count ≡ min (sum_by (λ m. m.1) (expanded message_in (take l.item-index l.words))) 4_294_967_296;
}
