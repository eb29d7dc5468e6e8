use Rattle.std.proofs.Common.{◌≤◌, ◌∙◌, length, length-set, get_or, refl, arith}
use Rattle.graph_model.specs.declared.value.Val.TheVariants.{Nil}
use Rattle.change_lists.specs.declared.history.Change.{Change}
use Rattle.change_lists.specs.ChangeLaws.{none-changed, one-changed, all-changed}
use Rattle.change_lists.proofs.values.assign.Goals as goal

abbrev no_change : Change
no_change = record { node = record { 0 = 0 }; value = Nil }

pub loop-change-init : goal.loop-change-init
loop-change-init c = record { changed = λ after h. none-changed c.args.now.now after; size = refl }

pub loop-change-preserved : goal.loop-change-preserved
loop-change-preserved c =
    let i = c.loop-change.change-index in
    let changes = c.args.changes.now in
    let x = get_or changes i no_change in
    record {
      changed = λ after h. one-changed c.args.now.now after c.loop-change.now changes i no_change x.value c.loop-change-test.true (c.requires i no_change c.loop-change-test.true) (h i no_change c.loop-change-test.true) (c.loop-change.invariant.changed after h);
      size = length-set c.loop-change.now x.node.0 x.value ∙ c.loop-change.invariant.size;
    }

pub returns : goal.returns
returns c = λ after size h.
    let end : length c.args.changes.now ≤ c.loop-change.change-index = omega arith in
    all-changed c.args.now.now after c.loop-change.now c.args.changes.now c.loop-change.change-index (length c.args.now.now) size refl end h (c.loop-change.invariant.changed after h.values)
