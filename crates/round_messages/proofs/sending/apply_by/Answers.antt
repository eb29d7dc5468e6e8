use Rattle.std.proofs.Common.{◌≤◌, ◌∙◌, ◌+◌, List, length, length-set, get_or, take, refl, sym, ap, subst, arith}
use Rattle.graph_model.specs.declared.value.Val.{Val}
use Rattle.graph_model.specs.declared.value.Val.TheVariants.{Nil}
use Rattle.change_lists.specs.declared.history.Change.{Change}
use Rattle.change_lists.specs.ChangeLists.{AreChanged}
use Rattle.change_lists.specs.ChangeLaws.{none-changed, one-changed, all-changed}
use Rattle.round_messages.proofs.sending.apply_by.Goals as goal

abbrev no_change : Change
no_change = record { node = record { 0 = 0 }; value = Nil }

pub loop-change-init : goal.loop-change-init
loop-change-init c = record { changed = λ after h. none-changed c.args.now.now after; size = refl; only = λ e. e; sent = c.requires.sent }

pub change_one-kept-requires-clause-node : goal.change_one-kept-requires-clause-node
change_one-kept-requires-clause-node c = omega (arith, c.requires.within c.loop-change.change-index no_change c.loop-change-test.true, c.loop-change.invariant.size)

pub change_one-kept-requires-clause-size : goal.change_one-kept-requires-clause-size
change_one-kept-requires-clause-size c = c.loop-change.invariant.size ∙ c.requires.size

pub change_one-kept-requires-clause-keeps : goal.change_one-kept-requires-clause-keeps
change_one-kept-requires-clause-keeps c = λ e. c.requires.keeps (c.loop-change.invariant.only e)

pub loop-change-preserved : goal.loop-change-preserved
loop-change-preserved c =
    let i = c.loop-change.change-index in
    let changes = c.args.changes.now in
    let x = get_or changes i no_change in
    let set_is = c.change_one-kept.ensures.value in
    record {
      changed = λ after h. subst (λ (vs : List Val). AreChanged c.args.now.now after vs (take (i + 1) changes)) (sym set_is)
          (one-changed c.args.now.now after c.loop-change.now changes i no_change x.value c.loop-change-test.true (c.requires.within i no_change c.loop-change-test.true) (h i no_change c.loop-change-test.true) (c.loop-change.invariant.changed after h));
      size = ap (λ (vs : List Val). length vs) set_is ∙ length-set c.loop-change.now x.node.0 x.value ∙ c.loop-change.invariant.size;
      only = λ e. c.loop-change.invariant.only (c.change_one-kept.ensures.only e);
      sent = c.change_one-kept.ensures.sent;
    }

pub returns-clause-values : goal.returns-clause-values
returns-clause-values c = λ after size h.
    let end : length c.args.changes.now ≤ c.loop-change.change-index = omega arith in
    all-changed c.args.now.now after c.loop-change.now c.args.changes.now c.loop-change.change-index (length c.args.now.now) size refl end h (c.loop-change.invariant.changed after h.values)
