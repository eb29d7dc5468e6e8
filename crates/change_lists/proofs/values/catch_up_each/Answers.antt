use Rattle.std.proofs.Common.{◌≤◌, ◌<◌, List, length, get_or, take_all, refl, sym, subst, arith}
use Rattle.graph_model.specs.declared.value.Val.TheVariants.{Nil}
use Rattle.vertex_lang.specs.Rounds.{value_at}
use Rattle.change_lists.specs.declared.history.Change.{Change}
use Rattle.change_lists.specs.ChangeLists.{AreChanged}
use Rattle.change_lists.specs.ChangeLaws.{none-changed, one-changed, all-changed}
use Rattle.change_lists.proofs.values.catch_up_each.Goals as goal

abbrev no_change : Change
no_change = record { node = record { 0 = 0 }; value = Nil }

pub loop-change-init : goal.loop-change-init
loop-change-init c = none-changed c.args.before.now c.args.now.now

pub loop-change-preserved : goal.loop-change-preserved
loop-change-preserved c =
    let i = c.loop-change.change-index in
    let changes = c.args.changes.now in
    let within : (get_or changes i no_change).node.0 < length c.args.before.now = omega (arith, c.requires.within i no_change c.loop-change-test.true, c.requires.size) in
    one-changed c.args.before.now c.args.now.now c.loop-change.before changes i no_change (value_at c.args.now.now (get_or changes i no_change).node.0) c.loop-change-test.true within refl c.loop-change.invariant

pub returns-clause-changed : goal.returns-clause-changed
returns-clause-changed c =
    let end : length c.args.changes.now ≤ c.loop-change.change-index = omega arith in
    subst (λ (cs : List Change). AreChanged c.args.before.now c.args.now.now c.loop-change.before cs) (take_all c.loop-change.change-index c.args.changes.now end) c.loop-change.invariant

pub returns-clause-all : goal.returns-clause-all
returns-clause-all c = λ h.
    let end : length c.args.changes.now ≤ c.loop-change.change-index = omega arith in
    all-changed c.args.before.now c.args.now.now c.loop-change.before c.args.changes.now c.loop-change.change-index (length c.args.now.now) (sym c.requires.size) (sym c.requires.size) end h c.loop-change.invariant
