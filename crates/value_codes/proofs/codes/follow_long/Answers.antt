use Rattle.std.proofs.Common.{◌≡◌, ◌∙◌, ◌≤◌, List, ℤ, true, false, length, length-set, get_or, refl, sym, subst, arith}
use Rattle.graph_model.specs.declared.value.Val.{Val}
use Rattle.graph_model.specs.declared.value.Val.TheVariants.{Nil}
use Rattle.change_lists.specs.declared.history.Change.{Change}
use Rattle.message_forms.specs.Forms.{message_with}
use Rattle.value_codes.specs.Numbers.{IsPut}
use Rattle.change_lists.specs.ChangeLaws.{one-changed, all-changed}
use Rattle.value_codes.proofs.Messages.{one-message}
use Rattle.value_codes.proofs.codes.follow_long.Goals as goal
use Rattle.value_codes.proofs.codes.follow_long.Goals.{then-kept, else-kept}

abbrev no_change : Change
no_change = record { node = record { 0 = 0 }; value = Nil }

pub loop-change-preserved : goal.loop-change-preserved
loop-change-preserved c =
    let i = c.loop-change.change-index in
    let changes = c.args.changes.now in
    let x = get_or changes i no_change in
    let n = x.node.0 in
    let values = c.loop-change.now in
    let old = c.loop-change.numbers in
    let low = c.loop-change-test.true in
    let within = c.requires.within i no_change low in
    record {
      changed = λ after h. one-changed c.args.now.now after values changes i no_change x.value low within (h i no_change low) (c.loop-change.invariant.changed after h);
      size = length-set values n x.value ∙ c.loop-change.invariant.size;
      messages = λ on. elim c.if-kept.branch [
        | then-kept w ↦
            let raw = w.put_long-kept.ensures (sym w.kept-is ∙ on) in
            let put : IsPut n (message_with c.args.added x.value) old c.if-kept.numbers =
            subst (λ (m : Val). IsPut n m old c.if-kept.numbers) w.message_with.ensures (subst (λ (zs : List ℤ). IsPut n w.message_with.result old (zs)) (sym w.numbers-is) raw) in
            one-message c.args.added values old c.if-kept.numbers n x.value (omega (arith, within, c.loop-change.invariant.size)) put (c.loop-change.invariant.messages w.if-kept.true)
        | else-kept w ↦ absurd (let e : true ≡ false = sym on ∙ w.kept-is ∙ w.if-kept.false in cc)
      ];
    }

pub returns-clause-values : goal.returns-clause-values
returns-clause-values c = λ after size h.
    let end : length c.args.changes.now ≤ c.loop-change.change-index = omega arith in
    all-changed c.args.now.now after c.loop-change.now c.args.changes.now c.loop-change.change-index (length c.args.now.now) size refl end h (c.loop-change.invariant.changed after h.values)
