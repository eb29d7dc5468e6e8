use Rattle.std.proofs.Common.{◌≡◌, ◌∙◌, ◌+◌, sym, ap, subst, ℤ, List, length, arith}
use Rattle.std.specs.Vec.{with_items}
use Rattle.std.proofs.lemmas.List.{with_items_is}
use Rattle.round_inputs.specs.declared.source.MessageSource.{MessageSource}
use Rattle.round_kernel.specs.Sources.{StandsSource}
use Rattle.round_inputs.specs.SourceLaws.{fed-values, values-next, renewed-as}
use Rattle.round_kernel.proofs.source.next_source.Goals as goal
use Rattle.round_kernel.proofs.source.next_source.Goals.{in-Messages, in-Steps, in-Nothing}

pub returns-else-not-all : goal.returns-else-not-all
returns-else-not-all g c =
    let answer = g.U.Updater.answer in
    let f = c.args.frame in
    let r = c.args.round in
    let p = f.program.now in
    let graph = f.graph.now in
    let all = f.rows.now.by_head in
    let lists = c.args.lists.now in
    let at = c.requires.at in
    elim c.match-source.branch [
      | in-Messages w ↦
          subst (λ (source : MessageSource). StandsSource answer f (r + 1) source) (sym w.in-Messages.is ∙ sym w.source-is) (subst (λ (source : MessageSource). StandsSource answer f r source) w.in-Messages.is c.requires.source)
      | in-Steps w ↦
          let numbers = w.in-Steps.numbers in
          let after = w.renew-all.new.numbers in
          let size : length after ≡ numbers.len = omega (arith, w.renew-all.auto.numbers, ap (λ (ns : List ℤ). length ns) w.deref_mut.ensures.value, numbers.ok) in
          subst (λ (source : MessageSource). StandsSource answer f (r + 1) source) (sym w.source-is) (
            (values-next answer p graph all f.new.now lists.new_degrees.items lists.new_now.items r at.new_now c.args.changes.now c.requires.changes w.in-Steps.field-0 numbers.items (with_items numbers after).items
                (renewed-as lists.new_now.items w.deref.result.now c.args.changes.now numbers.items w.deref_mut.result.now (with_items numbers after).items after w.deref.ensures.value w.deref_mut.ensures.value (with_items_is numbers after size) (w.renew-all.ensures (sym w.all-is ∙ c.if-not-all.false)))
                (fed-values answer p graph all f.new.now r c.args.source.now c.requires.source w.in-Steps.field-0 numbers w.in-Steps.field-2 w.in-Steps.is)),
            (subst (λ (source : MessageSource). StandsSource answer f r source) w.in-Steps.is c.requires.source).1,
          )
      | in-Nothing w ↦ subst (λ (source : MessageSource). StandsSource answer f (r + 1) source) (sym w.source-is) (subst (λ (source : MessageSource). StandsSource answer f (r + 1) source) (sym w.in-Nothing.is) tt)
    ]
