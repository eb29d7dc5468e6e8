-- One place more.
use Rattle.std.proofs.Common.{◌∙◌, sym, ◌+◌, arith, refl}
use Rattle.view_engine.proofs.Reading.{beside_next, beside_end}
use Rattle.view_engine.proofs.engine.work_beside.Goals as goal
use Rattle.view_engine.proofs.engine.work_beside.Goals.{else-place-views-via-then-place-views+else-eq, else-place-views-via-else-place-views}

pub loop-place-preserved : goal.loop-place-preserved
loop-place-preserved c =
    beside_next c.args.views.now c.args.works.now c.loop-place.place (c.loop-place.place + 1) c.args.view (record { 0 = 0 }) refl
    (λ low few. elim c.else-place-views.branch [
      | else-place-views-via-then-place-views+else-eq w ↦ sym w.eq.ensures ∙ w.if-eq.false
      | else-place-views-via-else-place-views w ↦ absurd (omega (arith, w.if-place-views.false))
    ])
    ∙ c.loop-place.invariant

pub returns : goal.returns
returns c = sym (beside_end c.args.views.now c.args.works.now c.loop-place.place c.args.view (omega arith)) ∙ c.loop-place.invariant
