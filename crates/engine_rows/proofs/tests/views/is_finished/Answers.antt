-- One segment more is finished.
use Rattle.std.proofs.Common.{sym, ap, ◌∙◌, length, arith}
use Rattle.std.proofs.lemmas.Option.{slice_get_within}
use Rattle.view_segment.specs.Segments.{IsFinished}
use Rattle.engine_rows.proofs.Lists.{all_from, one_more}
use Rattle.engine_rows.proofs.tests.views.is_finished.Goals as goal

pub loop-number-preserved : goal.loop-number-preserved
loop-number-preserved c =
    one_more IsFinished c.args.engine.now.segments.items c.loop-number.number c.segment-segment.result.now c.segment-segment.ensures
    (sym (ap length c.works.ensures) ∙ c.if-works-views.false ∙ ap length c.views.ensures) c.loop-number.invariant

pub returns : goal.returns
returns c = λ yes. all_from IsFinished c.args.engine.now.segments.items
    (λ i s at. c.loop-number.invariant i s (omega (arith, slice_get_within c.args.engine.now.segments.items i s at, c.segments-number-end.ensures, c.loop-number-test.false)) at)
