-- The view in a segment of its own, or at the end of the last one.
use Rattle.std.proofs.Common.{◌≡◌, sym, ap, ◌∙◌, ◌++◌, ◌∷◌, [], ◌-◌, ◌<◌, length, set, Bool, arith, suc}
use Rattle.view_segment.specs.declared.segment.Segment.{Segment}
use Rattle.view_engine.specs.Assigning.{put, with_view}
use Rattle.view_engine.proofs.Putting.{put_pushed, put_set, grown_segment}
use Rattle.view_engine.proofs.Moving.{at_of}
use Rattle.view_engine.proofs.Refusing.{on_err, set_same}
use Rattle.view_engine.proofs.placing.put.Goals as goal

pub returns-in_ok-push-clause-ok : goal.returns-in_ok-push-clause-ok
returns-in_ok-push-clause-ok c =
    let ss = c.args.segments.now.items in
    c.in_ok-push.ensures.items ∙ ap (λ (s : Segment). ss ++ s ∷ []) c.in_ok-segment.ensures ∙ sym (put_pushed c.args.view ss)
    ∙ ap (λ (b : Bool). put b ss c.args.view) (sym c.if-anew.true)

pub returns-in_ok-add-clause-ok : goal.returns-in_ok-add-clause-ok
returns-in_ok-add-clause-ok c =
    let ss = c.args.segments.now.items in
    let old = c.index_mut.result.now in
    let some : length ss ≡ suc (c.len-last.result - 1) = omega (arith, c.len-last.ensures, c.requires c.if-anew.false) in
    let more = grown_segment c.add.new.self old c.args.view c.in_ok-add.ensures.views c.in_ok-add.ensures.works c.in_ok-add.ensures.history c.in_ok-add.ensures.flags in
    put_set c.args.view ss (c.len-last.result - 1) c.add.new.self old some (more ∙ ap (λ (t : Segment). with_view t c.args.view) c.index_mut.ensures.value)
    ∙ ap (λ (b : Bool). put b ss c.args.view) (sym c.if-anew.false)

pub returns-in_err-add-clause-err : goal.returns-in_err-add-clause-err
returns-in_err-add-clause-err c =
    let ss = c.args.segments.now.items in
    let old = c.index_mut.result.now in
    let j = c.len-last.result - 1 in
    let some : j < length ss = omega (arith, c.len-last.ensures, c.requires c.if-anew.false) in
    on_err c.from_residual-in_err-add.result (ap (λ (s : Segment). set ss j s) c.in_err-add.ensures.err ∙ set_same ss j old (at_of ss j old some c.index_mut.ensures.value))
