use Rattle.std.proofs.Common.{◌∙◌, Bool, List, length, ap}
use Rattle.view_versions.proofs.Choosing.{flags-count}
use Rattle.view_versions.proofs.Moving.{moved-back, moved-between, told-within}
use Rattle.view_versions.proofs.flags.moved_flags.Goals as goal

pub told-first-requires : goal.told-first-requires
told-first-requires c =
    let m = c.args.matrix.now in
    let kept = c.args.kept in
    told-within m kept.view.0 c.args.view.0 _ _
    (ap (λ (bs : List Bool). length bs) (c.moved-same.ensures ∙ moved-back m kept c.as_slice.result.now c.requires.kept c.as_slice.ensures) ∙ flags-count m kept.view.0)
    (c.as_slice-2.ensures ∙ c.in_ok-apart.ensures.differences)

pub told-second-requires : goal.told-second-requires
told-second-requires c =
    let m = c.args.matrix.now in
    let kept = c.args.kept in
    told-within m kept.view.0 c.args.view.0 _ _
    (ap (λ (bs : List Bool). length bs) c.requires.kept.new ∙ flags-count m kept.view.0)
    (c.as_slice-3.ensures ∙ c.in_ok-apart.ensures.differences)

pub returns-clause-first : goal.returns-clause-first
returns-clause-first c =
    let m = c.args.matrix.now in
    let kept = c.args.kept in
    c.told-first.ensures
    ∙ moved-between m kept.view.0 c.args.view.0 c.moved-same.result.items c.as_slice-2.result.now (c.moved-same.ensures ∙ moved-back m kept c.as_slice.result.now c.requires.kept c.as_slice.ensures) (c.as_slice-2.ensures ∙ c.in_ok-apart.ensures.differences)

pub returns-clause-second : goal.returns-clause-second
returns-clause-second c =
    c.told-second.ensures
    ∙ moved-between c.args.matrix.now c.args.kept.view.0 c.args.view.0 c.args.kept.two.new.items c.as_slice-3.result.now c.requires.kept.new (c.as_slice-3.ensures ∙ c.in_ok-apart.ensures.differences)
