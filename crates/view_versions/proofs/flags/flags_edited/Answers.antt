use Rattle.std.proofs.Common.{◌∙◌, ◌<◌, Bool, List, fold, length, ap, ap₂, sym, subst}
use Rattle.std.specs.Prelude.{All}
use Rattle.graph_model.specs.declared.number.EdgeNo.{EdgeNo}
use Rattle.arc_rows.specs.Views.{TellsAll}
use Rattle.view_versions.specs.Edits.{taken_back}
use Rattle.view_versions.specs.Flags.{with_former}
use Rattle.view_versions.proofs.Choosing.{flags-count}
use Rattle.view_versions.proofs.Turning.{former-flags, former-size, former-tells, turned-within}
use Rattle.view_versions.proofs.flags.flags_edited.Goals as goal

pub former_flags-old-requires-clause-size : goal.former_flags-old-requires-clause-size
former_flags-old-requires-clause-size c = ap (λ (bs : List Bool). length bs) c.in_ok-flags.ensures.first ∙ flags-count c.args.matrix.now c.args.view.0

pub former_flags-old-requires-clause-within : goal.former_flags-old-requires-clause-within
former_flags-old-requires-clause-within c =
    subst (λ (es : List EdgeNo). All (λ e. e.0 < length c.args.matrix.now.live) es) (sym (c.as_slice.ensures ∙ c.in_ok-turned.ensures)) (turned-within c.args.matrix.now c.args.changes.now c.requires.edits c.args.view.0)

pub returns-clause-old : goal.returns-clause-old
returns-clause-old c =
    c.former_flags-old.ensures
    ∙ ap₂ (λ (bs : List Bool) (es : List EdgeNo). fold (with_former c.args.matrix.now) bs es) c.in_ok-flags.ensures.first (c.as_slice.ensures ∙ c.in_ok-turned.ensures)
    ∙ former-flags c.args.matrix.now c.args.changes.now c.requires.edits c.args.view.0

pub returns-clause-two : goal.returns-clause-two
returns-clause-two c =
    let m = c.args.matrix.now in
    let v = c.args.view.0 in
    let is = c.requires.edits in
    let former = c.former_flags-old.ensures ∙ ap₂ (λ (bs : List Bool) (es : List EdgeNo). fold (with_former m) bs es) c.in_ok-flags.ensures.first (c.as_slice.ensures ∙ c.in_ok-turned.ensures) in
    record {
      old = ap (λ (bs : List Bool). length bs) (former ∙ former-flags m c.args.changes.now is v) ∙ flags-count (taken_back m c.args.changes.now) v ∙ former-size m c.args.changes.now is;
      new = ap (λ (bs : List Bool). length bs) c.in_ok-flags.ensures.second ∙ flags-count m v;
      within = subst (λ (es : List EdgeNo). All (λ e. e.0 < length m.live) es) (sym c.in_ok-turned.ensures) (turned-within m c.args.changes.now is v);
      tells = subst (λ (es : List EdgeNo). TellsAll c.former_flags-old.result.items c.in_ok-flags.new.items es) (sym c.in_ok-turned.ensures) (former-tells m c.args.changes.now is v c.former_flags-old.result.items c.in_ok-flags.new.items former c.in_ok-flags.ensures.second);
    }
