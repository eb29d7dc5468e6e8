use Rattle.std.proofs.Common.{◌∙◌, ◌<◌, Bool, List, length, ap, sym, subst}
use Rattle.std.specs.Prelude.{All}
use Rattle.graph_model.specs.declared.number.EdgeNo.{EdgeNo}
use Rattle.arc_rows.specs.Views.{TellsAll}
use Rattle.view_versions.specs.Flags.{flags_of}
use Rattle.view_versions.proofs.Choosing.{flags-count, apart-tells, apart-within}
use Rattle.view_versions.proofs.flags.flags_between.Goals as goal

pub returns-clause-two : goal.returns-clause-two
returns-clause-two c =
    let m = c.args.matrix.now in
    let u = c.args.before.0 in
    let v = c.args.view.0 in
    let old = c.in_ok-old.ensures in
    let new = c.in_ok-new.ensures in
    let turned = c.in_ok-turned.ensures in
    record {
      old = ap (λ (bs : List Bool). length bs) old ∙ flags-count m u;
      new = ap (λ (bs : List Bool). length bs) new ∙ flags-count m v;
      within = subst (λ (es : List EdgeNo). All (λ e. e.0 < length m.live) es) (sym turned) (apart-within m u v);
      tells =
          subst (λ (bs : List Bool). TellsAll bs c.in_ok-new.new.items c.in_ok-turned.turned) (sym old)
          (subst (λ (bs : List Bool). TellsAll (flags_of m u) bs c.in_ok-turned.turned) (sym new)
          (subst (λ (es : List EdgeNo). TellsAll (flags_of m u) (flags_of m v) es) (sym turned) (apart-tells m u v)));
    }
