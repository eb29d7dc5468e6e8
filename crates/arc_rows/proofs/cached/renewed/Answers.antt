use Rattle.std.proofs.Common.{◌≡◌, ◌∙◌, ◌<◌, Bool, List, length, get_or, set, false, refl, sym, ap, subst, inl, inr, length-set, arith}
use Rattle.std.specs.Prelude.{All}
use Rattle.std.proofs.lemmas.Bool.{cases_eq}
use Rattle.std.proofs.lemmas.Grind.{get_or-set_at}
use Rattle.std.proofs.lemmas.List.{get_or-set_other, ext_get_or, take_all}
use Rattle.std.proofs.lemmas.List.Elements.{All-contains}
use Rattle.graph_model.specs.declared.number.EdgeNo.{EdgeNo}
use Rattle.arc_rows.specs.RowLists.{edge}
use Rattle.arc_rows.specs.ViewLaws.{same-or-turned}
use Rattle.arc_rows.specs.ListLaws.{more-of}
use Rattle.arc_rows.proofs.cached.renewed.Goals as goal

abbrev no_edge : EdgeNo
no_edge = record { 0 = 0 }

pub loop-edge-preserved : goal.loop-edge-preserved
loop-edge-preserved c =
    let i = c.loop-edge.edge-index in
    let turned = c.args.turned.now in
    let new = c.args.new.now in
    let low = c.loop-edge-test.true in
    let flags = c.loop-edge.flags.items in
    let t = (get_or turned i no_edge).0 in
    let within : t < length flags = omega (arith, c.requires.within i no_edge low, c.loop-edge.invariant.size) in
    let x = get_or new t false in
    let here : get_or (set flags t x) t false ≡ get_or new t false = get_or-set_at flags t t x false refl within in
    record {
      size = omega (arith, c.loop-edge.invariant.size, length-set {A = Bool});
      set = more-of (λ (e : EdgeNo). get_or flags e.0 false ≡ get_or new e.0 false) (λ (e : EdgeNo). get_or (set flags t x) e.0 false ≡ get_or new e.0 false) turned i no_edge low
          (λ e h. elim (cases_eq e.0 t) [
            | inl same ↦ get_or-set_at flags t e.0 x false same within ∙ ap (λ v. get_or new v false) (sym same)
            | inr other ↦ get_or-set_other flags t e.0 x false other ∙ h
          ]) c.loop-edge.invariant.set here;
      others = λ v h. elim (cases_eq v t) [
        | inl same ↦ get_or-set_at flags t v x false same within ∙ ap (λ u. get_or new u false) (sym same)
        | inr other ↦ get_or-set_other flags t v x false other ∙ c.loop-edge.invariant.others v h
      ];
    }

pub returns : goal.returns
returns c =
    let flags = c.loop-edge.flags.items in
    let old = c.args._old.now in
    let new = c.args.new.now in
    let turned = c.args.turned.now in
    let set : All (λ (e : EdgeNo). get_or flags e.0 false ≡ get_or new e.0 false) turned =
    subst (λ (es : List EdgeNo). All (λ (e : EdgeNo). get_or flags e.0 false ≡ get_or new e.0 false) es) (take_all c.loop-edge.edge-index turned (omega arith)) c.loop-edge.invariant.set in
    ext_get_or false flags new c.loop-edge.invariant.size (λ v low.
    same-or-turned (get_or flags v false) (get_or new v false) (λ differ.
    differ (c.loop-edge.invariant.others v (same-or-turned (get_or old v false) (get_or new v false) (λ t.
    differ (All-contains (λ (e : EdgeNo). get_or flags e.0 false ≡ get_or new e.0 false) turned (edge v) set (c.requires.tells v (omega (arith, low, c.loop-edge.invariant.size, c.requires.size)) t))
    )))
    ))
