-- The truth of a predicate, case by case.
use Rattle.std.proofs.Common.{◌≡◌, ◌∙◌, List, ap, sym, take}
use Rattle.std.specs.Prelude.{not}
use Rattle.std.specs.List.{list_any, list_all}
use Rattle.std.proofs.lemmas.List.{take_all}
use Rattle.edge_predicates.specs.declared.pred.Pred.{Pred}
use Rattle.graph_model.specs.GraphData.{cell_of}
use Rattle.edge_predicates.specs.Truth.{truth, cells_compare, is_absent, read_at}
use Rattle.edge_predicates.proofs.Cases.{truth-or, truth-and, truth-not, truth-constant, truth-compare, truth-missing}
use Rattle.edge_predicates.proofs.truth.+holds.Goals as goal

pub holds-returns-in-Or : goal.holds-returns-in-Or
holds-returns-in-Or t c =
    let g = c.args.graph.now in
    let e = c.args.edge.0 in
    c.some_holds.ensures ∙ ap (λ (ps : List Pred). list_any (truth g e) ps) c.as_slice.ensures ∙ sym (truth-or g e c.in-Or.members) ∙ ap (λ (p : Pred). truth g e p) (sym c.in-Or.is)

pub holds-returns-in-And : goal.holds-returns-in-And
holds-returns-in-And t c =
    let g = c.args.graph.now in
    let e = c.args.edge.0 in
    c.all_hold.ensures ∙ ap (λ (ps : List Pred). list_all (truth g e) ps) c.as_slice-in-And.ensures ∙ sym (truth-and g e c.in-And.members) ∙ ap (λ (p : Pred). truth g e p) (sym c.in-And.is)

pub holds-returns-in-Not : goal.holds-returns-in-Not
holds-returns-in-Not t c =
    let g = c.args.graph.now in
    let e = c.args.edge.0 in
    ap (λ b. not b) (c.holds.ensures ∙ ap (λ (p : Pred). truth g e p) c.get.ensures) ∙ sym (truth-not g e c.in-Not.member) ∙ ap (λ (p : Pred). truth g e p) (sym c.in-Not.is)

pub holds-returns-in-Constant : goal.holds-returns-in-Constant
holds-returns-in-Constant t c =
    let g = c.args.graph.now in
    let e = c.args.edge.0 in
    sym (truth-constant g e c.in-Constant.truth) ∙ ap (λ (p : Pred). truth g e p) (sym c.in-Constant.is)

pub holds-returns-in-Compare : goal.holds-returns-in-Compare
holds-returns-in-Compare t c =
    let g = c.args.graph.now in
    let e = c.args.edge.0 in
    c.compare_cells.ensures ∙ ap (λ a. cells_compare c.in-Compare.sign a (cell_of c.read_at-in-Compare.result)) c.read_at.ensures ∙ ap (λ b. cells_compare c.in-Compare.sign (read_at g e c.in-Compare.first) b) c.read_at-in-Compare.ensures
    ∙ sym (truth-compare g e c.in-Compare.first c.in-Compare.sign c.in-Compare.second) ∙ ap (λ (p : Pred). truth g e p) (sym c.in-Compare.is)

pub holds-returns-in-Missing : goal.holds-returns-in-Missing
holds-returns-in-Missing t c =
    let g = c.args.graph.now in
    let e = c.args.edge.0 in
    c.is_absent.ensures ∙ ap (λ a. is_absent a) c.read_at-in-Missing.ensures ∙ sym (truth-missing g e c.in-Missing.place) ∙ ap (λ (p : Pred). truth g e p) (sym c.in-Missing.is)

pub some_holds-returns : goal.some_holds-returns
some_holds-returns t c =
    let g = c.args.graph.now in
    let e = c.args.edge.0 in
    let all : take c.loop-member.member-index c.args.members.now ≡ c.args.members.now = take_all c.loop-member.member-index c.args.members.now c.loop-member-test.false in
    sym c.loop-member.invariant ∙ ap (λ (ps : List Pred). list_any (truth g e) ps) all

pub all_hold-returns : goal.all_hold-returns
all_hold-returns t c =
    let g = c.args.graph.now in
    let e = c.args.edge.0 in
    let all : take c.loop-member.member-index c.args.members.now ≡ c.args.members.now = take_all c.loop-member.member-index c.args.members.now c.loop-member-test.false in
    sym c.loop-member.invariant ∙ ap (λ (ps : List Pred). list_all (truth g e) ps) all
