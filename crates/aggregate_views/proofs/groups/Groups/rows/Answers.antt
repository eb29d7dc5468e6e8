-- What is held are the rows of the present edges.
use Rattle.std.proofs.Common.{◌≡◌, ◌≤◌, ◌∙◌, ℕ, List, false, arith, ap, sym, subst, length, map}
use Rattle.std.proofs.lemmas.List.{length-map}
use Rattle.weighted.specs.Alike.{Alike}
use Rattle.flow_core.specs.Runs.{Every}
use Rattle.aggregate_views.specs.declared.group_key.GroupKey.{GroupKey}
use Rattle.aggregate_views.specs.declared.part.Part.{Part}
use Rattle.aggregate_views.specs.declared.part.Totals.{Totals}
use Rattle.aggregate_views.specs.Coding.{entries_of, key_cell, row_at, IsPair}
use Rattle.aggregate_views.specs.Inside.{GroupsData}
use Rattle.aggregate_views.specs.Rows.{present_edges, rows_of}
use Rattle.aggregate_views.proofs.Rows.{held_valid, rows_are}
use Rattle.aggregate_views.proofs.Turned.{fewer}
use Rattle.aggregate_views.proofs.groups.Groups.rows.Goals as goal

abbrev Made : Type 0
Made = List (((ℕ × ℕ) × Part) × ℕ) → List (((ℕ × ℕ) × Totals) × ℕ)

pub all_rows-requires : goal.all_rows-requires
all_rows-requires c =
    let few : length (present_edges c.self.inside.present.items) ≤ 4_000_000 = omega (arith, fewer 0 c.self.inside.present.items, c.self.invariant.few) in
    let live : c.self.inside.spent ≡ false = ap (λ (d : GroupsData). d.spent) c.self.view_is ∙ c.requires.live in
    let alike = subst (λ (f : Made). Alike c.in_ok-held.held (f (entries_of c.self.inside.encoding.graph.now c.self.inside.encoding.places.items c.self.inside.encoding.sum (present_edges c.self.inside.present.items)))) c.self.invariant.function (c.in_ok-held.ensures.alike (entries_of c.self.inside.encoding.graph.now c.self.inside.encoding.places.items c.self.inside.encoding.sum (present_edges c.self.inside.present.items)) (c.self.invariant.fed live)) in
    subst (λ v. Every (λ e. IsPair (length c.as_slice-keys.result.now) e.0.0) v) (sym c.as_slice.ensures.value) (subst (λ n. Every (λ e. IsPair n e.0.0) c.in_ok-held.held) (length-map c.self.inside.keys.items key_cell ∙ ap (λ (ks : List GroupKey). length ks) (sym c.as_slice-keys.ensures.value)) (held_valid _ c.pairs_are_ordered.ensures.total c.pairs_are_ordered.ensures.same _ c.parts_are_ordered.ensures.total c.parts_are_ordered.ensures.same c.parts_are_ordered.ensures.places c.self.inside.encoding.graph.now c.self.inside.encoding.places.items (present_edges c.self.inside.present.items) few _ c.totals_are_ordered.ensures.total c.totals_are_ordered.ensures.same c.totals_are_ordered.ensures.first c.pairs_are_ordered.ensures.places c.self.inside.column (map key_cell c.self.inside.keys.items) c.self.invariant.codes c.self.inside.encoding.sum c.self.invariant.known c.in_ok-held.held c.in_ok-held.ensures.batch alike))

pub returns : goal.returns
returns c =
    let few : length (present_edges c.self.inside.present.items) ≤ 4_000_000 = omega (arith, fewer 0 c.self.inside.present.items, c.self.invariant.few) in
    let live : c.self.inside.spent ≡ false = ap (λ (d : GroupsData). d.spent) c.self.view_is ∙ c.requires.live in
    let alike = subst (λ (f : Made). Alike c.in_ok-held.held (f (entries_of c.self.inside.encoding.graph.now c.self.inside.encoding.places.items c.self.inside.encoding.sum (present_edges c.self.inside.present.items)))) c.self.invariant.function (c.in_ok-held.ensures.alike (entries_of c.self.inside.encoding.graph.now c.self.inside.encoding.places.items c.self.inside.encoding.sum (present_edges c.self.inside.present.items)) (c.self.invariant.fed live)) in
    c.in_ok-rows.ensures
    ∙ ap (map (λ e. row_at (map key_cell c.as_slice-keys.result.now) c.self.inside.encoding.sum e.0)) c.as_slice.ensures.value
    ∙ ap (λ (ks : List GroupKey). map (λ e. row_at (map key_cell ks) c.self.inside.encoding.sum e.0) c.in_ok-held.held) c.as_slice-keys.ensures.value
    ∙ rows_are _ c.pairs_are_ordered.ensures.total c.pairs_are_ordered.ensures.same _ c.parts_are_ordered.ensures.total c.parts_are_ordered.ensures.same c.parts_are_ordered.ensures.places c.self.inside.encoding.graph.now c.self.inside.encoding.places.items (present_edges c.self.inside.present.items) few _ c.totals_are_ordered.ensures.total c.totals_are_ordered.ensures.same c.totals_are_ordered.ensures.first c.pairs_are_ordered.ensures.places c.self.inside.column (map key_cell c.self.inside.keys.items) c.self.invariant.codes c.self.inside.encoding.sum c.self.invariant.known c.in_ok-held.held c.in_ok-held.ensures.batch alike
    ∙ ap (λ (d : GroupsData). rows_of d.graph d.column d.sum (present_edges d.present)) c.self.view_is
