-- The flags of a view in the matrix before an edit, and what stays where the view turned no edge.
use Rattle.std.proofs.Common.{◌≡◌, ◌∙◌, ◌<◌, ◌==◌, ℕ, Bool, true, false, not, List, [], length, get_or, map, filter, fold, refl, sym, ap, arith, inl, inr}
use Rattle.std.specs.Prelude.{◌&&◌, if◌then◌else◌, All}
use Rattle.std.specs.List.{range_with_len}
use Rattle.std.proofs.lemmas.Bool.{cases_Bool, eqb-true}
use Rattle.std.proofs.lemmas.List.Elements.{All-filter, All-map, filter_agree}
use Rattle.std.proofs.lemmas.List.FromFn.{fill_by_all}
use Rattle.std.proofs.lemmas.Map.Views.{Contains-from_any, any-filter_same}
use Rattle.graph_model.specs.declared.number.EdgeNo.{EdgeNo}
use Rattle.edge_predicates.specs.ViewEdges.{edge}
use Rattle.arc_rows.specs.Views.{TellsAll}
use Rattle.view_matrix.specs.Matrices.{MatrixData, all_edges, bit_of, edges_in, is_in, live_of, rule_bit_of}
use Rattle.view_versions.specs.EditLaws.{former-live, told-at, told-size}
use Rattle.view_versions.specs.Edits.{AreEdits, changed_edges, taken_back, turned_in}
use Rattle.view_versions.specs.Flags.{flags_of, with_former}
use Rattle.view_versions.proofs.Choosing.{flag-at, flags-count}

by-bools : (r i l : Bool) → (if (r && i) then not l else (l && r)) ≡ ((if i then not l else l) && r)
by-bools true true true = refl
by-bools true true false = refl
by-bools true false true = refl
by-bools true false false = refl
by-bools false true true = refl
by-bools false true false = refl
by-bools false false true = refl
by-bools false false false = refl

unless : (b : Bool) (x y : Bool) → b ≡ false → (if b then x else y) ≡ y
unless true x y e = absurd cc
unless false x y e = refl

pub former-size : (m : MatrixData) (changes : List (EdgeNo × Bool)) → AreEdits m changes → length (taken_back m changes).live ≡ length m.live
former-size m changes is = ap (λ (fs : List Bool). length fs) (former-live m changes is.live) ∙ told-size (λ e. not (live_of m e)) (changed_edges changes) m.live

module _ (m : MatrixData) (changes : List (EdgeNo × Bool)) (is : AreEdits m changes) (v : ℕ) where
  -- an edge is among those that the view turned where it came or went and the rule holds
  among : (e : ℕ) → is_in (turned_in m changes v) (edge e) ≡ (rule_bit_of m e v && is_in (changed_edges changes) (edge e))
  among e = any-filter_same (λ (x : EdgeNo). x.0 == e) (λ (x : EdgeNo). rule_bit_of m x.0 v) (rule_bit_of m e v) (λ x same. ap (λ k. rule_bit_of m k v) (eqb-true x.0 e same)) (changed_edges changes)

  live-before : (e : ℕ) → e < length m.live → live_of (taken_back m changes) e ≡ (if is_in (changed_edges changes) (edge e) then not (live_of m e) else live_of m e)
  live-before e low = ap (λ (fs : List Bool). get_or fs e false) (former-live m changes is.live) ∙ told-at (λ k. not (live_of m k)) (changed_edges changes) m.live e low

  turned-at : (e : ℕ) → e < length m.live → get_or (fold (with_former m) (flags_of m v) (turned_in m changes v)) e false ≡ (if is_in (turned_in m changes v) (edge e) then not (live_of m e) else bit_of m e v)
  turned-at e low =
      told-at (λ k. not (live_of m k)) (turned_in m changes v) (flags_of m v) e (omega (arith, low, flags-count m v))
      ∙ ap (λ (b : Bool). if is_in (turned_in m changes v) (edge e) then not (live_of m e) else b) (flag-at m v e)

  before-at : (e : ℕ) → e < length m.live → get_or (fold (with_former m) (flags_of m v) (turned_in m changes v)) e false ≡ bit_of (taken_back m changes) e v
  before-at e low =
      turned-at e low
      ∙ ap (λ (b : Bool). if b then not (live_of m e) else bit_of m e v) (among e)
      ∙ by-bools (rule_bit_of m e v) (is_in (changed_edges changes) (edge e)) (live_of m e)
      ∙ ap (λ (b : Bool). b && rule_bit_of m e v) (sym (live-before e low))

  pub former-flags : fold (with_former m) (flags_of m v) (turned_in m changes v) ≡ flags_of (taken_back m changes) v
  former-flags =
      let size = former-size m changes is in
      fill_by_all (λ e. bit_of (taken_back m changes) e v) (fold (with_former m) (flags_of m v) (turned_in m changes v)) (length (taken_back m changes).live) false
      (told-size (λ k. not (live_of m k)) (turned_in m changes v) (flags_of m v) ∙ flags-count m v ∙ sym size)
      (λ e low. before-at e (omega (arith, low, size)))

  edge-one : (x y : EdgeNo) → (y.0 == x.0) ≡ true → x ≡ y
  edge-one x y e = ap (λ (n : ℕ). edge n) (sym (eqb-true y.0 x.0 e))

  -- an edge whose flags differ is among them
  pub former-tells : (old new : List Bool) → old ≡ fold (with_former m) (flags_of m v) (turned_in m changes v) → new ≡ flags_of m v → TellsAll old new (turned_in m changes v)
  former-tells old new o n e low ne =
      let below : e < length m.live = omega (arith, low, ap (λ (bs : List Bool). length bs) o, told-size (λ k. not (live_of m k)) (turned_in m changes v) (flags_of m v), flags-count m v) in
      elim (cases_Bool (is_in (turned_in m changes v) (edge e))) [
        | inl there ↦ Contains-from_any {eq = λ x y. y.0 == x.0} edge-one (edge e) (turned_in m changes v) there
        | inr gone ↦ absurd (ne (ap (λ (bs : List Bool). get_or bs e false) o ∙ turned-at e below ∙ unless (is_in (turned_in m changes v) (edge e)) (not (live_of m e)) (bit_of m e v) gone ∙ sym (flag-at m v e) ∙ sym (ap (λ (bs : List Bool). get_or bs e false) n)))
      ]

  pub turned-within : All (λ e. e.0 < length m.live) (turned_in m changes v)
  turned-within = All-filter (λ e. rule_bit_of m e.0 v) (λ e. e.0 < length m.live) (changed_edges changes) (All-map (λ (e : EdgeNo). e.0 < length m.live) (λ (c : EdgeNo × Bool). c.0) changes is.within)

  -- where it turned none, the view has the edges that it had
  pub still : turned_in m changes v ≡ [] → edges_in (taken_back m changes) v ≡ edges_in m v
  still none =
      let flags : flags_of (taken_back m changes) v ≡ flags_of m v = sym former-flags ∙ ap (λ (es : List EdgeNo). fold (with_former m) (flags_of m v) es) none in
      ap (λ (n : ℕ). filter (λ (e : EdgeNo). bit_of (taken_back m changes) e.0 v) (map edge (range_with_len 0 n))) (former-size m changes is)
      ∙ filter_agree (λ (e : EdgeNo). bit_of (taken_back m changes) e.0 v) (λ (e : EdgeNo). bit_of m e.0 v)
      (λ e. sym (flag-at (taken_back m changes) v e.0) ∙ ap (λ (bs : List Bool). get_or bs e.0 false) flags ∙ flag-at m v e.0) (all_edges m)
