-- Views that follow one another.
use Rattle.std.proofs.Common.{◌≡◌, ◌∙◌, ◌+◌, ◌≤◌, ◌<◌, ◌-◌, ℕ, List, length, map, get_or, Some, sym, ap, subst, arith}
use Rattle.std.specs.Prelude.{All, slice_get}
use Rattle.std.specs.List.{range_with_len}
use Rattle.std.proofs.lemmas.List.FromFn.{get_or-map-range_with_len, length-map-range_with_len}
use Rattle.std.proofs.lemmas.Option.{slice_get_within, get_or_from_slice_get}
use Rattle.graph_model.specs.declared.number.ViewNo.{ViewNo}
use Rattle.graph_model.specs.GraphData.{AreDistinct}
use Rattle.view_matrix.specs.Matrices.{MatrixData, IsView}
use Rattle.view_order.specs.Places.{view}

abbrev pub between : ℕ → ℕ → List ViewNo
between first n = map view (range_with_len first n)

at_place : (first n i : ℕ) (x : ViewNo) → slice_get (between first n) i ≡ Some x → x.0 ≡ first + i
at_place first n i x at =
    let within : i < n = omega (arith, slice_get_within (between first n) i x at, length-map-range_with_len view first n) in
    ap (λ (v : ViewNo). v.0) (sym (get_or_from_slice_get (between first n) i x x at) ∙ get_or-map-range_with_len view first n i (first + i) x within (omega arith))

pub between_distinct : (first n : ℕ) → AreDistinct (between first n)
between_distinct first n i j x p q = omega (arith, at_place first n i x p, at_place first n j x q)

pub between_within : (m : MatrixData) (first n : ℕ) → first + n ≤ length m.columns → All (IsView m) (between first n)
between_within m first n few k d lt =
    let within : k < n = omega (arith, lt, length-map-range_with_len view first n) in
    subst (IsView m) (sym (get_or-map-range_with_len view first n k (first + k) d within (omega arith))) (omega arith)
