-- Bounds of numbers.
use Rattle.std.proofs.Common.{ℕ, Option, Some, None, IfSome, ◌≡◌, ◌∙◌, Bool, true, false, not, ◌&&◌, ◌||◌, if◌then◌else◌, refl, sym, ap, ap₂, arith}
use Rattle.std.specs.Prelude.{ℤ, ◌<ℤ◌, ◌≤ℤ◌, int_le, int_lt}
use Rattle.std.specs.declared.cmp.Ordering.{Ordering}
use Rattle.std.specs.Ordering.{int_cmp, ordering_reverse}
use Rattle.std.specs.Cmp.{int_cmp_total}
use Rattle.std.specs.Int.{int_max, int_min}
use Rattle.std.proofs.lemmas.Int.{ints}
use Rattle.graph_model.specs.GraphData.{GraphData, Cell, lowest_number}
use Rattle.edge_predicates.specs.declared.pred.Cmp.{Cmp}
use Rattle.edge_predicates.specs.Truth.{agrees, cells_compare, edge_place}
use Rattle.view_matrix.specs.declared.bounds.Bounds.{Bounds}
use Rattle.view_matrix.specs.Bounds.{admits, highest_number, lies_within, meets, meets_at}

le_yes : (a b : ℤ) → a ≤ℤ b → int_le a b ≡ true
le_yes a b h = grind (arith, ints)

le_means : (a b : ℤ) → int_le a b ≡ true → a ≤ℤ b
le_means a b h = grind (arith, ints)

-- ---- one bound, by the least and the greatest number

abbrev over : ℤ → ℤ → ℤ → Bool
over least low z = int_le low least || int_le low z

abbrev under : ℤ → ℤ → ℤ → Bool
under most high z = int_le most high || int_le z high

-- ---- two bounds at once

absorbed : (p q : Bool) → (p ≡ true → q ≡ true) → p ≡ (p && q)
absorbed true q h = sym (h refl)
absorbed false q h = refl

absorbed_by : (p q : Bool) → (q ≡ true → p ≡ true) → q ≡ (p && q)
absorbed_by p true h = sym (ap (λ (b : Bool). b && true) (h refl))
absorbed_by true false h = refl
absorbed_by false false h = refl

either : (p q : Bool) → (p || q) ≡ true → (x y : Bool) → (p ≡ true → x ≡ true) → (q ≡ true → y ≡ true) → (x || y) ≡ true
either true q e x y f g = ap (λ (b : Bool). b || y) (f refl)
either false q e true y f g = refl
either false q e false y f g = g e

over_less : (least a b z : ℤ) → b ≤ℤ a → over least a z ≡ true → over least b z ≡ true
over_less least a b z le e =
    either (int_le a least) (int_le a z) e (int_le b least) (int_le b z)
    (λ h. let k = le_means a least h in le_yes b least (omega (arith, ints)))
    (λ h. let k = le_means a z h in le_yes b z (omega (arith, ints)))

under_less : (most a b z : ℤ) → a ≤ℤ b → under most a z ≡ true → under most b z ≡ true
under_less most a b z le e =
    either (int_le most a) (int_le z a) e (int_le most b) (int_le z b)
    (λ h. let k = le_means most a h in le_yes most b (omega (arith, ints)))
    (λ h. let k = le_means z a h in le_yes z b (omega (arith, ints)))

lt_tells : (a b : ℤ) (t : Bool) → t ≡ int_lt a b → (t ≡ true → a <ℤ b) × (t ≡ false → b ≤ℤ a)
lt_tells a b true e = (λ _. grind (arith, ints), λ h. absurd cc)
lt_tells a b false e = (λ h. absurd cc, λ _. grind (arith, ints))

over_by : (least a b z : ℤ) (t : Bool) → t ≡ int_lt b a → over least (if t then a else b) z ≡ (over least a z && over least b z)
over_by least a b z true e = absorbed (over least a z) (over least b z) (over_less least a b z (let lt = (lt_tells b a true e).0 refl in omega (arith, ints)))
over_by least a b z false e = absorbed_by (over least a z) (over least b z) (over_less least b a z ((lt_tells b a false e).1 refl))

under_by : (most a b z : ℤ) (t : Bool) → t ≡ int_lt b a → under most (if t then b else a) z ≡ (under most a z && under most b z)
under_by most a b z true e = absorbed_by (under most a z) (under most b z) (under_less most b a z (let lt = (lt_tells b a true e).0 refl in omega (arith, ints)))
under_by most a b z false e = absorbed (under most a z) (under most b z) (under_less most a b z ((lt_tells b a false e).1 refl))

regrouped : (a b c d : Bool) → ((a && b) && (c && d)) ≡ ((a && c) && (b && d))
regrouped true b true d = refl
regrouped true true false d = refl
regrouped true false false d = refl
regrouped false b c d = refl

both_bounds : (least most low low_other high high_other z : ℤ)
    → (over least (int_max low low_other) z && under most (int_min high high_other) z) ≡ ((over least low z && under most high z) && (over least low_other z && under most high_other z))
both_bounds least most low low_other high high_other z =
    ap₂ (λ (a b : Bool). a && b) (over_by least low low_other z (int_lt low_other low) refl) (under_by most high high_other z (int_lt high_other high) refl)
    ∙ regrouped (over least low z) (over least low_other z) (under most high z) (under most high_other z)

inside_by : (b : Bounds) (z : ℤ) → b.inside ≡ true → admits b z ≡ lies_within b.low b.high z
inside_by b z is = ap (λ (i : Bool). if i then lies_within b.low b.high z else not (lies_within b.low b.high z)) is

module _ (b s o : Bounds) (low : b.low ≡ int_max s.low o.low) (high : b.high ≡ int_min s.high o.high) (ib : b.inside ≡ true) (is : s.inside ≡ true) (io : o.inside ≡ true) where
  both_admit : (z : ℤ) → admits b z ≡ (admits s z && admits o z)
  both_admit z =
      inside_by b z ib ∙ ap₂ (λ (l h : ℤ). lies_within l h z) low high
      ∙ both_bounds lowest_number highest_number s.low o.low s.high o.high z
      ∙ ap₂ (λ (p q : Bool). p && q) (sym (inside_by s z is)) (sym (inside_by o z io))

  pub both_meet : (c : Cell) → meets b c ≡ (meets s c && meets o c)
  both_meet (Cell.int z) = both_admit z
  both_meet Cell.absent = refl
  both_meet (Cell.str t) = refl
  both_meet (Cell.bool t) = refl

-- ---- the number on the left

left_meets : (b : Bounds) (n : ℤ) (sign turned : Cmp) → ((z : ℤ) → admits b z ≡ agrees turned (int_cmp z n)) → ((o : Ordering) → agrees turned o ≡ agrees sign (ordering_reverse o)) → (c : Cell) → meets b c ≡ cells_compare sign (Cell.int n) c
left_meets b n sign turned admits_is turned_is (Cell.int z) = admits_is z ∙ turned_is (int_cmp z n) ∙ ap (agrees sign) (sym (int_cmp_total.antisymm n z))
left_meets b n sign turned admits_is turned_is Cell.absent = refl
left_meets b n sign turned admits_is turned_is (Cell.str t) = refl
left_meets b n sign turned admits_is turned_is (Cell.bool t) = refl

pub left_bounds : (found : Option Bounds) (column : ℕ) (n : ℤ) (sign turned : Cmp) → IfSome found (λ b. b.column ≡ column) → IfSome found (λ b. (z : ℤ) → admits b z ≡ agrees turned (int_cmp z n))
    → ((o : Ordering) → agrees turned o ≡ agrees sign (ordering_reverse o)) → IfSome found (λ b. (g : GraphData) (e : ℕ) → meets_at g e b ≡ cells_compare sign (Cell.int n) (edge_place g e column))
left_bounds None column n sign turned at means turned_is = tt
left_bounds (Some b) column n sign turned at means turned_is = λ g e. ap (λ (k : ℕ). meets b (edge_place g e k)) at ∙ left_meets b n sign turned means turned_is (edge_place g e column)
