-- The views that the items of a collection make.
use Rattle.std.specs.Prelude.{ℕ, ℤ, pos, ◌+◌, ◌*◌, ◌/◌, ◌+ℤ◌, ◌-ℤ◌, int_le, unsigned_abs, ◌==◌}
use Rattle.std.specs.Prelude.{nat_lt}
use Rattle.std.specs.Prelude.{Bool, not, ◌&&◌, List, [], ◌∷◌, ◌++◌, length, Ok, bytes_eq, codes}
use Rattle.std.specs.List.{list_any, range_with_len}
use Rattle.std.specs.Fmt.{decimal}
use Rattle.graph_model.specs.GraphData.{GraphData}
use Rattle.gvdl_tree.specs.declared.predicate.PredTree.{PredTree}
use Rattle.gvdl_tree.specs.declared.script.Item.{Item}
use Rattle.gvdl_tree.specs.declared.script.ItemBody.{ItemBody}
use Rattle.gvdl_tree.specs.declared.script.ItemBody.TheVariants as body
use Rattle.edge_predicates.specs.declared.pred.Cmp.TheVariants as checked
use Rattle.edge_predicates.specs.declared.pred.Place.TheVariants as place
use Rattle.edge_predicates.specs.declared.pred.Pred.{Pred}
use Rattle.edge_predicates.specs.declared.pred.Pred.TheVariants as pred
use Rattle.gvdl_check.specs.declared.plan.ViewPlan.{ViewPlan}
use Rattle.gvdl_programs.specs.declared.refusal.Refusal.TheVariants as refusal
use Rattle.gvdl_programs.specs.Judging.{Judged, ◌>>=◌, ◌>>◌, expect, in_turn}
use Rattle.gvdl_programs.specs.Columns.{int_column}
use Rattle.gvdl_check.specs.Predicates.{predicate}

-- a view of a collection on a base with these predicates
abbrev pub view_on : List Pred → List ℕ → Pred → ViewPlan
view_on base name p = record { name = name; rule = record { rules = base ++ p ∷ [] } }

abbrev pub has_view : List ViewPlan → List ℕ → Bool
has_view views name = list_any (λ view. bytes_eq name view.name) views

-- no view of the collection has this name yet
abbrev pub new_view : List ViewPlan → List ℕ → Judged (Unit {0})
new_view views name = expect (not (has_view views name)) refusal.RepeatedName

-- a collection has at most 1,024 views
abbrev pub room : List ViewPlan → Judged (Unit {0})
room views = expect (nat_lt (length views) 1_024) refusal.TooManyViews

-- ---- a rule

abbrev pub rule_added : GraphData → List Pred → List ViewPlan → List ℕ → PredTree
    → Judged (List ViewPlan)
rule_added g base views name tree = do
  new_view views name
  p ← predicate g tree
  room views
  Ok (views ++ view_on base name p ∷ [])

-- ---- a window

-- 2^63 - 1, above which no number of a predicate is
abbrev pub greatest : ℤ
greatest = pos 9_223_372_036_854_775_807

abbrev pub is_window : (first last : ℤ) (width step : ℕ) → Bool
is_window first last width step =
    not (width == 0)
    && (not (step == 0) && (int_le first last && int_le (last +ℤ pos width) greatest))

-- how many of first, first + step, first + 2 step, .. are at most last
abbrev pub window_count : (first last : ℤ) (step : ℕ) → ℕ
window_count first last step = unsigned_abs (last -ℤ first) / step + 1

-- the name of the view with this place from 0: w-1, w-2, ..
abbrev pub window_name : List ℕ → ℕ → List ℕ
window_name name i = name ++ (codes "-" ++ decimal (i + 1))

-- low <= p and p < high, with p in this column of the edges
abbrev pub bounded : ℕ → (low high : ℤ) → Pred
bounded column low high = pred.And (
    pred.Compare (place.Edge column) checked.Ge (place.Number low)
    ∷ pred.Compare (place.Edge column) checked.Lt (place.Number high)
    ∷ [])

-- the predicate of a window that begins here
abbrev pub window_rule : ℕ → ℤ → ℕ → Pred
window_rule column low width = bounded column low (low +ℤ pos width)

-- the view of the window with this place from 0
abbrev pub windowed : List Pred → List ℕ → ℕ → ℤ → ℕ → ℕ → ℕ → ViewPlan
windowed base name column first width step i =
    view_on base (window_name name i) (window_rule column (first +ℤ pos (step * i)) width)

-- adds the view of the window with this place from 0
abbrev pub window_added : List Pred → List ℕ → ℕ → ℤ → ℕ → ℕ → List ViewPlan → ℕ
    → Judged (List ViewPlan)
window_added base name column first width step views i = do
  new_view views (window_name name i)
  room views
  Ok (views ++ windowed base name column first width step i ∷ [])

-- adds the view of each window, from the first on
abbrev pub slid : List Pred → List ℕ → ℕ → (first last : ℤ) (width step : ℕ) → List ViewPlan
    → Judged (List ViewPlan)
slid base name column first last width step views =
    in_turn (window_added base name column first width step) views
    (range_with_len 0 (window_count first last step))

abbrev pub windows_added : GraphData → List Pred → List ViewPlan → (name property : List ℕ)
    → (first last : ℤ) (width step : ℕ) → Judged (List ViewPlan)
windows_added g base views name property first last width step = do
  column ← int_column g.edge_columns property
  expect (is_window first last width step) refusal.WrongArguments
  slid base name column first last width step views

-- ---- items

abbrev pub body_added : GraphData → List Pred → List ViewPlan → List ℕ → ItemBody
    → Judged (List ViewPlan)
body_added g base views name (body.Rule tree) = rule_added g base views name tree
body_added g base views name (body.Window property first last width step) =
    windows_added g base views name property first last width step

abbrev pub item_added : GraphData → List Pred → List ViewPlan → Item → Judged (List ViewPlan)
item_added g base views item = body_added g base views item.name item.body

-- adds the views of the items, one item after the other
abbrev pub items_added : GraphData → List Pred → List ViewPlan → List Item → Judged (List ViewPlan)
items_added g base views items = in_turn (item_added g base) views items
