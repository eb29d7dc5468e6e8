-- Views of collections fit the graph, are at most 1,024 and have names of their own.
use Rattle.std.proofs.Common.{◌≡◌, ◌∙◌, ℕ, ℤ, pos, ◌*◌, ◌+ℤ◌, ◌<◌, ◌≤◌, true, false, List, []}
use Rattle.std.proofs.Common.{◌∷◌, ◌++◌, length}
use Rattle.std.proofs.Common.{map, refl, sym, subst, arith, length-append, Ok}
use Rattle.std.specs.Prelude.{Bool, ◌&&◌, ◌||◌, not, nat_lt, bytes_eq}
use Rattle.std.specs.List.{range_with_len, list_any, IsDistinct}
use Rattle.std.proofs.lemmas.Cmp.{nat_list_eq_equiv}
use Rattle.std.proofs.lemmas.List.{map-append}
use Rattle.std.proofs.lemmas.Map.Keys.{IsDistinct-push}
use Rattle.std.proofs.lemmas.List.Elements.{All-nil, All-push}
use Rattle.std.proofs.lemmas.Bool.Decides.{nat_tests}
use Rattle.graph_model.specs.GraphData.{GraphData, kind_at}
use Rattle.graph_model.specs.declared.cell.Column.{Column}
use Rattle.gvdl_tree.specs.declared.predicate.PredTree.{PredTree}
use Rattle.gvdl_tree.specs.declared.script.Item.{Item}
use Rattle.gvdl_tree.specs.declared.script.ItemBody.{ItemBody}
use Rattle.gvdl_tree.specs.declared.script.ItemBody.TheVariants as body
use Rattle.edge_predicates.specs.declared.pred.Cmp.TheVariants as checked
use Rattle.edge_predicates.specs.declared.pred.Place.TheVariants as place
use Rattle.edge_predicates.specs.declared.pred.Pred.{Pred}
use Rattle.edge_predicates.specs.declared.pred.Pred.TheVariants as pred
use Rattle.vertex_lang.specs.Leaves.{is_int, is_int_column}
use Rattle.gvdl_check.specs.declared.plan.ViewPlan.{ViewPlan}
use Rattle.gvdl_programs.specs.declared.refusal.Refusal.TheVariants as refusal
use Rattle.gvdl_programs.specs.Judging.{Judged, ◌>>=◌, expect, in_turn}
use Rattle.gvdl_programs.specs.Columns.{int_column}
use Rattle.gvdl_check.specs.Predicates.{predicate}
use Rattle.gvdl_check.specs.Views.{view_on, has_view, new_view, room, rule_added, is_window}
use Rattle.gvdl_check.specs.Views.{window_count, window_name}
use Rattle.gvdl_check.specs.Views.{window_rule, windowed, window_added, slid, windows_added}
use Rattle.gvdl_check.specs.Views.{body_added, item_added, items_added}
use Rattle.gvdl_check.specs.Fits.{place_fits, fits, RuleFits, ViewsFit}
use Rattle.gvdl_programs.specs.JudgingLaws.{through, same_value, expected}
use Rattle.gvdl_programs.specs.FitLaws.{int_found}
use Rattle.gvdl_check.specs.RuleLaws.{fits-and, fits-compare, two_fit, predicate_fits}

-- what each step keeps, all steps keep
pub turns_keep : {A B : Type 0} (f : B → A → Judged B) (P : B → Type 0) → ((b c : B) (a : A) → P b → f b a ≡ Ok c → P c)
    → (b c : B) (xs : List A) → P b → in_turn f b xs ≡ Ok c → P c
turns_keep f P keeps b c [] h e = subst P (same_value b c e) h
turns_keep f P keeps b c (x ∷ xs) h e =
    let t = through (f b x) (λ d. in_turn f d xs) c e in
    turns_keep f P keeps t.value c xs (keeps b t.value x h t.first) t.rest

has_room : (views : List ViewPlan) (u : Unit {0}) → room views ≡ Ok u → length views < 1_024
has_room views u e = let t = expected (nat_lt (length views) 1_024) refusal.TooManyViews u e in grind (arith, nat_tests)

is_new : (views : List ViewPlan) (name : List ℕ) (u : Unit {0}) → new_view views name ≡ Ok u → has_view views name ≡ false
is_new views name u e =
    negated (has_view views name) (expected (not (has_view views name)) refusal.RepeatedName u e) where
      negated : (b : Bool) → not b ≡ true → b ≡ false
      negated true h = absurd cc
      negated false h = refl

column_within : (columns : List Column) (column : ℕ) → is_int_column columns column ≡ true
    → nat_lt column (length columns) ≡ true
column_within columns column = first_of (nat_lt column (length columns)) (is_int (kind_at columns column)) where
  first_of : (a b : Bool) → (a && b) ≡ true → a ≡ true
  first_of true b e = refl
  first_of false b e = e

-- what one view more keeps, all items keep
module _ (g : GraphData) (base : List Pred) (P : List ViewPlan → Type 0)
    (more : (views : List ViewPlan) (name : List ℕ) (p : Pred) → P views → has_view views name ≡ false
    → length views < 1_024 → fits g p ≡ true → P (views ++ view_on base name p ∷ [])) where
  rule_keeps : (views next : List ViewPlan) (name : List ℕ) (tree : PredTree) → P views
      → rule_added g base views name tree ≡ Ok next → P next
  rule_keeps views next name tree h e =
      let last : Pred → Unit {0} → Judged (List ViewPlan) = λ p u. Ok (views ++ view_on base name p ∷ []) in
      let s = through (new_view views name) (λ _. predicate g tree >>= λ p. room views >>= last p) next e in
      let t = through (predicate g tree) (λ p. room views >>= last p) next s.rest in
      let u = through (room views) (last t.value) next t.rest in
      let new = is_new views name s.value s.first in
      let few = has_room views u.value u.first in
      subst P (same_value (views ++ view_on base name t.value ∷ []) next u.rest)
      (more views name t.value h new few (predicate_fits g tree t.value t.first))

  window_fits : (column : ℕ) (low : ℤ) (width : ℕ) → nat_lt column (length g.edge_columns) ≡ true
      → fits g (window_rule column low width) ≡ true
  window_fits column low width e =
      let here = place.Edge column in
      let high = place.Number (low +ℤ pos width) in
      let lower = pred.Compare here checked.Ge (place.Number low) in
      let upper = pred.Compare here checked.Lt high in
      let one : fits g lower ≡ true =
      fits-compare g here checked.Ge (place.Number low)
      ∙ two_fit (place_fits g) here (place.Number low ∷ []) e refl in
      let two : fits g upper ≡ true =
      fits-compare g here checked.Lt high ∙ two_fit (place_fits g) here (high ∷ []) e refl in
      fits-and g (lower ∷ upper ∷ [])
      ∙ two_fit (fits g) lower (upper ∷ []) one (two_fit (fits g) upper [] two refl)

  window_keeps : (name : List ℕ) (column : ℕ) (first : ℤ) (width step : ℕ)
      → nat_lt column (length g.edge_columns) ≡ true
      → (views next : List ViewPlan) (i : ℕ) → P views
      → window_added base name column first width step views i ≡ Ok next → P next
  window_keeps name column first width step within views next i h e =
      let low = first +ℤ pos (step * i) in
      let here = windowed base name column first width step i in
      let last : Unit {0} → Judged (List ViewPlan) = λ u. Ok (views ++ here ∷ []) in
      let s = through (new_view views (window_name name i)) (λ _. room views >>= last) next e in
      let u = through (room views) last next s.rest in
      let new = is_new views (window_name name i) s.value s.first in
      let few = has_room views u.value u.first in
      subst P (same_value (views ++ here ∷ []) next u.rest)
      (more views (window_name name i) (window_rule column low width) h new few (window_fits column low width within))

  windows_keep : (views next : List ViewPlan) (name property : List ℕ) (first last : ℤ) (width step : ℕ) → P views
      → windows_added g base views name property first last width step ≡ Ok next → P next
  windows_keep views next name property first last width step h e =
      let places = range_with_len 0 (window_count first last step) in
      let all : ℕ → Unit {0} → Judged (List ViewPlan) = λ column u. slid base name column first last width step views in
      let sound : Judged (Unit {0}) = expect (is_window first last width step) refusal.WrongArguments in
      let s = through (int_column g.edge_columns property) (λ column. sound >>= all column) next e in
      let t = through sound (all s.value) next s.rest in
      let within = column_within g.edge_columns s.value (int_found g.edge_columns property s.value s.first) in
      turns_keep (window_added base name s.value first width step) P (window_keeps name s.value first width step within)
      views next places h t.rest

  body_keeps : (views next : List ViewPlan) (name : List ℕ) (b : ItemBody) → P views
      → body_added g base views name b ≡ Ok next → P next
  body_keeps views next name (body.Rule tree) h e = rule_keeps views next name tree h e
  body_keeps views next name (body.Window property first last width step) h e =
      windows_keep views next name property first last width step h e

  items_keep : (items : List Item) (views next : List ViewPlan) → P views
      → items_added g base views items ≡ Ok next → P next
  items_keep items views next h e =
      turns_keep (item_added g base) P (λ b c item. body_keeps b c item.name item.body) views next items h e

-- ---- what the views of a collection keep

no_name : (views : List ViewPlan) (name : List ℕ) → has_view views name ≡ false
    → list_any (bytes_eq name) (map (λ (view : ViewPlan). view.name) views) ≡ false
no_name [] name h = refl
no_name (v ∷ more) name h = by (bytes_eq name v.name) (no_name more name) h where
  by : (b : Bool) → (has_view more name ≡ false → list_any (bytes_eq name) (map (λ (view : ViewPlan). view.name) more) ≡ false)
      → (b || has_view more name) ≡ false
      → (b || list_any (bytes_eq name) (map (λ (view : ViewPlan). view.name) more)) ≡ false
  by true later h = h
  by false later h = later h

pub none_fits : (g : GraphData) → ViewsFit g []
unfolding IsDistinct
none_fits g = record { few = omega arith; rules = All-nil (λ (view : ViewPlan). RuleFits g view.rule.rules); distinct = tt }

one_more : (g : GraphData) (base : List Pred) → RuleFits g base → (views : List ViewPlan) (name : List ℕ) (p : Pred)
    → ViewsFit g views → has_view views name ≡ false → length views < 1_024 → fits g p ≡ true
    → ViewsFit g (views ++ view_on base name p ∷ [])
one_more g base fit views name p h new few e =
    let n = length-append views (view_on base name p ∷ []) in
    let more : RuleFits g (base ++ p ∷ []) = All-push (λ (q : Pred). fits g q ≡ true) base p fit e in
    let named = map-append (λ (view : ViewPlan). view.name) views (view_on base name p ∷ []) in
    record {
      few = omega arith;
      rules = All-push (λ (view : ViewPlan). RuleFits g view.rule.rules) views (view_on base name p) h.rules more;
      distinct = subst (IsDistinct bytes_eq) (sym named)
          (IsDistinct-push nat_list_eq_equiv (map (λ (view : ViewPlan). view.name) views) name h.distinct (no_name views name new));
    }

-- views that fit still do with those of more items
pub views_fit : (g : GraphData) (base : List Pred) → RuleFits g base → (items : List Item) (views next : List ViewPlan)
    → ViewsFit g views → items_added g base views items ≡ Ok next → ViewsFit g next
views_fit g base fit items views next h e = items_keep g base (ViewsFit g) (one_more g base fit) items views next h e

-- no view is lost
pub views_grow : (g : GraphData) (base : List Pred) (items : List Item) (views next : List ViewPlan)
    → items_added g base views items ≡ Ok next → length views ≤ length next
views_grow g base items views next e = items_keep g base (λ vs. length views ≤ length vs) more items views next (omega arith) e where
  more : (vs : List ViewPlan) (name : List ℕ) (p : Pred) → length views ≤ length vs → has_view vs name ≡ false
      → length vs < 1_024 → fits g p ≡ true → length views ≤ length (vs ++ view_on base name p ∷ [])
  more vs name p h new few e =
      let n = length-append vs (view_on base name p ∷ []) in
      omega arith

-- there are never more than a collection holds
pub views_few : (g : GraphData) (base : List Pred) (items : List Item) (views next : List ViewPlan)
    → length views ≤ 1_024 → items_added g base views items ≡ Ok next → length next ≤ 1_024
views_few g base items views next h e = items_keep g base (λ vs. length vs ≤ 1_024) more items views next h e where
  more : (vs : List ViewPlan) (name : List ℕ) (p : Pred) → length vs ≤ 1_024 → has_view vs name ≡ false
      → length vs < 1_024 → fits g p ≡ true → length (vs ++ view_on base name p ∷ []) ≤ 1_024
  more vs name p h new few e =
      let n = length-append vs (view_on base name p ∷ []) in
      omega arith
