-- The columns that a judged predicate names are columns of the graph.
use Rattle.std.proofs.Common.{◌≡◌, ◌∙◌, ℕ, ◌+◌, ◌<◌, Bool, true, false, ◌&&◌, List, [], ◌∷◌, length}
use Rattle.std.proofs.Common.{map, suc, refl, sym, ap, subst, arith, if◌then◌else◌, slice_get, Some, Ok}
use Rattle.std.specs.Prelude.{bytes_eq, nat_lt}
use Rattle.std.specs.List.{list_all}
use Rattle.std.proofs.lemmas.Bool.Decides.{nat_tests}
use Rattle.graph_model.specs.GraphData.{GraphData}
use Rattle.graph_model.specs.declared.cell.Kind.{Kind}
use Rattle.graph_model.specs.declared.cell.Kind.TheVariants as kind
use Rattle.graph_model.specs.declared.cell.Column.{Column}
use Rattle.gvdl_tree.specs.declared.predicate.Cmp.{Cmp}
use Rattle.gvdl_tree.specs.declared.predicate.Field.{Field}
use Rattle.gvdl_tree.specs.declared.predicate.Field.TheVariants as field
use Rattle.gvdl_tree.specs.declared.predicate.Operand.{Operand}
use Rattle.gvdl_tree.specs.declared.predicate.Operand.TheVariants as operand
use Rattle.gvdl_tree.specs.declared.predicate.PredTree.{PredTree}
use Rattle.gvdl_tree.specs.declared.predicate.PredTree.TheOpen.{PredTree-F}
use Rattle.gvdl_tree.specs.declared.predicate.PredTree.TheViews.{roll-PredTree}
use Rattle.gvdl_tree.specs.declared.predicate.PredTree.TheFolds.{fold-roll-PredTree, map-PredTree}
use Rattle.gvdl_tree.specs.declared.predicate.PredTree.TheFolds.{ind-PredTree}
use Rattle.vertex_lang.specs.Leaves.{is_int}
use Rattle.edge_predicates.specs.declared.pred.Cmp.{Cmp as CheckedCmp}
use Rattle.edge_predicates.specs.declared.pred.Place.{Place}
use Rattle.edge_predicates.specs.declared.pred.Place.TheVariants as place
use Rattle.edge_predicates.specs.declared.pred.Pred.{Pred}
use Rattle.edge_predicates.specs.declared.pred.Pred.TheVariants as pred
use Rattle.edge_predicates.specs.declared.pred.Pred.TheVariants.{rolls-Or, rolls-And, rolls-Not}
use Rattle.edge_predicates.specs.declared.pred.Pred.TheVariants.{rolls-Constant, rolls-Compare}
use Rattle.edge_predicates.specs.declared.pred.Pred.TheVariants.{rolls-Missing}
use Rattle.edge_predicates.specs.declared.pred.Pred.TheOpen.{Pred-F}
use Rattle.edge_predicates.specs.declared.pred.Pred.TheFolds.{fold-roll-Pred}
use Rattle.gvdl_programs.specs.declared.refusal.Refusal.TheVariants as refusal
use Rattle.gvdl_programs.specs.Judging.{Judged, ◌>>=◌, expect, each}
use Rattle.gvdl_programs.specs.Columns.{column_from, column_of, int_column}
use Rattle.gvdl_check.specs.Predicates.{source_placed, target_placed, placed, compares, sign_of}
use Rattle.gvdl_check.specs.Predicates.{comparison, predicate, predicate_of}
use Rattle.gvdl_check.specs.Fits.{place_fits, fits, fits_of, SumFits}
use Rattle.gvdl_programs.specs.JudgingLaws.{through, same_value, expected}

-- ---- columns

column_within : (n : ℕ) (columns : List Column) (name : List ℕ) (r : ℕ × Kind) → column_from n columns name ≡ Ok r → r.0 < n + length columns
column_within n [] name r e = absurd cc
column_within n (column ∷ more) name r e = by (bytes_eq column.name name) (column_within (n + 1) more name r) e where
  by : (b : Bool) → (column_from (n + 1) more name ≡ Ok r → r.0 < n + 1 + length more) → (if b then Ok (n, column.kind) else column_from (n + 1) more name) ≡ Ok r → r.0 < n + length (column ∷ more)
  by true later e =
      let same : n ≡ r.0 = ap (λ (p : ℕ × Kind). p.0) (same_value (n, column.kind) r e) in
      omega arith
  by false later e =
      let there : r.0 < n + 1 + length more = later e in
      omega arith

pub column_found : (columns : List Column) (name : List ℕ) (r : ℕ × Kind) → column_of columns name ≡ Ok r → nat_lt r.0 (length columns) ≡ true
column_found columns name r e =
    let within : r.0 < 0 + length columns = column_within 0 columns name r e in
    grind (arith, nat_tests)

-- a column of whole numbers is one of them
kind_found : (n : ℕ) (columns : List Column) (name : List ℕ) (r : ℕ × Kind) → column_from n columns name ≡ Ok r → (i : ℕ) × (r.0 ≡ n + i) × (c : Column) × (slice_get columns i ≡ Some c) × (c.kind ≡ r.1)
kind_found n [] name r e = absurd cc
kind_found n (column ∷ more) name r e = by (bytes_eq column.name name) (kind_found (n + 1) more name r) e where
  by : (b : Bool) → (column_from (n + 1) more name ≡ Ok r → (i : ℕ) × (r.0 ≡ n + 1 + i) × (c : Column) × (slice_get more i ≡ Some c) × (c.kind ≡ r.1))
      → (if b then Ok (n, column.kind) else column_from (n + 1) more name) ≡ Ok r → (i : ℕ) × (r.0 ≡ n + i) × (c : Column) × (slice_get (column ∷ more) i ≡ Some c) × (c.kind ≡ r.1)
  by true later e =
      let same : (n, column.kind) ≡ r = same_value (n, column.kind) r e in
      (0, omega (arith, ap (λ (p : ℕ × Kind). p.0) same), column, refl, ap (λ (p : ℕ × Kind). p.1) same)
  by false later e =
      let there = later e in
      (suc there.0, omega (arith, there.1), there.2, there.3, there.4)

pub int_column_found : (g : GraphData) (name : List ℕ) (column : ℕ) → int_column g.edge_columns name ≡ Ok column → SumFits g (Some column)
int_column_found g name column e =
    let a = through (column_of g.edge_columns name) (λ found. expect (is_int found.1) refusal.WrongType >>= λ _. Ok found.0) column e in
    let b = through (expect (is_int a.value.1) refusal.WrongType) (λ _. Ok a.value.0) column a.rest in
    let f = kind_found 0 g.edge_columns name a.value a.first in
    let same : f.0 ≡ column = omega (arith, f.1, same_value a.value.0 column b.rest) in
    let numbers : is_int f.2.kind ≡ true = ap is_int f.4 ∙ expected (is_int a.value.1) refusal.WrongType b.value b.first in
    (f.2, ap (λ (i : ℕ). slice_get g.edge_columns i) (sym same) ∙ f.3, numbers)

module _ (g : GraphData) where
  source_fits : (f : Field) (at : Place × Kind) → source_placed g f ≡ Ok at → place_fits g at.0 ≡ true
  source_fits field.Id at e = ap (λ (p : Place × Kind). place_fits g p.0) (sym (same_value (place.SrcId, kind.Int) at e))
  source_fits (field.Prop property) at e =
      let t = through (column_of g.node_columns property) (λ column. Ok (place.Src column.0, column.1)) at e in
      ap (λ (p : Place × Kind). place_fits g p.0) (sym (same_value (place.Src t.value.0, t.value.1) at t.rest)) ∙ column_found g.node_columns property t.value t.first

  target_fits : (f : Field) (at : Place × Kind) → target_placed g f ≡ Ok at → place_fits g at.0 ≡ true
  target_fits field.Id at e = ap (λ (p : Place × Kind). place_fits g p.0) (sym (same_value (place.DstId, kind.Int) at e))
  target_fits (field.Prop property) at e =
      let t = through (column_of g.node_columns property) (λ column. Ok (place.Dst column.0, column.1)) at e in
      ap (λ (p : Place × Kind). place_fits g p.0) (sym (same_value (place.Dst t.value.0, t.value.1) at t.rest)) ∙ column_found g.node_columns property t.value t.first

  pub placed_fits : (a : Operand) (at : Place × Kind) → placed g a ≡ Ok at → place_fits g at.0 ≡ true
  placed_fits (operand.Number z) at e = ap (λ (p : Place × Kind). place_fits g p.0) (sym (same_value (place.Number z, kind.Int) at e))
  placed_fits (operand.Str text) at e = ap (λ (p : Place × Kind). place_fits g p.0) (sym (same_value (place.Str text, kind.Str) at e))
  placed_fits (operand.Bool b) at e = ap (λ (p : Place × Kind). place_fits g p.0) (sym (same_value (place.Bool b, kind.Bool) at e))
  placed_fits (operand.Src f) at e = source_fits f at e
  placed_fits (operand.Dst f) at e = target_fits f at e
  placed_fits (operand.Edge property) at e =
      let t = through (column_of g.edge_columns property) (λ column. Ok (place.Edge column.0, column.1)) at e in
      ap (λ (p : Place × Kind). place_fits g p.0) (sym (same_value (place.Edge t.value.0, t.value.1) at t.rest)) ∙ column_found g.edge_columns property t.value t.first

-- ---- the columns of a predicate, case by case

all_map : {X : Type 0} (f : X → Bool) (xs : List X) → list_all (λ b. b) (map f xs) ≡ list_all f xs
all_map f [] = refl
all_map f (x ∷ xs) = let e = all_map f xs in cc

pub fits-or : (g : GraphData) (ps : List Pred) → fits g (pred.Or ps) ≡ list_all (fits g) ps
unfolding fits
fits-or g ps = ap (λ (p : Pred). fits g p) (sym (rolls-Or ps)) ∙ fold-roll-Pred Bool (fits_of g) (Pred-F.Or ps) ∙ all_map (fits g) ps

pub fits-and : (g : GraphData) (ps : List Pred) → fits g (pred.And ps) ≡ list_all (fits g) ps
unfolding fits
fits-and g ps = ap (λ (p : Pred). fits g p) (sym (rolls-And ps)) ∙ fold-roll-Pred Bool (fits_of g) (Pred-F.And ps) ∙ all_map (fits g) ps

pub fits-not : (g : GraphData) (p : Pred) → fits g (pred.Not p) ≡ fits g p
unfolding fits
fits-not g p = ap (λ (p : Pred). fits g p) (sym (rolls-Not p)) ∙ fold-roll-Pred Bool (fits_of g) (Pred-F.Not p)

pub fits-constant : (g : GraphData) (b : Bool) → fits g (pred.Constant b) ≡ true
unfolding fits
fits-constant g b = ap (λ (p : Pred). fits g p) (sym (rolls-Constant b)) ∙ fold-roll-Pred Bool (fits_of g) (Pred-F.Constant b)

pub fits-compare : (g : GraphData) (a : Place) (sign : CheckedCmp) (b : Place) → fits g (pred.Compare a sign b) ≡ list_all (place_fits g) (a ∷ b ∷ [])
unfolding fits
fits-compare g a sign b = ap (λ (p : Pred). fits g p) (sym (rolls-Compare a sign b)) ∙ fold-roll-Pred Bool (fits_of g) (Pred-F.Compare a sign b)

pub fits-missing : (g : GraphData) (a : Place) → fits g (pred.Missing a) ≡ place_fits g a
unfolding fits
fits-missing g a = ap (λ (p : Pred). fits g p) (sym (rolls-Missing a)) ∙ fold-roll-Pred Bool (fits_of g) (Pred-F.Missing a)

-- ---- all that is judged

pub two_fit : {X : Type 0} (f : X → Bool) (x : X) (xs : List X) → f x ≡ true → list_all f xs ≡ true → list_all f (x ∷ xs) ≡ true
two_fit f x xs p q = ap (λ (b : Bool). b && list_all f xs) p ∙ q

module _ (g : GraphData) where
  abbrev Fitting : PredTree → Type 0
  Fitting t = (p : Pred) → predicate g t ≡ Ok p → fits g p ≡ true

  all_fit : (A : Type 0) (f : A → PredTree) → ((a : A) → Fitting (f a)) → (trees : List A) (ps : List Pred) → each (map (predicate g) (map f trees)) ≡ Ok ps → list_all (fits g) ps ≡ true
  all_fit A f h [] ps e = ap (list_all (fits g)) (sym (same_value [] ps e))
  all_fit A f h (tree ∷ more) ps e =
      let others = each (map (predicate g) (map f more)) in
      let t = through (predicate g (f tree)) (λ p. others >>= λ ps. Ok (p ∷ ps)) ps e in
      let u = through others (λ ps. Ok (t.value ∷ ps)) ps t.rest in
      ap (list_all (fits g)) (sym (same_value (t.value ∷ u.value) ps u.rest)) ∙ two_fit (fits g) t.value u.value (h tree t.value t.first) (all_fit A f h more u.value u.first)

  predicate_roll : (x : PredTree-F PredTree) → predicate g (roll-PredTree x) ≡ predicate_of g (map-PredTree PredTree (Judged Pred) (predicate g) x)
  unfolding predicate
  predicate_roll x = fold-roll-PredTree (Judged Pred) (predicate_of g) x

  comparison_fits : (a : Operand) (sign : Cmp) (b : Operand) (p : Pred) → comparison g a sign b ≡ Ok p → fits g p ≡ true
  comparison_fits a sign b p e =
      let last : Place × Kind → Place × Kind → Unit {0} → Judged Pred = λ x y u. Ok (pred.Compare x.0 (sign_of sign) y.0) in
      let t = through (placed g a) (λ x. placed g b >>= λ y. expect (compares x.1 sign y.1) refusal.WrongType >>= last x y) p e in
      let u = through (placed g b) (λ y. expect (compares t.value.1 sign y.1) refusal.WrongType >>= last t.value y) p t.rest in
      let w = through (expect (compares t.value.1 sign u.value.1) refusal.WrongType) (last t.value u.value) p u.rest in
      ap (fits g) (sym (same_value (pred.Compare t.value.0 (sign_of sign) u.value.0) p w.rest)) ∙ fits-compare g t.value.0 (sign_of sign) u.value.0
      ∙ two_fit (place_fits g) t.value.0 (u.value.0 ∷ []) (placed_fits g a t.value t.first) (two_fit (place_fits g) u.value.0 [] (placed_fits g b u.value u.first) refl)

  fitting_at : (A : Type 0) (f : A → PredTree) → ((a : A) → Fitting (f a)) → (y : PredTree-F A) → Fitting (roll-PredTree (map-PredTree A PredTree f y))
  fitting_at A f h (PredTree-F.Or trees) p e =
      let t = through (each (map (predicate g) (map f trees))) (λ ps. Ok (pred.Or ps)) p (sym (predicate_roll (PredTree-F.Or (map f trees))) ∙ e) in
      ap (fits g) (sym (same_value (pred.Or t.value) p t.rest)) ∙ fits-or g t.value ∙ all_fit A f h trees t.value t.first
  fitting_at A f h (PredTree-F.And trees) p e =
      let t = through (each (map (predicate g) (map f trees))) (λ ps. Ok (pred.And ps)) p (sym (predicate_roll (PredTree-F.And (map f trees))) ∙ e) in
      ap (fits g) (sym (same_value (pred.And t.value) p t.rest)) ∙ fits-and g t.value ∙ all_fit A f h trees t.value t.first
  fitting_at A f h (PredTree-F.Not tree) p e =
      let t = through (predicate g (f tree)) (λ q. Ok (pred.Not q)) p (sym (predicate_roll (PredTree-F.Not (f tree))) ∙ e) in
      ap (fits g) (sym (same_value (pred.Not t.value) p t.rest)) ∙ fits-not g t.value ∙ h tree t.value t.first
  fitting_at A f h (PredTree-F.Constant b) p e =
      ap (fits g) (sym (same_value (pred.Constant b) p (sym (predicate_roll (PredTree-F.Constant b)) ∙ e))) ∙ fits-constant g b
  fitting_at A f h (PredTree-F.Compare a sign b) p e = comparison_fits a sign b p (sym (predicate_roll (PredTree-F.Compare a sign b)) ∙ e)
  fitting_at A f h (PredTree-F.Missing a) p e =
      let t = through (placed g a) (λ at. Ok (pred.Missing at.0)) p (sym (predicate_roll (PredTree-F.Missing a)) ∙ e) in
      ap (fits g) (sym (same_value (pred.Missing t.value.0) p t.rest)) ∙ fits-missing g t.value.0 ∙ placed_fits g a t.value t.first

  pub predicate_fits : (tree : PredTree) → Fitting tree
  predicate_fits = ind-PredTree Fitting (λ x y e. subst (λ z. Fitting (roll-PredTree z)) e (fitting_at _ (λ t. t.0) (λ t. t.1) y))
