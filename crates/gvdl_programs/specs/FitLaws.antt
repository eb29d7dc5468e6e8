-- What is judged fits the graph: each part names only what it may name, each property is a column of whole numbers, and no
-- number is -(2^63).
use Rattle.std.proofs.Common.{◌≡◌, ◌≢◌, ◌∙◌, ℕ, ℤ, suc, ◌+◌, ◌<◌, Bool, true, false, ◌&&◌, List, [], ◌∷◌, length, map, pos, negsuc, cond, refl, sym, ap, subst, arith, if◌then◌else◌, Ok}
use Rattle.std.specs.Prelude.{bytes_eq, nat_lt, not, int_lt}
use Rattle.std.specs.Ordering.{int_eq}
use Rattle.std.specs.List.{list_all}
use Rattle.std.proofs.lemmas.Bool.{cond_both, true≢false, false≢true, false_from_ne_true}
use Rattle.std.proofs.lemmas.Bool.Decides.{nat_tests, Decides-int_eq}
use Rattle.std.proofs.lemmas.Simd.{map-map}
use Rattle.graph_model.specs.GraphData.{GraphData, kind_at}
use Rattle.graph_model.specs.declared.cell.Kind.{Kind}
use Rattle.graph_model.specs.declared.cell.Column.{Column}
use Rattle.gvdl_tree.specs.declared.expression.ExprTree.{ExprTree}
use Rattle.gvdl_tree.specs.declared.expression.ExprTree.TheOpen.{ExprTree-F, Test-F}
use Rattle.gvdl_tree.specs.declared.expression.ExprTree.TheViews.{roll-ExprTree, roll-Test}
use Rattle.gvdl_tree.specs.declared.expression.ExprTree.TheFolds.{fold-roll-ExprTree, fold-roll-Test, map-ExprTree, map-Test, ind-ExprTree}
use Rattle.gvdl_tree.specs.declared.expression.Test.{Test}
use Rattle.gvdl_tree.specs.declared.expression.Word.{Word}
use Rattle.gvdl_tree.specs.declared.expression.Word.TheVariants as word
use Rattle.vertex_lang.specs.declared.program.Cmp.{Cmp}
use Rattle.vertex_lang.specs.Values.{clamped, greatest, least, lowest_number}
use Rattle.vertex_lang.specs.Leaves.{Leaf, is_int, is_int_column}
use Rattle.gvdl_programs.specs.declared.refusal.Refusal.TheVariants as refusal
use Rattle.gvdl_programs.specs.declared.template.ExprTemplate.{ExprTemplate}
use Rattle.gvdl_programs.specs.declared.template.ExprTemplate.TheVariants as template
use Rattle.gvdl_programs.specs.declared.template.ExprTemplate.TheVariants.{rolls-If, rolls-Else, rolls-Sum, rolls-Product, rolls-Minus, rolls-Number, rolls-Nil, rolls-Word, rolls-EdgeProp, rolls-NodeProp, rolls-Param, rolls-Least, rolls-Most}
use Rattle.gvdl_programs.specs.declared.template.CheckTemplate.{CheckTemplate}
use Rattle.gvdl_programs.specs.declared.template.CheckTemplate.TheVariants as check_template
use Rattle.gvdl_programs.specs.declared.template.CheckTemplate.TheVariants.{rolls-Compare, rolls-IsNil}
use Rattle.gvdl_programs.specs.declared.template.CheckTemplate.TheOpen.{ExprTemplate-F, CheckTemplate-F}
use Rattle.gvdl_programs.specs.declared.template.CheckTemplate.TheViews.{roll-ExprTemplate, roll-CheckTemplate}
use Rattle.gvdl_programs.specs.declared.template.CheckTemplate.TheFolds.{fold-roll-ExprTemplate, fold-roll-CheckTemplate, map-ExprTemplate, map-CheckTemplate}
use Rattle.gvdl_programs.specs.declared.expression.Part.{Part}
use Rattle.gvdl_programs.specs.declared.expression.Part.TheVariants as part
use Rattle.gvdl_programs.specs.Judging.{Judged, ◌>>=◌, ◌>>◌, expect, each}
use Rattle.gvdl_programs.specs.JudgingLaws.{through, same_value, expected}
use Rattle.gvdl_programs.specs.Columns.{column_from, column_of, int_column}
use Rattle.gvdl_programs.specs.Expressions.{Places, allows_word, allows_node, allows_edge, parameter_of, signed, sign_of, check_judged, expression_judged, expression, test}
use Rattle.gvdl_programs.specs.Fits.{word_leaf, in_part, not_lowest, fits, fits_check, check_fits, expression_fits}

pub both : (a b : Bool) → a ≡ true → b ≡ true → (a && b) ≡ true
both a b h k = ap (λ (x : Bool). x && b) h ∙ k

-- ---- columns

-- the column is one of these, of which the first has place n
record FoundFrom (n : ℕ) (columns : List Column) (r : ℕ × Kind) : Type 0 where
  place : ℕ
  at : r.0 ≡ n + place
  within : place < length columns
  kind : kind_at columns place ≡ r.1

found : (n : ℕ) (columns : List Column) (name : List ℕ) (r : ℕ × Kind) → column_from n columns name ≡ Ok r → FoundFrom n columns r
found n [] name r e = absurd cc
found n (column ∷ more) name r e = by (bytes_eq column.name name) (found (n + 1) more name r) e where
  by : (b : Bool) → (column_from (n + 1) more name ≡ Ok r → FoundFrom (n + 1) more r) → (if b then Ok (n, column.kind) else column_from (n + 1) more name) ≡ Ok r → FoundFrom n (column ∷ more) r
  by true later e =
      let same = same_value (n, column.kind) r e in
      let first : n ≡ r.0 = ap (λ (p : ℕ × Kind). p.0) same in
      record { place = 0; at = omega arith; within = omega arith; kind = ap (λ (p : ℕ × Kind). p.1) same }
  by false later e =
      let there = later e in
      let at : r.0 ≡ n + 1 + there.place = there.at in
      let within : there.place < length more = there.within in
      record { place = suc there.place; at = omega arith; within = omega arith; kind = there.kind }

pub int_found : (columns : List Column) (name : List ℕ) (column : ℕ) → int_column columns name ≡ Ok column → is_int_column columns column ≡ true
int_found columns name column e =
    let t = through (column_of columns name) (λ (r : ℕ × Kind). expect (is_int r.1) refusal.WrongType >> Ok r.0) column e in
    let u = through (expect (is_int t.value.1) refusal.WrongType) (λ _. Ok t.value.0) column t.rest in
    let there = found 0 columns name t.value t.first in
    let last : t.value.0 ≡ column = same_value t.value.0 column u.rest in
    let at : t.value.0 ≡ 0 + there.place = there.at in
    let place : there.place ≡ column = omega arith in
    let within : there.place < length columns = there.within in
    let low : nat_lt there.place (length columns) ≡ true = grind (arith, nat_tests) in
    subst (λ (n : ℕ). is_int_column columns n ≡ true) place (both (nat_lt there.place (length columns)) (is_int (kind_at columns there.place)) low (ap is_int there.kind ∙ expected (is_int t.value.1) refusal.WrongType u.value u.first))

-- ---- what a part may hold

-- whatever a part of a program may name, with the numbers that a script may write, is allowed
pub record Allows (g : GraphData) (p : Part) (q : Leaf → Bool) : Type 0 where
  pub word : (w : Word) → allows_word p w ≡ true → q (word_leaf w) ≡ true
  pub edge : (column : ℕ) → allows_edge p ≡ true → is_int_column g.edge_columns column ≡ true → q (Leaf.edge_property column) ≡ true
  pub node : (column : ℕ) → allows_node p ≡ true → is_int_column g.node_columns column ≡ true → q (Leaf.node_property column) ≡ true
  pub number : (n : ℕ) → q (Leaf.number (clamped (pos n))) ≡ true

word_in_part : (g : GraphData) (p : Part) (w : Word) → in_part g p (word_leaf w) ≡ allows_word p w
word_in_part g part.Start word.Id = refl
word_in_part g part.Start word.Start = refl
word_in_part g part.Start word.Value = refl
word_in_part g part.Start word.Gathered = refl
word_in_part g part.Start word.Count = refl
word_in_part g part.Start word.Outdeg = refl
word_in_part g part.Send word.Id = refl
word_in_part g part.Send word.Start = refl
word_in_part g part.Send word.Value = refl
word_in_part g part.Send word.Gathered = refl
word_in_part g part.Send word.Count = refl
word_in_part g part.Send word.Outdeg = refl
word_in_part g part.Update word.Id = refl
word_in_part g part.Update word.Start = refl
word_in_part g part.Update word.Value = refl
word_in_part g part.Update word.Gathered = refl
word_in_part g part.Update word.Count = refl
word_in_part g part.Update word.Outdeg = refl

edge_in_part : (g : GraphData) (p : Part) (column : ℕ) → allows_edge p ≡ true → is_int_column g.edge_columns column ≡ true → in_part g p (Leaf.edge_property column) ≡ true
edge_in_part g part.Start column h k = absurd cc
edge_in_part g part.Send column h k = k
edge_in_part g part.Update column h k = absurd cc

node_in_part : (g : GraphData) (p : Part) (column : ℕ) → allows_node p ≡ true → is_int_column g.node_columns column ≡ true → in_part g p (Leaf.node_property column) ≡ true
node_in_part g part.Start column h k = k
node_in_part g part.Send column h k = absurd cc
node_in_part g part.Update column h k = absurd cc

pub number_in_part : (g : GraphData) (p : Part) (z : ℤ) → in_part g p (Leaf.number z) ≡ true
number_in_part g part.Start z = refl
number_in_part g part.Send z = refl
number_in_part g part.Update z = refl

pub part_allows : (g : GraphData) (p : Part) → Allows g p (in_part g p)
part_allows g p = record {
  word = λ w h. word_in_part g p w ∙ h;
  edge = edge_in_part g p;
  node = node_in_part g p;
  number = λ n. number_in_part g p (clamped (pos n));
}

-- ---- numbers

-- a number other than -(2^63)
pub other_number : (z : ℤ) → z ≢ lowest_number → not_lowest (Leaf.number z) ≡ true
other_number z other = ap not (false_from_ne_true (int_eq z lowest_number) (λ e. other ((Decides-int_eq z lowest_number).0 e)))

abbrev is_pos : ℤ → Bool
is_pos (pos n) = true
is_pos (negsuc n) = false

pub pos_other : (n : ℕ) → pos n ≢ lowest_number
pos_other n e = true≢false (ap is_pos e)

least_other : least ≢ lowest_number
least_other e = false≢true (ap (λ (n : ℤ). int_lt n least) e)

-- what was brought into the range is another number
clamped_other : (z : ℤ) → clamped z ≢ lowest_number
clamped_other z = cond_both (int_lt greatest z) greatest (cond (int_lt z least) least z) (λ n. n ≢ lowest_number) (λ t. pos_other _) (λ t. cond_both (int_lt z least) least z (λ n. n ≢ lowest_number) (λ u e. least_other e) (λ u e. false≢true (sym u ∙ ap (λ (n : ℤ). int_lt n least) e)))

word_is_no_number : (w : Word) → not_lowest (word_leaf w) ≡ true
word_is_no_number word.Id = refl
word_is_no_number word.Start = refl
word_is_no_number word.Value = refl
word_is_no_number word.Gathered = refl
word_is_no_number word.Count = refl
word_is_no_number word.Outdeg = refl

pub numbers_allowed : (g : GraphData) (p : Part) → Allows g p not_lowest
numbers_allowed g p = record {
  word = λ w h. word_is_no_number w;
  edge = λ column h k. refl;
  node = λ column h k. refl;
  number = λ n. other_number (clamped (pos n)) (clamped_other (pos n));
}

-- ---- what fits, case by case

module _ (q : Leaf → Bool) where
  pub fits_rolls : (t : ExprTemplate) (x : ExprTemplate-F CheckTemplate ExprTemplate) → roll-ExprTemplate x ≡ t → fits q t ≡ expression_fits q (map-ExprTemplate CheckTemplate ExprTemplate Bool Bool (fits_check q) (fits q) x)
  unfolding fits fits_check
  fits_rolls t x r = ap (fits q) (sym r) ∙ fold-roll-ExprTemplate Bool Bool check_fits (expression_fits q) x

  pub check_fits_rolls : (t : CheckTemplate) (x : CheckTemplate-F CheckTemplate ExprTemplate) → roll-CheckTemplate x ≡ t → fits_check q t ≡ check_fits (map-CheckTemplate CheckTemplate ExprTemplate Bool Bool (fits_check q) (fits q) x)
  unfolding fits fits_check
  check_fits_rolls t x r = ap (fits_check q) (sym r) ∙ fold-roll-CheckTemplate Bool Bool check_fits (expression_fits q) x

-- ---- all that is judged

module _ {A Y R : Type 0} (judge : A → Judged Y) (good : Y → R) (last : R → Bool) (h : (a : A) (y : Y) → judge a ≡ Ok y → last (good y) ≡ true) where
  each_good : (xs : List A) (ys : List Y) → each (map judge xs) ≡ Ok ys → list_all last (map good ys) ≡ true
  each_good [] ys e = ap (λ (l : List Y). list_all last (map good l)) (sym (same_value [] ys e))
  each_good (x ∷ xs) ys e =
      let others = each (map judge xs) in
      let t = through (judge x) (λ y. others >>= λ more. Ok (y ∷ more)) ys e in
      let u = through others (λ more. Ok (t.value ∷ more)) ys t.rest in
      ap (λ (l : List Y). list_all last (map good l)) (sym (same_value (t.value ∷ u.value) ys u.rest)) ∙ both (last (good t.value)) (list_all last (map good u.value)) (h x t.value t.first) (each_good xs u.value u.first)

module _ (g : GraphData) (p : Part) (ps : Places) (q : Leaf → Bool) (allowed : Allows g p q) where
  abbrev said : ExprTree → Judged ExprTemplate
  said t = expression g p ps t

  abbrev Fitting : ExprTree → Type 0
  Fitting t = (made : ExprTemplate) → said t ≡ Ok made → fits q made ≡ true

  abbrev TestFitting : Test → Type 0
  TestFitting t = (made : CheckTemplate) → test g p ps t ≡ Ok made → fits_check q made ≡ true

  expression_roll : (x : ExprTree-F ExprTree Test) → said (roll-ExprTree x) ≡ expression_judged g p ps (map-ExprTree ExprTree Test (Judged ExprTemplate) (Judged CheckTemplate) (expression g p ps) (test g p ps) x)
  unfolding expression test
  expression_roll x = fold-roll-ExprTree (Judged ExprTemplate) (Judged CheckTemplate) (expression_judged g p ps) check_judged x

  test_roll : (x : Test-F ExprTree Test) → test g p ps (roll-Test x) ≡ check_judged (map-Test ExprTree Test (Judged ExprTemplate) (Judged CheckTemplate) (expression g p ps) (test g p ps) x)
  unfolding expression test
  test_roll x = fold-roll-Test (Judged ExprTemplate) (Judged CheckTemplate) (expression_judged g p ps) check_judged x

  two_fit : (a b : ExprTree) (make : ExprTemplate → ExprTemplate → ExprTemplate) → ((x y : ExprTemplate) → fits q (make x y) ≡ (fits q x && fits q y)) → Fitting a → Fitting b
      → (made : ExprTemplate) → (said a >>= λ x. said b >>= λ y. Ok (make x y)) ≡ Ok made → fits q made ≡ true
  two_fit a b make is ha hb made e =
      let t = through (said a) (λ x. said b >>= λ y. Ok (make x y)) made e in
      let u = through (said b) (λ y. Ok (make t.value y)) made t.rest in
      ap (fits q) (sym (same_value (make t.value u.value) made u.rest)) ∙ is t.value u.value ∙ both (fits q t.value) (fits q u.value) (ha t.value t.first) (hb u.value u.first)

  -- a chain's first member and the others
  chain_fits : (A : Type 0) (f : A → ExprTree) → ((a : A) → Fitting (f a)) → (make : ExprTemplate → List (Bool × ExprTemplate) → ExprTemplate)
      → ((x : ExprTemplate) (ms : List (Bool × ExprTemplate)) → fits q (make x ms) ≡ (fits q x && list_all (λ (r : Bool × Bool). r.1) (map (λ (m : Bool × ExprTemplate). (m.0, fits q m.1)) ms)))
      → (a : A) (rest : List (Bool × A)) (made : ExprTemplate) → (said (f a) >>= λ x. each (map signed (map (λ (m : Bool × ExprTree). (m.0, said m.1)) (map (λ (m : Bool × A). (m.0, f m.1)) rest))) >>= λ ms. Ok (make x ms)) ≡ Ok made → fits q made ≡ true
  chain_fits A f hf make is a rest made e =
      let others = each (map signed (map (λ (m : Bool × ExprTree). (m.0, said m.1)) (map (λ (m : Bool × A). (m.0, f m.1)) rest))) in
      let t = through (said (f a)) (λ x. others >>= λ ms. Ok (make x ms)) made e in
      let u = through others (λ ms. Ok (make t.value ms)) made t.rest in
      let judge : Bool × A → Judged (Bool × ExprTemplate) = λ m. signed (m.0, said (f m.1)) in
      let one : (m : Bool × A) (y : Bool × ExprTemplate) → judge m ≡ Ok y → fits q y.1 ≡ true = λ m y h.
      let w = through (said (f m.1)) (λ x. Ok (m.0, x)) y h in
      ap (λ (z : Bool × ExprTemplate). fits q z.1) (sym (same_value (m.0, w.value) y w.rest)) ∙ hf m.1 w.value w.first in
      let same : others ≡ each (map judge rest) = ap each (map-map signed (λ (m : Bool × ExprTree). (m.0, said m.1)) (map (λ (m : Bool × A). (m.0, f m.1)) rest) ∙ map-map (λ (m : Bool × ExprTree). signed (m.0, said m.1)) (λ (m : Bool × A). (m.0, f m.1)) rest) in
      ap (fits q) (sym (same_value (make t.value u.value) made u.rest)) ∙ is t.value u.value
      ∙ both (fits q t.value) (list_all (λ (r : Bool × Bool). r.1) (map (λ (m : Bool × ExprTemplate). (m.0, fits q m.1)) u.value)) (hf a t.value t.first)
      (each_good judge (λ (m : Bool × ExprTemplate). (m.0, fits q m.1)) (λ (r : Bool × Bool). r.1) one rest u.value (sym same ∙ u.first))

  fitting_at : (A B : Type 0) (f : A → ExprTree) (k : B → Test) → ((a : A) → Fitting (f a)) → ((b : B) → TestFitting (k b)) → (y : ExprTree-F A B) → Fitting (roll-ExprTree (map-ExprTree A B ExprTree Test f k y))
  fitting_at A B f k hf hk (ExprTree-F.If tests a b) made e =
      let t = through (each (map (test g p ps) (map k tests))) (λ cs. said (f a) >>= λ x. said (f b) >>= λ y. Ok (template.If cs x y)) made (sym (expression_roll (ExprTree-F.If (map k tests) (f a) (f b))) ∙ e) in
      let u = through (said (f a)) (λ x. said (f b) >>= λ y. Ok (template.If t.value x y)) made t.rest in
      let v = through (said (f b)) (λ y. Ok (template.If t.value u.value y)) made u.rest in
      let checks = each_good (λ (b : B). test g p ps (k b)) (fits_check q) (λ (b : Bool). b) hk tests t.value (sym (ap each (map-map (test g p ps) k tests)) ∙ t.first) in
      ap (fits q) (sym (same_value (template.If t.value u.value v.value) made v.rest)) ∙ fits_rolls q _ (ExprTemplate-F.If t.value u.value v.value) (rolls-If t.value u.value v.value)
      ∙ both (list_all (λ (b : Bool). b) (map (fits_check q) t.value)) (fits q u.value && fits q v.value) checks (both (fits q u.value) (fits q v.value) (hf a u.value u.first) (hf b v.value v.first))
  fitting_at A B f k hf hk (ExprTree-F.Else members) made e =
      let t = through (each (map (expression g p ps) (map f members))) (λ ms. Ok (template.Else ms)) made (sym (expression_roll (ExprTree-F.Else (map f members))) ∙ e) in
      ap (fits q) (sym (same_value (template.Else t.value) made t.rest)) ∙ fits_rolls q _ (ExprTemplate-F.Else t.value) (rolls-Else t.value)
      ∙ each_good (λ (a : A). said (f a)) (fits q) (λ (b : Bool). b) hf members t.value (sym (ap each (map-map (expression g p ps) f members)) ∙ t.first)
  fitting_at A B f k hf hk (ExprTree-F.Sum a rest) made e =
      chain_fits A f hf (λ x ms. template.Sum x ms) (λ x ms. fits_rolls q _ (ExprTemplate-F.Sum x ms) (rolls-Sum x ms)) a rest made (sym (expression_roll (ExprTree-F.Sum (f a) (map (λ m. (m.0, f m.1)) rest))) ∙ e)
  fitting_at A B f k hf hk (ExprTree-F.Product a rest) made e =
      chain_fits A f hf (λ x ms. template.Product x ms) (λ x ms. fits_rolls q _ (ExprTemplate-F.Product x ms) (rolls-Product x ms)) a rest made (sym (expression_roll (ExprTree-F.Product (f a) (map (λ m. (m.0, f m.1)) rest))) ∙ e)
  fitting_at A B f k hf hk (ExprTree-F.Minus a) made e =
      let t = through (said (f a)) (λ x. Ok (template.Minus x)) made (sym (expression_roll (ExprTree-F.Minus (f a))) ∙ e) in
      ap (fits q) (sym (same_value (template.Minus t.value) made t.rest)) ∙ fits_rolls q _ (ExprTemplate-F.Minus t.value) (rolls-Minus t.value) ∙ hf a t.value t.first
  fitting_at A B f k hf hk (ExprTree-F.Number n) made e =
      ap (fits q) (sym (same_value (template.Number (clamped (pos n))) made (sym (expression_roll (ExprTree-F.Number n)) ∙ e))) ∙ fits_rolls q _ (ExprTemplate-F.Number (clamped (pos n))) (rolls-Number (clamped (pos n))) ∙ allowed.number n
  fitting_at A B f k hf hk ExprTree-F.Nil made e =
      ap (fits q) (sym (same_value template.Nil made (sym (expression_roll ExprTree-F.Nil) ∙ e))) ∙ fits_rolls q _ ExprTemplate-F.Nil rolls-Nil
  fitting_at A B f k hf hk (ExprTree-F.Word w) made e =
      let t = through (expect (allows_word p w) refusal.UnknownName) (λ _. Ok (template.Word w)) made (sym (expression_roll (ExprTree-F.Word w)) ∙ e) in
      ap (fits q) (sym (same_value (template.Word w) made t.rest)) ∙ fits_rolls q _ (ExprTemplate-F.Word w) (rolls-Word w) ∙ allowed.word w (expected (allows_word p w) refusal.UnknownName t.value t.first)
  fitting_at A B f k hf hk (ExprTree-F.EdgeProp name) made e =
      let t = through (expect (allows_edge p) refusal.UnknownName) (λ _. int_column g.edge_columns name >>= λ c. Ok (template.EdgeProp c)) made (sym (expression_roll (ExprTree-F.EdgeProp name)) ∙ e) in
      let u = through (int_column g.edge_columns name) (λ c. Ok (template.EdgeProp c)) made t.rest in
      ap (fits q) (sym (same_value (template.EdgeProp u.value) made u.rest)) ∙ fits_rolls q _ (ExprTemplate-F.EdgeProp u.value) (rolls-EdgeProp u.value)
      ∙ allowed.edge u.value (expected (allows_edge p) refusal.UnknownName t.value t.first) (int_found g.edge_columns name u.value u.first)
  fitting_at A B f k hf hk (ExprTree-F.NodeProp name) made e =
      let t = through (expect (allows_node p) refusal.UnknownName) (λ _. int_column g.node_columns name >>= λ c. Ok (template.NodeProp c)) made (sym (expression_roll (ExprTree-F.NodeProp name)) ∙ e) in
      let u = through (int_column g.node_columns name) (λ c. Ok (template.NodeProp c)) made t.rest in
      ap (fits q) (sym (same_value (template.NodeProp u.value) made u.rest)) ∙ fits_rolls q _ (ExprTemplate-F.NodeProp u.value) (rolls-NodeProp u.value)
      ∙ allowed.node u.value (expected (allows_node p) refusal.UnknownName t.value t.first) (int_found g.node_columns name u.value u.first)
  fitting_at A B f k hf hk (ExprTree-F.Param name) made e =
      let t = through (parameter_of ps name) (λ n. Ok (template.Param n)) made (sym (expression_roll (ExprTree-F.Param name)) ∙ e) in
      ap (fits q) (sym (same_value (template.Param t.value) made t.rest)) ∙ fits_rolls q _ (ExprTemplate-F.Param t.value) (rolls-Param t.value)
  fitting_at A B f k hf hk (ExprTree-F.Least a b) made e =
      two_fit (f a) (f b) (λ x y. template.Least x y) (λ x y. fits_rolls q _ (ExprTemplate-F.Least x y) (rolls-Least x y)) (hf a) (hf b) made (sym (expression_roll (ExprTree-F.Least (f a) (f b))) ∙ e)
  fitting_at A B f k hf hk (ExprTree-F.Most a b) made e =
      two_fit (f a) (f b) (λ x y. template.Most x y) (λ x y. fits_rolls q _ (ExprTemplate-F.Most x y) (rolls-Most x y)) (hf a) (hf b) made (sym (expression_roll (ExprTree-F.Most (f a) (f b))) ∙ e)

  test_fitting_at : (A B : Type 0) (f : A → ExprTree) (k : B → Test) → ((a : A) → Fitting (f a)) → (y : Test-F A B) → TestFitting (roll-Test (map-Test A B ExprTree Test f k y))
  test_fitting_at A B f k hf (Test-F.Compare a sign b) made e =
      let s : Cmp = sign_of sign in
      let t = through (said (f a)) (λ x. said (f b) >>= λ y. Ok (check_template.Compare x s y)) made (sym (test_roll (Test-F.Compare (f a) sign (f b))) ∙ e) in
      let u = through (said (f b)) (λ y. Ok (check_template.Compare t.value s y)) made t.rest in
      ap (fits_check q) (sym (same_value (check_template.Compare t.value s u.value) made u.rest)) ∙ check_fits_rolls q _ (CheckTemplate-F.Compare t.value s u.value) (rolls-Compare t.value s u.value)
      ∙ both (fits q t.value) (fits q u.value) (hf a t.value t.first) (hf b u.value u.first)
  test_fitting_at A B f k hf (Test-F.IsNil a) made e =
      let t = through (said (f a)) (λ x. Ok (check_template.IsNil x)) made (sym (test_roll (Test-F.IsNil (f a))) ∙ e) in
      ap (fits_check q) (sym (same_value (check_template.IsNil t.value) made t.rest)) ∙ check_fits_rolls q _ (CheckTemplate-F.IsNil t.value) (rolls-IsNil t.value) ∙ hf a t.value t.first

  pub expression_fits_so : (t : ExprTree) → Fitting t
  expression_fits_so = ind-ExprTree Fitting TestFitting
      (λ x y e. subst (λ z. Fitting (roll-ExprTree z)) e (fitting_at _ _ (λ t. t.0) (λ t. t.0) (λ t. t.1) (λ t. t.1) y))
      (λ x y e. subst (λ z. TestFitting (roll-Test z)) e (test_fitting_at _ _ (λ t. t.0) (λ t. t.0) (λ t. t.1) y))
