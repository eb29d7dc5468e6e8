-- What fits keeps fitting when numbers that are allowed stand in place of its parameters.
use Rattle.std.proofs.Common.{◌≡◌, ◌∙◌, ℕ, ℤ, pos, Bool, true, false, ◌&&◌, List, [], ◌∷◌, ◌++◌, map, flat_map, get_or, refl, sym, ap, subst}
use Rattle.std.specs.List.{list_all}
use Rattle.std.proofs.lemmas.List.Folds.{list_all-append}
use Rattle.gvdl_tree.specs.declared.expression.Word.{Word}
use Rattle.gvdl_tree.specs.declared.expression.Word.TheVariants as word
use Rattle.vertex_lang.specs.declared.program.Expr.{Expr}
use Rattle.vertex_lang.specs.declared.program.Check.{Check}
use Rattle.vertex_lang.specs.Leaves.{Leaf, leaves_of, leaves_of_check}
use Rattle.vertex_lang.specs.Trees.{leaves-If, leaves-Else, leaves-Sum, leaves-Product, leaves-Minus, leaves-Number, leaves-Nil, leaves-Id, leaves-Start, leaves-Value, leaves-Gathered, leaves-Count, leaves-Outdeg, leaves-EdgeProp, leaves-NodeProp, leaves-Least, leaves-Most, leaves-Compare, leaves-IsNil}
use Rattle.gvdl_programs.specs.declared.template.ExprTemplate.{ExprTemplate}
use Rattle.gvdl_programs.specs.declared.template.CheckTemplate.{CheckTemplate}
use Rattle.gvdl_programs.specs.declared.template.CheckTemplate.TheOpen.{ExprTemplate-F, CheckTemplate-F}
use Rattle.gvdl_programs.specs.declared.template.CheckTemplate.TheViews.{roll-ExprTemplate, roll-CheckTemplate}
use Rattle.gvdl_programs.specs.declared.template.CheckTemplate.TheFolds.{fold-roll-ExprTemplate, fold-roll-CheckTemplate, map-ExprTemplate, map-CheckTemplate, ind-ExprTemplate}
use Rattle.gvdl_programs.specs.Filled.{word_expression, check_filled, expression_filled, filled, filled_check}
use Rattle.gvdl_programs.specs.Fits.{word_leaf, fits, fits_check, check_fits, expression_fits}
use Rattle.gvdl_programs.specs.FitLaws.{fits_rolls, check_fits_rolls}

word_leaves : (w : Word) → leaves_of (word_expression w) ≡ word_leaf w ∷ []
word_leaves word.Id = leaves-Id
word_leaves word.Start = leaves-Start
word_leaves word.Value = leaves-Value
word_leaves word.Gathered = leaves-Gathered
word_leaves word.Count = leaves-Count
word_leaves word.Outdeg = leaves-Outdeg

and_true : (b : Bool) → (b && true) ≡ b
and_true true = refl
and_true false = refl

-- ---- lists

module _ (q : Leaf → Bool) where
  joined : (ls ms : List Leaf) (a b : Bool) → list_all q ls ≡ a → list_all q ms ≡ b → list_all q (ls ++ ms) ≡ (a && b)
  joined ls ms a b h k = list_all-append q ls ms ∙ ap (λ (x : Bool). x && list_all q ms) h ∙ ap (λ (x : Bool). a && x) k

  module _ {B T E R : Type 0} (g : B → T) (fill : T → E) (leaves : E → List Leaf) (good : T → R) (last : R → Bool) (h : (b : B) → list_all q (leaves (fill (g b))) ≡ last (good (g b))) where
    members_fit : (bs : List B) → list_all q (flat_map leaves (map fill (map g bs))) ≡ list_all last (map good (map g bs))
    members_fit [] = refl
    members_fit (b ∷ bs) = joined (leaves (fill (g b))) (flat_map leaves (map fill (map g bs))) (last (good (g b))) (list_all last (map good (map g bs))) (h b) (members_fit bs)

-- ---- trees

module _ (q : Leaf → Bool) (ns : List ℤ) (given : (n : ℕ) → q (Leaf.number (get_or ns n (pos 0))) ≡ true) where
  abbrev held : List Leaf → Bool
  held ls = list_all q ls

  abbrev Same : ExprTemplate → Type 0
  Same t = held (leaves_of (filled ns t)) ≡ fits q t

  abbrev SameCheck : CheckTemplate → Type 0
  SameCheck t = held (leaves_of_check (filled_check ns t)) ≡ fits_check q t

  filled_roll : (x : ExprTemplate-F CheckTemplate ExprTemplate) → filled ns (roll-ExprTemplate x) ≡ expression_filled ns (map-ExprTemplate CheckTemplate ExprTemplate Check Expr (filled_check ns) (filled ns) x)
  unfolding filled filled_check
  filled_roll x = fold-roll-ExprTemplate Check Expr check_filled (expression_filled ns) x

  check_roll : (x : CheckTemplate-F CheckTemplate ExprTemplate) → filled_check ns (roll-CheckTemplate x) ≡ check_filled (map-CheckTemplate CheckTemplate ExprTemplate Check Expr (filled_check ns) (filled ns) x)
  unfolding filled filled_check
  check_roll x = fold-roll-CheckTemplate Check Expr check_filled (expression_filled ns) x

  -- by the leaves of what is filled in
  by_leaves : (x : ExprTemplate-F CheckTemplate ExprTemplate) (ls : List Leaf) → leaves_of (expression_filled ns (map-ExprTemplate CheckTemplate ExprTemplate Check Expr (filled_check ns) (filled ns) x)) ≡ ls
      → held ls ≡ expression_fits q (map-ExprTemplate CheckTemplate ExprTemplate Bool Bool (fits_check q) (fits q) x) → Same (roll-ExprTemplate x)
  by_leaves x ls is h = ap (λ (e : Expr). held (leaves_of e)) (filled_roll x) ∙ ap held is ∙ h ∙ sym (fits_rolls q (roll-ExprTemplate x) x refl)

  check_by_leaves : (x : CheckTemplate-F CheckTemplate ExprTemplate) (ls : List Leaf) → leaves_of_check (check_filled (map-CheckTemplate CheckTemplate ExprTemplate Check Expr (filled_check ns) (filled ns) x)) ≡ ls
      → held ls ≡ check_fits (map-CheckTemplate CheckTemplate ExprTemplate Bool Bool (fits_check q) (fits q) x) → SameCheck (roll-CheckTemplate x)
  check_by_leaves x ls is h = ap (λ (c : Check). held (leaves_of_check c)) (check_roll x) ∙ ap held is ∙ h ∙ sym (check_fits_rolls q (roll-CheckTemplate x) x refl)

  two_same : (a b : ExprTemplate) → Same a → Same b → held (leaves_of (filled ns a) ++ leaves_of (filled ns b)) ≡ (fits q a && fits q b)
  two_same a b h k = joined q (leaves_of (filled ns a)) (leaves_of (filled ns b)) (fits q a) (fits q b) h k

  chain_same : (B : Type 0) (f : B → ExprTemplate) → ((b : B) → Same (f b)) → (rest : List (Bool × B))
      → held (flat_map (λ (m : Bool × Expr). leaves_of m.1) (map (λ (m : Bool × ExprTemplate). (m.0, filled ns m.1)) (map (λ (m : Bool × B). (m.0, f m.1)) rest)))
      ≡ list_all (λ (r : Bool × Bool). r.1) (map (λ (m : Bool × ExprTemplate). (m.0, fits q m.1)) (map (λ (m : Bool × B). (m.0, f m.1)) rest))
  chain_same B f h rest = members_fit q (λ (m : Bool × B). (m.0, f m.1)) (λ (m : Bool × ExprTemplate). (m.0, filled ns m.1)) (λ (m : Bool × Expr). leaves_of m.1) (λ (m : Bool × ExprTemplate). (m.0, fits q m.1)) (λ (r : Bool × Bool). r.1) (λ m. h m.1) rest

  same_at : (A B : Type 0) (k : A → CheckTemplate) (f : B → ExprTemplate) → ((a : A) → SameCheck (k a)) → ((b : B) → Same (f b)) → (y : ExprTemplate-F A B) → Same (roll-ExprTemplate (map-ExprTemplate A B CheckTemplate ExprTemplate k f y))
  same_at A B k f hk hf (ExprTemplate-F.If checks a b) =
      let cs = map (filled_check ns) (map k checks) in
      by_leaves (ExprTemplate-F.If (map k checks) (f a) (f b)) _ (leaves-If cs (filled ns (f a)) (filled ns (f b)))
      (joined q (flat_map leaves_of_check cs) (leaves_of (filled ns (f a)) ++ leaves_of (filled ns (f b))) (list_all (λ (b : Bool). b) (map (fits_check q) (map k checks))) (fits q (f a) && fits q (f b))
      (members_fit q k (filled_check ns) leaves_of_check (fits_check q) (λ (b : Bool). b) hk checks) (two_same (f a) (f b) (hf a) (hf b)))
  same_at A B k f hk hf (ExprTemplate-F.Else members) =
      by_leaves (ExprTemplate-F.Else (map f members)) _ (leaves-Else (map (filled ns) (map f members))) (members_fit q f (filled ns) leaves_of (fits q) (λ (b : Bool). b) hf members)
  same_at A B k f hk hf (ExprTemplate-F.Sum a rest) =
      let ms = map (λ (m : Bool × B). (m.0, f m.1)) rest in
      let es = map (λ (m : Bool × ExprTemplate). (m.0, filled ns m.1)) ms in
      by_leaves (ExprTemplate-F.Sum (f a) ms) _ (leaves-Sum (filled ns (f a)) es) (joined q (leaves_of (filled ns (f a))) (flat_map (λ (m : Bool × Expr). leaves_of m.1) es) (fits q (f a)) _ (hf a) (chain_same B f hf rest))
  same_at A B k f hk hf (ExprTemplate-F.Product a rest) =
      let ms = map (λ (m : Bool × B). (m.0, f m.1)) rest in
      let es = map (λ (m : Bool × ExprTemplate). (m.0, filled ns m.1)) ms in
      by_leaves (ExprTemplate-F.Product (f a) ms) _ (leaves-Product (filled ns (f a)) es) (joined q (leaves_of (filled ns (f a))) (flat_map (λ (m : Bool × Expr). leaves_of m.1) es) (fits q (f a)) _ (hf a) (chain_same B f hf rest))
  same_at A B k f hk hf (ExprTemplate-F.Minus a) = by_leaves (ExprTemplate-F.Minus (f a)) _ (leaves-Minus (filled ns (f a))) (hf a)
  same_at A B k f hk hf (ExprTemplate-F.Number z) = by_leaves (ExprTemplate-F.Number z) _ (leaves-Number z) (and_true (q (Leaf.number z)))
  same_at A B k f hk hf ExprTemplate-F.Nil = by_leaves ExprTemplate-F.Nil _ leaves-Nil refl
  same_at A B k f hk hf (ExprTemplate-F.Word w) = by_leaves (ExprTemplate-F.Word w) _ (word_leaves w) (and_true (q (word_leaf w)))
  same_at A B k f hk hf (ExprTemplate-F.EdgeProp column) = by_leaves (ExprTemplate-F.EdgeProp column) _ (leaves-EdgeProp column) (and_true (q (Leaf.edge_property column)))
  same_at A B k f hk hf (ExprTemplate-F.NodeProp column) = by_leaves (ExprTemplate-F.NodeProp column) _ (leaves-NodeProp column) (and_true (q (Leaf.node_property column)))
  same_at A B k f hk hf (ExprTemplate-F.Param n) = by_leaves (ExprTemplate-F.Param n) _ (leaves-Number (get_or ns n (pos 0))) (and_true (q (Leaf.number (get_or ns n (pos 0)))) ∙ given n)
  same_at A B k f hk hf (ExprTemplate-F.Least a b) = by_leaves (ExprTemplate-F.Least (f a) (f b)) _ (leaves-Least (filled ns (f a)) (filled ns (f b))) (two_same (f a) (f b) (hf a) (hf b))
  same_at A B k f hk hf (ExprTemplate-F.Most a b) = by_leaves (ExprTemplate-F.Most (f a) (f b)) _ (leaves-Most (filled ns (f a)) (filled ns (f b))) (two_same (f a) (f b) (hf a) (hf b))

  check_same_at : (A B : Type 0) (k : A → CheckTemplate) (f : B → ExprTemplate) → ((b : B) → Same (f b)) → (y : CheckTemplate-F A B) → SameCheck (roll-CheckTemplate (map-CheckTemplate A B CheckTemplate ExprTemplate k f y))
  check_same_at A B k f hf (CheckTemplate-F.Compare a sign b) = check_by_leaves (CheckTemplate-F.Compare (f a) sign (f b)) _ (leaves-Compare (filled ns (f a)) sign (filled ns (f b))) (two_same (f a) (f b) (hf a) (hf b))
  check_same_at A B k f hf (CheckTemplate-F.IsNil a) = check_by_leaves (CheckTemplate-F.IsNil (f a)) _ (leaves-IsNil (filled ns (f a))) (hf a)

  pub filled_fits : (t : ExprTemplate) → Same t
  filled_fits = ind-ExprTemplate SameCheck Same
      (λ x y e. subst (λ z. SameCheck (roll-CheckTemplate z)) e (check_same_at _ _ (λ t. t.0) (λ t. t.0) (λ t. t.1) y))
      (λ x y e. subst (λ z. Same (roll-ExprTemplate z)) e (same_at _ _ (λ t. t.0) (λ t. t.0) (λ t. t.1) (λ t. t.1) y))
