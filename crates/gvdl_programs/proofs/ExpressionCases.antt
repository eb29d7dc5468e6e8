-- An expression of a program against the columns and parameters, case by case.
use Rattle.std.proofs.Common.{◌≡◌, ◌∙◌, ℕ, Bool, List, pos, map, sym, ap, Ok}
use Rattle.std.proofs.lemmas.Simd.{map-map}
use Rattle.graph_model.specs.GraphData.{GraphData}
use Rattle.gvdl_tree.specs.declared.predicate.Cmp.{Cmp}
use Rattle.gvdl_tree.specs.declared.expression.Word.{Word}
use Rattle.gvdl_tree.specs.declared.expression.ExprTree.{ExprTree}
use Rattle.gvdl_tree.specs.declared.expression.ExprTree.TheVariants as tree
use Rattle.gvdl_tree.specs.declared.expression.ExprTree.TheVariants.{rolls-If, rolls-Else, rolls-Sum, rolls-Product, rolls-Minus, rolls-Number, rolls-Nil, rolls-Word, rolls-EdgeProp, rolls-NodeProp, rolls-Param, rolls-Least, rolls-Most}
use Rattle.gvdl_tree.specs.declared.expression.ExprTree.TheOpen.{ExprTree-F, Test-F}
use Rattle.gvdl_tree.specs.declared.expression.ExprTree.TheViews.{roll-ExprTree}
use Rattle.gvdl_tree.specs.declared.expression.ExprTree.TheFolds.{fold-roll-ExprTree, fold-roll-Test, map-ExprTree}
use Rattle.gvdl_tree.specs.declared.expression.Test.{Test}
use Rattle.gvdl_tree.specs.declared.expression.Test.TheVariants as tests
use Rattle.gvdl_tree.specs.declared.expression.Test.TheVariants.{rolls-Compare, rolls-IsNil}
use Rattle.vertex_lang.specs.Values.{clamped}
use Rattle.gvdl_programs.specs.declared.template.ExprTemplate.{ExprTemplate}
use Rattle.gvdl_programs.specs.declared.template.ExprTemplate.TheVariants as template
use Rattle.gvdl_programs.specs.declared.template.CheckTemplate.{CheckTemplate}
use Rattle.gvdl_programs.specs.declared.template.CheckTemplate.TheVariants as check_template
use Rattle.gvdl_programs.specs.declared.expression.Part.{Part}
use Rattle.gvdl_programs.specs.Judging.{Judged, ◌>>=◌, each}
use Rattle.gvdl_programs.specs.Expressions.{Places, expression, test, expression_judged, check_judged, signed, sign_of, word_judged, edge_judged, node_judged, parameter_of}

module _ (g : GraphData) (p : Part) (ps : Places) where
  abbrev layer : ExprTree-F ExprTree Test → Judged ExprTemplate
  layer x = expression_judged g p ps (map-ExprTree ExprTree Test (Judged ExprTemplate) (Judged CheckTemplate) (expression g p ps) (test g p ps) x)

  expression_rolls : (t : ExprTree) (x : ExprTree-F ExprTree Test) → roll-ExprTree x ≡ t → expression g p ps t ≡ layer x
  unfolding expression test
  expression_rolls t x r = ap (expression g p ps) (sym r) ∙ fold-roll-ExprTree (Judged ExprTemplate) (Judged CheckTemplate) (expression_judged g p ps) check_judged x

  -- the members of a chain behind the first
  abbrev pub chain_judged : List (Bool × ExprTree) → Judged (List (Bool × ExprTemplate))
  chain_judged rest = each (map (λ member. signed (member.0, expression g p ps member.1)) rest)

  chain_same : (rest : List (Bool × ExprTree)) → each (map signed (map (λ m. (m.0, expression g p ps m.1)) rest)) ≡ chain_judged rest
  chain_same rest = ap each (map-map signed (λ (m : Bool × ExprTree). (m.0, expression g p ps m.1)) rest)

  pub expression-If : (ts : List Test) (a b : ExprTree) → expression g p ps (tree.If ts a b) ≡ (each (map (test g p ps) ts) >>= λ cs. expression g p ps a >>= λ x. expression g p ps b >>= λ y. Ok (template.If cs x y))
  expression-If ts a b = expression_rolls _ (ExprTree-F.If ts a b) (rolls-If ts a b)

  pub expression-Else : (ms : List ExprTree) → expression g p ps (tree.Else ms) ≡ (each (map (expression g p ps) ms) >>= λ es. Ok (template.Else es))
  expression-Else ms = expression_rolls _ (ExprTree-F.Else ms) (rolls-Else ms)

  pub expression-Sum : (a : ExprTree) (rest : List (Bool × ExprTree)) → expression g p ps (tree.Sum a rest) ≡ (expression g p ps a >>= λ x. chain_judged rest >>= λ es. Ok (template.Sum x es))
  expression-Sum a rest = expression_rolls _ (ExprTree-F.Sum a rest) (rolls-Sum a rest) ∙ ap (λ (es : Judged (List (Bool × ExprTemplate))). expression g p ps a >>= λ x. es >>= λ es. Ok (template.Sum x es)) (chain_same rest)

  pub expression-Product : (a : ExprTree) (rest : List (Bool × ExprTree)) → expression g p ps (tree.Product a rest) ≡ (expression g p ps a >>= λ x. chain_judged rest >>= λ es. Ok (template.Product x es))
  expression-Product a rest = expression_rolls _ (ExprTree-F.Product a rest) (rolls-Product a rest) ∙ ap (λ (es : Judged (List (Bool × ExprTemplate))). expression g p ps a >>= λ x. es >>= λ es. Ok (template.Product x es)) (chain_same rest)

  pub expression-Minus : (a : ExprTree) → expression g p ps (tree.Minus a) ≡ (expression g p ps a >>= λ x. Ok (template.Minus x))
  expression-Minus a = expression_rolls _ (ExprTree-F.Minus a) (rolls-Minus a)

  pub expression-Number : (n : ℕ) → expression g p ps (tree.Number n) ≡ Ok (template.Number (clamped (pos n)))
  expression-Number n = expression_rolls _ (ExprTree-F.Number n) (rolls-Number n)

  pub expression-Nil : expression g p ps tree.Nil ≡ Ok template.Nil
  expression-Nil = expression_rolls _ ExprTree-F.Nil rolls-Nil

  pub expression-Word : (w : Word) → expression g p ps (tree.Word w) ≡ word_judged p w
  expression-Word w = expression_rolls _ (ExprTree-F.Word w) (rolls-Word w)

  pub expression-EdgeProp : (name : List ℕ) → expression g p ps (tree.EdgeProp name) ≡ edge_judged g p name
  expression-EdgeProp name = expression_rolls _ (ExprTree-F.EdgeProp name) (rolls-EdgeProp name)

  pub expression-NodeProp : (name : List ℕ) → expression g p ps (tree.NodeProp name) ≡ node_judged g p name
  expression-NodeProp name = expression_rolls _ (ExprTree-F.NodeProp name) (rolls-NodeProp name)

  pub expression-Param : (name : List ℕ) → expression g p ps (tree.Param name) ≡ (parameter_of ps name >>= λ n. Ok (template.Param n))
  expression-Param name = expression_rolls _ (ExprTree-F.Param name) (rolls-Param name)

  pub expression-Least : (a b : ExprTree) → expression g p ps (tree.Least a b) ≡ (expression g p ps a >>= λ x. expression g p ps b >>= λ y. Ok (template.Least x y))
  expression-Least a b = expression_rolls _ (ExprTree-F.Least a b) (rolls-Least a b)

  pub expression-Most : (a b : ExprTree) → expression g p ps (tree.Most a b) ≡ (expression g p ps a >>= λ x. expression g p ps b >>= λ y. Ok (template.Most x y))
  expression-Most a b = expression_rolls _ (ExprTree-F.Most a b) (rolls-Most a b)

  pub test-Compare : (a : ExprTree) (sign : Cmp) (b : ExprTree) → test g p ps (tests.Compare a sign b) ≡ (expression g p ps a >>= λ x. expression g p ps b >>= λ y. Ok (check_template.Compare x (sign_of sign) y))
  unfolding expression test
  test-Compare a sign b = ap (test g p ps) (sym (rolls-Compare a sign b)) ∙ fold-roll-Test (Judged ExprTemplate) (Judged CheckTemplate) (expression_judged g p ps) check_judged (Test-F.Compare a sign b)

  pub test-IsNil : (a : ExprTree) → test g p ps (tests.IsNil a) ≡ (expression g p ps a >>= λ x. Ok (check_template.IsNil x))
  unfolding expression test
  test-IsNil a = ap (test g p ps) (sym (rolls-IsNil a)) ∙ fold-roll-Test (Judged ExprTemplate) (Judged CheckTemplate) (expression_judged g p ps) check_judged (Test-F.IsNil a)
