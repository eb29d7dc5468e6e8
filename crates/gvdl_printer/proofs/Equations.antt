-- What is written of each kind of tree.
use Rattle.std.proofs.Common.{◌≡◌, ◌∙◌, ◌++◌, ◌∷◌, [], ℕ, Bool, List, map, refl, ap, sym}
use Rattle.std.specs.Prelude.{nat_lt}
use Rattle.std.specs.List.{flat_map}
use Rattle.std.proofs.lemmas.List.Folds.{flat_map-map}
use Rattle.gvdl_tokens.specs.declared.token.Token.TheVariants as t
use Rattle.gvdl_tokens.specs.declared.token.Sign.TheVariants as s
use Rattle.gvdl_tokens.specs.declared.word.Word.TheVariants as w
use Rattle.gvdl_tree.specs.declared.predicate.Cmp.{Cmp}
use Rattle.gvdl_tree.specs.declared.predicate.Operand.{Operand}
use Rattle.gvdl_tree.specs.declared.predicate.PredTree.{PredTree}
use Rattle.gvdl_tree.specs.declared.predicate.PredTree.TheVariants as pred
use Rattle.gvdl_tree.specs.declared.predicate.PredTree.TheVariants.{rolls-Or, rolls-And, rolls-Not, rolls-Constant, rolls-Missing}
use Rattle.gvdl_tree.specs.declared.predicate.PredTree.TheVariants.{rolls-Compare as rolls-Compares}
use Rattle.gvdl_tree.specs.declared.predicate.PredTree.TheOpen.{PredTree-F}
use Rattle.gvdl_tree.specs.declared.predicate.PredTree.TheViews.{roll-PredTree}
use Rattle.gvdl_tree.specs.declared.predicate.PredTree.TheFolds.{fold-roll-PredTree, map-PredTree}
use Rattle.gvdl_tree.specs.declared.expression.ExprTree.{ExprTree}
use Rattle.gvdl_tree.specs.declared.expression.ExprTree.TheVariants as e
use Rattle.gvdl_tree.specs.declared.expression.ExprTree.TheVariants.{rolls-If, rolls-Else, rolls-Sum, rolls-Product, rolls-Minus, rolls-Number, rolls-Nil, rolls-Word, rolls-EdgeProp, rolls-NodeProp, rolls-Param, rolls-Least, rolls-Most}
use Rattle.gvdl_tree.specs.declared.expression.ExprTree.TheOpen.{ExprTree-F, Test-F}
use Rattle.gvdl_tree.specs.declared.expression.ExprTree.TheViews.{roll-ExprTree}
use Rattle.gvdl_tree.specs.declared.expression.ExprTree.TheFolds.{fold-roll-ExprTree, fold-roll-Test, map-ExprTree}
use Rattle.gvdl_tree.specs.declared.expression.Test.{Test}
use Rattle.gvdl_tree.specs.declared.expression.Test.TheVariants as test
use Rattle.gvdl_tree.specs.declared.expression.Test.TheVariants.{rolls-Compare, rolls-IsNil}
use Rattle.gvdl_tree.specs.declared.expression.Word.{Word as ValueWord}
use Rattle.gvdl_parser.specs.Terminals.{cmp_token, truth_token, value_token, term_token, factor_token}
use Rattle.gvdl_printer.specs.Layout.{Piece, plain, word, sign, call_open, negative_sign}
use Rattle.gvdl_printer.specs.Canonical.{enclosed, joined, prop_piece, operand_pieces, written_predicate, predicate_pieces, written_test, written_expression, expression_pieces, test_pieces}

joined-map : {A B : Type 0} (x : Piece) (f : B → List Piece) (g : A → B) (members : List A) → joined x f (map g members) ≡ joined x (λ a. f (g a)) members
joined-map x f g [] = refl
joined-map x f g (a ∷ others) = ap (λ (ps : List Piece). f (g a) ++ ps) (flat_map-map (λ b. x ∷ f b) g others)

-- ---- predicates

abbrev predicate_layer : PredTree-F PredTree → ℕ → List Piece
predicate_layer x = written_predicate (map-PredTree PredTree (ℕ → List Piece) predicate_pieces x)

predicate_rolls : (p : PredTree) (x : PredTree-F PredTree) (k : ℕ) → roll-PredTree x ≡ p → predicate_pieces p k ≡ predicate_layer x k
unfolding predicate_pieces
predicate_rolls p x k r = ap (λ (q : PredTree). predicate_pieces q k) (sym r) ∙ ap (λ (f : ℕ → List Piece). f k) (fold-roll-PredTree (ℕ → List Piece) written_predicate x)

pub predicate-Or : (ps : List PredTree) (k : ℕ) → predicate_pieces (pred.Or ps) k ≡ enclosed (nat_lt 0 k) (joined (word w.Or) (λ p. predicate_pieces p 1) ps)
predicate-Or ps k = predicate_rolls _ (PredTree-F.Or ps) k (rolls-Or ps) ∙ ap (λ (xs : List Piece). enclosed (nat_lt 0 k) xs) (joined-map (word w.Or) (λ (f : ℕ → List Piece). f 1) predicate_pieces ps)

pub predicate-And : (ps : List PredTree) (k : ℕ) → predicate_pieces (pred.And ps) k ≡ enclosed (nat_lt 1 k) (joined (word w.And) (λ p. predicate_pieces p 2) ps)
predicate-And ps k = predicate_rolls _ (PredTree-F.And ps) k (rolls-And ps) ∙ ap (λ (xs : List Piece). enclosed (nat_lt 1 k) xs) (joined-map (word w.And) (λ (f : ℕ → List Piece). f 2) predicate_pieces ps)

pub predicate-Not : (p : PredTree) (k : ℕ) → predicate_pieces (pred.Not p) k ≡ word w.Not ∷ predicate_pieces p 2
predicate-Not p k = predicate_rolls _ (PredTree-F.Not p) k (rolls-Not p)

pub predicate-Constant : (b : Bool) (k : ℕ) → predicate_pieces (pred.Constant b) k ≡ plain (truth_token b) ∷ []
predicate-Constant b k = predicate_rolls _ (PredTree-F.Constant b) k (rolls-Constant b)

pub predicate-Compare : (a : Operand) (c : Cmp) (b : Operand) (k : ℕ) → predicate_pieces (pred.Compare a c b) k ≡ operand_pieces a ++ plain (cmp_token c) ∷ operand_pieces b
predicate-Compare a c b k = predicate_rolls _ (PredTree-F.Compare a c b) k (rolls-Compares a c b)

pub predicate-Missing : (a : Operand) (k : ℕ) → predicate_pieces (pred.Missing a) k ≡ operand_pieces a ++ word w.Is ∷ word w.Absent ∷ []
predicate-Missing a k = predicate_rolls _ (PredTree-F.Missing a) k (rolls-Missing a)

-- ---- expressions

abbrev expression_layer : ExprTree-F ExprTree Test → ℕ → List Piece
expression_layer x = written_expression (map-ExprTree ExprTree Test (ℕ → List Piece) (List Piece) expression_pieces test_pieces x)

expression_rolls : (a : ExprTree) (x : ExprTree-F ExprTree Test) (k : ℕ) → roll-ExprTree x ≡ a → expression_pieces a k ≡ expression_layer x k
unfolding expression_pieces test_pieces
expression_rolls a x k r = ap (λ (q : ExprTree). expression_pieces q k) (sym r) ∙ ap (λ (f : ℕ → List Piece). f k) (fold-roll-ExprTree (ℕ → List Piece) (List Piece) written_expression written_test x)

pub expression-If : (tests : List Test) (a b : ExprTree) (k : ℕ) → expression_pieces (e.If tests a b) k ≡ enclosed (nat_lt 0 k) (word w.If ∷ (joined (word w.And) test_pieces tests ++ word w.Then ∷ (expression_pieces a 1 ++ word w.Else ∷ expression_pieces b 0)))
expression-If tests a b k = expression_rolls _ (ExprTree-F.If tests a b) k (rolls-If tests a b)
    ∙ ap (λ (xs : List Piece). enclosed (nat_lt 0 k) (word w.If ∷ (xs ++ word w.Then ∷ (expression_pieces a 1 ++ word w.Else ∷ expression_pieces b 0)))) (joined-map (word w.And) (λ (ps : List Piece). ps) test_pieces tests)

pub expression-Else : (members : List ExprTree) (k : ℕ) → expression_pieces (e.Else members) k ≡ enclosed (nat_lt 0 k) (joined (word w.Else) (λ a. expression_pieces a 1) members)
expression-Else members k = expression_rolls _ (ExprTree-F.Else members) k (rolls-Else members) ∙ ap (λ (xs : List Piece). enclosed (nat_lt 0 k) xs) (joined-map (word w.Else) (λ (f : ℕ → List Piece). f 1) expression_pieces members)

pub expression-Sum : (first : ExprTree) (others : List (Bool × ExprTree)) (k : ℕ) → expression_pieces (e.Sum first others) k ≡ enclosed (nat_lt 1 k) (expression_pieces first 2 ++ flat_map (λ other. plain (term_token other.0) ∷ expression_pieces other.1 2) others)
expression-Sum first others k = expression_rolls _ (ExprTree-F.Sum first others) k (rolls-Sum first others)
    ∙ ap (λ (xs : List Piece). enclosed (nat_lt 1 k) (expression_pieces first 2 ++ xs)) (flat_map-map (λ (other : Bool × (ℕ → List Piece)). plain (term_token other.0) ∷ other.1 2) (λ (m : Bool × ExprTree). (m.0, expression_pieces m.1)) others)

pub expression-Product : (first : ExprTree) (others : List (Bool × ExprTree)) (k : ℕ) → expression_pieces (e.Product first others) k ≡ enclosed (nat_lt 2 k) (expression_pieces first 3 ++ flat_map (λ other. plain (factor_token other.0) ∷ expression_pieces other.1 3) others)
expression-Product first others k = expression_rolls _ (ExprTree-F.Product first others) k (rolls-Product first others)
    ∙ ap (λ (xs : List Piece). enclosed (nat_lt 2 k) (expression_pieces first 3 ++ xs)) (flat_map-map (λ (other : Bool × (ℕ → List Piece)). plain (factor_token other.0) ∷ other.1 3) (λ (m : Bool × ExprTree). (m.0, expression_pieces m.1)) others)

pub expression-Minus : (a : ExprTree) (k : ℕ) → expression_pieces (e.Minus a) k ≡ negative_sign ∷ expression_pieces a 3
expression-Minus a k = expression_rolls _ (ExprTree-F.Minus a) k (rolls-Minus a)

pub expression-Number : (n : ℕ) (k : ℕ) → expression_pieces (e.Number n) k ≡ plain (t.Number n) ∷ []
expression-Number n k = expression_rolls _ (ExprTree-F.Number n) k (rolls-Number n)

pub expression-Nil : (k : ℕ) → expression_pieces e.Nil k ≡ word w.None ∷ []
expression-Nil k = expression_rolls _ ExprTree-F.Nil k rolls-Nil

pub expression-Word : (v : ValueWord) (k : ℕ) → expression_pieces (e.Word v) k ≡ plain (value_token v) ∷ []
expression-Word v k = expression_rolls _ (ExprTree-F.Word v) k (rolls-Word v)

pub expression-EdgeProp : (p : List ℕ) (k : ℕ) → expression_pieces (e.EdgeProp p) k ≡ word w.Edge ∷ sign s.Dot ∷ prop_piece p ∷ []
expression-EdgeProp p k = expression_rolls _ (ExprTree-F.EdgeProp p) k (rolls-EdgeProp p)

pub expression-NodeProp : (p : List ℕ) (k : ℕ) → expression_pieces (e.NodeProp p) k ≡ word w.Node ∷ sign s.Dot ∷ prop_piece p ∷ []
expression-NodeProp p k = expression_rolls _ (ExprTree-F.NodeProp p) k (rolls-NodeProp p)

pub expression-Param : (p : List ℕ) (k : ℕ) → expression_pieces (e.Param p) k ≡ plain (t.Name p) ∷ []
expression-Param p k = expression_rolls _ (ExprTree-F.Param p) k (rolls-Param p)

pub expression-Least : (a b : ExprTree) (k : ℕ) → expression_pieces (e.Least a b) k ≡ word w.Min ∷ call_open ∷ (expression_pieces a 0 ++ sign s.Comma ∷ (expression_pieces b 0 ++ sign s.Close ∷ []))
expression-Least a b k = expression_rolls _ (ExprTree-F.Least a b) k (rolls-Least a b)

pub expression-Most : (a b : ExprTree) (k : ℕ) → expression_pieces (e.Most a b) k ≡ word w.Max ∷ call_open ∷ (expression_pieces a 0 ++ sign s.Comma ∷ (expression_pieces b 0 ++ sign s.Close ∷ []))
expression-Most a b k = expression_rolls _ (ExprTree-F.Most a b) k (rolls-Most a b)

pub test-Compare : (a : ExprTree) (c : Cmp) (b : ExprTree) → test_pieces (test.Compare a c b) ≡ expression_pieces a 1 ++ plain (cmp_token c) ∷ expression_pieces b 1
unfolding expression_pieces test_pieces
test-Compare a c b = ap test_pieces (sym (rolls-Compare a c b)) ∙ fold-roll-Test (ℕ → List Piece) (List Piece) written_expression written_test (Test-F.Compare a c b)

pub test-IsNil : (a : ExprTree) → test_pieces (test.IsNil a) ≡ expression_pieces a 1 ++ word w.Is ∷ word w.None ∷ []
unfolding expression_pieces test_pieces
test-IsNil a = ap test_pieces (sym (rolls-IsNil a)) ∙ fold-roll-Test (ℕ → List Piece) (List Piece) written_expression written_test (Test-F.IsNil a)

pub ruleset expression_equations = (expression-Minus, expression-Number, expression-Nil, expression-Word, expression-EdgeProp, expression-NodeProp, expression-Param)
