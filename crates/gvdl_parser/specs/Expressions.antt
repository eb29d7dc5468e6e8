-- The grammar of expressions.
use Rattle.std.specs.Prelude.{ℕ, zero, suc, Bool, true, false, ◌||◌, List, [], ◌∷◌, Option}
use Rattle.phrase_theory.specs.Phrases.{◌>>=◌, ◌>>◌, ◌∣◌, one, pure, many, chained, separated}
use Rattle.gvdl_tokens.specs.declared.token.Token.{Token}
use Rattle.gvdl_tokens.specs.declared.token.Token.TheVariants as t
use Rattle.gvdl_tokens.specs.declared.token.Kind.TheVariants as kind
use Rattle.gvdl_tokens.specs.declared.token.Sign.TheVariants as s
use Rattle.gvdl_tokens.specs.declared.word.Word.TheVariants as w
use Rattle.gvdl_tree.specs.declared.expression.ExprTree.{ExprTree}
use Rattle.gvdl_tree.specs.declared.expression.ExprTree.TheVariants as e
use Rattle.gvdl_tree.specs.declared.expression.Test.{Test}
use Rattle.gvdl_tree.specs.declared.expression.Test.TheVariants as test
use Rattle.gvdl_parser.specs.Kinds.{comes}
use Rattle.gvdl_parser.specs.Terminals.{keyword, mark, cmp_token, value_token, term_token, factor_token, extreme_token, prop}

-- kinds of phrases
abbrev pub Expressions : Type 1
Expressions = List Token → ExprTree → Type 0

-- ---- what opens no level

unfoldable pub number_leaf : List Token → ExprTree → Type 0
number_leaf = do n ← one t.Number; pure (e.Number n)

unfoldable pub nil_leaf : List Token → ExprTree → Type 0
nil_leaf = do keyword w.None; pure e.Nil

unfoldable pub word_leaf : List Token → ExprTree → Type 0
word_leaf = do v ← one value_token; pure (e.Word v)

unfoldable pub edge_leaf : List Token → ExprTree → Type 0
edge_leaf = do keyword w.Edge; mark s.Dot; p ← prop; pure (e.EdgeProp p)

unfoldable pub node_leaf : List Token → ExprTree → Type 0
node_leaf = do keyword w.Node; mark s.Dot; p ← prop; pure (e.NodeProp p)

unfoldable pub param_leaf : List Token → ExprTree → Type 0
param_leaf = do p ← one t.Name; pure (e.Param p)

-- number | "none" | "id" | "start" | "value" | "gathered" | "count" | "outdeg" | "edge" "." prop | "node" "." prop | name
unfoldable pub leaf : List Token → ExprTree → Type 0
leaf = number_leaf ∣ nil_leaf ∣ word_leaf ∣ edge_leaf ∣ node_leaf ∣ param_leaf

-- ---- chains

-- a chain of one member is that member
abbrev pub product_tree : ExprTree → List (Bool × ExprTree) → ExprTree
product_tree first [] = first
product_tree first (other ∷ others) = e.Product first (other ∷ others)

abbrev pub sum_tree : ExprTree → List (Bool × ExprTree) → ExprTree
sum_tree first [] = first
sum_tree first (other ∷ others) = e.Sum first (other ∷ others)

abbrev pub else_tree : List ExprTree → ExprTree
else_tree (first ∷ []) = first
else_tree members = e.Else members

unfoldable pub factor : (List Token → ExprTree → Type 0) → List Token → Bool × ExprTree → Type 0
factor unary = do times ← one factor_token; a ← unary; pure (times, a)

-- product = unary { ( "*" | "/" ) unary }
unfoldable pub product_of : (List Token → ExprTree → Type 0) → List Token → ExprTree → Type 0
product_of unary = do
  first ← unary
  others ← many (factor unary)
  pure (product_tree first others)

unfoldable pub term : (List Token → ExprTree → Type 0) → List Token → Bool × ExprTree → Type 0
term unary = do plus ← one term_token; a ← product_of unary; pure (plus, a)

-- sum = product { ( "+" | "-" ) product }
unfoldable pub sum_of : (List Token → ExprTree → Type 0) → List Token → ExprTree → Type 0
sum_of unary = do
  first ← product_of unary
  others ← many (term unary)
  pure (sum_tree first others)

-- sum { "else" sum }
unfoldable pub sums_of : (List Token → ExprTree → Type 0) → List Token → ExprTree → Type 0
sums_of unary = chained (t.Word w.Else) else_tree (sum_of unary)

-- ---- conditions

unfoldable pub compared_sum : ExprTree → (List Token → ExprTree → Type 0) → List Token → Test → Type 0
compared_sum a unary = do c ← one cmp_token; b ← sum_of unary; pure (test.Compare a c b)

unfoldable pub nil_sum : ExprTree → List Token → Test → Type 0
nil_sum a = do keyword w.Is; keyword w.None; pure (test.IsNil a)

-- test = sum ( cmp sum | "is" "none" )
unfoldable pub test_of : (List Token → ExprTree → Type 0) → List Token → Test → Type 0
test_of unary = do
  a ← sum_of unary
  compared_sum a unary ∣ nil_sum a

-- cond = test { "and" test }
unfoldable pub condition_of : (List Token → ExprTree → Type 0) → List Token → List Test → Type 0
condition_of unary = separated (t.Word w.And) (test_of unary)

-- ---- levels

-- "-" unary, with what is behind the sign
unfoldable pub negative : (List Token → ExprTree → Type 0) → List Token → ExprTree → Type 0
negative unary = do mark s.Minus; a ← unary; pure (e.Minus a)

-- "(" expr ")", with what is inside
unfoldable pub enclosed : (List Token → ExprTree → Type 0) → List Token → ExprTree → Type 0
enclosed expr = do mark s.Open; a ← expr; mark s.Close; pure a

-- what `min` (false) or `max` (true) makes
abbrev pub extreme_tree : Bool → ExprTree → ExprTree → ExprTree
extreme_tree false a b = e.Least a b
extreme_tree true a b = e.Most a b

-- ( "min" | "max" ) "(" expr "," expr ")", with what is inside
unfoldable pub extreme : (List Token → ExprTree → Type 0) → List Token → ExprTree → Type 0
extreme expr = do
  greatest ← one extreme_token
  mark s.Open
  a ← expr
  mark s.Comma
  b ← expr
  mark s.Close
  pure (extreme_tree greatest a b)

-- unary = "-" unary | primary, with what stands behind the level that its first token opens
unfoldable pub unary_with : (List Token → ExprTree → Type 0) → (List Token → ExprTree → Type 0) → List Token → ExprTree → Type 0
unary_with unary expr = negative unary ∣ enclosed expr ∣ extreme expr ∣ leaf

-- "if" cond "then" sum "else" expr, with what its sums are made of, and what is behind `else`
unfoldable pub conditional : (List Token → ExprTree → Type 0) → (List Token → ExprTree → Type 0) → List Token → ExprTree → Type 0
conditional unary expr = do
  keyword w.If
  tests ← condition_of unary
  keyword w.Then
  a ← sum_of unary
  keyword w.Else
  b ← expr
  pure (e.If tests a b)

-- unary and expr = "if" cond "then" sum "else" expr | sum { "else" sum }, with at most this number of levels open at once
unfoldable mutual
  pub unary : ℕ → List Token → ExprTree → Type 0
  unary zero = leaf
  unary (suc n) = unary_with (unary n) (expression n)

  pub expression : ℕ → List Token → ExprTree → Type 0
  expression zero = sums_of leaf
  expression (suc n) = conditional (unary n) (expression n) ∣ sums_of (unary_with (unary n) (expression n))

abbrev pub product : ℕ → List Token → ExprTree → Type 0
product n = product_of (unary n)

abbrev pub sum : ℕ → List Token → ExprTree → Type 0
sum n = sum_of (unary n)

abbrev pub sums : ℕ → List Token → ExprTree → Type 0
sums n = sums_of (unary n)

-- ---- tokens that a phrase goes on with

abbrev pub after_product : Option Token → Bool
after_product x = comes (kind.Sign s.Star) x || comes (kind.Sign s.Slash) x

abbrev pub after_sum : Option Token → Bool
after_sum x = comes (kind.Sign s.Plus) x || comes (kind.Sign s.Minus) x || after_product x

abbrev pub after_condition : Option Token → Bool
after_condition x = comes (kind.Word w.And) x || after_sum x

abbrev pub after_expression : Option Token → Bool
after_expression x = comes (kind.Word w.Else) x || after_sum x
