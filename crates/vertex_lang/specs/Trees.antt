-- The equations of the value of an expression, and of the numbers and words that it holds, one for each kind of tree.
use Rattle.std.proofs.Common.{◌≡◌, ◌∙◌, ◌++◌, ◌∷◌, [], ℕ, ℤ, pos, Bool, cond, List, fold, flat_map, map, ap, sym}
use Rattle.std.specs.List.{list_all}
use Rattle.std.proofs.lemmas.List.Folds.{list_all-map, fold-map, flat_map-map}
use Rattle.std.proofs.lemmas.Simd.{map-map}
use Rattle.graph_model.specs.declared.value.Val.{Val}
use Rattle.graph_model.specs.declared.value.Val.TheVariants.{Nil, Num}
use Rattle.vertex_lang.specs.declared.program.Expr.{Expr}
use Rattle.vertex_lang.specs.declared.program.Expr.TheVariants as expr
use Rattle.vertex_lang.specs.declared.program.Expr.TheVariants.{rolls-If, rolls-Else, rolls-Sum, rolls-Product, rolls-Minus, rolls-Number, rolls-Nil, rolls-Id, rolls-Start, rolls-Value, rolls-Gathered, rolls-Count, rolls-Outdeg, rolls-EdgeProp, rolls-NodeProp, rolls-Least, rolls-Most}
use Rattle.vertex_lang.specs.declared.program.Check.{Check}
use Rattle.vertex_lang.specs.declared.program.Check.TheVariants as check
use Rattle.vertex_lang.specs.declared.program.Check.TheVariants.{rolls-Compare, rolls-IsNil}
use Rattle.vertex_lang.specs.declared.program.Check.TheOpen.{Expr-F, Check-F}
use Rattle.vertex_lang.specs.declared.program.Check.TheViews.{roll-Expr, roll-Check}
use Rattle.vertex_lang.specs.declared.program.Check.TheFolds.{fold-roll-Expr, fold-roll-Check, map-Expr, map-Check}
use Rattle.vertex_lang.specs.declared.program.Cmp.{Cmp}
use Rattle.vertex_lang.specs.Values.{added, scaled, negated, first_given, lesser, greater, in_range, compares, is_nil}
use Rattle.vertex_lang.specs.Leaves.{Leaf, leaves_of, leaves_of_check, leaves_in, leaves_in_check}
use Rattle.vertex_lang.specs.Expressions.{Environment, value_of, holds_of, check_holds, expression_value}

abbrev value_layer : Expr-F Check Expr → Environment → Val
value_layer x words = expression_value (map-Expr Check Expr (Environment → Bool) (Environment → Val) holds_of value_of x) words

-- the value of an expression, given its topmost layer
value_rolls : (e : Expr) (x : Expr-F Check Expr) (words : Environment) → roll-Expr x ≡ e → value_of e words ≡ value_layer x words
unfolding value_of holds_of
value_rolls e x words r = ap (λ (d : Expr). value_of d words) (sym r) ∙ ap (λ (f : Environment → Val). f words) (fold-roll-Expr (Environment → Bool) (Environment → Val) check_holds expression_value x)

-- the values of some members
given-map : (words : Environment) (members : List Expr) → first_given (map (λ member. member words) (map value_of members)) ≡ first_given (map (λ member. value_of member words) members)
given-map words members = ap first_given (map-map (λ (member : Environment → Val). member words) value_of members)

pub value-If : (checks : List Check) (a b : Expr) (words : Environment) → value_of (expr.If checks a b) words ≡ cond (list_all (λ t. holds_of t words) checks) (value_of a words) (value_of b words)
value-If checks a b words = value_rolls _ (Expr-F.If checks a b) words (rolls-If checks a b) ∙ ap (λ (t : Bool). cond t (value_of a words) (value_of b words)) (list_all-map (λ holds. holds words) holds_of checks)

pub value-Else : (members : List Expr) (words : Environment) → value_of (expr.Else members) words ≡ first_given (map (λ member. value_of member words) members)
value-Else members words = value_rolls _ (Expr-F.Else members) words (rolls-Else members) ∙ given-map words members

pub value-Sum : (first : Expr) (rest : List (Bool × Expr)) (words : Environment) → value_of (expr.Sum first rest) words ≡ fold (λ sum member. added member.0 sum (value_of member.1 words)) (value_of first words) rest
value-Sum first rest words = value_rolls _ (Expr-F.Sum first rest) words (rolls-Sum first rest) ∙ fold-map (λ sum member. added member.0 sum (member.1 words)) (λ m. (m.0, value_of m.1)) (value_of first words) rest

pub value-Product : (first : Expr) (rest : List (Bool × Expr)) (words : Environment) → value_of (expr.Product first rest) words ≡ fold (λ product member. scaled member.0 product (value_of member.1 words)) (value_of first words) rest
value-Product first rest words = value_rolls _ (Expr-F.Product first rest) words (rolls-Product first rest) ∙ fold-map (λ product member. scaled member.0 product (member.1 words)) (λ m. (m.0, value_of m.1)) (value_of first words) rest

pub value-Minus : (a : Expr) (words : Environment) → value_of (expr.Minus a) words ≡ negated (value_of a words)
value-Minus a words = value_rolls _ (Expr-F.Minus a) words (rolls-Minus a)

pub value-Number : (z : ℤ) (words : Environment) → value_of (expr.Number z) words ≡ Num z
value-Number z words = value_rolls _ (Expr-F.Number z) words (rolls-Number z)

pub value-Nil : (words : Environment) → value_of expr.Nil words ≡ Nil
value-Nil words = value_rolls _ Expr-F.Nil words rolls-Nil

pub value-Id : (words : Environment) → value_of expr.Id words ≡ Num (pos words.id)
value-Id words = value_rolls _ Expr-F.Id words rolls-Id

pub value-Start : (words : Environment) → value_of expr.Start words ≡ words.start
value-Start words = value_rolls _ Expr-F.Start words rolls-Start

pub value-Value : (words : Environment) → value_of expr.Value words ≡ words.value
value-Value words = value_rolls _ Expr-F.Value words rolls-Value

pub value-Gathered : (words : Environment) → value_of expr.Gathered words ≡ words.gathered
value-Gathered words = value_rolls _ Expr-F.Gathered words rolls-Gathered

pub value-Count : (words : Environment) → value_of expr.Count words ≡ Num (pos words.count)
value-Count words = value_rolls _ Expr-F.Count words rolls-Count

pub value-Outdeg : (words : Environment) → value_of expr.Outdeg words ≡ Num (pos words.outdeg)
value-Outdeg words = value_rolls _ Expr-F.Outdeg words rolls-Outdeg

pub value-EdgeProp : (column : ℕ) (words : Environment) → value_of (expr.EdgeProp column) words ≡ words.edge_property column
value-EdgeProp column words = value_rolls _ (Expr-F.EdgeProp column) words (rolls-EdgeProp column)

pub value-NodeProp : (column : ℕ) (words : Environment) → value_of (expr.NodeProp column) words ≡ words.node_property column
value-NodeProp column words = value_rolls _ (Expr-F.NodeProp column) words (rolls-NodeProp column)

pub value-Least : (a b : Expr) (words : Environment) → value_of (expr.Least a b) words ≡ in_range (lesser (value_of a words) (value_of b words))
value-Least a b words = value_rolls _ (Expr-F.Least a b) words (rolls-Least a b)

pub value-Most : (a b : Expr) (words : Environment) → value_of (expr.Most a b) words ≡ in_range (greater (value_of a words) (value_of b words))
value-Most a b words = value_rolls _ (Expr-F.Most a b) words (rolls-Most a b)

-- whether a test holds, given its topmost layer
holds_rolls : (t : Check) (x : Check-F Check Expr) (words : Environment) → roll-Check x ≡ t → holds_of t words ≡ check_holds (map-Check Check Expr (Environment → Bool) (Environment → Val) holds_of value_of x) words
unfolding value_of holds_of
holds_rolls t x words r = ap (λ (d : Check). holds_of d words) (sym r) ∙ ap (λ (f : Environment → Bool). f words) (fold-roll-Check (Environment → Bool) (Environment → Val) check_holds expression_value x)

pub holds-Compare : (a : Expr) (sign : Cmp) (b : Expr) (words : Environment) → holds_of (check.Compare a sign b) words ≡ compares sign (value_of a words) (value_of b words)
holds-Compare a sign b words = holds_rolls _ (Check-F.Compare a sign b) words (rolls-Compare a sign b)

pub holds-IsNil : (a : Expr) (words : Environment) → holds_of (check.IsNil a) words ≡ is_nil (value_of a words)
holds-IsNil a words = holds_rolls _ (Check-F.IsNil a) words (rolls-IsNil a)

-- ---- numbers and words

leaves_rolls : (e : Expr) (x : Expr-F Check Expr) → roll-Expr x ≡ e → leaves_of e ≡ leaves_in (map-Expr Check Expr (List Leaf) (List Leaf) leaves_of_check leaves_of x)
unfolding leaves_of leaves_of_check
leaves_rolls e x r = ap leaves_of (sym r) ∙ fold-roll-Expr (List Leaf) (List Leaf) leaves_in_check leaves_in x

-- those of a chain
leaves-chain : (rest : List (Bool × Expr)) → flat_map (λ (p : Bool × List Leaf). p.1) (map (λ (m : Bool × Expr). (m.0, leaves_of m.1)) rest) ≡ flat_map (λ member. leaves_of member.1) rest
leaves-chain rest = flat_map-map (λ (p : Bool × List Leaf). p.1) (λ (m : Bool × Expr). (m.0, leaves_of m.1)) rest

pub leaves-If : (checks : List Check) (a b : Expr) → leaves_of (expr.If checks a b) ≡ flat_map leaves_of_check checks ++ (leaves_of a ++ leaves_of b)
leaves-If checks a b = leaves_rolls _ (Expr-F.If checks a b) (rolls-If checks a b) ∙ ap (λ (ls : List Leaf). ls ++ (leaves_of a ++ leaves_of b)) (flat_map-map (λ ls. ls) leaves_of_check checks)

pub leaves-Else : (members : List Expr) → leaves_of (expr.Else members) ≡ flat_map leaves_of members
leaves-Else members = leaves_rolls _ (Expr-F.Else members) (rolls-Else members) ∙ flat_map-map (λ ls. ls) leaves_of members

pub leaves-Sum : (first : Expr) (rest : List (Bool × Expr)) → leaves_of (expr.Sum first rest) ≡ leaves_of first ++ flat_map (λ member. leaves_of member.1) rest
leaves-Sum first rest = leaves_rolls _ (Expr-F.Sum first rest) (rolls-Sum first rest) ∙ ap (λ (ls : List Leaf). leaves_of first ++ ls) (leaves-chain rest)

pub leaves-Product : (first : Expr) (rest : List (Bool × Expr)) → leaves_of (expr.Product first rest) ≡ leaves_of first ++ flat_map (λ member. leaves_of member.1) rest
leaves-Product first rest = leaves_rolls _ (Expr-F.Product first rest) (rolls-Product first rest) ∙ ap (λ (ls : List Leaf). leaves_of first ++ ls) (leaves-chain rest)

pub leaves-Minus : (a : Expr) → leaves_of (expr.Minus a) ≡ leaves_of a
leaves-Minus a = leaves_rolls _ (Expr-F.Minus a) (rolls-Minus a)

pub leaves-Number : (z : ℤ) → leaves_of (expr.Number z) ≡ Leaf.number z ∷ []
leaves-Number z = leaves_rolls _ (Expr-F.Number z) (rolls-Number z)

pub leaves-Nil : leaves_of expr.Nil ≡ []
leaves-Nil = leaves_rolls _ Expr-F.Nil rolls-Nil

pub leaves-Id : leaves_of expr.Id ≡ Leaf.id ∷ []
leaves-Id = leaves_rolls _ Expr-F.Id rolls-Id

pub leaves-Start : leaves_of expr.Start ≡ Leaf.start ∷ []
leaves-Start = leaves_rolls _ Expr-F.Start rolls-Start

pub leaves-Value : leaves_of expr.Value ≡ Leaf.value ∷ []
leaves-Value = leaves_rolls _ Expr-F.Value rolls-Value

pub leaves-Gathered : leaves_of expr.Gathered ≡ Leaf.gathered ∷ []
leaves-Gathered = leaves_rolls _ Expr-F.Gathered rolls-Gathered

pub leaves-Count : leaves_of expr.Count ≡ Leaf.count ∷ []
leaves-Count = leaves_rolls _ Expr-F.Count rolls-Count

pub leaves-Outdeg : leaves_of expr.Outdeg ≡ Leaf.outdeg ∷ []
leaves-Outdeg = leaves_rolls _ Expr-F.Outdeg rolls-Outdeg

pub leaves-EdgeProp : (column : ℕ) → leaves_of (expr.EdgeProp column) ≡ Leaf.edge_property column ∷ []
leaves-EdgeProp column = leaves_rolls _ (Expr-F.EdgeProp column) (rolls-EdgeProp column)

pub leaves-NodeProp : (column : ℕ) → leaves_of (expr.NodeProp column) ≡ Leaf.node_property column ∷ []
leaves-NodeProp column = leaves_rolls _ (Expr-F.NodeProp column) (rolls-NodeProp column)

pub leaves-Least : (a b : Expr) → leaves_of (expr.Least a b) ≡ leaves_of a ++ leaves_of b
leaves-Least a b = leaves_rolls _ (Expr-F.Least a b) (rolls-Least a b)

pub leaves-Most : (a b : Expr) → leaves_of (expr.Most a b) ≡ leaves_of a ++ leaves_of b
leaves-Most a b = leaves_rolls _ (Expr-F.Most a b) (rolls-Most a b)

check_leaves_rolls : (t : Check) (x : Check-F Check Expr) → roll-Check x ≡ t → leaves_of_check t ≡ leaves_in_check (map-Check Check Expr (List Leaf) (List Leaf) leaves_of_check leaves_of x)
unfolding leaves_of leaves_of_check
check_leaves_rolls t x r = ap leaves_of_check (sym r) ∙ fold-roll-Check (List Leaf) (List Leaf) leaves_in_check leaves_in x

pub leaves-Compare : (a : Expr) (sign : Cmp) (b : Expr) → leaves_of_check (check.Compare a sign b) ≡ leaves_of a ++ leaves_of b
leaves-Compare a sign b = check_leaves_rolls _ (Check-F.Compare a sign b) (rolls-Compare a sign b)

pub leaves-IsNil : (a : Expr) → leaves_of_check (check.IsNil a) ≡ leaves_of a
leaves-IsNil a = check_leaves_rolls _ (Check-F.IsNil a) (rolls-IsNil a)
