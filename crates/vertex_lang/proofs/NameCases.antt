-- Which words an expression names, by cases on its tree.
use Rattle.std.proofs.Common.{◌≡◌, ◌∙◌, ◌++◌, ◌∷◌, [], ℕ, ℤ, Bool, false, List, not, flat_map, ap, refl}
use Rattle.std.specs.Prelude.{◌||◌}
use Rattle.std.specs.List.{list_any}
use Rattle.std.proofs.lemmas.List.Folds.{list_any-append}
use Rattle.vertex_lang.specs.declared.names.Word.{Word}
use Rattle.vertex_lang.specs.declared.names.Word.TheVariants as word
use Rattle.vertex_lang.specs.declared.program.Cmp.{Cmp}
use Rattle.vertex_lang.specs.declared.program.Expr.{Expr}
use Rattle.vertex_lang.specs.declared.program.Expr.TheVariants as expr
use Rattle.vertex_lang.specs.declared.program.Check.{Check}
use Rattle.vertex_lang.specs.declared.program.Check.TheVariants as check
use Rattle.vertex_lang.specs.Leaves.{Leaf, leaves_of, leaves_of_check}
use Rattle.vertex_lang.specs.Named.{is_edge_property, is_outdeg, is_sought, seeks_outdeg, names, check_names, names_edge, names_outdeg}
use Rattle.vertex_lang.specs.Trees.{leaves-If, leaves-Else, leaves-Sum, leaves-Product, leaves-Minus, leaves-Number, leaves-Nil, leaves-Id, leaves-Start, leaves-Value, leaves-Gathered, leaves-Count, leaves-Outdeg, leaves-EdgeProp, leaves-NodeProp, leaves-Least, leaves-Most, leaves-Compare, leaves-IsNil}

pub edge-names : (e : Expr) → names word.EdgeProperty e ≡ names_edge e
unfolding names
edge-names e = refl

pub outdeg-names : (e : Expr) → names word.Outdeg e ≡ names_outdeg e
unfolding names
outdeg-names e = refl

flat-any : {X : Type 0} (p : Leaf → Bool) (f : X → List Leaf) (xs : List X) → list_any p (flat_map f xs) ≡ list_any (λ x. list_any p (f x)) xs
flat-any p f [] = refl
flat-any p f (x ∷ xs) = list_any-append p (f x) (flat_map f xs) ∙ ap (λ b. list_any p (f x) || b) (flat-any p f xs)

pub names-If : (w : Word) (checks : List Check) (a b : Expr) → names w (expr.If checks a b) ≡ (list_any (λ t. check_names w t) checks || (names w a || names w b))
unfolding names check_names
names-If w checks a b =
    ap (list_any (is_sought w)) (leaves-If checks a b)
    ∙ list_any-append (is_sought w) (flat_map leaves_of_check checks) (leaves_of a ++ leaves_of b)
    ∙ ap (λ t. t || list_any (is_sought w) (leaves_of a ++ leaves_of b)) (flat-any (is_sought w) leaves_of_check checks)
    ∙ ap (λ t. list_any (λ x. list_any (is_sought w) (leaves_of_check x)) checks || t) (list_any-append (is_sought w) (leaves_of a) (leaves_of b))

pub names-Else : (w : Word) (members : List Expr) → names w (expr.Else members) ≡ list_any (λ m. names w m) members
unfolding names
names-Else w members = ap (list_any (is_sought w)) (leaves-Else members) ∙ flat-any (is_sought w) leaves_of members

pub names-Sum : (w : Word) (first : Expr) (rest : List (Bool × Expr)) → names w (expr.Sum first rest) ≡ (names w first || list_any (λ (m : Bool × Expr). names w m.1) rest)
unfolding names
names-Sum w first rest =
    let f = λ (m : Bool × Expr). leaves_of m.1 in
    ap (list_any (is_sought w)) (leaves-Sum first rest) ∙ list_any-append (is_sought w) (leaves_of first) (flat_map f rest) ∙ ap (λ t. list_any (is_sought w) (leaves_of first) || t) (flat-any (is_sought w) f rest)

pub names-Product : (w : Word) (first : Expr) (rest : List (Bool × Expr)) → names w (expr.Product first rest) ≡ (names w first || list_any (λ (m : Bool × Expr). names w m.1) rest)
unfolding names
names-Product w first rest =
    let f = λ (m : Bool × Expr). leaves_of m.1 in
    ap (list_any (is_sought w)) (leaves-Product first rest) ∙ list_any-append (is_sought w) (leaves_of first) (flat_map f rest) ∙ ap (λ t. list_any (is_sought w) (leaves_of first) || t) (flat-any (is_sought w) f rest)

pub names-Minus : (w : Word) (a : Expr) → names w (expr.Minus a) ≡ names w a
unfolding names
names-Minus w a = ap (list_any (is_sought w)) (leaves-Minus a)

pub names-Least : (w : Word) (a b : Expr) → names w (expr.Least a b) ≡ (names w a || names w b)
unfolding names
names-Least w a b = ap (list_any (is_sought w)) (leaves-Least a b) ∙ list_any-append (is_sought w) (leaves_of a) (leaves_of b)

pub names-Most : (w : Word) (a b : Expr) → names w (expr.Most a b) ≡ (names w a || names w b)
unfolding names
names-Most w a b = ap (list_any (is_sought w)) (leaves-Most a b) ∙ list_any-append (is_sought w) (leaves_of a) (leaves_of b)

pub names-Compare : (w : Word) (a : Expr) (sign : Cmp) (b : Expr) → check_names w (check.Compare a sign b) ≡ (names w a || names w b)
unfolding names check_names
names-Compare w a sign b = ap (list_any (is_sought w)) (leaves-Compare a sign b) ∙ list_any-append (is_sought w) (leaves_of a) (leaves_of b)

pub names-IsNil : (w : Word) (a : Expr) → check_names w (check.IsNil a) ≡ names w a
unfolding names check_names
names-IsNil w a = ap (list_any (is_sought w)) (leaves-IsNil a)

-- ---- words alone

other-word : (w : Word) (l : Leaf) → is_edge_property l ≡ false → is_outdeg l ≡ false → list_any (is_sought w) (l ∷ []) ≡ false
other-word word.EdgeProperty l e f = ap (λ b. b || false) e
other-word word.Outdeg l e f = ap (λ b. b || false) f

pub names-Nil : (w : Word) → names w expr.Nil ≡ false
unfolding names
names-Nil w = ap (list_any (is_sought w)) leaves-Nil

pub names-Number : (w : Word) (z : ℤ) → names w (expr.Number z) ≡ false
unfolding names
names-Number w z = ap (list_any (is_sought w)) (leaves-Number z) ∙ other-word w (Leaf.number z) refl refl

pub names-Id : (w : Word) → names w expr.Id ≡ false
unfolding names
names-Id w = ap (list_any (is_sought w)) leaves-Id ∙ other-word w Leaf.id refl refl

pub names-Start : (w : Word) → names w expr.Start ≡ false
unfolding names
names-Start w = ap (list_any (is_sought w)) leaves-Start ∙ other-word w Leaf.start refl refl

pub names-Value : (w : Word) → names w expr.Value ≡ false
unfolding names
names-Value w = ap (list_any (is_sought w)) leaves-Value ∙ other-word w Leaf.value refl refl

pub names-Gathered : (w : Word) → names w expr.Gathered ≡ false
unfolding names
names-Gathered w = ap (list_any (is_sought w)) leaves-Gathered ∙ other-word w Leaf.gathered refl refl

pub names-Count : (w : Word) → names w expr.Count ≡ false
unfolding names
names-Count w = ap (list_any (is_sought w)) leaves-Count ∙ other-word w Leaf.count refl refl

pub names-NodeProp : (w : Word) (column : ℕ) → names w (expr.NodeProp column) ≡ false
unfolding names
names-NodeProp w column = ap (list_any (is_sought w)) (leaves-NodeProp column) ∙ other-word w (Leaf.node_property column) refl refl

edge-word : (w : Word) (column : ℕ) → list_any (is_sought w) (Leaf.edge_property column ∷ []) ≡ not (seeks_outdeg w)
edge-word word.EdgeProperty column = refl
edge-word word.Outdeg column = refl

outdeg-word : (w : Word) → list_any (is_sought w) (Leaf.outdeg ∷ []) ≡ seeks_outdeg w
outdeg-word word.EdgeProperty = refl
outdeg-word word.Outdeg = refl

pub names-EdgeProp : (w : Word) (column : ℕ) → names w (expr.EdgeProp column) ≡ not (seeks_outdeg w)
unfolding names
names-EdgeProp w column = ap (list_any (is_sought w)) (leaves-EdgeProp column) ∙ edge-word w column

pub names-Outdeg : (w : Word) → names w expr.Outdeg ≡ seeks_outdeg w
unfolding names
names-Outdeg w = ap (list_any (is_sought w)) leaves-Outdeg ∙ outdeg-word w
