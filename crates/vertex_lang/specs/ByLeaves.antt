-- The value of an expression depends on the words alone that it names.
use Rattle.std.specs.Prelude.{◌≡◌, ◌++◌, ℕ, pos, Bool, true, false, ◌||◌, ◌&&◌, cond, List, [], ◌∷◌, map, fold, flat_map, Contains, refl}
use Rattle.std.specs.List.{list_all, list_any}
use Rattle.std.proofs.Common.{ap, sym, subst, ◌∙◌, inl, inr}
use Rattle.std.proofs.lemmas.Bool.{true≢false}
use Rattle.std.proofs.lemmas.List.Elements.{Contains-append_left, Contains-append_right}
use Rattle.graph_model.specs.declared.value.Val.{Val}
use Rattle.graph_model.specs.declared.value.Val.TheVariants.{Nil, Num}
use Rattle.vertex_lang.specs.declared.program.Expr.{Expr}
use Rattle.vertex_lang.specs.declared.program.Check.{Check}
use Rattle.vertex_lang.specs.declared.program.Check.TheOpen.{Expr-F, Check-F}
use Rattle.vertex_lang.specs.declared.program.Check.TheViews.{roll-Expr, roll-Check}
use Rattle.vertex_lang.specs.declared.program.Check.TheFolds.{fold-roll-Expr, fold-roll-Check, map-Expr, map-Check, ind-Expr}
use Rattle.vertex_lang.specs.Values.{added, scaled, negated, first_given, lesser, greater, in_range, compares, is_nil}
use Rattle.vertex_lang.specs.Leaves.{Leaf, leaves_of, leaves_of_check, leaves_in, leaves_in_check}
use Rattle.vertex_lang.specs.Expressions.{Environment, value_of, holds_of, check_holds, expression_value}
use Rattle.vertex_lang.specs.ExtremeLaws.{contains-here, contains-none, contains-cases}
use Rattle.vertex_lang.specs.Named.{is_edge_property, is_outdeg, names_edge, names_outdeg}
use Rattle.vertex_lang.specs.Ignoring.{IgnoresEdge, IgnoresOutdeg, on_edge, with_outdeg}

-- what a word stands for
abbrev pub leaf_value : Environment → Leaf → Val
leaf_value words (Leaf.number z) = Num z
leaf_value words Leaf.id = Num (pos words.id)
leaf_value words Leaf.start = words.start
leaf_value words Leaf.value = words.value
leaf_value words Leaf.gathered = words.gathered
leaf_value words Leaf.count = Num (pos words.count)
leaf_value words Leaf.outdeg = Num (pos words.outdeg)
leaf_value words (Leaf.edge_property column) = words.edge_property column
leaf_value words (Leaf.node_property column) = words.node_property column

value_roll : (words : Environment) (x : Expr-F Check Expr) → value_of (roll-Expr x) words ≡ expression_value (map-Expr Check Expr (Environment → Bool) (Environment → Val) holds_of value_of x) words
unfolding value_of holds_of
value_roll words x = ap (λ (f : Environment → Val). f words) (fold-roll-Expr (Environment → Bool) (Environment → Val) check_holds expression_value x)

holds_roll : (words : Environment) (x : Check-F Check Expr) → holds_of (roll-Check x) words ≡ check_holds (map-Check Check Expr (Environment → Bool) (Environment → Val) holds_of value_of x) words
unfolding value_of holds_of
holds_roll words x = ap (λ (f : Environment → Bool). f words) (fold-roll-Check (Environment → Bool) (Environment → Val) check_holds expression_value x)

leaves_roll : (x : Expr-F Check Expr) → leaves_of (roll-Expr x) ≡ leaves_in (map-Expr Check Expr (List Leaf) (List Leaf) leaves_of_check leaves_of x)
unfolding leaves_of leaves_of_check
leaves_roll x = fold-roll-Expr (List Leaf) (List Leaf) leaves_in_check leaves_in x

check_leaves_roll : (x : Check-F Check Expr) → leaves_of_check (roll-Check x) ≡ leaves_in_check (map-Check Check Expr (List Leaf) (List Leaf) leaves_of_check leaves_of x)
unfolding leaves_of leaves_of_check
check_leaves_roll x = fold-roll-Check (List Leaf) (List Leaf) leaves_in_check leaves_in x

module _ (words other : Environment) where
  -- the words stand for the same in both
  abbrev Agree : List Leaf → Type 0
  Agree leaves = (l : Leaf) → Contains leaves l → leaf_value words l ≡ leaf_value other l

  abbrev Same : Expr → Type 0
  Same e = Agree (leaves_of e) → value_of e words ≡ value_of e other

  abbrev SameCheck : Check → Type 0
  SameCheck t = Agree (leaves_of_check t) → holds_of t words ≡ holds_of t other

  left : (ls ms : List Leaf) → Agree (ls ++ ms) → Agree ls
  left ls ms a = λ l h. a l (Contains-append_left ls ms l h)

  right : (ls ms : List Leaf) → Agree (ls ++ ms) → Agree ms
  right ls ms a = λ l h. a l (Contains-append_right ls ms l h)

  -- ---- lists of parts

  same-checks : (A : Type 0) (f : A → Check) → ((a : A) → SameCheck (f a)) → (checks : List A) → Agree (flat_map (λ ls. ls) (map leaves_of_check (map f checks)))
      → list_all (λ t. t words) (map holds_of (map f checks)) ≡ list_all (λ t. t other) (map holds_of (map f checks))
  same-checks A f h [] a = refl
  same-checks A f h (t ∷ checks) a =
      let rest = flat_map (λ ls. ls) (map leaves_of_check (map f checks)) in
      ap (λ b. b && list_all (λ t. t words) (map holds_of (map f checks))) (h t (left (leaves_of_check (f t)) rest a))
      ∙ ap (λ b. holds_of (f t) other && b) (same-checks A f h checks (right (leaves_of_check (f t)) rest a))

  given-by : (v w : Val) (vs ws : List Val) → v ≡ w → first_given vs ≡ first_given ws → first_given (v ∷ vs) ≡ first_given (w ∷ ws)
  given-by v w vs ws e f = subst (λ x. first_given (v ∷ vs) ≡ first_given (x ∷ ws)) e (given-rest v vs ws f) where
    given-rest : (v : Val) (vs ws : List Val) → first_given vs ≡ first_given ws → first_given (v ∷ vs) ≡ first_given (v ∷ ws)
    given-rest Nil vs ws f = f
    given-rest (Num z) vs ws f = refl

  same-members : (B : Type 0) (g : B → Expr) → ((b : B) → Same (g b)) → (members : List B) → Agree (flat_map (λ ls. ls) (map leaves_of (map g members)))
      → first_given (map (λ m. m words) (map value_of (map g members))) ≡ first_given (map (λ m. m other) (map value_of (map g members)))
  same-members B g h [] a = refl
  same-members B g h (m ∷ members) a =
      let rest = flat_map (λ ls. ls) (map leaves_of (map g members)) in
      given-by (value_of (g m) words) (value_of (g m) other) (map (λ m. m words) (map value_of (map g members))) (map (λ m. m other) (map value_of (map g members)))
      (h m (left (leaves_of (g m)) rest a)) (same-members B g h members (right (leaves_of (g m)) rest a))

  abbrev chain_leaves : (B : Type 0) (g : B → Expr) → List (Bool × B) → List Leaf
  chain_leaves B g rest = flat_map (λ (p : Bool × List Leaf). p.1) (map (λ (m : Bool × Expr). (m.0, leaves_of m.1)) (map (λ (m : Bool × B). (m.0, g m.1)) rest))

  abbrev chain_values : (B : Type 0) (g : B → Expr) → List (Bool × B) → List (Bool × (Environment → Val))
  chain_values B g rest = map (λ (m : Bool × Expr). (m.0, value_of m.1)) (map (λ (m : Bool × B). (m.0, g m.1)) rest)

  same-chain : (step : Bool → Val → Val → Val) (B : Type 0) (g : B → Expr) → ((b : B) → Same (g b)) → (rest : List (Bool × B)) (v w : Val) → v ≡ w
      → Agree (chain_leaves B g rest)
      → fold (λ (sum : Val) (m : Bool × (Environment → Val)). step m.0 sum (m.1 words)) v (chain_values B g rest) ≡ fold (λ (sum : Val) (m : Bool × (Environment → Val)). step m.0 sum (m.1 other)) w (chain_values B g rest)
  same-chain step B g h [] v w e a = e
  same-chain step B g h (m ∷ rest) v w e a =
      let later = chain_leaves B g rest in
      let here = h m.1 (left (leaves_of (g m.1)) later a) in
      same-chain step B g h rest (step m.0 v (value_of (g m.1) words)) (step m.0 w (value_of (g m.1) other)) (ap (λ x. step m.0 x (value_of (g m.1) words)) e ∙ ap (λ x. step m.0 w x) here) (right (leaves_of (g m.1)) later a)

  -- ---- layer by layer

  atom : (x : Expr-F Check Expr) (l : Leaf) → leaves_of (roll-Expr x) ≡ l ∷ [] → value_of (roll-Expr x) words ≡ leaf_value words l → value_of (roll-Expr x) other ≡ leaf_value other l → Same (roll-Expr x)
  atom x l ls e f a = e ∙ a l (subst (λ ms. Contains ms l) (sym ls) (contains-here l [])) ∙ sym f

  two-by : {X : Type 0} (join : Val → Val → X) (v v' w w' : Val) → v ≡ v' → w ≡ w' → join v w ≡ join v' w'
  two-by join v v' w w' e f = ap (λ x. join x w) e ∙ ap (λ x. join v' x) f

  branch-by : (b c : Bool) (v v' w w' : Val) → b ≡ c → v ≡ v' → w ≡ w' → cond b v w ≡ cond c v' w'
  branch-by b c v v' w w' d e f = ap (λ x. cond x v w) d ∙ ap (λ x. cond c x w) e ∙ ap (λ x. cond c v' x) f

  same-at : (A B : Type 0) (f : A → Check) (g : B → Expr) → ((a : A) → SameCheck (f a)) → ((b : B) → Same (g b)) → (y : Expr-F A B) → Same (roll-Expr (map-Expr A B Check Expr f g y))
  same-at A B f g h k (Expr-F.If checks first second) a =
      let whole = Expr-F.If (map f checks) (g first) (g second) in
      let all = subst Agree (leaves_roll whole) a in
      let tests = flat_map (λ ls. ls) (map leaves_of_check (map f checks)) in
      let branches = right tests (leaves_of (g first) ++ leaves_of (g second)) all in
      value_roll words whole
      ∙ branch-by _ _ _ _ _ _ (same-checks A f h checks (left tests (leaves_of (g first) ++ leaves_of (g second)) all)) (k first (left (leaves_of (g first)) (leaves_of (g second)) branches)) (k second (right (leaves_of (g first)) (leaves_of (g second)) branches))
      ∙ sym (value_roll other whole)
  same-at A B f g h k (Expr-F.Else members) a =
      let whole = Expr-F.Else (map g members) in
      value_roll words whole ∙ same-members B g k members (subst Agree (leaves_roll whole) a) ∙ sym (value_roll other whole)
  same-at A B f g h k (Expr-F.Sum first rest) a =
      let whole = Expr-F.Sum (g first) (map (λ (m : Bool × B). (m.0, g m.1)) rest) in
      let all = subst Agree (leaves_roll whole) a in
      let later = chain_leaves B g rest in
      value_roll words whole ∙ same-chain added B g k rest (value_of (g first) words) (value_of (g first) other) (k first (left (leaves_of (g first)) later all)) (right (leaves_of (g first)) later all) ∙ sym (value_roll other whole)
  same-at A B f g h k (Expr-F.Product first rest) a =
      let whole = Expr-F.Product (g first) (map (λ (m : Bool × B). (m.0, g m.1)) rest) in
      let all = subst Agree (leaves_roll whole) a in
      let later = chain_leaves B g rest in
      value_roll words whole ∙ same-chain scaled B g k rest (value_of (g first) words) (value_of (g first) other) (k first (left (leaves_of (g first)) later all)) (right (leaves_of (g first)) later all) ∙ sym (value_roll other whole)
  same-at A B f g h k (Expr-F.Minus e) a =
      let whole = Expr-F.Minus (g e) in
      value_roll words whole ∙ ap negated (k e (subst Agree (leaves_roll whole) a)) ∙ sym (value_roll other whole)
  same-at A B f g h k (Expr-F.Number z) a = atom (Expr-F.Number z) (Leaf.number z) (leaves_roll (Expr-F.Number z)) (value_roll words (Expr-F.Number z)) (value_roll other (Expr-F.Number z)) a
  same-at A B f g h k Expr-F.Nil a = value_roll words Expr-F.Nil ∙ sym (value_roll other Expr-F.Nil)
  same-at A B f g h k Expr-F.Id a = atom Expr-F.Id Leaf.id (leaves_roll Expr-F.Id) (value_roll words Expr-F.Id) (value_roll other Expr-F.Id) a
  same-at A B f g h k Expr-F.Start a = atom Expr-F.Start Leaf.start (leaves_roll Expr-F.Start) (value_roll words Expr-F.Start) (value_roll other Expr-F.Start) a
  same-at A B f g h k Expr-F.Value a = atom Expr-F.Value Leaf.value (leaves_roll Expr-F.Value) (value_roll words Expr-F.Value) (value_roll other Expr-F.Value) a
  same-at A B f g h k Expr-F.Gathered a = atom Expr-F.Gathered Leaf.gathered (leaves_roll Expr-F.Gathered) (value_roll words Expr-F.Gathered) (value_roll other Expr-F.Gathered) a
  same-at A B f g h k Expr-F.Count a = atom Expr-F.Count Leaf.count (leaves_roll Expr-F.Count) (value_roll words Expr-F.Count) (value_roll other Expr-F.Count) a
  same-at A B f g h k Expr-F.Outdeg a = atom Expr-F.Outdeg Leaf.outdeg (leaves_roll Expr-F.Outdeg) (value_roll words Expr-F.Outdeg) (value_roll other Expr-F.Outdeg) a
  same-at A B f g h k (Expr-F.EdgeProp column) a = atom (Expr-F.EdgeProp column) (Leaf.edge_property column) (leaves_roll (Expr-F.EdgeProp column)) (value_roll words (Expr-F.EdgeProp column)) (value_roll other (Expr-F.EdgeProp column)) a
  same-at A B f g h k (Expr-F.NodeProp column) a = atom (Expr-F.NodeProp column) (Leaf.node_property column) (leaves_roll (Expr-F.NodeProp column)) (value_roll words (Expr-F.NodeProp column)) (value_roll other (Expr-F.NodeProp column)) a
  same-at A B f g h k (Expr-F.Least d e) a =
      let whole = Expr-F.Least (g d) (g e) in
      let all = subst Agree (leaves_roll whole) a in
      value_roll words whole ∙ two-by (λ v w. in_range (lesser v w)) _ _ _ _ (k d (left (leaves_of (g d)) (leaves_of (g e)) all)) (k e (right (leaves_of (g d)) (leaves_of (g e)) all)) ∙ sym (value_roll other whole)
  same-at A B f g h k (Expr-F.Most d e) a =
      let whole = Expr-F.Most (g d) (g e) in
      let all = subst Agree (leaves_roll whole) a in
      value_roll words whole ∙ two-by (λ v w. in_range (greater v w)) _ _ _ _ (k d (left (leaves_of (g d)) (leaves_of (g e)) all)) (k e (right (leaves_of (g d)) (leaves_of (g e)) all)) ∙ sym (value_roll other whole)

  check-at : (A B : Type 0) (f : A → Check) (g : B → Expr) → ((b : B) → Same (g b)) → (y : Check-F A B) → SameCheck (roll-Check (map-Check A B Check Expr f g y))
  check-at A B f g k (Check-F.Compare d sign e) a =
      let whole = Check-F.Compare (g d) sign (g e) in
      let all = subst Agree (check_leaves_roll whole) a in
      holds_roll words whole ∙ two-by (λ v w. compares sign v w) _ _ _ _ (k d (left (leaves_of (g d)) (leaves_of (g e)) all)) (k e (right (leaves_of (g d)) (leaves_of (g e)) all)) ∙ sym (holds_roll other whole)
  check-at A B f g k (Check-F.IsNil e) a =
      let whole = Check-F.IsNil (g e) in
      holds_roll words whole ∙ ap is_nil (k e (subst Agree (check_leaves_roll whole) a)) ∙ sym (holds_roll other whole)

  -- an expression that names words alone that stand for the same in both has the same value in both
  pub value-by-leaves : (e : Expr) → Same e
  value-by-leaves = ind-Expr SameCheck Same (λ x y e. subst (λ z. SameCheck (roll-Check z)) e (check-at _ _ (λ e. e.0) (λ e. e.0) (λ e. e.1) y)) (λ x y e. subst (λ z. Same (roll-Expr z)) e (same-at _ _ (λ e. e.0) (λ e. e.0) (λ e. e.1) (λ e. e.1) y))

-- ---- what an expression doesn't name its value doesn't depend on

any-here : (p : Leaf → Bool) (ls : List Leaf) (l : Leaf) → list_any p ls ≡ false → Contains ls l → p l ≡ false
any-here p [] l e h = absurd (contains-none l h)
any-here p (m ∷ ls) l e h = elim (contains-cases m ls l h) [
  | inl here ↦ subst (λ x. p x ≡ false) here (first (p m) (list_any p ls) e)
  | inr later ↦ any-here p ls l (second (p m) (list_any p ls) e) later
] where
  first : (a b : Bool) → (a || b) ≡ false → a ≡ false
  first true b e = absurd (true≢false e)
  first false b e = refl

  second : (a b : Bool) → (a || b) ≡ false → b ≡ false
  second true b e = absurd (true≢false e)
  second false b e = e

same-edges : (words : Environment) (f g : ℕ → Val) (l : Leaf) → is_edge_property l ≡ false → leaf_value (on_edge words f) l ≡ leaf_value (on_edge words g) l
same-edges words f g (Leaf.number z) e = refl
same-edges words f g Leaf.id e = refl
same-edges words f g Leaf.start e = refl
same-edges words f g Leaf.value e = refl
same-edges words f g Leaf.gathered e = refl
same-edges words f g Leaf.count e = refl
same-edges words f g Leaf.outdeg e = refl
same-edges words f g (Leaf.edge_property column) e = absurd (true≢false e)
same-edges words f g (Leaf.node_property column) e = refl

pub ignores-edge : (e : Expr) → names_edge e ≡ false → IgnoresEdge e
ignores-edge e none words f g = value-by-leaves (on_edge words f) (on_edge words g) e (λ l h. same-edges words f g l (any-here is_edge_property (leaves_of e) l none h))

same-outdegs : (words : Environment) (m n : ℕ) (l : Leaf) → is_outdeg l ≡ false → leaf_value (with_outdeg words m) l ≡ leaf_value (with_outdeg words n) l
same-outdegs words m n (Leaf.number z) e = refl
same-outdegs words m n Leaf.id e = refl
same-outdegs words m n Leaf.start e = refl
same-outdegs words m n Leaf.value e = refl
same-outdegs words m n Leaf.gathered e = refl
same-outdegs words m n Leaf.count e = refl
same-outdegs words m n Leaf.outdeg e = absurd (true≢false e)
same-outdegs words m n (Leaf.edge_property column) e = refl
same-outdegs words m n (Leaf.node_property column) e = refl

pub ignores-outdeg : (e : Expr) → names_outdeg e ≡ false → IgnoresOutdeg e
ignores-outdeg e none words m n = value-by-leaves (with_outdeg words m) (with_outdeg words n) e (λ l h. same-outdegs words m n l (any-here is_outdeg (leaves_of e) l none h))
