-- The number -(2^63) is made by no expression, and by no gathering, that wasn't handed it.
use Rattle.std.specs.Prelude.{◌≡◌, ◌≢◌, ◌⊎◌, ◌++◌, ◌+◌, ◌<◌, nat_lt, if◌then◌else◌, length, All, ℕ, zero, suc, ℤ, pos, negsuc, ◌*ℤ◌, neg_ℤ, Bool, true, false, cond, int_lt, List, [], ◌∷◌, map, fold, flat_map, Contains}
use Rattle.std.specs.List.{list_all}
use Rattle.std.specs.Ordering.{int_eq}
use Rattle.std.specs.Int.RustNames.{int_div}
use Rattle.std.proofs.Common.{inl, inr, sym, ap, subst, ◌∙◌, lit<, add-one, arith}
use Rattle.std.proofs.lemmas.Bool.{cond_both, false≢true, true≢false, ltb-true}
use Rattle.std.proofs.lemmas.List.Elements.{All-contains, Contains-append_left, Contains-append_right}
use Rattle.std.proofs.lemmas.List.{get_or_default}
use Rattle.std.proofs.lemmas.List.FromFn.{get_or-map-range_with_len, length-map-range_with_len}
use Rattle.graph_model.specs.declared.value.Val.{Val}
use Rattle.graph_model.specs.declared.value.Val.TheVariants.{Nil, Num}
use Rattle.vertex_lang.specs.declared.program.Expr.{Expr}
use Rattle.vertex_lang.specs.declared.program.Check.{Check}
use Rattle.vertex_lang.specs.declared.program.Check.TheOpen.{Expr-F}
use Rattle.vertex_lang.specs.declared.program.Check.TheViews.{roll-Expr}
use Rattle.vertex_lang.specs.declared.program.Check.TheFolds.{fold-roll-Expr, map-Expr, ind-Expr}
use Rattle.graph_model.specs.declared.cell.Kind.{Kind}
use Rattle.graph_model.specs.GraphData.{GraphData, Cell, HasNodeCells, HasEdgeCells, IsCellOf, id_of, kind_at, node_cell_of, edge_cell_of}
use Rattle.vertex_lang.specs.declared.arc.Arc.{Arc}
use Rattle.vertex_lang.specs.declared.lone.Lone.{Lone}
use Rattle.vertex_lang.specs.declared.lone.Outcome.{Outcome}
use Rattle.vertex_lang.specs.declared.lone.Outcome.TheVariants as outcome
use Rattle.vertex_lang.specs.declared.lone.Rounds.{Rounds}
use Rattle.vertex_lang.specs.declared.lone.Rounds.TheVariants as rounds
use Rattle.vertex_lang.specs.declared.program.Gather.{Gather}
use Rattle.vertex_lang.specs.declared.program.Gather.TheVariants as gather
use Rattle.vertex_lang.specs.declared.program.Program.{Program}
use Rattle.vertex_lang.specs.Values.{clamped, greatest, least, lowest, lowest_number, added, multiplied, divided, scaled, negated, first_given, in_range, exact_sum, value_of_cell}
use Rattle.vertex_lang.specs.Leaves.{Leaf, HoldsNumber, leaves_of, leaves_of_check, leaves_in, leaves_in_check}
use Rattle.vertex_lang.specs.Expressions.{Answer, Environment, start_of, sent_by, updated, start_words, send_words, update_words, node_value, edge_value, no_property, value_of, holds_of, check_holds, expression_value}
use Rattle.vertex_lang.specs.Arcs.{IsArc, gathered_of, outdeg, total}
use Rattle.vertex_lang.specs.Rounds.{carried, lone, received, value_at}
use Rattle.vertex_lang.specs.Phases.{next_with_of, rounds_from, starts_of}
use Rattle.vertex_lang.specs.Lone.{IsAnswer, OutcomeIs}
use Rattle.vertex_lang.specs.ExtremeLaws.{contains-none, greatest-gathered, least-gathered}
use Rattle.vertex_lang.specs.MessageLaws.{message-from}
use Rattle.vertex_lang.specs.PhaseLaws.{from_starts, from_next, length-from, lone-from, next-with-at}

abbrev is_pos : ℤ → Bool
is_pos (pos n) = true
is_pos (negsuc n) = false

other_sign : (m n : ℕ) → pos m ≡ negsuc n → ⊥
other_sign m n e = true≢false (ap is_pos e)

other_number : least ≡ lowest_number → ⊥
other_number e = false≢true (ap (λ (n : ℤ). int_lt n least) e)

-- what was brought into the range is another number
not_clamped : (z : ℤ) → clamped z ≡ lowest_number → ⊥
not_clamped z = cond_both (int_lt greatest z) greatest (cond (int_lt z least) least z) (λ n. n ≡ lowest_number → ⊥) (λ t e. other_sign _ _ e) (λ t. cond_both (int_lt z least) least z (λ n. n ≡ lowest_number → ⊥) (λ u e. other_number e) (λ u e. false≢true (sym u ∙ ap (λ (n : ℤ). int_lt n least) e)))

abbrev number_in : Val → ℤ
number_in Nil = pos 0
number_in (Num z) = z

abbrev is_number : Val → Bool
is_number Nil = false
is_number (Num z) = true

not_nil : Nil ≡ lowest → ⊥
not_nil e = false≢true (ap is_number e)

not_in_range : (v : Val) → in_range v ≡ lowest → ⊥
not_in_range Nil e = not_nil e
not_in_range (Num z) e = not_clamped z (ap number_in e)

not_added : (plus : Bool) (v w : Val) → added plus v w ≡ lowest → ⊥
not_added plus Nil w e = not_nil e
not_added plus (Num a) Nil e = not_nil e
not_added plus (Num a) (Num b) e = not_clamped (exact_sum plus a b) (ap number_in e)

-- a chain that is that number begins with it
not_multiplied : (v w : Val) → multiplied v w ≡ lowest → ⊥
not_multiplied Nil w e = not_nil e
not_multiplied (Num a) Nil e = not_nil e
not_multiplied (Num a) (Num b) e = not_clamped (a *ℤ b) (ap number_in e)

not_divided : (v w : Val) → divided v w ≡ lowest → ⊥
not_divided Nil w e = not_nil e
not_divided (Num a) Nil e = not_nil e
not_divided (Num a) (Num b) e = cond_both (int_eq b (pos 0)) Nil (Num (clamped (int_div a b))) (λ v. v ≡ lowest → ⊥) (λ t e. not_nil e) (λ t e. not_clamped (int_div a b) (ap number_in e)) e

not_scaled : (times : Bool) (v w : Val) → scaled times v w ≡ lowest → ⊥
not_scaled true v w e = not_multiplied v w e
not_scaled false v w e = not_divided v w e

not_negated : (v : Val) → negated v ≡ lowest → ⊥
not_negated Nil e = not_nil e
not_negated (Num a) e = not_clamped (neg_ℤ a) (ap number_in e)

-- a chain whose steps never make it
first_lowest : {A : Type 0} (step : Val → A → Val) → ((v : Val) (m : A) → step v m ≡ lowest → ⊥) → (v : Val) (members : List A) → fold step v members ≡ lowest → v ≡ lowest
first_lowest step never v [] e = e
first_lowest step never v (m ∷ members) e = absurd (never v m (first_lowest step never (step v m) members e))

given_head : (v : Val) (rest : List Val) → first_given (v ∷ rest) ≡ lowest → (v ≡ lowest) ⊎ (first_given rest ≡ lowest)
given_head Nil rest e = inr e
given_head (Num z) rest e = inl e

-- in words whose properties aren't that number
module _ (words : Environment) (no_edge : (column : ℕ) → words.edge_property column ≢ lowest) (no_node : (column : ℕ) → words.node_property column ≢ lowest) where
  abbrev WasGiven : List Leaf → Type 0
  WasGiven leaves = Contains leaves (Leaf.number lowest_number) ⊎ ((words.start ≡ lowest) ⊎ ((words.value ≡ lowest) ⊎ (words.gathered ≡ lowest)))

  abbrev Given : Expr → Type 0
  Given e = value_of e words ≡ lowest → WasGiven (leaves_of e)

  wider : (ls ms : List Leaf) → ((x : Leaf) → Contains ls x → Contains ms x) → WasGiven ls → WasGiven ms
  wider ls ms more (inl h) = inl (more (Leaf.number lowest_number) h)
  wider ls ms more (inr h) = inr h

  left_of : (ls ms : List Leaf) → WasGiven ls → WasGiven (ls ++ ms)
  left_of ls ms = wider ls (ls ++ ms) (λ x k. Contains-append_left ls ms x k)

  right_of : (ls ms : List Leaf) → WasGiven ms → WasGiven (ls ++ ms)
  right_of ls ms = wider ms (ls ++ ms) (λ x k. Contains-append_right ls ms x k)

  value_roll : (x : Expr-F Check Expr) → value_of (roll-Expr x) words ≡ expression_value (map-Expr Check Expr (Environment → Bool) (Environment → Val) holds_of value_of x) words
  unfolding value_of holds_of
  value_roll x = ap (λ (f : Environment → Val). f words) (fold-roll-Expr (Environment → Bool) (Environment → Val) check_holds expression_value x)

  leaves_roll : (x : Expr-F Check Expr) → leaves_of (roll-Expr x) ≡ leaves_in (map-Expr Check Expr (List Leaf) (List Leaf) leaves_of_check leaves_of x)
  unfolding leaves_of leaves_of_check
  leaves_roll x = fold-roll-Expr (List Leaf) (List Leaf) leaves_in_check leaves_in x

  given_branch : (b : Bool) (x y : Expr) → Given x → Given y → cond b (value_of x words) (value_of y words) ≡ lowest → WasGiven (leaves_of x ++ leaves_of y)
  given_branch true x y p q e = left_of (leaves_of x) (leaves_of y) (p e)
  given_branch false x y p q e = right_of (leaves_of x) (leaves_of y) (q e)

  given_members : (B : Type 0) (g : B → Expr) → ((b : B) → Given (g b)) → (members : List B) → first_given (map (λ member. member words) (map value_of (map g members))) ≡ lowest → WasGiven (flat_map (λ ls. ls) (map leaves_of (map g members)))
  given_members B g h [] e = absurd (not_nil e)
  given_members B g h (m ∷ members) e = elim (given_head (value_of (g m) words) (map (λ member. member words) (map value_of (map g members))) e) [
    | inl here ↦ left_of (leaves_of (g m)) (flat_map (λ ls. ls) (map leaves_of (map g members))) (h m here)
    | inr later ↦ right_of (leaves_of (g m)) (flat_map (λ ls. ls) (map leaves_of (map g members))) (given_members B g h members later)
  ]

  given_at : (A B : Type 0) (f : A → Check) (g : B → Expr) → ((b : B) → Given (g b)) → (y : Expr-F A B) → Given (roll-Expr (map-Expr A B Check Expr f g y))
  given_at A B f g h (Expr-F.If checks first second) e =
      let whole = Expr-F.If (map f checks) (g first) (g second) in
      let holds = list_all (λ t. t words) (map holds_of (map f checks)) in
      let tests = flat_map (λ ls. ls) (map leaves_of_check (map f checks)) in
      let value : cond holds (value_of (g first) words) (value_of (g second) words) ≡ lowest = sym (value_roll whole) ∙ e in
      subst WasGiven (sym (leaves_roll whole)) (right_of tests (leaves_of (g first) ++ leaves_of (g second)) (given_branch holds (g first) (g second) (h first) (h second) value))
  given_at A B f g h (Expr-F.Else members) e =
      let whole = Expr-F.Else (map g members) in
      subst WasGiven (sym (leaves_roll whole)) (given_members B g h members (sym (value_roll whole) ∙ e))
  given_at A B f g h (Expr-F.Sum first rest) e =
      let whole = Expr-F.Sum (g first) (map (λ m. (m.0, g m.1)) rest) in
      let value = sym (value_roll whole) ∙ e in
      subst WasGiven (sym (leaves_roll whole)) (left_of (leaves_of (g first)) _ (h first (first_lowest {A = Bool × (Environment → Val)} (λ v p. added p.0 v (p.1 words)) (λ v p. not_added p.0 v (p.1 words)) (value_of (g first) words) (map (λ m. (m.0, value_of m.1)) (map (λ m. (m.0, g m.1)) rest)) value)))
  given_at A B f g h (Expr-F.Product first rest) e =
      let whole = Expr-F.Product (g first) (map (λ m. (m.0, g m.1)) rest) in
      let value = sym (value_roll whole) ∙ e in
      subst WasGiven (sym (leaves_roll whole)) (left_of (leaves_of (g first)) _ (h first (first_lowest {A = Bool × (Environment → Val)} (λ v p. scaled p.0 v (p.1 words)) (λ v p. not_scaled p.0 v (p.1 words)) (value_of (g first) words) (map (λ m. (m.0, value_of m.1)) (map (λ m. (m.0, g m.1)) rest)) value)))
  given_at A B f g h (Expr-F.Minus a) e = absurd (not_negated _ (sym (value_roll (Expr-F.Minus (g a))) ∙ e))
  given_at A B f g h (Expr-F.Number z) e =
      let same = ap number_in (sym (value_roll (Expr-F.Number z)) ∙ e) in
      subst WasGiven (sym (leaves_roll (Expr-F.Number z))) (inl (0, lit< tt, ap (λ (n : ℤ). Leaf.number n) same))
  given_at A B f g h Expr-F.Nil e = absurd (not_nil (sym (value_roll Expr-F.Nil) ∙ e))
  given_at A B f g h Expr-F.Id e = absurd (other_sign _ _ (ap number_in (sym (value_roll Expr-F.Id) ∙ e)))
  given_at A B f g h Expr-F.Start e = inr (inl (sym (value_roll Expr-F.Start) ∙ e))
  given_at A B f g h Expr-F.Value e = inr (inr (inl (sym (value_roll Expr-F.Value) ∙ e)))
  given_at A B f g h Expr-F.Gathered e = inr (inr (inr (sym (value_roll Expr-F.Gathered) ∙ e)))
  given_at A B f g h Expr-F.Count e = absurd (other_sign _ _ (ap number_in (sym (value_roll Expr-F.Count) ∙ e)))
  given_at A B f g h Expr-F.Outdeg e = absurd (other_sign _ _ (ap number_in (sym (value_roll Expr-F.Outdeg) ∙ e)))
  given_at A B f g h (Expr-F.EdgeProp column) e = absurd (no_edge column (sym (value_roll (Expr-F.EdgeProp column)) ∙ e))
  given_at A B f g h (Expr-F.NodeProp column) e = absurd (no_node column (sym (value_roll (Expr-F.NodeProp column)) ∙ e))
  given_at A B f g h (Expr-F.Least a b) e = absurd (not_in_range _ (sym (value_roll (Expr-F.Least (g a) (g b))) ∙ e))
  given_at A B f g h (Expr-F.Most a b) e = absurd (not_in_range _ (sym (value_roll (Expr-F.Most (g a) (g b))) ∙ e))

  given : (e : Expr) → Given e
  given = ind-Expr (λ _. Unit {0}) Given (λ x y e. tt) (λ x y e. subst (λ z. Given (roll-Expr z)) e (given_at _ _ (λ e. e.0) (λ e. e.0) (λ e. e.1) y))

no-property-lowest : (column : ℕ) → no_property column ≢ lowest
no-property-lowest column e = not_nil e

-- ---- updates

pub lowest_given : (p : Program) (id : ℕ) (start value gathered : Val) (count : ℕ) → updated p id start value gathered count ≡ lowest → HoldsNumber p lowest_number ⊎ ((start ≡ lowest) ⊎ ((value ≡ lowest) ⊎ (gathered ≡ lowest)))
lowest_given p id start value gathered count e =
    let words = update_words id start value gathered count in
    right_of words no-property-lowest no-property-lowest (leaves_of p.start) (leaves_of p.send ++ leaves_of p.update)
    (right_of words no-property-lowest no-property-lowest (leaves_of p.send) (leaves_of p.update) (given words no-property-lowest no-property-lowest p.update e))

-- ---- properties

cell-not-lowest : (kind : Kind) (c : Cell) → IsCellOf kind c → value_of_cell c ≢ lowest
cell-not-lowest kind Cell.absent h e = not_nil e
cell-not-lowest kind (Cell.int z) h e = h.1 (ap number_in e)
cell-not-lowest kind (Cell.str bytes) h e = not_nil e
cell-not-lowest kind (Cell.bool b) h e = not_nil e

column-not-lowest : (count column : ℕ) (v : Val) → (column < count → v ≢ lowest) → (if nat_lt column count then v else Nil) ≢ lowest
column-not-lowest count column v h = cond_both (nat_lt column count) v Nil (λ w. w ≢ lowest) (λ t. h (ltb-true column count t)) (λ t. not_nil)

node-not-lowest : (graph : GraphData) (v column : ℕ) → HasNodeCells graph → v < length graph.ids → node_value graph v column ≢ lowest
node-not-lowest graph v column cells low = column-not-lowest (length graph.node_columns) column (value_of_cell (node_cell_of graph v column)) (λ here. cell-not-lowest (kind_at graph.node_columns column) (node_cell_of graph v column) (cells.each v column low here))

edge-not-lowest : (graph : GraphData) (edge column : ℕ) → HasEdgeCells graph → edge < length graph.ends → edge_value graph edge column ≢ lowest
edge-not-lowest graph edge column cells low = column-not-lowest (length graph.edge_columns) column (value_of_cell (edge_cell_of graph edge column)) (λ here. cell-not-lowest (kind_at graph.edge_columns column) (edge_cell_of graph edge column) (cells.each edge column low here))

-- ---- starts and messages

start-held : (leaves : List Leaf) → Contains leaves (Leaf.number lowest_number) ⊎ ((Nil ≡ lowest) ⊎ ((Nil ≡ lowest) ⊎ (Nil ≡ lowest))) → Contains leaves (Leaf.number lowest_number)
start-held leaves (inl h) = h
start-held leaves (inr (inl e)) = absurd (not_nil e)
start-held leaves (inr (inr (inl e))) = absurd (not_nil e)
start-held leaves (inr (inr (inr e))) = absurd (not_nil e)

pub lowest_start : (p : Program) (graph : GraphData) (v : ℕ) → HasNodeCells graph → v < length graph.ids → start_of p graph v ≡ lowest → HoldsNumber p lowest_number
lowest_start p graph v cells low e =
    let words = start_words graph v in
    Contains-append_left (leaves_of p.start) (leaves_of p.send ++ leaves_of p.update) (Leaf.number lowest_number)
    (start-held (leaves_of p.start) (given words no-property-lowest (λ column. node-not-lowest graph v column cells low) p.start e))

sent-held : (leaves : List Leaf) (value : Val) → Contains leaves (Leaf.number lowest_number) ⊎ ((Nil ≡ lowest) ⊎ ((value ≡ lowest) ⊎ (Nil ≡ lowest))) → Contains leaves (Leaf.number lowest_number) ⊎ (value ≡ lowest)
sent-held leaves value (inl h) = inl h
sent-held leaves value (inr (inl e)) = absurd (not_nil e)
sent-held leaves value (inr (inr (inl e))) = inr e
sent-held leaves value (inr (inr (inr e))) = absurd (not_nil e)

held-in-send : (p : Program) (value : Val) → Contains (leaves_of p.send) (Leaf.number lowest_number) ⊎ (value ≡ lowest) → HoldsNumber p lowest_number ⊎ (value ≡ lowest)
held-in-send p value (inl h) = inl (Contains-append_right (leaves_of p.start) (leaves_of p.send ++ leaves_of p.update) (Leaf.number lowest_number) (Contains-append_left (leaves_of p.send) (leaves_of p.update) (Leaf.number lowest_number) h))
held-in-send p value (inr e) = inr e

pub lowest_sent : (p : Program) (graph : GraphData) (tail : ℕ) (value : Val) (outdeg edge : ℕ) → HasEdgeCells graph → edge < length graph.ends → sent_by p graph tail value outdeg edge ≡ lowest → HoldsNumber p lowest_number ⊎ (value ≡ lowest)
lowest_sent p graph tail value outdeg edge cells low e =
    let words = send_words graph tail value outdeg edge in
    held-in-send p value (sent-held (leaves_of p.send) value (given words (λ column. edge-not-lowest graph edge column cells low) no-property-lowest p.send e))

-- ---- gathering

pub lowest_gathered : (kind : Gather) (ms : List Val) → gathered_of kind ms ≡ lowest → Contains ms lowest
lowest_gathered gather.Min ms e = (least-gathered ms).member lowest_number e
lowest_gathered gather.Max ms e = (greatest-gathered ms).member lowest_number e
lowest_gathered gather.Sum ms e = absurd (not_clamped (total ms) (ap number_in e))
lowest_gathered gather.Count ms e = absurd (other_sign _ _ (ap number_in e))

-- ---- rounds

abbrev pub OnlyGiven : Answer → Type 0
OnlyGiven answer = (p : Program) (id : ℕ) (start value gathered : Val) (count : ℕ) → answer p id start value gathered count ≡ lowest → HoldsNumber p lowest_number ⊎ ((start ≡ lowest) ⊎ ((value ≡ lowest) ⊎ (gathered ≡ lowest)))

module _ (answer : Answer) (only : OnlyGiven answer) (p : Program) (graph : GraphData) (edges : HasEdgeCells graph) (arcs : List Arc) (are_arcs : All (IsArc graph) arcs)
    (starts : List Val) (Q : Type 0) (held : HoldsNumber p lowest_number → Q) (given_at : (v : ℕ) → v < length graph.ids → value_at starts v ≡ lowest → Q) where
  abbrev NoneMade : List Val → Type 0
  NoneMade values = (v : ℕ) → v < length graph.ids → value_at values v ≡ lowest → Q

  held-or-tail : (values : List Val) (a : Arc) → NoneMade values → IsArc graph a → HoldsNumber p lowest_number ⊎ (value_at values a.tail.0 ≡ lowest) → Q
  held-or-tail values a before is_arc (inl h) = held h
  held-or-tail values a before is_arc (inr e) = before a.tail.0 is_arc.tail e

  lowest-received : (values : List Val) (v : ℕ) → NoneMade values → Contains (received p graph arcs values v) lowest → Q
  lowest-received values v before h =
      let told = message-from (carried p graph arcs values) arcs v lowest h in
      let a = told.0 in
      let is_arc = All-contains (IsArc graph) arcs a are_arcs told.1 in
      held-or-tail values a before is_arc (lowest_sent p graph a.tail.0 (value_at values a.tail.0) (outdeg arcs a.tail.0) a.edge.0 edges is_arc.edge told.3)

  lowest-next : (values : List Val) (v : ℕ) → NoneMade values → v < length graph.ids → HoldsNumber p lowest_number ⊎ ((value_at starts v ≡ lowest) ⊎ ((value_at values v ≡ lowest) ⊎ (gathered_of p.gather (received p graph arcs values v) ≡ lowest))) → Q
  lowest-next values v before low (inl h) = held h
  lowest-next values v before low (inr (inl e)) = given_at v low e
  lowest-next values v before low (inr (inr (inl e))) = before v low e
  lowest-next values v before low (inr (inr (inr e))) = lowest-received values v before (lowest_gathered p.gather (received p graph arcs values v) e)

  lowest-from : (r : ℕ) → NoneMade (rounds_from answer p graph starts arcs r)
  lowest-from zero = λ v low e. given_at v low (ap (λ (vs : List Val). value_at vs v) (sym (from_starts answer p graph starts arcs)) ∙ e)
  lowest-from (suc r) = λ v low e.
      let values = rounds_from answer p graph starts arcs r in
      let at : value_at (rounds_from answer p graph starts arcs (r + 1)) v ≡ next_with_of answer p graph starts arcs values v =
      ap (λ (vs : List Val). value_at vs v) (from_next answer p graph starts arcs r) ∙ next-with-at answer p graph starts arcs values v low in
      let next : next_with_of answer p graph starts arcs values v ≡ lowest = sym at ∙ ap (λ k. value_at (rounds_from answer p graph starts arcs k) v) (add-one r) ∙ e in
      lowest-next values v (lowest-from r) low (only p (id_of graph v) (value_at starts v) (value_at values v) (gathered_of p.gather (received p graph arcs values v)) (length (received p graph arcs values v)) next)

  in-from : (r : ℕ) (values : List Val) → length starts ≡ length graph.ids → values ≡ rounds_from answer p graph starts arcs r → Contains values lowest → Q
  in-from r values size same h =
      let low : h.0 < length graph.ids = omega (arith, h.1, ap (λ (vs : List Val). length vs) same, length-from answer p graph starts arcs r size) in
      lowest-from r h.0 low (ap (λ (vs : List Val). value_at vs h.0) (sym same) ∙ get_or_default values h.0 Nil lowest h.1 ∙ h.2)

module _ (answer : Answer) (only : OnlyGiven answer) (p : Program) (graph : GraphData) (nodes : HasNodeCells graph) (edges : HasEdgeCells graph) (arcs : List Arc) (are_arcs : All (IsArc graph) arcs) where
  -- rounds that begin with given values
  pub lowest_in_rounds : (starts : List Val) (r : ℕ) (values : List Val) → length starts ≡ length graph.ids → values ≡ rounds_from answer p graph starts arcs r → Contains values lowest → HoldsNumber p lowest_number ⊎ Contains starts lowest
  lowest_in_rounds starts r values size same h =
      in-from answer only p graph edges arcs are_arcs starts (HoldsNumber p lowest_number ⊎ Contains starts lowest) (λ holds. inl holds)
      (λ v low e. let within : v < length starts = omega (arith, low, size) in inr (v, within, get_or_default starts v lowest Nil within ∙ e))
      r values size same h

  in-lone : (r : ℕ) (values : List Val) → values ≡ lone answer p graph arcs r → Contains values lowest → HoldsNumber p lowest_number
  in-lone r values same h =
      in-from answer only p graph edges arcs are_arcs (starts_of p graph) (HoldsNumber p lowest_number) (λ holds. holds)
      (λ v low e. lowest_start p graph v nodes low (sym (get_or-map-range_with_len (start_of p graph) 0 (length graph.ids) v v Nil low (omega arith)) ∙ e))
      r values (length-map-range_with_len (start_of p graph) 0 (length graph.ids)) (same ∙ lone-from answer p graph arcs r) h

  in-outcome : (n : ℕ) (o : Outcome) (values : List Val) → OutcomeIs (lone answer p graph arcs) n o values → Contains values lowest → HoldsNumber p lowest_number
  in-outcome n (outcome.Settled r) values h c = in-lone r values h.1 c
  in-outcome n (outcome.After r) values h c = absurd h
  in-outcome n (outcome.Phases r) values h c = absurd h
  in-outcome n outcome.Unsettled values h c = absurd (contains-none lowest (subst (λ vs. Contains vs lowest) h.1 c))

  pub lowest_in_answer : (limit : Rounds) (l : Lone) → IsAnswer answer p graph arcs limit l → Contains l.values lowest → HoldsNumber p lowest_number
  lowest_in_answer (rounds.Within n) l h c = in-outcome n l.outcome l.values h c
  lowest_in_answer (rounds.For n) l h c = in-lone n l.values h.1 c
