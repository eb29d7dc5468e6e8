-- The laws, of two neighbouring views.
use Rattle.std.specs.Prelude.{◌≡◌, ◌≢◌, ℕ, zero, suc, ◌+◌, ◌<◌, ◌≤◌, ◌^◌, ◌==◌, Bool, true, false, List, [], ◌∷◌, ◌++◌, length, map, filter, take, drop, Option, Some, None, if◌then◌else◌, refl}
use Rattle.std.specs.List.{sum_by, range_with_len}
use Rattle.std.specs.declared.cmp.Ordering.{Ordering}
use Rattle.std.proofs.Common.{arith, ap, sym, subst, ◌∙◌, inl, inr, eqb-true, length-take}
use Rattle.std.proofs.lemmas.Bool.Decides.{nat_tests}
use Rattle.std.proofs.lemmas.List.{take-append-drop}
use Rattle.std.proofs.lemmas.List.Sums.{sum_by-cons}
use Rattle.lattice_time.specs.declared.pair.Pair.{Pair}
use Rattle.lattice_time.specs.declared.round.Round.{Round}
use Rattle.lattice_time.specs.Lattice.{IsLattice}
use Rattle.flow_core.specs.Runs.{Step, Member}
use Rattle.reduce_theory.specs.Counts.{Apart}
use Rattle.graph_model.specs.declared.number.NodeNo.{NodeNo}
use Rattle.graph_model.specs.declared.value.Val.{Val}
use Rattle.graph_model.specs.GraphData.{GraphData, node}
use Rattle.vertex_lang.specs.declared.arc.Arc.{Arc}
use Rattle.vertex_lang.specs.declared.program.Program.{Program}
use Rattle.vertex_lang.specs.Arcs.{messages, is_sent}
use Rattle.vertex_lang.specs.Expressions.{Answer}
use Rattle.vertex_lang.specs.Rounds.{nodes_of, carried, received, lone}
use Rattle.lone_work.specs.Items.{Item}
use Rattle.lone_work.specs.Inputs.{input, input_in}
use Rattle.lone_work.specs.Work.{is_counted, rounds_counted, node_counted, work}
use Rattle.work_theory.specs.Laps.{Turn, LapOver}
use Rattle.work_theory.specs.LapWork.{node_evaluated, in_nodes, charged-work}
use Rattle.work_theory.specs.Laws.{Orders, AreFew, IsLapOf, EvaluatedIsCounted, OnlyNodesAreEvaluated, LapIsWork}

-- ---- a node gets few items

filter_few_by : {A : Type 0} (b : Bool) (x : A) (n : ℕ) (ys : List A) → length ys ≤ n → length (if b then x ∷ ys else ys) ≤ suc n
filter_few_by true x n ys h = omega arith
filter_few_by false x n ys h = omega arith

filter_few : {A : Type 0} (f : A → Bool) (xs : List A) → length (filter f xs) ≤ length xs
filter_few f [] = omega arith
filter_few f (x ∷ xs) = filter_few_by (f x) x (length xs) (filter f xs) (filter_few f xs)

map_few : {A B : Type 0} (f : A → B) (xs : List A) → length (map f xs) ≡ length xs
map_few f [] = refl
map_few f (x ∷ xs) = omega (arith, map_few f xs)

messages_few : (c : Arc → Val) (arcs : List Arc) (v : ℕ) → length (messages c arcs v) ≤ length arcs
messages_few c arcs v = omega (arith, filter_few is_sent (map c (filter (λ a. a.head.0 == v) arcs)), map_few c (filter (λ a. a.head.0 == v) arcs), filter_few (λ a. a.head.0 == v) arcs)

input_few : (answer : Answer) (p : Program) (graph : GraphData) (arcs : List Arc) (v r : ℕ) → length arcs < 2 ^ 32 → length (input answer p graph arcs v r) < 2 ^ 62
input_few answer p graph arcs v r h =
    let got : List Val = received p graph arcs (lone answer p graph arcs r) v in
    let few : length got ≤ length arcs = messages_few (carried p graph arcs (lone answer p graph arcs r)) arcs v in
    let same : length (map Item.message got) ≡ length got = map_few Item.message got in
    omega arith

input_in_few : (answer : Answer) (p : Program) (graph : GraphData) (view : Option (List Arc)) (v r : ℕ) → AreFew view → length (input_in answer p graph view v r) < 2 ^ 62
input_in_few answer p graph None v r h = omega arith
input_in_few answer p graph (Some arcs) v r h = input_few answer p graph arcs v r h

-- ---- each node stands in the list once

pub node_from : (a n : ℕ) (v : NodeNo) → Member v (map node (range_with_len a n)) → (a ≤ v.0) × (v.0 < a + n)
node_from a zero v m = absurd m
node_from a (suc n) v (inl e) = let at : v.0 ≡ a = ap (λ w. w.0) e in (omega arith, omega arith)
node_from a (suc n) v (inr m) = let k : (a + 1 ≤ v.0) × (v.0 < (a + 1) + n) = node_from (a + 1) n v m in (omega (arith, k.0), omega (arith, k.1))

nodes_apart : (a n : ℕ) → Apart (map node (range_with_len a n))
nodes_apart a zero = tt
nodes_apart a (suc n) = ((λ m. absurd (let k : (a + 1 ≤ a) × (a < (a + 1) + n) = node_from (a + 1) n (node a) m in let low : a + 1 ≤ a = k.0 in omega arith)), nodes_apart (a + 1) n)

node_by : (a n v : ℕ) (b : Bool) → (a == v) ≡ b → (a ≢ v → Member (node v) (map node (range_with_len (a + 1) n))) → Member (node v) (map node (range_with_len a (suc n)))
node_by a n v true e go = let is : a ≡ v = eqb-true a v e in inl (ap node (sym is))
node_by a n v false e go = inr (go (λ z. grind (arith, nat_tests)))

pub node_in : (a n v : ℕ) → a ≤ v → v < a + n → Member (node v) (map node (range_with_len a n))
node_in a zero v h k = absurd (omega arith)
node_in a (suc n) v h k = node_by a n v (a == v) refl (λ m. node_in (a + 1) n v (omega arith) (omega arith))

sum_by-named : (f : NodeNo → ℕ) (xs : List ℕ) → sum_by f (map node xs) ≡ sum_by (λ n. f (node n)) xs
sum_by-named f [] = refl
sum_by-named f (x ∷ xs) = sum_by-cons f (node x) (map node xs) ∙ ap (λ n. f (node x) + n) (sum_by-named f xs) ∙ sym (sum_by-cons (λ n. f (node n)) x xs)

-- ---- the laws

front_long : {A : Type 0} (r : ℕ) (xs : List A) → r < length xs → suc r ≡ length (take (suc r) xs)
front_long r xs low = omega (arith, length-take (suc r) xs)

module _ {T V O : Type 0} (leq : T → T → Bool) (lub : T → T → T) (lattice : IsLattice leq lub) where
  pub evaluated-is-counted : EvaluatedIsCounted T V O leq lub
  unfolding node_counted
  evaluated-is-counted pcmp kcmp vcmp of to o answer p graph new old few_new few_old seal t before lap over v r low short =
      node_evaluated leq lub lattice pcmp o.psame o.pitself kcmp o.ksame o.kitself vcmp o.vsame o.vitself of to o.naming seal t before lap (map node (nodes_of graph)) (λ v. input answer p graph new v.0) (λ v. input_in answer p graph old v.0) (λ v k. (input_few answer p graph new v.0 k few_new, input_in_few answer p graph old v.0 k few_old)) over
      (node v) (take (suc r) lap) (drop (suc r) lap) r (node_in 0 (length graph.ids) v (omega arith) (omega arith)) (take-append-drop (suc r) lap) (front_long r lap short)

  pub only-nodes-are-evaluated : OnlyNodesAreEvaluated T V O leq lub
  only-nodes-are-evaluated pcmp kcmp vcmp of to o answer p graph new old few_new few_old seal t before lap over v r short h =
      let m : Member v (map node (nodes_of graph)) = in_nodes leq lub lattice pcmp o.psame o.pitself kcmp o.ksame o.kitself vcmp o.vsame o.vitself of to o.naming seal t before lap (map node (nodes_of graph)) (λ v. input answer p graph new v.0) (λ v. input_in answer p graph old v.0) (λ v k. (input_few answer p graph new v.0 k few_new, input_in_few answer p graph old v.0 k few_old)) over v (take (suc r) lap) (drop (suc r) lap) r (take-append-drop (suc r) lap) (front_long r lap short) h in
      let k : (0 ≤ v.0) × (v.0 < 0 + length graph.ids) = node_from 0 (length graph.ids) v m in
      omega (arith, k.1)

  pub lap-is-work : LapIsWork T V O leq lub
  unfolding work
  lap-is-work pcmp kcmp vcmp of to o answer p graph new old few_new few_old seal t before lap over =
      charged-work leq lub lattice pcmp o.psame o.pitself kcmp o.ksame o.kitself vcmp o.vsame o.vitself of to o.naming seal t before lap (map node (nodes_of graph)) (λ v. input answer p graph new v.0) (λ v. input_in answer p graph old v.0) (λ v k. (input_few answer p graph new v.0 k few_new, input_in_few answer p graph old v.0 k few_old)) over
      (nodes_apart 0 (length graph.ids))
      ∙ sum_by-named (λ v. rounds_counted (input answer p graph new v.0) (input_in answer p graph old v.0) (length lap)) (nodes_of graph)
