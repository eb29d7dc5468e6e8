-- What the tests say in words, how work grows, and which arcs can make a node active.
use Rattle.std.specs.Prelude.{◌≡◌, ℕ, zero, suc, ◌+◌, ◌*◌, ◌<◌, ◌≤◌, ◌⊎◌, Bool, true, false, not, ◌||◌, ◌==◌, cond, List, [], ◌∷◌, map, filter, length, Some, if◌then◌else◌, refl}
use Rattle.std.specs.List.{sum_by}
use Rattle.std.specs.List.Sorted.{IsPermutation}
use Rattle.std.proofs.Common.{arith, ap, sym, ◌∙◌, inl, inr, subst}
use Rattle.std.proofs.lemmas.Bool.{cases_Bool, cases_lt}
use Rattle.std.proofs.lemmas.List.Sums.{sum_by-cons, sum_by-le}
use Rattle.std.proofs.lemmas.List.Elements.{All-weaker}
use Rattle.std.proofs.lemmas.List.FromFn.{length-range_with_len}
use Rattle.graph_model.specs.declared.value.Val.{Val}
use Rattle.graph_model.specs.declared.value.Val.TheVariants.{Nil}
use Rattle.graph_model.specs.GraphData.{GraphData}
use Rattle.vertex_lang.specs.declared.arc.Arc.{Arc}
use Rattle.vertex_lang.specs.declared.program.Program.{Program}
use Rattle.vertex_lang.specs.Arcs.{outdeg, messages}
use Rattle.vertex_lang.specs.Expressions.{Answer, start_of, sent_by, send_words}
use Rattle.vertex_lang.specs.Rounds.{nodes_of, value_at, carried, received, lone}
use Rattle.vertex_lang.specs.Lone.{same_value}
use Rattle.multisets.specs.Multisets.{AreOne, are_one, do_cancel}
use Rattle.multisets.specs.CountLaws.{one-told, one-tells, cancel-told, cancel-tells}
use Rattle.lone_work.specs.Items.{Item, same_item}
use Rattle.lone_work.specs.Inputs.{own_items, input_under, input, input_in}
use Rattle.lone_work.specs.Work.{previous, is_active, is_touched, is_marked, is_counted, rounds_counted, node_counted, node_active, node_touched, node_marked, work}
use Rattle.lone_work.specs.Parts.{brought, item_of, Agree, IsCalm}
use Rattle.lone_work.specs.InputLaws.{items-exact, items-one}
use Rattle.lone_work.specs.WorkLaws.{sum-none, none-counted, not-touched, active-by}
use Rattle.lone_work.specs.PartLaws.{all-agree}
use Rattle.vertex_lang.specs.MessageLaws.{received-permuted}
use Rattle.vertex_lang.specs.RoundLaws.{permuted-arcs}
use Rattle.lone_work.specs.Laws.{PermutedViewsNoWork, CalmArcs, ActiveMeans, TouchedMeans, MarkedMeans, WorkByRounds, WorkIsBounded}

-- ---- views that are permutations

under-same : (p : Program) (graph : GraphData) (new old : List Arc) (values : List Val) (v : ℕ) → IsPermutation new old → AreOne same_item (input_under p graph new values v) (input_under p graph old values v)
under-same p graph new old values v s = record {
  counts = λ x. items-one (start_of p graph v) (value_at values v) (received p graph new values v) (received p graph old values v) (received-permuted p graph new old values v s) x;
}

input-same : (answer : Answer) (p : Program) (graph : GraphData) (new old : List Arc) (v r : ℕ) → IsPermutation new old → AreOne same_item (input answer p graph new v r) (input answer p graph old v r)
input-same answer p graph new old v r s = subst (λ (vs : List Val). AreOne same_item (input answer p graph new v r) (input_under p graph old vs v)) (permuted-arcs answer p graph new old r s) (under-same p graph new old (lone answer p graph new r) v s)

module _ (f g : ℕ → List Item) (each : (r : ℕ) → AreOne same_item (f r) (g r)) where
  before-same : (r : ℕ) → AreOne same_item (previous f r) (previous g r)
  before-same zero = record { counts = λ x. refl }
  before-same (suc r) = each r

  never-active : (r : ℕ) → is_active f g r ≡ false
  never-active r = active-by f g r (record { counts = λ x. omega (arith, (each r).counts x, (before-same r).counts x) })

  never-touched : (r : ℕ) → is_touched f g r ≡ false
  never-touched zero = never-active zero
  never-touched (suc r) = rw (never-touched r) (never-active (suc r))

pub permuted-nothing : PermutedViewsNoWork
unfolding work
permuted-nothing answer p graph new old rounds s =
    let f = λ (v : ℕ). input_in answer p graph (Some new) v in
    let g = λ (v : ℕ). input_in answer p graph (Some old) v in
    sum-none (λ v. rounds_counted (f v) (g v) rounds) (nodes_of graph) (λ v. none-counted (f v) (g v) rounds (λ r. not-touched (is_touched (f v) (g v) r) (is_active (f v) (g v) r || is_marked (g v) r) (never-touched (f v) (g v) (λ k. input-same answer p graph new old v k s) r)))

-- ---- by the tails

agree-by : (f g : Val → Val) (m n all_m all_n : ℕ → Val) (r : ℕ) → ((k : ℕ) → all_m k ≡ f (m k)) → ((k : ℕ) → all_n k ≡ g (n k)) → ((w : Val) → f w ≡ g w) → Agree m n r → Agree all_m all_n r
agree-by f g m n all_m all_n zero a b c e = a zero ∙ ap f e ∙ c (n zero) ∙ sym (b zero)
agree-by f g m n all_m all_n (suc r) a b c (inl e) = inl (a (suc r) ∙ ap f e.0 ∙ c (n (suc r)) ∙ sym (b (suc r)), a r ∙ ap f e.1 ∙ c (n r) ∙ sym (b r))
agree-by f g m n all_m all_n (suc r) a b c (inr e) = inr (a (suc r) ∙ ap f e.0 ∙ sym (a r), b (suc r) ∙ ap g e.1 ∙ sym (b r))

nothing-agrees : (m n : ℕ → Val) (r : ℕ) → ((k : ℕ) → m k ≡ Nil) → ((k : ℕ) → n k ≡ Nil) → Agree m n r
nothing-agrees m n zero a b = a zero ∙ sym (b zero)
nothing-agrees m n (suc r) a b = inl (a (suc r) ∙ sym (b (suc r)), a r ∙ sym (b r))

chosen : (b : Bool) (x y : Val) → b ≡ true → (if b then x else y) ≡ x
chosen true x y e = refl
chosen false x y e = absurd cc

left-out : (b : Bool) (x y : Val) → b ≡ false → (if b then x else y) ≡ y
left-out true x y e = absurd cc
left-out false x y e = refl

calm-agrees : (answer : Answer) (p : Program) (graph : GraphData) (all : List Arc) (new old : Arc → Bool) (a : Arc) (r : ℕ) → IsCalm answer p graph all new old a r → Agree (brought answer p graph all (Some new) a) (brought answer p graph all (Some old) a) r
calm-agrees answer p graph all new old a r (inl e) =
    let u = a.tail.0 in
    let news = filter new all in
    let olds = filter old all in
    agree-by (λ w. sent_by p graph u w (outdeg news u) a.edge.0) (λ w. sent_by p graph u w (outdeg olds u) a.edge.0)
    (λ k. value_at (lone answer p graph news k) u) (λ k. value_at (lone answer p graph olds k) u)
    (brought answer p graph all (Some new) a) (brought answer p graph all (Some old) a) r
    (λ k. chosen (new a) (carried p graph news (lone answer p graph news k) a) Nil e.0)
    (λ k. chosen (old a) (carried p graph olds (lone answer p graph olds k) a) Nil e.1)
    (elim e.2 [
      | inl d ↦ λ w. ap (λ n. sent_by p graph u w n a.edge.0) d
      | inr d ↦ λ w. d (send_words graph u w 0 a.edge.0) (outdeg news u) (outdeg olds u)
    ])
    e.3
calm-agrees answer p graph all new old a r (inr (inl e)) =
    let news = filter new all in
    let olds = filter old all in
    nothing-agrees (brought answer p graph all (Some new) a) (brought answer p graph all (Some old) a) r
    (λ k. left-out (new a) (carried p graph news (lone answer p graph news k) a) Nil e.0)
    (λ k. left-out (old a) (carried p graph olds (lone answer p graph olds k) a) Nil e.1)
calm-agrees answer p graph all new old a r (inr (inr e)) = e

pub calm-arcs : CalmArcs
calm-arcs answer p graph all new old v r own arcs = all-agree answer p graph all new old v r own
    (All-weaker (λ a. a.head.0 ≡ v → IsCalm answer p graph all new old a r) (λ a. a.head.0 ≡ v → Agree (brought answer p graph all (Some new) a) (brought answer p graph all (Some old) a) r)
    (λ a h e. calm-agrees answer p graph all new old a r (h e)) all arcs)

-- ---- what the tests say

not-twice : (b : Bool) → not (not b) ≡ b
not-twice true = refl
not-twice false = refl

pub active-means : ActiveMeans
unfolding node_active
active-means answer p graph new old v r =
    let f = input answer p graph new v in
    let g = input_in answer p graph old v in (
      λ e. cancel-told same_item items-exact (f r) (g r) (previous f r) (previous g r) (sym (not-twice (do_cancel same_item (f r) (g r) (previous f r) (previous g r))) ∙ e),
      λ s. not-twice (do_cancel same_item (f r) (g r) (previous f r) (previous g r)) ∙ cancel-tells same_item (f r) (g r) (previous f r) (previous g r) s,
    )

pub marked-means : MarkedMeans
unfolding node_marked
marked-means answer p graph view v r =
    let f = input_in answer p graph view v in (
      λ e. one-told same_item items-exact (f r) (previous f r) (sym (not-twice (are_one same_item (f r) (previous f r))) ∙ e),
      λ s. not-twice (are_one same_item (f r) (previous f r)) ∙ one-tells same_item (f r) (previous f r) s,
    )

either-by : (a b : Bool) → (a || b) ≡ true → (a ≡ true) ⊎ (b ≡ true)
either-by true b e = inl refl
either-by false b e = inr e

or-right : (a b : Bool) → b ≡ true → (a || b) ≡ true
or-right true b e = refl
or-right false b e = e

module _ (f g : ℕ → List Item) where
  touched-from : (r : ℕ) → is_touched f g r ≡ true → (k : ℕ) × (k ≤ r) × (is_active f g k ≡ true)
  touched-from zero e = (zero, omega arith, e)
  touched-from (suc r) e = elim (either-by (is_touched f g r) (is_active f g (suc r)) e) [
    | inl t ↦ let t_from = touched-from r t in (t_from.0, omega arith, t_from.2)
    | inr a ↦ (suc r, omega arith, a)
  ]

  touched-by : (r k : ℕ) → k ≤ r → is_active f g k ≡ true → is_touched f g r ≡ true
  touched-by zero k low e = let same : k ≡ 0 = omega arith in subst (λ n. is_active f g n ≡ true) same e
  touched-by (suc r) k low e = elim (cases_lt k (suc r)) [
    | inl h ↦ rw (touched-by r k (omega arith) e) refl
    | inr h ↦ let same : k ≡ suc r = omega arith in or-right (is_touched f g r) (is_active f g (suc r)) (subst (λ n. is_active f g n ≡ true) same e)
  ]

pub touched-means : TouchedMeans
unfolding node_touched node_active
touched-means answer p graph new old v r =
    let f = input answer p graph new v in
    let g = input_in answer p graph old v in
    (λ e. touched-from f g r e, λ s. touched-by f g r s.0 s.1 s.2)

-- ---- how work grows

sum-plus : {A : Type 0} (f g : A → ℕ) (xs : List A) → sum_by (λ x. f x + g x) xs ≡ sum_by f xs + sum_by g xs
sum-plus f g [] = refl
sum-plus f g (x ∷ xs) = omega (arith, sum_by-cons (λ y. f y + g y) x xs, sum_by-cons f x xs, sum_by-cons g x xs, sum-plus f g xs)

pub work-by-rounds : WorkByRounds
unfolding work node_counted
work-by-rounds answer p graph new old rounds =
    let f = λ (v : ℕ). input_in answer p graph (Some new) v in
    let g = λ (v : ℕ). input_in answer p graph old v in
    let more : rounds + 1 ≡ suc rounds = omega arith in
    ap (λ n. sum_by (λ v. rounds_counted (f v) (g v) n) (nodes_of graph)) more
    ∙ sum-plus (λ v. rounds_counted (f v) (g v) rounds) (λ v. cond (node_counted answer p graph new old v rounds) 1 0) (nodes_of graph)

one-at-most : (b : Bool) → (if b then 1 else 0) ≤ 1
one-at-most true = omega arith
one-at-most false = omega arith

few-rounds : (f g : ℕ → List Item) (n : ℕ) → rounds_counted f g n ≤ n
few-rounds f g zero = omega arith
few-rounds f g (suc n) = omega (arith, few-rounds f g n, one-at-most (is_counted f g n))

pub work-is-bounded : WorkIsBounded
unfolding work
work-is-bounded answer p graph new old rounds =
    let f = λ (v : ℕ). rounds_counted (input_in answer p graph (Some new) v) (input_in answer p graph old v) rounds in
    subst (λ n. sum_by f (nodes_of graph) ≤ n * rounds) (length-range_with_len 0 (length graph.ids))
    (sum_by-le f rounds (nodes_of graph) (λ k d low. few-rounds (input_in answer p graph (Some new) _) (input_in answer p graph old _) rounds))
