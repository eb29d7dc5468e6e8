-- A program that gathers the least: after so many rounds each node has the least cost of the walks to it that have at most
-- as many arcs. This is one lemma for all weights of arcs, none of which is negative.
use Rattle.std.specs.Prelude.{◌≡◌, ℕ, zero, suc, ℤ, pos, ◌≤ℤ◌, ◌+◌, ◌≤◌, ◌<◌, min, List, [], ◌∷◌, ◌++◌, All, Contains, length, sum_by, refl}
use Rattle.std.proofs.Common.{arith, ap, sym, subst, ◌∙◌, inl, inr, add-one, length-append}
use Rattle.std.proofs.lemmas.Int.{ints}
use Rattle.std.proofs.lemmas.List.Sums.{sum_by-cons, sum_by-append}
use Rattle.std.proofs.lemmas.List.Elements.{All-contains}
use Rattle.graph_model.specs.declared.value.Val.{Val}
use Rattle.graph_model.specs.declared.value.Val.TheVariants.{Num}
use Rattle.graph_model.specs.GraphData.{GraphData}
use Rattle.walk_theory.specs.Walks.{IsWalk}
use Rattle.walk_theory.specs.Joining.{walk-more, ends-with}
use Rattle.vertex_lang.specs.declared.arc.Arc.{Arc}
use Rattle.vertex_lang.specs.declared.program.Gather.TheVariants as gather
use Rattle.vertex_lang.specs.declared.program.Program.{Program}
use Rattle.vertex_lang.specs.Arcs.{IsArc, gathered_of, is_sent}
use Rattle.vertex_lang.specs.Expressions.{start_of, updated}
use Rattle.vertex_lang.specs.ExtremeLaws.{contains-here, contains-there, contains-cases}
use Rattle.vertex_lang.specs.Extremes.{IsLeast}
use Rattle.vertex_lang.specs.MessageLaws.{message-from, message-to}
use Rattle.vertex_lang.specs.RoundLaws.{start-at, next-at}
use Rattle.vertex_lang.specs.Rounds.{value_at, carried, received, lone}
use Rattle.vertex_lang.specs.Values.{clamped, lesser, in_range}
use Rattle.graph_meanings.specs.Clamping.{top, clamped-pos, same-number, in-range-from, in-range-pos}
use Rattle.graph_meanings.specs.LeastSoFar.{next-is, least-with}
use Rattle.graph_meanings.specs.Meanings.{ends}
use Rattle.graph_algos.specs.Shared.{least_so_far}

-- a walk of at most so many arcs brings this cost to a node: what its first node starts with, and the weights of its arcs
pub record HasCost (p : Program) (graph : GraphData) (arcs : List Arc) (weight : Arc → ℕ) (most to cost : ℕ) : Type 0 where
  pub from : ℕ
  pub first : ℕ
  pub within : from < length graph.ids
  pub starts : start_of p graph from ≡ Num (pos first)
  pub walk : List Arc
  pub leads : IsWalk ends arcs from walk to
  pub short : length walk ≤ most
  pub sums : first + sum_by weight walk ≡ cost

-- the least of the numbers of which something holds, brought into the range of values
pub record IsClampedLeast (holds : ℕ → Type 0) (least : Val) : Type 0 where
  pub reached : (z : ℤ) → least ≡ Num z → (n : ℕ) × holds n × (z ≡ pos (min n top))
  pub bounds : (n : ℕ) → holds n → (m : ℕ) × (least ≡ Num (pos m)) × (m ≤ n)

-- the program adds the weight of an arc to a value that goes along it, and takes the least of the start and of what comes
pub record AddsWeights (p : Program) (graph : GraphData) (arcs : List Arc) (weight : Arc → ℕ) : Type 0 where
  pub gathers : p.gather ≡ gather.Min
  pub updates : p.update ≡ least_so_far
  pub starts : (v : ℕ) (z : ℤ) → v < length graph.ids → start_of p graph v ≡ Num z → (n : ℕ) × (z ≡ pos n) × (n ≤ top)
  pub carries : (values : List Val) (a : Arc) (m : ℕ) → Contains arcs a → value_at values a.tail.0 ≡ Num (pos m)
      → (n : ℕ) × (carried p graph arcs values a ≡ Num (pos n)) × (min n top ≡ min (m + weight a) top) × (n ≤ m + weight a)
  pub brings : (values : List Val) (a : Arc) (z : ℤ) → Contains arcs a → carried p graph arcs values a ≡ Num z → (y : ℤ) × (value_at values a.tail.0 ≡ Num y)

-- ---- the least of a list in which each number stands for a cost

module _ (holds : ℕ → Type 0) (values : List Val) where
  abbrev EachHolds : Type 0
  EachHolds = (z : ℤ) → Contains values (Num z) → (k : ℕ) × (z ≡ pos k) × (n : ℕ) × holds n × (min k top ≡ min n top)

  abbrev AllCovered : Type 0
  AllCovered = (n : ℕ) → holds n → (k : ℕ) × Contains values (Num (pos k)) × (k ≤ n)

  least-reached : EachHolds → (m : Val) → IsLeast values m → (z : ℤ) → in_range m ≡ Num z → (n : ℕ) × holds n × (z ≡ pos (min n top))
  least-reached each m least z e =
      let inner = in-range-from m z e in
      let told = each inner.0 (least.member inner.0 inner.1) in
      let same : z ≡ pos (min told.0 top) = inner.2 ∙ ap clamped told.1 ∙ clamped-pos told.0 in
      (told.2, told.3, same ∙ ap (λ (k : ℕ). pos k) told.4)

  below : (m k n j : ℕ) (y : ℤ) → y ≤ℤ pos k → y ≡ pos j → k ≤ n → min j top ≤ n
  below m k n j y h e l = omega (arith, ints)

  least-bounds : EachHolds → AllCovered → (m : Val) → IsLeast values m → (n : ℕ) → holds n → (k : ℕ) × (in_range m ≡ Num (pos k)) × (k ≤ n)
  least-bounds each covered m least n h =
      let given = covered n h in
      let low = least.bounds (pos given.0) given.1 in
      let told = each low.0 (least.member low.0 low.1) in
      let number : m ≡ Num (pos told.0) = low.1 ∙ ap (λ (z : ℤ). Num z) told.1 in
      (min told.0 top, in-range-pos m told.0 number, below 0 given.0 n told.0 low.0 low.2 told.1 given.2)

  pub clamped-least : EachHolds → AllCovered → (m : Val) → IsLeast values m → IsClampedLeast holds (in_range m)
  clamped-least each covered m least = record {
    reached = least-reached each m least;
    bounds = least-bounds each covered m least;
  }

-- ---- rounds

module _ (p : Program) (graph : GraphData) (arcs : List Arc) (are_arcs : All (IsArc graph) arcs) (weight : Arc → ℕ) (adds : AddsWeights p graph arcs weight) where
  abbrev pub Cost : ℕ → ℕ → ℕ → Type 0
  Cost most to cost = HasCost p graph arcs weight most to cost

  -- the value of each node is the least cost of the walks to it of at most so many arcs
  abbrev pub AreLeast : ℕ → List Val → Type 0
  AreLeast most values = (v : ℕ) → v < length graph.ids → IsClampedLeast (Cost most v) (value_at values v)

  tail-within : (a : Arc) → Contains arcs a → a.tail.0 < length graph.ids
  tail-within a c = (All-contains (IsArc graph) arcs a are_arcs c).tail

  -- the walk of no arc
  cost-at-start : (most v n : ℕ) → v < length graph.ids → start_of p graph v ≡ Num (pos n) → Cost most v n
  cost-at-start most v n low e = record { from = v; first = n; within = low; starts = e; walk = []; leads = refl; short = omega arith; sums = omega arith }

  -- a walk, and an arc more
  cost-more : (most n : ℕ) (a : Arc) → Cost most a.tail.0 n → Contains arcs a → Cost (suc most) a.head.0 (n + weight a)
  cost-more most n a c given = record {
    from = c.from;
    first = c.first;
    within = c.within;
    starts = c.starts;
    walk = c.walk ++ (a ∷ []);
    leads = walk-more ends arcs c.from c.walk a c.leads given;
    short = omega (arith, c.short, length-append c.walk (a ∷ []));
    sums = omega (arith, c.sums, sum_by-append weight c.walk (a ∷ []), sum_by-cons weight a []);
  }

  min-more : (n m k w : ℕ) → m ≡ min n top → min k top ≡ min (m + w) top → min k top ≡ min (n + w) top
  min-more n m k w e f = omega arith

  module _ (most : ℕ) (values : List Val) (least : AreLeast most values) where
    -- what a node starts with, and what its arcs bring
    abbrev offered : ℕ → List Val
    offered v = start_of p graph v ∷ received p graph arcs values v

    start-holds : (v : ℕ) (z : ℤ) → v < length graph.ids → start_of p graph v ≡ Num z → (k : ℕ) × (z ≡ pos k) × (n : ℕ) × Cost (suc most) v n × (min k top ≡ min n top)
    start-holds v z low e =
        let told = adds.starts v z low e in
        (told.0, told.1, told.0, cost-at-start (suc most) v told.0 low (e ∙ ap (λ (y : ℤ). Num y) told.1), refl)

    arc-holds : (a : Arc) (z : ℤ) → Contains arcs a → carried p graph arcs values a ≡ Num z → (k : ℕ) × (z ≡ pos k) × (n : ℕ) × Cost (suc most) a.head.0 n × (min k top ≡ min n top)
    arc-holds a z given e =
        let tail = adds.brings values a z given e in
        let cost = (least a.tail.0 (tail-within a given)).reached tail.0 tail.1 in
        let told = adds.carries values a (min cost.0 top) given (tail.1 ∙ ap (λ (y : ℤ). Num y) cost.2) in
        (told.0, same-number z (pos told.0) (sym e ∙ told.1), cost.0 + weight a, cost-more most cost.0 a cost.1 given, min-more cost.0 (min cost.0 top) told.0 (weight a) refl told.2)

    message-holds : (v : ℕ) (z : ℤ) → Contains (received p graph arcs values v) (Num z) → (k : ℕ) × (z ≡ pos k) × (n : ℕ) × Cost (suc most) v n × (min k top ≡ min n top)
    message-holds v z h =
        let told = message-from (carried p graph arcs values) arcs v (Num z) h in
        let at_head = arc-holds told.0 z told.1 told.3 in
        (at_head.0, at_head.1, at_head.2, subst (λ (u : ℕ). Cost (suc most) u at_head.2) told.2 at_head.3, at_head.4)

    each-holds : (v : ℕ) → v < length graph.ids → EachHolds (Cost (suc most) v) (offered v)
    each-holds v low z h = elim (contains-cases (start_of p graph v) (received p graph arcs values v) (Num z) h) [
      | inl here ↦ start-holds v z low here
      | inr later ↦ message-holds v z later
    ]

    start-covers : (u v n : ℕ) → start_of p graph u ≡ Num (pos n) → u ≡ v → Contains (offered v) (Num (pos n))
    start-covers u v n e same = subst (λ (x : Val). Contains (offered v) x) (ap (λ (k : ℕ). start_of p graph k) (sym same) ∙ e) (contains-here (start_of p graph v) (received p graph arcs values v))

    arc-covers : (a : Arc) (n : ℕ) → Contains arcs a → Cost most a.tail.0 n → (k : ℕ) × Contains (offered a.head.0) (Num (pos k)) × (k ≤ n + weight a)
    arc-covers a n given cost =
        let tail = (least a.tail.0 (tail-within a given)).bounds n cost in
        let told = adds.carries values a tail.0 given tail.1 in
        let sent = message-to (carried p graph arcs values) arcs a.head.0 a given refl (ap is_sent told.1) in
        (told.0, contains-there (start_of p graph a.head.0) (received p graph arcs values a.head.0) (Num (pos told.0)) (subst (λ (x : Val). Contains (received p graph arcs values a.head.0) x) told.1 sent), omega (arith, told.3, tail.2))

    walk-covers : (v n from first : ℕ) → from < length graph.ids → start_of p graph from ≡ Num (pos first) → (walk : List Arc) → IsWalk ends arcs from walk v → length walk ≤ suc most → first + sum_by weight walk ≡ n
        → (k : ℕ) × Contains (offered v) (Num (pos k)) × (k ≤ n)
    walk-covers v n from first low e [] leads short sums = (first, start-covers from v first e leads, omega arith)
    walk-covers v n from first low e (b ∷ walk) leads short sums =
        let parts = ends-with ends arcs from b walk v leads in
        let long : length (b ∷ walk) ≡ length parts.before + 1 = ap (λ (path : List Arc). length path) parts.same ∙ length-append parts.before (parts.last ∷ []) in
        let weighs : sum_by weight (b ∷ walk) ≡ sum_by weight parts.before + sum_by weight (parts.last ∷ []) = ap (λ (path : List Arc). sum_by weight path) parts.same ∙ sum_by-append weight parts.before (parts.last ∷ []) in
        let before : Cost most parts.last.tail.0 (first + sum_by weight parts.before) = record { from = from; first = first; within = low; starts = e; walk = parts.before; leads = parts.leads; short = omega (arith, long); sums = refl } in
        let told = arc-covers parts.last (first + sum_by weight parts.before) parts.given before in
        (told.0, subst (λ (u : ℕ). Contains (offered u) (Num (pos told.0))) parts.comes told.1, omega (arith, told.2, weighs, sum_by-cons weight parts.last []))

    all-covered : (v : ℕ) → AllCovered (Cost (suc most) v) (offered v)
    all-covered v n c = walk-covers v n c.from c.first c.within c.starts c.walk c.leads c.short c.sums

    next-least : (v : ℕ) → v < length graph.ids → IsClampedLeast (Cost (suc most) v) (in_range (lesser (start_of p graph v) (gathered_of gather.Min (received p graph arcs values v))))
    next-least v low = clamped-least (Cost (suc most) v) (offered v) (each-holds v low) (all-covered v) (lesser (start_of p graph v) (gathered_of gather.Min (received p graph arcs values v))) (least-with (start_of p graph v) (received p graph arcs values v))

  -- ---- at first

  no-arcs : (u v : ℕ) (walk : List Arc) → IsWalk ends arcs u walk v → length walk ≤ 0 → u ≡ v
  no-arcs u v [] leads short = leads
  no-arcs u v (a ∷ walk) leads short = absurd (omega arith)

  first-least : (v : ℕ) → v < length graph.ids → IsClampedLeast (Cost 0 v) (start_of p graph v)
  first-least v low = record {
    reached = λ z e.
        let told = adds.starts v z low e in
        let small = told.2 in
        (told.0, cost-at-start 0 v told.0 low (e ∙ ap (λ (y : ℤ). Num y) told.1), told.1 ∙ ap (λ (k : ℕ). pos k) (omega arith));
    bounds = λ n c.
        let here = no-arcs c.from v c.walk c.leads c.short in
        (c.first, ap (λ (u : ℕ). start_of p graph u) (sym here) ∙ c.starts, omega (arith, c.sums));
  }

  -- after each round
  pub least-after : (r : ℕ) → AreLeast r (lone updated p graph arcs r)
  least-after zero = λ v low. subst (λ (x : Val). IsClampedLeast (Cost 0 v) x) (sym (start-at updated p graph arcs v low)) (first-least v low)
  least-after (suc r) = λ v low.
      let values = lone updated p graph arcs r in
      let value : value_at (lone updated p graph arcs (suc r)) v ≡ in_range (lesser (start_of p graph v) (gathered_of gather.Min (received p graph arcs values v)))
      = ap (λ (k : ℕ). value_at (lone updated p graph arcs k) v) (sym (add-one r)) ∙ next-at updated p graph arcs r v low ∙ next-is p graph arcs values v adds.gathers adds.updates in
      subst (λ (x : Val). IsClampedLeast (Cost (suc r) v) x) (sym value) (next-least r values (least-after r) v low)
