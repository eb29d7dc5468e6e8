-- Where such a program settles, and how soon: no walk has to have as many arcs as there are nodes.
use Rattle.std.specs.Prelude.{◌≡◌, ℕ, suc, ℤ, pos, ◌+◌, ◌-◌, ◌≤◌, ◌<◌, min, List, All, Contains, length, sum_by, refl}
use Rattle.std.proofs.Common.{arith, ap, sym, subst, ◌∙◌}
use Rattle.std.proofs.lemmas.List.{same_lists, get_or_default}
use Rattle.std.proofs.lemmas.List.Elements.{All-weaker}
use Rattle.std.proofs.lemmas.List.FromFn.{length-range_with_len, get_or-range_with_len}
use Rattle.graph_model.specs.declared.value.Val.{Val}
use Rattle.graph_model.specs.declared.value.Val.TheVariants.{Nil, Num}
use Rattle.graph_model.specs.GraphData.{GraphData}
use Rattle.walk_theory.specs.Walks.{IsWalk}
use Rattle.walk_theory.specs.Shortening.{shortened}
use Rattle.vertex_lang.specs.declared.arc.Arc.{Arc}
use Rattle.vertex_lang.specs.declared.lone.Lone.{Lone}
use Rattle.vertex_lang.specs.declared.lone.Outcome.{Outcome}
use Rattle.vertex_lang.specs.declared.lone.Outcome.TheVariants as outcome
use Rattle.vertex_lang.specs.declared.lone.Rounds.{Rounds}
use Rattle.vertex_lang.specs.declared.lone.Rounds.TheVariants as rounds
use Rattle.vertex_lang.specs.declared.program.Program.{Program}
use Rattle.vertex_lang.specs.AnswerLaws.{answer_meets}
use Rattle.vertex_lang.specs.Arcs.{IsArc}
use Rattle.vertex_lang.specs.Expressions.{start_of, updated}
use Rattle.vertex_lang.specs.Lone.{OutcomeIs, IsAnswerFrom, answer_of, number_of}
use Rattle.vertex_lang.specs.RoundLaws.{length-lone, stays}
use Rattle.vertex_lang.specs.Rounds.{nodes_of, value_at, lone}
use Rattle.graph_meanings.specs.Clamping.{top, same-number, same-natural}
use Rattle.graph_meanings.specs.LeastCosts.{HasCost, IsClampedLeast, AddsWeights, least-after}
use Rattle.graph_meanings.specs.Meanings.{ends, IsLeastOf, IsSettled, HasRoundsForAll}

-- ---- two values that are each the least of numbers, where each number of the one covers one of the other

abbrev Covers : (ℕ → Type 0) → (ℕ → Type 0) → Type 0
Covers P Q = (n : ℕ) → P n → (k : ℕ) × Q k × (k ≤ n)

module _ (P Q : ℕ → Type 0) (there : Covers P Q) (back : Covers Q P) where
  -- a number stands beside a number, and they are one
  number-same : (z : ℤ) (w : Val) → IsClampedLeast P (Num z) → IsClampedLeast Q w → w ≡ Num z
  number-same z w l m =
      let mine = l.reached z refl in
      let its = there mine.0 mine.1 in
      let bound = m.bounds its.0 its.1 in
      let met = m.reached (pos bound.0) bound.1 in
      let again = back met.0 met.1 in
      let other = l.bounds again.0 again.1 in
      let number : z ≡ pos other.0 = same-number z (pos other.0) other.1 in
      let first : other.0 ≡ min mine.0 top = same-natural other.0 (min mine.0 top) (sym number ∙ mine.2) in
      let second : bound.0 ≡ min met.0 top = same-natural bound.0 (min met.0 top) met.2 in
      let one : bound.0 ≡ other.0 = omega (arith, first, second, its.2, bound.2, again.2, other.2) in
      bound.1 ∙ ap (λ (k : ℕ). Num (pos k)) one ∙ ap (λ (y : ℤ). Num y) (sym number)

  nil-same : (w : Val) → IsClampedLeast P Nil → IsClampedLeast Q w → Nil ≡ w
  nil-same Nil l m = refl
  nil-same (Num z) l m =
      let told = m.reached z refl in
      let given = back told.0 told.1 in
      let never = (l.bounds given.0 given.1).1 in
      absurd cc

  least-same : (v w : Val) → IsClampedLeast P v → IsClampedLeast Q w → v ≡ w
  least-same Nil w l m = nil-same w l m
  least-same (Num z) w l m = sym (number-same z w l m)

-- ---- short walks are enough

node-listed : (graph : GraphData) (v : ℕ) → v < length graph.ids → Contains (nodes_of graph) v
node-listed graph v low = (v, omega (arith, length-range_with_len 0 (length graph.ids)), get_or-range_with_len 0 (length graph.ids) v v low ∙ omega arith)

module _ (p : Program) (graph : GraphData) (arcs : List Arc) (are_arcs : All (IsArc graph) arcs) (weight : Arc → ℕ) (adds : AddsWeights p graph arcs weight) where
  abbrev Cost : ℕ → ℕ → ℕ → Type 0
  Cost most to cost = HasCost p graph arcs weight most to cost

  -- the cost of a walk of any number of arcs
  abbrev pub AnyCost : ℕ → ℕ → Type 0
  AnyCost to cost = (most : ℕ) × Cost most to cost

  heads-listed : All (λ a. Contains (nodes_of graph) (ends a).1) arcs
  heads-listed = All-weaker (IsArc graph) (λ a. Contains (nodes_of graph) (ends a).1) (λ a h. node-listed graph a.head.0 h.head) arcs are_arcs

  -- a cost that is no greater, of a walk that is short and light
  pub record IsCheaper (to cost : ℕ) : Type 0 where
    pub from : ℕ
    pub first : ℕ
    pub within : from < length graph.ids
    pub starts : start_of p graph from ≡ Num (pos first)
    pub walk : List Arc
    pub leads : IsWalk ends arcs from walk to
    pub short : length walk < length graph.ids
    pub light : sum_by weight walk ≤ sum_by weight arcs
    pub less : first + sum_by weight walk ≤ cost

  cheaper : (most v n : ℕ) → Cost most v n → IsCheaper v n
  cheaper most v n c =
      let s = shortened ends weight arcs (nodes_of graph) heads-listed c.from c.walk v (node-listed graph c.from c.within) c.leads in
      record {
        from = c.from;
        first = c.first;
        within = c.within;
        starts = c.starts;
        walk = s.shorter;
        leads = s.leads;
        short = omega (arith, s.short, length-range_with_len 0 (length graph.ids));
        light = s.light;
        less = omega (arith, s.lighter, c.sums);
      }

  cost-of : (most v n : ℕ) → length graph.ids ≤ suc most → (c : IsCheaper v n) → Cost most v (c.first + sum_by weight c.walk)
  cost-of most v n enough c = record { from = c.from; first = c.first; within = c.within; starts = c.starts; walk = c.walk; leads = c.leads; short = omega (arith, c.short); sums = refl }

  -- with as many rounds as nodes, but one, all costs are covered
  covered : (most many v n : ℕ) → length graph.ids ≤ suc most → Cost many v n → (k : ℕ) × Cost most v k × (k ≤ n)
  covered most many v n enough c = let s = cheaper many v n c in (s.first + sum_by weight s.walk, cost-of most v n enough s, s.less)

  -- ---- the bound on rounds

  value-stable : (most v : ℕ) → length graph.ids ≤ suc most → v < length graph.ids → value_at (lone updated p graph arcs (most + 1)) v ≡ value_at (lone updated p graph arcs most) v
  value-stable most v enough low =
      least-same (Cost (most + 1) v) (Cost most v) (λ n c. covered most (most + 1) v n enough c) (λ n c. covered (most + 1) most v n (omega arith) c)
      (value_at (lone updated p graph arcs (most + 1)) v) (value_at (lone updated p graph arcs most) v)
      (least-after p graph arcs are_arcs weight adds (most + 1) v low) (least-after p graph arcs are_arcs weight adds most v low)

  pub stable : (most : ℕ) → length graph.ids ≤ suc most → lone updated p graph arcs (most + 1) ≡ lone updated p graph arcs most
  stable most enough =
      let new = lone updated p graph arcs (most + 1) in
      let old = lone updated p graph arcs most in
      let new_size : length new ≡ length graph.ids = length-lone updated p graph arcs (most + 1) in
      let old_size : length old ≡ length graph.ids = length-lone updated p graph arcs most in
      same_lists new old (new_size ∙ sym old_size) (λ v d low.
      let within : v < length graph.ids = omega (arith, new_size) in
      get_or_default new v d Nil low ∙ value-stable most v enough within ∙ get_or_default old v Nil d (omega (arith, old_size)))

  settles-in : (n : ℕ) (o : Outcome) (vs : List Val) → OutcomeIs (lone updated p graph arcs) n o vs → 1 ≤ n → length graph.ids ≤ n → IsSettled o
  settles-in n (outcome.Settled r) vs h some enough = tt
  settles-in n (outcome.After r) vs h some enough = absurd h
  settles-in n (outcome.Phases r) vs h some enough = absurd h
  settles-in n outcome.Unsettled vs h some enough = absurd (h.0 (n - 1) (omega arith) (stable (n - 1) (omega arith)))

  settles-from : (limit : Rounds) (l : Lone) → IsAnswerFrom (lone updated p graph arcs) limit l → 1 ≤ number_of limit → HasRoundsForAll graph limit → IsSettled l.outcome
  settles-from (rounds.Within n) l h some enough = settles-in n l.outcome l.values h some enough
  settles-from (rounds.For n) l h some enough = absurd enough

  pub settles : (limit : Rounds) → 1 ≤ number_of limit → HasRoundsForAll graph limit → IsSettled (answer_of updated p graph arcs limit).outcome
  settles limit some enough = settles-from limit (answer_of updated p graph arcs limit) (answer_meets updated p graph arcs limit) some enough

  -- ---- what the values mean

  longer : (most k v n : ℕ) → most ≤ k → Cost most v n → Cost k v n
  longer most k v n more c = record { from = c.from; first = c.first; within = c.within; starts = c.starts; walk = c.walk; leads = c.leads; short = omega (arith, c.short); sums = c.sums }

  fixed-least : (r v : ℕ) → lone updated p graph arcs (r + 1) ≡ lone updated p graph arcs r → v < length graph.ids → IsClampedLeast (AnyCost v) (value_at (lone updated p graph arcs r) v)
  fixed-least r v same low = record {
    reached = λ z e. let told = (least-after p graph arcs are_arcs weight adds r v low).reached z e in (told.0, (r, told.1), told.2);
    bounds = λ n c.
        let told = (least-after p graph arcs are_arcs weight adds (r + c.0) v low).bounds n (longer c.0 (r + c.0) v n (omega arith) c.1) in
        (told.0, ap (λ (vs : List Val). value_at vs v) (sym (stays updated p graph arcs r (r + c.0) same (omega arith))) ∙ told.1, told.2);
  }

  -- no cost of a short and light walk is beyond the range of values
  abbrev pub AreSmall : Type 0
  AreSmall = (from first : ℕ) (walk : List Arc) → from < length graph.ids → start_of p graph from ≡ Num (pos first) → length walk < length graph.ids → sum_by weight walk ≤ sum_by weight arcs → first + sum_by weight walk ≤ top

  exact-reached : AreSmall → (v : ℕ) (w : Val) → IsClampedLeast (AnyCost v) w → (z : ℤ) → w ≡ Num z → (n : ℕ) × AnyCost v n × (z ≡ pos n)
  exact-reached small v w l z e =
      let told = l.reached z e in
      let s = cheaper told.1.0 v told.0 told.1.1 in
      let n = s.first + sum_by weight s.walk in
      let fits : n ≤ top = small s.from s.first s.walk s.within s.starts s.short s.light in
      let cost : AnyCost v n = (length graph.ids, cost-of (length graph.ids) v told.0 (omega arith) s) in
      let bound = l.bounds n cost in
      let one : bound.0 ≡ min told.0 top = same-natural bound.0 (min told.0 top) (same-number (pos bound.0) (pos (min told.0 top)) (sym bound.1 ∙ e ∙ ap (λ (y : ℤ). Num y) told.2)) in
      let same : min told.0 top ≡ n = omega (arith, s.less, bound.2, fits, one) in
      (n, cost, told.2 ∙ ap (λ (k : ℕ). pos k) same)

  exact : AreSmall → (v : ℕ) (w : Val) → IsClampedLeast (AnyCost v) w → IsLeastOf (AnyCost v) w
  exact small v w l = record { reached = exact-reached small v w l; bounds = l.bounds }

  means-in : AreSmall → (n : ℕ) (o : Outcome) (vs : List Val) → OutcomeIs (lone updated p graph arcs) n o vs → IsSettled o → (v : ℕ) → v < length graph.ids → IsLeastOf (AnyCost v) (value_at vs v)
  means-in small n (outcome.Settled r) vs h settled v low = subst (λ (us : List Val). IsLeastOf (AnyCost v) (value_at us v)) (sym h.1) (exact small v _ (fixed-least r v h.0.settled low))
  means-in small n (outcome.After r) vs h settled v low = absurd h
  means-in small n (outcome.Phases r) vs h settled v low = absurd h
  means-in small n outcome.Unsettled vs h settled v low = absurd settled

  means-from : AreSmall → (limit : Rounds) (l : Lone) → IsAnswerFrom (lone updated p graph arcs) limit l → IsSettled l.outcome → (v : ℕ) → v < length graph.ids → IsLeastOf (AnyCost v) (value_at l.values v)
  means-from small (rounds.Within n) l h settled v low = means-in small n l.outcome l.values h settled v low
  means-from small (rounds.For n) l h settled v low = absurd (subst IsSettled h.0 settled)

  pub means : AreSmall → (limit : Rounds) → IsSettled (answer_of updated p graph arcs limit).outcome → (v : ℕ) → v < length graph.ids → IsLeastOf (AnyCost v) (value_at (answer_of updated p graph arcs limit).values v)
  means small limit settled v low = means-from small limit (answer_of updated p graph arcs limit) (answer_meets updated p graph arcs limit) settled v low
