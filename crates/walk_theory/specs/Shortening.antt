-- A walk becomes a shorter and lighter one where it is cut at its last visit of its first node, and so on at the next.
use Rattle.std.specs.Prelude.{◌≡◌, ◌⊎◌, ℕ, zero, suc, ◌+◌, ◌≤◌, ◌<◌, Bool, true, List, [], ◌∷◌, All, Contains, length, sum_by, refl}
use Rattle.std.proofs.Common.{arith, subst, ◌∙◌, inl, inr}
use Rattle.std.proofs.lemmas.Bool.{cases_eq}
use Rattle.std.proofs.lemmas.List.Sums.{sum_by-cons}
use Rattle.std.proofs.lemmas.List.Elements.{All-nil, All-cons, All-head, All-tail, All-contains}
use Rattle.walk_theory.specs.Walks.{IsWalk, IsShortened}
use Rattle.walk_theory.specs.Weighing.{without, everything, still-in, weigh, weigh-without, weigh-less, weigh-all, sum-of-ones}

module _ {A : Type 0} (ends : A → ℕ × ℕ) (weight : A → ℕ) (arcs : List A) where
  -- the node that an arc comes to
  abbrev head : A → ℕ
  head a = (ends a).1

  -- each node that it enters passes
  abbrev pub Enters : (ℕ → Bool) → List A → Type 0
  Enters test walk = All (λ a. test (head a) ≡ true) walk

  -- ---- cut at the last visit of a node

  record IsCut (u : ℕ) (test : ℕ → Bool) (walk : List A) (to : ℕ) : Type 0 where
    rest : List A
    leads : IsWalk ends arcs u rest to
    enters : Enters (without u test) rest
    lighter : sum_by weight rest ≤ sum_by weight walk

  cut-more : (u : ℕ) (test : ℕ → Bool) (a : A) (walk : List A) (v : ℕ) → IsCut u test walk v → IsCut u test (a ∷ walk) v
  cut-more u test a walk v c = record { rest = c.rest; leads = c.leads; enters = c.enters; lighter = omega (arith, c.lighter, sum_by-cons weight a walk) }

  cut-here : (u : ℕ) (test : ℕ → Bool) (a : A) (walk : List A) (v : ℕ) → head a ≡ u → IsWalk ends arcs (head a) walk v → Enters (without u test) walk → IsCut u test (a ∷ walk) v
  cut-here u test a walk v e h clear = record { rest = walk; leads = subst (λ (x : ℕ). IsWalk ends arcs x walk v) e h; enters = clear; lighter = omega (arith, sum_by-cons weight a walk) }

  -- it visits the node, or not after its start
  cut : (u : ℕ) (test : ℕ → Bool) (from : ℕ) (walk : List A) (v : ℕ) → IsWalk ends arcs from walk v → Enters test walk → IsCut u test walk v ⊎ Enters (without u test) walk
  cut u test from [] v h inside = inr (All-nil (λ a. without u test (head a) ≡ true))
  cut u test from (a ∷ walk) v h inside = elim (cut u test (head a) walk v h.2 (All-tail (λ b. test (head b) ≡ true) a walk inside)) [
    | inl later ↦ inl (cut-more u test a walk v later)
    | inr clear ↦ elim (cases_eq (head a) u) [
      | inl e ↦ inl (cut-here u test a walk v e h.2 clear)
      | inr other ↦ inr (All-cons (λ b. without u test (head b) ≡ true) a walk (still-in u test (head a) (All-head (λ b. test (head b) ≡ true) a walk inside) other) clear)
    ]
  ]

  cut-start : (u : ℕ) (test : ℕ → Bool) (walk : List A) (v : ℕ) → IsWalk ends arcs u walk v → Enters test walk → IsCut u test walk v
  cut-start u test walk v h inside = elim (cut u test u walk v h inside) [
    | inl c ↦ c
    | inr clear ↦ record { rest = walk; leads = h; enters = clear; lighter = omega arith }
  ]

  -- ---- one node after the other

  module _ (nodes : List ℕ) (within : All (λ a. Contains nodes (head a)) arcs) where
    -- how many of the nodes pass
    abbrev size : (ℕ → Bool) → ℕ
    size test = weigh (λ (v : ℕ). v) (λ (v : ℕ). 1) test nodes

    -- what the arcs weigh that come to a node that passes
    abbrev entering : (ℕ → Bool) → ℕ
    entering test = weigh head weight test arcs

    record IsShort (most : ℕ) (u : ℕ) (test : ℕ → Bool) (walk : List A) (to : ℕ) : Type 0 where
      shorter : List A
      leads : IsWalk ends arcs u shorter to
      short : length shorter < most
      lighter : sum_by weight shorter ≤ sum_by weight walk
      light : sum_by weight shorter ≤ entering (without u test)

    smaller : (u : ℕ) (test : ℕ → Bool) → Contains nodes u → test u ≡ true → size (without u test) + 1 ≤ size test
    smaller u test c h = weigh-less (λ (v : ℕ). v) (λ (v : ℕ). 1) u nodes test c h

    -- the first arc of the rest, and then a short walk
    short-more : (k u : ℕ) (test : ℕ → Bool) (walk : List A) (v : ℕ) (a : A) (rest : List A) → Contains arcs a → (ends a).0 ≡ u → without u test (head a) ≡ true → sum_by weight (a ∷ rest) ≤ sum_by weight walk
        → IsShort k (head a) (without u test) rest v → IsShort (suc k) u test walk v
    short-more k u test walk v a rest c e passes below s = record {
      shorter = a ∷ s.shorter;
      leads = (c, e, s.leads);
      short = let low = s.short in omega arith;
      lighter = omega (arith, s.lighter, sum_by-cons weight a s.shorter, sum_by-cons weight a rest);
      light = omega (arith, s.light, weigh-less head weight a arcs (without u test) c passes, sum_by-cons weight a s.shorter);
    }

    -- where so many nodes pass, a walk over them becomes one of fewer arcs
    abbrev Shortens : ℕ → Type 0
    Shortens k = (u : ℕ) (test : ℕ → Bool) (walk : List A) (v : ℕ) → size test ≤ k → Contains nodes u → test u ≡ true → IsWalk ends arcs u walk v → Enters test walk → IsShort k u test walk v

    from-cut : (k : ℕ) → Shortens k → (u : ℕ) (test : ℕ → Bool) (walk : List A) (v : ℕ) → size (without u test) ≤ k → (rest : List A) → IsWalk ends arcs u rest v → Enters (without u test) rest → sum_by weight rest ≤ sum_by weight walk → IsShort (suc k) u test walk v
    from-cut k below u test walk v few [] leads enters lighter = record { shorter = []; leads = leads; short = omega arith; lighter = lighter; light = omega arith }
    from-cut k below u test walk v few (a ∷ rest) leads enters lighter =
        let passes = All-head (λ b. without u test (head b) ≡ true) a rest enters in
        short-more k u test walk v a rest leads.0 leads.1 passes lighter (below (head a) (without u test) rest v few (All-contains (λ b. Contains nodes (head b)) arcs a within leads.0) passes leads.2 (All-tail (λ b. without u test (head b) ≡ true) a rest enters))

    shorten : (k : ℕ) → Shortens k
    shorten zero = λ u test walk v few c h leads inside. absurd (omega (arith, smaller u test c h))
    shorten (suc k) = λ u test walk v few c h leads inside.
        let once = cut-start u test walk v leads inside in
        from-cut k (shorten k) u test walk v (omega (arith, smaller u test c h)) once.rest once.leads once.enters once.lighter

    enters-all : (walk : List A) → Enters everything walk
    enters-all [] = All-nil (λ a. everything (head a) ≡ true)
    enters-all (a ∷ walk) = All-cons (λ b. everything (head b) ≡ true) a walk refl (enters-all walk)

    pub shortened : (u : ℕ) (walk : List A) (v : ℕ) → Contains nodes u → IsWalk ends arcs u walk v → IsShortened ends weight nodes arcs u walk v
    shortened u walk v c h =
        let all : size everything ≡ length nodes = weigh-all (λ (n : ℕ). n) (λ (n : ℕ). 1) nodes ∙ sum-of-ones nodes in
        let s = shorten (length nodes) u everything walk v (omega (arith, all)) c refl h (enters-all walk) in
        record {
          shorter = s.shorter;
          leads = s.leads;
          short = s.short;
          lighter = s.lighter;
          light = omega (arith, s.light, weigh-without head weight u everything arcs, weigh-all head weight arcs);
        }
