-- A loop of phases comes to the phases of a program.
use Rattle.std.specs.Prelude.{◌≡◌, ℕ, zero, suc, ◌+◌, ◌*◌, ◌-◌, ◌%◌, ◌^◌, ◌<◌, ◌==◌, Bool, true, false, List, [], ◌∷◌, ◌++◌, length, map, if◌then◌else◌, refl}
use Rattle.std.specs.declared.cmp.Ordering.{Ordering}
use Rattle.std.proofs.Common.{arith, ap, sym, ◌∙◌, append-nil}
use Rattle.std.proofs.lemmas.Bool.Decides.{nat_tests}
use Rattle.weighted.specs.WordLaws.{total, mapped, mapped-append}
use Rattle.weighted.specs.Alike.{Alike, Alike-is, Alike-refl, Alike-trans, Alike-append, Alike-mapped, Alike-negated, negated, negated-total, total-append}
use Rattle.flow_core.specs.Expanded.{expanded, expanded-append, expanded_linear}
use Rattle.loop_theory.specs.declared.input.LoopInput.TheVariants.{Fixed, Moving}
use Rattle.loop_theory.specs.Inputs.{fixed, moving, as_moving, Alike-fixed, Alike-moving, fixed-append, moving-append}
use Rattle.loop_theory.specs.Loops.{after_rounds, at_round, changes}
use Rattle.graph_model.specs.declared.value.Val.{Val}
use Rattle.graph_model.specs.declared.number.NodeNo.{NodeNo}
use Rattle.graph_model.specs.GraphData.{GraphData, node}
use Rattle.vertex_lang.specs.declared.arc.Arc.{Arc}
use Rattle.vertex_lang.specs.declared.program.Program.{Program}
use Rattle.vertex_lang.specs.Expressions.{Answer}
use Rattle.vertex_lang.specs.PhaseLaws.{length-phase, phase-next, phase-starts}
use Rattle.vertex_lang.specs.Phases.{phase_values, rounds_from}
use Rattle.vertex_lang.specs.Rounds.{nodes_of, value_at}
use Rattle.work_theory.specs.Once.{once}
use Rattle.vertex_items.specs.declared.input.StartInput.{StartInput}
use Rattle.vertex_items.specs.declared.input.StartInput.TheVariants as given
use Rattle.vertex_items.specs.declared.item.NodeItem.{NodeItem}
use Rattle.vertex_items.specs.Laws.{IsItemOrder}
use Rattle.view_items.specs.Laws.{IsOrder}
use Rattle.view_items.specs.Prepared.{prepared_starts}
use Rattle.view_items.specs.RoundLaws.{loop-sums}
use Rattle.view_items.specs.Rounds.{round_of, values_of}
use Rattle.flow_work.specs.StartLaws.{rounds-are-from-starts}
use Rattle.flow_work.specs.Starts.{starts_fed}
use Rattle.flow_work.specs.Turns.{IsViewOf}
use Rattle.phase_flow.specs.declared.item.PhaseItem.{PhaseItem}
use Rattle.phase_flow.specs.declared.item.PhaseItem.TheVariants as item
use Rattle.phase_flow.specs.Items.{begins, ends, enters, phase_of, InPhase}
use Rattle.phase_flow.specs.Phases.{ended, late, phase_items, LoopIsPhases}

abbrev Pairs : Type 0
Pairs = List ((NodeNo × Val) × ℕ)

abbrev Made : Type 0
Made = List (PhaseItem × ℕ)

abbrev as_value : NodeNo × Val → PhaseItem
as_value x = item.Value x.0 x.1

abbrev as_late : NodeNo × Val → PhaseItem
as_late x = item.Late x.0 x.1

-- ---- what the rounds of a phase come to together

one-before : (n q w : ℕ) (x : NodeNo × Val) (b : Bool) (rest more : Made) → (q == n) ≡ b → b ≡ false → rest ≡ more
    → map (λ (i : PhaseItem). (i, w)) (if q == n then as_value x ∷ as_late x ∷ [] else as_value x ∷ []) ++ rest ≡ (as_value x, w) ∷ more
one-before n q w x b rest more test is same = rw (test, is) (ap (λ (es : Made). (as_value x, w) ∷ es) same)

ends-before : (n q : ℕ) → (q == n) ≡ false → (xs : Pairs) → expanded (ends n) (at_round q xs) ≡ mapped as_value xs
ends-before n q other [] = refl
ends-before n q other (e ∷ xs) = one-before n q e.1 e.0 (q == n) (expanded (ends n) (at_round q xs)) (mapped as_value xs) refl other (ends-before n q other xs)

one-last : (g : PhaseItem → ℕ) (n w : ℕ) (x : NodeNo × Val) (b : Bool) (rest : Made) (values lates : ℕ) → (n == n) ≡ b → b ≡ true → total g rest ≡ values + lates
    → total g (map (λ (i : PhaseItem). (i, w)) (if n == n then as_value x ∷ as_late x ∷ [] else as_value x ∷ []) ++ rest) ≡ (g (as_value x) * w + values) + (g (as_late x) * w + lates)
one-last g n w x b rest values lates test is so_far = rw (test, is) (omega (arith, so_far))

test-itself : (n : ℕ) → (n == n) ≡ true
test-itself n = grind (arith, nat_tests)

last-total : (g : PhaseItem → ℕ) (n : ℕ) (xs : Pairs) → total g (expanded (ends n) (at_round n xs)) ≡ total g (mapped as_value xs) + total g (mapped as_late xs)
last-total g n [] = omega arith
last-total g n (e ∷ xs) = one-last g n e.1 e.0 (n == n) (expanded (ends n) (at_round n xs)) (total g (mapped as_value xs)) (total g (mapped as_late xs)) refl (test-itself n) (last-total g n xs)

ends-last : (n : ℕ) (xs : Pairs) → Alike (expanded (ends n) (at_round n xs)) (mapped as_value xs ++ mapped as_late xs)
ends-last n xs = record { totals = λ g. ap (λ (k : ℕ). k % 2 ^ 64) (last-total g n xs ∙ sym (total-append g (mapped as_value xs) (mapped as_late xs))) }

cancelled : (a b c : ℕ) → (a + b) % 2 ^ 64 ≡ 0 → (a + (c + b)) % 2 ^ 64 ≡ c % 2 ^ 64
cancelled a b c h = omega arith

replaced : {X : Type 0} (xs ys : List (X × ℕ)) → Alike (xs ++ (ys ++ negated xs)) ys
replaced xs ys = record { totals = λ g. rw (total-append g xs (ys ++ negated xs), total-append g ys (negated xs)) (cancelled (total g xs) (total g (negated xs)) (total g ys) (negated-total g xs)) }

replaced-mapped : (f : NodeNo × Val → PhaseItem) (xs ys : Pairs) → Alike (mapped f xs ++ mapped f (ys ++ negated xs)) (mapped f ys)
replaced-mapped f xs ys = Alike-trans (Alike-is (sym (mapped-append f xs (ys ++ negated xs)))) (Alike-mapped f (xs ++ (ys ++ negated xs)) ys (replaced xs ys))

not-yet : (q n : ℕ) → q < n → (q == n) ≡ false
not-yet q n low = grind (arith, nat_tests)

regrouped : {X : Type 0} (us vs ws : List (X × ℕ)) → Alike (us ++ (vs ++ ws)) ((us ++ vs) ++ ws)
regrouped us vs ws = record { totals = λ g. rw (total-append g us (vs ++ ws), total-append g vs ws, total-append g (us ++ vs) ws, total-append g us vs) (ap (λ (k : ℕ). k % 2 ^ 64) (joined (total g us) (total g vs) (total g ws))) } where
  joined : (a b c : ℕ) → a + (b + c) ≡ (a + b) + c
  joined a b c = omega arith

module _ (come : ℕ → Pairs) (n : ℕ) where
  ends-so-far : (q : ℕ) → q < n → Alike (expanded (ends n) (changes come q)) (mapped as_value (come q))
  ends-so-far zero low = Alike-is (ends-before n 0 (not-yet 0 n low) (come 0))
  ends-so-far (suc q) low =
      let change : Pairs = come (suc q) ++ negated (come q) in
      Alike-trans (Alike-is (expanded-append (ends n) (changes come q) (at_round (suc q) change)))
      (Alike-trans (Alike-append (ends-so-far q (omega (arith, low))) (Alike-is (ends-before n (suc q) (not-yet (suc q) n low) change))) (replaced-mapped as_value (come q) (come (suc q))))

-- the values at the end of a phase, and what its last round changed
ends-of : (come : ℕ → Pairs) (m : ℕ) → Alike (expanded (ends (suc m)) (changes come (suc m))) (mapped as_value (come (suc m)) ++ mapped as_late (come (suc m) ++ negated (come m)))
ends-of come m =
    let change : Pairs = come (suc m) ++ negated (come m) in
    Alike-trans (Alike-is (expanded-append (ends (suc m)) (changes come m) (at_round (suc m) change)))
    (Alike-trans (Alike-append (ends-so-far come (suc m) m (omega arith)) (ends-last (suc m) change))
    (Alike-trans (regrouped (mapped as_value (come m)) (mapped as_value change) (mapped as_late change))
    (Alike-append (replaced-mapped as_value (come m) (come (suc m))) (Alike-refl (mapped as_late change)))))

-- ---- in the words of values

once-mapped : {A V W : Type 0} (g : V → W) (f : A → V) (xs : List A) → mapped g (once f xs) ≡ once (λ (x : A). g (f x)) xs
once-mapped g f [] = refl
once-mapped g f (x ∷ xs) = ap (λ es. (g (f x), 1) ∷ es) (once-mapped g f xs)

mapped-negated : {A B : Type 0} (f : A → B) (xs : List (A × ℕ)) → mapped f (negated xs) ≡ negated (mapped f xs)
mapped-negated f [] = refl
mapped-negated f (e ∷ xs) = ap (λ es. (f e.0, (2 ^ 64 - e.1 % 2 ^ 64) % 2 ^ 64) ∷ es) (mapped-negated f xs)

module _ (graph : GraphData) where
  abbrev nodes : List NodeNo
  nodes = map node (nodes_of graph)

  values-ended : (xs : Pairs) (values : List Val) → Alike xs (values_of graph values) → Alike (mapped as_value xs) (ended graph values)
  values-ended xs values is = Alike-trans (Alike-mapped as_value xs (values_of graph values) is) (Alike-is (once-mapped as_value (λ (v : NodeNo). (v, value_at values v.0)) nodes))

  lates : (xs : Pairs) (values : List Val) → Alike xs (values_of graph values) → Alike (mapped as_late xs) (once (λ (v : NodeNo). item.Late v (value_at values v.0)) nodes)
  lates xs values is = Alike-trans (Alike-mapped as_late xs (values_of graph values) is) (Alike-is (once-mapped as_late (λ (v : NodeNo). (v, value_at values v.0)) nodes))

  change-late : (before after : Pairs) (values next : List Val) → Alike before (values_of graph values) → Alike after (values_of graph next) → Alike (mapped as_late (after ++ negated before)) (late graph values next)
  change-late before after values next was is =
      Alike-trans (Alike-is (mapped-append as_late after (negated before) ∙ ap (λ (es : Made). mapped as_late after ++ es) (mapped-negated as_late before)))
      (Alike-append (lates after next is) (Alike-negated (mapped as_late before) (once (λ (v : NodeNo). item.Late v (value_at values v.0)) nodes) (lates before values was)))

  -- ---- what the next phase begins with

  abbrev started : List Val → List (StartInput × ℕ)
  started values = once (λ (v : NodeNo). given.Start v (value_at values v.0)) nodes

  arcs-begin : (arcs : List Arc) → expanded begins (once Fixed arcs) ≡ once given.Arc arcs
  arcs-begin [] = refl
  arcs-begin (a ∷ arcs) = ap (λ (es : List (StartInput × ℕ)). (given.Arc a, 1) ∷ es) (arcs-begin arcs)

  values-begin : (values : List Val) (vs : List NodeNo) → expanded begins (as_moving (once (λ (v : NodeNo). item.Value v (value_at values v.0)) vs)) ≡ once (λ (v : NodeNo). given.Start v (value_at values v.0)) vs
  values-begin values [] = refl
  values-begin values (v ∷ vs) = ap (λ (es : List (StartInput × ℕ)). (given.Start v (value_at values v.0), 1) ∷ es) (values-begin values vs)

  lates-begin : (values : List Val) (vs : List NodeNo) → expanded begins (as_moving (once (λ (v : NodeNo). item.Late v (value_at values v.0)) vs)) ≡ []
  lates-begin values [] = refl
  lates-begin values (v ∷ vs) = lates-begin values vs

  less-begin : (values : List Val) (vs : List NodeNo) → expanded begins (as_moving (negated (once (λ (v : NodeNo). item.Late v (value_at values v.0)) vs))) ≡ []
  less-begin values [] = refl
  less-begin values (v ∷ vs) = less-begin values vs

  late-begins : (values next : List Val) → expanded begins (as_moving (late graph values next)) ≡ []
  late-begins values next =
      let first = once (λ (v : NodeNo). item.Late v (value_at next v.0)) nodes in
      let second = negated (once (λ (v : NodeNo). item.Late v (value_at values v.0)) nodes) in
      ap (expanded begins) (mapped-append Moving first second)
      ∙ expanded-append begins (as_moving first) (as_moving second)
      ∙ ap (λ (es : List (StartInput × ℕ)). es ++ expanded begins (as_moving second)) (lates-begin next nodes)
      ∙ less-begin values nodes

module _ (answer : Answer) (p : Program) (graph : GraphData) (starts : List Val) (arcs : List Arc) (n : ℕ) where
  abbrev values_at : ℕ → List Val
  values_at k = phase_values answer p graph starts arcs n k

  items-begin : (k : ℕ) → expanded begins (as_moving (phase_items answer p graph starts arcs n k)) ≡ started graph (values_at k)
  items-begin zero = values-begin graph starts (nodes graph) ∙ ap (started graph) (sym (phase-starts answer p graph starts arcs n))
  items-begin (suc k) =
      let last = rounds_from answer p graph (values_at k) arcs n in
      let change = late graph (rounds_from answer p graph (values_at k) arcs (n - 1)) last in
      ap (expanded begins) (mapped-append Moving (ended graph last) change)
      ∙ expanded-append begins (as_moving (ended graph last)) (as_moving change)
      ∙ ap (λ (es : List (StartInput × ℕ)). expanded begins (as_moving (ended graph last)) ++ es) (late-begins graph (rounds_from answer p graph (values_at k) arcs (n - 1)) last)
      ∙ append-nil (expanded begins (as_moving (ended graph last)))
      ∙ values-begin graph last (nodes graph)
      ∙ ap (started graph) (sym (next-at k)) where
        next-at : (k : ℕ) → values_at (suc k) ≡ rounds_from answer p graph (values_at k) arcs n
        next-at k = let more : suc k ≡ k + 1 = omega arith in ap (λ (j : ℕ). values_at j) more ∙ phase-next answer p graph starts arcs n k

swapped : {X : Type 0} (us vs : List (X × ℕ)) → Alike (us ++ vs) (vs ++ us)
swapped us vs = record { totals = λ g. rw (total-append g us vs, total-append g vs us) (ap (λ (k : ℕ). k % 2 ^ 64) (turned (total g us) (total g vs))) } where
  turned : (a b : ℕ) → a + b ≡ b + a
  turned a b = omega arith

-- ---- phase by phase

module _ (ncmp : NodeNo → NodeNo → Ordering) (no : IsOrder ncmp) (acmp : Arc → Arc → Ordering) (ao : IsOrder acmp) (icmp : NodeItem → NodeItem → Ordering) (io : IsItemOrder icmp) (answer : Answer) (p : Program) (graph : GraphData) (arcs : List Arc) (view : IsViewOf graph arcs) where
  -- one phase, from what it begins with
  one-phase : (values : List Val) → length values ≡ length graph.ids → (m : ℕ) (held : List (InPhase × ℕ)) → Alike (expanded begins held) (starts_fed graph values arcs)
      → Alike (phase_of ncmp acmp icmp answer p graph (suc m) held) (ended graph (rounds_from answer p graph values arcs (suc m)) ++ late graph (rounds_from answer p graph values arcs m) (rounds_from answer p graph values arcs (suc m)))
  one-phase values size m held is =
      let come = after_rounds (round_of ncmp icmp answer p graph) (prepared_starts ncmp acmp p graph (expanded begins held)) in
      let at = (λ (r : ℕ). rounds-are-from-starts ncmp no acmp ao icmp io answer p graph values size arcs view r (expanded begins held) is) in
      Alike-trans (ends-of come m)
      (Alike-append (values-ended graph (come (suc m)) (rounds_from answer p graph values arcs (suc m)) (at (suc m)))
      (change-late graph (come m) (come (suc m)) (rounds_from answer p graph values arcs m) (rounds_from answer p graph values arcs (suc m)) (at m) (at (suc m))))

  module _ (starts : List Val) (size : length starts ≡ length graph.ids) (m : ℕ) where
    abbrev n : ℕ
    n = suc m

    abbrev items_at : ℕ → Made
    items_at k = phase_items answer p graph starts arcs n k

    less-one : (k : ℕ) → ended graph (rounds_from answer p graph (values_at answer p graph starts arcs n k) arcs n) ++ late graph (rounds_from answer p graph (values_at answer p graph starts arcs n k) arcs m) (rounds_from answer p graph (values_at answer p graph starts arcs n k) arcs n) ≡ items_at (suc k)
    less-one k =
        let one : m ≡ n - 1 = omega arith in
        let values = values_at answer p graph starts arcs n k in
        ap (λ (r : ℕ). ended graph (rounds_from answer p graph values arcs n) ++ late graph (rounds_from answer p graph values arcs r) (rounds_from answer p graph values arcs n)) one

    -- what is in the loop of phases
    module _ (came : List (InPhase × ℕ)) (first : Alike (moving came) (ended graph starts)) (stay : Alike (fixed came) (once Fixed arcs)) where
      held-begins : (k : ℕ) (made : Made) → Alike made (items_at k) → Alike (expanded begins (fixed came ++ as_moving made)) (starts_fed graph (values_at answer p graph starts arcs n k) arcs)
      held-begins k made is =
          Alike-trans (Alike-is (expanded-append begins (fixed came) (as_moving made)))
          (Alike-trans (Alike-append
          (Alike-trans ((expanded_linear begins).respects (fixed came) (once Fixed arcs) stay) (Alike-is (arcs-begin graph arcs)))
          (Alike-trans ((expanded_linear begins).respects (as_moving made) (as_moving (items_at k)) (Alike-mapped Moving made (items_at k) is)) (Alike-is (items-begin answer p graph starts arcs n k))))
          (swapped (once given.Arc arcs) (started graph (values_at answer p graph starts arcs n k))))

      pub phase-items : (k : ℕ) → Alike (after_rounds (phase_of ncmp acmp icmp answer p graph n) came k) (items_at k)
      phase-items zero = first
      phase-items (suc k) =
          let made = after_rounds (phase_of ncmp acmp icmp answer p graph n) came k in
          Alike-trans (one-phase (values_at answer p graph starts arcs n k) (length-phase answer p graph starts arcs n k size) m (fixed came ++ as_moving made) (held-begins k made (phase-items k)))
          (Alike-is (less-one k))

-- ---- what comes into the loop of phases

module _ (graph : GraphData) (starts : List Val) where
  starts-enter : (vs : List NodeNo) → expanded enters (once (λ (v : NodeNo). given.Start v (value_at starts v.0)) vs) ≡ as_moving (once (λ (v : NodeNo). item.Value v (value_at starts v.0)) vs)
  starts-enter [] = refl
  starts-enter (v ∷ vs) = ap (λ (es : List (InPhase × ℕ)). (Moving (item.Value v (value_at starts v.0)), 1) ∷ es) (starts-enter vs)

  arcs-enter : (arcs : List Arc) → expanded enters (once given.Arc arcs) ≡ once Fixed arcs
  arcs-enter [] = refl
  arcs-enter (a ∷ arcs) = ap (λ (es : List (InPhase × ℕ)). (Fixed a, 1) ∷ es) (arcs-enter arcs)

  fixed-moving : (xs : Made) → fixed {F = Arc} (as_moving xs) ≡ []
  fixed-moving [] = refl
  fixed-moving (x ∷ xs) = fixed-moving xs

  moving-moving : (xs : Made) → moving {F = Arc} (as_moving xs) ≡ xs
  moving-moving [] = refl
  moving-moving (x ∷ xs) = ap (λ (es : Made). x ∷ es) (moving-moving xs)

  fixed-fixed : (arcs : List Arc) → fixed {X = PhaseItem} (once Fixed arcs) ≡ once Fixed arcs
  fixed-fixed [] = refl
  fixed-fixed (a ∷ arcs) = ap (λ (es : List (InPhase × ℕ)). (Fixed a, 1) ∷ es) (fixed-fixed arcs)

  moving-fixed : (arcs : List Arc) → moving {X = PhaseItem} (once Fixed arcs) ≡ []
  moving-fixed [] = refl
  moving-fixed (a ∷ arcs) = moving-fixed arcs

  abbrev entered : List Arc → List (InPhase × ℕ)
  entered arcs = as_moving (ended graph starts) ++ once Fixed arcs

  fed-enters : (arcs : List Arc) → expanded enters (starts_fed graph starts arcs) ≡ entered arcs
  fed-enters arcs =
      expanded-append enters (started graph starts) (once given.Arc arcs)
      ∙ ap (λ (es : List (InPhase × ℕ)). es ++ expanded enters (once given.Arc arcs)) (starts-enter (nodes graph))
      ∙ ap (λ (es : List (InPhase × ℕ)). as_moving (ended graph starts) ++ es) (arcs-enter arcs)

  entered-fixed : (arcs : List Arc) → fixed (entered arcs) ≡ once Fixed arcs
  entered-fixed arcs = fixed-append (as_moving (ended graph starts)) (once Fixed arcs) ∙ ap (λ (es : List (InPhase × ℕ)). es ++ fixed (once Fixed arcs)) (fixed-moving (ended graph starts)) ∙ fixed-fixed arcs

  entered-moving : (arcs : List Arc) → moving (entered arcs) ≡ ended graph starts
  entered-moving arcs =
      moving-append (as_moving (ended graph starts)) (once Fixed arcs)
      ∙ ap (λ (es : Made). es ++ moving (once Fixed arcs)) (moving-moving (ended graph starts))
      ∙ ap (λ (es : Made). ended graph starts ++ es) (moving-fixed arcs)
      ∙ append-nil (ended graph starts)

  enters-alike : (arcs : List Arc) (fed : List (StartInput × ℕ)) → Alike fed (starts_fed graph starts arcs) → Alike (expanded enters fed) (entered arcs)
  enters-alike arcs fed is = Alike-trans ((expanded_linear enters).respects fed (starts_fed graph starts arcs) is) (Alike-is (fed-enters arcs))

  pub first-items : (arcs : List Arc) (fed : List (StartInput × ℕ)) → Alike fed (starts_fed graph starts arcs) → Alike (moving (expanded enters fed)) (ended graph starts)
  first-items arcs fed is = Alike-trans (Alike-moving (expanded enters fed) (entered arcs) (enters-alike arcs fed is)) (Alike-is (entered-moving arcs))

  pub arcs-stay : (arcs : List Arc) (fed : List (StartInput × ℕ)) → Alike fed (starts_fed graph starts arcs) → Alike (fixed (expanded enters fed)) (once Fixed arcs)
  arcs-stay arcs fed is = Alike-trans (Alike-fixed (expanded enters fed) (entered arcs) (enters-alike arcs fed is)) (Alike-is (entered-fixed arcs))

pub loop-is-phases : LoopIsPhases
loop-is-phases ncmp nodes_ordered acmp arcs_ordered icmp items_ordered answer p graph starts size arcs view zero phases k some low fed is = absurd (omega (arith, some))
loop-is-phases ncmp nodes_ordered acmp arcs_ordered icmp items_ordered answer p graph starts size arcs view (suc m) phases k some low fed is =
    Alike-trans (loop-sums (after_rounds (phase_of ncmp acmp icmp answer p graph (suc m)) (expanded enters fed)) phases k low)
    (phase-items ncmp nodes_ordered acmp arcs_ordered icmp items_ordered answer p graph arcs view starts size m (expanded enters fed) (first-items graph starts arcs fed is) (arcs-stay graph starts arcs fed is) k)
