-- What follows where a node isn't active, touched or counted.
use Rattle.std.specs.Prelude.{Option, map, length, ◌≡◌, ℕ, zero, suc, ◌+◌, ◌<◌, ◌≤◌, Bool, true, false, not, ◌&&◌, ◌||◌, List, [], ◌∷◌, Some, None, refl}
use Rattle.std.specs.List.{sum_by}
use Rattle.std.specs.Cmp.{both_ways}
use Rattle.std.proofs.Common.{arith, ap, sym, ◌∙◌, inl, inr, subst}
use Rattle.std.proofs.lemmas.Bool.{cases_Bool, cases_lt, not-false, not_from_true, true_from_ne_false}
use Rattle.std.proofs.lemmas.List.Sums.{sum_by-cons}
use Rattle.std.proofs.lemmas.List.FromFn.{fill_by_all}
use Rattle.graph_model.specs.declared.value.Val.{Val}
use Rattle.graph_model.specs.declared.value.Val.TheVariants.{Nil}
use Rattle.graph_model.specs.GraphData.{GraphData}
use Rattle.vertex_lang.specs.declared.arc.Arc.{Arc}
use Rattle.vertex_lang.specs.declared.program.Program.{Program}
use Rattle.vertex_lang.specs.Expressions.{Answer, start_of}
use Rattle.vertex_lang.specs.Rounds.{next_of, next, nodes_of, value_at, lone}
use Rattle.multisets.specs.Multisets.{often, AreOne, DoCancel, are_one, do_cancel}
use Rattle.multisets.specs.CountLaws.{one-told, one-tells, one-sym, one-trans, one-refl, cancel-told, cancel-tells}
use Rattle.lone_work.specs.Items.{Item, same_item}
use Rattle.lone_work.specs.Inputs.{input_under, input, input_in}
use Rattle.lone_work.specs.Work.{node_marked, lone_in, IsStepped, node_touched, node_counted, previous, is_active, is_touched, is_marked, is_counted, rounds_counted, node_active, work}
use Rattle.vertex_lang.specs.RoundLaws.{next-at}
use Rattle.lone_work.specs.InputLaws.{items-exact, value-told}
use Rattle.lone_work.specs.Laws.{StepIsLone, MarkByCounted, MarkedAtFirst, UntouchedAgree, StartsAgree, UntouchedSameInput, UntouchedSameValue, UntouchedSameMark, QuietSameInput, UnmarkedSameValue, UncountedValue, FirstViewTouched, FirstViewCounted, SettledCostsNothing, EqualViewsNoWork}

neither : (a b : Bool) → (a || b) ≡ false → (a ≡ false) × (b ≡ false)
neither true b e = absurd cc
neither false b e = (refl, e)

-- ---- of what is got in each round of two views

module _ (new old : ℕ → List Item) where
  cancelled : (r : ℕ) → is_active new old r ≡ false → DoCancel same_item (new r) (old r) (previous new r) (previous old r)
  cancelled r e = cancel-told same_item items-exact (new r) (old r) (previous new r) (previous old r) (not-false (do_cancel same_item (new r) (old r) (previous new r) (previous old r)) e)

  pub active-by : (r : ℕ) → DoCancel same_item (new r) (old r) (previous new r) (previous old r) → is_active new old r ≡ false
  active-by r s = not_from_true (do_cancel same_item (new r) (old r) (previous new r) (previous old r)) (cancel-tells same_item (new r) (old r) (previous new r) (previous old r) s)

  untouched-before : (r : ℕ) → is_touched new old (suc r) ≡ false → is_touched new old r ≡ false
  untouched-before r e = (neither (is_touched new old r) (is_active new old (suc r)) e).0

  untouched-now : (r : ℕ) → is_touched new old r ≡ false → is_active new old r ≡ false
  untouched-now zero e = e
  untouched-now (suc r) e = (neither (is_touched new old r) (is_active new old (suc r)) e).1

  untouched-same : (r : ℕ) → is_touched new old r ≡ false → AreOne same_item (new r) (old r)
  untouched-same zero e = record { counts = λ x. omega (arith, (cancelled zero e).counts x) }
  untouched-same (suc r) e = record { counts = λ x. omega (arith, (cancelled (suc r) (untouched-now (suc r) e)).counts x, (untouched-same r (untouched-before r e)).counts x) }

  untouched-previous : (r : ℕ) → is_touched new old r ≡ false → AreOne same_item (previous new r) (previous old r)
  untouched-previous zero e = one-refl same_item []
  untouched-previous (suc r) e = untouched-same r (untouched-before r e)

  untouched-below : (r k : ℕ) → is_touched new old r ≡ false → k ≤ r → is_touched new old k ≡ false
  untouched-below zero k e low = let same : 0 ≡ k = omega arith in subst (λ n. is_touched new old n ≡ false) same e
  untouched-below (suc r) k e low = elim (cases_lt k (suc r)) [
    | inl h ↦ untouched-below r k (untouched-before r e) (omega arith)
    | inr h ↦ let same : suc r ≡ k = omega arith in subst (λ n. is_touched new old n ≡ false) same e
  ]

  quiet : (r : ℕ) → is_active new old r ≡ false → AreOne same_item (old r) (previous old r) → AreOne same_item (new r) (previous new r)
  quiet r e s = record { counts = λ x. omega (arith, (cancelled r e).counts x, s.counts x) }

unmarked-told : (got : ℕ → List Item) (r : ℕ) → is_marked got r ≡ false → AreOne same_item (got r) (previous got r)
unmarked-told got r e = one-told same_item items-exact (got r) (previous got r) (not-false (are_one same_item (got r) (previous got r)) e)

unmarked-by : (got : ℕ → List Item) (r : ℕ) → AreOne same_item (got r) (previous got r) → is_marked got r ≡ false
unmarked-by got r s = not_from_true (are_one same_item (got r) (previous got r)) (one-tells same_item (got r) (previous got r) s)

ones-alike : (xs ys us vs : List Item) → AreOne same_item xs ys → AreOne same_item us vs → are_one same_item xs us ≡ are_one same_item ys vs
ones-alike xs ys us vs s t = both_ways (are_one same_item xs us) (are_one same_item ys vs)
    (λ e. one-tells same_item ys vs (one-trans same_item ys xs vs (one-sym same_item xs ys s) (one-trans same_item xs us vs (one-told same_item items-exact xs us e) t)))
    (λ e. one-tells same_item xs us (one-trans same_item xs ys us s (one-trans same_item ys vs us (one-told same_item items-exact ys vs e) (one-sym same_item us vs t))))

-- ---- never touched

pub untouched-input : UntouchedSameInput
unfolding node_touched
untouched-input answer p graph new old v r k e low = untouched-same (input_in answer p graph (Some new) v) (input_in answer p graph old v) k (untouched-below (input_in answer p graph (Some new) v) (input_in answer p graph old v) r k e low)

same-start : (answer : Answer) (p : Program) (graph : GraphData) (new old : List Arc) → lone answer p graph new zero ≡ lone answer p graph old zero
unfolding lone
same-start answer p graph new old = refl

pub untouched-value : UntouchedSameValue
untouched-value answer p graph new old v r zero low e within = ap (λ (vs : List Val). value_at vs v) (same-start answer p graph new old)
untouched-value answer p graph new old v r (suc k) low e within = let more : k + 1 ≡ suc k = omega arith in subst (λ n. value_at (lone answer p graph new n) v ≡ value_at (lone answer p graph old n) v) more (value-told answer p graph new old k k v low (untouched-input answer p graph new (Some old) v r k e (omega arith)))

pub untouched-mark : UntouchedSameMark
unfolding node_touched node_marked
untouched-mark answer p graph new old v r e =
    let f = input_in answer p graph (Some new) v in
    let g = input_in answer p graph old v in
    ap not (ones-alike (f r) (g r) (previous f r) (previous g r) (untouched-same f g r e) (untouched-previous f g r e))

-- ---- quiet

pub quiet-input : QuietSameInput
unfolding node_active node_marked
quiet-input answer p graph new old v r e m =
    let f = input_in answer p graph (Some new) v in
    let g = input_in answer p graph old v in
    unmarked-by f r (quiet f g r e (unmarked-told g r m))

never-empty : (answer : Answer) (p : Program) (graph : GraphData) (arcs : List Arc) (v r : ℕ) → AreOne same_item (input answer p graph arcs v r) [] → ⊥
never-empty answer p graph arcs v r s = omega (arith, simp (items-exact.itself (Item.start (start_of p graph v))) at (s.counts (Item.start (start_of p graph v))))

pub unmarked-value : UnmarkedSameValue
unfolding node_marked
unmarked-value answer p graph arcs v zero low e = absurd (never-empty answer p graph arcs v zero (unmarked-told (input_in answer p graph (Some arcs) v) zero e))
unmarked-value answer p graph arcs v (suc r) low e = (omega arith, value-told answer p graph arcs arcs (suc r) r v low (unmarked-told (input_in answer p graph (Some arcs) v) (suc r) e) ∙ ap (λ n. value_at (lone answer p graph arcs n) v) (omega arith))

-- ---- not counted

uncounted-touched : (t a m : Bool) → t ≡ true → (t && (a || m)) ≡ false → (a ≡ false) × (m ≡ false)
uncounted-touched true a m h e = neither a m e
uncounted-touched false a m h e = absurd cc

both_ways_false : (t : Bool) → t ≡ false → t ≡ true → ⊥
both_ways_false true e h = absurd cc
both_ways_false false e h = absurd cc

-- ---- the first view

pub first-touched : FirstViewTouched
unfolding node_touched
first-touched answer p graph new v r = true_from_ne_false (is_touched (input_in answer p graph (Some new) v) (input_in answer p graph None v) r) (λ e. never-empty answer p graph new v r (untouched-input answer p graph new None v r r e (omega arith)))

untouched-in : (answer : Answer) (p : Program) (graph : GraphData) (new : List Arc) (old : Option (List Arc)) (v r : ℕ) → v < length graph.ids → node_touched answer p graph new old v r ≡ false → value_at (lone answer p graph new (r + 1)) v ≡ value_at (lone_in answer p graph old (r + 1)) v
unfolding node_touched
untouched-in answer p graph new None v r low e = absurd (both_ways_false (is_touched (input_in answer p graph (Some new) v) (input_in answer p graph None v) r) e (first-touched answer p graph new v r))
untouched-in answer p graph new (Some old) v r low e = untouched-value answer p graph new old v r (r + 1) low e (omega arith)

-- ---- not counted, whether there's a view before or none

pub uncounted-value : UncountedValue
unfolding node_active node_touched node_counted node_marked
uncounted-value answer p graph new old v r low e =
    let f = input_in answer p graph (Some new) v in
    let g = input_in answer p graph old v in
    elim (cases_Bool (is_touched f g r)) [
      | inr t ↦ inl (t, untouched-mark answer p graph new old v r t, untouched-in answer p graph new old v r low t)
      | inl t ↦
          let q = uncounted-touched (is_touched f g r) (is_active f g r) (is_marked g r) t e in
          let mark = quiet-input answer p graph new old v r q.0 q.1 in
          let stays = unmarked-value answer p graph new v r low mark in
          inr (t, stays.0, mark, stays.1)
    ]

stepped-by : (answer : Answer) (p : Program) (graph : GraphData) (new : List Arc) (old : Option (List Arc)) (r v : ℕ) (value : Val) → v < length graph.ids → IsStepped answer p graph new old v r value → value ≡ value_at (lone answer p graph new (r + 1)) v
stepped-by answer p graph new old r v value low s = elim (cases_Bool (node_counted answer p graph new old v r)) [
  | inl c ↦ s.evaluated c ∙ sym (next-at answer p graph new r v low)
  | inr c ↦ elim (uncounted-value answer p graph new old v r low c) [
    | inl q ↦ s.follows q.0 ∙ sym q.2
    | inr q ↦ s.stays c q.0 ∙ sym q.3
  ]
]

lone-list : (answer : Answer) (p : Program) (graph : GraphData) (arcs : List Arc) (r : ℕ) → lone answer p graph arcs (r + 1) ≡ map (next_of answer p graph arcs (lone answer p graph arcs r)) (nodes_of graph)
unfolding lone next
lone-list answer p graph arcs r = let more : r + 1 ≡ suc r = omega arith in ap (λ n. lone answer p graph arcs n) more

pub step-is-lone : StepIsLone
step-is-lone answer p graph new old r values size each =
    fill_by_all (next_of answer p graph new (lone answer p graph new r)) values (length graph.ids) Nil size
    (λ v low. stepped-by answer p graph new old r v (value_at values v) low (each v low) ∙ next-at answer p graph new r v low)
    ∙ sym (lone-list answer p graph new r)

pub mark-by-counted : MarkByCounted
mark-by-counted answer p graph new old v r low e = elim (uncounted-value answer p graph new old v r low e) [
  | inl q ↦ rw q.0 q.1
  | inr q ↦ rw q.0 q.2
]

pub marked-at-first : MarkedAtFirst
unfolding node_marked
marked-at-first answer p graph arcs v = true_from_ne_false (node_marked answer p graph (Some arcs) v 0) (λ e. never-empty answer p graph arcs v 0 (unmarked-told (input_in answer p graph (Some arcs) v) 0 e))

pub untouched-agree : UntouchedAgree
untouched-agree answer p graph new old v r low e = inl (subst (λ n. value_at (lone answer p graph new n) v ≡ value_at (lone answer p graph old n) v) more (untouched-value answer p graph new old v r (r + 1) low e (omega arith)), untouched-value answer p graph new old v r r low e (omega arith)) where
  more : r + 1 ≡ suc r
  more = omega arith

pub starts-agree : StartsAgree
starts-agree answer p graph new old v = ap (λ (vs : List Val). value_at vs v) (same-start answer p graph new old)

none-before : (answer : Answer) (p : Program) (graph : GraphData) (v r : ℕ) → previous (input_in answer p graph None v) r ≡ []
none-before answer p graph v zero = refl
none-before answer p graph v (suc r) = refl

alone : (xs us : List Item) → do_cancel same_item xs [] us [] ≡ are_one same_item xs us
alone xs us = both_ways (do_cancel same_item xs [] us []) (are_one same_item xs us)
    (λ e. one-tells same_item xs us (record { counts = λ x. omega (arith, (cancel-told same_item items-exact xs [] us [] e).counts x) }))
    (λ e. cancel-tells same_item xs [] us [] (record { counts = λ x. omega (arith, (one-told same_item items-exact xs us e).counts x) }))

true-and-or : (t a m b : Bool) → t ≡ true → a ≡ b → m ≡ false → (t && (a || m)) ≡ b
true-and-or true true m b e f g = f
true-and-or true false m b e f g = g ∙ f
true-and-or false a m b e f g = absurd cc

pub first-counted : FirstViewCounted
unfolding node_counted node_marked node_touched
first-counted answer p graph new v r =
    let f = input_in answer p graph (Some new) v in
    let g = input_in answer p graph None v in
    true-and-or (is_touched f g r) (is_active f g r) (is_marked g r) (is_marked f r)
    (first-touched answer p graph new v r)
    (ap (λ (us : List Item). not (do_cancel same_item (f r) [] (previous f r) us)) (none-before answer p graph v r) ∙ ap not (alone (f r) (previous f r)))
    (ap (λ (us : List Item). not (are_one same_item [] us)) (none-before answer p graph v r))

-- ---- nothing is counted

not-both : (t a m : Bool) → a ≡ false → m ≡ false → (t && (a || m)) ≡ false
not-both true a m e f = rw (e, f) refl
not-both false a m e f = refl

pub settled-suc : (answer : Answer) (p : Program) (graph : GraphData) (new old : List Arc) (v r : ℕ)
    → lone answer p graph new (suc r) ≡ lone answer p graph new r → lone answer p graph old (suc r) ≡ lone answer p graph old r
    → is_counted (input_in answer p graph (Some new) v) (input_in answer p graph (Some old) v) (suc r) ≡ false
settled-suc answer p graph new old v r e h =
    let f = input_in answer p graph (Some new) v in
    let g = input_in answer p graph (Some old) v in
    let same_new : f (suc r) ≡ f r = ap (λ (vs : List Val). input_under p graph new vs v) e in
    let same_old : g (suc r) ≡ g r = ap (λ (vs : List Val). input_under p graph old vs v) h in
    not-both (is_touched f g (suc r)) (is_active f g (suc r)) (is_marked g (suc r))
    (active-by f g (suc r) (record { counts = λ x. omega (arith, ap (λ (is : List Item). often same_item x is) same_new, ap (λ (is : List Item). often same_item x is) same_old) }))
    (unmarked-by g (suc r) (record { counts = λ x. ap (λ (is : List Item). often same_item x is) same_old }))

pub settled-nothing : SettledCostsNothing
unfolding node_counted
settled-nothing answer p graph new old v r e h =
    let more : suc r ≡ r + 1 = omega arith in
    subst (λ n. is_counted (input_in answer p graph (Some new) v) (input_in answer p graph (Some old) v) n ≡ false) more
    (settled-suc answer p graph new old v r (ap (λ n. lone answer p graph new n) more ∙ e) (ap (λ n. lone answer p graph old n) more ∙ h))

equal-active : (f : ℕ → List Item) (r : ℕ) → is_active f f r ≡ false
equal-active f r = active-by f f r (record { counts = λ x. refl })

equal-touched : (f : ℕ → List Item) (r : ℕ) → is_touched f f r ≡ false
equal-touched f zero = equal-active f zero
equal-touched f (suc r) = rw (equal-touched f r) (equal-active f (suc r))

pub not-touched : (t b : Bool) → t ≡ false → (t && b) ≡ false
not-touched t b e = rw e refl

pub none-counted : (f g : ℕ → List Item) (rounds : ℕ) → ((r : ℕ) → is_counted f g r ≡ false) → rounds_counted f g rounds ≡ 0
none-counted f g zero h = refl
none-counted f g (suc r) h = rw (h r) (omega (arith, none-counted f g r h))

pub sum-none : {A : Type 0} (f : A → ℕ) (xs : List A) → ((x : A) → f x ≡ 0) → sum_by f xs ≡ 0
sum-none f [] h = refl
sum-none f (x ∷ xs) h = sum_by-cons f x xs ∙ omega (arith, h x, sum-none f xs h)

pub equal-nothing : EqualViewsNoWork
unfolding work
equal-nothing answer p graph arcs rounds = sum-none (λ v. rounds_counted (input_in answer p graph (Some arcs) v) (input_in answer p graph (Some arcs) v) rounds) (nodes_of graph) (λ v. none-counted (input_in answer p graph (Some arcs) v) (input_in answer p graph (Some arcs) v) rounds (λ r. not-touched (is_touched (input_in answer p graph (Some arcs) v) (input_in answer p graph (Some arcs) v) r) (is_active (input_in answer p graph (Some arcs) v) (input_in answer p graph (Some arcs) v) r || is_marked (input_in answer p graph (Some arcs) v) r) (equal-touched (input_in answer p graph (Some arcs) v) r)))
