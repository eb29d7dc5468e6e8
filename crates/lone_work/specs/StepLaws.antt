-- What a step from round to round looks at; the work of a first view and of equal views; the settled round.
use Rattle.std.specs.Prelude.{◌≡◌, ◌≢◌, ℕ, zero, suc, ◌+◌, ◌<◌, ◌≤◌, Bool, true, false, not, ◌&&◌, ◌||◌, List, [], ◌∷◌, ◌++◌, length, flat_map, Some, None, refl}
use Rattle.std.specs.List.{sum_by}
use Rattle.std.specs.List.Sorted.{IsPermutation}
use Rattle.std.specs.Cmp.{both_ways}
use Rattle.std.proofs.Common.{arith, ap, sym, ◌∙◌}
use Rattle.std.proofs.lemmas.List.Sorted.{sum_by-IsPermutation}
use Rattle.std.proofs.lemmas.List.Sums.{sum_by-cons}
use Rattle.std.proofs.lemmas.List.Concat.{flat_map-cons}
use Rattle.std.proofs.lemmas.Cmp.{tied_itself, nat_cmp_total}
use Rattle.std.specs.declared.cmp.Ordering.{Ordering}
use Rattle.std.specs.declared.cmp.Ordering.TheVariants.{Less, Equal, Greater}
use Rattle.std.specs.Ordering.{is_eq, nat_cmp, bool_cmp}
use Rattle.vertex_lang.specs.SameArc.{arc_cmp, arc_same}
use Rattle.graph_model.specs.declared.value.Val.{Val}
use Rattle.graph_model.specs.declared.number.EdgeNo.{EdgeNo}
use Rattle.graph_model.specs.GraphData.{GraphData}
use Rattle.vertex_lang.specs.declared.arc.Arc.{Arc}
use Rattle.vertex_lang.specs.declared.program.Program.{Program}
use Rattle.vertex_lang.specs.declared.program.Along.{Along}
use Rattle.vertex_lang.specs.Arcs.{arcs_of_edge, arcs_between}
use Rattle.vertex_lang.specs.Expressions.{Answer}
use Rattle.vertex_lang.specs.Rounds.{nodes_of, value_at, lone}
use Rattle.vertex_lang.specs.Lone.{same_value}
use Rattle.vertex_lang.specs.declared.lone.Rounds.TheVariants as rounds
use Rattle.vertex_lang.specs.declared.lone.Outcome.TheVariants as outcome
use Rattle.vertex_lang.specs.AnswerLaws.{answer_is}
use Rattle.multisets.specs.Multisets.{IsExact, often, AreOne, DoCancel, are_one, do_cancel}
use Rattle.multisets.specs.CountLaws.{often-append, one-told, one-tells, one-trans, cancel-told, cancel-tells}
use Rattle.lone_work.specs.Items.{Item, same_item}
use Rattle.lone_work.specs.Inputs.{input, input_in, own_values, got_values}
use Rattle.lone_work.specs.Work.{previous, is_active, is_touched, is_marked, is_counted, rounds_counted, rounds_marked, node_active, node_touched, node_counted, node_marked, touched_before, work}
use Rattle.vertex_lang.specs.GatherLaws.{values-exact}
use Rattle.lone_work.specs.InputLaws.{items-exact, messages-one, own-one}
use Rattle.lone_work.specs.WorkLaws.{untouched-input, untouched-value, first-counted, starts-agree, sum-none}
use Rattle.multisets.specs.SumLaws.{sum-same}
use Rattle.vertex_lang.specs.RoundLaws.{stays}
use Rattle.multisets.specs.OrderLaws.{permuted-one}
use Rattle.multisets.specs.OrderLaws.{one-permuted}
use Rattle.lone_work.specs.CountLaws.{permuted-nothing}
use Rattle.lone_work.specs.SplitLaws.{active-splits}
use Rattle.lone_work.specs.Laws.{values_cancel, CountedIs, TouchedIs, UntouchedTest, CountedByMarks, FirstViewWork, NoRoundNoWork, SameEdgesNoWork, SettledAtLastChange, UnsettledAtLastChange}

pub counted-is : CountedIs
unfolding node_counted node_touched node_active node_marked
counted-is answer p graph new old v r = refl

pub touched-is : TouchedIs
unfolding node_touched node_active
touched-is answer p graph new old v zero = refl
touched-is answer p graph new old v (suc r) = refl

-- ---- lists that were one before

module _ {A : Type 0} (same : A → A → Bool) (exact : IsExact same) where
  pub cancel-after : (a b c d : List A) → AreOne same c d → do_cancel same a b c d ≡ are_one same a b
  cancel-after a b c d s = both_ways (do_cancel same a b c d) (are_one same a b)
      (λ e. one-tells same a b (record { counts = λ x. omega (arith, (cancel-told same exact a b c d e).counts x, s.counts x) }))
      (λ e. cancel-tells same a b c d (record { counts = λ x. omega (arith, (one-told same exact a b e).counts x, s.counts x) }))

  pub cancel-beside : (a b c d : List A) → AreOne same b d → do_cancel same a b c d ≡ are_one same a c
  cancel-beside a b c d s = both_ways (do_cancel same a b c d) (are_one same a c)
      (λ e. one-tells same a c (record { counts = λ x. omega (arith, (cancel-told same exact a b c d e).counts x, s.counts x) }))
      (λ e. cancel-tells same a b c d (record { counts = λ x. omega (arith, (one-told same exact a c e).counts x, s.counts x) }))

-- ---- marks of a touched node

not-told : (b : Bool) → not b ≡ false → b ≡ true
not-told true e = refl
not-told false e = absurd cc

or-true : (b : Bool) → (b || true) ≡ true
or-true true = refl
or-true false = refl

or-false : (b : Bool) → (b || false) ≡ b
or-false true = refl
or-false false = refl

by-marks : (t a m n : Bool) → t ≡ true → (m ≡ false → a ≡ n) → (t && (a || m)) ≡ (n || m)
by-marks true a true n e h = or-true a ∙ sym (or-true n)
by-marks true a false n e h = or-false a ∙ h refl ∙ sym (or-false n)
by-marks false a m n e h = absurd cc

pub counted-by-marks : CountedByMarks
unfolding node_counted node_touched node_marked
counted-by-marks answer p graph new old v r t =
    let f = input_in answer p graph (Some new) v in
    let g = input_in answer p graph old v in
    by-marks (is_touched f g r) (is_active f g r) (is_marked g r) (is_marked f r) t
    (λ e. ap not (cancel-beside same_item items-exact (f r) (g r) (previous f r) (previous g r) (one-told same_item items-exact (g r) (previous g r) (not-told (are_one same_item (g r) (previous g r)) e))))

-- ---- the test of a node that wasn't touched before

value-before : (answer : Answer) (p : Program) (graph : GraphData) (new old : List Arc) (v r : ℕ) → v < length graph.ids → touched_before answer p graph new (Some old) v r ≡ false
    → value_at (lone answer p graph new r) v ≡ value_at (lone answer p graph old r) v
value-before answer p graph new old v zero low e = starts-agree answer p graph new old v
value-before answer p graph new old v (suc r) low e = untouched-value answer p graph new old v r (suc r) low e (omega arith)

own-before-one : (answer : Answer) (p : Program) (graph : GraphData) (new old : List Arc) (v r : ℕ) → v < length graph.ids → touched_before answer p graph new (Some old) v r ≡ false
    → AreOne same_value (previous (own_values answer p graph new v) r) (previous (own_values answer p graph old v) r)
own-before-one answer p graph new old v zero low e = record { counts = λ x. refl }
own-before-one answer p graph new old v (suc r) low e = record { counts = λ x. ap (λ w. often same_value x (w ∷ [])) (untouched-value answer p graph new old v r r low e (omega arith)) }

got-before-one : (answer : Answer) (p : Program) (graph : GraphData) (new old : List Arc) (v r : ℕ) → touched_before answer p graph new (Some old) v r ≡ false
    → AreOne same_value (previous (got_values answer p graph new v) r) (previous (got_values answer p graph old v) r)
got-before-one answer p graph new old v zero e = record { counts = λ x. refl }
got-before-one answer p graph new old v (suc r) e = messages-one _ _ _ _ (got_values answer p graph new v r) (got_values answer p graph old v r) (untouched-input answer p graph new (Some old) v r r e (omega arith))

pub untouched-test : UntouchedTest
untouched-test answer p graph new old v r low e =
    let own_new = own_values answer p graph new v in
    let own_old = own_values answer p graph old v in
    let got_new = got_values answer p graph new v in
    let got_old = got_values answer p graph old v in
    let own : values_cancel own_new own_old r ≡ true = cancel-after same_value values-exact (own_new r) (own_old r) (previous own_new r) (previous own_old r) (own-before-one answer p graph new old v r low e)
    ∙ one-tells same_value (own_new r) (own_old r) (record { counts = λ x. ap (λ w. often same_value x (w ∷ [])) (value-before answer p graph new old v r low e) }) in
    active-splits answer p graph new old v r
    ∙ ap (λ b. not (b && values_cancel got_new got_old r)) own
    ∙ ap not (cancel-after same_value values-exact (got_new r) (got_old r) (previous got_new r) (previous got_old r) (got-before-one answer p graph new old v r e))

-- ---- a first view

rounds-alike : (f g : ℕ → List Item) (n : ℕ) → ((r : ℕ) → is_counted f g r ≡ is_marked f r) → rounds_counted f g n ≡ rounds_marked f n
rounds-alike f g zero h = refl
rounds-alike f g (suc n) h = rw (h n, rounds-alike f g n h) refl

pub first-work : FirstViewWork
unfolding work node_counted node_marked
first-work answer p graph new rounds = sum-same (λ v. rounds_counted (input_in answer p graph (Some new) v) (input_in answer p graph None v) rounds) (λ v. rounds_marked (input answer p graph new v) rounds) (nodes_of graph)
    (λ v. rounds-alike (input_in answer p graph (Some new) v) (input_in answer p graph None v) rounds (λ r. first-counted answer p graph new v r))

pub no-round : NoRoundNoWork
unfolding work
no-round answer p graph new old = sum-none (λ (v : ℕ). 0) (nodes_of graph) (λ v. refl)

-- ---- edges in another order

module _ {A B : Type 0} (f : A → List B) (same : B → B → Bool) where
  flat-often : (x : B) (xs : List A) → often same x (flat_map f xs) ≡ sum_by (λ a. often same x (f a)) xs
  flat-often x [] = refl
  flat-often x (y ∷ xs) = omega (arith, ap (λ (ws : List B). often same x ws) (flat_map-cons f y xs), often-append same x (f y) (flat_map f xs), flat-often x xs, sum_by-cons (λ a. often same x (f a)) y xs)

  pub flat-permuted : IsExact same → (xs ys : List A) → IsPermutation xs ys → IsPermutation (flat_map f xs) (flat_map f ys)
  flat-permuted exact xs ys s = one-permuted same exact (flat_map f xs) (flat_map f ys) (record {
    counts = λ x. flat-often x xs ∙ sym (sum_by-IsPermutation (λ a. often same x (f a)) xs ys s) ∙ sym (flat-often x ys);
  })

-- the test of arcs
pub same_arc : Arc → Arc → Bool
same_arc x y = is_eq (arc_cmp x y)

is-equal : (o : Ordering) → is_eq o ≡ true → o ≡ Equal
is-equal Less e = absurd cc
is-equal Equal e = refl
is-equal Greater e = absurd cc

bool-tied : (b : Bool) → bool_cmp b b ≡ Equal
bool-tied true = refl
bool-tied false = refl

arc-itself : (x : Arc) → same_arc x x ≡ true
unfolding same_arc
arc-itself x = rw (tied_itself nat_cmp_total x.tail.0, tied_itself nat_cmp_total x.head.0, tied_itself nat_cmp_total x.edge.0, bool-tied x.back) refl

pub arcs-exact : IsExact same_arc
unfolding same_arc
arcs-exact = record { itself = arc-itself; one = λ x y e. arc_same x y (is-equal (arc_cmp x y) e) }

pub same-edges : SameEdgesNoWork
same-edges answer p graph way new old rounds s = permuted-nothing answer p graph (arcs_between way graph new) (arcs_between way graph old) rounds (flat-permuted (arcs_of_edge way graph) same_arc arcs-exact new old s)

-- ---- the settled round

module _ (answer : Answer) (p : Program) (graph : GraphData) (arcs : List Arc) where
  -- where a round changes nothing none after it does
  again : (k m : ℕ) → lone answer p graph arcs (k + 1) ≡ lone answer p graph arcs k → k ≤ m → lone answer p graph arcs (m + 1) ≡ lone answer p graph arcs m
  again k m e low = stays answer p graph arcs k (m + 1) e (omega arith) ∙ sym (stays answer p graph arcs k m e low)

  below-last : (m : ℕ) → ((k : ℕ) → k + 1 ≡ m → lone answer p graph arcs (k + 1) ≢ lone answer p graph arcs k) → (k : ℕ) → k < m → lone answer p graph arcs (k + 1) ≢ lone answer p graph arcs k
  below-last zero h k low = absurd (omega arith)
  below-last (suc m) h k low = λ e. h m (omega arith) (again k m e (omega arith))

pub settled-last : SettledAtLastChange
settled-last answer p graph arcs m n low e h = sym (answer_is answer p graph arcs (rounds.Within n) (record { outcome = outcome.Settled m; values = lone answer p graph arcs m }) (record { within = low; settled = e; first = below-last answer p graph arcs m h }, refl))

pub unsettled-last : UnsettledAtLastChange
unsettled-last answer p graph arcs k h = sym (answer_is answer p graph arcs (rounds.Within (k + 1)) (record { outcome = outcome.Unsettled; values = [] }) (λ j low e. h (again answer p graph arcs j k e (omega arith)), refl))
