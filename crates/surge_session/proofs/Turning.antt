-- Lists of changes that turn edges: those of an insert, and those of a removal.
use Rattle.std.proofs.Common.{◌≡◌, ◌≢◌, ◌⊎◌, inl, inr, ◌∙◌, ◌+◌, ◌<◌, ◌≤◌, ℕ, zero, suc, Bool, true, false, ◌&&◌, ◌||◌, List, [], ◌∷◌, ◌++◌, length, map, take, get_or, All, Option, Some, None, slice_get, refl, sym, ap, ap₂, subst, arith, add-one}
use Rattle.std.specs.Prelude.{not, nat_le, nat_lt, fold, sum_by}
use Rattle.std.specs.List.{range_with_len}
use Rattle.std.proofs.Math.ListN.{set, length-set}
use Rattle.std.proofs.lemmas.Bool.{cases_lt}
use Rattle.std.proofs.lemmas.Bool.Decides.{nat_tests}
use Rattle.std.proofs.lemmas.List.{get_or-set_same, get_or-set_other, length-map}
use Rattle.std.proofs.lemmas.List.Elements.{All-append}
use Rattle.std.proofs.lemmas.List.FromFn.{length-map-range_with_len, get_or-map-range_with_len, get_or-range_with_len, length-range_with_len}
use Rattle.std.proofs.lemmas.List.Sums.{sum_by-append}
use Rattle.std.proofs.lemmas.Option.{slice_get_within, get_or_from_slice_get}
use Rattle.graph_model.specs.declared.number.EdgeNo.{EdgeNo}
use Rattle.graph_model.specs.GraphData.{GraphData}
use Rattle.edge_predicates.specs.declared.pred.Pred.{Pred}
use Rattle.edge_predicates.specs.Truth.{truth}
use Rattle.edge_predicates.specs.ViewEdges.{edge}
use Rattle.gvdl_check.specs.declared.plan.Step.{Step}
use Rattle.gvdl_check.specs.declared.plan.Step.TheVariants as step
use Rattle.gvdl_check.specs.declared.plan.Plan.{Plan}
use Rattle.gvdl_check.specs.Steps.{comes, edges_at, StepFits}
use Rattle.gvdl_check.specs.Fits.{PlanFits}
use Rattle.view_matrix.specs.Matrices.{MatrixData, with_live, with_changes}
use Rattle.surge_session.specs.Live.{is_live, live_loaded, live_inserted, live_removed, live_after, live_at}
use Rattle.surge_session.specs.Changes.{inserted, AreTurned, HasRemoved}
use Rattle.surge_session.proofs.Growing.{one_more}
use Rattle.surge_session.proofs.Brought.{brought, brought_within, inside, not_below, not_brought}
use Rattle.surge_session.proofs.LiveFacts.{live_count, live_first, live_next}

-- ---- lists of truth values

pub same_bits : (xs ys : List Bool) → length xs ≡ length ys → ((e : ℕ) → e < length xs → is_live xs e ≡ is_live ys e) → xs ≡ ys
same_bits [] [] count each = refl
same_bits [] (y ∷ ys) count each = absurd (omega (arith, count))
same_bits (x ∷ xs) [] count each = absurd (omega (arith, count))
same_bits (x ∷ xs) (y ∷ ys) count each =
    ap₂ (λ (b : Bool) (bs : List Bool). b ∷ bs) (each 0 (omega arith)) (same_bits xs ys (omega (arith, count)) (λ e lt. each (suc e) (omega (arith, lt))))

pub count_turned : (live : List Bool) (cs : List (EdgeNo × Bool)) → length (fold with_live live cs) ≡ length live
count_turned live [] = refl
count_turned live (c ∷ cs) = count_turned (with_live live c) cs ∙ length-set live c.0.0 c.1

-- a matrix with other live edges has as many
pub within_edited : (cs : List (EdgeNo × Bool)) (made : List MatrixData) (i : ℕ) (m new : MatrixData) → new ≡ with_changes m cs → m ≡ get_or made i m → i < length made
    → All (λ (x : MatrixData). All (λ (c : EdgeNo × Bool). c.0.0 < length x.live) cs) made → All (λ (c : EdgeNo × Bool). c.0.0 < length new.live) cs
within_edited cs made i m new gives is lt all =
    let here : All (λ (c : EdgeNo × Bool). c.0.0 < length m.live) cs = subst (λ (x : MatrixData). All (λ (c : EdgeNo × Bool). c.0.0 < length x.live) cs) (sym is) (all i m lt) in
    let size : length new.live ≡ length m.live = ap (λ (x : MatrixData). length x.live) gives ∙ count_turned m.live cs in
    λ j d less. let h = here j d less in omega (arith, h, size)

-- ---- edges that come

-- an edge that is not among them stays
not_among : (live : List Bool) (first count e : ℕ) → (e < first) ⊎ (first + count ≤ e) → is_live (fold with_live live (inserted first count)) e ≡ is_live live e
not_among live first zero e apart = refl
not_among live first (suc count) e apart =
    let other : e ≢ first = elim apart [ inl low ↦ (λ same. absurd (omega (arith, low, same))) | inr high ↦ (λ same. absurd (omega (arith, high, same))) ] in
    let apart_on : (e < first + 1) ⊎ (first + 1 + count ≤ e) = elim apart [ inl low ↦ inl (omega (arith, low)) | inr high ↦ inr (omega (arith, high)) ] in
    not_among (set live first true) (first + 1) count e apart_on ∙ get_or-set_other live first e true false other

-- and one of them is live
among : (live : List Bool) (first count e : ℕ) → first ≤ e → e < first + count → first + count ≤ length live → is_live (fold with_live live (inserted first count)) e ≡ true
among live first zero e low high within = absurd (omega (arith, low, high))
among live first (suc count) e low high within = elim (cases_lt first e) [
  | inl above ↦ among (set live first true) (first + 1) count e (omega (arith, above)) (omega (arith, high)) (omega (arith, within, length-set live first true))
  | inr here ↦ let same : first ≡ e = omega (arith, low, here) in
      subst (λ (x : ℕ). is_live (fold with_live (set live first true) (inserted (first + 1) count)) x ≡ true) same
      (not_among (set live first true) (first + 1) count first (inl (omega arith)) ∙ get_or-set_same live first true false (omega (arith, within)))
]

or_true : (b : Bool) → (b || true) ≡ true
or_true true = refl
or_true false = refl

or_false : (b : Bool) → (b || false) ≡ b
or_false true = refl
or_false false = refl

is_brought : (first count e : ℕ) → first ≤ e → e < first + count → brought first count e ≡ true
is_brought first count e low high = grind (arith, nat_tests)

not_yet : (first count e : ℕ) → e < first → brought first count e ≡ false
not_yet first count e low = grind (arith, nat_tests)

inserted_bits : (live : List Bool) (first count e : ℕ) → first + count ≤ length live → is_live (fold with_live live (inserted first count)) e ≡ (is_live live e || brought first count e)
inserted_bits live first count e within = elim (cases_lt e first) [
  | inl low ↦ not_among live first count e (inl low) ∙ sym (ap (λ (b : Bool). is_live live e || b) (not_yet first count e low) ∙ or_false (is_live live e))
  | inr above ↦ elim (cases_lt e (first + count)) [
    | inl high ↦ among live first count e above high within ∙ sym (ap (λ (b : Bool). is_live live e || b) (is_brought first count e above high) ∙ or_true (is_live live e))
    | inr past ↦ not_among live first count e (inr past) ∙ sym (ap (λ (b : Bool). is_live live e || b) (not_brought first count e past) ∙ or_false (is_live live e))
  ]
]

pub inserted_gives : (g : GraphData) (live : List Bool) (first count : ℕ) → length live ≡ length g.ends → first + count ≤ length g.ends → fold with_live live (inserted first count) ≡ live_inserted g live first count
inserted_gives g live first count all within =
    let f : ℕ → Bool = λ e. is_live live e || brought first count e in
    let many : length (fold with_live live (inserted first count)) ≡ length g.ends = count_turned live (inserted first count) ∙ all in
    same_bits (fold with_live live (inserted first count)) (live_inserted g live first count) (many ∙ sym (length-map-range_with_len f 0 (length g.ends)))
    (λ e lt. inserted_bits live first count e (omega (arith, all, within)) ∙ sym (inside g f e (omega (arith, lt, many))))

-- ---- edges that did not come yet are not live

module _ (g : GraphData) (p : Plan) (fits : PlanFits g p) where
  edges_more : (n : ℕ) (s : Step) → slice_get p.steps n ≡ Some s → edges_at p (n + 1) ≡ edges_at p n + comes s
  edges_more n s at =
      let a = sum_by-append comes (take n p.steps) (s ∷ []) in
      let b : sum_by comes (take (n + 1) p.steps) ≡ sum_by comes (take n p.steps ++ s ∷ []) = ap (sum_by comes) (one_more p.steps n s (slice_get_within p.steps n s at) at) in
      omega (arith, a, b)

  bits_after : (n e : ℕ) (s : Step) → slice_get p.steps n ≡ Some s → edges_at p (n + 1) ≤ e → e < length g.ends → is_live (live_at g p n) e ≡ false → is_live (live_after g (live_at g p n) (Some s)) e ≡ false
  bits_after n e (step.Insert first count) at le lt none =
      let here : first ≡ edges_at p n = subst (λ (x : Step). StepFits p n x) (get_or_from_slice_get p.steps n (step.Insert first count) step.Nothing at) (fits.steps n (slice_get_within p.steps n (step.Insert first count) at)) in
      inside g (λ (x : ℕ). is_live (live_at g p n) x || brought first count x) e lt
      ∙ ap₂ (λ (a b : Bool). a || b) none (not_brought first count e (omega (arith, here, le, edges_more n (step.Insert first count) at)))
  bits_after n e (step.Remove rule) at le lt none = inside g (λ (x : ℕ). is_live (live_at g p n) x && not (truth g x rule)) e lt ∙ ap (λ (b : Bool). b && not (truth g e rule)) none
  bits_after n e step.Nothing at le lt none = none
  bits_after n e (step.Make place count) at le lt none = none
  bits_after n e (step.Run place) at le lt none = none
  bits_after n e (step.Append place first count) at le lt none = none
  bits_after n e (step.ShowOrder place) at le lt none = none
  bits_after n e (step.ShowWork place) at le lt none = none
  bits_after n e (step.ShowTree place) at le lt none = none
  bits_after n e (step.Aggregate place by sum) at le lt none = none

  pub not_come : (n e : ℕ) → n ≤ length p.steps → edges_at p n ≤ e → e < length g.ends → is_live (live_at g p n) e ≡ false
  not_come zero e le above lt =
      ap (λ (live : List Bool). is_live live e) (live_first g p) ∙ inside g (λ (x : ℕ). nat_lt x p.loaded) e lt ∙ not_below e p.loaded (omega (arith, above))
  not_come (suc n) e le above lt =
      let within : n < length p.steps = omega (arith, le) in
      let s = get_or p.steps n step.Nothing in
      let at : slice_get p.steps n ≡ Some s = got p.steps n within in
      let next : suc n ≡ n + 1 = omega arith in
      let there : edges_at p (n + 1) ≤ e = subst (λ (k : ℕ). edges_at p k ≤ e) next above in
      ap (λ (k : ℕ). is_live (live_at g p k) e) next ∙ ap (λ (live : List Bool). is_live live e) (live_next g p n (Some s) at)
      ∙ bits_after n e s at there lt (not_come n e (omega (arith, le)) (omega (arith, there, edges_more n s at)) lt) where
        got : (steps : List Step) (i : ℕ) → i < length steps → slice_get steps i ≡ Some (get_or steps i step.Nothing)
        got [] i lt = absurd (omega (arith, lt))
        got (x ∷ xs) zero lt = refl
        got (x ∷ xs) (suc i) lt = got xs i (omega (arith, lt))

  all_of : (P : EdgeNo × Bool → Type 0) (first count : ℕ) → ((e : ℕ) → first ≤ e → e < first + count → P (edge e, true)) → All P (inserted first count)
  all_of P first zero each = λ i d lt. absurd (omega (arith, lt))
  all_of P first (suc count) each = here (inserted (first + 1) count) (all_of P (first + 1) count (λ e low high. each e (omega (arith, low)) (omega (arith, high)))) where
    here : (rest : List (EdgeNo × Bool)) → All P rest → All P ((edge first, true) ∷ rest)
    here rest all zero d lt = each first (omega arith) (omega arith)
    here rest all (suc i) d lt = all i d (omega (arith, lt))

  pub insert_turns : (n first count : ℕ) → slice_get p.steps n ≡ Some (step.Insert first count) → AreTurned (live_at g p n) (live_at g p (n + 1)) (inserted first count)
  insert_turns n first count at =
      let lt : n < length p.steps = slice_get_within p.steps n (step.Insert first count) at in
      let start : first ≡ edges_at p n = subst (λ (x : Step). StepFits p n x) (get_or_from_slice_get p.steps n (step.Insert first count) step.Nothing at) (fits.steps n lt) in
      let within : first + count ≤ length g.ends = brought_within g p fits n first count at in
      let all : length (live_at g p n) ≡ length g.ends = live_count g p n in
      record {
        within = all_of (λ c. c.0.0 < length (live_at g p n)) first count (λ e low high. omega (arith, high, within, all));
        turns = all_of (λ c. c.1 ≡ not (is_live (live_at g p n) c.0.0)) first count
            (λ e low high. ap not (sym (not_come n e (omega (arith, lt)) (omega (arith, start, low)) (omega (arith, high, within)))));
        gives = inserted_gives g (live_at g p n) first count all within ∙ sym (live_next g p n (Some (step.Insert first count)) at);
      }

-- ---- edges that go

one : {X : Type 0} (P : X → Type 0) (x : X) → P x → All P (x ∷ [])
one P x h zero d lt = h
one P x h (suc i) d lt = absurd (omega (arith, lt))

pub turned_more : (live : List Bool) (cs : List (EdgeNo × Bool)) (c : EdgeNo × Bool) → fold with_live live (cs ++ c ∷ []) ≡ set (fold with_live live cs) c.0.0 c.1
turned_more live [] c = refl
turned_more live (x ∷ xs) c = turned_more (with_live live x) xs c

pub nothing_removed : (g : GraphData) (live : List Bool) (rule : Pred) → HasRemoved g live rule 0 []
nothing_removed g live rule = record {
  within = λ i d lt. absurd (omega (arith, lt));
  turns = λ i d lt. absurd (omega (arith, lt));
  low = λ e lt. absurd (omega (arith, lt));
  high = λ e le. refl;
}

module _ (g : GraphData) (live : List Bool) (rule : Pred) (place : ℕ) (changes : List (EdgeNo × Bool)) (is : HasRemoved g live rule place changes) (lt : place < length live) where
  -- the edge at the place stays
  pub stays : (is_live live place && not (truth g place rule)) ≡ is_live live place → HasRemoved g live rule (place + 1) changes
  stays same = record {
    within = λ i d less. let w = is.within i d less in omega (arith, w);
    turns = is.turns;
    low = λ e low. elim (cases_lt e place) [
      | inl below ↦ is.low e below
      | inr here ↦ let e_is : place ≡ e = omega (arith, low, here) in
          subst (λ (x : ℕ). is_live (fold with_live live changes) x ≡ (is_live live x && not (truth g x rule))) e_is (is.high place (omega arith) ∙ sym same)
    ];
    high = λ e le. is.high e (omega (arith, le));
  }

  -- or goes
  pub goes : is_live live place ≡ true → truth g place rule ≡ true → HasRemoved g live rule (place + 1) (changes ++ (edge place, false) ∷ [])
  goes there holds =
      let c : EdgeNo × Bool = (edge place, false) in
      let after : fold with_live live (changes ++ c ∷ []) ≡ set (fold with_live live changes) place false = turned_more live changes c in
      let size : place < length (fold with_live live changes) = omega (arith, lt, count_turned live changes) in
      let gone : is_live (set (fold with_live live changes) place false) place ≡ false = get_or-set_same (fold with_live live changes) place false false size in
      record {
        within = All-append (λ (x : EdgeNo × Bool). x.0.0 < place + 1) changes (c ∷ []) (λ i d less. let w = is.within i d less in omega (arith, w)) (one (λ (x : EdgeNo × Bool). x.0.0 < place + 1) c (omega arith));
        turns = All-append (λ (x : EdgeNo × Bool). x.1 ≡ not (is_live live x.0.0)) changes (c ∷ []) is.turns (one (λ (x : EdgeNo × Bool). x.1 ≡ not (is_live live x.0.0)) c (sym (ap not there)));
        low = λ e low. ap (λ (bits : List Bool). is_live bits e) after ∙ elim (cases_lt e place) [
          | inl below ↦ get_or-set_other (fold with_live live changes) place e false false (λ same. absurd (omega (arith, same, below))) ∙ is.low e below
          | inr here ↦ let e_is : place ≡ e = omega (arith, low, here) in
              subst (λ (x : ℕ). is_live (set (fold with_live live changes) place false) x ≡ (is_live live x && not (truth g x rule))) e_is
              (gone ∙ sym (ap₂ (λ (a b : Bool). a && not b) there holds))
        ];
        high = λ e le. ap (λ (bits : List Bool). is_live bits e) after ∙ get_or-set_other (fold with_live live changes) place e false false (λ same. absurd (omega (arith, same, le))) ∙ is.high e (omega (arith, le));
      }

pub all_removed : (g : GraphData) (live : List Bool) (rule : Pred) (changes : List (EdgeNo × Bool)) → length live ≡ length g.ends → HasRemoved g live rule (length live) changes → AreTurned live (live_removed g live rule) changes
all_removed g live rule changes all is =
    let f : ℕ → Bool = λ e. is_live live e && not (truth g e rule) in
    let many : length (fold with_live live changes) ≡ length g.ends = count_turned live changes ∙ all in
    record {
      within = is.within;
      turns = is.turns;
      gives = same_bits (fold with_live live changes) (live_removed g live rule) (many ∙ sym (length-map-range_with_len f 0 (length g.ends)))
          (λ e lt. is.low e (omega (arith, lt, many, all)) ∙ sym (inside g f e (omega (arith, lt, many))));
    }
