-- What is counted of the views of a segment, and what is decided by it.
use Rattle.std.proofs.Common.{◌≡◌, ℕ, zero, suc, ◌+◌, ◌-◌, ◌≤◌, ◌==◌, Bool, false, cond, List, [], ◌∷◌, ◌++◌, length, filter, sum, get_or, All, Option, Some, None, refl, sym, ◌∙◌, ap, ap₂, arith}
use Rattle.std.proofs.lemmas.List.{length-map}
use Rattle.std.proofs.lemmas.List.Sums.{sum_by-le}
use Rattle.graph_model.specs.declared.number.EdgeNo.{EdgeNo}
use Rattle.graph_model.specs.declared.number.ViewNo.{ViewNo}
use Rattle.segment_split.specs.declared.SplitRule.{SplitRule}
use Rattle.segment_split.specs.declared.SplitRule.TheVariants as split
use Rattle.segment_split.specs.Rule.{starts_new}
use Rattle.view_matrix.specs.Matrices as matrices
use Rattle.view_matrix.specs.Matrices.{MatrixData, column_edges, edges_in, in_exactly_one}
use Rattle.view_order.specs.Greedy.{numbers}
use Rattle.view_segment.specs.declared.segment.Segment.{Segment}
use Rattle.view_segment.specs.Segments.{last_of, place_of}
use Rattle.view_segment.specs.Tasks.{Task, works_of}
use Rattle.view_engine.specs.declared.counting.Decision.{Decision}
use Rattle.view_engine.specs.Splits.{counts_of, difference, edges_before, later_edges}
use Rattle.view_engine.specs.Engines.{KeepsLater, last_views}
use Rattle.view_engine.specs.Assigning.{KnowsLast, IsDecided, last_works, put}
use Rattle.view_engine.proofs.Putting.{last_put, later_more}

-- ---- sums

pub few_sum : (ws : List ℕ) → length ws ≤ 1_024 → All (λ work. work ≤ 1_000_000_000_000) ws → sum ws ≤ 1_024_000_000_000_000
few_sum ws few small = omega (arith, few, sum_by-le (λ (n : ℕ). n) 1_000_000_000_000 ws small)

-- ---- the last view

pub last_number : (vs : List ViewNo) (j : ℕ) (d : ViewNo) → length vs ≡ suc j → last_of (numbers vs) ≡ Some (get_or vs j d).0
last_number [] j d some = absurd (omega arith)
last_number (v ∷ []) zero d some = refl
last_number (v ∷ []) (suc j) d some = absurd (omega arith)
last_number (v ∷ w ∷ vs) zero d some = absurd (omega arith)
last_number (v ∷ w ∷ vs) (suc j) d some = last_number (w ∷ vs) j d (omega arith)

-- ---- the difference

none_kept : (xs : List EdgeNo) → filter (λ e. false) xs ≡ []
none_kept [] = refl
none_kept (x ∷ xs) = none_kept xs

same_before : (task : Task) (m : MatrixData) → task.edges ≡ edges_in m → (o : Option ViewNo) → column_edges m (matrices.place_of o) ≡ edges_before task (place_of o)
same_before task m same None = none_kept (matrices.all_edges m)
same_before task m same (Some v) = sym (ap (λ (f : ℕ → List EdgeNo). f v.0) same)

pub its_difference : (task : Task) (m : MatrixData) (o : Option ViewNo) (last : Option ℕ) (v n : ℕ) → task.edges ≡ edges_in m → place_of o ≡ last
    → n ≡ in_exactly_one (column_edges m (matrices.place_of o)) (edges_in m v) → n ≡ difference task last v
its_difference task m o last v n same before is =
    is ∙ ap₂ in_exactly_one (same_before task m same o) (sym (ap (λ (f : ℕ → List EdgeNo). f v) same)) ∙ ap (λ (l : Option ℕ). difference task l v) before

-- ---- the decision behind one segment

module _ (task : Task) (s : Segment) (v : ViewNo) (later : ℕ) where
  keeps_same : (rule : SplitRule) (n : ℕ) → 1 ≤ length s.views → KnowsLast rule task (s ∷ []) later → (rule ≡ split.Auto → n ≡ later + difference task (last_of (numbers s.views)) v.0) → KeepsLater rule task n (put false (s ∷ []) v)
  keeps_same split.Auto n some knows is =
      is refl ∙ ap (λ (k : ℕ). k + difference task (last_of (numbers s.views)) v.0) knows.1
      ∙ sym (ap (later_edges task) (last_put v false (s ∷ [])) ∙ later_more task (numbers s.views) v.0 (let size : length (numbers s.views) ≡ length s.views = length-map s.views (λ (u : ViewNo). u.0) in omega (arith, some, size)))
  keeps_same split.Whole n some knows is = tt
  keeps_same (split.Every k) n some knows is = tt

  pub decided_same : (rule : SplitRule) (n : ℕ) → 1 ≤ length s.views → KnowsLast rule task (s ∷ []) later → (rule ≡ split.Auto → n ≡ later + difference task (last_of (numbers s.views)) v.0)
      → false ≡ starts_new rule (counts_of task (numbers s.views) v.0) → IsDecided task rule (s ∷ []) v (record { anew = false; later = n })
  decided_same rule n some knows is rules = record { anew = λ one. rules; later = keeps_same rule n some knows is }

-- ---- behind several

-- what is told of the last segment alone is told of all
module _ (task : Task) (ss : List Segment) (s : Segment) (views : last_views ss ≡ numbers s.views) (works : last_works ss ≡ s.works) where
  pub knows_one : (rule : SplitRule) (later : ℕ) → KnowsLast rule task ss later → KnowsLast rule task (s ∷ []) later
  knows_one split.Auto later knows = (sym works ∙ knows.0 ∙ ap (works_of task) views, knows.1 ∙ ap (later_edges task) views)
  knows_one split.Whole later knows = tt
  knows_one (split.Every n) later knows = tt

  same_last : (v : ViewNo) (b : Bool) → last_views (put b ss v) ≡ last_views (put b (s ∷ []) v)
  same_last v b = last_put v b ss ∙ ap (λ (vs : List ℕ). cond b (v.0 ∷ []) (vs ++ v.0 ∷ [])) views ∙ sym (last_put v b (s ∷ []))

  keeps_all : (rule : SplitRule) (v : ViewNo) (b : Bool) (later : ℕ) → KeepsLater rule task later (put b (s ∷ []) v) → KeepsLater rule task later (put b ss v)
  keeps_all split.Auto v b later keeps = keeps ∙ sym (ap (later_edges task) (same_last v b))
  keeps_all split.Whole v b later keeps = tt
  keeps_all (split.Every n) v b later keeps = tt

  pub decided_all : (rule : SplitRule) (v : ViewNo) (d : Decision) → IsDecided task rule (s ∷ []) v d → IsDecided task rule ss v d
  decided_all rule v d is = record {
    anew = λ some. is.anew (omega arith) ∙ ap (λ (vs : List ℕ). starts_new rule (counts_of task vs v.0)) (sym views);
    later = keeps_all rule v d.anew d.later is.later;
  }

pub some_there : (n : ℕ) → (n == 0) ≡ false → n ≡ suc (n - 1)
some_there zero none = absurd cc
some_there (suc n) none = omega arith
