-- How many views were stepped, and what they cost together.
use Rattle.std.proofs.Common.{◌≡◌, ◌≢◌, ◌∙◌, ◌+◌, ◌<◌, ◌≤◌, ℕ, zero, suc, List, [], ◌∷◌, ◌++◌, length, map, get_or, take, All, refl, sym, ap, arith}
use Rattle.std.specs.Prelude.{sum_by, min}
use Rattle.std.proofs.lemmas.List.Sums.{sum_by-append, sum_by-cons}
use Rattle.std.proofs.lemmas.List.{length-append}
use Rattle.vertex_lang.specs.Expressions.{Answer}
use Rattle.view_matrix.specs.Matrices.{MatrixData}
use Rattle.segment_split.specs.declared.SplitRule.{SplitRule}
use Rattle.segment_split.specs.declared.SplitRule.TheVariants as split
use Rattle.view_segment.specs.declared.segment.Segment.{Segment}
use Rattle.view_segment.specs.Segments.{IsFinished, SegmentStands}
use Rattle.view_segment.specs.Tasks.{Task}
use Rattle.view_engine.specs.declared.engine.Engine.{Engine}
use Rattle.view_engine.specs.Engines.{Stands, AreFinished, HasMoved, works_in, segments_in, stepped_in, assigned_in, assigned_of}
use Rattle.view_turns.specs.Turns.{done, HasTurned}

-- ---- a sum over lists of which one changed

module _ (f : List ℕ → ℕ) (none : f [] ≡ 0) where
  one_changed : (k : ℕ) (xs ys : List (List ℕ)) → ((i : ℕ) → i ≢ k → get_or ys i [] ≡ get_or xs i []) → sum_by f ys + f (get_or xs k []) ≡ sum_by f xs + f (get_or ys k [])
  one_changed k [] [] same = refl
  one_changed zero [] (y ∷ ys) same =
      let e : sum_by f ys + f [] ≡ 0 + f (get_or ys 0 []) = one_changed 0 [] ys (λ i ne. same (suc i) (omega arith)) in
      let head : f (get_or ys 0 []) ≡ f [] = ap f (same 1 (omega arith)) in
      let r : sum_by f (y ∷ ys) + f [] ≡ 0 + f y = omega (arith, none, e, head, sum_by-cons f y ys) in r
  one_changed (suc k) [] (y ∷ ys) same =
      let e : sum_by f ys + f [] ≡ 0 + f (get_or ys k []) = one_changed k [] ys (λ i ne. same (suc i) (omega (arith, ne))) in
      let head : f y ≡ f [] = ap f (same 0 (omega arith)) in
      let r : sum_by f (y ∷ ys) + f [] ≡ 0 + f (get_or ys k []) = omega (arith, none, e, head, sum_by-cons f y ys) in r
  one_changed zero (x ∷ xs) [] same =
      let e : 0 + f (get_or xs 0 []) ≡ sum_by f xs + f [] = one_changed 0 xs [] (λ i ne. same (suc i) (omega arith)) in
      let head : f [] ≡ f (get_or xs 0 []) = ap f (same 1 (omega arith)) in
      let r : 0 + f x ≡ sum_by f (x ∷ xs) + f [] = omega (arith, none, e, head, sum_by-cons f x xs) in r
  one_changed (suc k) (x ∷ xs) [] same =
      let e : 0 + f (get_or xs k []) ≡ sum_by f xs + f [] = one_changed k xs [] (λ i ne. same (suc i) (omega (arith, ne))) in
      let head : f [] ≡ f x = ap f (same 0 (omega arith)) in
      let r : 0 + f (get_or xs k []) ≡ sum_by f (x ∷ xs) + f [] = omega (arith, none, e, head, sum_by-cons f x xs) in r
  one_changed zero (x ∷ xs) (y ∷ ys) same =
      let e : sum_by f ys + f (get_or xs 0 []) ≡ sum_by f xs + f (get_or ys 0 []) = one_changed 0 xs ys (λ i ne. same (suc i) (omega arith)) in
      let head : f (get_or ys 0 []) ≡ f (get_or xs 0 []) = ap f (same 1 (omega arith)) in
      let r : sum_by f (y ∷ ys) + f x ≡ sum_by f (x ∷ xs) + f y = omega (arith, e, head, sum_by-cons f x xs, sum_by-cons f y ys) in r
  one_changed (suc k) (x ∷ xs) (y ∷ ys) same =
      let e : sum_by f ys + f (get_or xs k []) ≡ sum_by f xs + f (get_or ys k []) = one_changed k xs ys (λ i ne. same (suc i) (omega (arith, ne))) in
      let head : f y ≡ f x = ap f (same 0 (omega arith)) in
      let r : sum_by f (y ∷ ys) + f (get_or xs k []) ≡ sum_by f (x ∷ xs) + f (get_or ys k []) = omega (arith, e, head, sum_by-cons f x xs, sum_by-cons f y ys) in r

abbrev total : List ℕ → ℕ
total ns = sum_by (λ n. n) ns

over_works : (f : List ℕ → ℕ) (ss : List Segment) → sum_by (λ s. f s.works) ss ≡ sum_by f (map (λ s. s.works) ss)
over_works f [] = refl
over_works f (s ∷ ss) = omega (arith, over_works f ss, sum_by-cons (λ (t : Segment). f t.works) s ss, sum_by-cons f s.works (map (λ (t : Segment). t.works) ss))

-- ---- a view more

pub turned : (k : ℕ) (old new : Engine) (before after : ℕ) → HasMoved k old new before after → HasTurned k old new before after
turned k old new before after moved =
    let xs = map (λ s. s.works) (segments_in old) in
    let ys = map (λ s. s.works) (segments_in new) in
    let lengths : sum_by (λ (ns : List ℕ). length ns) ys + length (works_in old k) ≡ sum_by (λ (ns : List ℕ). length ns) xs + length (works_in new k) =
    one_changed (λ (ns : List ℕ). length ns) refl k xs ys moved.others in
    let totals : sum_by total ys + total (works_in old k) ≡ sum_by total xs + total (works_in new k) = one_changed total refl k xs ys moved.others in
    let longer : length (works_in new k) ≡ length (works_in old k) + 1 = ap (λ (ns : List ℕ). length ns) moved.works ∙ length-append (works_in old k) (moved.work ∷ []) in
    let dearer : total (works_in new k) ≡ total (works_in old k) + (0 + moved.work) = ap total moved.works ∙ sum_by-append (λ (n : ℕ). n) (works_in old k) (moved.work ∷ []) in
    record {
      moved = moved;
      stepped = omega (arith, lengths, longer, over_works (λ (ns : List ℕ). length ns) (segments_in old), over_works (λ (ns : List ℕ). length ns) (segments_in new));
      calls = omega (arith, totals, dearer, moved.calls, over_works total (segments_in old), over_works total (segments_in new));
    }

-- ---- all views

cons_all : {X : Type 0} (P : X → Type 0) (x : X) (xs : List X) → P x → All P xs → All P (x ∷ xs)
cons_all P x xs p all zero d lt = p
cons_all P x xs p all (suc k) d lt = all k d (omega (arith, lt))

behind_all : {X : Type 0} (P : X → Type 0) (x : X) (xs : List X) → All P (x ∷ xs) → All P xs
behind_all P x xs all k d lt = all (suc k) d (omega (arith, lt))

abbrev IsFew : Segment → Type 0
IsFew s = length s.works ≤ length s.views

stepped_few : (ss : List Segment) → All IsFew ss → sum_by (λ (s : Segment). length s.works) ss ≤ sum_by (λ (s : Segment). length s.views) ss
stepped_few [] few = omega arith
stepped_few (s ∷ ss) few =
    let first : length s.works ≤ length s.views = few 0 s (omega arith) in
    omega (arith, first, stepped_few ss (behind_all IsFew s ss few), sum_by-cons (λ (t : Segment). length t.works) s ss, sum_by-cons (λ (t : Segment). length t.views) s ss)

all_when : (ss : List Segment) → All IsFew ss → sum_by (λ (s : Segment). length s.views) ss ≤ sum_by (λ (s : Segment). length s.works) ss → All IsFinished ss
all_when [] few le = λ i d lt. absurd (omega (arith, lt))
all_when (s ∷ ss) few le =
    let first : length s.works ≤ length s.views = few 0 s (omega arith) in
    let rest : All IsFew ss = behind_all IsFew s ss few in
    let works = sum_by-cons (λ (t : Segment). length t.works) s ss in
    let views = sum_by-cons (λ (t : Segment). length t.views) s ss in
    let is : length s.works ≡ length s.views = omega (arith, first, stepped_few ss rest, le, works, views) in
    cons_all IsFinished s ss is (all_when ss rest (omega (arith, le, is, works, views)))

assigned_few : (rule : SplitRule) (views stepped : ℕ) → assigned_of rule views stepped ≤ views
assigned_few split.Whole views stepped = omega arith
assigned_few (split.Every n) views stepped = omega arith
assigned_few split.Auto views stepped = omega arith

-- where as many views were stepped as there are, each segment is finished
pub finished_by_count : (e : Engine) → All IsFew (segments_in e) → assigned_in e ≡ assigned_of e.split (length e.order) (stepped_in e) → length e.order ≤ stepped_in e → All IsFinished (segments_in e)
finished_by_count e few assigned le = all_when (segments_in e) few (omega (arith, assigned, assigned_few e.split (length e.order) (stepped_in e), le))

pub finished_when : (answer : Answer) (m : MatrixData) (e : Engine) → Stands answer m e → length e.order ≤ stepped_in e → AreFinished e
finished_when answer m e stands le = finished_by_count e (λ i d lt. let s = stands.each i d lt in s.few) stands.assigned le
