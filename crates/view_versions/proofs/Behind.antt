-- Views that are run one behind the other: which one was the last, and the works.
use Rattle.std.proofs.Common.{◌≡◌, ◌∙◌, ◌+◌, ◌*◌, ◌<◌, ◌≤◌, ◌++◌, ◌∷◌, ℕ, suc, List, [], Option, Some, length, get_or, take, sum, sym, ap, subst, refl, append_assoc, arith}
use Rattle.std.specs.List.{sum_by}
use Rattle.std.proofs.Math.Nat.{suc-mul}
use Rattle.std.proofs.lemmas.List.{append-nil, length-map, map-append, take_more}
use Rattle.std.proofs.lemmas.List.Sums.{sum_by-append, sum_by-cons}
use Rattle.graph_model.specs.declared.number.ViewNo.{ViewNo}
use Rattle.vertex_lang.specs.Lone.{number_of}
use Rattle.lone_work.specs.CountLaws.{work-is-bounded}
use Rattle.view_order.specs.Greedy.{numbers}
use Rattle.view_segment.specs.Segments.{last_of}
use Rattle.view_segment.specs.Tasks.{Task, arcs_before, view_arcs, work_of, works_from}
use Rattle.view_versions.specs.TouchLaws.{works_touched}
use Rattle.view_versions.specs.Touched.{edit_work, edit_works, touched}

-- the last of a list, or what stands before it
pub last_from : Option ℕ → List ℕ → Option ℕ
last_from before [] = before
last_from before (v ∷ vs) = last_from (Some v) vs

last-added : (vs : List ℕ) (w : ℕ) → last_of (vs ++ w ∷ []) ≡ Some w
last-added [] w = refl
last-added (v ∷ []) w = refl
last-added (v ∷ x ∷ vs) w = last-added (x ∷ vs) w

last-of-both : (us vs : List ℕ) → last_of (us ++ vs) ≡ last_from (last_of us) vs
unfolding last_from
last-of-both us [] = ap (λ (xs : List ℕ). last_of xs) (append-nil us)
last-of-both us (v ∷ vs) =
    ap (λ (xs : List ℕ). last_of xs) (sym (append_assoc us (v ∷ []) vs))
    ∙ last-of-both (us ++ v ∷ []) vs
    ∙ ap (λ (o : Option ℕ). last_from o vs) (last-added us v)

works-added : (task : Task) (before : Option ℕ) (vs : List ℕ) (w : ℕ) → works_from task before (vs ++ w ∷ []) ≡ works_from task before vs ++ work_of task (last_from before vs) w ∷ []
unfolding last_from
works-added task before [] w = refl
works-added task before (v ∷ vs) w = ap (λ ns. work_of task before v ∷ ns) (works-added task (Some v) vs w)

sum-added : (ns : List ℕ) (n : ℕ) → sum (ns ++ n ∷ []) ≡ sum ns + n
sum-added ns n = omega (arith, sum_by-append (λ (x : ℕ). x) ns (n ∷ []), sum_by-cons (λ (x : ℕ). x) n [])

-- one view more behind those that were run before, and those since
pub works-more : (task : Task) (earlier views : List ViewNo) (view : ViewNo)
    → sum (works_from task (last_of (numbers earlier)) (numbers (views ++ view ∷ []))) ≡ sum (works_from task (last_of (numbers earlier)) (numbers views)) + work_of task (last_of (numbers (earlier ++ views))) view.0
works-more task earlier views view =
    let before = last_of (numbers earlier) in
    let last : last_of (numbers (earlier ++ views)) ≡ last_from before (numbers views) = ap (λ (xs : List ℕ). last_of xs) (map-append (λ (v : ViewNo). v.0) earlier views) ∙ last-of-both (numbers earlier) (numbers views) in
    ap (λ (xs : List ℕ). sum (works_from task before xs)) (map-append (λ (v : ViewNo). v.0) views (view ∷ []))
    ∙ ap (λ (ns : List ℕ). sum ns) (works-added task before (numbers views) view.0)
    ∙ sum-added (works_from task before (numbers views)) (work_of task (last_from before (numbers views)) view.0)
    ∙ ap (λ (o : Option ℕ). sum (works_from task before (numbers views)) + work_of task o view.0) (sym last)

-- ---- at most so much

most-from : (task : Task) (before : Option ℕ) (vs : List ℕ) → sum (works_from task before vs) ≤ length vs * (length task.graph.ids * number_of task.rounds)
most-from task before [] = omega arith
most-from task before (v ∷ vs) =
    let n = length task.graph.ids * number_of task.rounds in
    let one : work_of task before v ≤ n = work-is-bounded task.answer task.program task.graph (view_arcs task v) (arcs_before task before) (number_of task.rounds) in
    let rest : sum (works_from task (Some v) vs) ≤ length vs * n = most-from task (Some v) vs in
    let count : length (v ∷ vs) ≡ suc (length vs) = omega arith in
    let all : length (v ∷ vs) * n ≡ length vs * n + n = ap (λ k. k * n) count ∙ suc-mul (length vs) n in
    omega (arith, sum_by-cons (λ (x : ℕ). x) (work_of task before v) (works_from task (Some v) vs))

pub works-most : (task : Task) (before : Option ℕ) (views : List ViewNo) → sum (works_from task before (numbers views)) ≤ length views * (length task.graph.ids * number_of task.rounds)
works-most task before views =
    let same : length (numbers views) ≡ length views = length-map views (λ (v : ViewNo). v.0) in
    subst (λ k. sum (works_from task before (numbers views)) ≤ k * (length task.graph.ids * number_of task.rounds)) same (most-from task before (numbers views))

-- ---- edits

-- one view more
pub edits-more : (old new : Task) (views : List ViewNo) (i : ℕ) (d : ViewNo) → i < length views
    → edit_works old new (numbers (take (i + 1) views)) ≡ edit_works old new (numbers (take i views)) + edit_work old new (get_or views i d).0
edits-more old new views i d low =
    let f = edit_work old new in
    let view = get_or views i d in
    let both : edit_works old new (numbers (take (i + 1) views)) ≡ sum_by f (numbers (take i views) ++ view.0 ∷ []) =
    ap (λ (vs : List ViewNo). edit_works old new (numbers vs)) (take_more views i d low) ∙ ap (λ (ns : List ℕ). sum_by f ns) (map-append (λ (v : ViewNo). v.0) (take i views) (view ∷ [])) in
    omega (arith, both, sum_by-append f (numbers (take i views)) (view.0 ∷ []), sum_by-cons f view.0 [])

-- at most what the touched nodes allow
pub edits-most : (old new : Task) (views : List ViewNo) → edit_works old new (numbers views) ≤ touched old new (numbers views) * (length views * number_of new.rounds)
edits-most old new views =
    subst (λ k. edit_works old new (numbers views) ≤ touched old new (numbers views) * (k * number_of new.rounds)) (length-map views (λ (v : ViewNo). v.0)) (works_touched old new (numbers views))
