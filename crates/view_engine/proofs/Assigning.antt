-- The next view of an order gets its segment.
use Rattle.std.proofs.Common.{◌≡◌, ℕ, zero, suc, ◌+◌, ◌<◌, ◌≤◌, Bool, true, false, List, [], ◌∷◌, ◌++◌, length, map, take, get_or, slice_get, All, Some, refl, sym, ◌∙◌, ap, subst, arith, length-append, Vec, inr}
use Rattle.std.specs.List.{sum_by}
use Rattle.std.proofs.lemmas.List.Sums.{fold-append}
use Rattle.std.proofs.lemmas.Option.{slice_get_within, slice_get-get_or}
use Rattle.std.specs.Prelude.{IfSome}
use Rattle.std.specs.declared.alloc.Global.{Global}
use Rattle.graph_model.specs.declared.number.ViewNo.{ViewNo}
use Rattle.vertex_lang.specs.Expressions.{Answer}
use Rattle.segment_split.specs.declared.SplitRule.{SplitRule}
use Rattle.segment_split.specs.declared.SplitRule.TheVariants as split
use Rattle.view_matrix.specs.Matrices.{MatrixData, IsView, edges_in}
use Rattle.view_order.specs.Greedy.{numbers}
use Rattle.result_tables.specs.Results.{ResultsData}
use Rattle.view_segment.specs.declared.segment.Segment.{Segment}
use Rattle.view_segment.specs.Segments.{last_of, IsFinished, KeepsHistory, SegmentStands, HistoryOf, FlagsOf, stepped}
use Rattle.view_segment.specs.Tasks.{Task, works_of}
use Rattle.view_engine.specs.declared.counting.Decision.{Decision}
use Rattle.view_engine.specs.declared.engine.Engine.{Engine}
use Rattle.view_engine.specs.Splits.{with_next, segments_of}
use Rattle.view_engine.specs.Engines.{segments_in, task_of, views_in, last_views, KeepsLater, KeepsLast, IsInOrder, HoldsView, IsSound, IsEngine, work_in}
use Rattle.view_engine.specs.Assigning.{fresh, with_view, put, last_works, KnowsLast, IsDecided, AreReadyFor, SoFar, IsAssigned}
use Rattle.view_engine.proofs.Putting.{all_cons, all_head, all_tail, views_put, count_put, stepped_put, size_put, all_put, works_put, work_put, next_put, order_put}

-- ---- lists

module _ {A : Type 0} where
  pub take_next : (xs : List A) (n : ℕ) (x : A) → slice_get xs n ≡ Some x → take (n + 1) xs ≡ take n xs ++ x ∷ []
  take_next [] n x at = absurd cc
  take_next (y ∷ ys) zero x at = let is : y ≡ x = cc in ap (λ (z : A). z ∷ []) is
  take_next (y ∷ ys) (suc n) x at =
      let one : suc n + 1 ≡ suc (n + 1) = omega arith in
      ap (λ (k : ℕ). take k (y ∷ ys)) one ∙ ap (λ (zs : List A). y ∷ zs) (take_next ys n x at)

  pub get_map : {B : Type 0} (f : A → B) (xs : List A) (n : ℕ) (x : A) → slice_get xs n ≡ Some x → slice_get (map f xs) n ≡ Some (f x)
  get_map f [] n x at = absurd cc
  get_map f (y ∷ ys) zero x at = let is : y ≡ x = cc in ap (λ (z : A). Some (f z)) is
  get_map f (y ∷ ys) (suc n) x at = get_map f ys n x at

  pub take_map : {B : Type 0} (f : A → B) (n : ℕ) (xs : List A) → take n (map f xs) ≡ map f (take n xs)
  take_map f zero xs = refl
  take_map f (suc n) [] = refl
  take_map {B = B} f (suc n) (x ∷ xs) = ap (λ (ys : List B). f x ∷ ys) (take_map f n xs)

  pub take_whole : (n : ℕ) (xs : List A) → length xs ≤ n → take n xs ≡ xs
  take_whole zero [] all = refl
  take_whole (suc n) [] all = refl
  take_whole zero (x ∷ xs) all = absurd (omega arith)
  take_whole (suc n) (x ∷ xs) all = ap (λ (ys : List A). x ∷ ys) (take_whole n xs (omega (arith, all)))

  pub take_front : (n : ℕ) (xs ys : List A) → n ≤ length xs → take n (xs ++ ys) ≡ take n xs
  take_front zero xs ys few = refl
  take_front (suc n) [] ys few = absurd (omega arith)
  take_front (suc n) (x ∷ xs) ys few = ap (λ (zs : List A). x ∷ zs) (take_front n xs ys (omega (arith, few)))

-- ---- segments

pub segments_more : (task : Task) (rule : SplitRule) (xs : List ℕ) (v : ℕ) → segments_of task rule (xs ++ v ∷ []) ≡ with_next task rule (segments_of task rule xs) v
unfolding segments_of
segments_more task rule xs v = fold-append (with_next task rule) [] xs (v ∷ [])

module _ (v : ViewNo) where
  pub same_stepped : (s : Segment) → length s.works ≤ length s.views → stepped (with_view s v) ≡ stepped s
  same_stepped s few =
      take_map (λ (u : ViewNo). u.0) (length s.works) (s.views ++ v ∷ [])
      ∙ ap (map (λ (u : ViewNo). u.0)) (take_front (length s.works) s.views (v ∷ []) few)
      ∙ sym (take_map (λ (u : ViewNo). u.0) (length s.works) s.views)

  keeps_more : (task : Task) (s : Segment) → length s.works ≤ length s.views → KeepsHistory task s → KeepsHistory task (with_view s v)
  keeps_more task s few keeps = subst (λ (l : List ℕ). HistoryOf task (last_of l) s.history) (sym (same_stepped s few)) keeps

  stands_more : (task : Task) (s : Segment) → KeepsHistory task s → SegmentStands task s → SegmentStands task (with_view s v)
  stands_more task s keeps is = record {
    few = omega (arith, is.few, length-append s.views (v ∷ []));
    works = is.works ∙ ap (works_of task) (sym (same_stepped s is.few));
    history = λ left. keeps_more task s is.few keeps;
    flags = subst (λ (l : List ℕ). IfSome s.flags (λ (kept : Vec Bool Global). FlagsOf task (last_of l) kept.items)) (sym (same_stepped s is.few)) is.flags;
    done = λ all. absurd (omega (arith, is.few, length-append s.views (v ∷ []), all));
  }

  stands_fresh : (task : Task) → SegmentStands task (fresh v)
  stands_fresh task = record { few = omega arith; works = refl; history = λ left. tt; flags = tt; done = λ all. refl }

  -- a view more at the end of the last segment, which keeps its history, or in one of its own
  pub stands_put : (task : Task) (b : Bool) (ss : List Segment) → All (SegmentStands task) ss → KeepsLast task ss → All (SegmentStands task) (put b ss v)
  stands_put task b [] each keeps = all_cons (SegmentStands task) (fresh v) [] (stands_fresh task) (λ k d low. absurd (omega arith))
  stands_put task true (s ∷ []) each keeps =
      all_cons (SegmentStands task) s (fresh v ∷ []) (all_head (SegmentStands task) s [] each) (all_cons (SegmentStands task) (fresh v) [] (stands_fresh task) (λ k d low. absurd (omega arith)))
  stands_put task false (s ∷ []) each keeps = all_cons (SegmentStands task) (with_view s v) [] (stands_more task s keeps (all_head (SegmentStands task) s [] each)) (λ k d low. absurd (omega arith))
  stands_put task b (s ∷ t ∷ ss) each keeps =
      all_cons (SegmentStands task) s (put b (t ∷ ss) v) (all_head (SegmentStands task) s (t ∷ ss) each) (stands_put task b (t ∷ ss) (all_tail (SegmentStands task) s (t ∷ ss) each) keeps)

  keeps_past : (task : Task) (s : Segment) (b : Bool) (t : Segment) (ss : List Segment) → KeepsLast task (put b (t ∷ ss) v) → KeepsLast task (s ∷ put b (t ∷ ss) v)
  keeps_past task s true t [] keeps = keeps
  keeps_past task s false t [] keeps = keeps
  keeps_past task s b t (u ∷ ss) keeps = keeps

  -- then the last one keeps its history, too
  pub keeps_put : (task : Task) (b : Bool) (ss : List Segment) → All (SegmentStands task) ss → KeepsLast task ss → KeepsLast task (put b ss v)
  keeps_put task b [] each keeps = tt
  keeps_put task true (s ∷ []) each keeps = tt
  keeps_put task false (s ∷ []) each keeps = let is : SegmentStands task s = all_head (SegmentStands task) s [] each in keeps_more task s is.few keeps
  keeps_put task b (s ∷ t ∷ ss) each keeps = keeps_past task s b t ss (keeps_put task b (t ∷ ss) (all_tail (SegmentStands task) s (t ∷ ss) each) keeps)

  pub sound_more : (s : Segment) → IsSound s → IsSound (with_view s v)
  sound_more s is = record {
    filled = omega (arith, is.filled, length-append s.views (v ∷ []));
    few = omega (arith, is.few, length-append s.views (v ∷ []));
    small = is.small;
  }

  pub sound_fresh : IsSound (fresh v)
  sound_fresh = record { filled = omega arith; few = omega arith; small = λ k d low. absurd (omega arith) }

-- the works of the last segment are all there
pub known_last : (task : Task) (ss : List Segment) → All (SegmentStands task) ss → All IsFinished ss → last_works ss ≡ works_of task (last_views ss)
known_last task [] each all = refl
known_last task (s ∷ []) each all =
    let is : SegmentStands task s = all_head (SegmentStands task) s [] each in
    let done : length s.works ≡ length s.views = all_head IsFinished s [] all in
    is.works ∙ ap (works_of task) (take_map (λ (u : ViewNo). u.0) (length s.works) s.views ∙ ap (map (λ (u : ViewNo). u.0)) (take_whole (length s.works) s.views (omega (arith, done))))
known_last task (s ∷ t ∷ ss) each all = known_last task (t ∷ ss) (all_tail (SegmentStands task) s (t ∷ ss) each) (all_tail IsFinished s (t ∷ ss) all)

knows : (rule : SplitRule) (task : Task) (e : Engine) (later : ℕ) → All (SegmentStands task) (segments_in e) → AreReadyFor rule e → KeepsLater rule task later (segments_in e) → KnowsLast rule task (segments_in e) later
knows split.Auto task e later each ready keeps = (known_last task (segments_in e) each ready, keeps)
knows split.Whole task e later each ready keeps = tt
knows (split.Every n) task e later each ready keeps = tt

pub knows_last : (answer : Answer) (m : MatrixData) (e : Engine) → SoFar answer m e → AreReadyFor e.split e → KnowsLast e.split (task_of answer m e) (segments_in e) e.later
knows_last answer m e so_far ready = knows e.split (task_of answer m e) e e.later so_far.each ready so_far.later

in_order : (rule : SplitRule) (e : Engine) (b : Bool) (v : ViewNo) → AreReadyFor rule e → IsInOrder rule (put b (segments_in e) v)
in_order split.Auto e b v ready = order_put v b (segments_in e) ready
in_order split.Whole e b v ready = tt
in_order (split.Every n) e b v ready = tt

-- ---- the engine with a view more

abbrev pub grown : Engine → Vec Segment Global → (later : ℕ) → Engine
grown e segments later = record e { segments = segments; later = later; assigned = e.assigned + 1 }

module _ (e : Engine) (segments : Vec Segment Global) (b : Bool) (later : ℕ) (v : ViewNo) (is : segments.items ≡ put b (segments_in e) v) (next : slice_get e.order e.assigned ≡ Some v) where
  pub engine_more : IsEngine e → e.assigned < length e.order → later ≤ e.later + 4_000_000 → IsEngine (grown e segments later)
  engine_more old left few = record {
    checked = old.checked;
    some = old.some;
    limit = old.limit;
    few_nodes = old.few_nodes;
    split = old.split;
    ready = old.ready;
    few = old.few;
    assigned = rw is (omega (arith, old.assigned, count_put v b (segments_in e)));
    within = omega (arith, left);
    assigned_views = ap views_in is ∙ views_put v b (segments_in e) ∙ ap (λ (us : List ViewNo). us ++ v ∷ []) old.assigned_views ∙ sym (take_next e.order e.assigned v next);
    few_segments = rw is (omega (arith, old.few_segments, size_put v b (segments_in e)));
    sound = rw is (all_put v IsSound (sound_more v) (sound_fresh v) b (segments_in e) old.sound);
    few_later = omega (arith, few, old.few_later);
    nodes = old.nodes;
  }

  pub one_more : IsAssigned 1 e (grown e segments later)
  one_more = record {
    run = record { graph = refl; program = refl; rounds = refl; split = refl; grows = refl };
    order = refl;
    assigned = refl;
    works = λ k. ap (λ (ss : List Segment). get_or (map (λ (s : Segment). s.works) ss) k []) is ∙ works_put v b (segments_in e) k;
    stepped = ap (sum_by (λ (s : Segment). length s.works)) is ∙ stepped_put v b (segments_in e);
    results = refl;
    spent = refl;
  }

abbrev HoldsAll : Task → ResultsData → Segment → Type 0
HoldsAll task results s = (length s.works ≤ length s.views) × All (HoldsView task results) (take (length s.works) s.views)

module _ (task : Task) (results : ResultsData) (v : ViewNo) where
  holds_more : (s : Segment) → HoldsAll task results s → HoldsAll task results (with_view s v)
  holds_more s is = (
    omega (arith, is.0, length-append s.views (v ∷ [])),
    subst (All (HoldsView task results)) (sym (take_front (length s.works) s.views (v ∷ []) is.0)) is.1,
  )

  holds_fresh : HoldsAll task results (fresh v)
  holds_fresh = (omega arith, λ k d low. absurd (omega arith))

  holds_put : (b : Bool) (ss : List Segment) → All (SegmentStands task) ss → All (λ s. All (HoldsView task results) (take (length s.works) s.views)) ss
      → All (λ s. All (HoldsView task results) (take (length s.works) s.views)) (put b ss v)
  holds_put b ss each holds k d low =
      (all_put v (HoldsAll task results) holds_more holds_fresh b ss (λ i t l. ((each i t l).few, holds i t l)) k d low).1

module _ (answer : Answer) (m : MatrixData) (e : Engine) (segments : Vec Segment Global) (d : Decision) (v : ViewNo) (is : segments.items ≡ put d.anew (segments_in e) v) (next : slice_get e.order e.assigned ≡ Some v) where
  pub so_far_more : SoFar answer m e → AreReadyFor e.split e → IsDecided (task_of answer m e) e.split (segments_in e) v d → SoFar answer m (grown e segments d.later)
  so_far_more old ready decided =
      let task = task_of answer m e in
      let ss = segments_in e in
      let kept : KeepsLast task ss = old.keeps (inr (slice_get_within e.order e.assigned v next)) in
      record {
        matrix = old.matrix;
        views = old.views;
        distinct = old.distinct;
        segments =
            ap (map (λ (s : Segment). numbers s.views)) is ∙ next_put v task e.split d.anew ss decided.anew
            ∙ ap (λ (ls : List (List ℕ)). with_next task e.split ls v.0) old.segments
            ∙ sym (segments_more task e.split (take e.assigned (numbers e.order)) v.0)
            ∙ ap (segments_of task e.split) (sym (take_next (numbers e.order) e.assigned v.0 (get_map (λ (u : ViewNo). u.0) e.order e.assigned v next)));
        later = rw is decided.later;
        in_order = rw is (in_order e.split e d.anew v ready);
        each = rw is (stands_put v task d.anew ss old.each kept);
        holds = rw is (holds_put task e.results v d.anew ss old.each old.holds);
        keeps = λ on. rw is (keeps_put v task d.anew ss old.each kept);
        only = λ fresh u none. old.only fresh u (sym (ap (λ (xs : List Segment). work_in xs u) is ∙ work_put v d.anew ss u (λ k t low. (old.each k t low).few)) ∙ none);
      }

-- ---- the views of segments are those of the order

module _ (P : ViewNo → Type 0) where
  all_front : (xs ys : List ViewNo) → All P (xs ++ ys) → All P xs
  all_front [] ys all = λ k d low. absurd (omega arith)
  all_front (x ∷ xs) ys all = all_cons P x xs (all_head P x (xs ++ ys) all) (all_front xs ys (all_tail P x (xs ++ ys) all))

  all_behind : (xs ys : List ViewNo) → All P (xs ++ ys) → All P ys
  all_behind [] ys all = all
  all_behind (x ∷ xs) ys all = all_behind xs ys (all_tail P x (xs ++ ys) all)

  all_views : (ss : List Segment) → All P (views_in ss) → All (λ (s : Segment). All P s.views) ss
  all_views [] all = λ k d low. absurd (omega arith)
  all_views (s ∷ ss) all = all_cons (λ (s : Segment). All P s.views) s ss (all_front s.views (views_in ss) all) (all_views ss (all_behind s.views (views_in ss) all))

  all_taken : (n : ℕ) (xs : List ViewNo) → All P xs → All P (take n xs)
  all_taken zero xs all = λ k d low. absurd (omega arith)
  all_taken (suc n) [] all = all
  all_taken (suc n) (x ∷ xs) all = all_cons P x (take n xs) (all_head P x xs all) (all_taken n xs (all_tail P x xs all))

pub views_within : (m : MatrixData) (e : Engine) → IsEngine e → All (IsView m) e.order → All (λ (s : Segment). All (IsView m) s.views) (segments_in e)
views_within m e engine all = all_views (IsView m) (segments_in e) (subst (All (IsView m)) (sym engine.assigned_views) (all_taken (IsView m) e.assigned e.order all))

-- the same, where segments are handed over
pub stands_by : (answer : Answer) (m : MatrixData) (e : Engine) (segments : Vec Segment Global) (d : Decision) (v : ViewNo) (ss : List Segment) → ss ≡ segments_in e
    → segments.items ≡ put d.anew (segments_in e) v → slice_get e.order e.assigned ≡ Some v
    → ((task : Task) → task.edges ≡ edges_in m → KnowsLast e.split task ss e.later → IsDecided task e.split ss v d)
    → AreReadyFor e.split e → SoFar answer m e → SoFar answer m (grown e segments d.later)
stands_by answer m e segments d v ss same is next decided ready so_far =
    let task = task_of answer m e in
    let knows : KnowsLast e.split (task_of answer m e) ss e.later = subst (λ (us : List Segment). KnowsLast e.split (task_of answer m e) us e.later) (sym same) (knows_last answer m e so_far ready) in
    let its : IsDecided (task_of answer m e) e.split (segments_in e) v d = subst (λ (us : List Segment). IsDecided (task_of answer m e) e.split us v d) same (decided (task_of answer m e) refl knows) in
    so_far_more answer m e segments d v is next so_far ready its

-- the view at a place of the order, as it is read
pub next_of : (o order : List ViewNo) (n : ℕ) (d : ViewNo) → o ≡ order → n < length order → slice_get order n ≡ Some (get_or o n d)
next_of o order n d same low = slice_get-get_or order n d low ∙ ap (λ (us : List ViewNo). Some (get_or us n d)) (sym same)
