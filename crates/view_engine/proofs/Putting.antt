-- What a view more changes of segments.
use Rattle.std.proofs.Common.{◌≡◌, ℕ, zero, suc, ◌+◌, ◌<◌, ◌≤◌, ◌==◌, Bool, Vec, Global, true, false, List, [], ◌∷◌, ◌++◌, length, map, get_or, slice_get, All, Option, Some, None, refl, sym, ◌∙◌, ap, arith, set, append_assoc, append-nil, length-append, cond}
use Rattle.std.specs.List.{sum_by}
use Rattle.std.proofs.lemmas.List.{map-append}
use Rattle.std.proofs.lemmas.List.Sums.{sum_by-cons}
use Rattle.graph_model.specs.declared.number.ViewNo.{ViewNo}
use Rattle.change_lists.specs.declared.history.History.{History}
use Rattle.segment_split.specs.declared.SplitRule.{SplitRule}
use Rattle.segment_split.specs.Rule.{starts_new}
use Rattle.view_order.specs.Greedy.{numbers}
use Rattle.view_segment.specs.declared.segment.Segment.{Segment}
use Rattle.view_segment.specs.Segments.{last_of, IsFinished}
use Rattle.view_segment.specs.Tasks.{Task}
use Rattle.view_engine.specs.Splits.{counts_of, with_next, difference, differences, later_edges}
use Rattle.view_engine.specs.Engines.{views_in, last_views, work_beside, work_in, either}
use Rattle.view_engine.specs.Assigning.{fresh, with_view, put, last_works}

-- ---- what holds of each item of a list

module _ {A : Type 0} (P : A → Type 0) where
  pub all_at : (xs : List A) → All P xs → (i : ℕ) (x : A) → slice_get xs i ≡ Some x → P x
  all_at [] all i x at = absurd cc
  all_at (y ∷ ys) all zero x at = let same : y ≡ x = cc in rw (sym same) (all zero y (omega arith))
  all_at (y ∷ ys) all (suc i) x at = all_at ys (λ k d lt. all (suc k) d (omega (arith, lt))) i x at

  pub all_from : (xs : List A) → ((i : ℕ) (x : A) → slice_get xs i ≡ Some x → P x) → All P xs
  all_from [] each k d low = absurd (omega arith)
  all_from (y ∷ ys) each zero d low = each zero y refl
  all_from (y ∷ ys) each (suc k) d low = all_from ys (λ i x at. each (suc i) x at) k d (omega (arith, low))

  pub all_cons : (x : A) (xs : List A) → P x → All P xs → All P (x ∷ xs)
  all_cons x xs first rest zero d low = first
  all_cons x xs first rest (suc k) d low = rest k d (omega (arith, low))

  pub all_head : (x : A) (xs : List A) → All P (x ∷ xs) → P x
  all_head x xs all = all zero x (omega arith)

  pub all_tail : (x : A) (xs : List A) → All P (x ∷ xs) → All P xs
  all_tail x xs all k d low = all (suc k) d (omega (arith, low))

-- ---- put

module _ (v : ViewNo) where
  -- pushed at the end, or added to the last
  pub put_pushed : (ss : List Segment) → put true ss v ≡ ss ++ fresh v ∷ []
  put_pushed [] = refl
  put_pushed (s ∷ []) = refl
  put_pushed (s ∷ t ∷ ss) = ap (λ (us : List Segment). s ∷ us) (put_pushed (t ∷ ss))

  pub put_set : (ss : List Segment) (j : ℕ) (s d : Segment) → length ss ≡ suc j → s ≡ with_view (get_or ss j d) v → set ss j s ≡ put false ss v
  put_set [] j s d some is = absurd (omega arith)
  put_set (t ∷ []) zero s d some is = ap (λ (u : Segment). u ∷ []) is
  put_set (t ∷ []) (suc j) s d some is = absurd (omega arith)
  put_set (t ∷ u ∷ ss) zero s d some is = absurd (omega arith)
  put_set (t ∷ u ∷ ss) (suc j) s d some is = ap (λ (us : List Segment). t ∷ us) (put_set (u ∷ ss) j s d (omega arith) is)

  pub views_put : (b : Bool) (ss : List Segment) → views_in (put b ss v) ≡ views_in ss ++ v ∷ []
  views_put b [] = refl
  views_put true (s ∷ []) = ap (λ (us : List ViewNo). us ++ v ∷ []) (sym (append-nil s.views))
  views_put false (s ∷ []) = append-nil (s.views ++ v ∷ []) ∙ ap (λ (us : List ViewNo). us ++ v ∷ []) (sym (append-nil s.views))
  views_put b (s ∷ t ∷ ss) = ap (λ (us : List ViewNo). s.views ++ us) (views_put b (t ∷ ss)) ∙ sym (append_assoc s.views (views_in (t ∷ ss)) (v ∷ []))

  pub count_put : (b : Bool) (ss : List Segment) → sum_by (λ (s : Segment). length s.views) (put b ss v) ≡ sum_by (λ (s : Segment). length s.views) ss + 1
  count_put b [] = omega arith
  count_put true (s ∷ []) = omega arith
  count_put false (s ∷ []) = omega (arith, length-append s.views (v ∷ []))
  count_put b (s ∷ t ∷ ss) = omega (arith, count_put b (t ∷ ss), sum_by-cons (λ (s : Segment). length s.views) s (put b (t ∷ ss) v), sum_by-cons (λ (s : Segment). length s.views) s (t ∷ ss))

  pub stepped_put : (b : Bool) (ss : List Segment) → sum_by (λ (s : Segment). length s.works) (put b ss v) ≡ sum_by (λ (s : Segment). length s.works) ss
  stepped_put b [] = omega arith
  stepped_put true (s ∷ []) = omega arith
  stepped_put false (s ∷ []) = omega arith
  stepped_put b (s ∷ t ∷ ss) = omega (arith, stepped_put b (t ∷ ss), sum_by-cons (λ (s : Segment). length s.works) s (put b (t ∷ ss) v), sum_by-cons (λ (s : Segment). length s.works) s (t ∷ ss))

  pub size_put : (b : Bool) (ss : List Segment) → length (put b ss v) ≤ length ss + 1
  size_put b [] = omega arith
  size_put true (s ∷ []) = omega arith
  size_put false (s ∷ []) = omega arith
  size_put b (s ∷ t ∷ ss) = omega (arith, size_put b (t ∷ ss))

  pub all_put : (P : Segment → Type 0) → ((s : Segment) → P s → P (with_view s v)) → P (fresh v) → (b : Bool) (ss : List Segment) → All P ss → All P (put b ss v)
  all_put P more new b [] all = all_cons P (fresh v) [] new (λ k d low. absurd (omega arith))
  all_put P more new true (s ∷ []) all = all_cons P s (fresh v ∷ []) (all_head P s [] all) (all_cons P (fresh v) [] new (λ k d low. absurd (omega arith)))
  all_put P more new false (s ∷ []) all = all_cons P (with_view s v) [] (more s (all_head P s [] all)) (λ k d low. absurd (omega arith))
  all_put P more new b (s ∷ t ∷ ss) all = all_cons P s (put b (t ∷ ss) v) (all_head P s (t ∷ ss) all) (all_put P more new b (t ∷ ss) (all_tail P s (t ∷ ss) all))

  no_works_at : (k : ℕ) → get_or {A = List ℕ} ([] ∷ []) k [] ≡ get_or {A = List ℕ} [] k []
  no_works_at zero = refl
  no_works_at (suc k) = refl

  pub works_put : (b : Bool) (ss : List Segment) (k : ℕ) → get_or (map (λ (s : Segment). s.works) (put b ss v)) k [] ≡ get_or (map (λ (s : Segment). s.works) ss) k []
  works_put b [] k = no_works_at k
  works_put true (s ∷ []) zero = refl
  works_put true (s ∷ []) (suc k) = no_works_at k
  works_put false (s ∷ []) k = refl
  works_put b (s ∷ t ∷ ss) zero = refl
  works_put b (s ∷ t ∷ ss) (suc k) = works_put b (t ∷ ss) k

  beside_more : (us : List ViewNo) (ws : List ℕ) (u : ViewNo) → length ws ≤ length us → work_beside (us ++ v ∷ []) ws u ≡ work_beside us ws u
  beside_more [] [] u few = refl
  beside_more [] (w ∷ ws) u few = absurd (omega arith)
  beside_more (x ∷ us) [] u few = refl
  beside_more (x ∷ us) (w ∷ ws) u few = ap (λ (o : Option ℕ). cond (x.0 == u.0) (Some w) o) (beside_more us ws u (omega (arith, few)))

  pub work_put : (b : Bool) (ss : List Segment) (u : ViewNo) → All (λ (s : Segment). length s.works ≤ length s.views) ss → work_in (put b ss v) u ≡ work_in ss u
  work_put b [] u few = refl
  work_put true (s ∷ []) u few = refl
  work_put false (s ∷ []) u few = ap (λ (o : Option ℕ). either o None) (beside_more s.views s.works u (few zero s (omega arith)))
  work_put b (s ∷ t ∷ ss) u few = ap (λ (o : Option ℕ). either (work_beside s.views s.works u) o) (work_put b (t ∷ ss) u (λ k d low. few (suc k) d (omega (arith, low))))

  pub next_put : (task : Task) (rule : SplitRule) (b : Bool) (ss : List Segment) → (1 ≤ length ss → b ≡ starts_new rule (counts_of task (last_views ss) v.0))
      → map (λ (s : Segment). numbers s.views) (put b ss v) ≡ with_next task rule (map (λ (s : Segment). numbers s.views) ss) v.0
  next_put task rule b [] told = refl
  next_put task rule true (s ∷ []) told =
      ap (λ (c : Bool). cond c (numbers s.views ∷ (v.0 ∷ []) ∷ []) ((numbers s.views ++ v.0 ∷ []) ∷ [])) (told (omega arith))
  next_put task rule false (s ∷ []) told =
      ap (λ (l : List ℕ). l ∷ []) (map-append (λ (u : ViewNo). u.0) s.views (v ∷ []))
      ∙ ap (λ (c : Bool). cond c (numbers s.views ∷ (v.0 ∷ []) ∷ []) ((numbers s.views ++ v.0 ∷ []) ∷ [])) (told (omega arith))
  next_put task rule b (s ∷ t ∷ ss) told = ap (λ (ls : List (List ℕ)). numbers s.views ∷ ls) (next_put task rule b (t ∷ ss) (λ some. told (omega arith)))

  past : (s : Segment) (b : Bool) (t : Segment) (ss : List Segment) → last_views (s ∷ put b (t ∷ ss) v) ≡ last_views (put b (t ∷ ss) v)
  past s true t [] = refl
  past s false t [] = refl
  past s b t (u ∷ ss) = refl

  pub last_put : (b : Bool) (ss : List Segment) → last_views (put b ss v) ≡ cond b (v.0 ∷ []) (last_views ss ++ v.0 ∷ [])
  last_put true [] = refl
  last_put false [] = refl
  last_put true (s ∷ []) = refl
  last_put false (s ∷ []) = map-append (λ (u : ViewNo). u.0) s.views (v ∷ [])
  last_put b (s ∷ t ∷ ss) = past s b t ss ∙ last_put b (t ∷ ss)

  front_put : (b : Bool) (ss : List Segment) (i : ℕ) → suc i < length (put b ss v) → slice_get (put b ss v) i ≡ slice_get ss i
  front_put b [] i low = absurd (omega arith)
  front_put true (s ∷ []) zero low = refl
  front_put true (s ∷ []) (suc i) low = absurd (omega arith)
  front_put false (s ∷ []) i low = absurd (omega arith)
  front_put b (s ∷ t ∷ ss) zero low = refl
  front_put b (s ∷ t ∷ ss) (suc i) low = front_put b (t ∷ ss) i (omega (arith, low))

  pub order_put : (b : Bool) (ss : List Segment) → All IsFinished ss → (i : ℕ) (s : Segment) → suc i < length (put b ss v) → slice_get (put b ss v) i ≡ Some s → IsFinished s
  order_put b ss all i s low at = all_at IsFinished ss all i s (sym (front_put b ss i low) ∙ at)

-- ---- edges in which later views differ

module _ (task : Task) where
  differences_more : (u : ℕ) (us : List ℕ) (v : ℕ) → differences task u (us ++ v ∷ []) ≡ differences task u us + difference task (last_of (u ∷ us)) v
  differences_more u [] v = omega arith
  differences_more u (w ∷ us) v = omega (arith, differences_more w us v)

  pub later_more : (us : List ℕ) (v : ℕ) → 1 ≤ length us → later_edges task (us ++ v ∷ []) ≡ later_edges task us + difference task (last_of us) v
  later_more [] v some = absurd (omega arith)
  later_more (u ∷ us) v some = differences_more u us v

-- ---- the last segment

pub last_at : (ss : List Segment) (j : ℕ) (d : Segment) → length ss ≡ suc j → (last_views ss ≡ numbers (get_or ss j d).views) × (last_works ss ≡ (get_or ss j d).works)
last_at [] j d some = absurd (omega arith)
last_at (s ∷ []) zero d some = (refl, refl)
last_at (s ∷ []) (suc j) d some = absurd (omega arith)
last_at (s ∷ t ∷ ss) zero d some = absurd (omega arith)
last_at (s ∷ t ∷ ss) (suc j) d some = last_at (t ∷ ss) j d (omega arith)

-- a segment with a view more, by its parts
pub grown_segment : (s old : Segment) (v : ViewNo) → s.views ≡ old.views ++ v ∷ [] → s.works ≡ old.works → s.history ≡ old.history → s.flags ≡ old.flags → s ≡ with_view old v
grown_segment s old v views works history flags =
    ap (λ (vs : List ViewNo). let t : Segment = record { views = vs; works = s.works; history = s.history; flags = s.flags } in t) views
    ∙ ap (λ (ws : List ℕ). let t : Segment = record { views = old.views ++ v ∷ []; works = ws; history = s.history; flags = s.flags } in t) works
    ∙ ap (λ (h : Option History). let t : Segment = record { views = old.views ++ v ∷ []; works = old.works; history = h; flags = s.flags } in t) history
    ∙ ap (λ (f : Option (Vec Bool Global)). let t : Segment = record { views = old.views ++ v ∷ []; works = old.works; history = old.history; flags = f } in t) flags
