-- What the step of a view changes of segments.
use Rattle.std.proofs.Common.{◌≡◌, ◌≢◌, ℕ, zero, suc, ◌+◌, ◌<◌, ◌≤◌, ◌==◌, Bool, true, false, List, [], ◌∷◌, ◌++◌, length, map, get_or, slice_get, set, All, Option, Some, None, refl, sym, ◌∙◌, ap, ap₂, arith, cond, inl, inr}
use Rattle.std.specs.List.{sum_by}
use Rattle.std.proofs.lemmas.Bool.Decides.{eqb_tells}
use Rattle.std.proofs.lemmas.List.Sums.{sum_by-cons}
use Rattle.std.proofs.lemmas.Option.{slice_get_within}
use Rattle.graph_model.specs.declared.number.ViewNo.{ViewNo}
use Rattle.graph_model.specs.GraphData.{AreDistinct}
use Rattle.view_order.specs.Greedy.{numbers}
use Rattle.view_segment.specs.declared.segment.Segment.{Segment}
use Rattle.view_segment.specs.Segments.{IsFinished, KeepsHistory}
use Rattle.view_segment.specs.Tasks.{Task}
use Rattle.view_engine.specs.Engines.{KeepsLast, views_in, last_views, work_beside, work_in, either}
use Rattle.view_engine.proofs.Putting.{all_at, all_from, all_cons, all_head, all_tail}

-- ---- where only the works of one segment change

-- the segment with this number is replaced by one of the same views
module _ (s t : Segment) (same : t.views ≡ s.views) where
  pub views_set : (ss : List Segment) (k : ℕ) → slice_get ss k ≡ Some s → views_in (set ss k t) ≡ views_in ss
  views_set [] k at = absurd cc
  views_set (x ∷ ss) zero at = let is : x ≡ s = cc in rw (is, same) refl
  views_set (x ∷ ss) (suc k) at = ap (λ (us : List ViewNo). x.views ++ us) (views_set ss k at)

  pub numbers_set : (ss : List Segment) (k : ℕ) → slice_get ss k ≡ Some s → map (λ (s : Segment). numbers s.views) (set ss k t) ≡ map (λ (s : Segment). numbers s.views) ss
  numbers_set [] k at = absurd cc
  numbers_set (x ∷ ss) zero at = let is : x ≡ s = cc in rw (is, same) refl
  numbers_set (x ∷ ss) (suc k) at = ap (λ (ls : List (List ℕ)). numbers x.views ∷ ls) (numbers_set ss k at)

  pub count_set : (ss : List Segment) (k : ℕ) → slice_get ss k ≡ Some s → sum_by (λ (s : Segment). length s.views) (set ss k t) ≡ sum_by (λ (s : Segment). length s.views) ss
  count_set [] k at = absurd cc
  count_set (x ∷ ss) zero at = let is : x ≡ s = cc in rw (is, same) refl
  count_set (x ∷ ss) (suc k) at = omega (arith, count_set ss k at, sum_by-cons (λ (s : Segment). length s.views) x (set ss k t), sum_by-cons (λ (s : Segment). length s.views) x ss)

  pub last_set : (ss : List Segment) (k : ℕ) → slice_get ss k ≡ Some s → last_views (set ss k t) ≡ last_views ss
  last_set [] k at = absurd cc
  last_set (x ∷ []) zero at = let is : x ≡ s = cc in rw (is, same) refl
  last_set (x ∷ []) (suc k) at = absurd cc
  last_set (x ∷ y ∷ ss) zero at = refl
  last_set (x ∷ y ∷ ss) (suc zero) at = last_set (y ∷ ss) zero at
  last_set (x ∷ y ∷ ss) (suc (suc k)) at = last_set (y ∷ ss) (suc k) at

  pub stepped_set : (ss : List Segment) (k : ℕ) → length t.works ≡ length s.works + 1 → slice_get ss k ≡ Some s → sum_by (λ (s : Segment). length s.works) (set ss k t) ≡ sum_by (λ (s : Segment). length s.works) ss + 1
  stepped_set [] k more at = absurd cc
  stepped_set (x ∷ ss) zero more at =
      let is : x ≡ s = cc in
      let here : length x.works ≡ length s.works = ap (λ (s : Segment). length s.works) is in
      omega (arith, more, here, sum_by-cons (λ (s : Segment). length s.works) t ss, sum_by-cons (λ (s : Segment). length s.works) x ss)
  stepped_set (x ∷ ss) (suc k) more at = omega (arith, stepped_set ss k more at, sum_by-cons (λ (s : Segment). length s.works) x (set ss k t), sum_by-cons (λ (s : Segment). length s.works) x ss)

-- the last segment keeps a history still
pub keeps_set : (task : Task) (t : Segment) (ss : List Segment) (k : ℕ) → (k + 1 ≡ length ss → KeepsHistory task t) → KeepsLast task ss → KeepsLast task (set ss k t)
keeps_set task t [] k new keeps = tt
keeps_set task t (x ∷ []) zero new keeps = new (omega arith)
keeps_set task t (x ∷ []) (suc k) new keeps = keeps
keeps_set task t (x ∷ y ∷ ss) zero new keeps = keeps
keeps_set task t (x ∷ y ∷ ss) (suc zero) new keeps = keeps_set task t (y ∷ ss) zero (λ e. new (omega (arith, e))) keeps
keeps_set task t (x ∷ y ∷ ss) (suc (suc k)) new keeps = keeps_set task t (y ∷ ss) (suc k) (λ e. new (omega (arith, e))) keeps

-- ---- any list

module _ {A : Type 0} where
  pub set_all : (P : A → Type 0) (t : A) → P t → (xs : List A) (k : ℕ) → All P xs → All P (set xs k t)
  set_all P t new [] k all = all
  set_all P t new (x ∷ xs) zero all = all_cons P t xs new (all_tail P x xs all)
  set_all P t new (x ∷ xs) (suc k) all = all_cons P x (set xs k t) (all_head P x xs all) (set_all P t new xs k (all_tail P x xs all))

  pub mapped_set : {B : Type 0} (f : A → B) (t d : A) (e : B) (xs : List A) (k : ℕ) → k < length xs → get_or (map f (set xs k t)) k e ≡ f t
  mapped_set f t d e [] k low = absurd (omega arith)
  mapped_set f t d e (x ∷ xs) zero low = refl
  mapped_set f t d e (x ∷ xs) (suc k) low = mapped_set f t d e xs k (omega (arith, low))

  pub mapped_at : {B : Type 0} (f : A → B) (s : A) (e : B) (xs : List A) (k : ℕ) → slice_get xs k ≡ Some s → get_or (map f xs) k e ≡ f s
  mapped_at f s e [] k at = absurd cc
  mapped_at f s e (x ∷ xs) zero at = ap f (let is : x ≡ s = cc in is)
  mapped_at f s e (x ∷ xs) (suc k) at = mapped_at f s e xs k at

  pub mapped_other : {B : Type 0} (f : A → B) (t : A) (e : B) (xs : List A) (k i : ℕ) → i ≢ k → get_or (map f (set xs k t)) i e ≡ get_or (map f xs) i e
  mapped_other f t e [] k i other = refl
  mapped_other f t e (x ∷ xs) zero zero other = absurd (other refl)
  mapped_other f t e (x ∷ xs) zero (suc i) other = refl
  mapped_other f t e (x ∷ xs) (suc k) zero other = refl
  mapped_other f t e (x ∷ xs) (suc k) (suc i) other = mapped_other f t e xs k i (λ is. other (omega (arith, is)))

  pub get_front : (xs ys : List A) (i : ℕ) → i < length xs → slice_get (xs ++ ys) i ≡ slice_get xs i
  get_front [] ys i low = absurd (omega arith)
  get_front (x ∷ xs) ys zero low = refl
  get_front (x ∷ xs) ys (suc i) low = get_front xs ys i (omega (arith, low))

  pub get_behind : (xs ys : List A) (i : ℕ) → slice_get (xs ++ ys) (length xs + i) ≡ slice_get ys i
  get_behind [] ys i = let none : 0 + i ≡ i = omega arith in ap (slice_get ys) none
  get_behind (x ∷ xs) ys i = let more : suc (length xs) + i ≡ suc (length xs + i) = omega arith in ap (slice_get (x ∷ xs ++ ys)) more ∙ get_behind xs ys i

-- ---- views and works

none_behind : (ss : List Segment) → All (λ (s : Segment). length s.works ≤ length s.views) ss → sum_by (λ (s : Segment). length s.works) ss ≤ sum_by (λ (s : Segment). length s.views) ss
none_behind [] few = omega arith
none_behind (x ∷ ss) few = omega (arith, sum_by-cons (λ (s : Segment). length s.works) x ss, sum_by-cons (λ (s : Segment). length s.views) x ss, none_behind ss (all_tail (λ (s : Segment). length s.works ≤ length s.views) x ss few), all_head (λ (s : Segment). length s.works ≤ length s.views) x ss few)

-- a segment isn't further behind than all
pub behind_all : (ss : List Segment) (k : ℕ) (s : Segment) → All (λ (s : Segment). length s.works ≤ length s.views) ss → slice_get ss k ≡ Some s
    → sum_by (λ (s : Segment). length s.works) ss + length s.views ≤ sum_by (λ (s : Segment). length s.views) ss + length s.works
behind_all [] k s few at = absurd cc
behind_all (x ∷ ss) zero s few at =
    let is : x ≡ s = cc in
    let works : length x.works ≡ length s.works = ap (λ (s : Segment). length s.works) is in
    let views : length x.views ≡ length s.views = ap (λ (s : Segment). length s.views) is in
    (omega (arith, works, views, sum_by-cons (λ (s : Segment). length s.works) x ss, sum_by-cons (λ (s : Segment). length s.views) x ss, none_behind ss (all_tail (λ (s : Segment). length s.works ≤ length s.views) x ss few)))
behind_all (x ∷ ss) (suc k) s few at =
    omega (arith, sum_by-cons (λ (s : Segment). length s.works) x ss, sum_by-cons (λ (s : Segment). length s.views) x ss, behind_all ss k s (all_tail (λ (s : Segment). length s.works ≤ length s.views) x ss few) at, all_head (λ (s : Segment). length s.works ≤ length s.views) x ss few)

pub all_finished : (ss : List Segment) → All (λ (s : Segment). length s.works ≤ length s.views) ss → sum_by (λ (s : Segment). length s.views) ss ≤ sum_by (λ (s : Segment). length s.works) ss → All IsFinished ss
all_finished ss few all =
    all_from IsFinished ss (λ i s at. let one : length s.works ≤ length s.views = all_at (λ (s : Segment). length s.works ≤ length s.views) ss few i s at in omega (arith, one, all, behind_all ss i s few at))

pub finished_sums : (ss : List Segment) → All IsFinished ss → sum_by (λ (s : Segment). length s.works) ss ≡ sum_by (λ (s : Segment). length s.views) ss
finished_sums [] all = omega arith
finished_sums (x ∷ ss) all = omega (arith, sum_by-cons (λ (s : Segment). length s.works) x ss, sum_by-cons (λ (s : Segment). length s.views) x ss, finished_sums ss (all_tail IsFinished x ss all), all_head IsFinished x ss all)

pub one_views : (ss : List Segment) (k : ℕ) (s : Segment) → slice_get ss k ≡ Some s → length s.views ≤ sum_by (λ (s : Segment). length s.views) ss
one_views [] k s at = absurd cc
one_views (x ∷ ss) zero s at = let is : x ≡ s = cc in let views : length x.views ≡ length s.views = ap (λ (s : Segment). length s.views) is in omega (arith, views, sum_by-cons (λ (s : Segment). length s.views) x ss)
one_views (x ∷ ss) (suc k) s at = omega (arith, sum_by-cons (λ (s : Segment). length s.views) x ss, one_views ss k s at)

-- ---- the work of a view

none_both : (a b : Option ℕ) → either a b ≡ None → (a ≡ None) × (b ≡ None)
none_both None b is = (refl, is)
none_both (Some n) b is = absurd cc

none_of : (a b : Option ℕ) → a ≡ None → b ≡ None → either a b ≡ None
none_of a b first second = rw first second

other_view : (b : Bool) (w : ℕ) (o : Option ℕ) → cond b (Some w) o ≡ None → (b ≡ false) × (o ≡ None)
other_view true w o is = absurd cc
other_view false w o is = (refl, is)

-- the work that comes is that of the view behind those that have one
module _ (view u : ViewNo) (w : ℕ) where
  beside_one : (us : List ViewNo) (ws : List ℕ) → slice_get us (length ws) ≡ Some view → work_beside us (ws ++ w ∷ []) u ≡ None → (work_beside us ws u ≡ None) × ((view.0 == u.0) ≡ false)
  beside_one [] ws at none = absurd cc
  beside_one (x ∷ us) [] at none = let is : x ≡ view = cc in (refl, sym (ap (λ (y : ViewNo). y.0 == u.0) is) ∙ (other_view (x.0 == u.0) w (work_beside us [] u) none).0)
  beside_one (x ∷ us) (y ∷ ws) at none =
      let first = other_view (x.0 == u.0) y (work_beside us (ws ++ w ∷ []) u) none in
      let rest = beside_one us ws at first.1 in
      (ap (λ (b : Bool). cond b (Some y) (work_beside us ws u)) first.0 ∙ rest.0, rest.1)

  pub work_more : (s t : Segment) → t.views ≡ s.views → t.works ≡ s.works ++ w ∷ [] → slice_get s.views (length s.works) ≡ Some view
      → (ss : List Segment) (k : ℕ) → slice_get ss k ≡ Some s → work_in (set ss k t) u ≡ None → (work_in ss u ≡ None) × ((view.0 == u.0) ≡ false)
  work_more s t same more next [] k at none = absurd cc
  work_more s t same more next (x ∷ ss) zero at none =
      let is : x ≡ s = cc in
      let both = none_both (work_beside t.views t.works u) (work_in ss u) none in
      let here = beside_one s.views s.works next (ap₂ (λ (us : List ViewNo) (ws : List ℕ). work_beside us ws u) (sym same) (sym more) ∙ both.0) in
      (none_of (work_beside x.views x.works u) (work_in ss u) (ap (λ (y : Segment). work_beside y.views y.works u) is ∙ here.0) both.1, here.1)
  work_more s t same more next (x ∷ ss) (suc k) at none =
      let both = none_both (work_beside x.views x.works u) (work_in (set ss k t) u) none in
      let rest = work_more s t same more next ss k at both.1 in
      (none_of (work_beside x.views x.works u) (work_in ss u) both.0 rest.0, rest.1)

-- ---- a view behind those that have a work has none

module _ (v : ViewNo) where
  absent : (us : List ViewNo) (ws : List ℕ) → ((i : ℕ) → i < length ws → slice_get us i ≡ Some v → ⊥) → work_beside us ws v ≡ None
  absent [] ws none = refl
  absent (u ∷ us) [] none = refl
  absent (u ∷ us) (w ∷ ws) none =
      let rest : work_beside us ws v ≡ None = absent us ws (λ i low at. none (suc i) (omega (arith, low)) at) in
      elim (eqb_tells u.0 v.0) [
        | inl h ↦ absurd (none zero (omega arith) (let is : u ≡ v = ap (λ (n : ℕ). let x : ViewNo = record { 0 = n } in x) h.1 in ap (λ (x : ViewNo). Some x) is))
        | inr h ↦ ap (λ (b : Bool). cond b (Some w) (work_beside us ws v)) h.0 ∙ rest
      ]

  -- nowhere among these views
  no_work : (ss : List Segment) → ((i : ℕ) → slice_get (views_in ss) i ≡ Some v → ⊥) → work_in ss v ≡ None
  no_work [] none = refl
  no_work (s ∷ ss) none =
      none_of (work_beside s.views s.works v) (work_in ss v)
      (absent s.views s.works (λ i low at. none i (get_front s.views (views_in ss) i (slice_get_within s.views i v at) ∙ at)))
      (no_work ss (λ i at. none (length s.views + i) (get_behind s.views (views_in ss) i ∙ at)))

  -- it stands among all views
  view_place : (ss : List Segment) (k : ℕ) (s : Segment) → slice_get ss k ≡ Some s → slice_get s.views (length s.works) ≡ Some v → (i : ℕ) × (slice_get (views_in ss) i ≡ Some v)
  view_place [] k s at next = absurd cc
  view_place (x ∷ ss) zero s at next =
      let is : x ≡ s = cc in
      let here : slice_get x.views (length x.works) ≡ Some v = rw is next in
      (length x.works, get_front x.views (views_in ss) (length x.works) (slice_get_within x.views (length x.works) v here) ∙ here)
  view_place (x ∷ ss) (suc k) s at next = let place = view_place ss k s at next in (length x.views + place.0, get_behind x.views (views_in ss) place.0 ∙ place.1)

  pub next_has_none : (ss : List Segment) (k : ℕ) (s : Segment) → AreDistinct (views_in ss) → slice_get ss k ≡ Some s → slice_get s.views (length s.works) ≡ Some v → work_in ss v ≡ None
  next_has_none [] k s distinct at next = absurd cc
  next_has_none (x ∷ ss) zero s distinct at next =
      let is : x ≡ s = cc in
      let here : slice_get x.views (length x.works) ≡ Some v = rw is next in
      let low : length x.works < length x.views = slice_get_within x.views (length x.works) v here in
      let place : slice_get (views_in (x ∷ ss)) (length x.works) ≡ Some v = get_front x.views (views_in ss) (length x.works) low ∙ here in
      none_of (work_beside x.views x.works v) (work_in ss v)
      (absent x.views x.works (λ i before there.
      let same : i ≡ length x.works = distinct i (length x.works) v (get_front x.views (views_in ss) i (slice_get_within x.views i v there) ∙ there) place in omega (arith, before, same)))
      (no_work ss (λ i there.
      let same : length x.views + i ≡ length x.works = distinct (length x.views + i) (length x.works) v (get_behind x.views (views_in ss) i ∙ there) place in omega (arith, low, same)))
  next_has_none (x ∷ ss) (suc k) s distinct at next =
      let rest : AreDistinct (views_in ss) = λ i j u here there.
      let same : length x.views + i ≡ length x.views + j = distinct (length x.views + i) (length x.views + j) u (get_behind x.views (views_in ss) i ∙ here) (get_behind x.views (views_in ss) j ∙ there) in omega (arith, same) in
      let place = view_place ss k s at next in
      none_of (work_beside x.views x.works v) (work_in ss v)
      (absent x.views x.works (λ i before there.
      let low : i < length x.views = slice_get_within x.views i v there in
      let same : i ≡ length x.views + place.0 = distinct i (length x.views + place.0) v (get_front x.views (views_in ss) i low ∙ there) (get_behind x.views (views_in ss) place.0 ∙ place.1) in omega (arith, low, same)))
      (next_has_none ss k s rest at next)
