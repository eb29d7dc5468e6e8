-- What a refused call leaves.
use Rattle.std.proofs.Common.{◌≡◌, ℕ, zero, suc, ◌+◌, ◌-◌, ◌<◌, ◌≤◌, ◌==◌, Bool, true, false, List, [], ◌∷◌, ◌++◌, length, map, take, get_or, slice_get, set, All, Option, Some, None, refl, sym, ◌∙◌, ap, ap₂, subst, arith, length-append, length-set, Vec, inl, inr, Result, Ok, Err}
use Rattle.std.specs.List.{sum_by, position, list_any}
use Rattle.std.specs.Result.{OnErr}
use Rattle.std.proofs.lemmas.Bool.Decides.{eqb_tells}
use Rattle.std.proofs.lemmas.List.{length-map}
use Rattle.std.specs.declared.alloc.Global.{Global}
use Rattle.graph_model.specs.declared.number.ViewNo.{ViewNo}
use Rattle.vertex_lang.specs.Expressions.{Answer}
use Rattle.round_kernel.specs.declared.kernel.Kernel.{Kernel}
use Rattle.view_matrix.specs.Matrices.{MatrixData}
use Rattle.view_order.specs.Greedy.{numbers}
use Rattle.result_tables.specs.Results.{Held, ResultsData, held_on, values_after, with_answer}
use Rattle.view_segment.specs.declared.segment.Given.{Given}
use Rattle.view_segment.specs.declared.segment.Kept.{Kept}
use Rattle.view_segment.specs.declared.segment.Segment.{Segment}
use Rattle.view_segment.specs.Segments.{SegmentStands, kept_of, taken_back}
use Rattle.view_segment.specs.Tasks.{Task}
use Rattle.view_engine.specs.declared.engine.Engine.{Engine}
use Rattle.view_engine.specs.Splits.{segments_of}
use Rattle.view_engine.specs.Engines.{segments_in, assigned_in, stepped_in, assigned_of, task_of, views_in, last_views, segment_at, work_in, work_at, KeepsLater, IsInOrder, HoldsView, IsKernelOf, IsSound, IsEngine, Stands, TellsTheSame, KeepsLast}
use Rattle.view_engine.specs.Assigning.{put, with_view, IsMark, IsGrown, AreGrown, HasGrown, HasStayed, IsAsBefore, LeadsBack, StillHolds, change_in, changed}
use Rattle.view_engine.proofs.Assigning.{take_front, take_whole}
use Rattle.view_engine.proofs.Putting.{last_at}
use Rattle.view_engine.proofs.Keeping.{held_still}

-- what holds anyway holds where the answer is an error
pub on_err : {T E P : Type 0} → (r : Result T E) → P → OnErr r P
on_err (Ok x) p = tt
on_err (Err e) p = p

-- ---- views that are put behind

abbrev with_views : Segment → List ViewNo → Segment
with_views s views = record s { views = views }

module _ (v : ViewNo) where
  grown_more : (s t : Segment) → IsGrown s t → IsGrown s (with_view t v)
  grown_more s t is = record {
    few = omega (arith, is.few, length-append t.views (v ∷ []));
    same = ap (λ (vs : List ViewNo). with_views t vs) (take_front (length s.views) t.views (v ∷ []) is.few) ∙ is.same;
  }

  pub grown_put : (b : Bool) (ss ts : List Segment) → AreGrown ss ts → AreGrown ss (put b ts v)
  grown_put b [] ts is = tt
  grown_put b (s ∷ ss) [] is = absurd is
  grown_put true (s ∷ []) (t ∷ []) is = is
  grown_put false (s ∷ []) (t ∷ []) is = grown_more s t is
  grown_put b (s ∷ []) (t ∷ u ∷ ts) is = is
  grown_put b (s ∷ x ∷ ss) (t ∷ []) is = absurd is.1
  grown_put b (s ∷ x ∷ ss) (t ∷ u ∷ ts) is = (is.0, grown_put b (x ∷ ss) (u ∷ ts) is.1)

pub grown_same : (ss : List Segment) → AreGrown ss ss
grown_same [] = tt
grown_same (s ∷ []) = record { few = omega arith; same = ap (λ (vs : List ViewNo). with_views s vs) (take_whole (length s.views) s.views (omega arith)) }
grown_same (s ∷ t ∷ ss) = (refl, grown_same (t ∷ ss))

pub grown_size : (ss ts : List Segment) → AreGrown ss ts → length ss ≤ length ts
grown_size [] ts is = omega arith
grown_size (s ∷ ss) [] is = absurd is
grown_size (s ∷ []) (t ∷ ts) is = omega arith
grown_size (s ∷ x ∷ ss) (t ∷ ts) is = omega (arith, grown_size (x ∷ ss) ts is.1)

-- with the segments and views behind taken off
pub cut_back : (ss ts : List Segment) (j m : ℕ) (t d : Segment) → AreGrown ss ts → length ss ≡ suc j → m ≡ length (last_views ss)
    → t ≡ with_views (get_or (take (suc j) ts) j d) (take m (get_or (take (suc j) ts) j d).views) → set (take (suc j) ts) j t ≡ ss
cut_back [] ts j m t d is size last made = absurd (omega (arith, size))
cut_back (s ∷ ss) [] j m t d is size last made = absurd is
cut_back (s ∷ []) (x ∷ ts) zero m t d is size last made =
    let many : m ≡ length s.views = last ∙ length-map s.views (λ (v : ViewNo). v.0) in
    ap (λ (u : Segment). u ∷ []) (made ∙ ap (λ (n : ℕ). with_views x (take n x.views)) many ∙ is.same)
cut_back (s ∷ []) (x ∷ ts) (suc j) m t d is size last made = absurd (omega (arith, size))
cut_back (s ∷ y ∷ ss) (x ∷ ts) zero m t d is size last made = absurd (omega (arith, size))
cut_back (s ∷ y ∷ ss) (x ∷ ts) (suc j) m t d is size last made =
    ap (λ (us : List Segment). x ∷ us) (cut_back (y ∷ ss) ts j m t d is.1 (omega (arith, size)) last made) ∙ ap (λ (u : Segment). u ∷ y ∷ ss) is.0

-- the same, by what is read
pub cut_by : (ss ts us : List Segment) (n m : ℕ) (t d : Segment) → AreGrown ss ts → n ≡ length ss → m ≡ length (last_views ss) → 0 < n → us ≡ take n ts
    → t ≡ with_views (get_or us (n - 1) d) (take m (get_or us (n - 1) d).views) → set us (n - 1) t ≡ ss
cut_by ss ts us n m t d is size last some taken made =
    let j = n - 1 in
    let one : n ≡ suc j = omega (arith, some) in
    let now : us ≡ take (suc j) ts = taken ∙ ap (λ (k : ℕ). take k ts) one in
    ap (λ (xs : List Segment). set xs j t) now
    ∙ cut_back ss ts j m t d is (sym size ∙ one) last (made ∙ ap (λ (xs : List Segment). with_views (get_or xs j d) (take m (get_or xs j d).views)) now)

pub cut_all : (ss ts : List Segment) (n : ℕ) → n ≡ length ss → n ≡ 0 → take n ts ≡ ss
cut_all [] ts n size none = ap (λ (k : ℕ). take k ts) none
cut_all (s ∷ ss) ts n size none = absurd (omega (arith, size, none))

-- ---- how far segments go

none_there : (n : ℕ) → (n == 0) ≡ true → n ≡ 0
none_there n is = elim (eqb_tells n 0) [ inl h ↦ h.1 | inr h ↦ absurd (let never : true ≡ false = sym is ∙ h.0 in cc) ]

pub none_marked : (ss : List Segment) → (length ss == 0) ≡ true → IsMark ss (record { segments = 0; views = 0 })
none_marked [] none = record { segments = refl; views = refl }
none_marked (s ∷ ss) none = absurd (omega (arith, none_there (suc (length ss)) none))

pub one_marked : (ss : List Segment) (j : ℕ) (d : Segment) (views : List ViewNo) → length ss ≡ suc j → views ≡ d.views → d ≡ get_or ss j d → IsMark ss (record { segments = length ss; views = length views })
one_marked ss j d views some same is = record {
  segments = refl;
  views = ap length same ∙ ap (λ (s : Segment). length s.views) is ∙ sym (ap length (last_at ss j d some).0 ∙ length-map (get_or ss j d).views (λ (v : ViewNo). v.0));
}

-- ---- engines whose segments grew

pub none_grown : (e : Engine) → HasGrown e e
none_grown e = record { assigned = e.assigned; later = e.later; is = refl; grown = λ ss is. is }

pub grown_then : (a b c : Engine) → HasGrown a b → HasGrown b c → HasGrown a c
grown_then a b c first next = record {
  assigned = next.assigned;
  later = next.later;
  is = next.is ∙ ap (λ (x : Engine). record x { segments = c.segments; assigned = next.assigned; later = next.later }) first.is;
  grown = λ ss is. next.grown ss (first.grown ss is);
}

pub grown_still : (a b c : Engine) → HasGrown a b → HasStayed b c → HasGrown a c
grown_still a b c first stayed = record {
  assigned = first.assigned;
  later = first.later;
  is = stayed.same ∙ ap (λ (x : Engine). record x { segments = c.segments }) first.is;
  grown = λ ss is. subst (AreGrown ss) (sym stayed.segments) (first.grown ss is);
}

pub stayed_by_cut : (a b : Engine) (segments : Vec Segment Global) → HasGrown a b → segments.items ≡ segments_in a → HasStayed a (record b { segments = segments; assigned = a.assigned; later = a.later })
stayed_by_cut a b segments grown same = record {
  same = ap (λ (x : Engine). record x { segments = segments; assigned = a.assigned; later = a.later }) grown.is;
  segments = same;
}

pub stayed_same : (e : Engine) → HasStayed e e
stayed_same e = record { same = refl; segments = refl }

-- ---- an order that grew, and is cut

module _ (e : Engine) (views o : List ViewNo) (grew : o ≡ e.order ++ views) (n : Engine) (stayed : HasStayed (record e { order = o }) n) (t : List ViewNo) (count : ℕ) (cut : t ≡ take count n.order) (size : count ≡ length e.order) where
  order_again : t ≡ e.order
  order_again =
      cut ∙ ap (λ (x : Engine). take count x.order) stayed.same ∙ ap (λ (us : List ViewNo). take count us) grew ∙ ap (λ (k : ℕ). take k (e.order ++ views)) size
      ∙ take_front (length e.order) e.order views (omega arith) ∙ take_whole (length e.order) e.order (omega arith)

  pub stayed_by_order : HasStayed e (record n { order = t })
  stayed_by_order = record {
    same = ap (λ (x : Engine). let y : Engine = record x { order = t } in y) stayed.same ∙ ap (λ (us : List ViewNo). let y : Engine = record e { order = us; segments = n.segments } in y) order_again;
    segments = stayed.segments;
  }

pub stayed_unless : (e : Engine) (o : List ViewNo) → o ≡ e.order → HasStayed e (record e { order = o })
stayed_unless e o same = record { same = ap (λ (us : List ViewNo). let y : Engine = record e { order = us } in y) same; segments = refl }

-- ---- a step that is taken back

pub set_same : (ss : List Segment) (k : ℕ) (s : Segment) → slice_get ss k ≡ Some s → set ss k s ≡ ss
set_same [] k s at = refl
set_same (t ∷ ss) zero s at = let is : t ≡ s = cc in ap (λ (u : Segment). u ∷ ss) (sym is)
set_same (t ∷ ss) (suc k) s at = ap (λ (us : List Segment). t ∷ us) (set_same ss k s at)

take_less : (ws : List ℕ) (w : ℕ) → take (length (ws ++ w ∷ []) - 1) (ws ++ w ∷ []) ≡ ws
take_less ws w =
    let n : length (ws ++ w ∷ []) - 1 ≡ length ws = omega (arith, length-append ws (w ∷ [])) in
    ap (λ (k : ℕ). take k (ws ++ w ∷ [])) n ∙ take_front (length ws) ws (w ∷ []) (omega arith) ∙ take_whole (length ws) ws (omega arith)

module _ (s t : Segment) (kept : Kept) (w : ℕ) (views : t.views ≡ s.views) (works : t.works ≡ s.works ++ w ∷ []) (is_kept : kept ≡ kept_of s) where
  taken_same : taken_back t kept ≡ s
  taken_same =
      ap₂ (λ (vs : List ViewNo) (ws : List ℕ). let u : Segment = record { views = vs; works = take (length ws - 1) ws; history = kept.history; flags = kept.flags } in u) views works
      ∙ ap₂ (λ (ws : List ℕ) (k : Kept). let u : Segment = record { views = s.views; works = ws; history = k.history; flags = k.flags } in u) (take_less s.works w) is_kept

  pub set_back : (ss : List Segment) (k : ℕ) (u : Segment) → slice_get ss k ≡ Some s → slice_get (set ss k t) k ≡ Some u → (1 ≤ length u.works) × (set (set ss k t) k (taken_back u kept) ≡ ss)
  set_back [] k u at now = absurd cc
  set_back (x ∷ ss) zero u at now =
      let is : x ≡ s = cc in
      let new : t ≡ u = cc in (
        subst (λ (y : Segment). 1 ≤ length y.works) new (omega (arith, ap length works, length-append s.works (w ∷ []))),
        ap (λ (y : Segment). y ∷ ss) (ap (λ (y : Segment). taken_back y kept) (sym new) ∙ taken_same ∙ sym is),
      )
  set_back (x ∷ ss) (suc k) u at now = let rest = set_back ss k u at now in (rest.0, ap (λ (us : List Segment). x ∷ us) rest.1)

-- ---- all that is told is as it was

pub as_before : (e n : Engine) → IsEngine e → HasStayed e n → IsAsBefore e n
as_before e n engine stayed = record {
  segments = n.segments;
  kernel = e.kernel;
  results = e.results;
  is = stayed.same;
  same = stayed.segments;
  ready = engine.ready;
  nodes = refl;
  held = λ v h is. is;
}

pub before_back : (a b n : Engine) (segments : Vec Segment Global) (k : ℕ) (kept : Kept) (u : Segment) → LeadsBack k kept a b → HasStayed b n → slice_get (segments_in n) k ≡ Some u
    → segments.items ≡ set (segments_in n) k (taken_back u kept) → IsAsBefore a (record n { segments = segments })
before_back a b n segments k kept u back stayed at made = record {
  segments = segments;
  kernel = b.kernel;
  results = b.results;
  is = ap (λ (x : Engine). record x { segments = segments }) stayed.same ∙ ap (λ (x : Engine). record x { segments = segments }) back.is;
  same = made ∙ ap (λ (ss : List Segment). set ss k (taken_back u kept)) stayed.segments ∙ back.back u (sym (ap (λ (ss : List Segment). slice_get ss k) stayed.segments) ∙ at);
  ready = back.ready;
  nodes = back.nodes;
  held = back.held;
}

-- where nothing but the kernel may be gone
pub still_before : (e : Engine) (segments : Vec Segment Global) (kernel : Option Kernel) → segments.items ≡ segments_in e → IsKernelOf e.graph.now e.program.now.along kernel → IsAsBefore e (changed e segments kernel e.results)
still_before e segments kernel same ready = record {
  segments = segments;
  kernel = kernel;
  results = e.results;
  is = refl;
  same = same;
  ready = ready;
  nodes = refl;
  held = λ v h is. is;
}

pub no_kernel : (e : Engine) (kernel : Option Kernel) → kernel ≡ None → IsKernelOf e.graph.now e.program.now.along kernel
no_kernel e None none = tt
no_kernel e (Some kernel) none = absurd cc

-- where the segment with this number was stepped
module _ (e : Engine) (k : ℕ) (s t : Segment) (kept : Kept) (w : ℕ) (at : slice_get (segments_in e) k ≡ Some s) (views : t.views ≡ s.views) (works : t.works ≡ s.works ++ w ∷ []) (is_kept : kept ≡ kept_of s)
    (segments : Vec Segment Global) (kernel : Option Kernel) (ready : IsKernelOf e.graph.now e.program.now.along kernel) where
  pub leads_back : segments.items ≡ set (segments_in e) k t → (given : Given) (results : ResultsData) → results ≡ with_answer e.results given.view given.before given.outcome (change_in given)
      → LeadsBack k kept e (changed e segments kernel results)
  leads_back stepped given results more = record {
    is = refl;
    size = ap length stepped ∙ length-set (segments_in e) k t;
    some = λ u now. (set_back s t kept w views works is_kept (segments_in e) k u at (sym (ap (λ (ss : List Segment). slice_get ss k) stepped) ∙ now)).0;
    back = λ u now.
        ap (λ (ss : List Segment). set ss k (taken_back u kept)) stepped
        ∙ (set_back s t kept w views works is_kept (segments_in e) k u at (sym (ap (λ (ss : List Segment). slice_get ss k) stepped) ∙ now)).1;
    ready = ready;
    nodes = ap (λ (r : ResultsData). r.nodes) more;
    held = λ v h is. ap (λ (r : ResultsData). held_on r v) more ∙ held_still e.results (record { view = given.view; outcome = given.outcome; values = values_after e.results given.before (change_in given) }) v h is;
  }

  pub taken_before : (u : Segment) → slice_get (set (segments_in e) k t) k ≡ Some u → segments.items ≡ set (set (segments_in e) k t) k (taken_back u kept) → (results : ResultsData) → results ≡ e.results
      → IsAsBefore e (changed e segments kernel results)
  taken_before u now back results same = record {
    segments = segments;
    kernel = kernel;
    results = results;
    is = refl;
    same = back ∙ (set_back s t kept w views works is_kept (segments_in e) k u at now).1;
    ready = ready;
    nodes = ap (λ (r : ResultsData). r.nodes) same;
    held = λ v h is. ap (λ (r : ResultsData). held_on r v) same ∙ is;
  }

-- ---- and the engine is spent

module _ (e : Engine) (segments : Vec Segment Global) (kernel : Option Kernel) (results : ResultsData) (same : segments.items ≡ segments_in e) where
  abbrev after : Engine
  after = record (changed e segments kernel results) { spent = true }

  engine_after : IsEngine e → IsKernelOf e.graph.now e.program.now.along kernel → results.nodes ≡ e.results.nodes → IsEngine after
  engine_after is ready nodes = record {
    checked = is.checked;
    some = is.some;
    limit = is.limit;
    few_nodes = is.few_nodes;
    split = is.split;
    ready = ready;
    few = is.few;
    assigned = is.assigned ∙ sym (ap (sum_by (λ (s : Segment). length s.views)) same);
    within = is.within;
    assigned_views = ap views_in same ∙ is.assigned_views;
    few_segments = rw same is.few_segments;
    sound = rw same is.sound;
    few_later = is.few_later;
    nodes = nodes ∙ is.nodes;
  }

  module _ (answer : Answer) (m : MatrixData) (held : StillHolds e.results results) (is : Stands answer m e) where
    still : (v : ViewNo) → HoldsView (task_of answer m e) e.results v → HoldsView (task_of answer m e) results v
    still v holds = record { held = held v _ holds.held }

    count : assigned_in after ≡ assigned_in e
    count = ap (sum_by (λ (s : Segment). length s.views)) same

    stands_after : Stands answer m after
    stands_after = record {
      matrix = is.matrix;
      views = is.views;
      distinct = is.distinct;
      segments =
          ap (map (λ (s : Segment). numbers s.views)) same ∙ is.segments
          ∙ ap (λ (n : ℕ). segments_of (task_of answer m e) e.split (take n (numbers e.order))) (sym count);
      assigned = count ∙ is.assigned ∙ ap (assigned_of e.split (length e.order)) (sym (ap (sum_by (λ (s : Segment). length s.works)) same));
      later = subst (λ (ss : List Segment). KeepsLater e.split (task_of answer m e) e.later ss) (sym same) is.later;
      in_order = subst (λ (ss : List Segment). IsInOrder e.split ss) (sym same) is.in_order;
      each = subst (λ (ss : List Segment). All (SegmentStands (task_of answer m e)) ss) (sym same) is.each;
      holds = subst (λ (ss : List Segment). All (λ (s : Segment). All (HoldsView (task_of answer m e) results) (take (length s.works) s.views)) ss) (sym same)
          (λ i d low j c lt. still _ (is.holds i d low j c lt));
      keeps = λ on. subst (λ (ss : List Segment). KeepsLast (task_of answer m e) ss) (sym same) (is.keeps on);
      only = λ fresh. absurd (let never : true ≡ false = fresh in cc);
    }

  tells_after : StillHolds e.results results → TellsTheSame e after
  tells_after held = record {
    run = record { graph = refl; program = refl; rounds = refl; split = refl; grows = refl };
    order = refl;
    segments = same;
    segment_of = λ v. ap (λ (ss : List Segment). position (λ (s : Segment). list_any (λ (u : ViewNo). u.0 == v.0) s.views) ss) same;
    work = λ v. ap (λ (ss : List Segment). work_in ss v) same;
    stands = λ answer m is. stands_after answer m held is;
  }

pub spent_engine : (e n : Engine) → IsEngine e → IsAsBefore e n → IsEngine (record n { spent = true })
spent_engine e n engine is =
    subst (λ (x : Engine). IsEngine (record x { spent = true })) (sym is.is) (engine_after e is.segments is.kernel is.results is.same engine is.ready is.nodes)

pub spent_tells : (e n : Engine) → IsAsBefore e n → TellsTheSame e (record n { spent = true })
spent_tells e n is = subst (λ (x : Engine). TellsTheSame e (record x { spent = true })) (sym is.is) (tells_after e is.segments is.kernel is.results is.same is.held)
