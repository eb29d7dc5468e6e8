-- The next view of a segment is stepped.
use Rattle.std.proofs.Common.{◌≡◌, ℕ, zero, suc, ◌+◌, ◌*◌, ◌<◌, ◌≤◌, false, List, [], ◌∷◌, ◌++◌, length, map, take, get_or, slice_get, set, All, Option, Some, None, refl, sym, ◌∙◌, ap, ap₂, subst, arith, length-append, length-set, Vec}
use Rattle.std.specs.Prelude.{option_and_then}
use Rattle.std.specs.List.{sum_by}
use Rattle.std.proofs.lemmas.List.{map-append}
use Rattle.std.proofs.lemmas.List.Elements.{All-append}
use Rattle.std.proofs.lemmas.Option.{slice_get_within, slice_get-get_or}
use Rattle.std.proofs.Math.Nat.{mul-le-mul}
use Rattle.std.specs.declared.alloc.Global.{Global}
use Rattle.graph_model.specs.declared.number.ViewNo.{ViewNo}
use Rattle.graph_model.specs.declared.value.Val.{Val}
use Rattle.graph_model.specs.GraphData.{AreDistinct}
use Rattle.vertex_lang.specs.declared.lone.Outcome.{Outcome}
use Rattle.vertex_lang.specs.Expressions.{Answer}
use Rattle.vertex_lang.specs.GatherLaws.{values-exact}
use Rattle.vertex_lang.specs.Lone.{number_of}
use Rattle.vertex_lang.specs.RoundLaws.{length-lone}
use Rattle.lone_work.specs.CountLaws.{work-is-bounded}
use Rattle.change_lists.specs.declared.history.Change.{Change}
use Rattle.round_kernel.specs.declared.kernel.Kernel.{Kernel}
use Rattle.segment_split.specs.declared.SplitRule.{SplitRule}
use Rattle.segment_split.specs.declared.SplitRule.TheVariants as split
use Rattle.view_matrix.specs.Matrices.{MatrixData}
use Rattle.view_order.specs.Greedy.{numbers}
use Rattle.result_tables.specs.Results.{Held, ResultsData, held_on, assigned, values_of, values_after, with_answer, IsNew, IsBefore, IsChange}
use Rattle.view_segment.specs.declared.segment.Given.{Given}
use Rattle.view_segment.specs.declared.segment.Segment.{Segment}
use Rattle.view_segment.specs.Segments.{last_of, stepped, last_stepped, last_values, change_of, place_of, IsFinished, IsGiven, KeepsHistory, SegmentStands}
use Rattle.view_segment.specs.Tasks.{lone_of, view_arcs, arcs_before, work_of}
use Rattle.view_engine.specs.declared.engine.Engine.{Engine}
use Rattle.view_engine.specs.Splits.{later_edges, segments_of}
use Rattle.view_engine.specs.Engines.{segments_in, assigned_in, stepped_in, assigned_of, task_of, views_in, last_views, work_in, KeepsLater, GoesOn, IsInOrder, HoldsView, IsKernelOf, IsSound, IsEngine, Stands, HasMoved}
use Rattle.view_engine.specs.Assigning.{AreReadyFor, SoFar, HasStepped, IsFilled, filled_to}
use Rattle.view_engine.proofs.Putting.{all_at, all_cons}
use Rattle.view_engine.proofs.Assigning.{take_next, take_map}
use Rattle.view_engine.proofs.Keeping.{pair_of, all_values, all_nodes, changed_nodes, changes_made, held_still, held_new, held_none}
use Rattle.view_engine.proofs.Stepping.{views_set, numbers_set, count_set, last_set, keeps_set, stepped_set, set_all, mapped_set, mapped_at, mapped_other, all_finished, work_more, next_has_none}

-- ---- so far, and by now

pub so_far_of : (answer : Answer) (m : MatrixData) (e : Engine) → IsEngine e → Stands answer m e → SoFar answer m e
so_far_of answer m e engine stands = record {
  matrix = stands.matrix;
  views = stands.views;
  distinct = stands.distinct;
  segments = stands.segments ∙ ap (λ (n : ℕ). segments_of (task_of answer m e) e.split (take n (numbers e.order))) (sym engine.assigned);
  later = stands.later;
  in_order = stands.in_order;
  each = stands.each;
  holds = stands.holds;
  keeps = stands.keeps;
  only = stands.only;
}

pub stands_of : (answer : Answer) (m : MatrixData) (e : Engine) → IsEngine e → e.assigned ≡ assigned_of e.split (length e.order) (stepped_in e) → SoFar answer m e → Stands answer m e
stands_of answer m e engine by_now is = record {
  matrix = is.matrix;
  views = is.views;
  distinct = is.distinct;
  segments = is.segments ∙ ap (λ (n : ℕ). segments_of (task_of answer m e) e.split (take n (numbers e.order))) engine.assigned;
  assigned = sym engine.assigned ∙ by_now;
  later = is.later;
  in_order = is.in_order;
  each = is.each;
  holds = is.holds;
  keeps = is.keeps;
  only = is.only;
}

-- ---- lists

get_take : {A : Type 0} (n : ℕ) (xs : List A) (i : ℕ) (x : A) → slice_get (take n xs) i ≡ Some x → slice_get xs i ≡ Some x
get_take zero [] i x at = absurd cc
get_take zero (y ∷ ys) i x at = absurd cc
get_take (suc n) [] i x at = absurd cc
get_take (suc n) (y ∷ ys) zero x at = at
get_take (suc n) (y ∷ ys) (suc i) x at = get_take n ys i x at

distinct_take : {A : Type 0} (n : ℕ) (xs : List A) → AreDistinct xs → AreDistinct (take n xs)
distinct_take n xs distinct i j x here there = distinct i j x (get_take n xs i x here) (get_take n xs j x there)

-- the last of some numbers is one of theirs
last_among : (us : List ViewNo) (u : ViewNo) → Some u.0 ≡ last_of (map (λ (v : ViewNo). v.0) us) → (i : ℕ) × (slice_get us i ≡ Some u)
last_among [] u is = absurd cc
last_among (x ∷ []) u is = (zero, let n : x.0 ≡ u.0 = cc in ap (λ (k : ℕ). let v : ViewNo = record { 0 = k } in Some v) n)
last_among (x ∷ y ∷ us) u is = let rest = last_among (y ∷ us) u is in (suc rest.0, rest.1)

-- ---- what is kept of the step

module _ (answer : Answer) (m : MatrixData) (e : Engine) (fresh : e.spent ≡ false) (engine : IsEngine e) (stands : Stands answer m e) (k : ℕ) (s : Segment) (at : slice_get (segments_in e) k ≡ Some s) where
  distinct_views : AreDistinct (views_in (segments_in e))
  distinct_views = subst AreDistinct (sym engine.assigned_views) (distinct_take e.assigned e.order stands.distinct)

  module _ (given : Given) (is : IsGiven (task_of answer m e) s given) where
    -- the view has no answer yet
    pub no_answer : held_on e.results given.view ≡ None
    no_answer = stands.only fresh given.view (next_has_none given.view (segments_in e) k s distinct_views at is.view)

    pub is_new : IsNew e.results given.view
    is_new = rw no_answer refl

    -- the one before it has its own
    holds_of : All (HoldsView (task_of answer m e) e.results) (take (length s.works) s.views)
    holds_of = all_at (λ (s : Segment). All (HoldsView (task_of answer m e) e.results) (take (length s.works) s.views)) (segments_in e) stands.holds k s at

    held_before : (u : ViewNo) → place_of (Some u) ≡ last_stepped s → HoldsView (task_of answer m e) e.results u
    held_before u before =
        let one = last_among (take (length s.works) s.views) u (before ∙ ap last_of (take_map (λ (v : ViewNo). v.0) (length s.works) s.views)) in
        all_at (HoldsView (task_of answer m e) e.results) (take (length s.works) s.views) holds_of one.0 u one.1

    before_held : (o : Option ViewNo) → place_of o ≡ last_stepped s → IsBefore e.results o
    before_held None before = tt
    before_held (Some u) before = let it = (held_before u before).held in rw it refl

    pub is_before : IsBefore e.results given.before
    is_before = before_held given.before is.before

    size : (v : ℕ) → length (last_values (task_of answer m e) v) ≡ length e.graph.now.ids
    size v = length-lone answer e.program.now e.graph.now (view_arcs (task_of answer m e) v) (number_of e.rounds)

    -- the change is one over it
    change_held : (o : Option ViewNo) (change : List Change) → place_of o ≡ last_stepped s → change ≡ change_of (task_of answer m e) (last_stepped s) given.view.0 → IsChange e.results o (map pair_of change)
    change_held None change before it =
        let all : change ≡ change_of (task_of answer m e) None given.view.0 = it ∙ ap (λ (l : Option ℕ). change_of (task_of answer m e) l given.view.0) (sym before) in
        rw (all, engine.nodes) (all_nodes 0 (length e.graph.now.ids) (last_values (task_of answer m e) given.view.0) (size given.view.0))
    change_held (Some u) change before it =
        let some : change ≡ change_of (task_of answer m e) (Some u.0) given.view.0 = it ∙ ap (λ (l : Option ℕ). change_of (task_of answer m e) l given.view.0) (sym before) in
        rw some (changed_nodes 0 e.results.nodes (last_values (task_of answer m e) u.0) (last_values (task_of answer m e) given.view.0) (omega (arith, size given.view.0, engine.nodes)))

    pub is_change : IsChange e.results given.before (map pair_of given.change)
    is_change = change_held given.before given.change is.before is.change

    -- and gives the values of the view
    values_held : (o : Option ViewNo) (change : List Change) → place_of o ≡ last_stepped s → change ≡ change_of (task_of answer m e) (last_stepped s) given.view.0
        → values_after e.results o (map pair_of change) ≡ last_values (task_of answer m e) given.view.0
    values_held None change before it =
        let all : change ≡ change_of (task_of answer m e) None given.view.0 = it ∙ ap (λ (l : Option ℕ). change_of (task_of answer m e) l given.view.0) (sym before) in
        rw all (all_values 0 (last_values (task_of answer m e) given.view.0))
    values_held (Some u) change before it =
        let some : change ≡ change_of (task_of answer m e) (Some u.0) given.view.0 = it ∙ ap (λ (l : Option ℕ). change_of (task_of answer m e) l given.view.0) (sym before) in
        let old : values_of (held_on e.results u) ≡ last_values (task_of answer m e) u.0 = ap values_of (held_before u before).held in
        ap₂ (λ (vs : List Val) (c : List Change). assigned vs (map pair_of c)) old some
        ∙ changes_made values-exact 0 [] (last_values (task_of answer m e) u.0) (last_values (task_of answer m e) given.view.0) refl (size u.0 ∙ sym (size given.view.0))

    is_held : HoldsView (task_of answer m e) (with_answer e.results given.view given.before given.outcome (map pair_of given.change)) given.view
    is_held = record {
      held =
          held_new e.results (record { view = given.view; outcome = given.outcome; values = values_after e.results given.before (map pair_of given.change) }) no_answer
          ∙ ap₂ (λ (o : Outcome) (vs : List Val). let h : Held = record { view = given.view; outcome = o; values = vs } in Some h) is.outcome (values_held given.before given.change is.before is.change);
    }

    still_holds : (v : ViewNo) → HoldsView (task_of answer m e) e.results v
        → HoldsView (task_of answer m e) (with_answer e.results given.view given.before given.outcome (map pair_of given.change)) v
    still_holds v holds = record {
      held = held_still e.results (record { view = given.view; outcome = given.outcome; values = values_after e.results given.before (map pair_of given.change) }) v
          (record { view = v; outcome = (lone_of (task_of answer m e) v.0).outcome; values = last_values (task_of answer m e) v.0 }) holds.held;
    }

    -- ---- the segment behind the step

    module _ (t : Segment) (work : ℕ) (same : t.views ≡ s.views) (more : t.works ≡ s.works ++ work ∷ []) (behind : SegmentStands (task_of answer m e) t) where
      one_longer : length t.works ≡ length s.works + 1
      one_longer = ap length more ∙ length-append s.works (work ∷ [])

      next_taken : take (length t.works) t.views ≡ take (length s.works) s.views ++ given.view ∷ []
      next_taken = ap₂ (λ (n : ℕ) (us : List ViewNo). take n us) one_longer same ∙ take_next s.views (length s.works) given.view is.view

      pub holds_now : All (λ (s : Segment). All (HoldsView (task_of answer m e) (with_answer e.results given.view given.before given.outcome (map pair_of given.change))) (take (length s.works) s.views))
          (set (segments_in e) k t)
      holds_now =
          let results = with_answer e.results given.view given.before given.outcome (map pair_of given.change) in
          let P : Segment → Type 0 = λ s. All (HoldsView (task_of answer m e) results) (take (length s.works) s.views) in
          let front : All (HoldsView (task_of answer m e) results) (take (length s.works) s.views) = λ i d low. still_holds (get_or (take (length s.works) s.views) i d) (holds_of i d low) in
          let end : All (HoldsView (task_of answer m e) results) (given.view ∷ []) = all_cons (HoldsView (task_of answer m e) results) given.view [] is_held (λ i d low. absurd (omega arith)) in
          set_all P t (subst (All (HoldsView (task_of answer m e) results)) (sym next_taken) (All-append (HoldsView (task_of answer m e) results) (take (length s.works) s.views) (given.view ∷ []) front end))
          (segments_in e) k (λ i d low. (λ j c lt. still_holds (get_or (take (length (get_or (segments_in e) i d).works) (get_or (segments_in e) i d).views) j c) (stands.holds i d low j c lt)))

      pub only_now : (u : ViewNo) → work_in (set (segments_in e) k t) u ≡ None → held_on (with_answer e.results given.view given.before given.outcome (map pair_of given.change)) u ≡ None
      only_now u none =
          let before = work_more given.view u work s t same more is.view (segments_in e) k at none in
          held_none e.results (record { view = given.view; outcome = given.outcome; values = values_after e.results given.before (map pair_of given.change) }) u (stands.only fresh u before.0) before.1

      -- ---- the engine behind the step

      module _ (segments : Vec Segment Global) (kernel : Option Kernel) (results : ResultsData) (put_in : segments.items ≡ set (segments_in e) k t)
          (kept : results ≡ with_answer e.results given.view given.before given.outcome (map pair_of given.change)) where
        each_now : All (SegmentStands (task_of answer m e)) segments.items
        each_now = rw put_in (set_all (SegmentStands (task_of answer m e)) t behind (segments_in e) k stands.each)

        count_now : sum_by (λ (s : Segment). length s.views) segments.items ≡ assigned_in e
        count_now = ap (sum_by (λ (s : Segment). length s.views)) put_in ∙ count_set s t same (segments_in e) k at

        pub stepped_now : sum_by (λ (s : Segment). length s.works) segments.items ≡ stepped_in e + 1
        stepped_now = ap (sum_by (λ (s : Segment). length s.works)) put_in ∙ stepped_set s t same (segments_in e) k one_longer at

        ready_by : (rule : SplitRule) → assigned_in e ≡ assigned_of rule (length e.order) (stepped_in e) → AreReadyFor rule (record e { segments = segments; kernel = kernel; results = results })
        ready_by split.Auto by = all_finished segments.items (λ i d low. (each_now i d low).few) (omega (arith, by, count_now, stepped_now))
        ready_by split.Whole by = tt
        ready_by (split.Every n) by = tt

        order_by : (rule : SplitRule) → AreReadyFor rule (record e { segments = segments; kernel = kernel; results = results }) → IsInOrder rule segments.items
        order_by split.Auto ready = λ i x low there. all_at IsFinished segments.items ready i x there
        order_by split.Whole ready = tt
        order_by (split.Every n) ready = tt

        later_by : (rule : SplitRule) → KeepsLater rule (task_of answer m e) e.later (segments_in e) → KeepsLater rule (task_of answer m e) e.later segments.items
        later_by split.Auto keeps = keeps ∙ ap (λ (vs : List ℕ). later_edges (task_of answer m e) vs) (sym (ap last_views put_in ∙ last_set s t same (segments_in e) k at))
        later_by split.Whole keeps = tt
        later_by (split.Every n) keeps = tt

        pub so_far_now : (GoesOn e → k + 1 ≡ length (segments_in e) → KeepsHistory (task_of answer m e) t) → SoFar answer m (record e { segments = segments; kernel = kernel; results = results })
        so_far_now keeps = record {
          matrix = stands.matrix;
          views = stands.views;
          distinct = stands.distinct;
          segments =
              ap (map (λ (s : Segment). numbers s.views)) put_in ∙ numbers_set s t same (segments_in e) k at ∙ stands.segments
              ∙ ap (λ (n : ℕ). segments_of (task_of answer m e) e.split (take n (numbers e.order))) (sym engine.assigned);
          later = later_by e.split stands.later;
          in_order = order_by e.split (ready_by e.split stands.assigned);
          each = each_now;
          holds = rw (put_in, kept) holds_now;
          keeps = λ on. rw put_in (keeps_set (task_of answer m e) t (segments_in e) k (keeps on) (stands.keeps on));
          only = λ _ u none. ap (λ (r : ResultsData). held_on r u) kept ∙ only_now u (sym (ap (λ (ss : List Segment). work_in ss u) put_in) ∙ none);
        }

        small_work : work ≡ work_of (task_of answer m e) (last_stepped s) given.view.0 → work ≤ 1_000_000_000_000
        small_work its =
            let bound : work_of (task_of answer m e) (last_stepped s) given.view.0 ≤ length e.graph.now.ids * number_of e.rounds =
            work-is-bounded answer e.program.now e.graph.now (view_arcs (task_of answer m e) given.view.0) (arcs_before (task_of answer m e) (last_stepped s)) (number_of e.rounds) in
            let most : length e.graph.now.ids * number_of e.rounds ≤ 1_000_000 * 1_000_000 = mul-le-mul engine.few_nodes engine.limit in
            omega (arith, its, bound, most)

        sound_now : work ≤ 1_000_000_000_000 → IsSound t
        sound_now small =
            let old : IsSound s = all_at IsSound (segments_in e) engine.sound k s at in
            record {
              filled = rw same old.filled;
              few = behind.few;
              small = rw more (All-append (λ (n : ℕ). n ≤ 1_000_000_000_000) s.works (work ∷ []) old.small
                  (all_cons (λ (n : ℕ). n ≤ 1_000_000_000_000) work [] small (λ i d low. absurd (omega arith))));
            }

        pub engine_now : work ≡ work_of (task_of answer m e) (last_stepped s) given.view.0 → IsKernelOf e.graph.now e.program.now.along kernel
            → IsEngine (record e { segments = segments; kernel = kernel; results = results })
        engine_now its ready = record {
          checked = engine.checked;
          some = engine.some;
          limit = engine.limit;
          few_nodes = engine.few_nodes;
          split = engine.split;
          ready = ready;
          few = engine.few;
          assigned = engine.assigned ∙ sym count_now;
          within = engine.within;
          assigned_views = ap views_in put_in ∙ views_set s t same (segments_in e) k at ∙ engine.assigned_views;
          few_segments = rw put_in (omega (arith, engine.few_segments, length-set (segments_in e) k t));
          sound = rw put_in (set_all IsSound t (sound_now (small_work its)) (segments_in e) k engine.sound);
          few_later = engine.few_later;
          nodes = ap (λ (r : ResultsData). r.nodes) kept ∙ engine.nodes;
        }

        pub has_stepped : (calls_before calls_after : ℕ) → calls_after ≡ calls_before + work → HasStepped k e (record e { segments = segments; kernel = kernel; results = results }) calls_before calls_after
        has_stepped calls_before calls_after calls = record {
          moved = record {
            run = record { graph = refl; program = refl; rounds = refl; split = refl; grows = refl };
            order = refl;
            view = given.view;
            next = ap (option_and_then (λ (s : Segment). slice_get s.views (length s.works))) at ∙ is.view;
            turned =
                ap (λ (r : ResultsData). map (λ (h : Held). h.view) r.held) kept
                ∙ map-append (λ (h : Held). h.view) e.results.held (record { view = given.view; outcome = given.outcome; values = values_after e.results given.before (map pair_of given.change) } ∷ []);
            work = work;
            works =
                ap (λ (ss : List Segment). get_or (map (λ (s : Segment). s.works) ss) k []) put_in
                ∙ mapped_set (λ (s : Segment). s.works) t s [] (segments_in e) k (slice_get_within (segments_in e) k s at)
                ∙ more ∙ ap (λ (ws : List ℕ). ws ++ work ∷ []) (sym (mapped_at (λ (s : Segment). s.works) s [] (segments_in e) k at));
            others = λ i other. ap (λ (ss : List Segment). get_or (map (λ (s : Segment). s.works) ss) i []) put_in ∙ mapped_other (λ (s : Segment). s.works) t [] (segments_in e) k i other;
            calls = calls;
          };
          assigned = refl;
          spent = refl;
          ready = ready_by e.split stands.assigned;
          stepped = stepped_now;
        }

-- ---- the next view gets its segment then

filled_by : (rule : SplitRule) (views old new stepped : ℕ) → old ≡ assigned_of rule views stepped → new ≡ filled_to rule views old → new ≡ assigned_of rule views (stepped + 1)
filled_by split.Auto views old new stepped was is = omega (arith, was, is)
filled_by split.Whole views old new stepped was is = is
filled_by (split.Every n) views old new stepped was is = is

-- where a segment stands that was read
pub at_of : (ss : List Segment) (k : ℕ) (s : Segment) → k < length ss → s ≡ get_or ss k s → slice_get ss k ≡ Some s
at_of ss k s low is = slice_get-get_or ss k s low ∙ ap (λ (t : Segment). Some t) (sym is)

pub moved_then : (k : ℕ) (a b c : Engine) (before after : ℕ) → HasStepped k a b before after → IsFilled b c → HasMoved k a c before after
moved_then k a b c before after stepped filled = record {
  run = record {
    graph = filled.run.graph ∙ stepped.moved.run.graph;
    program = filled.run.program ∙ stepped.moved.run.program;
    rounds = filled.run.rounds ∙ stepped.moved.run.rounds;
    split = filled.run.split ∙ stepped.moved.run.split;
    grows = filled.run.grows ∙ stepped.moved.run.grows;
  };
  order = filled.order ∙ stepped.moved.order;
  view = stepped.moved.view;
  next = stepped.moved.next;
  turned = ap (λ (r : ResultsData). map (λ (h : Held). h.view) r.held) filled.results ∙ stepped.moved.turned;
  work = stepped.moved.work;
  works = filled.works k ∙ stepped.moved.works;
  others = λ i other. filled.works i ∙ stepped.moved.others i other;
  calls = stepped.moved.calls;
}

pub stands_then : (answer : Answer) (m : MatrixData) (k : ℕ) (a b c : Engine) (before after : ℕ) → IsEngine a → Stands answer m a → HasStepped k a b before after → IsEngine c → IsFilled b c
    → (AreReadyFor b.split b → SoFar answer m c) → Stands answer m c
stands_then answer m k a b c before after engine stands stepped behind filled so_far =
    let split_same : b.split ≡ a.split = stepped.moved.run.split in
    let order_same : b.order ≡ a.order = stepped.moved.order in
    let was : a.assigned ≡ assigned_of a.split (length a.order) (stepped_in a) = engine.assigned ∙ stands.assigned in
    let to : c.assigned ≡ filled_to a.split (length a.order) a.assigned =
    filled.assigned ∙ ap (λ (r : SplitRule). filled_to r (length b.order) b.assigned) split_same
    ∙ ap₂ (λ (o : List ViewNo) (n : ℕ). filled_to a.split (length o) n) order_same stepped.assigned in
    let now : c.assigned ≡ assigned_of a.split (length a.order) (stepped_in a + 1) = filled_by a.split (length a.order) a.assigned c.assigned (stepped_in a) was to in
    let by : c.assigned ≡ assigned_of c.split (length c.order) (stepped_in c) =
    now ∙ sym (ap (λ (r : SplitRule). assigned_of r (length c.order) (stepped_in c)) (filled.run.split ∙ split_same)
    ∙ ap₂ (λ (o : List ViewNo) (n : ℕ). assigned_of a.split (length o) n) (filled.order ∙ order_same) (filled.stepped ∙ stepped.stepped)) in
    stands_of answer m c behind by (so_far (subst (λ (r : SplitRule). AreReadyFor r b) (sym split_same) stepped.ready))
