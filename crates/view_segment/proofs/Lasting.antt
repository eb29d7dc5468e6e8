-- One view more: which one was stepped last, and the works.
use Rattle.std.proofs.Common.{Vec, Global, Bool, true, false, ◌≡◌, ◌∙◌, ◌<◌, ◌≤◌, ◌+◌, ◌-◌, ◌++◌, ℕ, zero, suc, List, [], ◌∷◌, Option, Some, None, length, get_or, take, sym, ap, subst, refl, arith, inl, inr}
use Rattle.std.specs.Prelude.{IfSome, ltb}
use Rattle.std.specs.Bool.{then_some}
use Rattle.std.proofs.lemmas.Bool.{cases_lt, le-ltb, lt-ltb}
use Rattle.std.proofs.lemmas.List.{take_more, get_or-map, length-append}
use Rattle.std.proofs.lemmas.Option.{slice_get-get_or}
use Rattle.graph_model.specs.declared.number.ViewNo.{ViewNo}
use Rattle.vertex_lang.specs.Lone.{number_of}
use Rattle.change_lists.specs.declared.history.History.{History}
use Rattle.round_kernel.specs.Histories.{IsHistory}
use Rattle.view_order.specs.Greedy.{numbers}
use Rattle.round_kernel.specs.declared.ended.Ended.{Ended}
use Rattle.view_segment.specs.declared.segment.Kept.{Kept}
use Rattle.view_segment.specs.declared.segment.Segment.{Segment}
use Rattle.view_segment.specs.Segments.{last_of, HistoryOf, KeepsHistory, FlagsOf, view_flags, last_stepped, kept_of, place_of, SegmentStands, IsGiven}
use Rattle.view_segment.specs.Steps.{IsStep}
use Rattle.view_segment.specs.Tasks.{Task, view_arcs, work_of, works_from, works_of}

-- no view in particular
abbrev pub nothing : ViewNo
nothing = record { 0 = 0 }

abbrev value : Option ℕ → ℕ
value None = 0
value (Some v) = v

-- ---- the last one

-- the last of a list, or what stands before it
last_from : Option ℕ → List ℕ → Option ℕ
last_from before [] = before
last_from before (v ∷ vs) = last_from (Some v) vs

last-from : (v : ℕ) (vs : List ℕ) → last_from (Some v) vs ≡ last_of (v ∷ vs)
unfolding last_from
last-from v [] = refl
last-from v (w ∷ vs) = last-from w vs

last-is : (vs : List ℕ) → last_from None vs ≡ last_of vs
unfolding last_from
last-is [] = refl
last-is (v ∷ vs) = last-from v vs

pub last-added : (vs : List ℕ) (w : ℕ) → last_of (vs ++ w ∷ []) ≡ Some w
last-added [] w = refl
last-added (v ∷ []) w = refl
last-added (v ∷ x ∷ vs) w = last-added (x ∷ vs) w

-- the last of the first so many views
pub last-at : (views : List ViewNo) (n : ℕ) (d : ViewNo) → n < length views → last_of (take (suc n) (numbers views)) ≡ Some (get_or views n d).0
last-at [] n d low = absurd (omega (arith, low))
last-at (v ∷ views) zero d low = refl
last-at (v ∷ []) (suc n) d low = absurd (omega (arith, low))
last-at (v ∷ w ∷ views) (suc n) d low = last-at (w ∷ views) n d (omega (arith, low))

none-last : (xs : List ℕ) → last_of (take 0 xs) ≡ None
none-last [] = refl
none-last (x ∷ xs) = refl

pub last-before : (views : List ViewNo) (n v : ℕ) (d : ViewNo) → n ≤ length views → last_of (take n (numbers views)) ≡ Some v → (0 < n) × (last_of (take n (numbers views)) ≡ Some (get_or views (n - 1) d).0)
last-before views zero v d low e = let never : None ≡ Some v = sym (none-last (numbers views)) ∙ e in absurd (cc never)
last-before views (suc n) v d low e = let same : suc n - 1 ≡ n = omega arith in (omega arith, last-at views n d (omega (arith, low)) ∙ ap (λ k. Some (get_or views k d).0) (sym same))

-- ---- the history

pub no-history : (task : Task) (o : Option ℕ) → HistoryOf task o None → o ≡ None
no-history task None h = refl
no-history task (Some v) h = absurd h

pub some-history : (task : Task) (o : Option ℕ) (h : History) → HistoryOf task o (Some h) → (v : ℕ) × (o ≡ Some v) × IsHistory task.answer task.program task.graph (Some (view_arcs task v)) (number_of task.rounds) h
some-history task None h known = absurd known
some-history task (Some v) h known = (v, refl, known)

-- the one that was stepped last has this history
pub some-before : (task : Task) (s : Segment) (h : History) (views : List ViewNo) (k : ℕ) → SegmentStands task s → KeepsHistory task s → s.history ≡ Some h → views ≡ s.views → k ≡ length s.works
    → (last_stepped s ≡ Some (get_or views (k - 1) nothing).0) × IsHistory task.answer task.program task.graph (Some (view_arcs task (get_or views (k - 1) nothing).0)) (number_of task.rounds) h
some-before task s h views k stands keeps e ev ek =
    let n = length s.works in
    let found = some-history task (last_stepped s) h (subst (λ (o : Option History). HistoryOf task (last_stepped s) o) e keeps) in
    let last = (last-before s.views n found.0 nothing stands.few found.1).1 in
    let same : (get_or s.views (n - 1) nothing).0 ≡ (get_or views (k - 1) nothing).0 =
    ap (λ j. (get_or s.views (j - 1) nothing).0) (sym ek) ∙ ap (λ (vs : List ViewNo). (get_or vs (k - 1) nothing).0) (sym ev) in
    let told = last ∙ ap (λ (u : ℕ). Some u) same in
    (told, subst (λ u. IsHistory task.answer task.program task.graph (Some (view_arcs task u)) (number_of task.rounds) h) (ap value (sym found.1 ∙ told)) found.2)

-- flags that are kept are those of the view that was stepped last
pub kept-before : (task : Task) (s : Segment) (u : ℕ) (kept : Option (Vec Bool Global)) (told : List Bool) → SegmentStands task s → last_stepped s ≡ Some u → kept ≡ s.flags → told ≡ view_flags task u
    → IfSome kept (λ flags. flags.items ≡ told)
kept-before task s u kept told stands last same e =
    let held : IfSome s.flags (λ flags. flags.items ≡ view_flags task u) = subst (λ (o : Option ℕ). IfSome s.flags (λ (flags : Vec Bool Global). FlagsOf task o flags.items)) last stands.flags in
    subst (λ (bs : List Bool). IfSome kept (λ (flags : Vec Bool Global). flags.items ≡ bs)) (sym e)
    (subst (λ (o : Option (Vec Bool Global)). IfSome o (λ (flags : Vec Bool Global). flags.items ≡ view_flags task u)) (sym same) held)

-- ---- one view more

works-from : (task : Task) (before : Option ℕ) (vs : List ℕ) (w : ℕ) → works_from task before (vs ++ w ∷ []) ≡ works_from task before vs ++ work_of task (last_from before vs) w ∷ []
unfolding last_from
works-from task before [] w = refl
works-from task before (v ∷ vs) w = ap (λ ns. work_of task before v ∷ ns) (works-from task (Some v) vs w)

pub works-more : (task : Task) (vs : List ℕ) (w : ℕ) → works_of task (vs ++ w ∷ []) ≡ works_of task vs ++ work_of task (last_of vs) w ∷ []
works-more task vs w = works-from task None vs w ∙ ap (λ o. works_of task vs ++ work_of task o w ∷ []) (last-is vs)

pub numbers-more : (views : List ViewNo) (n : ℕ) (d : ViewNo) → n < length views → take (n + 1) (numbers views) ≡ take n (numbers views) ++ (get_or views n d).0 ∷ []
numbers-more views n d low = take_more (numbers views) n d.0 (omega (arith, low, numbers-count views)) ∙ ap (λ k. take n (numbers views) ++ k ∷ []) (get_or-map (λ (view : ViewNo). view.0) views n d d.0 low) where
  numbers-count : (vs : List ViewNo) → length (numbers vs) ≡ length vs
  numbers-count [] = refl
  numbers-count (v ∷ vs) = omega (arith, numbers-count vs)

-- the view that comes next, as it is read
module _ (task : Task) (s : Segment) (views : List ViewNo) (k : ℕ) (ev : views ≡ s.views) (ek : k ≡ length s.works) (low : length s.works < length s.views) where
  next-is : get_or views k nothing ≡ get_or s.views (length s.works) nothing
  next-is = ap (λ (vs : List ViewNo). get_or vs k nothing) ev ∙ ap (λ j. get_or s.views j nothing) ek

  -- flags of the view that are kept, and none once each view was stepped
  pub record AreKept (works : List ℕ) (kept : Option (Vec Bool Global)) : Type 0 where
    pub some : IfSome kept (λ flags. flags.items ≡ view_flags task (get_or views k nothing).0)
    pub done : length works ≡ length s.views → kept ≡ None

  kept-if : (b : Bool) (flags : Vec Bool Global) (told : List Bool) → flags.items ≡ told → IfSome (then_some b flags) (λ held. held.items ≡ told)
  kept-if true flags told e = e
  kept-if false flags told e = tt

  -- flags that are kept only while there is a view that was not stepped yet
  pub are-kept : (works : List ℕ) (flags : Vec Bool Global) (kept : Option (Vec Bool Global)) (few many : ℕ) → few + 1 ≡ length works → many + 1 ≡ length s.views → kept ≡ then_some (ltb few many) flags
      → flags.items ≡ view_flags task (get_or views k nothing).0 → AreKept works kept
  are-kept works flags kept few many ef em e is = record {
    some = subst (λ (o : Option (Vec Bool Global)). IfSome o (λ (held : Vec Bool Global). held.items ≡ view_flags task (get_or views k nothing).0)) (sym e)
        (kept-if (ltb few many) flags (view_flags task (get_or views k nothing).0) is);
    done = λ all. e ∙ ap (λ (b : Bool). then_some b flags) (le-ltb few many (omega (arith, ef, em, all)));
  }

  -- a history that is kept while there is such a view
  pub kept-while : (keeps : Bool) (works : List ℕ) (few many : ℕ) → few ≡ length s.works → few + 1 ≡ length works → many + 1 ≡ length s.views → (ltb few many ≡ true → keeps ≡ true) → (length works ≡ length s.views → ⊥) → keeps ≡ true
  kept-while keeps works few many es ef em told unfinished = elim (cases_lt few many) [
    | inl less ↦ told (lt-ltb few many less)
    | inr most ↦ absurd (unfinished (omega (arith, low, es, ef, em, most)))
  ]

  -- and not behind the last one
  pub unread-by : (keeps : Bool) (works : List ℕ) (few many : ℕ) → few + 1 ≡ length works → many + 1 ≡ length s.views → (ltb few many ≡ false → keeps ≡ false) → length works ≡ length s.views → keeps ≡ false
  unread-by keeps works few many ef em told all = told (le-ltb few many (omega (arith, ef, em, all)))

  taken-now : (works : List ℕ) (n : ℕ) → works ≡ s.works ++ n ∷ [] → take (length works) (numbers s.views) ≡ take (length s.works) (numbers s.views) ++ (get_or s.views (length s.works) nothing).0 ∷ []
  taken-now works n e =
      let count : length works ≡ length s.works + 1 = ap (λ (ns : List ℕ). length ns) e ∙ length-append s.works (n ∷ []) in
      ap (λ m. take m (numbers s.views)) count ∙ numbers-more s.views (length s.works) nothing low

  last-now : (works : List ℕ) (n : ℕ) → works ≡ s.works ++ n ∷ [] → last_of (take (length works) (numbers s.views)) ≡ Some (get_or s.views (length s.works) nothing).0
  last-now works n e = ap (λ (vs : List ℕ). last_of vs) (taken-now works n e) ∙ last-added (take (length s.works) (numbers s.views)) (get_or s.views (length s.works) nothing).0

  -- the history of the view is that of the one that was stepped last then
  pub keeps-more : (n : ℕ) (works : List ℕ) (kept : Option (Vec Bool Global)) (history : Option History) (now : List ViewNo) → works ≡ s.works ++ n ∷ [] → now ≡ s.views
      → HistoryOf task (Some (get_or views k nothing).0) history → KeepsHistory task (record { views = now; works = works; history = history; flags = kept })
  keeps-more n works kept history now e same is =
      subst (λ (vs : List ViewNo). KeepsHistory task (record { views = vs; works = works; history = history; flags = kept })) (sym same)
      (subst (λ (o : Option ℕ). HistoryOf task o history) (sym (last-now works n e)) (subst (λ (v : ViewNo). HistoryOf task (Some v.0) history) next-is is))

  pub stands-more : (t : Ended) (works : List ℕ) (kept : Option (Vec Bool Global)) (history : Option History) (now : List ViewNo) → SegmentStands task s → IsStep task (last_stepped s) (get_or views k nothing).0 t → works ≡ s.works ++ t.work ∷ []
      → AreKept works kept → now ≡ s.views → ((length works ≡ length s.views → ⊥) → HistoryOf task (Some (get_or views k nothing).0) history) → SegmentStands task (record { views = now; works = works; history = history; flags = kept })
  stands-more t works kept history now stands step e are same is =
      let n = length s.works in
      let w = (get_or s.views n nothing).0 in
      let before = take n (numbers s.views) in
      let made : IsStep task (last_of before) w t = subst (λ (v : ViewNo). IsStep task (last_of before) v.0 t) next-is step in
      let count : length works ≡ n + 1 = ap (λ (ns : List ℕ). length ns) e ∙ length-append s.works (t.work ∷ []) in
      let after = taken-now works t.work e in
      let last = last-now works t.work e in
      subst (λ (vs : List ViewNo). SegmentStands task (record { views = vs; works = works; history = history; flags = kept })) (sym same) (record {
        few = omega (arith, low, count);
        works = e ∙ ap (λ (ns : List ℕ). ns ++ t.work ∷ []) stands.works ∙ ap (λ (m : ℕ). works_of task before ++ m ∷ []) made.work ∙ sym (works-more task before w) ∙ ap (λ (vs : List ℕ). works_of task vs) (sym after);
        history = λ unfinished. keeps-more t.work works kept history s.views e refl (is unfinished);
        flags =
            subst (λ (o : Option ℕ). IfSome kept (λ (flags : Vec Bool Global). FlagsOf task o flags.items)) (sym last)
            (subst (λ (v : ViewNo). IfSome kept (λ (flags : Vec Bool Global). flags.items ≡ view_flags task v.0)) next-is are.some);
        done = are.done;
      })

  pub given-by : (t : Ended) (before : Option ViewNo) (kept : Kept) → IsStep task (last_stepped s) (get_or views k nothing).0 t → place_of before ≡ last_stepped s → kept ≡ kept_of s
      → IsGiven task s (record { view = get_or views k nothing; before = before; outcome = t.outcome; change = t.change; kept = kept })
  given-by t before kept step e same = record {
    view = slice_get-get_or s.views (length s.works) nothing low ∙ ap (λ (v : ViewNo). Some v) (sym next-is);
    before = e;
    outcome = step.outcome;
    change = step.change;
    kept = same;
  }
