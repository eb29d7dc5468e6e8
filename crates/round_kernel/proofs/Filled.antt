-- When a round begins, all who may be active or counted in it wait.
use Rattle.std.proofs.Common.{◌≡◌, ◌∙◌, ◌<◌, ◌≤◌, ◌+◌, ◌-◌, [], suc, sym, ap, subst, refl, ℕ, Bool, true, false, List, Some, None, get_or, arith, inl, inr}
use Rattle.std.specs.Prelude.{All, ◌⊎◌, ◌||◌}
use Rattle.std.proofs.lemmas.Bool.{cases_Bool}
use Rattle.std.proofs.lemmas.List.Elements.{All-weaker}
use Rattle.std.proofs.lemmas.List.Sorted.{All-permutation, IsPermutation-sym}
use Rattle.graph_model.specs.declared.value.Val.{Val}
use Rattle.vertex_lang.specs.declared.arc.Arc.{Arc}
use Rattle.vertex_lang.specs.declared.program.Program.{Program}
use Rattle.graph_model.specs.GraphData.{GraphData}
use Rattle.vertex_lang.specs.Expressions.{Answer, sent_by, send_words}
use Rattle.vertex_lang.specs.Rounds.{value_at}
use Rattle.lone_work.specs.Work.{node_active, node_touched, node_marked, touched_before}
use Rattle.lone_work.specs.WorkLaws.{untouched-value}
use Rattle.change_lists.specs.declared.history.Change.{Change}
use Rattle.waiting_nodes.specs.declared.queue.Queue.{Queue}
use Rattle.round_kernel.specs.declared.frame.Frame.{Frame}
use Rattle.round_kernel.specs.declared.frame.Lists.{Lists}
use Rattle.arc_rows.specs.Views.{arcs_in, IsTurned}
use Rattle.round_inputs.specs.Inputs.{AreDegrees}
use Rattle.change_lists.specs.ChangeLists.{HasChanges, is_changed, is_listed}
use Rattle.waiting_nodes.specs.Queues.{waits, StillWait, IsHeard, IsSilent, DegreeAgrees, ValuesAgree, AllHear}
use Rattle.round_kernel.specs.Rounds.{old_view, TellParted}
use Rattle.round_kernel.specs.Frames.{AreStirred, IsFrame, IsQuiet, changes_at, StandAt, AreCalm, count_in, lone_at, old_lone_at, new_arcs, old_arcs, was_touched_at, marked_before}
use Rattle.arc_rows.specs.ListLaws.{clash}
use Rattle.round_kernel.proofs.Calm.{Stays, Same, Still, StartsSilent, calm-first}
use Rattle.round_kernel.proofs.Filling.{changed-at, listed-at, idle-later, idle-start}
use Rattle.change_lists.specs.UnchangedLaws.{unchanged-at, same-if-still}
use Rattle.waiting_nodes.specs.HearingLaws.{heard-still}
use Rattle.round_kernel.proofs.Calming.{calm-by}
use Rattle.round_kernel.proofs.Marking.{old-step}
use Rattle.round_kernel.proofs.Rounding.{touched-on}

degrees-at : (p : Program) (graph : GraphData) (arcs : List Arc) (degrees ds : List ℕ) → ds ≡ degrees → AreDegrees p graph arcs degrees → AreDegrees p graph arcs ds
degrees-at p graph arcs degrees ds e h = subst (λ (xs : List ℕ). AreDegrees p graph arcs xs) (sym e) h

module _ (answer : Answer) (f : Frame) (r : ℕ) where
  untouched-by : (first : Bool) (k v : ℕ) → first ≡ false → (first || touched_before answer f.program.now f.graph.now (new_arcs f) (old_view first f.rows.now.by_head f.old.now) v (suc k)) ≡ false
      → node_touched answer f.program.now f.graph.now (new_arcs f) (Some (arcs_in f.rows.now.by_head f.old.now)) v k ≡ false
  untouched-by true k v one e = absurd (clash true one refl)
  untouched-by false k v one e = e

  -- a node that wasn't touched before this round has the same values in both views
  pub untouched-agree : (lists : Lists) (touched : List Bool) → 0 < r → StandAt answer f r (was_touched_at answer f r) lists → touched ≡ lists.touched.items
      → f.first ≡ false → (v n : ℕ) → v < count_in f → get_or touched v false ≡ false → n ≤ r → value_at (lone_at answer f n) v ≡ value_at (old_lone_at answer f n) v
  untouched-agree lists touched later u et one v n low off within = untouched-value answer f.program.now f.graph.now (new_arcs f) (arcs_in f.rows.now.by_head f.old.now) v (r - 1) n low none (omega (arith, at, within)) where
    at : r ≡ suc (r - 1)
    at = omega (arith, later)

    was : was_touched_at answer f r v ≡ false
    was = sym (u.touched_are v low) ∙ sym (ap (λ (bits : List Bool). get_or bits v false) et) ∙ off

    none : node_touched answer f.program.now f.graph.now (new_arcs f) (Some (arcs_in f.rows.now.by_head f.old.now)) v (r - 1) ≡ false
    none = untouched-by f.first (r - 1) v one (ap (λ n. was_touched_at answer f n v) (sym at) ∙ was)

module _ (answer : Answer) (f : Frame) (r : ℕ) (frame : IsFrame answer f f.limit) where
  -- ---- at round 0

  pub start-calm : (lists : Lists) (od nd : List ℕ) → r ≡ 0 → f.first ≡ false → StandAt answer f r (was_touched_at answer f r) lists → od ≡ lists.old_degrees.items → nd ≡ lists.new_degrees.items
      → (vs : List Val) → vs ≡ lists.new_now.items → (ds : List ℕ) → All (λ a. IsSilent f.by_degree f.program.now f.graph.now ds vs a ⊎ (waits lists.queue a.head.0 ≡ true)) f.turned.now
      → All (λ t. DegreeAgrees f.by_degree od nd t.tail.0 ⊎ AllHear f.rows.now.by_tail lists.queue t.tail.0) f.turned.now
      → AreCalm answer f r lists
  start-calm lists od nd at0 one u eo en vs ev ds heads readers = calm-by answer f r lists active (λ v low idle marked was. clash (was_touched_at answer f r v) (untouched v) was) where
    starts : vs ≡ lone_at answer f 0
    starts = ev ∙ u.new_now.values_are ∙ ap (λ n. lone_at answer f n) at0

    -- without degrees a message is the same however many arcs leave its tail
    silent-start : (a : Arc) → IsSilent f.by_degree f.program.now f.graph.now ds vs a → StartsSilent answer f.program.now f.graph.now f.rows.now.by_head f.old.now f.new.now a
    silent-start a s m =
        frame.degree s.0 (send_words f.graph.now a.tail.0 (value_at (lone_at answer f 0) a.tail.0) 0 a.edge.0) m (get_or ds a.tail.0 0)
        ∙ ap (λ (xs : List Val). sent_by f.program.now f.graph.now a.tail.0 (value_at xs a.tail.0) (get_or ds a.tail.0 0) a.edge.0) (sym starts) ∙ s.1

    silent-heads : All (λ a. StartsSilent answer f.program.now f.graph.now f.rows.now.by_head f.old.now f.new.now a ⊎ (waits lists.queue a.head.0 ≡ true)) f.turned.now
    silent-heads = All-weaker (λ a. IsSilent f.by_degree f.program.now f.graph.now ds vs a ⊎ (waits lists.queue a.head.0 ≡ true)) (λ a. StartsSilent answer f.program.now f.graph.now f.rows.now.by_head f.old.now f.new.now a ⊎ (waits lists.queue a.head.0 ≡ true))
        (λ a h. elim h [ inl s ↦ inl (silent-start a s) | inr w ↦ inr w ]) f.turned.now heads

    active : (v : ℕ) → v < count_in f → waits lists.queue v ≡ false → node_active answer f.program.now f.graph.now (new_arcs f) (old_arcs f) v r ≡ false
    active v low idle =
        subst (λ (b : Bool). node_active answer f.program.now f.graph.now (new_arcs f) (old_view b f.rows.now.by_head f.old.now) v r ≡ false) (sym one)
        (subst (λ n. node_active answer f.program.now f.graph.now (new_arcs f) (Some (arcs_in f.rows.now.by_head f.old.now)) v n ≡ false) (sym at0)
        (idle-start answer f.program.now f.graph.now f.rows.now.by_head f.rows.now.by_tail f.old.now f.new.now f.by_degree od nd lists.watched.items lists.queue frame.rows.same frame.rows.arcs frame.degree
        (degrees-at f.program.now f.graph.now (arcs_in f.rows.now.by_head f.old.now) lists.old_degrees.items od eo (u.old_now one).degrees_are)
        (degrees-at f.program.now f.graph.now (new_arcs f) lists.new_degrees.items nd en u.new_now.degrees_are)
        (u.watched_are one) f.turned.now (frame.turned one) silent-heads readers v idle))

    untouched : (v : ℕ) → was_touched_at answer f r v ≡ false
    untouched v =
        ap (λ (b : Bool). b || touched_before answer f.program.now f.graph.now (new_arcs f) (old_arcs f) v r) one
        ∙ ap (λ n. touched_before answer f.program.now f.graph.now (new_arcs f) (old_arcs f) v n) at0

  -- ---- later

  module _ (k : ℕ) (at : r ≡ suc k) (lists : Lists) (od nd : List ℕ) (w touched parted : List Bool) (on nn : List Val)
      (u : StandAt answer f r (was_touched_at answer f r) lists) (below : r < f.limit)
      (eod : od ≡ lists.old_degrees.items) (end : nd ≡ lists.new_degrees.items) (ew : w ≡ lists.watched.items) (et : touched ≡ lists.touched.items)
      (ep : parted ≡ lists.parted.items) (eon : on ≡ lists.old_now.items) (enn : nn ≡ lists.new_now.items)
      (stirred : List Change) (st : AreStirred answer f k stirred)
      (heard : All (λ c. IsHeard f.first f.rows.now.by_tail f.old.now f.new.now f.by_degree od nd w touched parted on nn lists.queue c.node.0) stirred) where
    more : suc k ≡ k + 1
    more = omega arith

    less : r - 1 ≡ k
    less = omega (arith, at)

    -- what changes in the view before
    had-old : f.first ≡ false → HasChanges (count_in f) (old_lone_at answer f k) (old_lone_at answer f (k + 1)) (get_or f.history.now.changes k [])
    had-old one = old-step answer f frame k (count_in f) (old_lone_at answer f k) (old_lone_at answer f (k + 1)) (get_or f.history.now.changes k []) (omega (arith, at, below)) one refl refl refl refl

    -- the values in the view before stay where no change is listed
    old-stays : f.first ≡ false → (v : ℕ) → v < count_in f → is_changed v (get_or f.history.now.changes k []) ≡ false → value_at (old_lone_at answer f (suc k)) v ≡ value_at (old_lone_at answer f k) v
    old-stays one v low e = ap (λ n. value_at (old_lone_at answer f n) v) more ∙ unchanged-at (count_in f) (old_lone_at answer f k) (old_lone_at answer f (k + 1)) (get_or f.history.now.changes k []) v low (had-old one) e

    new-stays : (v : ℕ) → v < count_in f → changes_at answer f k v ≡ false → value_at (lone_at answer f (suc k)) v ≡ value_at (lone_at answer f k) v
    new-stays v low e = ap (λ n. value_at (lone_at answer f n) v) more ∙ same-if-still (value_at (lone_at answer f (k + 1)) v) (value_at (lone_at answer f k) v) e

    -- a node that changed has the same values in both views where the lists tell so
    same-values : f.first ≡ false → (v : ℕ) → v < count_in f → (is_changed v (get_or f.history.now.changes k []) ≡ true) ⊎ (changes_at answer f k v ≡ true) → ValuesAgree touched parted on nn v
        → Same answer f.program.now f.graph.now f.rows.now.by_head f.old.now f.new.now k v
    same-values one v low changed (inl off) =
        let agree = untouched-agree answer f r lists touched (omega (arith, at)) u et one v in
        (agree (suc k) low off (omega (arith, at)), agree k low off (omega (arith, at)))
    same-values one v low changed (inr agree) = (
      sym (ap (λ (vs : List Val). value_at vs v) (enn ∙ u.new_now.values_are ∙ ap (λ n. lone_at answer f n) at)) ∙ sym agree.0 ∙ ap (λ (vs : List Val). value_at vs v) (eon ∙ (u.old_now one).values_are ∙ ap (λ n. old_lone_at answer f n) at),
      sym (suspects v low (elim changed [ inl t ↦ inl (sym ((had-old one).listed v low) ∙ t) | inr t ↦ inr t ]) (sym (ap (λ (bits : List Bool). get_or bits v false) ep) ∙ agree.1)),
    ) where
      suspects : TellParted answer f.program.now f.graph.now (arcs_in f.rows.now.by_head f.old.now) (new_arcs f) k lists.parted.items
      suspects = subst (λ n. TellParted answer f.program.now f.graph.now (arcs_in f.rows.now.by_head f.old.now) (new_arcs f) n lists.parted.items) less (u.parted_are one (omega (arith, at)))

    -- a quiet node has the same values in both views
    quiet-still : f.first ≡ false → (v : ℕ) → v < count_in f → IsQuiet answer f k v → Still answer f.program.now f.graph.now f.rows.now.by_head f.old.now f.new.now k v
    quiet-still one v low quiet =
        let off = u.touched_are v low ∙ ap (λ n. was_touched_at answer f n v) (at ∙ more) ∙ sym (touched-on answer f k v) ∙ quiet.untouched in
        let agree = untouched-agree answer f r lists lists.touched.items (omega (arith, at)) u refl one v in
        ((agree (suc k) low off (omega (arith, at)), agree k low off (omega (arith, at))), quiet.unturned)

    tell-by : f.first ≡ false → (v : ℕ) → v < count_in f → (is_changed v (get_or f.history.now.changes k []) ≡ true) ⊎ (changes_at answer f k v ≡ true) → (is_changed v stirred ≡ true) ⊎ IsQuiet answer f k v
        → ((ValuesAgree touched parted on nn v → Same answer f.program.now f.graph.now f.rows.now.by_head f.old.now f.new.now k v) × IsHeard false f.rows.now.by_tail f.old.now f.new.now f.by_degree od nd w touched parted on nn lists.queue v) ⊎ Still answer f.program.now f.graph.now f.rows.now.by_head f.old.now f.new.now k v
    tell-by one v low changed (inr quiet) = inr (quiet-still one v low quiet)
    tell-by one v low changed (inl listed) = inl (
      same-values one v low changed,
      subst (λ (b : Bool). IsHeard b f.rows.now.by_tail f.old.now f.new.now f.by_degree od nd w touched parted on nn lists.queue v) one (changed-at (λ n. IsHeard f.first f.rows.now.by_tail f.old.now f.new.now f.by_degree od nd w touched parted on nn lists.queue n) v stirred heard listed),
    )

    tell : f.first ≡ false → (v : ℕ) → v < count_in f → Stays answer f.program.now f.graph.now f.rows.now.by_head f.old.now f.new.now k v
        ⊎ (((ValuesAgree touched parted on nn v → Same answer f.program.now f.graph.now f.rows.now.by_head f.old.now f.new.now k v) × IsHeard false f.rows.now.by_tail f.old.now f.new.now f.by_degree od nd w touched parted on nn lists.queue v) ⊎ Still answer f.program.now f.graph.now f.rows.now.by_head f.old.now f.new.now k v)
    tell one v low = elim (cases_Bool (is_changed v (get_or f.history.now.changes k []))) [
      | inl t ↦ inr (tell-by one v low (inl t) (st.old v low t))
      | inr e ↦ elim (cases_Bool (changes_at answer f k v)) [
        | inl t ↦ inr (tell-by one v low (inr t) (st.new v low t))
        | inr g ↦ inl (new-stays v low g, old-stays one v low e)
      ]
    ]

    active-next : f.first ≡ false → (v : ℕ) → v < count_in f → waits lists.queue v ≡ false → node_active answer f.program.now f.graph.now (new_arcs f) (Some (arcs_in f.rows.now.by_head f.old.now)) v (suc k) ≡ false
    active-next one v low idle =
        idle-later answer f.program.now f.graph.now f.rows.now.by_head f.rows.now.by_tail f.old.now f.new.now f.by_degree od nd w lists.queue frame.rows.same frame.rows.arcs frame.degree
        (degrees-at f.program.now f.graph.now (arcs_in f.rows.now.by_head f.old.now) lists.old_degrees.items od eod (u.old_now one).degrees_are)
        (degrees-at f.program.now f.graph.now (new_arcs f) lists.new_degrees.items nd end u.new_now.degrees_are)
        (subst (λ (bits : List Bool). All (λ a. IsTurned f.old.now f.new.now a → get_or bits a.tail.0 false ≡ true) f.rows.now.by_head) (sym ew) (u.watched_are one))
        k touched parted on nn
        (tell one) v low idle

    -- where there's no view before
    heard-first : f.first ≡ true → (v : ℕ) → v < count_in f → changes_at answer f k v ≡ true → IsHeard f.first f.rows.now.by_tail f.old.now f.new.now f.by_degree od nd w touched parted on nn lists.queue v
    heard-first one v low t = elim (st.new v low t) [
      | inl listed ↦ changed-at (λ n. IsHeard f.first f.rows.now.by_tail f.old.now f.new.now f.by_degree od nd w touched parted on nn lists.queue n) v stirred heard listed
      | inr quiet ↦ absurd (clash f.first quiet.second one)
    ]

    itself-waits : f.first ≡ true → (v : ℕ) → v < count_in f → changes_at answer f k v ≡ true → waits lists.queue v ≡ true
    itself-waits one v low t = elim (heard-first one v low t).itself [
      | inl a ↦ absurd (clash f.first a.0 one)
      | inr h ↦ h
    ]

    readers-wait : f.first ≡ true → (v : ℕ) → v < count_in f → changes_at answer f k v ≡ true → AllHear f.rows.now.by_head lists.queue v
    readers-wait one v low t = elim (heard-first one v low t).readers [
      | inl a ↦ absurd (clash f.first a.0 one)
      | inr h ↦ All-permutation (λ (a : Arc). a.tail.0 ≡ v → waits lists.queue a.head.0 ≡ true) f.rows.now.by_tail f.rows.now.by_head (IsPermutation-sym f.rows.now.by_head f.rows.now.by_tail frame.rows.same) h
    ]

    active-first : f.first ≡ true → (v : ℕ) → v < count_in f → waits lists.queue v ≡ false → node_active answer f.program.now f.graph.now (new_arcs f) None v (suc k) ≡ false
    active-first one v low idle = calm-first answer f.program.now f.graph.now f.rows.now.by_head f.new.now k v
        (elim (cases_Bool (changes_at answer f k v)) [
          | inl t ↦ absurd (clash (waits lists.queue v) idle (itself-waits one v low t))
          | inr e ↦ new-stays v low e
        ])
        (λ i d within here. elim (cases_Bool (changes_at answer f k (get_or f.rows.now.by_head i d).tail.0)) [
          | inl t ↦ absurd (clash (waits lists.queue v) idle (subst (λ n. waits lists.queue n ≡ true) here (readers-wait one (get_or f.rows.now.by_head i d).tail.0 (frame.rows.arcs i d within).tail t i d within refl)))
          | inr e ↦ new-stays (get_or f.rows.now.by_head i d).tail.0 (frame.rows.arcs i d within).tail e
        ])

    active-later : (v : ℕ) → v < count_in f → waits lists.queue v ≡ false → node_active answer f.program.now f.graph.now (new_arcs f) (old_arcs f) v r ≡ false
    active-later v low idle =
        subst (λ n. node_active answer f.program.now f.graph.now (new_arcs f) (old_arcs f) v n ≡ false) (sym at) (elim (cases_Bool f.first) [
          | inl one ↦ subst (λ (b : Bool). node_active answer f.program.now f.graph.now (new_arcs f) (old_view b f.rows.now.by_head f.old.now) v (suc k) ≡ false) (sym one) (active-first one v low idle)
          | inr one ↦ subst (λ (b : Bool). node_active answer f.program.now f.graph.now (new_arcs f) (old_view b f.rows.now.by_head f.old.now) v (suc k) ≡ false) (sym one) (active-next one v low idle)
        ])

    -- the marks of the view before
    marks-are : (v : ℕ) → v < count_in f → is_listed v (get_or f.history.now.marks k []) ≡ marked_before answer f r v
    marks-are v low = (frame.history.marks k (omega (arith, at, below))).listed v low ∙ ap (λ n. node_marked answer f.program.now f.graph.now (old_arcs f) v n) (omega (arith, at))

    pub later-calm : All (λ n. get_or touched n.0 false ≡ true → waits lists.queue n.0 ≡ true) (get_or f.history.now.marks k []) → AreCalm answer f r lists
    later-calm wait = calm-by answer f r lists active-later (λ v low idle marked was. clash (waits lists.queue v) idle
        (listed-at (λ n. get_or touched n false ≡ true → waits lists.queue n ≡ true) v (get_or f.history.now.marks k []) wait (marks-are v low ∙ marked) (ap (λ (bits : List Bool). get_or bits v false) et ∙ u.touched_are v low ∙ was)))

-- all are heard still when more wait
pub all-still : (first : Bool) (arcs : List Arc) (old new : List Bool) (by : Bool) (od nd : List ℕ) (w t pt : List Bool) (on nn : List Val) (q q' : Queue) (cs : List Change) → StillWait q q'
    → All (λ c. IsHeard first arcs old new by od nd w t pt on nn q c.node.0) cs → All (λ c. IsHeard first arcs old new by od nd w t pt on nn q' c.node.0) cs
all-still first arcs old new by od nd w t pt on nn q q' cs s all = λ i d low. heard-still first arcs old new by od nd w t pt on nn q q' (get_or cs i d).node.0 s (all i d low)
