-- What is told of the nodes at round 0 and one round on.
use Rattle.std.proofs.Common.{◌≡◌, ◌∙◌, ◌<◌, ◌+◌, ◌-◌, ◌++◌, [], sym, ap, subst, refl, ℕ, Bool, true, false, List, length, get_or, take, arith, inl, inr}
use Rattle.std.specs.Prelude.{◌||◌, ◌==◌, ◌⊎◌, replicate}
use Rattle.std.proofs.lemmas.Bool.{cases_eq, cases_Bool, eq-eqb, ne_eqb}
use Rattle.std.proofs.lemmas.List.Folds.{list_any-append, list_any_more}
use Rattle.std.proofs.lemmas.List.{length-replicate}
use Rattle.graph_model.specs.declared.value.Val.{Val}
use Rattle.vertex_lang.specs.declared.arc.Arc.{Arc}
use Rattle.vertex_lang.specs.Arcs.{outdeg}
use Rattle.vertex_lang.specs.Expressions.{Answer, sent_by, send_words}
use Rattle.vertex_lang.specs.Rounds.{value_at, lone}
use Rattle.change_lists.specs.declared.history.Change.{Change}
use Rattle.round_kernel.specs.declared.frame.Frame.{Frame}
use Rattle.round_kernel.specs.declared.frame.Lists.{Lists}
use Rattle.round_kernel.specs.declared.suspects.Suspects.{Suspects}
use Rattle.round_kernel.specs.Flags.{IsFlagged, IsSettled, AreLong, AreSet}
use Rattle.round_kernel.specs.Frames.{AreStirred, IsFrame, IsQuiet, StandAt, count_in, lone_at, old_lone_at, new_arcs, was_touched_at}
use Rattle.arc_rows.specs.TurnedArcs.{TellTurned}
use Rattle.change_lists.specs.ChangeLists.{is_changed, HasChanges}
use Rattle.arc_rows.specs.Views.{arcs_in}
use Rattle.round_kernel.specs.Suspects.{StandSuspects, stamp}
use Rattle.round_inputs.specs.Movers.{sent_in}
use Rattle.round_inputs.specs.BroughtLaws.{sent-is}
use Rattle.arc_rows.specs.ListLaws.{clash}
use Rattle.waiting_nodes.specs.WaitingLaws.{or-first, or-right}
use Rattle.arc_rows.specs.ViewLaws.{same-degree}
use Rattle.round_kernel.proofs.Filled.{untouched-agree}
use Rattle.change_lists.specs.UnchangedLaws.{unchanged-at}
use Rattle.round_kernel.proofs.Marking.{old-step}
use Rattle.round_kernel.proofs.Rounding.{touched-on}

-- ---- a round

module _ (answer : Answer) (f : Frame) (r : ℕ) (touched : ℕ → Bool) (lists : Lists) (at : StandAt answer f r touched lists) where
  pub long-at : AreLong (count_in f) lists
  long-at = record {
    touched = at.touched_size;
    old_values = at.old_sized.values_size;
    new_values = at.new_now.sized.values_size;
    old_degrees = at.old_sized.degrees_size;
    new_degrees = at.new_now.sized.degrees_size;
  }

  -- a node without the flag sends the same in the round of both views
  pub flag-tells : (u : ℕ) (flag : Bool) → u < count_in f → f.first ≡ false → IsFlagged f lists u flag → flag ≡ false → (e : ℕ)
      → sent_in answer f.program.now f.graph.now (new_arcs f) r u e ≡ sent_in answer f.program.now f.graph.now (arcs_in f.rows.now.by_head f.old.now) r u e
  flag-tells u flag low first right unset e =
      sym (sent-is answer f.program.now f.graph.now f.rows.now.by_head f.new.now lists.new_degrees.items lists.new_now.items r at.new_now u e low)
      ∙ sym (right unset e)
      ∙ sent-is answer f.program.now f.graph.now f.rows.now.by_head f.old.now lists.old_degrees.items lists.old_now.items r (at.old_now first) u e low

-- ---- round 0

pub told-start : (answer : Answer) (f : Frame) (touched : ℕ → Bool) (lists : Lists) → StandAt answer f 0 touched lists → (suspects : Suspects) (n : ℕ) → n ≡ count_in f
    → length suspects.apart.items ≡ count_in f → (f.first ≡ false → (u : ℕ) → u < count_in f → IsFlagged f lists u (get_or suspects.apart.items u false)) → suspects.moved.items ≡ replicate n 0
    → TellTurned (λ a. a.head.0) f.graph.now f.rows.now.by_head f.first f.old.now f.new.now suspects.turned → StandSuspects answer f 0 suspects
told-start answer f touched lists at suspects n count size flags moved turned = record {
  apart_size = size;
  moved_size = ap (λ (ns : List ℕ). length ns) moved ∙ length-replicate {A = ℕ} n 0 ∙ count;
  apart = λ first u e low unset. flag-tells answer f 0 touched lists at u (get_or suspects.apart.items u false) low first (flags first u low) unset e;
  moved = λ later. absurd (omega (arith, later));
  turned = turned;
}

-- where the message doesn't depend on how many arcs leave a node, no node sends something else
pub none-apart : (answer : Answer) (f : Frame) (touched : ℕ → Bool) (lists : Lists) → IsFrame answer f f.limit → StandAt answer f 0 touched lists → f.by_degree ≡ false → f.first ≡ false → (u : ℕ) (flag : Bool) → IsFlagged f lists u flag
unfolding lone
none-apart answer f touched lists frame at by first u flag unset e =
    let p = f.program.now in
    let graph = f.graph.now in
    let same : lists.old_now.items ≡ lists.new_now.items = (at.old_now first).values_are ∙ sym at.new_now.values_are in
    ap (λ (vs : List Val). sent_by p graph u (value_at vs u) (get_or lists.old_degrees.items u 0) e) same
    ∙ frame.degree by (send_words graph u (value_at lists.new_now.items u) 0 e) (get_or lists.old_degrees.items u 0) (get_or lists.new_degrees.items u 0)

-- ---- one node after the other

-- where none of two holds
first-fails : (a b : Bool) → (a || b) ≡ false → a ≡ false
first-fails true b e = absurd cc
first-fails false b e = refl

-- what stands for one changed node more is right
pub set-more : {A : Type 0} (IsRight : ℕ → A → Type 0) (none : A) (cs : List Change) (i : ℕ) (d : Change) → i < length cs → (before mid after : List A) → AreSet IsRight none (take i cs) before mid
    → length after ≡ length mid → IsRight (get_or cs i d).node.0 (get_or after (get_or cs i d).node.0 none) → ((u : ℕ) → (u ≡ (get_or cs i d).node.0 → ⊥) → get_or after u none ≡ get_or mid u none)
    → AreSet IsRight none (take (i + 1) cs) before after
set-more IsRight none cs i d low before mid after set size right others = record {
  size = size ∙ set.size;
  right = λ u listed. elim (cases_eq u node) [
    | inl same ↦ subst (λ v. IsRight v (get_or after v none)) (sym same) right
    | inr other ↦ subst (IsRight u) (sym (others u other)) (set.right u (or-first (is_changed u (take i cs)) (node == u) (sym (more u) ∙ listed) (ne_eqb node u (λ e. other (sym e)))))
  ];
  others = λ u off. elim (cases_eq u node) [
    | inl same ↦ absurd (clash (is_changed u (take (i + 1) cs)) off (more u ∙ or-right (is_changed u (take i cs)) (node == u) (eq-eqb node u (sym same))))
    | inr other ↦ others u other ∙ set.others u (first-fails (is_changed u (take i cs)) (node == u) (sym (more u) ∙ off))
  ];
} where
  node : ℕ
  node = (get_or cs i d).node.0

  more : (u : ℕ) → is_changed u (take (i + 1) cs) ≡ (is_changed u (take i cs) || (node == u))
  more u = list_any_more (λ (c : Change). c.node.0 == u) cs i d low

-- what is set for two lists, one behind the other
pub set-both : {A : Type 0} (IsRight : ℕ → A → Type 0) (none : A) (one two : List Change) (before mid after : List A) → AreSet IsRight none one before mid → AreSet IsRight none two mid after → AreSet IsRight none (one ++ two) before after
set-both IsRight none one two before mid after first second = record {
  size = second.size ∙ first.size;
  right = λ u listed. elim (cases_Bool (is_changed u two)) [
    | inl on ↦ second.right u on
    | inr off ↦ subst (IsRight u) (sym (second.others u off)) (first.right u (or-first (is_changed u one) (is_changed u two) (sym (both u) ∙ listed) off))
  ];
  others = λ u off.
      let out : (is_changed u one || is_changed u two) ≡ false = sym (both u) ∙ off in
      second.others u (second-fails (is_changed u one) (is_changed u two) out) ∙ first.others u (first-fails (is_changed u one) (is_changed u two) out);
} where
  both : (u : ℕ) → is_changed u (one ++ two) ≡ (is_changed u one || is_changed u two)
  both u = list_any-append (λ (c : Change). c.node.0 == u) one two

  second-fails : (a b : Bool) → (a || b) ≡ false → b ≡ false
  second-fails true b e = absurd cc
  second-fails false b e = e

-- ---- one round on

module _ (answer : Answer) (f : Frame) (r : ℕ) (lists : Lists) (frame : IsFrame answer f f.limit) (under : r < f.limit) (at : StandAt answer f (r + 1) (was_touched_at answer f (r + 1)) lists) (new : List Change)
    (news : HasChanges (count_in f) (lone_at answer f r) (lone_at answer f (r + 1)) new) where
  -- what changes in the view before
  abbrev old : List Change
  old = get_or f.history.now.changes r []

  olds : f.first ≡ false → HasChanges (count_in f) (old_lone_at answer f r) (old_lone_at answer f (r + 1)) old
  olds one = old-step answer f frame r (count_in f) (old_lone_at answer f r) (old_lone_at answer f (r + 1)) old under one refl refl refl refl

  -- a node sends what it sent, where it doesn't change
  still-sent : (arcs : List Arc) (changes : List Change) (u e : ℕ) → u < count_in f → HasChanges (count_in f) (lone answer f.program.now f.graph.now arcs r) (lone answer f.program.now f.graph.now arcs (r + 1)) changes
      → is_changed u changes ≡ false → sent_in answer f.program.now f.graph.now arcs (r + 1) u e ≡ sent_in answer f.program.now f.graph.now arcs r u e
  still-sent arcs changes u e low has off = ap (λ (v : Val). sent_by f.program.now f.graph.now u v (outdeg arcs u) e)
      (unchanged-at (count_in f) (lone answer f.program.now f.graph.now arcs r) (lone answer f.program.now f.graph.now arcs (r + 1)) changes u low has off)

  -- a node whose flag is right sends the same in both views without it
  settled-tells : (u : ℕ) (flag : Bool) → u < count_in f → f.first ≡ false → IsSettled f lists u flag → flag ≡ false → (e : ℕ)
      → sent_in answer f.program.now f.graph.now (new_arcs f) (r + 1) u e ≡ sent_in answer f.program.now f.graph.now (arcs_in f.rows.now.by_head f.old.now) (r + 1) u e
  settled-tells u flag low first (inl right) unset e = flag-tells answer f (r + 1) (was_touched_at answer f (r + 1)) lists at u flag low first right unset e
  settled-tells u flag low first (inr none) unset e =
      let p = f.program.now in
      let graph = f.graph.now in
      let before = old_lone_at answer f (r + 1) in
      ap (λ (v : Val). sent_by p graph u v (outdeg (new_arcs f) u) e) (untouched-agree answer f (r + 1) lists lists.touched.items (omega arith) at refl first u (r + 1) low none.1 (omega arith))
      ∙ frame.degree none.0 (send_words graph u (value_at before u) 0 e) (outdeg (new_arcs f) u) (outdeg (arcs_in f.rows.now.by_head f.old.now) u)

  -- a quiet node sends the same in both views
  quiet-tells : (u e : ℕ) → u < count_in f → f.first ≡ false → IsQuiet answer f r u
      → sent_in answer f.program.now f.graph.now (new_arcs f) (r + 1) u e ≡ sent_in answer f.program.now f.graph.now (arcs_in f.rows.now.by_head f.old.now) (r + 1) u e
  quiet-tells u e low first quiet =
      let p = f.program.now in
      let graph = f.graph.now in
      let off = at.touched_are u low ∙ sym (touched-on answer f r u) ∙ quiet.untouched in
      ap (λ (v : Val). sent_by p graph u v (outdeg (new_arcs f) u) e) (untouched-agree answer f (r + 1) lists lists.touched.items (omega arith) at refl first u (r + 1) low off (omega arith))
      ∙ ap (λ (d : ℕ). sent_by p graph u (value_at (old_lone_at answer f (r + 1)) u) d e) (same-degree f.old.now f.new.now u f.rows.now.by_head quiet.unturned)

  -- where what changes is listed, but for quiet nodes: what isn't listed is quiet or stays
  module _ (stirred : List Change) (st : AreStirred answer f r stirred) where
    unlisted : (u : ℕ) → is_changed u stirred ≡ false → (is_changed u stirred ≡ true) ⊎ IsQuiet answer f r u → IsQuiet answer f r u
    unlisted u off (inl on) = absurd (clash (is_changed u stirred) off on)
    unlisted u off (inr quiet) = quiet

    pub apart-listed : (was mid next : Suspects) → StandSuspects answer f r was → mid.apart ≡ was.apart → AreSet (IsSettled f lists) false stirred mid.apart.items next.apart.items
        → f.first ≡ false → (u e : ℕ) → u < count_in f → get_or next.apart.items u false ≡ false
        → sent_in answer f.program.now f.graph.now (new_arcs f) (r + 1) u e ≡ sent_in answer f.program.now f.graph.now (arcs_in f.rows.now.by_head f.old.now) (r + 1) u e
    apart-listed was mid next suspects stays parted first u e low unset = elim (cases_Bool (is_changed u stirred)) [
      | inl listed ↦ settled-tells u (get_or next.apart.items u false) low first (parted.right u listed) unset e
      | inr off ↦
          let before : get_or was.apart.items u false ≡ false = ap (λ v. get_or v.items u false) (sym stays) ∙ sym (parted.others u off) ∙ unset in
          elim (cases_Bool (is_changed u old)) [
            | inl t ↦ quiet-tells u e low first (unlisted u off (st.old u low t))
            | inr still ↦ elim (cases_Bool (is_changed u new)) [
              | inl t ↦ quiet-tells u e low first (unlisted u off (st.new u low (sym (news.listed u low) ∙ t)))
              | inr out ↦ still-sent (new_arcs f) new u e low news out ∙ suspects.apart first u e low before
                  ∙ sym (still-sent (arcs_in f.rows.now.by_head f.old.now) old u e low (olds first) still)
            ]
          ]
    ]

  -- where each node was looked at
  pub apart-all : (flags : List Bool) → ((u : ℕ) → u < count_in f → IsFlagged f lists u (get_or flags u false)) → f.first ≡ false → (u e : ℕ) → u < count_in f → get_or flags u false ≡ false
      → sent_in answer f.program.now f.graph.now (new_arcs f) (r + 1) u e ≡ sent_in answer f.program.now f.graph.now (arcs_in f.rows.now.by_head f.old.now) (r + 1) u e
  apart-all flags right first u e low unset = flag-tells answer f (r + 1) (was_touched_at answer f (r + 1)) lists at u (get_or flags u false) low first (right u low) unset e

  module _ (was mid next : Suspects) (suspects : StandSuspects answer f r was)
      (stays : mid.apart ≡ was.apart) (same_size : length mid.moved.items ≡ length was.moved.items) (moved : (u : ℕ) → is_changed u new ≡ true → get_or mid.moved.items u 0 ≡ stamp (r + 1))
      (size : length next.apart.items ≡ length mid.apart.items)
      (apart : f.first ≡ false → (u e : ℕ) → u < count_in f → get_or next.apart.items u false ≡ false
      → sent_in answer f.program.now f.graph.now (new_arcs f) (r + 1) u e ≡ sent_in answer f.program.now f.graph.now (arcs_in f.rows.now.by_head f.old.now) (r + 1) u e)
      (kept : next.moved ≡ mid.moved) (turned : next.turned ≡ was.turned) where
    same-moved : (u : ℕ) → get_or next.moved.items u 0 ≡ get_or mid.moved.items u 0
    same-moved u = ap (λ v. get_or v.items u 0) kept

    moved-next : (u : ℕ) → u < count_in f → (get_or next.moved.items u 0 ≡ stamp (r + 1) → ⊥)
        → value_at (lone_at answer f (r + 1)) u ≡ value_at (lone_at answer f (r + 1 - 1)) u
    moved-next u low stays = elim (cases_Bool (is_changed u new)) [
      | inl listed ↦ absurd (stays (same-moved u ∙ moved u listed))
      | inr out ↦
          let back : r ≡ r + 1 - 1 = omega arith in
          unchanged-at (count_in f) (lone_at answer f r) (lone_at answer f (r + 1)) new u low news out ∙ ap (λ (k : ℕ). value_at (lone_at answer f k) u) back
    ]

    pub told-next : StandSuspects answer f (r + 1) next
    told-next = record {
      apart_size = size ∙ ap (λ v. length v.items) stays ∙ suspects.apart_size;
      moved_size = ap (λ v. length v.items) kept ∙ same_size ∙ suspects.moved_size;
      apart = apart;
      moved = λ later u low stays. moved-next u low stays;
      turned = subst (λ t. TellTurned (λ a. a.head.0) f.graph.now f.rows.now.by_head f.first f.old.now f.new.now t) (sym turned) suspects.turned;
    }
