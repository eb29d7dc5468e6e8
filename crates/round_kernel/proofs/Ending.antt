-- Rounds behind the last one that changes something in either view: what they would give is known.
use Rattle.std.proofs.Common.{◌≡◌, ◌≢◌, ◌∙◌, ◌<◌, ◌≤◌, ◌+◌, ◌-◌, ◌∷◌, [], zero, suc, sym, ap, subst, refl, ℕ, Bool, true, false, List, Some, length, get_or, arith, inl, inr}
use Rattle.std.specs.Prelude.{◌||◌, ◌==◌, not, IfSome, if◌then◌else◌}
use Rattle.std.proofs.lemmas.Bool.{cases_lt, eq-eqb, eqb-true}
use Rattle.std.proofs.lemmas.List.{ext_get_or}
use Rattle.std.proofs.Math.ListN.{get_or-eq_default}
use Rattle.std.proofs.lemmas.List.Elements.{All-nil, All-head}
use Rattle.graph_model.specs.declared.value.Val.{Val}
use Rattle.graph_model.specs.declared.value.Val.TheVariants.{Nil}
use Rattle.graph_model.specs.declared.number.NodeNo.{NodeNo}
use Rattle.graph_model.specs.GraphData.{GraphData}
use Rattle.multisets.specs.Multisets.{often}
use Rattle.vertex_lang.specs.declared.arc.Arc.{Arc}
use Rattle.vertex_lang.specs.declared.program.Program.{Program}
use Rattle.vertex_lang.specs.declared.lone.Rounds.{Rounds}
use Rattle.vertex_lang.specs.declared.lone.Lone.{Lone}
use Rattle.vertex_lang.specs.Expressions.{Answer}
use Rattle.vertex_lang.specs.GatherLaws.{values-exact}
use Rattle.vertex_lang.specs.Lone.{same_value, answer_of, number_of}
use Rattle.vertex_lang.specs.RoundLaws.{stays, length-lone}
use Rattle.vertex_lang.specs.Rounds.{value_at, lone}
use Rattle.lone_work.specs.Items.{same_item}
use Rattle.lone_work.specs.Inputs.{input_under}
use Rattle.lone_work.specs.Work.{node_counted, node_marked, work, lone_in}
use Rattle.lone_work.specs.WorkLaws.{first-counted, settled-nothing}
use Rattle.lone_work.specs.CountLaws.{marked-means, work-by-rounds}
use Rattle.lone_work.specs.StepLaws.{settled-last, unsettled-last}
use Rattle.change_lists.specs.declared.history.Change.{Change}
use Rattle.change_lists.specs.declared.history.History.{History}
use Rattle.round_kernel.specs.declared.frame.Frame.{Frame}
use Rattle.arc_rows.specs.Views.{arcs_in}
use Rattle.round_kernel.specs.Histories.{IsHistory, AreStarts}
use Rattle.change_lists.specs.ChangeLists.{HasNodes, HasChanges, is_changed}
use Rattle.round_kernel.specs.Rounds.{old_view}
use Rattle.round_kernel.specs.Frames.{IsFrame, count_in, lone_at, new_arcs, old_arcs, counted_at, marked_at}
use Rattle.round_kernel.specs.Steps.{HasRounds, IsLastChange, outcome_of}
use Rattle.arc_rows.specs.ListLaws.{clash}
use Rattle.change_lists.specs.UnchangedLaws.{unchanged-at}
use Rattle.round_kernel.proofs.Visiting.{count-none}
use Rattle.vertex_lang.specs.declared.lone.Rounds.TheVariants as limits
use Rattle.vertex_lang.specs.declared.lone.Outcome.TheVariants as outcomes

-- ---- where nothing is listed nothing changes, and the other way round

pub same-values : (count : ℕ) (before after : List Val) → length before ≡ count → length after ≡ count → HasChanges count before after [] → after ≡ before
same-values count before after b a h = ext_get_or Nil after before (a ∙ sym b) (λ v low. unchanged-at count before after [] v (omega (arith, low, a)) h refl)

pub no-changes : (count : ℕ) (before after : List Val) → after ≡ before → HasChanges count before after []
no-changes count before after e = record {
  within = All-nil (λ (c : Change). c.node.0 < count);
  values = All-nil (λ (c : Change). c.value ≡ value_at after c.node.0);
  listed = λ v low. sym (ap (λ (vs : List Val). not (same_value (value_at vs v) (value_at before v))) e ∙ ap not (values-exact.itself (value_at before v)));
}

pub changed-told : (count : ℕ) (before after : List Val) (cs : List Change) → HasChanges count before after cs → cs ≢ [] → after ≢ before
changed-told count before after [] h ne = absurd (ne refl)
changed-told count before after (c ∷ cs) h ne = λ e.
    let low = All-head (λ (d : Change). d.node.0 < count) c cs h.within in
    clash (is_changed c.node.0 (c ∷ cs))
    (h.listed c.node.0 low ∙ ap (λ (vs : List Val). not (same_value (value_at vs c.node.0) (value_at before c.node.0))) e ∙ ap not (values-exact.itself (value_at before c.node.0)))
    (or-left (c.node.0 == c.node.0) (is_changed c.node.0 cs) (eq-eqb c.node.0 c.node.0 refl)) where
      or-left : (a b : Bool) → a ≡ true → (a || b) ≡ true
      or-left true b e = refl
      or-left false b e = absurd (clash false refl e)

not-told : (b : Bool) → not b ≡ true → b ≡ false
not-told true e = absurd (clash false refl e)
not-told false e = refl

-- no mark where no value changes
pub unmarked-still : (answer : Answer) (p : Program) (graph : GraphData) (arcs : List Arc) (v k : ℕ) → lone answer p graph arcs (k + 1) ≡ lone answer p graph arcs k → node_marked answer p graph (Some arcs) v (k + 1) ≡ false
unmarked-still answer p graph arcs v k e =
    let more : suc k ≡ k + 1 = omega arith in
    let here : lone answer p graph arcs (suc k) ≡ lone answer p graph arcs k = ap (λ n. lone answer p graph arcs n) more ∙ e in
    ap (λ n. node_marked answer p graph (Some arcs) v n) (sym more)
    ∙ not-told (node_marked answer p graph (Some arcs) v (suc k)) ((marked-means answer p graph (Some arcs) v (suc k)).1 (record { counts = λ x. ap (λ (vs : List Val). often same_item x (input_under p graph arcs vs v)) here }))

-- a round that changes nothing is followed by rounds that change nothing
pub again : (answer : Answer) (p : Program) (graph : GraphData) (arcs : List Arc) (m k : ℕ) → lone answer p graph arcs (m + 1) ≡ lone answer p graph arcs m → m ≤ k → lone answer p graph arcs (k + 1) ≡ lone answer p graph arcs k
again answer p graph arcs m k e low = stays answer p graph arcs m (k + 1) e (omega arith) ∙ sym (stays answer p graph arcs m k e low)

module _ (answer : Answer) (f : Frame) where
  old_lone : ℕ → List Val
  old_lone k = lone answer f.program.now f.graph.now (arcs_in f.rows.now.by_head f.old.now) k

  -- no node is counted where nothing changed in either view
  uncounted-by : (first : Bool) (v k : ℕ) → lone_at answer f (k + 1) ≡ lone_at answer f k → (first ≡ false → lone answer f.program.now f.graph.now (arcs_in f.rows.now.by_head f.old.now) (k + 1) ≡ lone answer f.program.now f.graph.now (arcs_in f.rows.now.by_head f.old.now) k)
      → node_counted answer f.program.now f.graph.now (new_arcs f) (old_view first f.rows.now.by_head f.old.now) v (k + 1) ≡ false
  uncounted-by true v k e h = first-counted answer f.program.now f.graph.now (new_arcs f) v (k + 1) ∙ unmarked-still answer f.program.now f.graph.now (new_arcs f) v k e
  uncounted-by false v k e h = settled-nothing answer f.program.now f.graph.now (new_arcs f) (arcs_in f.rows.now.by_head f.old.now) v k e (h refl)

  -- what is known at the end: all rounds were gone through, or the last one changed nothing in either view
  pub record IsEnd (r : ℕ) : Type 0 where
    pub new : r < f.limit → lone_at answer f ((r - 1) + 1) ≡ lone_at answer f (r - 1)
    pub old : r < f.limit → f.first ≡ false → lone answer f.program.now f.graph.now (arcs_in f.rows.now.by_head f.old.now) ((r - 1) + 1) ≡ lone answer f.program.now f.graph.now (arcs_in f.rows.now.by_head f.old.now) (r - 1)
    pub later : r < f.limit → 0 < r

  module _ (frame : IsFrame answer f f.limit) (r : ℕ) where
    old-still : (first : Bool) (k : ℕ) → HasChanges (count_in f) (lone_in answer f.program.now f.graph.now (old_view first f.rows.now.by_head f.old.now) k) (lone_in answer f.program.now f.graph.now (old_view first f.rows.now.by_head f.old.now) (k + 1)) []
        → first ≡ false → lone answer f.program.now f.graph.now (arcs_in f.rows.now.by_head f.old.now) (k + 1) ≡ lone answer f.program.now f.graph.now (arcs_in f.rows.now.by_head f.old.now) k
    old-still true k c e = absurd (clash true e refl)
    old-still false k c e = same-values (count_in f) (lone answer f.program.now f.graph.now (arcs_in f.rows.now.by_head f.old.now) k) (lone answer f.program.now f.graph.now (arcs_in f.rows.now.by_head f.old.now) (k + 1))
        (length-lone answer f.program.now f.graph.now (arcs_in f.rows.now.by_head f.old.now) k) (length-lone answer f.program.now f.graph.now (arcs_in f.rows.now.by_head f.old.now) (k + 1)) c

    pub end-quiet : r ≤ f.limit → 0 < r → get_or f.history.now.changes (r - 1) [] ≡ [] → lone_at answer f ((r - 1) + 1) ≡ lone_at answer f (r - 1) → IsEnd r
    end-quiet within later eo en = record {
      new = λ low. en;
      old = λ low one. old-still f.first (r - 1) (subst (λ (cs : List Change). HasChanges (count_in f) (lone_in answer f.program.now f.graph.now (old_arcs f) (r - 1)) (lone_in answer f.program.now f.graph.now (old_arcs f) ((r - 1) + 1)) cs) eo (frame.history.changes (r - 1) (omega (arith, later, within)))) one;
      later = λ low. later;
    }

    pub end-all : f.limit ≤ r → IsEnd r
    end-all high = record { new = λ low. absurd (omega arith); old = λ low one. absurd (omega arith); later = λ low. absurd (omega arith) }

    module _ (within : r ≤ f.limit) (end : IsEnd r) where
      quiet-new : (k : ℕ) → r < f.limit → r ≤ k + 1 → lone_at answer f (k + 1) ≡ lone_at answer f k
      quiet-new k less low = again answer f.program.now f.graph.now (new_arcs f) (r - 1) k (end.new less) (omega (arith, low))

      quiet-old : (k : ℕ) → r < f.limit → r ≤ k + 1 → f.first ≡ false → lone answer f.program.now f.graph.now (arcs_in f.rows.now.by_head f.old.now) (k + 1) ≡ lone answer f.program.now f.graph.now (arcs_in f.rows.now.by_head f.old.now) k
      quiet-old k less low one = again answer f.program.now f.graph.now (arcs_in f.rows.now.by_head f.old.now) (r - 1) k (end.old less one) (omega (arith, low))

      pub run-history : (h : History) → HasRounds answer f r h → (made : History) → ((k : ℕ) → get_or made.changes k [] ≡ get_or h.changes k []) → made.marks ≡ h.marks → IfSome made.starts (λ s. AreStarts f.program.now f.graph.now s.value)
          → IsHistory answer f.program.now f.graph.now (Some (new_arcs f)) f.limit made
      run-history h rounds made places marks are = record {
        changes = λ k low. subst (λ (cs : List Change). HasChanges (count_in f) (lone_at answer f k) (lone_at answer f (k + 1)) cs) (sym (places k)) (elim (cases_lt k r) [
          | inl less ↦ rounds.changes k less
          | inr most ↦ subst (λ (cs : List Change). HasChanges (count_in f) (lone_at answer f k) (lone_at answer f (k + 1)) cs) (sym (get_or-eq_default h.changes [] (omega (arith, most, rounds.size)))) (no-changes (count_in f) (lone_at answer f k) (lone_at answer f (k + 1)) (quiet-new k (omega arith) (omega arith)))
        ]);
        marks = λ k low. subst (λ (ms : List (List NodeNo)). HasNodes (count_in f) (marked_at answer f (k + 1)) (get_or ms k [])) (sym marks) (elim (cases_lt (k + 1) r) [
          | inl less ↦ rounds.marks k less
          | inr most ↦ subst (λ (ns : List NodeNo). HasNodes (count_in f) (marked_at answer f (k + 1)) ns) (sym (get_or-eq_default h.marks [] (omega (arith, most, rounds.marks_size)))) (record {
            within = All-nil (λ (n : NodeNo). n.0 < count_in f);
            listed = λ v under. sym (unmarked-still answer f.program.now f.graph.now (new_arcs f) v k (quiet-new k (omega arith) most));
          })
        ]);
        starts = are;
      }

      pub run-last : (last : ℕ) → IsLastChange answer f r last → IsLastChange answer f f.limit last
      run-last last u = record {
        within = omega (arith, u.within, within);
        moved = u.moved;
        still = λ k low high. elim (cases_lt k r) [
          | inl less ↦ u.still k low less
          | inr most ↦ quiet-new k (omega (arith, most, high)) (omega (arith, most))
        ];
      }

      work-from : (n : ℕ) → r < f.limit → work answer f.program.now f.graph.now (new_arcs f) (old_arcs f) (r + n) ≡ work answer f.program.now f.graph.now (new_arcs f) (old_arcs f) r
      work-from zero less = let same : r + zero ≡ r = omega arith in ap (λ k. work answer f.program.now f.graph.now (new_arcs f) (old_arcs f) k) same
      work-from (suc n) less =
          let more : r + suc n ≡ (r + n) + 1 = omega arith in
          let back : ((r + n) - 1) + 1 ≡ r + n = omega (arith, end.later less) in
          ap (λ k. work answer f.program.now f.graph.now (new_arcs f) (old_arcs f) k) more
          ∙ work-by-rounds answer f.program.now f.graph.now (new_arcs f) (old_arcs f) (r + n)
          ∙ omega (
            arith,
            work-from n less,
            count-none (counted_at answer f (r + n)) (count_in f) (λ v low.
                ap (λ k. node_counted answer f.program.now f.graph.now (new_arcs f) (old_arcs f) v k) (sym back)
                ∙ uncounted-by f.first v ((r + n) - 1) (quiet-new ((r + n) - 1) less (omega (arith, end.later less))) (quiet-old ((r + n) - 1) less (omega (arith, end.later less)))),
          )

      pub run-work : work answer f.program.now f.graph.now (new_arcs f) (old_arcs f) r ≡ work answer f.program.now f.graph.now (new_arcs f) (old_arcs f) f.limit
      run-work = elim (cases_lt r f.limit) [
        | inl less ↦ let all : r + (f.limit - r) ≡ f.limit = omega (arith, within) in sym (work-from (f.limit - r) less) ∙ ap (λ k. work answer f.program.now f.graph.now (new_arcs f) (old_arcs f) k) all
        | inr most ↦ let same : r ≡ f.limit = omega (arith, within, most) in ap (λ k. work answer f.program.now f.graph.now (new_arcs f) (old_arcs f) k) same
      ]

      pub run-new : lone_at answer f r ≡ lone_at answer f f.limit
      run-new = elim (cases_lt r f.limit) [
        | inl less ↦ stays answer f.program.now f.graph.now (new_arcs f) (r - 1) r (end.new less) (omega arith) ∙ sym (stays answer f.program.now f.graph.now (new_arcs f) (r - 1) f.limit (end.new less) (omega arith))
        | inr most ↦ let same : r ≡ f.limit = omega (arith, within, most) in ap (λ k. lone_at answer f k) same
      ]

      pub run-old : f.first ≡ false → lone answer f.program.now f.graph.now (arcs_in f.rows.now.by_head f.old.now) r ≡ lone answer f.program.now f.graph.now (arcs_in f.rows.now.by_head f.old.now) f.limit
      run-old one = elim (cases_lt r f.limit) [
        | inl less ↦ stays answer f.program.now f.graph.now (arcs_in f.rows.now.by_head f.old.now) (r - 1) r (end.old less one) (omega arith) ∙ sym (stays answer f.program.now f.graph.now (arcs_in f.rows.now.by_head f.old.now) (r - 1) f.limit (end.old less one) (omega arith))
        | inr most ↦ let same : r ≡ f.limit = omega (arith, within, most) in ap (λ k. lone answer f.program.now f.graph.now (arcs_in f.rows.now.by_head f.old.now) k) same
      ]

-- ---- the outcome

-- given the last round of these with other values than the one before it
module _ (answer : Answer) (p : Program) (graph : GraphData) (arcs : List Arc) (last n : ℕ) (few : last ≤ n) (moved : 0 < last → lone answer p graph arcs last ≢ lone answer p graph arcs (last - 1)) (still : last < n → lone answer p graph arcs (last + 1) ≡ lone answer p graph arcs last) where
  last-changes : (k : ℕ) → k + 1 ≡ last → lone answer p graph arcs (k + 1) ≢ lone answer p graph arcs k
  last-changes k e =
      let place : last - 1 ≡ k = omega (arith, e) in
      subst (λ (m : ℕ). lone answer p graph arcs m ≢ lone answer p graph arcs k) (sym e) (subst (λ (m : ℕ). lone answer p graph arcs last ≢ lone answer p graph arcs m) place (moved (omega (arith, e))))

  outcome-by : (b : Bool) → (last == n) ≡ b → 1 ≤ n → (if b then outcomes.Unsettled else outcomes.Settled last) ≡ (answer_of answer p graph arcs (limits.Within n)).outcome
  outcome-by true e some =
      let all : last ≡ n = eqb-true last n e in
      let back : (n - 1) + 1 ≡ n = omega (arith, some) in
      sym (ap (λ (k : ℕ). (answer_of answer p graph arcs (limits.Within k)).outcome) (sym back) ∙ ap (λ (l : Lone). l.outcome) (unsettled-last answer p graph arcs (n - 1) (last-changes (n - 1) (omega (arith, some, all)))))
  outcome-by false e some =
      let less : last < n = below n last few e in
      sym (ap (λ (l : Lone). l.outcome) (settled-last answer p graph arcs last n less (still less) last-changes)) where
        below : (n m : ℕ) → m ≤ n → (m == n) ≡ false → m < n
        below n m high off = elim (cases_lt m n) [
          | inl less ↦ less
          | inr most ↦ let same : m ≡ n = omega (arith, high, most) in absurd (clash (m == n) off (eq-eqb m n same))
        ]

  pub outcome-is : (rounds : Rounds) → number_of rounds ≡ n → 1 ≤ n → outcome_of last rounds ≡ (answer_of answer p graph arcs rounds).outcome
  outcome-is (limits.For m) e some = refl
  outcome-is (limits.Within m) e some =
      ap (λ (k : ℕ). if last == k then outcomes.Unsettled else outcomes.Settled last) e
      ∙ outcome-by (last == n) refl some
      ∙ ap (λ (k : ℕ). (answer_of answer p graph arcs (limits.Within k)).outcome) (sym e)

-- given a history that ends in a change
module _ (answer : Answer) (p : Program) (graph : GraphData) (arcs : List Arc) (h : History) (n : ℕ) (history : IsHistory answer p graph (Some arcs) n h) (few : length h.changes ≤ n) (last : 0 < length h.changes → get_or h.changes (length h.changes - 1) [] ≢ []) where
  told-moved : 0 < length h.changes → lone answer p graph arcs (length h.changes) ≢ lone answer p graph arcs (length h.changes - 1)
  told-moved some =
      let k = length h.changes - 1 in
      let back : k + 1 ≡ length h.changes = omega (arith, some) in
      subst (λ (m : ℕ). lone answer p graph arcs m ≢ lone answer p graph arcs k) back
      (changed-told (length graph.ids) (lone answer p graph arcs k) (lone answer p graph arcs (k + 1)) (get_or h.changes k []) (history.changes k (omega (arith, some, few))) (last some))

  told-still : length h.changes < n → lone answer p graph arcs (length h.changes + 1) ≡ lone answer p graph arcs (length h.changes)
  told-still less =
      let m = length h.changes in
      same-values (length graph.ids) (lone answer p graph arcs m) (lone answer p graph arcs (m + 1)) (length-lone answer p graph arcs m) (length-lone answer p graph arcs (m + 1))
      (subst (λ (cs : List Change). HasChanges (length graph.ids) (lone answer p graph arcs m) (lone answer p graph arcs (m + 1)) cs) (get_or-eq_default h.changes [] (omega arith)) (history.changes m less))

  pub outcome-told : (rounds : Rounds) → number_of rounds ≡ n → 1 ≤ n → outcome_of (length h.changes) rounds ≡ (answer_of answer p graph arcs rounds).outcome
  outcome-told rounds e some = outcome-is answer p graph arcs (length h.changes) n few told-moved told-still rounds e some
