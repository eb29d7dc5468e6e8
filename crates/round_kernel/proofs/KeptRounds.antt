-- What is kept of the messages of nodes, from round to round and while nodes are visited.
use Rattle.std.proofs.Common.{◌≡◌, ◌∙◌, ◌<◌, ◌+◌, ◌-◌, zero, suc, sym, ap, subst, refl, ℕ, Bool, true, false, List, Some, length, get_or, set, arith, inl, inr}
use Rattle.std.specs.Prelude.{◌&&◌, not}
use Rattle.std.proofs.lemmas.Bool.{cases_eq}
use Rattle.std.proofs.lemmas.Grind.{get_or-set_at}
use Rattle.std.proofs.lemmas.List.{get_or-set_other}
use Rattle.graph_model.specs.GraphData.{GraphData}
use Rattle.vertex_lang.specs.declared.arc.Arc.{Arc}
use Rattle.vertex_lang.specs.declared.program.Program.{Program}
use Rattle.vertex_lang.specs.Expressions.{Answer}
use Rattle.vertex_lang.specs.Rounds.{value_at, lone}
use Rattle.vertex_lang.specs.Lone.{same_value}
use Rattle.multisets.specs.Multisets.{are_one}
use Rattle.lone_work.specs.Inputs.{got_values}
use Rattle.lone_work.specs.Work.{node_marked}
use Rattle.lone_work.specs.WorkLaws.{marked-at-first}
use Rattle.lone_work.specs.SplitLaws.{mark-splits}
use Rattle.waiting_nodes.specs.declared.queue.Queue.{Queue}
use Rattle.round_kernel.specs.declared.frame.Frame.{Frame}
use Rattle.round_kernel.specs.declared.frame.Lists.{Lists}
use Rattle.value_codes.specs.declared.tally.Kept.{Kept}
use Rattle.waiting_nodes.specs.Queues.{waits}
use Rattle.value_codes.specs.Tallies.{kept_of, no_tally}
use Rattle.round_kernel.specs.Rounds.{kept_at}
use Rattle.round_kernel.specs.Frames.{AreCalm, AreKept, kept_in, touched_at, was_touched_at, count_in, new_arcs, old_arcs}
use Rattle.round_kernel.proofs.Kept.{kept-one}
use Rattle.round_kernel.proofs.Visits.{unmarked-uncounted}
use Rattle.arc_rows.specs.ListLaws.{clash}
use Rattle.round_kernel.proofs.Rounding.{touched-on}

-- ---- a node without a mark has the same messages as before

module _ (answer : Answer) (p : Program) (graph : GraphData) (arcs : List Arc) (v : ℕ) where
  not-both : (a b : Bool) → not (a && b) ≡ false → b ≡ true
  not-both true true e = refl
  not-both true false e = absurd cc
  not-both false b e = absurd cc

  kept-suc : (k : ℕ) → node_marked answer p graph (Some arcs) v (suc k) ≡ false → kept_at answer p graph arcs (suc k) v ≡ kept_at answer p graph arcs k v
  kept-suc k e =
      let ms = got_values answer p graph arcs v (suc k) in
      let ns = got_values answer p graph arcs v k in
      kept-one p.gather ms ns
      (not-both (same_value (value_at (lone answer p graph arcs (suc k)) v) (value_at (lone answer p graph arcs k) v)) (are_one same_value ms ns) (sym (mark-splits answer p graph arcs v k) ∙ e))

  -- in round 0 each node has a mark
  pub kept-unmarked : (r : ℕ) → node_marked answer p graph (Some arcs) v r ≡ false → (0 < r) × (kept_at answer p graph arcs r v ≡ kept_at answer p graph arcs (r - 1) v)
  kept-unmarked zero e = absurd (clash (node_marked answer p graph (Some arcs) v zero) e (marked-at-first answer p graph arcs v))
  kept-unmarked (suc k) e =
      let back : k ≡ suc k - 1 = omega arith in
      (omega arith, kept-suc k e ∙ ap (λ n. kept_at answer p graph arcs n v) back)

-- ---- while nodes are visited

module _ (answer : Answer) (f : Frame) (r : ℕ) where
  -- of a node that waits it's still that of the round before
  pub record IsKeeping (q : Queue) (kept : List Kept) : Type 0 where
    pub size : length kept ≡ count_in f
    pub before : (v : ℕ) → v < count_in f → waits q v ≡ true → 0 < r → was_touched_at answer f r v ≡ true → get_or kept v (kept_of no_tally) ≡ kept_in answer f (r - 1) v
    pub now : (v : ℕ) → v < count_in f → waits q v ≡ false → touched_at answer f r v ≡ true → get_or kept v (kept_of no_tally) ≡ kept_in answer f r v

  pub keeping-start : (lists : Lists) (kept : List Kept) → length kept ≡ count_in f → AreCalm answer f r lists → (0 < r → AreKept answer f (r - 1) (was_touched_at answer f r) kept) → IsKeeping lists.queue kept
  keeping-start lists kept size calm had = record {
    size = size;
    before = λ v low waiting later was. had later v low was;
    now = λ v low idle touched.
        let stays = kept-unmarked answer f.program.now f.graph.now (new_arcs f) v r (unmarked-uncounted answer f.program.now f.graph.now (new_arcs f) (old_arcs f) v r touched (calm.counted v low idle)) in
        had stays.0 v low (sym (calm.touched v low idle) ∙ touched) ∙ sym stays.1;
  }

  -- one node that waited is visited
  pub keeping-next : (q0 q1 : Queue) (kept0 kept1 : List Kept) (n : ℕ) → n < count_in f → length q0.waits.items ≡ count_in f → q1.waits.items ≡ set q0.waits.items n false → length kept1 ≡ count_in f
      → (touched_at answer f r n ≡ true → get_or kept1 n (kept_of no_tally) ≡ kept_in answer f r n)
      → ((v : ℕ) → (v ≡ n → ⊥) → get_or kept1 v (kept_of no_tally) ≡ get_or kept0 v (kept_of no_tally))
      → IsKeeping q0 kept0 → IsKeeping q1 kept1
  keeping-next q0 q1 kept0 kept1 n low size0 ew size here there u = record {
    size = size;
    before = λ v within waiting later was. elim (cases_eq v n) [
      | inl same ↦ absurd (clash (waits q1 v) (ap (λ k. waits q1 k) same ∙ done) waiting)
      | inr other ↦ there v other ∙ u.before v within (sym (others v other) ∙ waiting) later was
    ];
    now = λ v within idle touched. elim (cases_eq v n) [
      | inl same ↦ subst (λ k. get_or kept1 k (kept_of no_tally) ≡ kept_in answer f r k) (sym same) (here (ap (λ k. touched_at answer f r k) (sym same) ∙ touched))
      | inr other ↦ there v other ∙ u.now v within (sym (others v other) ∙ idle) touched
    ];
  } where
    done : waits q1 n ≡ false
    done = ap (λ (bs : List Bool). get_or bs n false) ew ∙ get_or-set_at q0.waits.items n n false false refl (omega (arith, low, size0))

    others : (v : ℕ) → (v ≡ n → ⊥) → waits q1 v ≡ waits q0 v
    others v other = ap (λ (bs : List Bool). get_or bs v false) ew ∙ get_or-set_other q0.waits.items n v false false other

  -- when none waits, it's that of all touched nodes
  pub keeping-end : (q : Queue) (kept : List Kept) → ((v : ℕ) → waits q v ≡ false) → IsKeeping q kept → AreKept answer f r (touched_at answer f r) kept
  keeping-end q kept none u = λ v low touched. u.now v low (none v) touched

  -- they are the nodes that are touched before the next round
  pub kept-on : (kept : List Kept) → AreKept answer f r (touched_at answer f r) kept → AreKept answer f r (was_touched_at answer f (r + 1)) kept
  kept-on kept h = λ v low was. h v low (touched-on answer f r v ∙ was)

  -- as it's asked for there
  pub kept-next : (kept again : List Kept) → again ≡ kept → AreKept answer f r (was_touched_at answer f (r + 1)) kept → AreKept answer f (r + 1 - 1) (was_touched_at answer f (r + 1)) again
  kept-next kept again e h =
      let back : r ≡ r + 1 - 1 = omega arith in
      λ v low was. ap (λ (ks : List Kept). get_or ks v (kept_of no_tally)) e ∙ h v low was ∙ ap (λ k. kept_in answer f k v) back
