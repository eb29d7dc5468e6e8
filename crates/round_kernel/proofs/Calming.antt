-- Nodes that are not active are calm, unless they are touched and marked in the view before.
use Rattle.std.proofs.Common.{◌≡◌, ◌∙◌, ◌<◌, zero, suc, sym, ap, refl, ℕ, Bool, true, false, List, Some, None}
use Rattle.std.specs.Prelude.{◌&&◌, ◌||◌}
use Rattle.graph_model.specs.GraphData.{GraphData}
use Rattle.vertex_lang.specs.declared.arc.Arc.{Arc}
use Rattle.vertex_lang.specs.declared.program.Program.{Program}
use Rattle.vertex_lang.specs.Expressions.{Answer}
use Rattle.lone_work.specs.Work.{node_active, node_touched, node_marked, touched_before}
use Rattle.lone_work.specs.WorkLaws.{first-touched}
use Rattle.lone_work.specs.StepLaws.{counted-is, touched-is}
use Rattle.round_kernel.specs.declared.frame.Frame.{Frame}
use Rattle.round_kernel.specs.declared.frame.Lists.{Lists}
use Rattle.arc_rows.specs.Views.{arcs_in}
use Rattle.waiting_nodes.specs.Queues.{waits}
use Rattle.round_kernel.specs.Rounds.{old_view, was_touched}
use Rattle.round_kernel.specs.Frames.{AreCalm, touched_at, counted_at, was_touched_at, marked_before, count_in, new_arcs, old_arcs}
use Rattle.arc_rows.specs.ListLaws.{clash}

or-nothing : (b : Bool) → (b || false) ≡ b
or-nothing true = refl
or-nothing false = refl

-- no view has no marks
pub none-marked : (answer : Answer) (p : Program) (graph : GraphData) (v r : ℕ) → node_marked answer p graph None v r ≡ false
unfolding node_marked
none-marked answer p graph v zero = refl
none-marked answer p graph v (suc r) = refl

module _ (answer : Answer) (p : Program) (graph : GraphData) (all : List Arc) (old new : List Bool) (v r : ℕ) where
  pub touched-calm : (first : Bool) → node_active answer p graph (arcs_in all new) (old_view first all old) v r ≡ false
      → node_touched answer p graph (arcs_in all new) (old_view first all old) v r ≡ was_touched answer p graph all first old new r v
  touched-calm true e = first-touched answer p graph (arcs_in all new) v r
  touched-calm false e = touched-is answer p graph (arcs_in all new) (Some (arcs_in all old)) v r ∙ ap (λ (b : Bool). touched_before answer p graph (arcs_in all new) (Some (arcs_in all old)) v r || b) e ∙ or-nothing (touched_before answer p graph (arcs_in all new) (Some (arcs_in all old)) v r)

counted-calm : (t w a m c : Bool) → c ≡ (t && (a || m)) → t ≡ w → a ≡ false → (m ≡ true → w ≡ true → ⊥) → c ≡ false
counted-calm t w true m c e f g h = absurd cc
counted-calm true true false true c e f g h = absurd (h refl refl)
counted-calm true true false false c e f g h = e
counted-calm true false false m c e f g h = absurd cc
counted-calm false w false m c e f g h = e

-- calm still, where the same nodes wait
pub calm-same : (answer : Answer) (f : Frame) (r : ℕ) (old new : Lists) → ((v : ℕ) → waits new.queue v ≡ waits old.queue v) → AreCalm answer f r old → AreCalm answer f r new
calm-same answer f r old new same calm = record {
  touched = λ v low idle. calm.touched v low (sym (same v) ∙ idle);
  counted = λ v low idle. calm.counted v low (sym (same v) ∙ idle);
}

module _ (answer : Answer) (f : Frame) (r : ℕ) (lists : Lists) where
  pub calm-by : ((v : ℕ) → v < count_in f → waits lists.queue v ≡ false → node_active answer f.program.now f.graph.now (new_arcs f) (old_arcs f) v r ≡ false)
      → ((v : ℕ) → v < count_in f → waits lists.queue v ≡ false → marked_before answer f r v ≡ true → was_touched_at answer f r v ≡ true → ⊥) → AreCalm answer f r lists
  calm-by active marks = record {
    touched = λ v low idle. touched-calm answer f.program.now f.graph.now f.rows.now.by_head f.old.now f.new.now v r f.first (active v low idle);
    counted = λ v low idle. counted-calm (touched_at answer f r v) (was_touched_at answer f r v) (node_active answer f.program.now f.graph.now (new_arcs f) (old_arcs f) v r) (marked_before answer f r v) (counted_at answer f r v)
        (counted-is answer f.program.now f.graph.now (new_arcs f) (old_arcs f) v r)
        (touched-calm answer f.program.now f.graph.now f.rows.now.by_head f.old.now f.new.now v r f.first (active v low idle)) (active v low idle) (marks v low idle);
  }

  pub calm-all : ((v : ℕ) → v < count_in f → waits lists.queue v ≡ true) → AreCalm answer f r lists
  calm-all h = record {
    touched = λ v low idle. absurd (clash (waits lists.queue v) idle (h v low));
    counted = λ v low idle. absurd (clash (waits lists.queue v) idle (h v low));
  }
