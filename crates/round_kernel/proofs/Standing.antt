-- Lists that stand at a round, while nodes are taken from the queue and visited.
use Rattle.std.proofs.Common.{Vec, Global, ◌≡◌, ◌∙◌, ◌<◌, sym, ap, subst, ℕ, Bool, true, false, List, length, get_or, set, arith, inl, inr}
use Rattle.std.proofs.lemmas.Bool.{cases_eq}
use Rattle.std.proofs.lemmas.Grind.{get_or-set_at}
use Rattle.std.proofs.lemmas.List.{get_or-set_other, length-set}
use Rattle.std.proofs.lemmas.List.FromFn.{get_or-map-range_with_len, length-map-range_with_len}
use Rattle.graph_model.specs.declared.value.Val.{Val}
use Rattle.graph_model.specs.declared.value.Val.TheVariants.{Nil}
use Rattle.vertex_lang.specs.Expressions.{Answer, start_of}
use Rattle.vertex_lang.specs.Rounds.{value_at}
use Rattle.round_kernel.specs.declared.frame.Frame.{Frame}
use Rattle.round_kernel.specs.declared.frame.Lists.{Lists}
use Rattle.waiting_nodes.specs.declared.queue.Queue.{Queue}
use Rattle.graph_model.specs.GraphData.{GraphData}
use Rattle.vertex_lang.specs.declared.arc.Arc.{Arc}
use Rattle.vertex_lang.specs.declared.program.Program.{Program}
use Rattle.round_inputs.specs.Inputs.{IsRound}
use Rattle.waiting_nodes.specs.Queues.{IsQueue, waits}
use Rattle.round_kernel.specs.Frames.{StandAt, IsPlace, IsKept, AreShown, count_in, marked_before, was_touched_at}

-- a round, as slices of the lists
pub round-at : (answer : Answer) (p : Program) (graph : GraphData) (all : List Arc) (edges : List Bool) (degrees ds : List ℕ) (values vs : List Val) (r : ℕ) → ds ≡ degrees → vs ≡ values → IsRound answer p graph all edges degrees values r → IsRound answer p graph all edges ds vs r
round-at answer p graph all edges degrees ds values vs r ed ev h = subst (λ (xs : List ℕ). IsRound answer p graph all edges xs vs r) (sym ed) (subst (λ (xs : List Val). IsRound answer p graph all edges degrees xs r) (sym ev) h)

module _ (answer : Answer) (f : Frame) (r : ℕ) where
  -- the queue alone changes
  pub at-queue : (touched : ℕ → Bool) (lists : Lists) (q : Queue) → StandAt answer f r touched lists → IsQueue (count_in f) q → StandAt answer f r touched (record lists { queue = q })
  at-queue touched lists q u h = record {
    starts = u.starts;
    new_now = u.new_now;
    new_before = u.new_before;
    old_now = u.old_now;
    old_sized = u.old_sized;
    parted_size = u.parted_size;
    parted_are = u.parted_are;
    touched_size = u.touched_size;
    touched_are = u.touched_are;
    marked_size = u.marked_size;
    watched_size = u.watched_size;
    watched_are = u.watched_are;
    turned_are = u.turned_are;
    keeps = u.keeps;
    new_sent = u.new_sent;
    queue = h;
  }

  -- what is told of touched nodes is told otherwise
  pub at-touched : (touched again : ℕ → Bool) (lists : Lists) → ((v : ℕ) → v < count_in f → touched v ≡ again v) → StandAt answer f r touched lists → StandAt answer f r again lists
  at-touched touched again lists same u = record {
    starts = u.starts;
    new_now = u.new_now;
    new_before = u.new_before;
    old_now = u.old_now;
    old_sized = u.old_sized;
    parted_size = u.parted_size;
    parted_are = u.parted_are;
    touched_size = u.touched_size;
    touched_are = λ v low. u.touched_are v low ∙ same v low;
    marked_size = u.marked_size;
    watched_size = u.watched_size;
    watched_are = u.watched_are;
    turned_are = u.turned_are;
    keeps = u.keeps;
    new_sent = u.new_sent;
    queue = u.queue;
  }

  -- one node is visited
  pub at-visited : (touched again : ℕ → Bool) (old new : Lists) (n : ℕ) (b : Bool) → IsKept old new → new.touched.items ≡ set old.touched.items n b → n < count_in f → again n ≡ b → ((v : ℕ) → (v ≡ n → ⊥) → again v ≡ touched v)
      → StandAt answer f r touched old → StandAt answer f r again new
  at-visited touched again old new n b kept et low here there u = subst (λ (l : Lists). StandAt answer f r again l) (sym kept) (record {
    starts = u.starts;
    new_now = u.new_now;
    new_before = u.new_before;
    old_now = u.old_now;
    old_sized = u.old_sized;
    parted_size = u.parted_size;
    parted_are = u.parted_are;
    touched_size = ap (λ (bs : List Bool). length bs) et ∙ length-set old.touched.items n b ∙ u.touched_size;
    touched_are = λ v within. ap (λ (bs : List Bool). get_or bs v false) et ∙ (elim (cases_eq v n) [
      | inl same ↦ get_or-set_at old.touched.items n v b false same (omega (arith, u.touched_size)) ∙ sym here ∙ ap again (sym same)
      | inr other ↦ get_or-set_other old.touched.items n v b false other ∙ u.touched_are v within ∙ sym (there v other)
    ]);
    marked_size = u.marked_size;
    watched_size = u.watched_size;
    watched_are = u.watched_are;
    turned_are = u.turned_are;
    keeps = u.keeps;
    new_sent = u.new_sent;
    queue = u.queue;
  })

  -- a node that isn't visited yet
  pub place-of : (touched : ℕ → Bool) (lists : Lists) (v : ℕ) → v < count_in f → touched v ≡ was_touched_at answer f r v → StandAt answer f r touched lists → (0 < r → get_or lists.marked.items v false ≡ marked_before answer f r v) → IsPlace answer f r v lists
  place-of touched lists v low was u marked = record {
    start = ap (λ (vs : List Val). value_at vs v) u.starts ∙ get_or-map-range_with_len (start_of f.program.now f.graph.now) 0 (count_in f) v v Nil low (omega arith);
    starts_size = ap (λ (vs : List Val). length vs) u.starts ∙ length-map-range_with_len (start_of f.program.now f.graph.now) 0 (count_in f);
    new_now = u.new_now;
    new_before = u.new_before;
    old_now = u.old_now;
    new_sent = u.new_sent;
    touched_size = u.touched_size;
    touched = u.touched_are v low ∙ was;
    marked_size = u.marked_size;
    marked = marked;
  }

  -- those that wait still are shown to be marked, where no more wait
  pub shown-still : (old new : Lists) → new.marked ≡ old.marked → ((v : ℕ) → waits new.queue v ≡ true → waits old.queue v ≡ true) → AreShown answer f r old → AreShown answer f r new
  shown-still old new e fewer h = record { shown = λ v low later waiting. ap (λ (m : List Bool). get_or m v false) (ap (λ (w : Vec Bool Global). w.items) e) ∙ h.shown v low later (fewer v waiting) }
