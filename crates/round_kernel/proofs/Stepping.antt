-- Visits one after the other: what is true of the nodes that don't wait.
use Rattle.std.proofs.Common.{◌≡◌, ◌∙◌, ◌<◌, ◌+◌, ◌++◌, [], sym, ap, subst, refl, ℕ, Bool, true, false, List, length, get_or, set, arith}
use Rattle.std.specs.Prelude.{All, ◌&&◌, ◌||◌, ◌==◌, not, if◌then◌else◌}
use Rattle.std.specs.List.{count_by}
use Rattle.std.proofs.lemmas.Grind.{get_or-set_at}
use Rattle.std.proofs.lemmas.List.{get_or-set_other}
use Rattle.graph_model.specs.declared.number.NodeNo.{NodeNo}
use Rattle.vertex_lang.specs.Expressions.{Answer}
use Rattle.vertex_lang.specs.Rounds.{value_at, nodes_of}
use Rattle.change_lists.specs.declared.history.Change.{Change}
use Rattle.waiting_nodes.specs.declared.queue.Queue.{Queue}
use Rattle.round_kernel.specs.declared.frame.Frame.{Frame}
use Rattle.round_kernel.specs.declared.frame.Lists.{Lists}
use Rattle.round_kernel.specs.declared.made.Made.{Made}
use Rattle.change_lists.specs.ChangeLists.{HasNodes, is_listed, is_changed, mark_if, change_if}
use Rattle.waiting_nodes.specs.Queues.{waits, IsQueue}
use Rattle.round_kernel.specs.Frames.{StandAt, AreCalm, HasSome, IsKept, touched_at, counted_at, marked_at, was_touched_at, lone_at, count_in, changes_at, new_arcs, old_arcs}
use Rattle.round_kernel.proofs.Visits.{unmarked-uncounted, stays-unchanged}
use Rattle.round_kernel.proofs.Visiting.{done, done-visited, listed-if, changed-if, within-if, all-if, count-none, count-same, count-at}
use Rattle.round_kernel.proofs.Standing.{at-queue, at-touched, at-visited}

module _ (answer : Answer) (f : Frame) (r : ℕ) where
  -- a node is touched as before its visit while it waits
  abbrev pub meanwhile : Queue → ℕ → Bool
  meanwhile q v = if waits q v then was_touched_at answer f r v else touched_at answer f r v

  abbrev pub both_at : ℕ → Bool
  both_at v = touched_at answer f r v && marked_at answer f r v

  -- some marks were copied before
  pub record IsVisiting (copied : List NodeNo) (q : Queue) (lists : Lists) (made : Made) (work : ℕ) : Type 0 where
    pub at : StandAt answer f r (meanwhile q) lists
    pub marks : HasNodes (count_in f) (λ v. is_listed v copied || done (waits q) both_at v) made.marks
    pub within : All (λ c. c.node.0 < count_in f) made.changes
    pub values : All (λ c. c.value ≡ value_at (lone_at answer f (r + 1)) c.node.0) made.changes
    pub listed : (v : ℕ) → v < count_in f → is_changed v made.changes ≡ done (waits q) (λ u. touched_at answer f r u && changes_at answer f r u) v
    pub counted : work ≡ count_by (done (waits q) (counted_at answer f r)) (nodes_of f.graph.now)

  pub waiting-was : (q : Queue) (v : ℕ) → waits q v ≡ true → meanwhile q v ≡ was_touched_at answer f r v
  waiting-was q v e = ap (λ (b : Bool). if b then was_touched_at answer f r v else touched_at answer f r v) e

  and-right : (a b : Bool) → (a ≡ true → b ≡ false) → (a && b) ≡ false
  and-right true b h = h refl
  and-right false b h = refl

  -- a calm node has no mark of its own, and doesn't change where it's touched
  calm-mark : (v : ℕ) → counted_at answer f r v ≡ false → both_at v ≡ false
  calm-mark v c = and-right (touched_at answer f r v) (marked_at answer f r v) (λ t. unmarked-uncounted answer f.program.now f.graph.now (new_arcs f) (old_arcs f) v r t c)

  calm-change : (v : ℕ) → v < count_in f → counted_at answer f r v ≡ false → (touched_at answer f r v && changes_at answer f r v) ≡ false
  calm-change v low c = and-right (touched_at answer f r v) (changes_at answer f r v) (λ t. stays-unchanged answer f.program.now f.graph.now (new_arcs f) (old_arcs f) v r low t c)

  done-none : (q : Queue) (test : ℕ → Bool) (v : ℕ) → (waits q v ≡ false → test v ≡ false) → done (waits q) test v ≡ false
  done-none q test v h = and-right (not (waits q v)) (test v) (λ e. h (not-true (waits q v) e)) where
    not-true : (b : Bool) → not b ≡ true → b ≡ false
    not-true true e = absurd cc
    not-true false e = refl

  pub visiting-start : (lists : Lists) (made : Made) → StandAt answer f r (was_touched_at answer f r) lists → AreCalm answer f r lists → All (λ n. n.0 < count_in f) made.marks → made.changes ≡ [] → IsVisiting made.marks lists.queue lists made 0
  visiting-start lists made u calm em ec = record {
    at = at-touched answer f r (was_touched_at answer f r) (meanwhile lists.queue) lists (λ v low. same v low (waits lists.queue v) refl) u;
    marks = record {
      within = em;
      listed = λ v low. sym (ap (λ (b : Bool). is_listed v made.marks || b) (done-none lists.queue both_at v (λ e. calm-mark v (calm.counted v low e))) ∙ or-none (is_listed v made.marks));
    };
    within = subst (λ (cs : List Change). All (λ c. c.node.0 < count_in f) cs) (sym ec) (λ i d low. absurd (omega arith));
    values = subst (λ (cs : List Change). All (λ c. c.value ≡ value_at (lone_at answer f (r + 1)) c.node.0) cs) (sym ec) (λ i d low. absurd (omega arith));
    listed = λ v low. ap (λ (cs : List Change). is_changed v cs) ec ∙ sym (done-none lists.queue (λ u. touched_at answer f r u && changes_at answer f r u) v (λ e. calm-change v low (calm.counted v low e)));
    counted = sym (count-none (done (waits lists.queue) (counted_at answer f r)) (count_in f) (λ v low. done-none lists.queue (counted_at answer f r) v (λ e. calm.counted v low e)));
  } where
    or-none : (b : Bool) → (b || false) ≡ b
    or-none true = refl
    or-none false = refl

    same : (v : ℕ) → v < count_in f → (b : Bool) → waits lists.queue v ≡ b → was_touched_at answer f r v ≡ meanwhile lists.queue v
    same v low true e = rw e refl
    same v low false e = rw e (sym (calm.touched v low e))

  -- one node that waited is visited
  pub visiting-next : (copied : List NodeNo) (q0 q1 : Queue) (lists0 lists2 : Lists) (made0 made2 : Made) (work0 n : ℕ) (node : NodeNo)
      → lists0.queue ≡ q0 → node.0 < count_in f → waits q0 node.0 ≡ true → q1.waits.items ≡ set q0.waits.items node.0 false → IsQueue (count_in f) q1
      → IsKept (record lists0 { queue = q1 }) lists2 → lists2.touched.items ≡ set lists0.touched.items node.0 (touched_at answer f r node.0)
      → n ≡ (if counted_at answer f r node.0 then 1 else 0)
      → made2.marks ≡ made0.marks ++ mark_if (both_at node.0) node
      → made2.changes ≡ made0.changes ++ change_if (touched_at answer f r node.0 && changes_at answer f r node.0) node (value_at (lone_at answer f (r + 1)) node.0)
      → IsVisiting copied q0 lists0 made0 work0 → IsVisiting copied q1 lists2 made2 (work0 + n)
  visiting-next copied q0 q1 lists0 lists2 made0 made2 work0 n node eq0 low was ew queue1 kept et en em ec u = record {
    at = at-visited answer f r (meanwhile q0) (meanwhile q1) (record lists0 { queue = q1 }) lists2 node.0 (touched_at answer f r node.0) kept et low
        (ap (λ (b : Bool). if b then was_touched_at answer f r node.0 else touched_at answer f r node.0) now)
        (λ v other. ap (λ (b : Bool). if b then was_touched_at answer f r v else touched_at answer f r v) (others v other))
        (at-queue answer f r (meanwhile q0) lists0 q1 u.at queue1);
    marks = record {
      within = subst (λ (ns : List NodeNo). All (λ m. m.0 < count_in f) ns) (sym em) (within-if (count_in f) made0.marks (both_at node.0) node low u.marks.within);
      listed = λ v within. ap (λ (ns : List NodeNo). is_listed v ns) em ∙ listed-if v made0.marks (both_at node.0) node ∙ ap (λ (b : Bool). b || (both_at node.0 && (node.0 == v))) (u.marks.listed v within)
          ∙ or-joined (is_listed v copied) (done (waits q0) both_at v) (both_at node.0 && (node.0 == v)) ∙ ap (λ (b : Bool). is_listed v copied || b) (done-visited (waits q0) (waits q1) both_at node.0 v (done (waits q0) both_at v) was now others refl);
    };
    within = subst (λ (cs : List Change). All (λ c. c.node.0 < count_in f) cs) (sym ec) (all-if (λ c. c.node.0 < count_in f) made0.changes (touched_at answer f r node.0 && changes_at answer f r node.0) node (value_at (lone_at answer f (r + 1)) node.0) low u.within);
    values = subst (λ (cs : List Change). All (λ c. c.value ≡ value_at (lone_at answer f (r + 1)) c.node.0) cs) (sym ec) (all-if (λ c. c.value ≡ value_at (lone_at answer f (r + 1)) c.node.0) made0.changes (touched_at answer f r node.0 && changes_at answer f r node.0) node (value_at (lone_at answer f (r + 1)) node.0) refl u.values);
    listed = λ v within. ap (λ (cs : List Change). is_changed v cs) ec ∙ changed-if v made0.changes (touched_at answer f r node.0 && changes_at answer f r node.0) node (value_at (lone_at answer f (r + 1)) node.0)
        ∙ done-visited (waits q0) (waits q1) (λ u. touched_at answer f r u && changes_at answer f r u) node.0 v (is_changed v made0.changes) was now others (u.listed v within);
    counted = omega (arith, u.counted, en, visited-once);
  } where
    or-joined : (a b c : Bool) → ((a || b) || c) ≡ (a || (b || c))
    or-joined true b c = refl
    or-joined false b c = refl

    size0 : node.0 < length q0.waits.items
    size0 = omega (arith, low, ap (λ (q : Queue). length q.waits.items) eq0, u.at.queue.size)

    now : waits q1 node.0 ≡ false
    now = ap (λ (bs : List Bool). get_or bs node.0 false) ew ∙ get_or-set_at q0.waits.items node.0 node.0 false false refl size0

    others : (v : ℕ) → (v ≡ node.0 → ⊥) → waits q1 v ≡ waits q0 v
    others v other = ap (λ (bs : List Bool). get_or bs v false) ew ∙ get_or-set_other q0.waits.items node.0 v false false other

    visited-once : count_by (done (waits q1) (counted_at answer f r)) (nodes_of f.graph.now) ≡ count_by (done (waits q0) (counted_at answer f r)) (nodes_of f.graph.now) + (if counted_at answer f r node.0 then 1 else 0)
    visited-once =
        count-at (done (waits q0) (counted_at answer f r)) (done (waits q1) (counted_at answer f r)) (count_in f) node.0 low
        (λ v within other. ap (λ (b : Bool). not b && counted_at answer f r v) (sym (others v other)))
        (ap (λ (b : Bool). not b && counted_at answer f r node.0) was)
        ∙ ap (λ (b : Bool). count_by (done (waits q0) (counted_at answer f r)) (nodes_of f.graph.now) + (if (not b && counted_at answer f r node.0) then 1 else 0)) now

  -- when none waits, all is done
  done-all : (q : Queue) (test : ℕ → Bool) (v : ℕ) → waits q v ≡ false → done (waits q) test v ≡ test v
  done-all q test v e = ap (λ (b : Bool). not b && test v) e

  pub visiting-end : (copied : List NodeNo) (q : Queue) (lists : Lists) (made : Made) (work : ℕ) → ((v : ℕ) → waits q v ≡ false) → IsVisiting copied q lists made work
      → (StandAt answer f r (touched_at answer f r) lists) × (HasNodes (count_in f) (λ v. is_listed v copied || both_at v) made.marks) × (HasSome answer f r (touched_at answer f r) made.changes) × (work ≡ count_by (counted_at answer f r) (nodes_of f.graph.now))
  visiting-end copied q lists made work none u = (
    at-touched answer f r (meanwhile q) (touched_at answer f r) lists (λ v low. ap (λ (b : Bool). if b then was_touched_at answer f r v else touched_at answer f r v) (none v)) u.at,
    record { within = u.marks.within; listed = λ v low. u.marks.listed v low ∙ ap (λ (b : Bool). is_listed v copied || b) (done-all q both_at v (none v)) },
    record { within = u.within; values = u.values; listed = λ v low. u.listed v low ∙ done-all q (λ u. touched_at answer f r u && changes_at answer f r u) v (none v) },
    u.counted ∙ count-same (done (waits q) (counted_at answer f r)) (counted_at answer f r) (count_in f) (λ v low. done-all q (counted_at answer f r) v (none v)),
  )
