-- The marks and changes of the view before, as the history has them.
use Rattle.std.proofs.Common.{◌≡◌, ◌∙◌, ◌<◌, ◌+◌, ◌-◌, [], sym, ap, subst, refl, ℕ, Bool, true, false, List, get_or, arith}
use Rattle.graph_model.specs.declared.number.NodeNo.{NodeNo}
use Rattle.graph_model.specs.declared.value.Val.{Val}
use Rattle.vertex_lang.specs.Expressions.{Answer}
use Rattle.lone_work.specs.Work.{node_marked, lone_in}
use Rattle.change_lists.specs.declared.history.Change.{Change}
use Rattle.round_kernel.specs.declared.frame.Frame.{Frame}
use Rattle.change_lists.specs.ChangeLists.{HasNodes, HasChanges}
use Rattle.round_kernel.specs.Rounds.{old_view}
use Rattle.round_kernel.specs.Frames.{IsFrame, count_in, marked_before, old_arcs, old_lone_at}
use Rattle.arc_rows.specs.ListLaws.{clash}

module _ (answer : Answer) (f : Frame) (r : ℕ) (frame : IsFrame answer f f.limit) (below : r < f.limit) where
  pub marks-before : 0 < r → (ns : List NodeNo) → ns ≡ get_or f.history.now.marks (r - 1) [] → HasNodes (count_in f) (marked_before answer f r) ns
  marks-before later ns e =
      let back : (r - 1) + 1 ≡ r = omega (arith, later) in
      let had = frame.history.marks (r - 1) (omega (arith, later, below)) in
      subst (λ (xs : List NodeNo). HasNodes (count_in f) (marked_before answer f r) xs) (sym e)
      (record { within = had.within; listed = λ v low. had.listed v low ∙ ap (λ k. node_marked answer f.program.now f.graph.now (old_arcs f) v k) back })

  pub changes-now : (cs : List Change) → cs ≡ get_or f.history.now.changes r [] → HasChanges (count_in f) (lone_in answer f.program.now f.graph.now (old_arcs f) r) (lone_in answer f.program.now f.graph.now (old_arcs f) (r + 1)) cs
  changes-now cs e = subst (λ (xs : List Change). HasChanges (count_in f) (lone_in answer f.program.now f.graph.now (old_arcs f) r) (lone_in answer f.program.now f.graph.now (old_arcs f) (r + 1)) xs) (sym e) (frame.history.changes r below)

-- the same changes, of lists that are equal
pub moved : (n m : ℕ) (b b' a a' : List Val) (cs cs' : List Change) → n ≡ m → b ≡ b' → a ≡ a' → cs ≡ cs' → HasChanges m b' a' cs' → HasChanges n b a cs
moved n m b b' a a' cs cs' en eb ea ec h =
    subst (λ (k : ℕ). HasChanges k b a cs) (sym en) (subst (λ (xs : List Val). HasChanges m xs a cs) (sym eb) (subst (λ (xs : List Val). HasChanges m b' xs cs) (sym ea) (subst (λ (xs : List Change). HasChanges m b' a' xs) (sym ec) h)))

module _ (answer : Answer) (f : Frame) (frame : IsFrame answer f f.limit) where
  plain : (first : Bool) (k : ℕ) (cs : List Change) → first ≡ false
      → HasChanges (count_in f) (lone_in answer f.program.now f.graph.now (old_view first f.rows.now.by_head f.old.now) k) (lone_in answer f.program.now f.graph.now (old_view first f.rows.now.by_head f.old.now) (k + 1)) cs
      → HasChanges (count_in f) (old_lone_at answer f k) (old_lone_at answer f (k + 1)) cs
  plain true k cs e h = absurd (clash true e refl)
  plain false k cs e h = h

  -- what changes in the view before, where there is one
  pub old-step : (k n : ℕ) (before after : List Val) (cs : List Change) → k < f.limit → f.first ≡ false → n ≡ count_in f → before ≡ old_lone_at answer f k → after ≡ old_lone_at answer f (k + 1) → cs ≡ get_or f.history.now.changes k [] → HasChanges n before after cs
  old-step k n before after cs low one en eb ea ec =
      moved n (count_in f) before (old_lone_at answer f k) after (old_lone_at answer f (k + 1)) cs (get_or f.history.now.changes k []) en eb ea ec
      (plain f.first k (get_or f.history.now.changes k []) one (frame.history.changes k low))
