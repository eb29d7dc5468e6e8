-- What a step is given: a first view, or one behind another; and the lists at round 0.
use Rattle.std.proofs.Common.{◌≡◌, ◌∙◌, ◌<◌, ◌^◌, ◌+◌, ◌∷◌, [], sym, ap, subst, refl, ℕ, Bool, true, false, List, None, length, get_or, map, arith, inl, inr}
use Rattle.std.specs.Prelude.{All, Contains, IfSome, replicate}
use Rattle.std.proofs.lemmas.List.{get_or-replicate}
use Rattle.std.proofs.lemmas.List.Concat.{flat_map-cons}
use Rattle.std.proofs.lemmas.List.Elements.{All-nil, All-contains, Contains-append_left, Contains-append_right}
use Rattle.graph_model.specs.declared.value.Val.{Val}
use Rattle.graph_model.specs.declared.number.NodeNo.{NodeNo}
use Rattle.graph_model.specs.declared.number.EdgeNo.{EdgeNo}
use Rattle.graph_model.specs.GraphData.{GraphData}
use Rattle.vertex_lang.specs.declared.arc.Arc.{Arc}
use Rattle.vertex_lang.specs.declared.program.Program.{Program}
use Rattle.vertex_lang.specs.declared.program.Along.{Along}
use Rattle.vertex_lang.specs.Arcs.{arcs_between, arcs_of_edge, forward, backward, IsArc}
use Rattle.vertex_lang.specs.Directions.{RunsAlong}
use Rattle.vertex_lang.specs.Expressions.{Answer, start_of}
use Rattle.vertex_lang.specs.ExtremeLaws.{contains-here, contains-there, contains-none, contains-cases}
use Rattle.vertex_lang.specs.RoundLaws.{lone_starts, length-lone}
use Rattle.vertex_lang.specs.Rounds.{nodes_of, value_at, lone}
use Rattle.change_lists.specs.declared.history.Change.{Change}
use Rattle.change_lists.specs.declared.history.History.{History}
use Rattle.round_kernel.specs.declared.frame.Frame.{Frame}
use Rattle.round_kernel.specs.declared.frame.Lists.{Lists}
use Rattle.arc_rows.specs.declared.rows.Rows.{Rows}
use Rattle.arc_rows.specs.Views.{arcs_in, IsTurned, TellsAll}
use Rattle.round_inputs.specs.Inputs.{AreDegrees, IsRound}
use Rattle.round_messages.specs.Sides.{AreSent}
use Rattle.message_forms.specs.Forms.{MayKeep}
use Rattle.lone_work.specs.Work.{node_marked}
use Rattle.round_kernel.specs.Histories.{AreStarts, IsHistory}
use Rattle.change_lists.specs.ChangeLists.{HasChanges, HasNodes}
use Rattle.waiting_nodes.specs.Queues.{IsQueue}
use Rattle.round_kernel.specs.Rounds.{was_touched}
use Rattle.round_kernel.specs.Frames.{IsFrame, StandAt, count_in, was_touched_at}
use Rattle.arc_rows.specs.TurnedArcs.{TellTurned}
use Rattle.arc_rows.specs.RowLists.{AreAlong}
use Rattle.round_kernel.proofs.Calming.{none-marked}
use Rattle.vertex_lang.specs.declared.program.Along.TheVariants as along

-- ---- no view before

-- in no view nothing changes
pub none-history : (answer : Answer) (p : Program) (graph : GraphData) (rounds : ℕ) (h : History) → h.changes ≡ [] → h.marks ≡ [] → h.starts ≡ None → IsHistory answer p graph None rounds h
none-history answer p graph rounds h ec em es = record {
  changes = λ k low. subst (λ (cs : List Change). HasChanges (length graph.ids) [] [] cs) (sym (ap (λ (xs : List (List Change)). get_or xs k []) ec)) (record {
    within = All-nil (λ (c : Change). c.node.0 < length graph.ids);
    values = All-nil (λ (c : Change). c.value ≡ value_at [] c.node.0);
    listed = λ v under. refl;
  });
  marks = λ k low. subst (λ (ns : List NodeNo). HasNodes (length graph.ids) (λ v. node_marked answer p graph None v (k + 1)) ns) (sym (ap (λ (xs : List (List NodeNo)). get_or xs k []) em)) (record {
    within = All-nil (λ (n : NodeNo). n.0 < length graph.ids);
    listed = λ v under. sym (none-marked answer p graph v (k + 1));
  });
  starts = subst (λ o. IfSome o (λ s. AreStarts p graph s.value)) (sym es) tt;
}

-- ---- arcs of edges that are told

in-edge : (way : Along) (graph : GraphData) (a : Arc) → RunsAlong way graph a → Contains (arcs_of_edge way graph a.edge) a
in-edge along.Out graph a e = subst (λ (x : Arc). Contains (x ∷ []) a) e (contains-here a [])
in-edge along.In graph a e = subst (λ (x : Arc). Contains (x ∷ []) a) e (contains-here a [])
in-edge along.Both graph a (inl e) = subst (λ (x : Arc). Contains (x ∷ backward graph a.edge ∷ []) a) e (contains-here a (backward graph a.edge ∷ []))
in-edge along.Both graph a (inr e) = contains-there (forward graph a.edge) (backward graph a.edge ∷ []) a (subst (λ (x : Arc). Contains (x ∷ []) a) e (contains-here a []))

in-edges : (way : Along) (graph : GraphData) (edges : List EdgeNo) (a : Arc) → Contains edges a.edge → RunsAlong way graph a → Contains (arcs_between way graph edges) a
in-edges way graph [] a h e = absurd (contains-none a.edge h)
in-edges way graph (x ∷ edges) a h e = subst (λ (xs : List Arc). Contains xs a) (sym (flat_map-cons (arcs_of_edge way graph) x edges)) (elim (contains-cases x edges a.edge h) [
  | inl here ↦ Contains-append_left (arcs_of_edge way graph x) (arcs_between way graph edges) a (subst (λ (n : EdgeNo). Contains (arcs_of_edge way graph n) a) (sym here) (in-edge way graph a e))
  | inr there ↦ Contains-append_right (arcs_of_edge way graph x) (arcs_between way graph edges) a (in-edges way graph edges a there e)
])

-- each arc whose edge is in one of the two views alone is among those of the edges that are told
pub turned-told : (way : Along) (graph : GraphData) (rows : Rows) (old new : List Bool) (turned : List EdgeNo) (arcs : List Arc) → All (IsArc graph) rows.by_head → length old ≡ length graph.ends → AreAlong way graph rows → TellsAll old new turned
    → arcs ≡ arcs_between way graph turned → All (λ a. IsTurned old new a → Contains arcs a) rows.by_head
turned-told way graph rows old new turned arcs within size is tells e = λ i d low t.
    let a = get_or rows.by_head i d in
    let arc : IsArc graph a = within i d low in
    subst (λ (xs : List Arc). Contains xs a) (sym e) (in-edges way graph turned a (tells a.edge.0 (omega (arith, arc.edge, size)) t) (is i d low))

-- ---- the lists at round 0

-- a flag that all have
pub all-first : (n v : ℕ) (b : Bool) → v < n → get_or (replicate n b) v false ≡ b
all-first n v b low = get_or-replicate n v b false low

module _ (answer : Answer) (f : Frame) (frame : IsFrame answer f f.limit) where
  at-first : (edges : List Bool) (degrees : List ℕ) (values : List Val) → length edges ≡ length f.graph.now.ends → length degrees ≡ count_in f
      → AreDegrees f.program.now f.graph.now (arcs_in f.rows.now.by_head edges) degrees → ((u : ℕ) → u < count_in f → get_or degrees u 0 < 2 ^ 32)
      → values ≡ map (start_of f.program.now f.graph.now) (nodes_of f.graph.now) → IsRound answer f.program.now f.graph.now f.rows.now.by_head edges degrees values 0
  at-first edges degrees values size count are small e =
      let is : values ≡ lone answer f.program.now f.graph.now (arcs_in f.rows.now.by_head edges) 0 = e ∙ sym (lone_starts answer f.program.now f.graph.now (arcs_in f.rows.now.by_head edges)) in
      record {
        sized = record { edges_size = size; degrees_size = count; degrees_small = small; values_size = ap (λ (vs : List Val). length vs) is ∙ length-lone answer f.program.now f.graph.now (arcs_in f.rows.now.by_head edges) 0 };
        degrees_are = are;
        values_are = is;
      }

  untouched-start : (first : Bool) (v : ℕ) → first ≡ was_touched answer f.program.now f.graph.now f.rows.now.by_head first f.old.now f.new.now 0 v
  untouched-start true v = refl
  untouched-start false v = refl

  pub at-start : (lists : Lists)
      → lists.starts.value ≡ map (start_of f.program.now f.graph.now) (nodes_of f.graph.now)
      → lists.old_now.items ≡ lists.starts.value → lists.new_now.items ≡ lists.starts.value → lists.new_before.items ≡ lists.starts.value
      → length lists.old_degrees.items ≡ count_in f → AreDegrees f.program.now f.graph.now (arcs_in f.rows.now.by_head f.old.now) lists.old_degrees.items → ((u : ℕ) → u < count_in f → get_or lists.old_degrees.items u 0 < 2 ^ 32)
      → length lists.new_degrees.items ≡ count_in f → AreDegrees f.program.now f.graph.now (arcs_in f.rows.now.by_head f.new.now) lists.new_degrees.items → ((u : ℕ) → u < count_in f → get_or lists.new_degrees.items u 0 < 2 ^ 32)
      → length lists.touched.items ≡ count_in f → ((v : ℕ) → v < count_in f → get_or lists.touched.items v false ≡ f.first)
      → length lists.parted.items ≡ count_in f
      → length lists.marked.items ≡ count_in f
      → length lists.watched.items ≡ count_in f → All (λ a. get_or lists.watched.items a.tail.0 false ≡ true) f.turned.now
      → TellTurned (λ a. a.tail.0) f.graph.now f.rows.now.by_head f.first f.old.now f.new.now lists.turned
      → MayKeep lists.alike f.program.now f.graph.now → AreSent lists.alike f.program.now f.graph.now lists.new_degrees.items lists.starts.value lists.new_sent
      → IsQueue (count_in f) lists.queue → StandAt answer f 0 (was_touched_at answer f 0) lists
  at-start lists es eon enn enb sod aod bod snd and bnd st at sp sm sw aw tt mk kn q =
      let old = at-first f.old.now lists.old_degrees.items lists.old_now.items frame.old_size sod aod bod (eon ∙ es) in
      record {
        starts = es;
        new_now = at-first f.new.now lists.new_degrees.items lists.new_now.items frame.new_size snd and bnd (enn ∙ es);
        new_before = at-first f.new.now lists.new_degrees.items lists.new_before.items frame.new_size snd and bnd (enb ∙ es);
        old_now = λ one. old;
        old_sized = old.sized;
        parted_size = sp;
        parted_are = λ one later. absurd (omega (arith, later));
        touched_size = st;
        touched_are = λ v low. at v low ∙ untouched-start f.first v;
        marked_size = sm;
        watched_size = sw;
        watched_are = λ one i d low t. All-contains (λ (a : Arc). get_or lists.watched.items a.tail.0 false ≡ true) f.turned.now (get_or f.rows.now.by_head i d) aw (frame.turned one i d low t);
        turned_are = tt;
        keeps = mk;
        new_sent = subst (λ (vs : List Val). AreSent lists.alike f.program.now f.graph.now lists.new_degrees.items vs lists.new_sent) (sym enn) kn;
        queue = q;
      }
