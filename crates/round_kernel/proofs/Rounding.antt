-- What a round makes: what was found at the touched nodes, and what is copied from the view before at the others.
use Rattle.std.proofs.Common.{Vec, Global, ◌≡◌, ◌∙◌, ◌<◌, ◌+◌, ◌-◌, ◌++◌, ◌∷◌, [], suc, sym, ap, subst, refl, ℕ, ℤ, Bool, true, false, List, Option, Some, None, length, get_or, filter, arith, inl, inr}
use Rattle.std.specs.Prelude.{All, ◌&&◌, ◌||◌, ◌==◌, ◌⊎◌, not, if◌then◌else◌}
use Rattle.std.specs.List.{list_any}
use Rattle.std.proofs.lemmas.Bool.{cases_Bool, eqb-true}
use Rattle.std.proofs.lemmas.List.Folds.{list_any-append}
use Rattle.std.proofs.lemmas.List.Elements.{All-append, All-filter, filter_passes}
use Rattle.graph_model.specs.declared.value.Val.{Val}
use Rattle.graph_model.specs.declared.number.NodeNo.{NodeNo}
use Rattle.graph_model.specs.GraphData.{GraphData}
use Rattle.vertex_lang.specs.declared.arc.Arc.{Arc}
use Rattle.vertex_lang.specs.declared.program.Program.{Program}
use Rattle.vertex_lang.specs.Expressions.{Answer}
use Rattle.vertex_lang.specs.Lone.{same_value}
use Rattle.vertex_lang.specs.Rounds.{value_at, lone}
use Rattle.lone_work.specs.Work.{node_touched, touched_before, lone_in}
use Rattle.lone_work.specs.WorkLaws.{first-touched, untouched-value, untouched-mark}
use Rattle.change_lists.specs.declared.history.Change.{Change}
use Rattle.round_kernel.specs.declared.frame.Frame.{Frame}
use Rattle.round_kernel.specs.declared.frame.Lists.{Lists}
use Rattle.arc_rows.specs.Views.{arcs_in, in_view}
use Rattle.round_messages.specs.Sides.{AreSent, IsSized}
use Rattle.message_forms.specs.Forms.{MayKeep}
use Rattle.change_lists.specs.ChangeLists.{HasNodes, HasChanges, is_changed, is_listed}
use Rattle.round_kernel.specs.Flags.{IsParted, AreSet}
use Rattle.round_kernel.specs.Rounds.{old_view, TellParted}
use Rattle.round_kernel.specs.Frames.{AreStirred, IsQuiet, stirs, StandAt, HasSome, ArePartedAnew, IsCaughtUp, count_in, lone_at, old_lone_at, new_arcs, old_arcs, touched_at, marked_at, marked_before, was_touched_at, changes_at}
use Rattle.arc_rows.specs.ViewLaws.{same-or-turned}
use Rattle.arc_rows.specs.ListLaws.{clash}
use Rattle.waiting_nodes.specs.WaitingLaws.{or-right}

-- ---- lists of which the touched nodes are left out

both-or : (b e c l : Bool) → (e ≡ true → b ≡ c) → ((b && e) || (c && l)) ≡ (c && (e || l))
both-or true true true l h = refl
both-or true true false l h = absurd (clash false refl (sym (h refl)))
both-or false true true l h = absurd (clash false refl (h refl))
both-or false true false l h = refl
both-or true false c l h = refl
both-or false false c l h = refl

module _ {X : Type 0} (key : X → ℕ) (t : List Bool) (v : ℕ) where
  any-if : (b : Bool) (x : X) (rest : List X) → list_any (λ y. key y == v) (if b then x ∷ rest else rest) ≡ ((b && (key x == v)) || list_any (λ y. key y == v) rest)
  any-if true x rest = refl
  any-if false x rest = refl

  pub any-untouched : (xs : List X) → list_any (λ y. key y == v) (filter (λ y. not (get_or t (key y) false)) xs) ≡ (not (get_or t v false) && list_any (λ y. key y == v) xs)
  any-untouched [] = none (not (get_or t v false)) where
    none : (b : Bool) → false ≡ (b && false)
    none true = refl
    none false = refl
  any-untouched (x ∷ xs) =
      any-if (not (get_or t (key x) false)) x (filter (λ y. not (get_or t (key y) false)) xs)
      ∙ ap (λ (b : Bool). (not (get_or t (key x) false) && (key x == v)) || b) (any-untouched xs)
      ∙ both-or (not (get_or t (key x) false)) (key x == v) (not (get_or t v false)) (list_any (λ y. key y == v) xs) (λ e. ap (λ n. not (get_or t n false)) (eqb-true (key x) v e))

pub any-kept : {X : Type 0} (key : X → ℕ) (test : ℕ → Bool) (v : ℕ) (xs : List X) → list_any (λ y. key y == v) (filter (λ y. test (key y)) xs) ≡ (test v && list_any (λ y. key y == v) xs)
any-kept key test v [] = none (test v) where
  none : (b : Bool) → false ≡ (b && false)
  none true = refl
  none false = refl
any-kept key test v (x ∷ xs) =
    any-if key [] v (test (key x)) x (filter (λ y. test (key y)) xs)
    ∙ ap (λ (b : Bool). (test (key x) && (key x == v)) || b) (any-kept key test v xs)
    ∙ both-or (test (key x)) (key x == v) (test v) (list_any (λ y. key y == v) xs) (λ e. ap test (eqb-true (key x) v e))

neither-first : (b c : Bool) → (b || c) ≡ false → b ≡ false
neither-first true c e = absurd (clash true e refl)
neither-first false c e = refl

neither-second : (b c : Bool) → (b || c) ≡ false → c ≡ false
neither-second true c e = absurd (clash true e refl)
neither-second false c e = e

-- what is listed behind others, where that is asked for
pub listed-when : {X : Type 0} (b : Bool) → b ≡ true → (test : X → Bool) (made start found xs : List X) → made ≡ start ++ filter (λ x. b && test x) xs → start ≡ found → made ≡ found ++ filter test xs
listed-when b asked test made start found xs e from = e ∙ ap (λ ys. ys ++ filter (λ x. b && test x) xs) from ∙ ap (λ (c : Bool). found ++ filter (λ x. c && test x) xs) asked

-- what is found where a node is touched, and what is copied where it isn't
mixed : (t m b : Bool) → (t ≡ false → m ≡ b) → ((t && m) || (not t && b)) ≡ m
mixed true true b h = refl
mixed true false b h = refl
mixed false m b h = sym (h refl)

not-told : (b : Bool) → not b ≡ true → b ≡ false
not-told true e = absurd (clash false refl e)
not-told false e = refl

-- a node that isn't touched has the values of the view before
module _ (answer : Answer) (p : Program) (graph : GraphData) (new : List Arc) (v r : ℕ) where
  pub untouched-two : (old : Option (List Arc)) → v < length graph.ids → node_touched answer p graph new old v r ≡ false
      → (value_at (lone answer p graph new (r + 1)) v ≡ value_at (lone_in answer p graph old (r + 1)) v) × (value_at (lone answer p graph new r) v ≡ value_at (lone_in answer p graph old r) v)
  untouched-two None low e = absurd (clash (node_touched answer p graph new None v r) e (first-touched answer p graph new v r))
  untouched-two (Some old) low e = (untouched-value answer p graph new old v r (r + 1) low e (omega arith), untouched-value answer p graph new old v r r low e (omega arith))

module _ (answer : Answer) (f : Frame) (r : ℕ) (t : List Bool) (suspects : (v : ℕ) → v < count_in f → get_or t v false ≡ touched_at answer f r v) where
  pub marks-all : (found old : List NodeNo) → HasNodes (count_in f) (λ v. touched_at answer f r v && marked_at answer f r v) found → HasNodes (count_in f) (marked_before answer f r) old
      → HasNodes (count_in f) (marked_at answer f r) (found ++ filter (λ n. not (get_or t n.0 false)) old)
  marks-all found old a b = record {
    within = All-append (λ (n : NodeNo). n.0 < count_in f) found (filter (λ n. not (get_or t n.0 false)) old) a.within (All-filter (λ (n : NodeNo). not (get_or t n.0 false)) (λ (n : NodeNo). n.0 < count_in f) old b.within);
    listed = λ v low.
        list_any-append (λ (n : NodeNo). n.0 == v) found (filter (λ n. not (get_or t n.0 false)) old)
        ∙ ap (λ (c : Bool). c || is_listed v (filter (λ n. not (get_or t n.0 false)) old)) (a.listed v low)
        ∙ ap (λ (c : Bool). (touched_at answer f r v && marked_at answer f r v) || c) (any-untouched (λ (n : NodeNo). n.0) t v old ∙ ap (λ (c : Bool). not c && is_listed v old) (suspects v low) ∙ ap (λ (c : Bool). not (touched_at answer f r v) && c) (b.listed v low))
        ∙ mixed (touched_at answer f r v) (marked_at answer f r v) (marked_before answer f r v) (λ e. untouched-mark answer f.program.now f.graph.now (new_arcs f) (old_arcs f) v r e);
  }

  pub changes-all : (found old : List Change) → HasSome answer f r (touched_at answer f r) found
      → HasChanges (count_in f) (lone_in answer f.program.now f.graph.now (old_arcs f) r) (lone_in answer f.program.now f.graph.now (old_arcs f) (r + 1)) old
      → HasChanges (count_in f) (lone_at answer f r) (lone_at answer f (r + 1)) (found ++ filter (λ c. not (get_or t c.node.0 false)) old)
  changes-all found old a b = record {
    within = All-append (λ (c : Change). c.node.0 < count_in f) found rest a.within (All-filter test (λ (c : Change). c.node.0 < count_in f) old b.within);
    values = All-append (λ (c : Change). c.value ≡ value_at (lone_at answer f (r + 1)) c.node.0) found rest a.values (λ i d low. copied (get_or rest i d)
        (All-filter test (λ (c : Change). c.node.0 < count_in f) old b.within i d low)
        (All-filter test (λ (c : Change). c.value ≡ value_at (lone_in answer f.program.now f.graph.now (old_arcs f) (r + 1)) c.node.0) old b.values i d low)
        (not-told (get_or t (get_or rest i d).node.0 false) (filter_passes test old i d low)));
    listed = λ v low.
        list_any-append (λ (c : Change). c.node.0 == v) found rest
        ∙ ap (λ (c : Bool). c || is_changed v rest) (a.listed v low)
        ∙ ap (λ (c : Bool). (touched_at answer f r v && changes_at answer f r v) || c) (any-untouched (λ (c : Change). c.node.0) t v old ∙ ap (λ (c : Bool). not c && is_changed v old) (suspects v low) ∙ ap (λ (c : Bool). not (touched_at answer f r v) && c) (b.listed v low))
        ∙ mixed (touched_at answer f r v) (changes_at answer f r v) (not (same_value (value_at (lone_in answer f.program.now f.graph.now (old_arcs f) (r + 1)) v) (value_at (lone_in answer f.program.now f.graph.now (old_arcs f) r) v))) (λ e.
        let two = untouched-two answer f.program.now f.graph.now (new_arcs f) v r (old_arcs f) low e in
        ap (λ (x : Val). not (same_value x (value_at (lone_at answer f r) v))) two.0 ∙ ap (λ (x : Val). not (same_value (value_at (lone_in answer f.program.now f.graph.now (old_arcs f) (r + 1)) v) x)) two.1);
  } where
    test : Change → Bool
    test c = not (get_or t c.node.0 false)

    rest : List Change
    rest = filter test old

    copied : (c : Change) → c.node.0 < count_in f → c.value ≡ value_at (lone_in answer f.program.now f.graph.now (old_arcs f) (r + 1)) c.node.0 → get_or t c.node.0 false ≡ false → c.value ≡ value_at (lone_at answer f (r + 1)) c.node.0
    copied c low e off = e ∙ sym (untouched-two answer f.program.now f.graph.now (new_arcs f) c.node.0 r (old_arcs f) low (sym (suspects c.node.0 low) ∙ off)).0

-- ---- between two rounds

-- which nodes are parted, as slices of the lists
pub parted-at : (touched ts : List Bool) (old_now os new_now ns : List Val) (changes : List Change) (was ws next ps : List Bool) → ts ≡ touched → os ≡ old_now → ns ≡ new_now → ws ≡ was → next ≡ ps
    → AreSet (IsParted ts os ns) false changes ws ps → AreSet (IsParted touched old_now new_now) false changes was next
parted-at touched ts old_now os new_now ns changes was ws next ps et eo en ew ep h =
    subst (λ (bs : List Bool). AreSet (IsParted bs old_now new_now) false changes was next) et (subst (λ (vs : List Val). AreSet (IsParted ts vs new_now) false changes was next) eo
    (subst (λ (vs : List Val). AreSet (IsParted ts os vs) false changes was next) en (subst (λ (bs : List Bool). AreSet (IsParted ts os ns) false changes bs next) ew
    (subst (λ (bs : List Bool). AreSet (IsParted ts os ns) false changes ws bs) (sym ep) h))))

-- all but the parted nodes and the values of the round before stay
pub kept-both : (old mid new : Lists) → ArePartedAnew old mid → IsCaughtUp mid new → new ≡ record old { parted = mid.parted; new_before = new.new_before }
kept-both old mid new parted caught = caught ∙ ap (λ (l : Lists). record l { new_before = new.new_before }) parted

module _ (answer : Answer) (f : Frame) (r : ℕ) where
  touched-by : (v : ℕ) (first : Bool) → node_touched answer f.program.now f.graph.now (new_arcs f) (old_view first f.rows.now.by_head f.old.now) v r ≡ (first || touched_before answer f.program.now f.graph.now (new_arcs f) (old_view first f.rows.now.by_head f.old.now) v (r + 1))
  touched-by v true = first-touched answer f.program.now f.graph.now (new_arcs f) v r
  touched-by v false =
      let more : suc r ≡ r + 1 = omega arith in
      ap (λ n. touched_before answer f.program.now f.graph.now (new_arcs f) (Some (arcs_in f.rows.now.by_head f.old.now)) v n) more

  -- touched in this round is touched before the next one
  pub touched-on : (v : ℕ) → touched_at answer f r v ≡ was_touched_at answer f (r + 1) v
  touched-on v = touched-by v f.first

  -- where a node isn't touched there's a view before
  second-by : (v : ℕ) (first : Bool) → node_touched answer f.program.now f.graph.now (new_arcs f) (old_view first f.rows.now.by_head f.old.now) v r ≡ false → first ≡ false
  second-by v true off = absurd (clash (node_touched answer f.program.now f.graph.now (new_arcs f) None v r) off (first-touched answer f.program.now f.graph.now (new_arcs f) v r))
  second-by v false off = refl

  -- what is found at touched nodes, and what is copied and may have to be told, is all but what changes at quiet nodes
  pub stirred-all : (lists : Lists) → StandAt answer f r (touched_at answer f r) lists → (t w : List Bool) → t ≡ lists.touched.items → w ≡ lists.watched.items → (found old : List Change) → HasSome answer f r (touched_at answer f r) found → old ≡ get_or f.history.now.changes r []
      → HasChanges (count_in f) (lone_in answer f.program.now f.graph.now (old_arcs f) r) (lone_in answer f.program.now f.graph.now (old_arcs f) (r + 1)) old
      → AreStirred answer f r (found ++ filter (λ c. stirs t w c.node.0) old)
  stirred-all lists u t w et ew found old a eo b = record {
    within = All-append (λ (c : Change). c.node.0 < count_in f) found rest a.within (All-filter (λ c. stirs t w c.node.0) (λ (c : Change). c.node.0 < count_in f) old b.within);
    old = λ v low e. by-old v low (ap (λ (cs : List Change). is_changed v cs) eo ∙ e);
    new = λ v low e. elim (cases_Bool (touched_at answer f r v)) [
      | inl on ↦ inl (list_any-append (λ (c : Change). c.node.0 == v) found rest ∙ ap (λ (x : Bool). x || is_changed v rest) (a.listed v low ∙ ap (λ (x : Bool). x && changes_at answer f r v) on ∙ e))
      | inr off ↦
          let two = untouched-two answer f.program.now f.graph.now (new_arcs f) v r (old_arcs f) low off in
          by-old v low (b.listed v low ∙ ap (λ (x : Val). not (same_value x (value_at (lone_in answer f.program.now f.graph.now (old_arcs f) r) v))) (sym two.0) ∙ ap (λ (x : Val). not (same_value (value_at (lone_at answer f (r + 1)) v) x)) (sym two.1) ∙ e)
    ];
  } where
    rest : List Change
    rest = filter (λ c. stirs t w c.node.0) old

    by-old : (v : ℕ) → v < count_in f → is_changed v old ≡ true → (is_changed v (found ++ rest) ≡ true) ⊎ IsQuiet answer f r v
    by-old v low e = elim (cases_Bool (stirs t w v)) [
      | inl on ↦ inl (list_any-append (λ (c : Change). c.node.0 == v) found rest ∙ or-right (is_changed v found) (is_changed v rest) (any-kept (λ (c : Change). c.node.0) (stirs t w) v old ∙ ap (λ (x : Bool). x && is_changed v old) on ∙ e))
      | inr off ↦
          let untouched : touched_at answer f r v ≡ false = sym (u.touched_are v low) ∙ sym (ap (λ (bits : List Bool). get_or bits v false) et) ∙ neither-first (get_or t v false) (get_or w v false) off in
          let second : f.first ≡ false = second-by v f.first untouched in
          inr (record {
            second = second;
            untouched = untouched;
            unturned = λ i d within from. same-or-turned (in_view f.old.now (get_or f.rows.now.by_head i d)) (in_view f.new.now (get_or f.rows.now.by_head i d)) (λ turned. clash (get_or w v false) (neither-second (get_or t v false) (get_or w v false) off)
                (ap (λ (bits : List Bool). get_or bits v false) ew ∙ ap (λ n. get_or lists.watched.items n false) (sym from) ∙ u.watched_are second i d within turned));
          })
    ]

  -- all that changes in the one view and in the other
  pub stirred-both : (old new : List Change) → old ≡ get_or f.history.now.changes r [] → All (λ c. c.node.0 < count_in f) old → HasChanges (count_in f) (lone_at answer f r) (lone_at answer f (r + 1)) new → AreStirred answer f r (old ++ new)
  stirred-both old new eo within news = record {
    within = All-append (λ (c : Change). c.node.0 < count_in f) old new within news.within;
    old = λ v low e. inl (list_any-append (λ (c : Change). c.node.0 == v) old new ∙ ap (λ (b : Bool). b || is_changed v new) (ap (λ (cs : List Change). is_changed v cs) eo ∙ e));
    new = λ v low e. inl (list_any-append (λ (c : Change). c.node.0 == v) old new ∙ or-right (is_changed v old) (is_changed v new) (news.listed v low ∙ e));
  }

  -- other marks are shown
  pub at-marked : (touched : ℕ → Bool) (lists : Lists) (m : Vec Bool Global) (ns : List NodeNo) → StandAt answer f r touched lists → length m.items ≡ count_in f → StandAt answer f r touched (record lists { marked = m; shown = ns })
  at-marked touched lists m ns u size = record {
    starts = u.starts;
    new_now = u.new_now;
    new_before = u.new_before;
    old_now = u.old_now;
    old_sized = u.old_sized;
    parted_size = u.parted_size;
    parted_are = u.parted_are;
    touched_size = u.touched_size;
    touched_are = u.touched_are;
    marked_size = size;
    watched_size = u.watched_size;
    watched_are = u.watched_are;
    turned_are = u.turned_are;
    keeps = u.keeps;
    new_sent = u.new_sent;
    queue = u.queue;
  }

  -- what is told of the nodes that change in one of the two views
  pub parted-next : (lists : Lists) → StandAt answer f r (touched_at answer f r) lists → f.first ≡ false → (old stirred : List Change) → old ≡ get_or f.history.now.changes r [] → HasChanges (count_in f) (old_lone_at answer f r) (old_lone_at answer f (r + 1)) old → AreStirred answer f r stirred
      → (was next : List Bool) → AreSet (IsParted lists.touched.items lists.old_now.items lists.new_now.items) false stirred was next
      → TellParted answer f.program.now f.graph.now (arcs_in f.rows.now.by_head f.old.now) (new_arcs f) r next
  parted-next lists u one old stirred eo olds st was next set v low changed unset = elim suspects [
    | inl listed ↦ tells (get_or next v false) (set.right v listed) unset
    | inr quiet ↦ untouched quiet.untouched
  ] where
    suspects : (is_changed v stirred ≡ true) ⊎ IsQuiet answer f r v
    suspects = elim changed [
      | inl t ↦ st.old v low (ap (λ (cs : List Change). is_changed v cs) (sym eo) ∙ olds.listed v low ∙ t)
      | inr t ↦ st.new v low t
    ]

    untouched : touched_at answer f r v ≡ false → value_at (old_lone_at answer f r) v ≡ value_at (lone_at answer f r) v
    untouched off = sym (subst (λ (b : Bool). value_at (lone_at answer f r) v ≡ value_at (lone_in answer f.program.now f.graph.now (old_view b f.rows.now.by_head f.old.now) r) v) one
        (untouched-two answer f.program.now f.graph.now (new_arcs f) v r (old_arcs f) low off).1)

    tells : (flag : Bool) → IsParted lists.touched.items lists.old_now.items lists.new_now.items v flag → flag ≡ false → value_at (old_lone_at answer f r) v ≡ value_at (lone_at answer f r) v
    tells flag (inl off) e = untouched (sym (u.touched_are v low) ∙ off)
    tells flag (inr same) e = sym (ap (λ (vs : List Val). value_at vs v) (u.old_now one).values_are) ∙ same e ∙ ap (λ (vs : List Val). value_at vs v) u.new_now.values_are

  -- the values go one round on
  pub at-next : (lists : Lists) (pt : Vec Bool Global) (nb on nn : Vec Val Global) (a : Bool) (ns : List ℤ) → StandAt answer f r (touched_at answer f r) lists
      → nn.items ≡ lone_at answer f (r + 1) → nb.items ≡ lone_at answer f r
      → (f.first ≡ false → on.items ≡ lone answer f.program.now f.graph.now (arcs_in f.rows.now.by_head f.old.now) (r + 1)) → (f.first ≡ false → TellParted answer f.program.now f.graph.now (arcs_in f.rows.now.by_head f.old.now) (new_arcs f) r pt.items)
      → length nn.items ≡ count_in f → length nb.items ≡ count_in f → length on.items ≡ count_in f → length pt.items ≡ count_in f
      → MayKeep a f.program.now f.graph.now → AreSent a f.program.now f.graph.now lists.new_degrees.items nn.items ns
      → StandAt answer f (r + 1) (was_touched_at answer f (r + 1)) (record lists { parted = pt; new_before = nb; old_now = on; new_now = nn; alike = a; new_sent = ns })
  at-next lists pt nb on nn a ns u enn enb eon suspects snn snb son spt mk kns = record {
    starts = u.starts;
    new_now = record { sized = sized-of f.new.now lists.new_degrees.items lists.new_now.items nn.items u.new_now.sized snn; degrees_are = u.new_now.degrees_are; values_are = enn };
    new_before = record { sized = sized-of f.new.now lists.new_degrees.items lists.new_before.items nb.items u.new_before.sized snb; degrees_are = u.new_before.degrees_are; values_are = enb ∙ ap (λ n. lone_at answer f n) back };
    old_now = λ one. record { sized = sized-of f.old.now lists.old_degrees.items lists.old_now.items on.items (u.old_now one).sized son; degrees_are = (u.old_now one).degrees_are; values_are = eon one };
    old_sized = sized-of f.old.now lists.old_degrees.items lists.old_now.items on.items u.old_sized son;
    parted_size = spt;
    parted_are = λ one later. subst (λ n. TellParted answer f.program.now f.graph.now (arcs_in f.rows.now.by_head f.old.now) (new_arcs f) n pt.items) back (suspects one);
    touched_size = u.touched_size;
    touched_are = λ v low. u.touched_are v low ∙ touched-on v;
    marked_size = u.marked_size;
    watched_size = u.watched_size;
    watched_are = u.watched_are;
    turned_are = u.turned_are;
    keeps = mk;
    new_sent = kns;
    queue = u.queue;
  } where
    back : r ≡ (r + 1) - 1
    back = omega arith

    sized-of : (edges : List Bool) (degrees : List ℕ) (values again : List Val) → IsSized f.graph.now edges degrees values → length again ≡ count_in f → IsSized f.graph.now edges degrees again
    sized-of edges degrees values again s size = record { edges_size = s.edges_size; degrees_size = s.degrees_size; degrees_small = s.degrees_small; values_size = size }
