-- The loop of a view comes to the values of its plain run, round by round.
use Rattle.std.specs.Prelude.{◌≡◌, ℕ, zero, suc, ◌+◌, ◌%◌, ◌^◌, ◌<◌, ◌≤◌, ◌⊎◌, nat_le, nat_lt, Bool, true, false, List, [], ◌∷◌, ◌++◌, length, map, All, if◌then◌else◌, refl}
use Rattle.std.specs.declared.cmp.Ordering.{Ordering}
use Rattle.std.specs.declared.cmp.Ordering.TheVariants.{Equal}
use Rattle.std.specs.Cmp.{tied_itself}
use Rattle.std.proofs.Common.{arith, ap, sym, subst, ◌∙◌, inl, inr, append-nil}
use Rattle.std.proofs.lemmas.Bool.Decides.{nat_tests}
use Rattle.weighted.specs.WordLaws.{total, mapped}
use Rattle.weighted.specs.Normal.{normal, normal-same}
use Rattle.weighted.specs.Alike.{Alike, Alike-refl, Alike-is, Alike-sym, Alike-trans, Alike-append, Alike-mapped, total-append, negated, negated-total}
use Rattle.lattice_time.specs.declared.round.Round.{Round}
use Rattle.reduce_theory.specs.Evaluated.{key_part}
use Rattle.reduce_theory.specs.ByKey.{reduce_apply, reduce_part, reduce_respects, by_keys}
use Rattle.loop_theory.specs.declared.input.LoopInput.TheVariants.{Moving}
use Rattle.loop_theory.specs.Inputs.{fixed, moving, as_moving, Alike-fixed, Alike-moving, fixed-append, moving-append}
use Rattle.loop_theory.specs.Loops.{after_rounds, at_round, changes, loop_apply}
use Rattle.graph_model.specs.declared.value.Val.{Val}
use Rattle.graph_model.specs.declared.number.NodeNo.{NodeNo}
use Rattle.graph_model.specs.GraphData.{GraphData, node}
use Rattle.vertex_lang.specs.declared.arc.Arc.{Arc}
use Rattle.vertex_lang.specs.declared.program.Program.{Program}
use Rattle.vertex_lang.specs.Arcs.{IsArc}
use Rattle.vertex_lang.specs.Expressions.{Answer}
use Rattle.vertex_lang.specs.Rounds.{nodes_of, value_at, lone}
use Rattle.lone_work.specs.Inputs.{input}
use Rattle.work_theory.specs.Once.{once}
use Rattle.vertex_items.specs.declared.item.NodeItem.{NodeItem}
use Rattle.vertex_items.specs.declared.input.FlowInput.{FlowInput}
use Rattle.vertex_items.specs.Names.{named}
use Rattle.vertex_items.specs.Given.{node_gives}
use Rattle.vertex_items.specs.Laws.{IsItemOrder}
use Rattle.vertex_items.specs.GivenLaws.{input-gives-next, far-gives, empty-gives}
use Rattle.view_items.specs.Collections.{InLoop, items, started, kept, valued, view_in_loop}
use Rattle.view_items.specs.Prepared.{told_of, view_fed, prepared}
use Rattle.view_items.specs.ItemLaws.{part_one, part_over, items_respect}
use Rattle.view_items.specs.ViewItems.{items-are-inputs, view-is-prepared}
use Rattle.view_items.specs.Rounds.{round_of, values_of, through}
use Rattle.view_items.specs.Laws.{IsOrder, LoopIsLone}

-- ---- the fixed and the moving part of a view in the loop

module _ (p : Program) (graph : GraphData) (told : Arc → ℕ) (values : List Val) where
  fixed_started : (vs : List NodeNo) → fixed (once (started p graph) vs) ≡ once (started p graph) vs
  fixed_started [] = refl
  fixed_started (v ∷ vs) = ap (λ es. (started p graph v, 1) ∷ es) (fixed_started vs)

  fixed_kept : (arcs : List Arc) → fixed (once (kept told) arcs) ≡ once (kept told) arcs
  fixed_kept [] = refl
  fixed_kept (a ∷ arcs) = ap (λ es. (kept told a, 1) ∷ es) (fixed_kept arcs)

  fixed_valued : (vs : List NodeNo) → fixed (once (valued values) vs) ≡ []
  fixed_valued [] = refl
  fixed_valued (v ∷ vs) = fixed_valued vs

  moving_started : (vs : List NodeNo) → moving (once (started p graph) vs) ≡ []
  moving_started [] = refl
  moving_started (v ∷ vs) = moving_started vs

  moving_kept : (arcs : List Arc) → moving (once (kept told) arcs) ≡ []
  moving_kept [] = refl
  moving_kept (a ∷ arcs) = moving_kept arcs

  moving_valued : (vs : List NodeNo) → moving (once (valued values) vs) ≡ once (λ v. (v, value_at values v.0)) vs
  moving_valued [] = refl
  moving_valued (v ∷ vs) = ap (λ es. ((v, value_at values v.0), 1) ∷ es) (moving_valued vs)

  as_valued : (vs : List NodeNo) → as_moving (once (λ v. (v, value_at values v.0)) vs) ≡ once (valued values) vs
  as_valued [] = refl
  as_valued (v ∷ vs) = ap (λ es. (valued values v, 1) ∷ es) (as_valued vs)

  fixed_view : (arcs : List Arc) → fixed (view_in_loop p graph told arcs values) ≡ once (started p graph) (map node (nodes_of graph)) ++ once (kept told) arcs
  fixed_view arcs =
      let nodes : List NodeNo = map node (nodes_of graph) in
      fixed-append (once (started p graph) nodes ++ once (kept told) arcs) (once (valued values) nodes)
      ∙ ap (λ es. es ++ fixed (once (valued values) nodes)) (fixed-append (once (started p graph) nodes) (once (kept told) arcs) ∙ ap (λ es. es ++ fixed (once (kept told) arcs)) (fixed_started nodes) ∙ ap (λ es. once (started p graph) nodes ++ es) (fixed_kept arcs))
      ∙ ap (λ es. (once (started p graph) nodes ++ once (kept told) arcs) ++ es) (fixed_valued nodes)
      ∙ append-nil (once (started p graph) nodes ++ once (kept told) arcs)

  moving_view : (arcs : List Arc) → moving (view_in_loop p graph told arcs values) ≡ values_of graph values
  moving_view arcs =
      let nodes : List NodeNo = map node (nodes_of graph) in
      moving-append (once (started p graph) nodes ++ once (kept told) arcs) (once (valued values) nodes)
      ∙ ap (λ es. es ++ moving (once (valued values) nodes)) (moving-append (once (started p graph) nodes) (once (kept told) arcs) ∙ ap (λ es. es ++ moving (once (kept told) arcs)) (moving_started nodes) ∙ moving_kept arcs)
      ∙ moving_valued nodes

-- with the values of any round
other_values : (p : Program) (graph : GraphData) (told : Arc → ℕ) (arcs : List Arc) (first values : List Val) → fixed (view_in_loop p graph told arcs first) ++ as_moving (values_of graph values) ≡ view_in_loop p graph told arcs values
other_values p graph told arcs first values =
    ap (λ es. es ++ as_moving (values_of graph values)) (fixed_view p graph told first arcs)
    ∙ ap (λ es. (once (started p graph) (map node (nodes_of graph)) ++ once (kept told) arcs) ++ es) (as_valued p graph told values (map node (nodes_of graph)))

-- one collection has one round
pub round_respects : (ncmp : NodeNo → NodeNo → Ordering) → IsOrder ncmp → (icmp : NodeItem → NodeItem → Ordering) → IsItemOrder icmp → (answer : Answer) (p : Program) (graph : GraphData) (xs ys : List (InLoop × ℕ)) → Alike xs ys → Alike (round_of ncmp icmp answer p graph xs) (round_of ncmp icmp answer p graph ys)
round_respects ncmp n icmp o answer p graph xs ys s = reduce_respects ncmp n.same (tied_itself n.total) icmp o.total o.same (node_gives answer p graph) (λ k. empty-gives answer p graph k) (items ncmp p graph xs) (items ncmp p graph ys) (items_respect ncmp n.same (tied_itself n.total) p graph xs ys s)

-- ---- round by round

module _ (ncmp : NodeNo → NodeNo → Ordering) (n : IsOrder ncmp) (icmp : NodeItem → NodeItem → Ordering) (o : IsItemOrder icmp) (answer : Answer) (p : Program) (graph : GraphData) (arcs : List Arc) (all : All (IsArc graph) arcs) (few : length arcs < 2 ^ 32) where
  below_or : (m k : ℕ) → (m < k) ⊎ (k ≤ m)
  below_or m k = by (nat_lt m k) refl where
    by : (b : Bool) → nat_lt m k ≡ b → (m < k) ⊎ (k ≤ m)
    by true h = inl (grind (arith, nat_tests))
    by false h = inr (grind (arith, nat_tests))

  abbrev view_at : ℕ → List (InLoop × ℕ)
  view_at r = view_in_loop p graph (told_of p arcs) arcs (lone answer p graph arcs r)

  one_node : (r : ℕ) (v : NodeNo) → (v.0 < length graph.ids) ⊎ (length graph.ids ≤ v.0) → key_part ncmp v (round_of ncmp icmp answer p graph (view_at r)) ≡ key_part ncmp v (values_of graph (lone answer p graph arcs (r + 1)))
  one_node r v (inl low) =
      let got : Alike (key_part ncmp v (items ncmp p graph (view_at r))) (once named (input answer p graph arcs v.0 r)) = (items-are-inputs ncmp n answer p graph arcs r all few (view_at r) (Alike-refl (view_at r)) v).0 low in
      reduce_part ncmp n.same (tied_itself n.total) icmp (node_gives answer p graph) (λ k. empty-gives answer p graph k) (items ncmp p graph (view_at r)) v
      ∙ ap (node_gives answer p graph v) (normal-same icmp o.total o.same (key_part ncmp v (items ncmp p graph (view_at r))) (once named (input answer p graph arcs v.0 r)) got)
      ∙ input-gives-next icmp o answer p graph arcs v.0 r low few
      ∙ sym (part_one ncmp n.same (tied_itself n.total) (λ u. value_at (lone answer p graph arcs (r + 1)) u.0) 0 (length graph.ids) v.0 (omega arith) (omega arith))
  one_node r v (inr high) =
      reduce_part ncmp n.same (tied_itself n.total) icmp (node_gives answer p graph) (λ k. empty-gives answer p graph k) (items ncmp p graph (view_at r)) v
      ∙ far-gives answer p graph v (normal icmp (key_part ncmp v (items ncmp p graph (view_at r)))) high
      ∙ sym (part_over ncmp n.same (tied_itself n.total) (λ u. value_at (lone answer p graph arcs (r + 1)) u.0) 0 (length graph.ids) v.0 (omega arith))

  one_round : (r : ℕ) → Alike (round_of ncmp icmp answer p graph (view_at r)) (values_of graph (lone answer p graph arcs (r + 1)))
  one_round r = by_keys ncmp n.same (tied_itself n.total) (round_of ncmp icmp answer p graph (view_at r)) (values_of graph (lone answer p graph arcs (r + 1))) (λ v. Alike-is (one_node r v (below_or v.0 (length graph.ids))))

  -- what is in the loop after so many rounds
  pub lone-rounds : (came : List (InLoop × ℕ)) → Alike came (view_at 0) → (r : ℕ) → Alike (after_rounds (round_of ncmp icmp answer p graph) came r) (values_of graph (lone answer p graph arcs r))
  lone-rounds came is zero = Alike-trans (Alike-moving came (view_at 0) is) (Alike-is (moving_view p graph (told_of p arcs) (lone answer p graph arcs 0) arcs))
  lone-rounds came is (suc r) =
      let more : r + 1 ≡ suc r = omega arith in
      let held : Alike (fixed came ++ as_moving (after_rounds (round_of ncmp icmp answer p graph) came r)) (view_at r) =
      Alike-trans (Alike-append (Alike-fixed came (view_at 0) is) (Alike-mapped Moving (after_rounds (round_of ncmp icmp answer p graph) came r) (values_of graph (lone answer p graph arcs r)) (lone-rounds came is r)))
      (Alike-is (other_values p graph (told_of p arcs) arcs (lone answer p graph arcs 0) (lone answer p graph arcs r))) in
      subst (λ k. Alike (after_rounds (round_of ncmp icmp answer p graph) came (suc r)) (values_of graph (lone answer p graph arcs k))) more
      (Alike-trans (round_respects ncmp n icmp o answer p graph (fixed came ++ as_moving (after_rounds (round_of ncmp icmp answer p graph) came r)) (view_at r) held) (one_round r))

  -- what is in the loop in a round
  pub held-rounds : (came : List (InLoop × ℕ)) → Alike came (view_at 0) → (r : ℕ) → Alike (fixed came ++ as_moving (after_rounds (round_of ncmp icmp answer p graph) came r)) (view_at r)
  held-rounds came is r =
      Alike-trans (Alike-append (Alike-fixed came (view_at 0) is) (Alike-mapped Moving (after_rounds (round_of ncmp icmp answer p graph) came r) (values_of graph (lone answer p graph arcs r)) (lone-rounds came is r)))
      (Alike-is (other_values p graph (told_of p arcs) arcs (lone answer p graph arcs 0) (lone answer p graph arcs r)))

-- ---- what a loop makes up to a round is what it came to

module _ {X : Type 0} (come : ℕ → List (X × ℕ)) where
  through_by : (b : Bool) (e : X × ℕ) (us vs ws : List (X × ℕ)) → us ≡ vs ++ ws → (if b then e ∷ us else us) ≡ (if b then e ∷ vs else vs) ++ ws
  through_by true e us vs ws h = ap (λ w. e ∷ w) h
  through_by false e us vs ws h = h

  through-append : (r : ℕ) (xs ys : List ((Round × X) × ℕ)) → through r (xs ++ ys) ≡ through r xs ++ through r ys
  through-append r [] ys = refl
  through-append r (e ∷ xs) ys = through_by (nat_le e.0.0.0 r) (e.0.1, e.1) (through r (xs ++ ys)) (through r xs) (through r ys) (through-append r xs ys)

  one_by : (b : Bool) (x : X × ℕ) (xs : List (X × ℕ)) → (if b then x ∷ (if b then xs else []) else (if b then xs else [])) ≡ (if b then x ∷ xs else [])
  one_by true x xs = refl
  one_by false x xs = refl

  none_by : (b : Bool) → ◌≡◌ {A = List (X × ℕ)} [] (if b then [] else [])
  none_by true = refl
  none_by false = refl

  through_one : (r q : ℕ) (xs : List (X × ℕ)) → through r (at_round q xs) ≡ (if nat_le q r then xs else [])
  through_one r q [] = none_by (nat_le q r)
  through_one r q (x ∷ xs) = ap (λ w. if nat_le q r then x ∷ w else w) (through_one r q xs) ∙ one_by (nat_le q r) x xs

  cancel : (a b c : ℕ) → (a + b) % 2 ^ 64 ≡ 0 → (a + (c + b)) % 2 ^ 64 ≡ c % 2 ^ 64
  cancel a b c h = omega arith

  replaced : (xs ys : List (X × ℕ)) → Alike (xs ++ (ys ++ negated xs)) ys
  replaced xs ys = record { totals = λ g. rw (total-append g xs (ys ++ negated xs), total-append g ys (negated xs)) (cancel (total g xs) (total g (negated xs)) (total g ys) (negated-total g xs)) }

  all_below : (r q : ℕ) → q ≤ r → nat_le q r ≡ true
  all_below r q h = grind (arith, nat_tests)

  through_all : (q r : ℕ) → q ≤ r → Alike (through r (changes come q)) (come q)
  through_all zero r h = rw (through_one r 0 (come 0), all_below r 0 h) (Alike-refl (come 0))
  through_all (suc q) r h =
      rw (through-append r (changes come q) (at_round (suc q) (come (suc q) ++ negated (come q))), through_one r (suc q) (come (suc q) ++ negated (come q)), all_below r (suc q) h)
      (Alike-trans (Alike-append (through_all q r (omega arith)) (Alike-refl (come (suc q) ++ negated (come q)))) (replaced (come q) (come (suc q))))

  same_round : (q r : ℕ) → r ≤ suc q → nat_le (suc q) r ≡ true → r ≡ suc q
  same_round q r h k = grind (arith, nat_tests)

  lower : (q r : ℕ) → r ≤ suc q → nat_le (suc q) r ≡ false → r ≤ q
  lower q r h k = grind (arith, nat_tests)

  sums_by : (q r : ℕ) (b : Bool) → nat_le (suc q) r ≡ b → r ≤ suc q → (r ≤ q → Alike (through r (changes come q)) (come r)) → Alike (through r (changes come (suc q))) (come r)
  sums_by q r true k h go = let e : r ≡ suc q = same_round q r h k in subst (λ n. Alike (through r (changes come (suc q))) (come n)) (sym e) (through_all (suc q) r (omega arith))
  sums_by q r false k h go = rw (through-append r (changes come q) (at_round (suc q) (come (suc q) ++ negated (come q))), through_one r (suc q) (come (suc q) ++ negated (come q)), k, append-nil (through r (changes come q))) (go (lower q r h k))

  pub loop-sums : (rounds r : ℕ) → r ≤ rounds → Alike (through r (changes come rounds)) (come r)
  loop-sums zero zero h = through_all zero zero h
  loop-sums zero (suc r) h = absurd (omega arith)
  loop-sums (suc q) r h = sums_by q r (nat_le (suc q) r) refl h (loop-sums q r)

pub loop-is-lone : LoopIsLone
loop-is-lone ncmp n acmp a icmp o answer p graph arcs all few rounds r low fed is =
    Alike-trans (loop-sums (after_rounds (round_of ncmp icmp answer p graph) (prepared ncmp acmp p graph fed)) rounds r low)
    (lone-rounds ncmp n icmp o answer p graph arcs all few (prepared ncmp acmp p graph fed) (view-is-prepared ncmp n acmp a answer p graph arcs all few fed is) r)
