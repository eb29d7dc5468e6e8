-- What is kept of messages tells them from others, and a node that is just touched has a mark in one of both views.
use Rattle.std.proofs.Common.{◌≡◌, ◌∙◌, suc, sym, ap, refl, ℕ, ℤ, ◌+ℤ◌, pos, Bool, true, false, List, Some, length, arith, inl, inr}
use Rattle.std.specs.Prelude.{◌≢◌, ◌&&◌, ◌||◌, All}
use Rattle.std.proofs.lemmas.Bool.{cases_Bool}
use Rattle.std.proofs.lemmas.Int.{ints}
use Rattle.graph_model.specs.declared.value.Val.{Val}
use Rattle.graph_model.specs.GraphData.{GraphData}
use Rattle.vertex_lang.specs.declared.arc.Arc.{Arc}
use Rattle.vertex_lang.specs.declared.program.Program.{Program}
use Rattle.vertex_lang.specs.declared.program.Gather.{Gather}
use Rattle.vertex_lang.specs.Arcs.{amount, total, IsArc}
use Rattle.vertex_lang.specs.Expressions.{Answer}
use Rattle.vertex_lang.specs.Lone.{same_value}
use Rattle.vertex_lang.specs.GatherLaws.{values-exact, length-one}
use Rattle.multisets.specs.Multisets.{AreOne, are_one}
use Rattle.multisets.specs.CountLaws.{one-told}
use Rattle.multisets.specs.FoldLaws.{fold-one}
use Rattle.lone_work.specs.Inputs.{got_values}
use Rattle.lone_work.specs.Work.{node_active, node_touched, node_marked, touched_before}
use Rattle.lone_work.specs.StepLaws.{counted-is, touched-is, counted-by-marks}
use Rattle.value_codes.specs.declared.tally.Tally.{Tally}
use Rattle.value_codes.specs.declared.tally.Kept.{Kept}
use Rattle.vertex_lang.specs.Values.{clamped}
use Rattle.value_codes.specs.Tallies.{tally_of, kept_of}
use Rattle.round_kernel.specs.Rounds.{kept_at, old_view, was_touched}
use Rattle.arc_rows.specs.Views.{arcs_in, row_of}
use Rattle.round_messages.specs.Sides.{all_brought}
use Rattle.round_inputs.specs.Inputs.{IsRound}
use Rattle.round_kernel.proofs.Visits.{marked-by-messages}
use Rattle.round_inputs.specs.InputLaws.{tally-got}

-- ---- sums and counts

kept-from : (t t' : ℤ) (n n' : ℕ) → t ≡ t' → n ≡ n' → Path Kept (record { total = t; count = n }) (record { total = t'; count = n' })
kept-from t t' n n' e f = cc

sum-swaps : (s : ℤ) (x y : Val) → (s +ℤ amount x) +ℤ amount y ≡ (s +ℤ amount y) +ℤ amount x
sum-swaps s x y = omega (arith, ints)

total-one : (ms ns : List Val) → AreOne same_value ms ns → total ms ≡ total ns
total-one ms ns s = fold-one same_value values-exact (λ (sum : ℤ) (m : Val). sum +ℤ amount m) sum-swaps (pos 0) ms ns s

-- of the same messages, in any order, the same is kept
pub kept-one : (kind : Gather) (ms ns : List Val) → are_one same_value ms ns ≡ true → kept_of (tally_of kind ms) ≡ kept_of (tally_of kind ns)
kept-one kind ms ns e =
    let s : AreOne same_value ms ns = one-told same_value values-exact ms ns e in
    kept-from (clamped (total ms)) (clamped (total ns)) (length ms) (length ns) (ap clamped (total-one ms ns s)) (length-one ms ns s)

-- where something else is kept of the round before, the node has a mark
pub marked-kept : (answer : Answer) (p : Program) (graph : GraphData) (arcs : List Arc) (v r k : ℕ) → r ≡ suc k → (kept now : Kept)
    → kept ≡ kept_at answer p graph arcs k v → now ≡ kept_at answer p graph arcs r v → kept ≢ now → true ≡ node_marked answer p graph (Some arcs) v r
marked-kept answer p graph arcs v r k at kept now ek en differs =
    let after = got_values answer p graph arcs v r in
    let before = got_values answer p graph arcs v k in
    elim (cases_Bool (are_one same_value after before)) [
      | inl e ↦ absurd (differs (ek ∙ sym (kept-one p.gather after before e) ∙ sym en))
      | inr e ↦ marked-by-messages answer p graph arcs v r k at e
    ]

-- ---- just touched

active-then : (b a t : Bool) → b ≡ false → t ≡ true → t ≡ (b || a) → a ≡ true
active-then true a t f e h = absurd cc
active-then false a t f e h = sym h ∙ e

marked-then : (t a n o : Bool) → t ≡ true → a ≡ true → o ≡ false → (t && (a || o)) ≡ (n || o) → true ≡ n
marked-then t a true o e f g h = refl
marked-then false a false o e f g h = absurd cc
marked-then true false false o e f g h = absurd cc
marked-then true true false false e f g h = absurd cc
marked-then true true false true e f g h = absurd cc

-- a node that is just touched and had no mark in the view before has one
pub marked-new : (answer : Answer) (p : Program) (graph : GraphData) (all : List Arc) (old new : List Bool) (v r : ℕ) (first was m : Bool)
    → was ≡ was_touched answer p graph all first old new r v → node_touched answer p graph (arcs_in all new) (old_view first all old) v r ≡ true
    → m ≡ node_marked answer p graph (old_view first all old) v r → was ≡ false → m ≡ false → true ≡ node_marked answer p graph (Some (arcs_in all new)) v r
marked-new answer p graph all old new v r true was m ew t em f g = absurd cc
marked-new answer p graph all old new v r false was m ew t em f g =
    let now = arcs_in all new in
    let before = Some (arcs_in all old) in
    let active = active-then (touched_before answer p graph now before v r) (node_active answer p graph now before v r) (node_touched answer p graph now before v r) (sym ew ∙ f) t (touched-is answer p graph now before v r) in
    marked-then (node_touched answer p graph now before v r) (node_active answer p graph now before v r) (node_marked answer p graph (Some now) v r) (node_marked answer p graph before v r) t active (sym em ∙ g)
    (sym (counted-is answer p graph now before v r) ∙ counted-by-marks answer p graph now before v r t)

-- ---- what a node gets

-- and so does what is kept of it
pub kept-got : (answer : Answer) (p : Program) (graph : GraphData) (all : List Arc) (edges : List Bool) (degrees : List ℕ) (values : List Val) (r : ℕ) → IsRound answer p graph all edges degrees values r
    → (v : ℕ) (row : List Arc) → All (IsArc graph) all → row ≡ row_of all v → (tally : Tally) → tally ≡ tally_of p.gather (all_brought p graph edges degrees values row)
    → (kept : Kept) → kept ≡ kept_of tally → kept ≡ kept_at answer p graph (arcs_in all edges) r v
kept-got answer p graph all edges degrees values r is v row arcs e tally et kept ek = ek ∙ ap (λ (t : Tally). kept_of t) (tally-got answer p graph all edges degrees values r is v row arcs e tally et)
