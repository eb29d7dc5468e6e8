-- The tests by values: a node's value and its messages each for themselves.
use Rattle.std.specs.Prelude.{◌≡◌, ℕ, zero, suc, ◌+◌, Bool, true, false, not, ◌&&◌, List, [], ◌∷◌, map, if◌then◌else◌, refl}
use Rattle.std.specs.Cmp.{both_ways}
use Rattle.std.specs.Cmp.Derive.{both_true}
use Rattle.std.proofs.Common.{arith, ap, sym, ◌∙◌}
use Rattle.std.proofs.lemmas.Bool.{and_parts}
use Rattle.graph_model.specs.declared.value.Val.{Val}
use Rattle.graph_model.specs.GraphData.{GraphData}
use Rattle.vertex_lang.specs.declared.arc.Arc.{Arc}
use Rattle.vertex_lang.specs.declared.program.Program.{Program}
use Rattle.vertex_lang.specs.Expressions.{Answer, start_of}
use Rattle.vertex_lang.specs.Rounds.{value_at, lone}
use Rattle.vertex_lang.specs.Lone.{same_value}
use Rattle.multisets.specs.Multisets.{IsExact, often, AreOne, DoCancel, are_one, do_cancel}
use Rattle.multisets.specs.CountLaws.{here, one-told, one-tells, cancel-told, cancel-tells}
use Rattle.lone_work.specs.Items.{Item, same_item}
use Rattle.lone_work.specs.Inputs.{input, own_values, got_values}
use Rattle.lone_work.specs.Work.{previous, node_active, node_marked}
use Rattle.vertex_lang.specs.GatherLaws.{values-exact}
use Rattle.lone_work.specs.InputLaws.{items-exact, often-message, often-own, often-start}
use Rattle.lone_work.specs.Laws.{ActiveSplits, MarkSplits, values_cancel}

module _ (answer : Answer) (p : Program) (graph : GraphData) (arcs : List Arc) (v : ℕ) where
  own-counts : (w : Val) (r : ℕ) → often same_item (Item.own w) (input answer p graph arcs v r) ≡ often same_value w (own_values answer p graph arcs v r)
  own-counts w r = omega (arith, often-own w (got_values answer p graph arcs v r))

  message-counts : (w : Val) (r : ℕ) → often same_item (Item.message w) (input answer p graph arcs v r) ≡ often same_value w (got_values answer p graph arcs v r)
  message-counts w r = omega (arith, often-message w (got_values answer p graph arcs v r))

  start-counts : (w : Val) (r : ℕ) → often same_item (Item.start w) (input answer p graph arcs v r) ≡ (if same_value w (start_of p graph v) then 1 else 0)
  start-counts w r = omega (arith, often-start w (got_values answer p graph arcs v r))

  own-before : (w : Val) (r : ℕ) → often same_item (Item.own w) (previous (input answer p graph arcs v) r) ≡ often same_value w (previous (own_values answer p graph arcs v) r)
  own-before w zero = refl
  own-before w (suc r) = own-counts w r

  message-before : (w : Val) (r : ℕ) → often same_item (Item.message w) (previous (input answer p graph arcs v) r) ≡ often same_value w (previous (got_values answer p graph arcs v) r)
  message-before w zero = refl
  message-before w (suc r) = message-counts w r

starts-before : (answer : Answer) (p : Program) (graph : GraphData) (new old : List Arc) (v : ℕ) (w : Val) (r : ℕ) → often same_item (Item.start w) (previous (input answer p graph new v) r) ≡ often same_item (Item.start w) (previous (input answer p graph old v) r)
starts-before answer p graph new old v w zero = refl
starts-before answer p graph new old v w (suc r) = start-counts answer p graph new v w r ∙ sym (start-counts answer p graph old v w r)

module _ (answer : Answer) (p : Program) (graph : GraphData) (new old : List Arc) (v r : ℕ) where
  f : ℕ → List Item
  f = input answer p graph new v

  g : ℕ → List Item
  g = input answer p graph old v

  joined : DoCancel same_value (own_values answer p graph new v r) (own_values answer p graph old v r) (previous (own_values answer p graph new v) r) (previous (own_values answer p graph old v) r)
      → DoCancel same_value (got_values answer p graph new v r) (got_values answer p graph old v r) (previous (got_values answer p graph new v) r) (previous (got_values answer p graph old v) r)
      → (x : Item) → often same_item x (f r) + often same_item x (previous g r) ≡ often same_item x (g r) + often same_item x (previous f r)
  unfolding f g
  joined s t (Item.start w) = omega (arith, start-counts answer p graph new v w r, start-counts answer p graph old v w r, starts-before answer p graph new old v w r)
  joined s t (Item.own w) = omega (arith, s.counts w, own-counts answer p graph new v w r, own-counts answer p graph old v w r, own-before answer p graph new v w r, own-before answer p graph old v w r)
  joined s t (Item.message w) = omega (arith, t.counts w, message-counts answer p graph new v w r, message-counts answer p graph old v w r, message-before answer p graph new v w r, message-before answer p graph old v w r)

  own-part : DoCancel same_item (f r) (g r) (previous f r) (previous g r) → DoCancel same_value (own_values answer p graph new v r) (own_values answer p graph old v r) (previous (own_values answer p graph new v) r) (previous (own_values answer p graph old v) r)
  unfolding f g
  own-part s = record { counts = λ w. omega (arith, s.counts (Item.own w), own-counts answer p graph new v w r, own-counts answer p graph old v w r, own-before answer p graph new v w r, own-before answer p graph old v w r) }

  message-part : DoCancel same_item (f r) (g r) (previous f r) (previous g r) → DoCancel same_value (got_values answer p graph new v r) (got_values answer p graph old v r) (previous (got_values answer p graph new v) r) (previous (got_values answer p graph old v) r)
  unfolding f g
  message-part s = record { counts = λ w. omega (arith, s.counts (Item.message w), message-counts answer p graph new v w r, message-counts answer p graph old v w r, message-before answer p graph new v w r, message-before answer p graph old v w r) }

  splits : do_cancel same_item (f r) (g r) (previous f r) (previous g r) ≡ (values_cancel (own_values answer p graph new v) (own_values answer p graph old v) r && values_cancel (got_values answer p graph new v) (got_values answer p graph old v) r)
  splits =
      let whole = do_cancel same_item (f r) (g r) (previous f r) (previous g r) in
      let own = values_cancel (own_values answer p graph new v) (own_values answer p graph old v) r in
      let got = values_cancel (got_values answer p graph new v) (got_values answer p graph old v) r in
      both_ways whole (own && got)
      (λ e. let s = cancel-told same_item items-exact (f r) (g r) (previous f r) (previous g r) e in
      both_true
      (cancel-tells same_value (own_values answer p graph new v r) (own_values answer p graph old v r) (previous (own_values answer p graph new v) r) (previous (own_values answer p graph old v) r) (own-part s))
      (cancel-tells same_value (got_values answer p graph new v r) (got_values answer p graph old v r) (previous (got_values answer p graph new v) r) (previous (got_values answer p graph old v) r) (message-part s)))
      (λ e. let parts = and_parts own got e in
      cancel-tells same_item (f r) (g r) (previous f r) (previous g r) (record {
        counts = joined
            (cancel-told same_value values-exact (own_values answer p graph new v r) (own_values answer p graph old v r) (previous (own_values answer p graph new v) r) (previous (own_values answer p graph old v) r) parts.0)
            (cancel-told same_value values-exact (got_values answer p graph new v r) (got_values answer p graph old v r) (previous (got_values answer p graph new v) r) (previous (got_values answer p graph old v) r) parts.1);
      }))

pub active-splits : ActiveSplits
unfolding f g node_active
active-splits answer p graph new old v r = ap not (splits answer p graph new old v r)

-- ---- marks

mark-joined : (answer : Answer) (p : Program) (graph : GraphData) (arcs : List Arc) (v r : ℕ) → value_at (lone answer p graph arcs (suc r)) v ≡ value_at (lone answer p graph arcs r) v
    → AreOne same_value (got_values answer p graph arcs v (suc r)) (got_values answer p graph arcs v r)
    → (x : Item) → often same_item x (input answer p graph arcs v (suc r)) ≡ often same_item x (input answer p graph arcs v r)
mark-joined answer p graph arcs v r e t (Item.start w) = start-counts answer p graph arcs v w (suc r) ∙ sym (start-counts answer p graph arcs v w r)
mark-joined answer p graph arcs v r e t (Item.own w) = own-counts answer p graph arcs v w (suc r) ∙ ap (λ x. often same_value w (x ∷ [])) e ∙ sym (own-counts answer p graph arcs v w r)
mark-joined answer p graph arcs v r e t (Item.message w) = message-counts answer p graph arcs v w (suc r) ∙ t.counts w ∙ sym (message-counts answer p graph arcs v w r)

pub single : (a b : Val) (k : Bool) → same_value a b ≡ k → 1 ≡ (if k then 1 else 0) + 0 → same_value a b ≡ true
single a b true e h = e
single a b false e h = absurd (omega (arith, h))

pub mark-splits : MarkSplits
unfolding node_marked
mark-splits answer p graph arcs v r =
    let now = input answer p graph arcs v (suc r) in
    let before = input answer p graph arcs v r in
    let a = value_at (lone answer p graph arcs (suc r)) v in
    let b = value_at (lone answer p graph arcs r) v in
    let ms = got_values answer p graph arcs v (suc r) in
    let ns = got_values answer p graph arcs v r in
    ap not (both_ways (are_one same_item now before) (same_value a b && are_one same_value ms ns)
    (λ e. let s = one-told same_item items-exact now before e in
    both_true
    (single a b (same_value a b) refl (omega (arith, s.counts (Item.own a), own-counts answer p graph arcs v a (suc r), own-counts answer p graph arcs v a r, here same_value values-exact a [])))
    (one-tells same_value ms ns (record { counts = λ w. omega (arith, s.counts (Item.message w), message-counts answer p graph arcs v w (suc r), message-counts answer p graph arcs v w r) })))
    (λ e. let parts = and_parts (same_value a b) (are_one same_value ms ns) e in
    one-tells same_item now before (record { counts = mark-joined answer p graph arcs v r (values-exact.one a b parts.0) (one-told same_value values-exact ms ns parts.1) })))
