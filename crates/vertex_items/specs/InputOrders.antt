-- The orders of what a dataflow is fed: what they call equal is one.
use Rattle.std.specs.Prelude.{◌≡◌, ℕ, refl}
use Rattle.std.specs.declared.cmp.Ordering.{Ordering}
use Rattle.std.specs.declared.cmp.Ordering.TheVariants.{Less, Equal, Greater}
use Rattle.std.specs.Ordering.{ordering_then, nat_cmp}
use Rattle.std.proofs.Common.{ap, sym, ◌∙◌}
use Rattle.std.proofs.lemmas.Map.Lookups.{exact_unsigned}
use Rattle.graph_model.specs.declared.number.NodeNo.{NodeNo}
use Rattle.graph_model.specs.declared.value.Val.{Val}
use Rattle.graph_model.specs.ValueOrder.{order_of}
use Rattle.graph_model.specs.Same.{node_same}
use Rattle.vertex_lang.specs.declared.arc.Arc.{Arc}
use Rattle.vertex_lang.specs.SameArc.{arc_cmp, arc_same}
use Rattle.vertex_items.specs.declared.input.FlowInput.{FlowInput}
use Rattle.vertex_items.specs.declared.input.FlowInput.TheVariants as flow
use Rattle.vertex_items.specs.declared.input.StartInput.{StartInput}
use Rattle.vertex_items.specs.declared.input.StartInput.TheVariants as given
use Rattle.vertex_items.specs.declared.input.FixedItem.{FixedItem}
use Rattle.vertex_items.specs.declared.input.FixedItem.TheVariants as fixed
use Rattle.vertex_items.specs.Orders.{value_same}

both_equal : (a b : Ordering) → ordering_then a b ≡ Equal → (a ≡ Equal) × (b ≡ Equal)
both_equal Less b e = absurd (cc)
both_equal Equal b e = (refl, e)
both_equal Greater b e = absurd (cc)

pub flow_same : (cmp : FlowInput → FlowInput → Ordering)
    → ((a b : NodeNo) → cmp (flow.Node a) (flow.Node b) ≡ nat_cmp a.0 b.0) → ((a : NodeNo) (b : Arc) → cmp (flow.Node a) (flow.Arc b) ≡ Less)
    → ((a : Arc) (b : NodeNo) → cmp (flow.Arc a) (flow.Node b) ≡ Greater) → ((a b : Arc) → cmp (flow.Arc a) (flow.Arc b) ≡ arc_cmp a b)
    → (x y : FlowInput) → cmp x y ≡ Equal → x ≡ y
flow_same cmp nn na an aa (flow.Node a) (flow.Node b) e = ap (λ (v : NodeNo). flow.Node v) (node_same a b (sym (nn a b) ∙ e))
flow_same cmp nn na an aa (flow.Node a) (flow.Arc b) e = let h : Less ≡ Equal = sym (na a b) ∙ e in absurd (cc)
flow_same cmp nn na an aa (flow.Arc a) (flow.Node b) e = let h : Greater ≡ Equal = sym (an a b) ∙ e in absurd (cc)
flow_same cmp nn na an aa (flow.Arc a) (flow.Arc b) e = ap (λ (v : Arc). flow.Arc v) (arc_same a b (sym (aa a b) ∙ e))

pub start_same : (cmp : StartInput → StartInput → Ordering)
    → ((u v : NodeNo) (a b : Val) → cmp (given.Start u a) (given.Start v b) ≡ ordering_then (nat_cmp u.0 v.0) (order_of a b)) → ((u : NodeNo) (a : Val) (b : Arc) → cmp (given.Start u a) (given.Arc b) ≡ Less)
    → ((a : Arc) (v : NodeNo) (b : Val) → cmp (given.Arc a) (given.Start v b) ≡ Greater) → ((a b : Arc) → cmp (given.Arc a) (given.Arc b) ≡ arc_cmp a b)
    → (x y : StartInput) → cmp x y ≡ Equal → x ≡ y
start_same cmp ss sa ar aa (given.Start u a) (given.Start v b) e =
    let both = both_equal (nat_cmp u.0 v.0) (order_of a b) (sym (ss u v a b) ∙ e) in
    ap (λ (w : NodeNo). given.Start w a) (node_same u v both.0) ∙ ap (λ (w : Val). given.Start v w) (value_same a b both.1)
start_same cmp ss sa ar aa (given.Start u a) (given.Arc b) e = let h : Less ≡ Equal = sym (sa u a b) ∙ e in absurd (cc)
start_same cmp ss sa ar aa (given.Arc a) (given.Start v b) e = let h : Greater ≡ Equal = sym (ar a v b) ∙ e in absurd (cc)
start_same cmp ss sa ar aa (given.Arc a) (given.Arc b) e = ap (λ (v : Arc). given.Arc v) (arc_same a b (sym (aa a b) ∙ e))

pub fixed_same : (cmp : FixedItem → FixedItem → Ordering)
    → ((u v : NodeNo) (a b : Val) → cmp (fixed.Start u a) (fixed.Start v b) ≡ ordering_then (nat_cmp u.0 v.0) (order_of a b)) → ((u : NodeNo) (a : Val) (b : Arc) (n : ℕ) → cmp (fixed.Start u a) (fixed.Arc b n) ≡ Less)
    → ((a : Arc) (n : ℕ) (v : NodeNo) (b : Val) → cmp (fixed.Arc a n) (fixed.Start v b) ≡ Greater) → ((a b : Arc) (m n : ℕ) → cmp (fixed.Arc a m) (fixed.Arc b n) ≡ ordering_then (arc_cmp a b) (nat_cmp m n))
    → (x y : FixedItem) → cmp x y ≡ Equal → x ≡ y
fixed_same cmp ss sa ar aa (fixed.Start u a) (fixed.Start v b) e =
    let both = both_equal (nat_cmp u.0 v.0) (order_of a b) (sym (ss u v a b) ∙ e) in
    ap (λ (w : NodeNo). fixed.Start w a) (node_same u v both.0) ∙ ap (λ (w : Val). fixed.Start v w) (value_same a b both.1)
fixed_same cmp ss sa ar aa (fixed.Start u a) (fixed.Arc b n) e = let h : Less ≡ Equal = sym (sa u a b n) ∙ e in absurd (cc)
fixed_same cmp ss sa ar aa (fixed.Arc a m) (fixed.Start v b) e = let h : Greater ≡ Equal = sym (ar a m v b) ∙ e in absurd (cc)
fixed_same cmp ss sa ar aa (fixed.Arc a m) (fixed.Arc b n) e =
    let both = both_equal (arc_cmp a b) (nat_cmp m n) (sym (aa a b m n) ∙ e) in
    ap (λ (w : Arc). fixed.Arc w m) (arc_same a b both.0) ∙ ap (λ (k : ℕ). fixed.Arc b k) (exact_unsigned m n both.1)
