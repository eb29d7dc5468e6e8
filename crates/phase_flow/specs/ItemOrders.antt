-- The order of what a dataflow in phases makes: what it calls equal is one.
use Rattle.std.specs.Prelude.{◌≡◌}
use Rattle.std.specs.declared.cmp.Ordering.{Ordering}
use Rattle.std.specs.declared.cmp.Ordering.TheVariants.{Less, Equal, Greater}
use Rattle.std.specs.Ordering.{ordering_then, nat_cmp}
use Rattle.std.proofs.Common.{ap, sym, refl, ◌∙◌}
use Rattle.graph_model.specs.declared.number.NodeNo.{NodeNo}
use Rattle.graph_model.specs.declared.value.Val.{Val}
use Rattle.graph_model.specs.ValueOrder.{order_of}
use Rattle.graph_model.specs.Same.{node_same}
use Rattle.vertex_items.specs.Orders.{value_same}
use Rattle.phase_flow.specs.declared.item.PhaseItem.{PhaseItem}
use Rattle.phase_flow.specs.declared.item.PhaseItem.TheVariants as item

both_equal : (a b : Ordering) → ordering_then a b ≡ Equal → (a ≡ Equal) × (b ≡ Equal)
both_equal Less b e = absurd (cc)
both_equal Equal b e = (refl, e)
both_equal Greater b e = absurd (cc)

pub item_same : (cmp : PhaseItem → PhaseItem → Ordering)
    → ((u v : NodeNo) (a b : Val) → cmp (item.Value u a) (item.Value v b) ≡ ordering_then (nat_cmp u.0 v.0) (order_of a b)) → ((u v : NodeNo) (a b : Val) → cmp (item.Value u a) (item.Late v b) ≡ Less)
    → ((u v : NodeNo) (a b : Val) → cmp (item.Late u a) (item.Value v b) ≡ Greater) → ((u v : NodeNo) (a b : Val) → cmp (item.Late u a) (item.Late v b) ≡ ordering_then (nat_cmp u.0 v.0) (order_of a b))
    → (x y : PhaseItem) → cmp x y ≡ Equal → x ≡ y
item_same cmp vv vl lv ll (item.Value u a) (item.Value v b) e =
    let both = both_equal (nat_cmp u.0 v.0) (order_of a b) (sym (vv u v a b) ∙ e) in
    ap (λ (w : NodeNo). item.Value w a) (node_same u v both.0) ∙ ap (λ (w : Val). item.Value v w) (value_same a b both.1)
item_same cmp vv vl lv ll (item.Value u a) (item.Late v b) e = let h : Less ≡ Equal = sym (vl u v a b) ∙ e in absurd (cc)
item_same cmp vv vl lv ll (item.Late u a) (item.Value v b) e = let h : Greater ≡ Equal = sym (lv u v a b) ∙ e in absurd (cc)
item_same cmp vv vl lv ll (item.Late u a) (item.Late v b) e =
    let both = both_equal (nat_cmp u.0 v.0) (order_of a b) (sym (ll u v a b) ∙ e) in
    ap (λ (w : NodeNo). item.Late w a) (node_same u v both.0) ∙ ap (λ (w : Val). item.Late v w) (value_same a b both.1)
