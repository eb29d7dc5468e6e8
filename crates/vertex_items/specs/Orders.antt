-- The orders of what stands in batches: what they call equal is one.
use Rattle.std.specs.Prelude.{◌≡◌, ℕ, ℤ, refl}
use Rattle.std.specs.declared.cmp.Ordering.{Ordering}
use Rattle.std.specs.declared.cmp.Ordering.TheVariants.{Less, Equal, Greater}
use Rattle.std.proofs.Common.{ap, sym, ◌∙◌}
use Rattle.std.proofs.lemmas.Map.Lookups.{exact_signed}
use Rattle.graph_model.specs.declared.value.Val.{Val}
use Rattle.graph_model.specs.declared.value.Val.TheVariants.{Nil, Num}
use Rattle.graph_model.specs.ValueOrder.{order_of}
use Rattle.vertex_items.specs.declared.item.NodeItem.{NodeItem}
use Rattle.vertex_items.specs.declared.item.NodeItem.TheVariants.{Start, Own, Message}

pub value_same : (x y : Val) → order_of x y ≡ Equal → x ≡ y
value_same Nil Nil e = refl
value_same Nil (Num b) e = absurd (cc)
value_same (Num a) Nil e = absurd (cc)
value_same (Num a) (Num b) e = ap (λ (n : ℤ). Num n) (exact_signed a b e)

pub items_same : (cmp : NodeItem → NodeItem → Ordering)
    → ((a b : Val) → cmp (Start a) (Start b) ≡ order_of a b) → ((a b : Val) → cmp (Start a) (Own b) ≡ Less) → ((a b : Val) → cmp (Start a) (Message b) ≡ Less)
    → ((a b : Val) → cmp (Own a) (Start b) ≡ Greater) → ((a b : Val) → cmp (Own a) (Own b) ≡ order_of a b) → ((a b : Val) → cmp (Own a) (Message b) ≡ Less)
    → ((a b : Val) → cmp (Message a) (Start b) ≡ Greater) → ((a b : Val) → cmp (Message a) (Own b) ≡ Greater) → ((a b : Val) → cmp (Message a) (Message b) ≡ order_of a b)
    → (x y : NodeItem) → cmp x y ≡ Equal → x ≡ y
items_same cmp ss so sm os oo om ms mo mm (Start a) (Start b) e = ap (λ (v : Val). Start v) (value_same a b (sym (ss a b) ∙ e))
items_same cmp ss so sm os oo om ms mo mm (Start a) (Own b) e = let h : Less ≡ Equal = sym (so a b) ∙ e in absurd (cc)
items_same cmp ss so sm os oo om ms mo mm (Start a) (Message b) e = let h : Less ≡ Equal = sym (sm a b) ∙ e in absurd (cc)
items_same cmp ss so sm os oo om ms mo mm (Own a) (Start b) e = let h : Greater ≡ Equal = sym (os a b) ∙ e in absurd (cc)
items_same cmp ss so sm os oo om ms mo mm (Own a) (Own b) e = ap (λ (v : Val). Own v) (value_same a b (sym (oo a b) ∙ e))
items_same cmp ss so sm os oo om ms mo mm (Own a) (Message b) e = let h : Less ≡ Equal = sym (om a b) ∙ e in absurd (cc)
items_same cmp ss so sm os oo om ms mo mm (Message a) (Start b) e = let h : Greater ≡ Equal = sym (ms a b) ∙ e in absurd (cc)
items_same cmp ss so sm os oo om ms mo mm (Message a) (Own b) e = let h : Greater ≡ Equal = sym (mo a b) ∙ e in absurd (cc)
items_same cmp ss so sm os oo om ms mo mm (Message a) (Message b) e = ap (λ (v : Val). Message v) (value_same a b (sym (mm a b) ∙ e))
