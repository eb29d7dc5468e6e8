-- Values that are told apart, and messages that two rounds have in common.
use Rattle.std.proofs.Common.{◌≡◌, ◌≢◌, ◌∙◌, sym, ap, refl, Bool, true, false}
use Rattle.std.specs.Prelude.{not, MatchBool}
use Rattle.graph_model.specs.declared.value.Val.{Val}
use Rattle.vertex_lang.specs.Lone.{same_value}
use Rattle.vertex_lang.specs.GatherLaws.{values-exact}

other-of : (b t : Bool) (x y : Val) → same_value x y ≡ t → MatchBool b (x ≢ y) (x ≡ y) → b ≡ not t
other-of true true x y e h = absurd (h (values-exact.one x y e))
other-of true false x y e h = refl
other-of false true x y e h = refl
other-of false false x y e h = absurd (false-true (same_value x y) e (ap (λ (z : Val). same_value x z) (sym h) ∙ values-exact.itself x)) where
  false-true : (b : Bool) → b ≡ false → b ≡ true → ⊥
  false-true true f t = absurd cc
  false-true false f t = absurd cc

pub other-told : (b : Bool) (x y : Val) → MatchBool b (x ≢ y) (x ≡ y) → b ≡ not (same_value x y)
other-told b x y h = other-of b (same_value x y) x y refl h

not-told : (t : Bool) → not t ≡ false → t ≡ true
not-told true e = refl
not-told false e = absurd cc

-- where they don't differ they are one
pub same-told : (b : Bool) (x y : Val) → b ≡ not (same_value x y) → b ≡ false → x ≡ y
same-told b x y e f = values-exact.one x y (not-told (same_value x y) (sym e ∙ f))
