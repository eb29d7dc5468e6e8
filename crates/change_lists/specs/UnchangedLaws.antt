-- When all who may be active wait, those that don't are calm.
use Rattle.std.proofs.Common.{◌≡◌, ◌∙◌, ◌<◌, sym, refl, ℕ, Bool, true, false, List}
use Rattle.std.specs.Prelude.{not}
use Rattle.graph_model.specs.declared.value.Val.{Val}
use Rattle.vertex_lang.specs.Lone.{same_value}
use Rattle.vertex_lang.specs.Rounds.{value_at}
use Rattle.vertex_lang.specs.GatherLaws.{values-exact}
use Rattle.change_lists.specs.declared.history.Change.{Change}
use Rattle.change_lists.specs.ChangeLists.{is_changed, HasChanges}

-- two values that aren't told to differ are one
pub same-if-still : (x y : Val) → not (same_value x y) ≡ false → x ≡ y
same-if-still x y e = values-exact.one x y (not-told (same_value x y) e) where
  not-told : (b : Bool) → not b ≡ false → b ≡ true
  not-told true f = refl
  not-told false f = absurd cc

-- a node that isn't in the list of changes keeps its value
pub unchanged-at : (count : ℕ) (before after : List Val) (cs : List Change) (u : ℕ) → u < count → HasChanges count before after cs → is_changed u cs ≡ false → value_at after u ≡ value_at before u
unchanged-at count before after cs u low h e = same-if-still (value_at after u) (value_at before u) (sym (h.listed u low) ∙ e)
