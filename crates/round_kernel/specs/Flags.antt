-- What is set, node by node, of which nodes may send something else in two views.
use Rattle.std.specs.Prelude.{◌≡◌, ◌⊎◌, ℕ, Bool, true, false, List, length, get_or}
use Rattle.graph_model.specs.declared.value.Val.{Val}
use Rattle.vertex_lang.specs.Expressions.{sent_by}
use Rattle.vertex_lang.specs.Rounds.{value_at}
use Rattle.change_lists.specs.declared.history.Change.{Change}
use Rattle.round_kernel.specs.declared.frame.Frame.{Frame}
use Rattle.round_kernel.specs.declared.frame.Lists.{Lists}
use Rattle.change_lists.specs.ChangeLists.{is_changed}

-- a node without the flag sends the same in both views, by the lists
abbrev pub IsFlagged : Frame → Lists → ℕ → Bool → Type 0
IsFlagged f lists u flag = flag ≡ false → (e : ℕ)
    → sent_by f.program.now f.graph.now u (value_at lists.old_now.items u) (get_or lists.old_degrees.items u 0) e
    ≡ sent_by f.program.now f.graph.now u (value_at lists.new_now.items u) (get_or lists.new_degrees.items u 0) e

-- the same; or the node was never touched, and the message doesn't depend on how many arcs leave it
abbrev pub IsSettled : Frame → Lists → ℕ → Bool → Type 0
IsSettled f lists u flag = IsFlagged f lists u flag ⊎ ((f.by_degree ≡ false) × (get_or lists.touched.items u false ≡ false))

-- a node that was touched has the same value in both views without the flag
abbrev pub IsParted : List Bool → List Val → List Val → ℕ → Bool → Type 0
IsParted touched old_now new_now u flag = (get_or touched u false ≡ false) ⊎ (flag ≡ false → value_at old_now u ≡ value_at new_now u)

-- there is a value and a number of arcs of each node, of so many, in both views
pub record AreLong (count : ℕ) (lists : Lists) : Type 0 where
  pub touched : length lists.touched.items ≡ count
  pub old_values : length lists.old_now.items ≡ count
  pub new_values : length lists.new_now.items ≡ count
  pub old_degrees : length lists.old_degrees.items ≡ count
  pub new_degrees : length lists.new_degrees.items ≡ count

-- what stands for a changed node is right, and for the others it's what it was
pub record AreSet {A : Type 0} (IsRight : ℕ → A → Type 0) (none : A) (changes : List Change)
    (before after : List A) : Type 0 where
  pub size : length after ≡ length before
  pub right : (u : ℕ) → is_changed u changes ≡ true → IsRight u (get_or after u none)
  pub others : (u : ℕ) → is_changed u changes ≡ false → get_or after u none ≡ get_or before u none
