-- The input of a node by its parts: its own items, and what each arc brings. The arcs of a view are those among all arcs that a test picks.
use Rattle.std.specs.Prelude.{true, false, ◌≡◌, ℕ, zero, suc, ◌⊎◌, Bool, List, [], ◌∷◌, Option, Some, None, filter, if◌then◌else◌}
use Rattle.graph_model.specs.declared.value.Val.{Val}
use Rattle.graph_model.specs.declared.value.Val.TheVariants.{Nil, Num}
use Rattle.graph_model.specs.GraphData.{GraphData}
use Rattle.vertex_lang.specs.declared.arc.Arc.{Arc}
use Rattle.vertex_lang.specs.declared.program.Program.{Program}
use Rattle.vertex_lang.specs.Arcs.{outdeg}
use Rattle.vertex_lang.specs.Expressions.{Answer}
use Rattle.vertex_lang.specs.Ignoring.{IgnoresOutdeg}
use Rattle.vertex_lang.specs.Rounds.{value_at, carried, lone}
use Rattle.multisets.specs.Multisets.{DoCancel}
use Rattle.lone_work.specs.Items.{Item, same_item}
use Rattle.lone_work.specs.Inputs.{own_items}
use Rattle.lone_work.specs.Work.{previous}

-- which of all arcs are in a view, if there's one
abbrev pub Picks : Type 0
Picks = Option (Arc → Bool)

abbrev pub picked : List Arc → Picks → Option (List Arc)
picked all None = None
picked all (Some in_view) = Some (filter in_view all)

abbrev pub own_in : Answer → Program → GraphData → Option (List Arc) → ℕ → ℕ → List Item
own_in answer p graph None v r = []
own_in answer p graph (Some arcs) v r = own_items p graph (lone answer p graph arcs r) v

-- the message of an arc in a round; none where the arc isn't in the view
abbrev pub brought : Answer → Program → GraphData → List Arc → Picks → Arc → ℕ → Val
brought answer p graph all None a r = Nil
brought answer p graph all (Some in_view) a r = if in_view a then carried p graph (filter in_view all) (lone answer p graph (filter in_view all) r) a else Nil

-- none isn't sent
abbrev pub item_of : Val → List Item
item_of Nil = []
item_of (Num z) = Item.message (Num z) ∷ []

-- what one part of a node's inputs adds to the difference
abbrev pub IsQuiet : (ℕ → List Item) → (ℕ → List Item) → ℕ → Type 0
IsQuiet new old r = DoCancel same_item (new r) (old r) (previous new r) (previous old r)

-- a value that is the same in both views, now and in the round before, or stayed in both
abbrev pub Agree : (ℕ → Val) → (ℕ → Val) → ℕ → Type 0
Agree new old zero = new zero ≡ old zero
Agree new old (suc r) = ((new (suc r) ≡ old (suc r)) × (new r ≡ old r)) ⊎ ((new (suc r) ≡ new r) × (old (suc r) ≡ old r))

-- what an arc brings can't make its head active: it is in both views, and its tail's value and degree agree; or it is in neither; or its messages agree
abbrev pub IsCalm : Answer → Program → GraphData → List Arc → (Arc → Bool) → (Arc → Bool) → Arc → ℕ → Type 0
IsCalm answer p graph all new old a r =
    ((new a ≡ true) × (old a ≡ true)
    × ((outdeg (filter new all) a.tail.0 ≡ outdeg (filter old all) a.tail.0) ⊎ IgnoresOutdeg p.send)
    × Agree (λ k. value_at (lone answer p graph (filter new all) k) a.tail.0) (λ k. value_at (lone answer p graph (filter old all) k) a.tail.0) r)
    ⊎ ((new a ≡ false) × (old a ≡ false))
    ⊎ Agree (brought answer p graph all (Some new) a) (brought answer p graph all (Some old) a) r
