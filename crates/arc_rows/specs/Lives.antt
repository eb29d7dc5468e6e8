-- What is kept of the arcs of one view: for each node, what is picked of the arcs that come to it.
use Rattle.std.specs.Prelude.{◌≡◌, ◌≢◌, ◌<◌, ◌≤◌, ◌+◌, ℕ, Bool, true, false, List, length, map, filter, get_or, take, drop}
use Rattle.vertex_lang.specs.declared.arc.Arc.{Arc}
use Rattle.arc_rows.specs.declared.live.Live.{Live}
use Rattle.arc_rows.specs.declared.live.Place.{Place}
use Rattle.arc_rows.specs.Views.{in_view, row_of}

-- where the items of a node stand
abbrev pub place_at : List Place → ℕ → Place
place_at places v = get_or places v (record { from = 0; count = 0 })

-- the items of a node
abbrev pub row_in : {A : Type 0} → List A → List Place → ℕ → List A
row_in items places v = take (place_at places v).count (drop (place_at places v).from items)

-- what is picked of those of these arcs that are in a view, in their order
abbrev pub picked_of : {A : Type 0} → (Arc → A) → List Bool → List Arc → List A
picked_of pick edges row = map pick (filter (in_view edges) row)

-- each node, of so many, has room for as many items as arcs come to it, behind the room of those before
pub record IsLaid {A : Type 0} (all : List Arc) (count : ℕ) (live : Live A) : Type 0 where
  pub size : length live.places.items ≡ count
  pub few : (v : ℕ) → v < count → (place_at live.places.items v).count ≤ length (row_of all v)
  pub apart : (u v : ℕ) → u < v → v < count → (place_at live.places.items u).from + length (row_of all u) ≤ (place_at live.places.items v).from
  pub within : (v : ℕ) → v < count → (place_at live.places.items v).from + length (row_of all v) ≤ length live.items.items

-- for each node, of so many, its items are what is picked of its arcs in the view
pub record AreLive {A : Type 0} (pick : Arc → A) (all : List Arc) (edges : List Bool) (count : ℕ) (live : Live A) : Type 0 where
  pub laid : IsLaid all count live
  pub row : (v : ℕ) → v < count → row_in live.items.items live.places.items v ≡ picked_of pick edges (row_of all v)

-- ---- made anew

-- what is picked of these arcs was put into this room, so many items, and nothing elsewhere
pub record ArePut {A : Type 0} (pick : Arc → A) (edges : List Bool) (from room : ℕ) (row : List Arc) (count : ℕ) (old new : List A) : Type 0 where
  pub size : length new ≡ length old
  pub few : count ≤ length row
  pub before : take from new ≡ take from old
  pub behind : drop (from + room) new ≡ drop (from + room) old
  pub made : take count (drop from new) ≡ picked_of pick edges row

-- the items of a node are those of a view, and those of the others stay
pub record IsRenewed {A : Type 0} (pick : Arc → A) (all : List Arc) (edges : List Bool) (count node : ℕ) (old new : Live A) : Type 0 where
  pub laid : IsLaid all count new
  pub made : row_in new.items.items new.places.items node ≡ picked_of pick edges (row_of all node)
  pub others : (v : ℕ) → v < count → v ≢ node → row_in new.items.items new.places.items v ≡ row_in old.items.items old.places.items v

-- the items of those of the first so many nodes that are chosen are those of a view, and those of the others stay
pub record AreRenewed {A : Type 0} (pick : Arc → A) (all : List Arc) (edges : List Bool) (count : ℕ) (chosen : List Bool) (done : ℕ) (old new : Live A) : Type 0 where
  pub laid : IsLaid all count new
  pub made : (v : ℕ) → v < count → v < done → get_or chosen v false ≡ true → row_in new.items.items new.places.items v ≡ picked_of pick edges (row_of all v)
  pub others : (v : ℕ) → v < count → get_or chosen v false ≡ false → row_in new.items.items new.places.items v ≡ row_in old.items.items old.places.items v
