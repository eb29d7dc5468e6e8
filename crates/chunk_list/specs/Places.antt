-- The places of a chunk, each empty or with an item, and the chunks of a list.
use Rattle.std.specs.Prelude.{◌≡◌, ℕ, ◌-◌, get_or, List, [], ◌∷◌, ◌++◌, map, length, take, drop, replicate, Option, Some, None}
use Rattle.std.proofs.Common.{zero, suc}

module _ {X : Type 0} where
  -- the items that are there
  abbrev pub somes : List (Option X) → List X
  somes [] = []
  somes (None ∷ cs) = somes cs
  somes (Some x ∷ cs) = x ∷ somes cs

  -- the place at the index holds an item
  abbrev pub IsFilled : List (Option X) → ℕ → Type 0
  IsFilled cs i = (x : X) × (get_or cs i None ≡ Some x)

  -- n places that begin with the items
  abbrev pub filled : List X → ℕ → List (Option X)
  filled xs n = map Some xs ++ replicate (n - length xs) None

  -- the items of all chunks, one chunk after another
  abbrev pub joined : List (List X) → List X
  joined [] = []
  joined (c ∷ cs) = c ++ joined cs

  -- the items in n chunks of 64, each full before the next has one
  abbrev pub pieces : ℕ → List X → List (List X)
  pieces zero xs = []
  pieces (suc n) xs = take 64 xs ∷ pieces n (drop 64 xs)
