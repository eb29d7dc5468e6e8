-- What follows from the definitions, each law as one statement about arcs of one type.
use Rattle.std.specs.Prelude.{ℕ, List, ◌∷◌, ◌++◌, All, Contains}
use Rattle.walk_theory.specs.Walks.{IsWalk, IsWayBack, IsLinked, IsShortened, EndsWithArc}

-- first the one walk and then the other is a walk
abbrev pub WalksJoin : Type 0 → Type 0
WalksJoin A = (ends : A → ℕ × ℕ) (arcs : List A) (u : ℕ) (walk : List A) (v : ℕ) (more : List A) (w : ℕ) → IsWalk ends arcs u walk v → IsWalk ends arcs v more w → IsWalk ends arcs u (walk ++ more) w

-- a walk of some arcs has a last one
abbrev pub WalksEnd : Type 0 → Type 0
WalksEnd A = (ends : A → ℕ × ℕ) (arcs : List A) (u : ℕ) (a : A) (walk : List A) (v : ℕ) → IsWalk ends arcs u (a ∷ walk) v → EndsWithArc ends arcs u (a ∷ walk) v

-- where each arc has a way back, so has each walk
abbrev pub WalksTurn : Type 0 → Type 0
WalksTurn A = (ends : A → ℕ × ℕ) (arcs : List A) → ((a : A) → Contains arcs a → IsWayBack ends arcs a) → (u : ℕ) (walk : List A) (v : ℕ) → IsWalk ends arcs u walk v → IsLinked ends arcs v u

-- where each arc comes to one of the nodes, each walk from one of them can be shortened
abbrev pub WalksShorten : Type 0 → Type 0
WalksShorten A = (ends : A → ℕ × ℕ) (weight : A → ℕ) (arcs : List A) (nodes : List ℕ) → All (λ a. Contains nodes (ends a).1) arcs → (u : ℕ) (walk : List A) (v : ℕ) → Contains nodes u → IsWalk ends arcs u walk v → IsShortened ends weight nodes arcs u walk v
