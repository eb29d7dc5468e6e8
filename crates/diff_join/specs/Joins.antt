-- The function of a join, and products of differences at their times.
use Rattle.std.specs.Prelude.{◌≡◌, ℕ, Bool, List, [], ◌∷◌, ◌++◌, if◌then◌else◌, Option, Some, None}
use Rattle.std.specs.declared.cmp.Ordering.{Ordering}
use Rattle.std.specs.Ordering.{is_eq, is_ne}
use Rattle.weighted.specs.WordLaws.{mapped}
use Rattle.weighted.specs.SumLaws.{filtered, product}
use Rattle.flow_core.specs.declared.side.Side.{Side}
use Rattle.flow_core.specs.Sides.{lefts, rights}

-- a record with a weight, where there is one
abbrev pub one : {O : Type 0} → Option O → ℕ → List (O × ℕ)
one None w = []
one (Some o) w = (o, w) ∷ []

-- what a function gives for each record, with the record's weight
abbrev pub given : {R O : Type 0} → (R → Option O) → List (R × ℕ) → List (O × ℕ)
given f [] = []
given f (e ∷ es) = one (f e.0) e.1 ++ given f es

-- what a pairing gives for a left record and a right one: nothing where their keys differ
abbrev pub pairs : {K A B O : Type 0} → (K → K → Ordering) → (K → A → B → Option O) → (K × A) × (K × B) → Option O
pairs kcmp gives r = if is_eq (kcmp r.0.0 r.1.0) then gives r.0.0 r.0.1 r.1.1 else None

-- the same where both keys are known to be equal
abbrev pub unkeyed : {K A B O : Type 0} → (K → A → B → Option O) → (K × A) × (K × B) → Option O
unkeyed gives r = gives r.0.0 r.0.1 r.1.1

-- the function of a join: what the pairing gives for each left record with each right one, with the product of their weights
abbrev pub joined_sides : {K A B O : Type 0} → (K → K → Ordering) → (K → A → B → Option O) → List (Side (K × A) (K × B) × ℕ) → List (O × ℕ)
joined_sides kcmp gives es = given (pairs kcmp gives) (product (lefts es) (rights es))

-- ---- entries of one key

-- the entries are those of the key that is held, where one is
abbrev pub AreHeld : {K W T : Type 0} → (K → K → Ordering) → List (((K × W) × T) × ℕ) → Option K → List (((K × W) × T) × ℕ) → Type 0
AreHeld kcmp all None entries = Unit {0}
AreHeld kcmp all (Some k) entries = entries ≡ filtered (λ r. is_eq (kcmp r.0.0 k)) all

-- ---- products at times

-- a record at a time, where there is one
abbrev pub timed : {T O : Type 0} → T → Option O → Option (T × O)
timed s None = None
timed s (Some o) = Some (s, o)

-- what a function gives for a difference at t and one at another time, at the least upper bound of both times
abbrev pub at_bound : {X Y T O : Type 0} → (T → T → T) → (X × Y → Option O) → T → X × (Y × T) → Option (T × O)
at_bound lub f t r = timed (lub r.1.1 t) (f (r.0, r.1.0))

-- the products at times at or below u, without their times
abbrev pub products_to : {T O : Type 0} → (T → T → Bool) → T → List ((T × O) × ℕ) → List (O × ℕ)
products_to leq u es = mapped (λ r. r.1) (filtered (λ r. leq r.0 u) es)

-- the products at one time, without that time
abbrev pub products_at : {T O : Type 0} → (T → T → Ordering) → T → List ((T × O) × ℕ) → List (O × ℕ)
products_at tcmp t es = mapped (λ r. r.1) (filtered (λ r. is_eq (tcmp r.0 t)) es)

-- the products at other times
abbrev pub products_after : {T O : Type 0} → (T → T → Ordering) → T → List ((T × O) × ℕ) → List ((T × O) × ℕ)
products_after tcmp t es = filtered (λ r. is_ne (tcmp r.0 t)) es

-- the times of products
abbrev pub due_times : {T O : Type 0} → List ((T × O) × ℕ) → List T
due_times [] = []
due_times (e ∷ es) = e.0.0 ∷ due_times es
