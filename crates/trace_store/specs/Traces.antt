-- Collections of records at times: lists of ((record, time), weight), where the records of a trace are keys with values.
use Rattle.std.specs.Prelude.{◌≢◌, ℕ, Bool, List}
use Rattle.std.specs.declared.cmp.Ordering.{Ordering}
use Rattle.std.specs.Ordering.{is_eq, ordering_then}
use Rattle.weighted.specs.Words.{word}
use Rattle.weighted.specs.WordLaws.{mapped}
use Rattle.weighted.specs.SumLaws.{filtered}

-- a record at a time
abbrev pub at_time : {R T : Type 0} → T → R → R × T
at_time t r = (r, t)

-- the same record, its time read as the least upper bound with another
abbrev pub later : {R T : Type 0} → (T → T → T) → T → R × T → R × T
later lub f r = (r.0, lub r.1 f)

-- the collection at a time: what came at times at or below it, without the times
abbrev pub accumulated : {R T : Type 0} → (T → T → Bool) → T → List ((R × T) × ℕ) → List (R × ℕ)
accumulated leq t es = mapped (λ r. r.0) (filtered (λ r. leq r.1 t) es)

-- the values of a key
abbrev pub values_of : {K V : Type 0} → (K → K → Ordering) → K → List ((K × V) × ℕ) → List (V × ℕ)
values_of kcmp key es = mapped (λ r. r.1) (filtered (λ r. is_eq (kcmp r.0 key)) es)

-- pairs in the order of their first parts, and where these are equal of their second parts
abbrev pub in_turn : {A B : Type 0} → (A → A → Ordering) → (B → B → Ordering) → A × B → A × B → Ordering
in_turn acmp bcmp x y = ordering_then (acmp x.0 y.0) (bcmp x.1 y.1)

-- keys, values and times in this order
abbrev pub trace_cmp : {K V T : Type 0} → (K → K → Ordering) → (V → V → Ordering) → (T → T → Ordering) → (K × V) × T → (K × V) × T → Ordering
trace_cmp kcmp vcmp tcmp = in_turn (in_turn kcmp vcmp) tcmp

-- some value of a key has a weight other than zero at a time, modulo 2^64
abbrev pub IsTimeOf : {K V T : Type 0} → ((K × V) × T → (K × V) × T → Ordering) → List (((K × V) × T) × ℕ) → K → T → Type 0
IsTimeOf {K} {V} cmp es key t = (v : V) × (word cmp es ((key, v), t) ≢ 0)
