-- What is found among the words of a node as they are read one after the other. No public contract cites this file.
use Rattle.std.specs.Prelude.{◌≡◌, ℕ, ◌==◌, nat_lt, min, sum_by, IsTrue, All, List, [], ◌∷◌, Option, Some, None, if◌then◌else◌}
use Rattle.graph_model.specs.declared.value.Val.{Val}
use Rattle.graph_model.specs.GraphData.{GraphData, id_of}
use Rattle.vertex_lang.specs.declared.program.Program.{Program}
use Rattle.vertex_lang.specs.Arcs.{gathered_of, repeated, is_sent}
use Rattle.vertex_lang.specs.Expressions.{Answer}
use Rattle.vertex_update.specs.declared.single.Single.{Single}
use Rattle.vertex_update.specs.declared.single.Single.TheVariants.{Nothing, One, Other}

-- with one value more
abbrev pub with_one : Single → Val × ℕ → Single
with_one Nothing e = if e.1 == 1 then One e.0 else Other
with_one (One v) e = Other
with_one Other e = Other

abbrev pub told : Single → Option Val
told Nothing = None
told (One v) = Some v
told Other = None

-- the messages are sent, and the count is the sum of their weights, or 2^32 where that isn't below it
pub record IsFound (messages : List (Val × ℕ)) (count : ℕ) : Type 0 where
  pub sent : All (λ m. IsTrue (is_sent m.0)) messages
  pub sum : count ≡ min (sum_by (λ m. m.1) messages) 4_294_967_296

-- the next value of a node, from what was found
abbrev pub next_of : Answer → Program → GraphData → ℕ → Single → Single → List (Val × ℕ) → ℕ → Option Val
next_of answer p graph v Nothing own messages count = None
next_of answer p graph v Other own messages count = None
next_of answer p graph v (One start) Nothing messages count = None
next_of answer p graph v (One start) Other messages count = None
next_of answer p graph v (One start) (One own) messages count = if nat_lt count 4_294_967_296 then Some (answer p (id_of graph v) start own (gathered_of p.gather (repeated messages)) count) else None

-- a value as what is given, once
abbrev pub given_of : Option Val → List (Val × ℕ)
given_of None = []
given_of (Some v) = (v, 1) ∷ []
