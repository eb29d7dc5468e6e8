-- A node's next value where it is the least of its start and of its messages.
use Rattle.std.specs.Prelude.{◌≡◌, ◌⊎◌, ℕ, ℤ, ◌≤ℤ◌, List, [], ◌∷◌, Contains, length}
use Rattle.std.proofs.Common.{arith, ap, subst, ◌∙◌, inl, inr}
use Rattle.std.proofs.lemmas.Int.{ints}
use Rattle.graph_model.specs.declared.value.Val.{Val}
use Rattle.graph_model.specs.declared.value.Val.TheVariants.{Num}
use Rattle.graph_model.specs.GraphData.{GraphData, id_of}
use Rattle.vertex_lang.specs.declared.arc.Arc.{Arc}
use Rattle.vertex_lang.specs.declared.program.Expr.{Expr}
use Rattle.vertex_lang.specs.declared.program.Expr.TheVariants as expr
use Rattle.vertex_lang.specs.declared.program.Gather.{Gather}
use Rattle.vertex_lang.specs.declared.program.Gather.TheVariants as gather
use Rattle.vertex_lang.specs.declared.program.Program.{Program}
use Rattle.vertex_lang.specs.Arcs.{gathered_of}
use Rattle.vertex_lang.specs.Expressions.{Environment, value_of, start_of, updated, update_words}
use Rattle.vertex_lang.specs.ExtremeLaws.{contains-here, contains-there, contains-none, contains-cases, least-gathered}
use Rattle.vertex_lang.specs.Extremes.{IsLeast}
use Rattle.vertex_lang.specs.Rounds.{value_at, received, next_of}
use Rattle.vertex_lang.specs.Trees.{value-Least, value-Start, value-Gathered}
use Rattle.vertex_lang.specs.Values.{lesser, in_range}
use Rattle.graph_algos.specs.Shared.{least_so_far}

-- ---- the value of the expression

least-so-far-is : (words : Environment) → value_of least_so_far words ≡ in_range (lesser words.start words.gathered)
least-so-far-is words =
    value-Least expr.Start expr.Gathered words
    ∙ ap (λ (x : Val). in_range (lesser x (value_of expr.Gathered words))) (value-Start words)
    ∙ ap (λ (x : Val). in_range (lesser words.start x)) (value-Gathered words)

pub next-is : (p : Program) (graph : GraphData) (arcs : List Arc) (values : List Val) (v : ℕ) → p.gather ≡ gather.Min → p.update ≡ least_so_far
    → next_of updated p graph arcs values v ≡ in_range (lesser (start_of p graph v) (gathered_of gather.Min (received p graph arcs values v)))
next-is p graph arcs values v gathers updates =
    let ms = received p graph arcs values v in
    let words = update_words (id_of graph v) (start_of p graph v) (value_at values v) (gathered_of p.gather ms) (length ms) in
    ap (λ (e : Expr). value_of e words) updates
    ∙ least-so-far-is words
    ∙ ap (λ (kind : Gather). in_range (lesser (start_of p graph v) (gathered_of kind ms))) gathers

-- ---- the least of a value and of messages

after : (x y z : ℤ) → x ≤ℤ y → y ≤ℤ z → x ≤ℤ z
after x y z h k = omega (arith, ints)

-- one of two
of-two : (v w : Val) (z : ℤ) → Contains (v ∷ w ∷ []) (Num z) → (v ≡ Num z) ⊎ (w ≡ Num z)
of-two v w z h = elim (contains-cases v (w ∷ []) (Num z) h) [
  | inl e ↦ inl e
  | inr later ↦ elim (contains-cases w [] (Num z) later) [ inl e ↦ inr e | inr never ↦ absurd (contains-none (Num z) never) ]
]

least-of-two : (v w : Val) → IsLeast (v ∷ w ∷ []) (lesser v w)
least-of-two v w = least-gathered (v ∷ w ∷ [])

second : (v w : Val) (z : ℤ) → w ≡ Num z → Contains (v ∷ w ∷ []) (Num z)
second v w z e = subst (λ (x : Val). Contains (v ∷ w ∷ []) x) e (contains-there v (w ∷ []) w (contains-here w []))

pub least-with : (first : Val) (ms : List Val) → IsLeast (first ∷ ms) (lesser first (gathered_of gather.Min ms))
least-with first ms =
    let rest = gathered_of gather.Min ms in
    let two = least-of-two first rest in
    record {
      member = λ z e. elim (of-two first rest z (two.member z e)) [
        | inl here ↦ subst (λ (x : Val). Contains (first ∷ ms) x) here (contains-here first ms)
        | inr later ↦ contains-there first ms (Num z) ((least-gathered ms).member z later)
      ];
      bounds = λ z h. elim (contains-cases first ms (Num z) h) [
        | inl here ↦ two.bounds z (subst (λ (x : Val). Contains (first ∷ rest ∷ []) x) here (contains-here first (rest ∷ [])))
        | inr later ↦
            let near = (least-gathered ms).bounds z later in
            let far = two.bounds near.0 (second first rest near.0 near.1) in
            (far.0, far.1, after far.0 near.0 z far.2 near.2)
      ];
    }
