-- When all who may be active wait, those that don't are calm.
use Rattle.std.proofs.Common.{◌≡◌, ◌∙◌, ◌<◌, ◌∷◌, [], zero, suc, sym, ap, subst, refl, ℕ, Bool, true, false, List, Some, length, get_or, arith, inl, inr}
use Rattle.std.specs.Prelude.{All, Contains, ◌⊎◌, ◌||◌, ◌==◌, not}
use Rattle.std.proofs.lemmas.Bool.{cases_Bool, eqb-true, eq-eqb}
use Rattle.std.proofs.lemmas.List.Elements.{All-head, All-tail, All-cons, All-contains}
use Rattle.std.specs.List.Sorted.{IsPermutation}
use Rattle.std.proofs.lemmas.List.Sorted.{All-permutation, IsPermutation-sym}
use Rattle.graph_model.specs.declared.value.Val.{Val}
use Rattle.graph_model.specs.declared.number.NodeNo.{NodeNo}
use Rattle.graph_model.specs.GraphData.{GraphData}
use Rattle.vertex_lang.specs.declared.arc.Arc.{Arc}
use Rattle.vertex_lang.specs.declared.program.Program.{Program}
use Rattle.vertex_lang.specs.Arcs.{IsArc}
use Rattle.vertex_lang.specs.Expressions.{Answer}
use Rattle.vertex_lang.specs.Ignoring.{IgnoresOutdeg}
use Rattle.lone_work.specs.Work.{node_active}
use Rattle.change_lists.specs.declared.history.Change.{Change}
use Rattle.waiting_nodes.specs.declared.queue.Queue.{Queue}
use Rattle.arc_rows.specs.Views.{in_view, arcs_in, IsTurned}
use Rattle.round_inputs.specs.Inputs.{AreDegrees}
use Rattle.change_lists.specs.ChangeLists.{is_changed, is_listed}
use Rattle.waiting_nodes.specs.Queues.{waits, DegreeAgrees, ValuesAgree, AllHear, IsHeard}
use Rattle.arc_rows.specs.ListLaws.{clash}
use Rattle.round_kernel.proofs.Calm.{Stays, Same, SameDegree, StartsSilent, calm-later, calm-start, Still}
use Rattle.arc_rows.specs.ViewLaws.{same-degree, same-or-turned}

-- what holds at each change holds at each changed node
pub changed-at : (P : ℕ → Type 0) (u : ℕ) (cs : List Change) → All (λ c. P c.node.0) cs → is_changed u cs ≡ true → P u
changed-at P u [] all e = absurd (clash false refl e)
changed-at P u (c ∷ cs) all e = elim (cases_Bool (c.node.0 == u)) [
  | inl at ↦ subst P (eqb-true c.node.0 u at) (All-head (λ d. P d.node.0) c cs all)
  | inr off ↦ changed-at P u cs (All-tail (λ d. P d.node.0) c cs all) (second (c.node.0 == u) (is_changed u cs) off e)
] where
  second : (a b : Bool) → a ≡ false → (a || b) ≡ true → b ≡ true
  second true b f t = absurd cc
  second false b f t = t

pub listed-at : (P : ℕ → Type 0) (u : ℕ) (ns : List NodeNo) → All (λ n. P n.0) ns → is_listed u ns ≡ true → P u
listed-at P u [] all e = absurd (clash false refl e)
listed-at P u (n ∷ ns) all e = elim (cases_Bool (n.0 == u)) [
  | inl at ↦ subst P (eqb-true n.0 u at) (All-head (λ d. P d.0) n ns all)
  | inr off ↦ listed-at P u ns (All-tail (λ d. P d.0) n ns all) (second (n.0 == u) (is_listed u ns) off e)
] where
  second : (a b : Bool) → a ≡ false → (a || b) ≡ true → b ≡ true
  second true b f t = absurd cc
  second false b f t = t

-- two truths are the same, or differ
same-bits : (a b : Bool) → (a ≡ b) ⊎ (a ≡ b → ⊥)
same-bits true true = inl refl
same-bits true false = inr (λ e. absurd cc)
same-bits false true = inr (λ e. absurd cc)
same-bits false false = inl refl

-- no arc from a node is turned, or one is
any-turned : (old new : List Bool) (u : ℕ) (all : List Arc) → All (λ a. a.tail.0 ≡ u → in_view old a ≡ in_view new a) all ⊎ ((i : ℕ) × (i < length all) × ((d : Arc) → (get_or all i d).tail.0 ≡ u) × ((d : Arc) → IsTurned old new (get_or all i d)))
any-turned old new u [] = inl (λ i d low. absurd (omega arith))
any-turned old new u (a ∷ all) = elim (any-turned old new u all) [
  | inr found ↦ inr (suc (found.0), omega (arith, found.1), found.2, found.3)
  | inl none ↦ elim (cases_Bool (a.tail.0 == u)) [
    | inr off ↦ inl (All-cons (λ b. b.tail.0 ≡ u → in_view old b ≡ in_view new b) a all (λ e. absurd (clash (a.tail.0 == u) off (eq-eqb a.tail.0 u e))) none)
    | inl at ↦ elim (same-bits (in_view old a) (in_view new a)) [
      | inl e ↦ inl (All-cons (λ b. b.tail.0 ≡ u → in_view old b ≡ in_view new b) a all (λ t. e) none)
      | inr ne ↦ inr (zero, omega arith, λ d. eqb-true a.tail.0 u at, λ d. ne)
    ]
  ]
]

module _ (answer : Answer) (p : Program) (graph : GraphData) (all tails : List Arc) (old new : List Bool) (by : Bool) (od nd : List ℕ) (watched : List Bool) (q : Queue)
    (perm : IsPermutation all tails) (arcs : All (IsArc graph) all) (degree : by ≡ false → IgnoresOutdeg p.send)
    (od-are : AreDegrees p graph (arcs_in all old) od) (nd-are : AreDegrees p graph (arcs_in all new) nd)
    (watched-are : All (λ a. IsTurned old new a → get_or watched a.tail.0 false ≡ true) all) where
  same-of : (u : ℕ) → u < length graph.ids → DegreeAgrees by od nd u → SameDegree answer p graph all old new u
  same-of u low d = elim d [
    | inl e ↦ inr (degree e)
    | inr e ↦ elim nd-are [
      | inl ignores ↦ inr ignores
      | inr n ↦ elim od-are [
        | inl ignores ↦ inr ignores
        | inr o ↦ inl (sym (n u low) ∙ sym e ∙ o u low)
      ]
    ]
  ]

  -- all arcs from a node are heard, in whatever order they stand
  heard-all : (u : ℕ) → AllHear tails q u → AllHear all q u
  heard-all u h = All-permutation (λ (a : Arc). a.tail.0 ≡ u → waits q a.head.0 ≡ true) tails all (IsPermutation-sym all tails perm) h

  turned-all : (u : ℕ) → All (λ a. a.tail.0 ≡ u → IsTurned old new a → waits q a.head.0 ≡ true) tails → All (λ a. a.tail.0 ≡ u → IsTurned old new a → waits q a.head.0 ≡ true) all
  turned-all u h = All-permutation (λ (a : Arc). a.tail.0 ≡ u → IsTurned old new a → waits q a.head.0 ≡ true) tails all (IsPermutation-sym all tails perm) h

  module _ (k : ℕ) (touched parted : List Bool) (on nn : List Val)
      (tell : (u : ℕ) → u < length graph.ids → Stays answer p graph all old new k u ⊎ (((ValuesAgree touched parted on nn u → Same answer p graph all old new k u) × IsHeard false tails old new by od nd watched touched parted on nn q u) ⊎ Still answer p graph all old new k u)) where
    own-calm : (v : ℕ) → v < length graph.ids → waits q v ≡ false → Stays answer p graph all old new k v ⊎ Same answer p graph all old new k v
    own-calm v low idle = elim (tell v low) [
      | inl s ↦ inl s
      | inr (inr s) ↦ inr s.0
      | inr (inl h) ↦ elim h.1.itself [ inl a ↦ inr (h.0 a.1) | inr w ↦ absurd (clash (waits q v) idle w) ]
    ]

    arc-calm : (v i : ℕ) (d : Arc) → i < length all → waits q v ≡ false → (get_or all i d).head.0 ≡ v
        → Stays answer p graph all old new k (get_or all i d).tail.0 ⊎ (Same answer p graph all old new k (get_or all i d).tail.0 × (in_view old (get_or all i d) ≡ in_view new (get_or all i d)) × SameDegree answer p graph all old new (get_or all i d).tail.0)
    arc-calm v i d low idle at =
        let a = get_or all i d in
        let arc : IsArc graph a = arcs i d low in
        elim (tell a.tail.0 arc.tail) [
          | inl s ↦ inl s
          | inr (inr s) ↦ inr (s.0, s.1 i d low refl, inl (same-degree old new a.tail.0 all s.1))
          | inr (inl h) ↦ elim h.1.readers [
            | inr hear ↦ absurd (clash (waits q v) idle (subst (λ n. waits q n ≡ true) at (heard-all a.tail.0 hear i d low refl)))
            | inl agree ↦ inr (
              h.0 agree.1,
              same-or-turned (in_view old a) (in_view new a) (λ turned. elim h.1.turned [
                | inl off ↦ clash (get_or watched a.tail.0 false) off (watched-are i d low turned)
                | inr hear ↦ clash (waits q v) idle (subst (λ n. waits q n ≡ true) at (turned-all a.tail.0 hear i d low refl turned))
              ]),
              same-of a.tail.0 arc.tail agree.2,
            )
          ]
        ]

    -- a node that doesn't wait isn't active in a later round
    pub idle-later : (v : ℕ) → v < length graph.ids → waits q v ≡ false → node_active answer p graph (arcs_in all new) (Some (arcs_in all old)) v (suc k) ≡ false
    idle-later v low idle = calm-later answer p graph all old new k v (own-calm v low idle) (λ i d within at. arc-calm v i d within idle at)

  -- and not in round 0, where the heads of all turned arcs wait along which something is sent
  pub idle-start : (turned : List Arc) → All (λ a. IsTurned old new a → Contains turned a) all → All (λ a. StartsSilent answer p graph all old new a ⊎ (waits q a.head.0 ≡ true)) turned → All (λ t. DegreeAgrees by od nd t.tail.0 ⊎ AllHear tails q t.tail.0) turned
      → (v : ℕ) → waits q v ≡ false → node_active answer p graph (arcs_in all new) (Some (arcs_in all old)) v 0 ≡ false
  idle-start turned suspects heads readers v idle = calm-start answer p graph all old new v (λ i d low at.
      let a = get_or all i d in
      let arc : IsArc graph a = arcs i d low in
      elim (same-bits (in_view old a) (in_view new a)) [
        | inl still ↦ inr (still, degree-at a i d low at refl arc)
        | inr t ↦ elim (All-contains (λ (b : Arc). StartsSilent answer p graph all old new b ⊎ (waits q b.head.0 ≡ true)) turned a heads (suspects i d low t)) [
          | inl silent ↦ inl silent
          | inr w ↦ absurd (clash (waits q v) idle (subst (λ n. waits q n ≡ true) at w))
        ]
      ]) where
        degree-at : (a : Arc) (i : ℕ) (d : Arc) → i < length all → (get_or all i d).head.0 ≡ v → a ≡ get_or all i d → IsArc graph a → SameDegree answer p graph all old new a.tail.0
        degree-at a i d low at same arc = elim (any-turned old new a.tail.0 all) [
          | inl none ↦ inl (same-degree old new a.tail.0 all none)
          | inr found ↦
              let t = get_or all found.0 a in
              elim (All-contains (λ (b : Arc). DegreeAgrees by od nd b.tail.0 ⊎ AllHear tails q b.tail.0) turned t readers (suspects found.0 a found.1 (found.3 a))) [
                | inl agrees ↦ same-of a.tail.0 arc.tail (subst (λ n. DegreeAgrees by od nd n) (found.2 a) agrees)
                | inr hear ↦ absurd (clash (waits q v) idle (subst (λ n. waits q n ≡ true) at (heard-all t.tail.0 hear i d low (ap (λ (b : Arc). b.tail.0) (sym same) ∙ sym (found.2 a)))))
              ]
        ]

-- ---- how a changed node is heard
