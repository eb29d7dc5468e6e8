-- A node that doesn't wait isn't active.
use Rattle.std.proofs.Common.{◌≡◌, ◌∙◌, ◌∷◌, [], suc, sym, ap, refl, ℕ, Bool, true, false, List, Some, None, arith, inl, inr}
use Rattle.std.specs.Prelude.{All, ◌⊎◌, if◌then◌else◌}
use Rattle.std.proofs.lemmas.Bool.{cases_Bool}
use Rattle.std.proofs.lemmas.List.Elements.{All-weaker}
use Rattle.graph_model.specs.declared.value.Val.{Val}
use Rattle.graph_model.specs.declared.value.Val.TheVariants.{Nil}
use Rattle.graph_model.specs.GraphData.{GraphData}
use Rattle.vertex_lang.specs.declared.arc.Arc.{Arc}
use Rattle.vertex_lang.specs.declared.program.Program.{Program}
use Rattle.vertex_lang.specs.Arcs.{outdeg}
use Rattle.vertex_lang.specs.Expressions.{Answer, sent_by, start_of}
use Rattle.vertex_lang.specs.Rounds.{value_at, lone}
use Rattle.multisets.specs.Multisets.{often}
use Rattle.lone_work.specs.Items.{Item, same_item}
use Rattle.lone_work.specs.Parts.{brought, item_of, IsQuiet, Agree, IsCalm, own_in}
use Rattle.vertex_lang.specs.Ignoring.{IgnoresOutdeg}
use Rattle.lone_work.specs.Work.{node_active}
use Rattle.lone_work.specs.CountLaws.{calm-arcs}
use Rattle.lone_work.specs.PartLaws.{no-candidate}
use Rattle.lone_work.specs.WorkLaws.{starts-agree}
use Rattle.arc_rows.specs.Views.{in_view, arcs_in}

module _ (answer : Answer) (p : Program) (graph : GraphData) (all : List Arc) (old new : List Bool) where
  -- the value of a node stays in both views
  abbrev pub Stays : ℕ → ℕ → Type 0
  Stays k u = (value_at (lone answer p graph (arcs_in all new) (suc k)) u ≡ value_at (lone answer p graph (arcs_in all new) k) u)
      × (value_at (lone answer p graph (arcs_in all old) (suc k)) u ≡ value_at (lone answer p graph (arcs_in all old) k) u)

  -- it is the same in both views, now and in the round before
  abbrev pub Same : ℕ → ℕ → Type 0
  Same k u = (value_at (lone answer p graph (arcs_in all new) (suc k)) u ≡ value_at (lone answer p graph (arcs_in all old) (suc k)) u)
      × (value_at (lone answer p graph (arcs_in all new) k) u ≡ value_at (lone answer p graph (arcs_in all old) k) u)

  -- it is the same in both views, and each arc that leaves the node is in both or in none
  abbrev pub Still : ℕ → ℕ → Type 0
  Still k u = Same k u × All (λ a. a.tail.0 ≡ u → in_view old a ≡ in_view new a) all

  abbrev pub SameDegree : ℕ → Type 0
  SameDegree u = (outdeg (arcs_in all new) u ≡ outdeg (arcs_in all old) u) ⊎ IgnoresOutdeg p.send

  -- an arc whose tail stays brings the same as in the round before
  stays-brought : (k : ℕ) (a : Arc) → Stays k a.tail.0 → Agree (brought answer p graph all (Some (in_view new)) a) (brought answer p graph all (Some (in_view old)) a) (suc k)
  stays-brought k a s = inr (
    ap (λ (w : Val). if in_view new a then sent_by p graph a.tail.0 w (outdeg (arcs_in all new) a.tail.0) a.edge.0 else Nil) s.0,
    ap (λ (w : Val). if in_view old a then sent_by p graph a.tail.0 w (outdeg (arcs_in all old) a.tail.0) a.edge.0 else Nil) s.1,
  )

  calm-arc : (k v : ℕ) (a : Arc) → (a.head.0 ≡ v → Stays k a.tail.0 ⊎ (Same k a.tail.0 × (in_view old a ≡ in_view new a) × SameDegree a.tail.0)) → a.head.0 ≡ v → IsCalm answer p graph all (in_view new) (in_view old) a (suc k)
  calm-arc k v a h e = elim (h e) [
    | inl s ↦ inr (inr (stays-brought k a s))
    | inr s ↦ elim (cases_Bool (in_view new a)) [
      | inl t ↦ inl (t, s.1 ∙ t, s.2, inl s.0)
      | inr t ↦ inr (inl (t, s.1 ∙ t))
    ]
  ]

  pub calm-later : (k v : ℕ) → Stays k v ⊎ Same k v
      → All (λ a. a.head.0 ≡ v → Stays k a.tail.0 ⊎ (Same k a.tail.0 × (in_view old a ≡ in_view new a) × SameDegree a.tail.0)) all
      → node_active answer p graph (arcs_in all new) (Some (arcs_in all old)) v (suc k) ≡ false
  calm-later k v own arcs = calm-arcs answer p graph all (in_view new) (in_view old) v (suc k) (elim own [ inl s ↦ inr s | inr s ↦ inl s ])
      (All-weaker (λ a. a.head.0 ≡ v → Stays k a.tail.0 ⊎ (Same k a.tail.0 × (in_view old a ≡ in_view new a) × SameDegree a.tail.0)) (λ a. a.head.0 ≡ v → IsCalm answer p graph all (in_view new) (in_view old) a (suc k)) (λ a h. calm-arc k v a h) all arcs)

  -- nothing is sent along the arc at the start, however many arcs leave its tail
  abbrev pub StartsSilent : Arc → Type 0
  StartsSilent a = (m : ℕ) → sent_by p graph a.tail.0 (value_at (lone answer p graph (arcs_in all new) 0) a.tail.0) m a.edge.0 ≡ Nil

  nothing-if : (b : Bool) (w : Val) → w ≡ Nil → (if b then w else Nil) ≡ Nil
  nothing-if true w e = e
  nothing-if false w e = refl

  -- an arc along which nothing is sent brings nothing in either view
  silent-brought : (a : Arc) → StartsSilent a → Agree (brought answer p graph all (Some (in_view new)) a) (brought answer p graph all (Some (in_view old)) a) 0
  silent-brought a s =
      nothing-if (in_view new a) (sent_by p graph a.tail.0 (value_at (lone answer p graph (arcs_in all new) 0) a.tail.0) (outdeg (arcs_in all new) a.tail.0) a.edge.0) (s (outdeg (arcs_in all new) a.tail.0))
      ∙ sym (nothing-if (in_view old a) (sent_by p graph a.tail.0 (value_at (lone answer p graph (arcs_in all old) 0) a.tail.0) (outdeg (arcs_in all old) a.tail.0) a.edge.0)
      (ap (λ (w : Val). sent_by p graph a.tail.0 w (outdeg (arcs_in all old) a.tail.0) a.edge.0) (sym (starts-agree answer p graph (arcs_in all new) (arcs_in all old) a.tail.0)) ∙ s (outdeg (arcs_in all old) a.tail.0)))

  pub calm-start : (v : ℕ) → All (λ a. a.head.0 ≡ v → StartsSilent a ⊎ ((in_view old a ≡ in_view new a) × SameDegree a.tail.0)) all
      → node_active answer p graph (arcs_in all new) (Some (arcs_in all old)) v 0 ≡ false
  calm-start v arcs = calm-arcs answer p graph all (in_view new) (in_view old) v 0 (starts-agree answer p graph (arcs_in all new) (arcs_in all old) v)
      (All-weaker (λ a. a.head.0 ≡ v → StartsSilent a ⊎ ((in_view old a ≡ in_view new a) × SameDegree a.tail.0)) (λ a. a.head.0 ≡ v → IsCalm answer p graph all (in_view new) (in_view old) a 0) (λ a h e. start-arc a (h e)) all arcs) where
        start-arc : (a : Arc) → StartsSilent a ⊎ ((in_view old a ≡ in_view new a) × SameDegree a.tail.0) → IsCalm answer p graph all (in_view new) (in_view old) a 0
        start-arc a h = elim h [
          | inl silent ↦ inr (inr (silent-brought a silent))
          | inr s ↦ elim (cases_Bool (in_view new a)) [
            | inl t ↦ inl (t, s.0 ∙ t, s.1, starts-agree answer p graph (arcs_in all new) (arcs_in all old) a.tail.0)
            | inr t ↦ inr (inl (t, s.0 ∙ t))
          ]
        ]

-- where there's no view before: a node is not active where its value and its messages stay
module _ (answer : Answer) (p : Program) (graph : GraphData) (all : List Arc) (new : List Bool) where
  own-quiet : (k v : ℕ) → value_at (lone answer p graph (arcs_in all new) (suc k)) v ≡ value_at (lone answer p graph (arcs_in all new) k) v
      → IsQuiet (own_in answer p graph (Some (arcs_in all new)) v) (own_in answer p graph None v) (suc k)
  own-quiet k v e = record { counts = λ x. omega (arith, ap (λ (w : Val). often same_item x (Item.start (start_of p graph v) ∷ Item.own w ∷ [])) e) }

  arc-quiet : (k : ℕ) (a : Arc) → value_at (lone answer p graph (arcs_in all new) (suc k)) a.tail.0 ≡ value_at (lone answer p graph (arcs_in all new) k) a.tail.0
      → IsQuiet (λ n. item_of (brought answer p graph all (Some (in_view new)) a n)) (λ n. item_of (brought answer p graph all None a n)) (suc k)
  arc-quiet k a e = record { counts = λ x. omega (arith, ap (λ (w : Val). often same_item x (item_of (if in_view new a then sent_by p graph a.tail.0 w (outdeg (arcs_in all new) a.tail.0) a.edge.0 else Nil))) e) }

  pub calm-first : (k v : ℕ) → value_at (lone answer p graph (arcs_in all new) (suc k)) v ≡ value_at (lone answer p graph (arcs_in all new) k) v
      → All (λ a. a.head.0 ≡ v → value_at (lone answer p graph (arcs_in all new) (suc k)) a.tail.0 ≡ value_at (lone answer p graph (arcs_in all new) k) a.tail.0) all
      → node_active answer p graph (arcs_in all new) None v (suc k) ≡ false
  calm-first k v own arcs = no-candidate answer p graph all (in_view new) None v (suc k) (own-quiet k v own)
      (All-weaker (λ a. a.head.0 ≡ v → value_at (lone answer p graph (arcs_in all new) (suc k)) a.tail.0 ≡ value_at (lone answer p graph (arcs_in all new) k) a.tail.0)
      (λ a. a.head.0 ≡ v → IsQuiet (λ n. item_of (brought answer p graph all (Some (in_view new)) a n)) (λ n. item_of (brought answer p graph all None a n)) (suc k)) (λ a h e. arc-quiet k a (h e)) all arcs)

-- ---- degrees, where no arc from a node is turned
