-- Arcs that are in one of two views alone, and that are told in rows.
use Rattle.std.proofs.Common.{◌≡◌, ◌∙◌, ◌∷◌, [], sym, ap, subst, ℕ, Bool, true, List, get_or, inl, inr, filter, ◌-◌}
use Rattle.std.specs.Prelude.{All, Contains, ◌==◌}
use Rattle.std.proofs.lemmas.Bool.{cases_Bool}
use Rattle.std.proofs.lemmas.List.Elements.{All-contains, All-head, All-tail, All-cons, All-nil}
use Rattle.vertex_lang.specs.declared.arc.Arc.{Arc}
use Rattle.vertex_lang.specs.ExtremeLaws.{contains-here, contains-there, contains-none, contains-cases}
use Rattle.arc_rows.specs.Views.{IsTurned}
use Rattle.waiting_nodes.specs.Queues.{waits}
use Rattle.waiting_nodes.specs.declared.queue.Queue.{Queue}
use Rattle.waiting_nodes.specs.WaitingLaws.{row-hears}

-- one of the chosen ones
pub contains-chosen : (h : Arc → Bool) (xs : List Arc) (a : Arc) → Contains xs a → h a ≡ true → Contains (filter h xs) a
contains-chosen h [] a has chosen = absurd (contains-none a has)
contains-chosen h (x ∷ xs) a has chosen = elim (contains-cases x xs a has) [
  | inl here ↦
      let at : h x ≡ true = ap h here ∙ chosen in
      rw at (subst (λ (y : Arc). Contains (y ∷ filter h xs) a) (sym here) (contains-here a (filter h xs)))
  | inr there ↦
      let rest = contains-chosen h xs a there chosen in
      elim (cases_Bool (h x)) [
        | inl e ↦ rw e (contains-there x (filter h xs) a rest)
        | inr e ↦ rw e rest
      ]
]

-- a row of arcs is given whole where those of it that are turned wait
pub turned-hear : (old new : List Bool) (tails told row : List Arc) (u : ℕ) (q : Queue) → row ≡ filter (λ a. a.tail.0 == u) told → All (λ a. waits q a.head.0 ≡ true) row
    → All (λ a. IsTurned old new a → Contains told a) tails → All (λ a. a.tail.0 ≡ u → IsTurned old new a → waits q a.head.0 ≡ true) tails
turned-hear old new tails told row u q e all each = λ i d low at t.
    All-contains (λ (b : Arc). b.tail.0 ≡ u → waits q b.head.0 ≡ true) told (get_or tails i d) (row-hears told row u q e all) (each i d low t) at

-- what follows for the chosen ones
pub All-filtered : {A : Type 0} (P Q : A → Type 0) (h : A → Bool) → ((x : A) → h x ≡ true → P x → Q x) → (xs : List A) → All P xs → All Q (filter h xs)
All-filtered P Q h then [] each = All-nil Q
All-filtered P Q h then (x ∷ xs) each =
    let rest = All-filtered P Q h then xs (All-tail P x xs each) in
    elim (cases_Bool (h x)) [
      | inl e ↦ rw e (All-cons Q x (filter h xs) (then x e (All-head P x xs each)) rest)
      | inr e ↦ rw e rest
    ]
