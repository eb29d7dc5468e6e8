-- The parts of an input, added up: where each part cancels, the node isn't active.
use Rattle.std.specs.Prelude.{◌≡◌, ℕ, zero, suc, ◌+◌, ◌==◌, Bool, true, false, List, [], ◌∷◌, map, filter, All, Some, None, if◌then◌else◌, refl}
use Rattle.std.specs.List.{sum_by}
use Rattle.std.proofs.Common.{arith, ap, ◌∙◌, inl, inr}
use Rattle.std.proofs.lemmas.Bool.{eqb-true}
use Rattle.std.proofs.lemmas.List.Sums.{sum_by-cons}
use Rattle.std.proofs.lemmas.List.Elements.{All-head, All-tail, All-weaker}
use Rattle.graph_model.specs.declared.value.Val.{Val}
use Rattle.graph_model.specs.declared.value.Val.TheVariants.{Nil, Num}
use Rattle.graph_model.specs.GraphData.{GraphData}
use Rattle.vertex_lang.specs.declared.arc.Arc.{Arc}
use Rattle.vertex_lang.specs.declared.program.Program.{Program}
use Rattle.vertex_lang.specs.Arcs.{messages}
use Rattle.vertex_lang.specs.MessageLaws.{sent_of, messages-sum}
use Rattle.vertex_lang.specs.Expressions.{Answer, start_of}
use Rattle.vertex_lang.specs.Rounds.{value_at, carried, received, lone}
use Rattle.multisets.specs.Multisets.{often}
use Rattle.multisets.specs.CountLaws.{often-append}
use Rattle.multisets.specs.SumLaws.{sum-same, picked-sum}
use Rattle.lone_work.specs.Items.{Item, same_item}
use Rattle.lone_work.specs.Inputs.{own_items, input_in}
use Rattle.lone_work.specs.Work.{previous, node_active}
use Rattle.lone_work.specs.Parts.{Picks, picked, own_in, brought, item_of, IsQuiet, Agree}
use Rattle.lone_work.specs.WorkLaws.{active-by, sum-none}
use Rattle.lone_work.specs.Laws.{NoCandidate, AllAgree}

-- ---- messages by arcs

item-by : (head : Bool) (w : Val) → map Item.message (if head then sent_of w else []) ≡ (if head then item_of w else [])
item-by true Nil = refl
item-by true (Num z) = refl
item-by false w = refl

items-sum : (x : Item) (c : Arc → Val) (arcs : List Arc) (v : ℕ) → often same_item x (map Item.message (messages c arcs v)) ≡ sum_by (λ a. often same_item x (if a.head.0 == v then item_of (c a) else [])) arcs
items-sum x c arcs v =
    messages-sum same_item Item.message x c arcs v
    ∙ sum-same (λ a. often same_item x (map Item.message (if a.head.0 == v then sent_of (c a) else []))) (λ a. often same_item x (if a.head.0 == v then item_of (c a) else [])) arcs (λ a. ap (often same_item x) (item-by (a.head.0 == v) (c a)))

flag-inside : (x : Item) (flag head : Bool) (w : Val) → (if flag then often same_item x (if head then item_of w else []) else 0) ≡ often same_item x (if head then item_of (if flag then w else Nil) else [])
flag-inside x true true w = refl
flag-inside x true false w = refl
flag-inside x false true w = refl
flag-inside x false false w = refl

nothing-by : (x : Item) (head : Bool) → often same_item x (if head then item_of Nil else []) ≡ 0
nothing-by x true = refl
nothing-by x false = refl

-- ---- an input by its parts

module _ (answer : Answer) (p : Program) (graph : GraphData) (all : List Arc) (v : ℕ) where
  part : Picks → Arc → ℕ → List Item
  part picks a k = if a.head.0 == v then item_of (brought answer p graph all picks a k) else []

  parts : (x : Item) (picks : Picks) (k : ℕ) → often same_item x (input_in answer p graph (picked all picks) v k) ≡ often same_item x (own_in answer p graph (picked all picks) v k) + sum_by (λ a. often same_item x (part picks a k)) all
  unfolding part
  parts x None k = omega (arith, sum-none (λ (a : Arc). often same_item x (if a.head.0 == v then item_of Nil else [])) all (λ a. nothing-by x (a.head.0 == v)))
  parts x (Some flag) k =
      let arcs = filter flag all in
      let values = lone answer p graph arcs k in
      let c = carried p graph arcs values in
      omega (
        arith,
        often-append same_item x (own_items p graph values v) (map Item.message (received p graph arcs values v)),
        items-sum x c arcs v,
        picked-sum (λ a. often same_item x (if a.head.0 == v then item_of (c a) else [])) flag all,
        sum-same (λ a. if flag a then often same_item x (if a.head.0 == v then item_of (c a) else []) else 0) (λ a. often same_item x (if a.head.0 == v then item_of (if flag a then c a else Nil) else [])) all (λ a. flag-inside x (flag a) (a.head.0 == v) (c a)),
      )

  parts-previous : (x : Item) (picks : Picks) (r : ℕ) → often same_item x (previous (input_in answer p graph (picked all picks) v) r) ≡ often same_item x (previous (own_in answer p graph (picked all picks) v) r) + sum_by (λ a. often same_item x (previous (part picks a) r)) all
  parts-previous x picks zero = omega (arith, sum-none (λ (a : Arc). 0) all (λ a. refl))
  parts-previous x picks (suc r) = parts x picks r

sums-cancel : (f g h k : Arc → ℕ) (all : List Arc) → All (λ a. f a + k a ≡ g a + h a) all → sum_by f all + sum_by k all ≡ sum_by g all + sum_by h all
sums-cancel f g h k [] each = refl
sums-cancel f g h k (a ∷ all) each = omega (
  arith,
  sum_by-cons f a all,
  sum_by-cons g a all,
  sum_by-cons h a all,
  sum_by-cons k a all,
  All-head (λ b. f b + k b ≡ g b + h b) a all each,
  sums-cancel f g h k all (All-tail (λ b. f b + k b ≡ g b + h b) a all each),
)

always-nothing : (r : ℕ) → previous {A = Item} (λ k. []) r ≡ []
always-nothing zero = refl
always-nothing (suc r) = refl

quiet-arc : (head : Bool) (m n : ℕ → Val) (r : ℕ) → (head ≡ true → IsQuiet (λ k. item_of (m k)) (λ k. item_of (n k)) r) → IsQuiet (λ k. if head then item_of (m k) else []) (λ k. if head then item_of (n k) else []) r
quiet-arc true m n r h = h refl
quiet-arc false m n r h = record { counts = λ x. rw (always-nothing r) refl }

pub no-candidate : NoCandidate
unfolding part node_active
no-candidate answer p graph all new old v r own arcs =
    active-by (input_in answer p graph (Some (filter new all)) v) (input_in answer p graph (picked all old) v) r (record {
      counts = λ x.
          omega (
            arith,
            parts answer p graph all v x (Some new) r,
            parts answer p graph all v x old r,
            parts-previous answer p graph all v x (Some new) r,
            parts-previous answer p graph all v x old r,
            own.counts x,
            sums-cancel (λ a. often same_item x (part answer p graph all v (Some new) a r)) (λ a. often same_item x (part answer p graph all v old a r))
                (λ a. often same_item x (previous (part answer p graph all v (Some new) a) r)) (λ a. often same_item x (previous (part answer p graph all v old a) r)) all
                (All-weaker (λ a. a.head.0 ≡ v → IsQuiet (λ k. item_of (brought answer p graph all (Some new) a k)) (λ k. item_of (brought answer p graph all old a k)) r)
                (λ a. often same_item x (part answer p graph all v (Some new) a r) + often same_item x (previous (part answer p graph all v old a) r) ≡ often same_item x (part answer p graph all v old a r) + often same_item x (previous (part answer p graph all v (Some new) a) r))
                (λ a h. (quiet-arc (a.head.0 == v) (brought answer p graph all (Some new) a) (brought answer p graph all old a) r (λ e. h (eqb-true a.head.0 v e))).counts x) all arcs),
          );
    })

-- ---- by values

agree-quiet : (items : Val → List Item) (m n : ℕ → Val) (r : ℕ) → Agree m n r → IsQuiet (λ k. items (m k)) (λ k. items (n k)) r
agree-quiet items m n zero e = record { counts = λ x. omega (arith, ap (λ w. often same_item x (items w)) e) }
agree-quiet items m n (suc r) (inl e) = record { counts = λ x. omega (arith, ap (λ w. often same_item x (items w)) e.0, ap (λ w. often same_item x (items w)) e.1) }
agree-quiet items m n (suc r) (inr e) = record { counts = λ x. omega (arith, ap (λ w. often same_item x (items w)) e.0, ap (λ w. often same_item x (items w)) e.1) }

pub all-agree : AllAgree
all-agree answer p graph all new old v r own arcs = no-candidate answer p graph all new (Some old) v r
    (agree-quiet (λ w. Item.start (start_of p graph v) ∷ Item.own w ∷ []) (λ k. value_at (lone answer p graph (filter new all) k) v) (λ k. value_at (lone answer p graph (filter old all) k) v) r own)
    (All-weaker (λ a. a.head.0 ≡ v → Agree (brought answer p graph all (Some new) a) (brought answer p graph all (Some old) a) r)
    (λ a. a.head.0 ≡ v → IsQuiet (λ k. item_of (brought answer p graph all (Some new) a k)) (λ k. item_of (brought answer p graph all (Some old) a k)) r)
    (λ a h e. agree-quiet item_of (brought answer p graph all (Some new) a) (brought answer p graph all (Some old) a) r (h e)) all arcs)
