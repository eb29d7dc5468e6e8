-- How many arcs of a view leave each node, as the code counts them; lists of how values differ.
use Rattle.std.proofs.Common.{◌≡◌, ◌∙◌, ◌<◌, ◌+◌, ◌++◌, ◌∷◌, [], ap, refl, ℕ, Bool, true, false, List, length, take, arith, inl, inr}
use Rattle.std.specs.Prelude.{not, if◌then◌else◌}
use Rattle.std.proofs.lemmas.Bool.{cases_Bool}
use Rattle.std.proofs.lemmas.List.{take_more, length-take}
use Rattle.graph_model.specs.declared.value.Val.{Val}
use Rattle.graph_model.specs.declared.value.Val.TheVariants.{Nil}
use Rattle.vertex_lang.specs.Lone.{same_value}
use Rattle.vertex_lang.specs.Rounds.{value_at}
use Rattle.change_lists.specs.declared.history.Change.{Change}
use Rattle.change_lists.specs.ChangeLists.{changes_from, all_from}

abbrev change : ℕ → Val → Change
change n y = record { node = record { 0 = n }; value = y }

pub from-more : (n : ℕ) (xs ys : List Val) (x y : Val) → length xs ≡ length ys → changes_from n (xs ++ x ∷ []) (ys ++ y ∷ []) ≡ changes_from n xs ys ++ (if same_value x y then [] else (record { node = record { 0 = n + length ys }; value = y } ∷ []))
from-more n [] [] x y e = elim (cases_Bool (same_value x y)) [
  | inl t ↦ rw t refl
  | inr f ↦ rw f (ap (λ k. change k y ∷ []) (omega arith))
]
from-more n [] (z ∷ ys) x y e = absurd (omega (arith, e))
from-more n (w ∷ xs) [] x y e = absurd (omega (arith, e))
from-more n (w ∷ xs) (z ∷ ys) x y e =
    let rest = from-more (n + 1) xs ys x y (omega (arith, e)) in
    let moved : changes_from (n + 1) (xs ++ x ∷ []) (ys ++ y ∷ []) ≡ changes_from (n + 1) xs ys ++ (if same_value x y then [] else (record { node = record { 0 = n + length (z ∷ ys) }; value = y } ∷ [])) = rest ∙ ap (λ k. changes_from (n + 1) xs ys ++ (if same_value x y then [] else (change k y ∷ []))) (omega arith) in
    elim (cases_Bool (same_value w z)) [
      | inl t ↦ rw t moved
      | inr f ↦ rw f (ap (λ (cs : List Change). change n z ∷ cs) moved)
    ]

pub all-more : (n : ℕ) (ys : List Val) (y : Val) → all_from n (ys ++ y ∷ []) ≡ all_from n ys ++ (record { node = record { 0 = n + length ys }; value = y } ∷ [])
all-more n [] y = ap (λ k. change k y ∷ []) (omega arith)
all-more n (z ∷ ys) y = ap (λ (cs : List Change). change n z ∷ cs) (all-more (n + 1) ys y ∙ ap (λ k. all_from (n + 1) ys ++ (change k y ∷ [])) (omega arith))

pub from-next : (old new : List Val) (i : ℕ) (b : Bool) → i < length new → length old ≡ length new → b ≡ not (same_value (value_at old i) (value_at new i))
    → changes_from 0 (take (i + 1) old) (take (i + 1) new) ≡ changes_from 0 (take i old) (take i new) ++ (if b then (record { node = record { 0 = i }; value = value_at new i } ∷ []) else [])
from-next old new i b low size e =
    let x = value_at old i in
    let y = value_at new i in
    let within : i < length old = omega (arith, size) in
    let sized : length (take i old) ≡ length (take i new) = omega (arith, length-take i old, length-take i new, size) in
    ap (λ (xs : List Val). changes_from 0 xs (take (i + 1) new)) (take_more old i Nil within) ∙ ap (λ (ys : List Val). changes_from 0 (take i old ++ x ∷ []) ys) (take_more new i Nil low)
    ∙ from-more 0 (take i old) (take i new) x y sized
    ∙ ap (λ k. changes_from 0 (take i old) (take i new) ++ (if same_value x y then [] else (change k y ∷ []))) (omega (arith, length-take i new))
    ∙ ap (λ (cs : List Change). changes_from 0 (take i old) (take i new) ++ cs) (turned (same_value x y) b e) where
      turned : (t b : Bool) → b ≡ not t → (if t then [] else (change i (value_at new i) ∷ [])) ≡ (if b then (change i (value_at new i) ∷ []) else [])
      turned true true h = absurd cc
      turned true false h = refl
      turned false true h = refl
      turned false false h = absurd cc

pub all-next : (new : List Val) (i : ℕ) → i < length new → all_from 0 (take (i + 1) new) ≡ all_from 0 (take i new) ++ (record { node = record { 0 = i }; value = value_at new i } ∷ [])
all-next new i low = ap (λ (ys : List Val). all_from 0 ys) (take_more new i Nil low) ∙ all-more 0 (take i new) (value_at new i) ∙ ap (λ k. all_from 0 (take i new) ++ (change k (value_at new i) ∷ [])) (omega (arith, length-take i new))
