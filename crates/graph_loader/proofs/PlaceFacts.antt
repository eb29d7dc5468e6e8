-- A table of the places of small ids, made of one id after the other.
use Rattle.std.proofs.Common.{◌≡◌, ◌≢◌, ◌∙◌, sym, refl, ap, subst, ℕ, suc, ◌+◌, ◌<◌, Bool, true, false, List, [], ◌∷◌, ◌++◌, length, get_or, set, take, Option, Some, None, inl, inr, arith, if◌then◌else◌}
use Rattle.std.specs.Prelude.{◌==◌, ◌&&◌, nat_eq, nat_lt, not, position}
use Rattle.std.proofs.Math.Seq.{take-suc}
use Rattle.std.proofs.lemmas.Bool.{cases_eq, eq-eqb, ne_eqb}
use Rattle.std.proofs.lemmas.Bool.Decides.{nat_tests}
use Rattle.std.proofs.lemmas.Grind.{get_or-set_at, common_steps}
use Rattle.std.proofs.lemmas.List.{get_or-set_other, length-set, length-take}
use Rattle.std.proofs.lemmas.List.Folds.{position_or_len_push}
use Rattle.std.proofs.lemmas.List.Sums.{prefix_len-le-length}
use Rattle.graph_loader.specs.DataFiles.{earlier_of}
use Rattle.graph_loader.specs.LoadSteps.{IsTableOf, no_place, place_in, with_place}

-- the place of an id among these and one more
pub position-push : (p : ℕ → Bool) (xs : List ℕ) (y : ℕ) → position p (xs ++ y ∷ []) ≡ earlier_of (position p xs) (if p y then Some (length xs) else None)
position-push p xs y = grind (arith, common_steps, position_or_len_push p xs y, prefix_len-le-length (λ x. not (p x)) xs)

-- another slot is as it was
other-slot : (slots : List ℕ) (key place id : ℕ) → id ≢ key → get_or (with_place slots key place) id no_place ≡ get_or slots id no_place
other-slot slots key place id other = by (nat_lt key (length slots) && (get_or slots key no_place == no_place)) where
  by : (b : Bool) → get_or (if b then set slots key place else slots) id no_place ≡ get_or slots id no_place
  by true = get_or-set_other slots key id place no_place other
  by false = refl

length-with : (slots : List ℕ) (key place : ℕ) → length (with_place slots key place) ≡ length slots
length-with slots key place = by (nat_lt key (length slots) && (get_or slots key no_place == no_place)) where
  by : (b : Bool) → length (if b then set slots key place else slots) ≡ length slots
  by true = length-set slots key place
  by false = refl

-- the slot of the id itself
same-slot : (slots : List ℕ) (key place : ℕ) → key < length slots → place < no_place
    → place_in (get_or (with_place slots key place) key no_place) ≡ earlier_of (place_in (get_or slots key no_place)) (Some place)
same-slot slots key place lt small = elim (cases_eq (get_or slots key no_place) no_place) [
  | inl none ↦
      let within : nat_lt key (length slots) ≡ true = grind (arith, nat_tests, lt) in
      let given : (place == no_place) ≡ false = ne_eqb place no_place (λ e. absurd (omega arith)) in
      rw (within, none, get_or-set_at slots key key place no_place refl lt, given) refl
  | inr some ↦
      let within : nat_lt key (length slots) ≡ true = grind (arith, nat_tests, lt) in
      let full : (get_or slots key no_place == no_place) ≡ false = ne_eqb (get_or slots key no_place) no_place some in
      rw (within, full) (rw full refl)
]

-- one more id
pub table-more : (ids slots : List ℕ) (key : ℕ) → length ids < no_place → IsTableOf ids slots → IsTableOf (ids ++ key ∷ []) (with_place slots key (length ids))
table-more ids slots key small so_far id within =
    let lt : id < length slots = omega (arith, length-with slots key (length ids)) in
    elim (cases_eq id key) [
      | inl same ↦
          let yes : nat_eq id key ≡ true = eq-eqb id key same in
          subst (λ k. place_in (get_or (with_place slots key (length ids)) k no_place) ≡ earlier_of (place_in (get_or slots k no_place)) (Some (length ids))) (sym same)
          (same-slot slots key (length ids) (subst (λ k. k < length slots) same lt) small)
          ∙ ap (λ o. earlier_of o (Some (length ids))) (so_far id lt)
          ∙ ap (λ b. earlier_of (position (nat_eq id) ids) (if b then Some (length ids) else None)) (sym yes)
          ∙ sym (position-push (nat_eq id) ids key)
      | inr other ↦
          let no : nat_eq id key ≡ false = ne_eqb id key other in
          ap place_in (other-slot slots key (length ids) id other) ∙ so_far id lt ∙ sym (or-none (position (nat_eq id) ids))
          ∙ ap (λ b. earlier_of (position (nat_eq id) ids) (if b then Some (length ids) else None)) (sym no)
          ∙ sym (position-push (nat_eq id) ids key)
    ]
  where
    or-none : (o : Option ℕ) → earlier_of o None ≡ o
    or-none (Some i) = refl
    or-none None = refl

-- one more of these ids
pub table-step : (ids slots : List ℕ) (i d : ℕ) → i < length ids → length ids < no_place → IsTableOf (take i ids) slots
    → IsTableOf (take (i + 1) ids) (with_place slots (get_or ids i d) i)
table-step ids slots i d lt small so_far =
    let count : length (take i ids) ≡ i = omega (arith, length-take i ids) in
    let next : i + 1 ≡ suc i = omega arith in
    let taken : take (i + 1) ids ≡ take i ids ++ get_or ids i d ∷ [] = ap (λ k. take k ids) next ∙ take-suc ids i d lt in
    subst (λ l. IsTableOf l (with_place slots (get_or ids i d) i)) (sym taken)
    (subst (λ k. IsTableOf (take i ids ++ get_or ids i d ∷ []) (with_place slots (get_or ids i d) k)) count
    (table-more (take i ids) slots (get_or ids i d) (omega arith) so_far))
