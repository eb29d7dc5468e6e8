-- Places go on byte by byte.
use Rattle.std.proofs.Common.{◌≡◌, inl, inr, ◌+◌, ℕ, Bool, true, false, cond, List, [], ◌∷◌, ◌++◌, length, refl, sym, ap, ◌∙◌, append_assoc, length-append, arith}
use Rattle.std.specs.Prelude.{◌||◌, ◌==◌, if◌then◌else◌, count_by}
use Rattle.std.specs.List.{list_any}
use Rattle.std.proofs.lemmas.List.{append-nil}
use Rattle.std.proofs.lemmas.List.Folds.{list_any-append}
use Rattle.std.proofs.lemmas.List.Sums.{sum_by-append}
use Rattle.gvdl_tokens.specs.declared.place.Place.{Place}
use Rattle.gvdl_tokens.specs.Characters.{is_line_end, last_line, place_behind}
use Rattle.gvdl_tokens.specs.Reading.{moved}
use Rattle.gvdl_tokens.proofs.Runs.{if_true, if_false, cond_true, cond_false}
use Rattle.gvdl_tokens.proofs.Enclosing.{decided}

or_true : (x y : Bool) → y ≡ true → (x || y) ≡ true
or_true true y e = refl
or_true false y e = e

or_same : (x y : Bool) → y ≡ false → (x || y) ≡ x
or_same true y e = refl
or_same false y e = e

abbrev at : ℕ → ℕ → Place
at line column = record { line = line; column = column }

module _ (b : ℕ) where
  alone : (x : Bool) → is_line_end b ≡ x → list_any is_line_end (b ∷ []) ≡ x
  alone x e = or_same (is_line_end b) false refl ∙ e

  line_ends : (xs : List ℕ) → is_line_end b ≡ true → last_line (xs ++ b ∷ []) ≡ []
  line_ends [] h = if_true (list_any is_line_end (b ∷ [])) [] (b ∷ []) (alone true h)
  line_ends (x ∷ xs) h =
      if_true (list_any is_line_end (x ∷ xs ++ b ∷ [])) (last_line (xs ++ b ∷ [])) (x ∷ xs ++ b ∷ [])
      (list_any-append is_line_end (x ∷ xs) (b ∷ []) ∙ or_true (list_any is_line_end (x ∷ xs)) (list_any is_line_end (b ∷ [])) (alone true h))
      ∙ line_ends xs h

  same_line : (xs : List ℕ) → is_line_end b ≡ false → list_any is_line_end (xs ++ b ∷ []) ≡ list_any is_line_end xs
  same_line xs h = list_any-append is_line_end xs (b ∷ []) ∙ or_same (list_any is_line_end xs) (list_any is_line_end (b ∷ [])) (alone false h)

  line_goes_on : (xs : List ℕ) → is_line_end b ≡ false → last_line (xs ++ b ∷ []) ≡ last_line xs ++ b ∷ []
  line_goes_on [] h = if_false (list_any is_line_end (b ∷ [])) [] (b ∷ []) (alone false h)
  line_goes_on (x ∷ xs) h = elim (decided (list_any is_line_end (x ∷ xs))) [
    | inl k ↦
        if_true (list_any is_line_end (x ∷ xs ++ b ∷ [])) (last_line (xs ++ b ∷ [])) (x ∷ xs ++ b ∷ []) (same_line (x ∷ xs) h ∙ k)
        ∙ line_goes_on xs h
        ∙ ap (λ (ys : List ℕ). ys ++ b ∷ []) (sym (if_true (list_any is_line_end (x ∷ xs)) (last_line xs) (x ∷ xs) k))
    | inr k ↦
        if_false (list_any is_line_end (x ∷ xs ++ b ∷ [])) (last_line (xs ++ b ∷ [])) (x ∷ xs ++ b ∷ []) (same_line (x ∷ xs) h ∙ k)
        ∙ ap (λ (ys : List ℕ). ys ++ b ∷ []) (sym (if_false (list_any is_line_end (x ∷ xs)) (last_line xs) (x ∷ xs) k))
  ]

  counted : (xs : List ℕ) → count_by is_line_end (xs ++ b ∷ []) ≡ count_by is_line_end xs + cond (is_line_end b) 1 0
  counted xs = omega (arith, sum_by-append (λ (x : ℕ). cond (is_line_end x) 1 0) xs (b ∷ []))

  counted_end : (xs : List ℕ) → is_line_end b ≡ true → count_by is_line_end (xs ++ b ∷ []) ≡ count_by is_line_end xs + 1
  counted_end xs h = counted xs ∙ ap (λ (n : ℕ). count_by is_line_end xs + n) (cond_true (is_line_end b) 1 0 h)

  uncounted : (xs : List ℕ) → is_line_end b ≡ false → count_by is_line_end (xs ++ b ∷ []) ≡ count_by is_line_end xs
  uncounted xs h = omega (arith, counted xs, cond_false (is_line_end b) 1 0 h)

  same_place : (p q : Place) → p.line ≡ q.line → p.column ≡ q.column → p ≡ q
  same_place p q e f = ap (λ (n : ℕ). at n p.column) e ∙ ap (λ (n : ℕ). at q.line n) f

  ends_here : (xs : List ℕ) → is_line_end b ≡ true → record { line = (place_behind xs).line + 1; column = 1 } ≡ place_behind (xs ++ b ∷ [])
  ends_here xs h = same_place (record { line = (place_behind xs).line + 1; column = 1 }) (place_behind (xs ++ b ∷ [])) (omega (arith, counted_end xs h)) (ap (λ (ys : List ℕ). 1 + length ys) (sym (line_ends xs h)))

  goes_on_here : (xs : List ℕ) → is_line_end b ≡ false → record { line = (place_behind xs).line; column = (place_behind xs).column + 1 } ≡ place_behind (xs ++ b ∷ [])
  goes_on_here xs h =
      same_place (record { line = (place_behind xs).line; column = (place_behind xs).column + 1 }) (place_behind (xs ++ b ∷ []))
      (ap (λ (n : ℕ). 1 + n) (sym (uncounted xs h))) (omega (arith, ap length (line_goes_on xs h), length-append (last_line xs) (b ∷ [])))

  next_place : (xs : List ℕ) → (if b == 10 then record { line = (place_behind xs).line + 1; column = 1 } else record { line = (place_behind xs).line; column = (place_behind xs).column + 1 }) ≡ place_behind (xs ++ b ∷ [])
  next_place xs = elim (decided (b == 10)) [
    | inl h ↦ if_true (b == 10) _ _ h ∙ ends_here xs h
    | inr h ↦ if_false (b == 10) _ _ h ∙ goes_on_here xs h
  ]

pub moved_is : (before bytes : List ℕ) → moved (place_behind before) bytes ≡ place_behind (before ++ bytes)
moved_is before [] = ap place_behind (sym (append-nil before))
moved_is before (b ∷ bs) = ap (λ (p : Place). moved p bs) (next_place b before) ∙ moved_is (before ++ b ∷ []) bs ∙ ap place_behind (append_assoc before (b ∷ []) bs)
