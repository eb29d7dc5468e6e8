-- Lists that are copied in part.
use Rattle.std.proofs.Common.{◌≡◌, ◌∙◌, ◌<◌, ◌≤◌, ◌+◌, ◌++◌, ◌∷◌, [], sym, ap, ℕ, Bool, true, false, List, length, get_or, take, filter, cond, append_assoc, arith}
use Rattle.std.specs.Int.{from_bool}
use Rattle.std.proofs.lemmas.List.{append-nil, take-take, take_at}
use Rattle.std.proofs.lemmas.List.Elements.{filter_more}

module _ {X : Type 0} (test : X → Bool) (xs : List X) (i : ℕ) (d : X) (low : i < length xs) (start made : List X) (e : made ≡ start ++ filter test (take i xs)) where
  pub copy-yes : (more : List X) → test (get_or xs i d) ≡ true → more ≡ made ++ get_or xs i d ∷ [] → more ≡ start ++ filter test (take (i + 1) xs)
  copy-yes more t em =
      em ∙ ap (λ (ys : List X). ys ++ get_or xs i d ∷ []) e ∙ append_assoc start (filter test (take i xs)) (get_or xs i d ∷ [])
      ∙ sym (ap (λ (ys : List X). start ++ ys) (filter_more test xs i d low ∙ ap (λ (b : Bool). filter test (take i xs) ++ cond b (get_or xs i d ∷ []) []) t))

  pub copy-no : (more : List X) → test (get_or xs i d) ≡ false → more ≡ made → more ≡ start ++ filter test (take (i + 1) xs)
  copy-no more f em =
      em ∙ e ∙ sym (ap (λ (ys : List X). start ++ ys) (filter_more test xs i d low ∙ ap (λ (b : Bool). filter test (take i xs) ++ cond b (get_or xs i d ∷ []) []) f ∙ append-nil (filter test (take i xs))))

  -- one more is put behind so many, and counted where it passes the test
  pub copy-counted : (count more : ℕ) (b : Bool) (now : List X) → length made ≡ count → take (count + 1) now ≡ made ++ get_or xs i d ∷ [] → test (get_or xs i d) ≡ b → more ≡ from_bool b
      → take (count + more) now ≡ start ++ filter test (take (i + 1) xs)
  copy-counted count more true now size put t em = ap (λ (n : ℕ). take (count + n) now) em ∙ copy-yes (take (count + 1) now) t put
  copy-counted count more false now size put f em =
      let same : count + more ≡ count = omega (arith, em) in
      let low : count ≤ count + 1 = omega arith in
      copy-no (take (count + more) now) f
      (ap (λ (n : ℕ). take n now) same ∙ sym (take-take count (count + 1) now low) ∙ ap (take count) put ∙ take_at made (get_or xs i d ∷ []) count size)

-- what is counted of one is at most one
pub counted-low : (b : Bool) (more : ℕ) → more ≡ from_bool b → more ≤ 1
counted-low true more e = omega (arith, e)
counted-low false more e = omega (arith, e)
