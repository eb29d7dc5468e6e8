-- Layers one after another.
use Rattle.std.proofs.Common.{◌≡◌, ◌∙◌, ℕ, zero, suc, ◌+◌, ◌*◌, ◌-◌, ◌^◌, ◌<◌, ◌≤◌, ◌==◌, Bool, true, false, List, [], ◌∷◌, ◌++◌, length, take, drop, get_or, refl, ap, sym, subst, arith, length-append, append_assoc, eqb-true}
use Rattle.std.specs.Prelude.{if◌then◌else◌}
use Rattle.std.proofs.lemmas.Grind.{pow_more}
use Rattle.std.proofs.lemmas.List.{append-nil}
use Rattle.weighted.specs.Batches.{joined}
use Rattle.weighted.specs.Alike.{Alike, Alike-append, Alike-is, Alike-refl, Alike-trans}
use Rattle.trace_store.specs.Layers.{AreHalving, with_layer}

no_items : {A : Type 0} (xs : List A) → (length xs == 0) ≡ true → xs ≡ []
no_items [] h = refl
no_items (x ∷ xs) h = absurd (omega (arith, eqb-true (length (x ∷ xs)) 0 h))

some_items : {A : Type 0} (xs : List A) → (length xs == 0) ≡ false → 0 < length xs
some_items [] h = absurd (cc)
some_items (x ∷ xs) h = omega arith

twice_as_many : (n : ℕ) → 2 ^ suc n ≡ 2 * 2 ^ n
twice_as_many n = let m : suc n ≡ n + 1 = omega arith in let more : 2 ^ (n + 1) ≡ 2 ^ n * 2 = pow_more 2 n in ap (λ k. 2 ^ k) m ∙ more ∙ omega arith

module _ {R : Type 0} where
  pub joined-drop : (ls : List (List (R × ℕ))) (k : ℕ) (l : List (R × ℕ)) → k < length ls → l ≡ get_or ls k l → joined (drop k ls) ≡ l ++ joined (drop (k + 1) ls)
  joined-drop [] k l low is = absurd (omega arith)
  joined-drop (m ∷ ls) zero l low is = ap (λ v. v ++ joined ls) (sym is)
  joined-drop (m ∷ ls) (suc k) l low is =
      let n : suc (k + 1) ≡ suc k + 1 = omega arith in
      joined-drop ls k l (omega arith) is ∙ ap (λ i. l ++ joined (drop i (m ∷ ls))) n

  pub joined-split : (ls : List (List (R × ℕ))) (k : ℕ) → joined (take k ls) ++ joined (drop k ls) ≡ joined ls
  joined-split ls zero = refl
  joined-split [] (suc k) = refl
  joined-split (l ∷ ls) (suc k) = append_assoc l (joined (take k ls)) (joined (drop k ls)) ∙ ap (λ v. l ++ v) (joined-split ls k)

  pub joined-shorter : (ls : List (List (R × ℕ))) (k : ℕ) → length (joined (drop k ls)) ≤ length (joined ls)
  joined-shorter ls k = omega (arith, ap length (joined-split ls k), length-append (joined (take k ls)) (joined (drop k ls)))

  pub joined-one : (ls : List (List (R × ℕ))) (l : List (R × ℕ)) → joined (ls ++ l ∷ []) ≡ joined ls ++ l
  joined-one [] l = append-nil l
  joined-one (m ∷ ls) l = ap (λ v. m ++ v) (joined-one ls l) ∙ sym (append_assoc m (joined ls) l)

  with_by : (ls : List (List (R × ℕ))) (l : List (R × ℕ)) (b : Bool) → (length l == 0) ≡ b → joined (ls ++ (if b then [] else l ∷ [])) ≡ joined ls ++ l
  with_by ls l true h = ap joined (append-nil ls) ∙ sym (append-nil (joined ls)) ∙ ap (λ v. joined ls ++ v) (sym (no_items l h))
  with_by ls l false h = joined-one ls l

  pub joined-with : (ls : List (List (R × ℕ))) (l : List (R × ℕ)) → joined (with_layer ls l) ≡ joined ls ++ l
  joined-with ls l = with_by ls l (length l == 0) refl

  -- ---- each layer at least twice as long as the next

  pub halving-take : (ls : List (List (R × ℕ))) (k : ℕ) → AreHalving ls → AreHalving (take k ls)
  halving-take [] zero h = tt
  halving-take [] (suc k) h = tt
  halving-take (l ∷ ls) zero h = tt
  halving-take (l ∷ []) (suc zero) h = h
  halving-take (l ∷ []) (suc (suc k)) h = h
  halving-take (l ∷ m ∷ ls) (suc zero) h = omega (arith, h.0, first_has m ls h.1) where
    first_has : (m : List (R × ℕ)) (ls : List (List (R × ℕ))) → AreHalving (m ∷ ls) → 0 < length m
    first_has m [] h = h
    first_has m (n ∷ ls) h = omega (arith, h.0, first_has n ls h.1)
  halving-take (l ∷ m ∷ ls) (suc (suc k)) h = (h.0, halving-take (m ∷ ls) (suc k) h.1)

  -- one more, at most half as long as the last
  halving-one : (ls : List (List (R × ℕ))) (l : List (R × ℕ)) → 0 < length l → ((d : List (R × ℕ)) → 0 < length ls → 2 * length l ≤ length (get_or ls (length ls - 1) d)) → AreHalving ls → AreHalving (ls ++ l ∷ [])
  halving-one [] l has half h = has
  halving-one (m ∷ []) l has half h = (half l (omega arith), has)
  halving-one (m ∷ n ∷ ls) l has half h =
      let k : length (m ∷ n ∷ ls) - 1 ≡ suc (length (n ∷ ls) - 1) = omega arith in
      (h.0, halving-one (n ∷ ls) l has (λ d low. subst (λ i. 2 * length l ≤ length (get_or (m ∷ n ∷ ls) i d)) k (half d (omega arith))) h.1)

  with_halving_by : (ls : List (List (R × ℕ))) (l : List (R × ℕ)) (b : Bool) → (length l == 0) ≡ b → ((d : List (R × ℕ)) → 0 < length ls → 2 * length l ≤ length (get_or ls (length ls - 1) d)) → AreHalving ls → AreHalving (ls ++ (if b then [] else l ∷ []))
  with_halving_by ls l true q half h = subst (λ v. AreHalving v) (sym (append-nil ls)) h
  with_halving_by ls l false q half h = halving-one ls l (some_items l q) half h

  pub halving-with : (ls : List (List (R × ℕ))) (l : List (R × ℕ)) → ((d : List (R × ℕ)) → 0 < length ls → 2 * length l ≤ length (get_or ls (length ls - 1) d)) → AreHalving ls → AreHalving (with_layer ls l)
  halving-with ls l half h = with_halving_by ls l (length l == 0) refl half h

  -- ---- so they are few

  first_long : (l : List (R × ℕ)) (ls : List (List (R × ℕ))) → AreHalving (l ∷ ls) → 2 ^ length ls ≤ length l
  first_long l [] h = omega arith
  first_long l (m ∷ ls) h =
      let more : 2 ^ length (m ∷ ls) ≡ 2 * 2 ^ length ls = twice_as_many (length ls) in
      let rest : 2 ^ length ls ≤ length m = first_long m ls h.1 in
      omega (arith, more, rest, h.0)

  pub few : (ls : List (List (R × ℕ))) → AreHalving ls → 2 ^ length ls ≤ length (joined ls) + 1
  few [] h = omega arith
  few (l ∷ []) h = omega (arith, length-append l [], h)
  few (l ∷ m ∷ ls) h =
      let more : 2 ^ length (l ∷ m ∷ ls) ≡ 2 * 2 ^ length (m ∷ ls) = twice_as_many (length (m ∷ ls)) in
      let first : 2 ^ length (m ∷ ls) ≤ length l = first_long l (m ∷ ls) h in
      let rest : 2 ^ length (m ∷ ls) ≤ length (joined (m ∷ ls)) + 1 = few (m ∷ ls) h.1 in
      omega (arith, more, first, rest, length-append l (joined (m ∷ ls)))

module _ {A : Type 0} where
  pub cut_behind : (ls : List A) (k : ℕ) (l : A) (rest : List A) → k ≤ length ls → take (k + 1) (take k ls ++ l ∷ rest) ≡ take k ls ++ l ∷ []
  cut_behind ls zero l rest low = refl
  cut_behind [] (suc k) l rest low = absurd (omega arith)
  cut_behind (m ∷ ls) (suc k) l rest low = let n : suc k + 1 ≡ suc (k + 1) = omega arith in ap (λ i. take i (m ∷ take k ls ++ l ∷ rest)) n ∙ ap (λ v. m ∷ v) (cut_behind ls k l rest (omega arith))

  with_one_by : (ls : List (List A)) (l : List A) (b : Bool) → (length l == 0) ≡ b → (length l ≡ 0 → ⊥) → ls ++ l ∷ [] ≡ ls ++ (if b then [] else l ∷ [])
  with_one_by ls [] b q has = absurd (has refl)
  with_one_by ls (x ∷ l) true q has = absurd (omega (arith, eqb-true (length (x ∷ l)) 0 q))
  with_one_by ls (x ∷ l) false q has = refl

  pub with_one : (ls : List (List A)) (l : List A) → (length l ≡ 0 → ⊥) → ls ++ l ∷ [] ≡ with_layer ls l
  with_one ls l has = with_one_by ls l (length l == 0) refl has

  short_by : (ls : List (List A)) (l : List A) (b : Bool) → length (ls ++ (if b then [] else l ∷ [])) ≤ length ls + 1
  short_by ls l true = omega (arith, length-append {A = List A} ls [])
  short_by ls l false = omega (arith, length-append ls (l ∷ []))

  pub with_few : (ls : List (List A)) (l : List A) → length (with_layer ls l) ≤ length ls + 1
  with_few ls l = short_by ls l (length l == 0)
