-- The chunks of a list.
use Rattle.std.proofs.Common.{◌≡◌, ◌∙◌, ℕ, zero, suc, ◌+◌, ◌*◌, ◌/◌, ◌%◌, ◌<◌, ◌≤◌, List, [], ◌∷◌, ◌++◌, length, take, drop, get_or, Some, refl, ap, sym, arith, slice_get, length-append}
use Rattle.std.specs.Prelude.{slice_set}
use Rattle.std.proofs.lemmas.List.{take_all, drop_all, length-take, length-drop, take-append-drop, take-append-le, drop-append-le, drop-drop, length-set}
use Rattle.chunk_list.specs.Places.{joined, pieces}

module _ {X : Type 0} where
  pub length-pieces : (n : ℕ) (xs : List X) → length (pieces n xs) ≡ n
  length-pieces zero xs = refl
  length-pieces (suc n) xs = ap suc (length-pieces n (drop 64 xs))

  none : (xs : List X) → length xs ≤ 0 → xs ≡ []
  none [] le = refl
  none (x ∷ xs) le = absurd (omega arith)

  pub joined-pieces : (n : ℕ) (xs : List X) → length xs ≤ 64 * n → joined (pieces n xs) ≡ xs
  joined-pieces zero xs le = sym (none xs (omega arith))
  joined-pieces (suc n) xs le = ap (λ v. take 64 xs ++ v) (joined-pieces n (drop 64 xs) (omega (arith, length-drop 64 xs))) ∙ take-append-drop 64 xs

  -- ---- one more chunk

  pub joined-more : (cs : List (List X)) → joined (cs ++ [] ∷ []) ≡ joined cs
  joined-more [] = refl
  joined-more (c ∷ cs) = ap (λ v. c ++ v) (joined-more cs)

  pub one_more : (n : ℕ) (xs : List X) → length xs ≤ 64 * n → pieces (suc n) xs ≡ pieces n xs ++ [] ∷ []
  one_more zero xs le = ap (λ v. take 64 v ∷ []) (none xs (omega arith))
  one_more (suc n) xs le = ap (λ v. take 64 xs ∷ v) (one_more n (drop 64 xs) (omega (arith, length-drop 64 xs)))

  -- ---- reading at a place

  pub piece_at : (n k : ℕ) (xs d : List X) (other : List (List X)) → k < n → get_or (pieces n xs) k d ≡ take 64 (drop (64 * k) xs)
  piece_at zero k xs d other low = absurd (omega arith)
  piece_at (suc n) zero xs d other low = refl
  piece_at (suc n) (suc k) xs d other low =
      let far : 64 + 64 * k ≡ 64 * suc k = omega arith in
      piece_at n k (drop 64 xs) d other (omega arith) ∙ ap (take 64) (drop-drop (64 * k) 64 xs ∙ ap (λ m. drop m xs) far)

  pub get-take : (m r : ℕ) (ys : List X) → r < m → slice_get (take m ys) r ≡ slice_get ys r
  get-take zero r ys low = absurd (omega arith)
  get-take (suc m) r [] low = refl
  get-take (suc m) zero (y ∷ ys) low = refl
  get-take (suc m) (suc r) (y ∷ ys) low = get-take m r ys (omega arith)

  pub get-drop : (a r : ℕ) (ys : List X) → slice_get (drop a ys) r ≡ slice_get ys (a + r)
  get-drop zero r ys = let n : r ≡ 0 + r = omega arith in ap (slice_get ys) n
  get-drop (suc a) r [] = refl
  get-drop (suc a) r (y ∷ ys) = let n : suc (a + r) ≡ suc a + r = omega arith in get-drop a r ys ∙ ap (slice_get (y ∷ ys)) n

  -- ---- writing behind the last item

  pub written : (n k : ℕ) (xs : List X) (x : X) → k < n → 64 * k ≤ length xs → length xs < 64 * k + 64
      → slice_set (pieces n xs) k (take 64 (drop (64 * k) xs) ++ x ∷ []) ≡ pieces n (xs ++ x ∷ [])
  written zero k xs x low from to = absurd (omega arith)
  written (suc n) zero xs x low from to =
      let all : take 64 xs ++ x ∷ [] ≡ take 64 (xs ++ x ∷ []) =
      ap (λ v. v ++ x ∷ []) (take_all 64 xs (omega arith)) ∙ sym (take_all 64 (xs ++ x ∷ []) (omega (arith, length-append xs (x ∷ [])))) in
      let rest : drop 64 xs ≡ drop 64 (xs ++ x ∷ []) =
      drop_all 64 xs (omega arith) ∙ sym (drop_all 64 (xs ++ x ∷ []) (omega (arith, length-append xs (x ∷ [])))) in
      ap (λ v. v ∷ pieces n (drop 64 xs)) all ∙ ap (λ v. take 64 (xs ++ x ∷ []) ∷ pieces n v) rest
  written (suc n) (suc k) xs x low from to =
      let far : 64 + 64 * k ≡ 64 * suc k = omega arith in
      let front : take 64 xs ≡ take 64 (xs ++ x ∷ []) = sym (take-append-le 64 xs (x ∷ []) (omega arith)) in
      let rest : drop 64 xs ++ x ∷ [] ≡ drop 64 (xs ++ x ∷ []) = sym (drop-append-le 64 xs (x ∷ []) (omega arith)) in
      let same : drop (64 * suc k) xs ≡ drop (64 * k) (drop 64 xs) = sym (drop-drop (64 * k) 64 xs ∙ ap (λ m. drop m xs) far) in
      ap (λ v. take 64 xs ∷ slice_set (pieces n (drop 64 xs)) k (take 64 v ++ x ∷ [])) same
      ∙ ap (λ v. take 64 xs ∷ v) (written n k (drop 64 xs) x (omega arith) (omega (arith, length-drop 64 xs)) (omega (arith, length-drop 64 xs)))
      ∙ ap (λ v. take 64 xs ∷ pieces n v) rest ∙ ap (λ v. v ∷ pieces n (drop 64 (xs ++ x ∷ []))) front

  -- ---- the same, of chunks that are those of a list

  module _ (cs : List (List X)) (laid : cs ≡ pieces (length cs) (joined cs)) where
    pub in_chunk : (i : ℕ) (c : List X) → length (joined cs) ≤ 64 * length cs → i < length (joined cs) → c ≡ get_or cs (i / 64) c → c ≡ take 64 (drop (64 * (i / 64)) (joined cs))
    in_chunk i c fits low is = is ∙ ap (λ v. get_or v (i / 64) c) laid ∙ piece_at (length cs) (i / 64) (joined cs) c [] (omega arith)

    pub found : (i : ℕ) (c : List X) → length (joined cs) ≤ 64 * length cs → i < length (joined cs) → c ≡ get_or cs (i / 64) c → slice_get (joined cs) i ≡ slice_get c (i % 64)
    found i c fits low is =
        let at : 64 * (i / 64) + i % 64 ≡ i = omega arith in
        sym (ap (λ v. slice_get v (i % 64)) (in_chunk i c fits low is) ∙ get-take 64 (i % 64) (drop (64 * (i / 64)) (joined cs)) (omega arith) ∙ get-drop (64 * (i / 64)) (i % 64) (joined cs) ∙ ap (slice_get (joined cs)) at)

    pub in_reach : (i : ℕ) (c : List X) → length (joined cs) ≤ 64 * length cs → i < length (joined cs) → c ≡ get_or cs (i / 64) c → i % 64 < length c
    in_reach i c fits low is = omega (arith, ap length (in_chunk i c fits low is), length-take 64 (drop (64 * (i / 64)) (joined cs)), length-drop (64 * (i / 64)) (joined cs))

    module _ (x : X) (c : List X) (room : length (joined cs) < 64 * length cs) (is : c ≡ get_or cs (length (joined cs) / 64) c) where
      end : ℕ
      end = length (joined cs) / 64

      pub last_chunk : c ≡ take 64 (drop (64 * (length (joined cs) / 64)) (joined cs))
      last_chunk = is ∙ ap (λ v. get_or v (length (joined cs) / 64) c) laid ∙ piece_at (length cs) (length (joined cs) / 64) (joined cs) c [] (omega arith)

      pub has_room : length c < 64
      has_room = omega (arith, ap length last_chunk, length-take 64 (drop (64 * (length (joined cs) / 64)) (joined cs)), length-drop (64 * (length (joined cs) / 64)) (joined cs))

      pub pushed : slice_set cs (length (joined cs) / 64) (c ++ x ∷ []) ≡ pieces (length cs) (joined cs ++ x ∷ [])
      pushed =
          ap (λ v. slice_set v (length (joined cs) / 64) (c ++ x ∷ [])) laid
          ∙ ap (λ v. slice_set (pieces (length cs) (joined cs)) (length (joined cs) / 64) (v ++ x ∷ [])) last_chunk
          ∙ written (length cs) (length (joined cs) / 64) (joined cs) x (omega arith) (omega arith) (omega arith)

      pub joined-pushed : joined (slice_set cs (length (joined cs) / 64) (c ++ x ∷ [])) ≡ joined cs ++ x ∷ []
      joined-pushed = ap joined pushed ∙ joined-pieces (length cs) (joined cs ++ x ∷ []) (omega (arith, length-append (joined cs) (x ∷ [])))

      pub laid-pushed : slice_set cs (length (joined cs) / 64) (c ++ x ∷ []) ≡ pieces (length (slice_set cs (length (joined cs) / 64) (c ++ x ∷ []))) (joined (slice_set cs (length (joined cs) / 64) (c ++ x ∷ [])))
      laid-pushed =
          let n : length (slice_set cs (length (joined cs) / 64) (c ++ x ∷ [])) ≡ length cs = length-set cs (length (joined cs) / 64) (c ++ x ∷ []) in
          pushed ∙ (λ k. pieces (sym n k) (sym joined-pushed k))

-- ---- what is left from a place on

module _ {X : Type 0} where
  pub left : (xs : List X) (i : ℕ) (x : X) → slice_get xs i ≡ Some x → drop i xs ≡ x ∷ drop (i + 1) xs
  left [] i x e = absurd (cc)
  left (y ∷ xs) zero x e = let same : y ≡ x = cc in ap (λ v. v ∷ xs) same
  left (y ∷ xs) (suc i) x e = let n : suc (i + 1) ≡ suc i + 1 = omega arith in left xs i x e ∙ ap (λ m. x ∷ drop m (y ∷ xs)) n
