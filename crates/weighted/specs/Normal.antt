-- The one list of a collection whose records rise and whose weights are not zero.
use Rattle.std.specs.Prelude.{◌≡◌, ◌≢◌, ℕ, ◌+◌, ◌*◌, ◌%◌, ◌^◌, ◌<◌, ◌==◌, Bool, true, false, List, [], ◌∷◌, if◌then◌else◌, refl}
use Rattle.std.specs.declared.cmp.Ordering.{Ordering}
use Rattle.std.specs.declared.cmp.Ordering.TheVariants.{Less, Equal, Greater}
use Rattle.std.specs.Ordering.{is_eq, ordering_reverse}
use Rattle.std.specs.Cmp.{IsTotalOrder, tied_itself}
use Rattle.std.proofs.Common.{arith, ap, sym, subst, ◌∙◌, eqb-true}
use Rattle.weighted.specs.WordLaws.{total, cong_add, cong_mul}
use Rattle.weighted.specs.Alike.{Alike, Alike-sym, Alike-trans}

-- adds a weight at a record's place
abbrev pub put_by : {R : Type 0} → Ordering → R → ℕ → R × ℕ → List (R × ℕ) → List (R × ℕ) → List (R × ℕ)
put_by Less x w e es rest = (x, w) ∷ e ∷ es
put_by Equal x w e es rest = (x, w + e.1) ∷ es
put_by Greater x w e es rest = e ∷ rest

abbrev pub put : {R : Type 0} → (R → R → Ordering) → R → ℕ → List (R × ℕ) → List (R × ℕ)
put cmp x w [] = (x, w) ∷ []
put cmp x w (e ∷ es) = put_by (cmp x e.0) x w e es (put cmp x w es)

abbrev pub merged : {R : Type 0} → (R → R → Ordering) → List (R × ℕ) → List (R × ℕ)
merged cmp [] = []
merged cmp (e ∷ es) = put cmp e.0 e.1 (merged cmp es)

-- no entry whose weight is zero modulo 2^64
abbrev pub trimmed : {R : Type 0} → List (R × ℕ) → List (R × ℕ)
trimmed [] = []
trimmed (e ∷ es) = if e.1 % 2 ^ 64 == 0 then trimmed es else (e.0, e.1 % 2 ^ 64) ∷ trimmed es

abbrev pub normal : {R : Type 0} → (R → R → Ordering) → List (R × ℕ) → List (R × ℕ)
normal cmp es = trimmed (merged cmp es)

-- each record is below all later ones
abbrev pub Below : {R : Type 0} → (R → R → Ordering) → R → List (R × ℕ) → Type 0
Below cmp x [] = Unit {0}
Below cmp x (e ∷ es) = (cmp x e.0 ≡ Less) × Below cmp x es

abbrev pub Rising : {R : Type 0} → (R → R → Ordering) → List (R × ℕ) → Type 0
Rising cmp [] = Unit {0}
Rising cmp (e ∷ es) = Below cmp e.0 es × Rising cmp es

abbrev pub Weighty : {R : Type 0} → List (R × ℕ) → Type 0
Weighty [] = Unit {0}
Weighty (e ∷ es) = (e.1 ≢ 0) × (e.1 < 2 ^ 64) × Weighty es

-- ---- without its zero weights a list is the same collection

trimmed_total_by : {R : Type 0} (k w n m : ℕ) (b : Bool) (x : R) (g : R → ℕ) (es : List (R × ℕ)) → g x ≡ k → (w % 2 ^ 64 == 0) ≡ b → total g (trimmed es) % 2 ^ 64 ≡ total g es % 2 ^ 64 → total g (if b then trimmed es else (x, w % 2 ^ 64) ∷ trimmed es) % 2 ^ 64 ≡ (g x * w + total g es) % 2 ^ 64
trimmed_total_by k w n m true x g es s t h =
    let z : w % 2 ^ 64 ≡ 0 = eqb-true (w % 2 ^ 64) 0 t in
    let n : total g es ≡ 0 + total g es = omega arith in
    h ∙ ap (λ v. v % 2 ^ 64) n ∙ cong_add 0 (g x * w) (total g es) (total g es) (sym (cong_mul (g x) w 0 z ∙ omega arith)) refl
trimmed_total_by k w n m false x g es s t h = cong_add (g x * (w % 2 ^ 64)) (g x * w) (total g (trimmed es)) (total g es) (cong_mul (g x) (w % 2 ^ 64) w (omega arith)) h

trimmed_total : {R : Type 0} (g : R → ℕ) (es : List (R × ℕ)) → total g (trimmed es) % 2 ^ 64 ≡ total g es % 2 ^ 64
trimmed_total g [] = refl
trimmed_total g (e ∷ es) = trimmed_total_by (g e.0) e.1 0 0 (e.1 % 2 ^ 64 == 0) e.0 g es refl refl (trimmed_total g es)

pub trimmed-Alike : {R : Type 0} (es : List (R × ℕ)) → Alike (trimmed es) es
trimmed-Alike es = record { totals = λ g. trimmed_total g es }

Weighty-trimmed_by : {R : Type 0} (x : R) (w : ℕ) (es : List (R × ℕ)) (b : Bool) → (w % 2 ^ 64 == 0) ≡ b → Weighty (trimmed es) → Weighty (if b then trimmed es else (x, w % 2 ^ 64) ∷ trimmed es)
Weighty-trimmed_by x w es true t k = k
Weighty-trimmed_by x w es false t k = ((λ z. (let f : false ≡ true = sym t ∙ ap (λ v. v == 0) z in absurd (cc))), omega arith, k)

pub Weighty-trimmed : {R : Type 0} (es : List (R × ℕ)) → Weighty (trimmed es)
Weighty-trimmed [] = tt
Weighty-trimmed (e ∷ es) = Weighty-trimmed_by e.0 e.1 es (e.1 % 2 ^ 64 == 0) refl (Weighty-trimmed es)

module _ {R : Type 0} (cmp : R → R → Ordering) (order : IsTotalOrder cmp) (same : (x y : R) → cmp x y ≡ Equal → x ≡ y) where
  put_total_by : (g : R → ℕ) (x : R) (w : ℕ) (e : R × ℕ) (es : List (R × ℕ)) (r : Ordering) → cmp x e.0 ≡ r → total g (put cmp x w es) ≡ g x * w + total g es → total g (put_by r x w e es (put cmp x w es)) ≡ g x * w + (g e.0 * e.1 + total g es)
  put_total_by g x w e es Less h k = refl
  put_total_by g x w e es Equal h k = let s : g x ≡ g e.0 = ap g (same x e.0 h) in rw s (omega arith)
  put_total_by g x w e es Greater h k = omega (arith, k)

  put_total : (g : R → ℕ) (x : R) (w : ℕ) (es : List (R × ℕ)) → total g (put cmp x w es) ≡ g x * w + total g es
  put_total g x w [] = refl
  put_total g x w (e ∷ es) = put_total_by g x w e es (cmp x e.0) refl (put_total g x w es)

  merged_total : (g : R → ℕ) (es : List (R × ℕ)) → total g (merged cmp es) ≡ total g es
  merged_total g [] = refl
  merged_total g (e ∷ es) = put_total g e.0 e.1 (merged cmp es) ∙ ap (λ v. g e.0 * e.1 + v) (merged_total g es)

  pub normal-Alike : (es : List (R × ℕ)) → Alike (normal cmp es) es
  normal-Alike es = record { totals = λ g. trimmed_total g (merged cmp es) ∙ ap (λ v. v % 2 ^ 64) (merged_total g es) }

  -- ---- rising

  Below-put_by : (y x : R) (w : ℕ) (e : R × ℕ) (es : List (R × ℕ)) (r : Ordering) → cmp x e.0 ≡ r → cmp y x ≡ Less → cmp y e.0 ≡ Less → Below cmp y es → Below cmp y (put cmp x w es) → Below cmp y (put_by r x w e es (put cmp x w es))
  Below-put_by y x w e es Less h p q b k = (p, (q, b))
  Below-put_by y x w e es Equal h p q b k = (p, b)
  Below-put_by y x w e es Greater h p q b k = (q, k)

  Below-put : (y x : R) (w : ℕ) (es : List (R × ℕ)) → cmp y x ≡ Less → Below cmp y es → Below cmp y (put cmp x w es)
  Below-put y x w [] p b = (p, tt)
  Below-put y x w (e ∷ es) p b = Below-put_by y x w e es (cmp x e.0) refl p b.0 b.1 (Below-put y x w es p b.1)

  pub Below-trans : (x y : R) (es : List (R × ℕ)) → cmp x y ≡ Less → Below cmp y es → Below cmp x es
  Below-trans x y [] p b = tt
  Below-trans x y (e ∷ es) p b = (order.trans x y e.0 p b.0, Below-trans x y es p b.1)

  Rising-put_by : (x : R) (w : ℕ) (e : R × ℕ) (es : List (R × ℕ)) (r : Ordering) → cmp x e.0 ≡ r → Below cmp e.0 es → Rising cmp es → Rising cmp (put cmp x w es) → Rising cmp (put_by r x w e es (put cmp x w es))
  Rising-put_by x w e es Less h b r k = ((h, Below-trans x e.0 es h b), (b, r))
  Rising-put_by x w e es Equal h b r k = (subst (λ v. Below cmp v es) (sym (same x e.0 h)) b, r)
  Rising-put_by x w e es Greater h b r k = (Below-put e.0 x w es (order.antisymm e.0 x ∙ ap ordering_reverse h) b, k)

  Rising-put : (x : R) (w : ℕ) (es : List (R × ℕ)) → Rising cmp es → Rising cmp (put cmp x w es)
  Rising-put x w [] r = (tt, tt)
  Rising-put x w (e ∷ es) r = Rising-put_by x w e es (cmp x e.0) refl r.0 r.1 (Rising-put x w es r.1)

  Rising-merged : (es : List (R × ℕ)) → Rising cmp (merged cmp es)
  Rising-merged [] = tt
  Rising-merged (e ∷ es) = Rising-put e.0 e.1 (merged cmp es) (Rising-merged es)

  Below-trimmed_by : (y x : R) (w : ℕ) (es : List (R × ℕ)) (b : Bool) → cmp y x ≡ Less → Below cmp y (trimmed es) → Below cmp y (if b then trimmed es else (x, w) ∷ trimmed es)
  Below-trimmed_by y x w es true p b = b
  Below-trimmed_by y x w es false p b = (p, b)

  pub Below-trimmed : (y : R) (es : List (R × ℕ)) → Below cmp y es → Below cmp y (trimmed es)
  Below-trimmed y [] b = tt
  Below-trimmed y (e ∷ es) b = Below-trimmed_by y e.0 (e.1 % 2 ^ 64) es (e.1 % 2 ^ 64 == 0) b.0 (Below-trimmed y es b.1)

  Rising-trimmed_by : (x : R) (w : ℕ) (es : List (R × ℕ)) (b : Bool) → Below cmp x (trimmed es) → Rising cmp (trimmed es) → Rising cmp (if b then trimmed es else (x, w) ∷ trimmed es)
  Rising-trimmed_by x w es true p r = r
  Rising-trimmed_by x w es false p r = (p, r)

  pub Rising-trimmed : (es : List (R × ℕ)) → Rising cmp es → Rising cmp (trimmed es)
  Rising-trimmed [] r = tt
  Rising-trimmed (e ∷ es) r = Rising-trimmed_by e.0 (e.1 % 2 ^ 64) es (e.1 % 2 ^ 64 == 0) (Below-trimmed e.0 es r.0) (Rising-trimmed es r.1)

  pub normal-Rising : (es : List (R × ℕ)) → Rising cmp (normal cmp es)
  normal-Rising es = Rising-trimmed (merged cmp es) (Rising-merged es)

  pub normal-Weighty : (es : List (R × ℕ)) → Weighty (normal cmp es)
  normal-Weighty es = Weighty-trimmed (merged cmp es)

  -- ---- there is one such list

  abbrev at : R → R → ℕ
  at x a = if is_eq (cmp a x) then 1 else 0

  at_itself : (x : R) → at x x ≡ 1
  at_itself x = ap (λ r. if is_eq r then 1 else 0) (tied_itself order x)

  at_above : (x y : R) → cmp x y ≡ Less → at x y ≡ 0
  at_above x y h = ap (λ r. if is_eq r then 1 else 0) (order.antisymm y x ∙ ap ordering_reverse h)

  none_above : (x : R) (es : List (R × ℕ)) → Below cmp x es → total (at x) es ≡ 0
  none_above x [] b = refl
  none_above x (e ∷ es) b = rw (at_above x e.0 b.0) (omega (arith, none_above x es b.1))

  first_word : (e : R × ℕ) (es : List (R × ℕ)) → Below cmp e.0 es → e.1 < 2 ^ 64 → total (at e.0) (e ∷ es) % 2 ^ 64 ≡ e.1
  first_word e es b low = rw (at_itself e.0, none_above e.0 es b) (omega arith)

  absent : (e : R × ℕ) (es ys : List (R × ℕ)) → Below cmp e.0 es → Below cmp e.0 ys → e.1 < 2 ^ 64 → e.1 ≢ 0 → Alike (e ∷ es) ys → ⊥
  absent e es ys b c low has a = has (sym (first_word e es b low) ∙ a.totals (at e.0) ∙ ap (λ v. v % 2 ^ 64) (none_above e.0 ys c))

  cancel : (k a b : ℕ) → (k + a) % 2 ^ 64 ≡ (k + b) % 2 ^ 64 → a % 2 ^ 64 ≡ b % 2 ^ 64
  cancel k a b h = omega arith

  unique_by : (e f : R × ℕ) (xs ys : List (R × ℕ)) (o : Ordering) → cmp e.0 f.0 ≡ o → Rising cmp (e ∷ xs) → Weighty (e ∷ xs) → Rising cmp (f ∷ ys) → Weighty (f ∷ ys) → Alike (e ∷ xs) (f ∷ ys) → (Alike xs ys → xs ≡ ys) → e ∷ xs ≡ f ∷ ys
  unique_by e f xs ys Less h r w s v a go = absurd (absent e xs (f ∷ ys) r.0 (h, Below-trans e.0 f.0 ys h s.0) w.1 w.0 a)
  unique_by e f xs ys Greater h r w s v a go = let k : cmp f.0 e.0 ≡ Less = order.antisymm f.0 e.0 ∙ ap ordering_reverse h in absurd (absent f ys (e ∷ xs) s.0 (k, Below-trans f.0 e.0 xs k r.0) v.1 v.0 (Alike-sym a))
  unique_by e f xs ys Equal h r w s v a go =
      let k : e.0 ≡ f.0 = same e.0 f.0 h in
      let n : e.1 ≡ f.1 = sym (first_word e xs r.0 w.1) ∙ a.totals (at e.0) ∙ ap (λ y. total (at y) (f ∷ ys) % 2 ^ 64) k ∙ first_word f ys s.0 v.1 in
      let one : e ≡ f = ap (λ y. (y, e.1)) k ∙ ap (λ m. (f.0, m)) n in
      let tails : Alike xs ys = record { totals = λ g. cancel (g f.0 * f.1) (total g xs) (total g ys) (ap (λ y. (g y.0 * y.1 + total g xs) % 2 ^ 64) (sym one) ∙ a.totals g) } in
      ap (λ y. y ∷ xs) one ∙ ap (λ y. f ∷ y) (go tails)

  pub unique : (xs ys : List (R × ℕ)) → Rising cmp xs → Weighty xs → Rising cmp ys → Weighty ys → Alike xs ys → xs ≡ ys
  unique [] [] r w s v a = refl
  unique [] (f ∷ ys) r w s v a = absurd (absent f ys [] s.0 tt v.1 v.0 (Alike-sym a))
  unique (e ∷ xs) [] r w s v a = absurd (absent e xs [] r.0 tt w.1 w.0 a)
  unique (e ∷ xs) (f ∷ ys) r w s v a = unique_by e f xs ys (cmp e.0 f.0) refl r w s v a (unique xs ys r.1 w.2 s.1 v.2)

  -- a list in normal form is the normal form of each list of its collection
  pub normal-only : (xs es : List (R × ℕ)) → Rising cmp xs → Weighty xs → Alike xs es → xs ≡ normal cmp es
  normal-only xs es r w a = unique xs (normal cmp es) r w (normal-Rising es) (normal-Weighty es) (Alike-trans a (Alike-sym (normal-Alike es)))

  -- one collection has one such list
  pub normal-same : (xs ys : List (R × ℕ)) → Alike xs ys → normal cmp xs ≡ normal cmp ys
  normal-same xs ys a = unique (normal cmp xs) (normal cmp ys) (normal-Rising xs) (normal-Weighty xs) (normal-Rising ys) (normal-Weighty ys) (Alike-trans (normal-Alike xs) (Alike-trans a (Alike-sym (normal-Alike ys))))
