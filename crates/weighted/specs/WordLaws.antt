-- Laws of collections: sums modulo 2^64 with a coefficient per record depend on the words alone.
use Rattle.std.specs.Prelude.{◌≡◌, ◌⊎◌, ℕ, ◌+◌, ◌*◌, ◌%◌, ◌^◌, ◌≤◌, Bool, true, false, List, [], ◌∷◌, ◌++◌, length, if◌then◌else◌, map, refl}
use Rattle.std.specs.declared.cmp.Ordering.{Ordering}
use Rattle.std.specs.declared.cmp.Ordering.TheVariants.{Equal}
use Rattle.std.specs.Ordering.{is_eq}
use Rattle.std.specs.Cmp.{Equal-is}
use Rattle.std.proofs.Common.{arith, ap, sym, ◌∙◌, zero, suc, inl, inr}
use Rattle.std.proofs.lemmas.Nat.{mul-mod_second}
use Rattle.std.proofs.Common.{Some, slice_get, take, get_or, ◌<◌}
use Rattle.std.proofs.lemmas.List.{take_more}
use Rattle.std.proofs.lemmas.Option.{slice_get_within, get_or_from_slice_get}
use Rattle.weighted.specs.Words.{Same, sum_at, word}

-- ---- sums modulo 2^64

pub cong_add : (a b c d : ℕ) → a % 2 ^ 64 ≡ b % 2 ^ 64 → c % 2 ^ 64 ≡ d % 2 ^ 64 → (a + c) % 2 ^ 64 ≡ (b + d) % 2 ^ 64
cong_add a b c d h k = omega arith

pub cong_mul : (g a b : ℕ) → a % 2 ^ 64 ≡ b % 2 ^ 64 → (g * a) % 2 ^ 64 ≡ (g * b) % 2 ^ 64
cong_mul g a b h = sym (mul-mod_second g a (2 ^ 64)) ∙ ap (λ v. (g * v) % 2 ^ 64) h ∙ mul-mod_second g b (2 ^ 64)

-- ---- collections up to their words

module _ {R : Type 0} {cmp : R → R → Ordering} where
  pub Same-refl : (xs : List (R × ℕ)) → Same cmp xs xs
  Same-refl xs = record { words = λ x. refl }

  pub Same-sym : {xs ys : List (R × ℕ)} → Same cmp xs ys → Same cmp ys xs
  Same-sym s = record { words = λ x. sym (s.words x) }

  pub Same-trans : {xs ys zs : List (R × ℕ)} → Same cmp xs ys → Same cmp ys zs → Same cmp xs zs
  Same-trans s t = record { words = λ x. s.words x ∙ t.words x }

pub sum_at-append : {R : Type 0} (cmp : R → R → Ordering) (xs ys : List (R × ℕ)) (x : R) → sum_at cmp (xs ++ ys) x ≡ sum_at cmp xs x + sum_at cmp ys x
sum_at-append cmp [] ys x = omega arith
sum_at-append cmp (e ∷ xs) ys x = omega (arith, sum_at-append cmp xs ys x)

pub Same-append : {R : Type 0} {cmp : R → R → Ordering} {xs ys us vs : List (R × ℕ)} → Same cmp xs ys → Same cmp us vs → Same cmp (xs ++ us) (ys ++ vs)
Same-append {R} {cmp} {xs} {ys} {us} {vs} s t = record { words = λ x. rw (sum_at-append cmp xs us x, sum_at-append cmp ys vs x) (cong_add (sum_at cmp xs x) (sum_at cmp ys x) (sum_at cmp us x) (sum_at cmp vs x) (s.words x) (t.words x)) }

-- ---- sums with a coefficient per record

abbrev pub total : {R : Type 0} → (R → ℕ) → List (R × ℕ) → ℕ
total g [] = 0
total g (e ∷ es) = g e.0 * e.1 + total g es

-- the entries of other records
abbrev others : {R : Type 0} → (R → R → Ordering) → R → List (R × ℕ) → List (R × ℕ)
others cmp d [] = []
others cmp d (e ∷ es) = if is_eq (cmp e.0 d) then others cmp d es else e ∷ others cmp d es

module _ {R : Type 0} (cmp : R → R → Ordering) (same : (x y : R) → cmp x y ≡ Equal → x ≡ y) (itself : (x : R) → cmp x x ≡ Equal) where
  total_split_by : (g : R → ℕ) (d : R) (e : R × ℕ) (rest split here : ℕ) (more : List (R × ℕ)) (b : Bool) → is_eq (cmp e.0 d) ≡ b → rest ≡ g d * here + total g more → g e.0 * e.1 + rest ≡ g d * ((if b then e.1 else 0) + here) + total g (if b then more else e ∷ more)
  total_split_by g d e rest split here more true t h =
      let k : g e.0 ≡ g d = ap g (same e.0 d ((Equal-is (cmp e.0 d)).0 t)) in
      rw k (omega arith)
  total_split_by g d e rest split here more false t h = omega arith

  pub total_split : (g : R → ℕ) (d : R) (es : List (R × ℕ)) → total g es ≡ g d * sum_at cmp es d + total g (others cmp d es)
  total_split g d [] = omega arith
  total_split g d (e ∷ es) = total_split_by g d e (total g es) 0 (sum_at cmp es d) (others cmp d es) (is_eq (cmp e.0 d)) refl (total_split g d es)

  sum_at-others_by : (d x : R) (e : R × ℕ) (rest : ℕ) (more : List (R × ℕ)) (b c : Bool) → is_eq (cmp e.0 d) ≡ b → is_eq (cmp d x) ≡ c → sum_at cmp more x ≡ (if c then 0 else rest) → sum_at cmp (if b then more else e ∷ more) x ≡ (if c then 0 else (if is_eq (cmp e.0 x) then e.1 else 0) + rest)
  sum_at-others_by d x e rest more true true p q h = h
  sum_at-others_by d x e rest more true false p q h =
      let k : e.0 ≡ d = same e.0 d ((Equal-is (cmp e.0 d)).0 p) in
      let n : is_eq (cmp e.0 x) ≡ false = ap (λ v. is_eq (cmp v x)) k ∙ q in
      rw n (omega (arith, h))
  sum_at-others_by d x e rest more false true p q h =
      let k : d ≡ x = same d x ((Equal-is (cmp d x)).0 q) in
      let n : is_eq (cmp e.0 x) ≡ false = ap (λ v. is_eq (cmp e.0 v)) (sym k) ∙ p in
      rw n (omega (arith, h))
  sum_at-others_by d x e rest more false false p q h = ap (λ v. (if is_eq (cmp e.0 x) then e.1 else 0) + v) h

  sum_at-others : (d : R) (es : List (R × ℕ)) (x : R) → sum_at cmp (others cmp d es) x ≡ (if is_eq (cmp d x) then 0 else sum_at cmp es x)
  sum_at-others d [] x = elim (is_eq (cmp d x)) as (λ b. ◌≡◌ {A = ℕ} 0 (if b then 0 else 0)) [ true ↦ refl | false ↦ refl ]
  sum_at-others d (e ∷ es) x = sum_at-others_by d x e (sum_at cmp es x) (others cmp d es) (is_eq (cmp e.0 d)) (is_eq (cmp d x)) refl refl (sum_at-others d es x)

  choose_zero : (c : Bool) → (if c then 0 else 0) % 2 ^ 64 ≡ 0
  choose_zero true = refl
  choose_zero false = refl

  choose_same : (c : Bool) (a b : ℕ) → a % 2 ^ 64 ≡ b % 2 ^ 64 → (if c then 0 else a) % 2 ^ 64 ≡ (if c then 0 else b) % 2 ^ 64
  choose_same true a b h = refl
  choose_same false a b h = h

  Same-others : (d : R) (xs ys : List (R × ℕ)) → Same cmp xs ys → Same cmp (others cmp d xs) (others cmp d ys)
  Same-others d xs ys s = record { words = λ x. rw (sum_at-others d xs x, sum_at-others d ys x) (choose_same (is_eq (cmp d x)) (sum_at cmp xs x) (sum_at cmp ys x) (s.words x)) }

  length-others_by : (d : R) (e : R × ℕ) (more : List (R × ℕ)) (b : Bool) → length (if b then more else e ∷ more) ≤ 1 + length more
  length-others_by d e more true = omega arith
  length-others_by d e more false = omega arith

  length-others : (d : R) (es : List (R × ℕ)) → length (others cmp d es) ≤ length es
  length-others d [] = omega arith
  length-others d (e ∷ es) = omega (arith, length-others_by d e (others cmp d es) (is_eq (cmp e.0 d)), length-others d es)

  others-itself : (e : R × ℕ) (es : List (R × ℕ)) → others cmp e.0 (e ∷ es) ≡ others cmp e.0 es
  others-itself e es = ap (λ b. if b then others cmp e.0 es else e ∷ others cmp e.0 es) (ap is_eq (itself e.0))

  length-others_itself : (e : R × ℕ) (es : List (R × ℕ)) → length (others cmp e.0 (e ∷ es)) ≤ length es
  length-others_itself e es = rw (others-itself e es) (length-others e.0 es)

  total-same_at : (g : R → ℕ) (d : R) (xs ys : List (R × ℕ)) → Same cmp xs ys → total g (others cmp d xs) % 2 ^ 64 ≡ total g (others cmp d ys) % 2 ^ 64 → total g xs % 2 ^ 64 ≡ total g ys % 2 ^ 64
  total-same_at g d xs ys s h = rw (total_split g d xs, total_split g d ys) (cong_add (g d * sum_at cmp xs d) (g d * sum_at cmp ys d) (total g (others cmp d xs)) (total g (others cmp d ys)) (cong_mul (g d) (sum_at cmp xs d) (sum_at cmp ys d) (s.words d)) h)

  total-same_within : (n : ℕ) (g : R → ℕ) (xs ys : List (R × ℕ)) → length xs + length ys ≤ n → Same cmp xs ys → total g xs % 2 ^ 64 ≡ total g ys % 2 ^ 64
  total-same_within zero g [] [] h s = refl
  total-same_within zero g [] (e ∷ ys) h s = absurd (omega arith)
  total-same_within zero g (e ∷ xs) ys h s = absurd (omega arith)
  total-same_within (suc n) g [] [] h s = refl
  total-same_within (suc n) g [] (e ∷ ys) h s = total-same_at g e.0 [] (e ∷ ys) s (total-same_within n g (others cmp e.0 []) (others cmp e.0 (e ∷ ys)) (omega (arith, length-others_itself e ys)) (Same-others e.0 [] (e ∷ ys) s))
  total-same_within (suc n) g (e ∷ xs) ys h s = total-same_at g e.0 (e ∷ xs) ys s (total-same_within n g (others cmp e.0 (e ∷ xs)) (others cmp e.0 ys) (omega (arith, length-others_itself e xs, length-others e.0 ys)) (Same-others e.0 (e ∷ xs) ys s))

  -- a sum with a coefficient per record depends on the words alone
  pub total-same : (g : R → ℕ) (xs ys : List (R × ℕ)) → Same cmp xs ys → total g xs % 2 ^ 64 ≡ total g ys % 2 ^ 64
  total-same g xs ys s = total-same_within (length xs + length ys) g xs ys (omega arith) s

  -- two coefficients that agree but where the word is zero
  total-agree_at : (g h : R → ℕ) (d : R) (es : List (R × ℕ)) → (g d ≡ h d) ⊎ (word cmp es d ≡ 0) → total g (others cmp d es) % 2 ^ 64 ≡ total h (others cmp d es) % 2 ^ 64 → total g es % 2 ^ 64 ≡ total h es % 2 ^ 64
  total-agree_at g h d es (inl e) k = rw (total_split g d es, total_split h d es, e) (cong_add (h d * sum_at cmp es d) (h d * sum_at cmp es d) (total g (others cmp d es)) (total h (others cmp d es)) refl k)
  total-agree_at g h d es (inr z) k = rw (total_split g d es, total_split h d es) (cong_add (g d * sum_at cmp es d) (h d * sum_at cmp es d) (total g (others cmp d es)) (total h (others cmp d es)) (cong_mul (g d) (sum_at cmp es d) 0 z ∙ omega arith ∙ sym (cong_mul (h d) (sum_at cmp es d) 0 z)) k)

  agree-others : (g h : R → ℕ) (d : R) (es : List (R × ℕ)) → ((u : R) → (g u ≡ h u) ⊎ (word cmp es u ≡ 0)) → (u : R) → (g u ≡ h u) ⊎ (word cmp (others cmp d es) u ≡ 0)
  agree-others g h d es f u = elim (f u) [
    | inl e ↦ inl e
    | inr z ↦ inr (rw (sum_at-others d es u) (choose_same (is_eq (cmp d u)) (sum_at cmp es u) 0 z ∙ choose_zero (is_eq (cmp d u))))
  ]

  total-agree_within : (n : ℕ) (g h : R → ℕ) (es : List (R × ℕ)) → length es ≤ n → ((u : R) → (g u ≡ h u) ⊎ (word cmp es u ≡ 0)) → total g es % 2 ^ 64 ≡ total h es % 2 ^ 64
  total-agree_within zero g h [] k f = refl
  total-agree_within zero g h (e ∷ es) k f = absurd (omega arith)
  total-agree_within (suc n) g h [] k f = refl
  total-agree_within (suc n) g h (e ∷ es) k f = total-agree_at g h e.0 (e ∷ es) (f e.0) (total-agree_within n g h (others cmp e.0 (e ∷ es)) (omega (arith, length-others_itself e es)) (agree-others g h e.0 (e ∷ es) f))

  pub total-agree : (g h : R → ℕ) (es : List (R × ℕ)) → ((u : R) → (g u ≡ h u) ⊎ (word cmp es u ≡ 0)) → total g es % 2 ^ 64 ≡ total h es % 2 ^ 64
  total-agree g h es f = total-agree_within (length es) g h es (omega arith) f

-- ---- a function on each record

abbrev pub mapped : {A B : Type 0} → (A → B) → List (A × ℕ) → List (B × ℕ)
mapped f [] = []
mapped f (e ∷ es) = (f e.0, e.1) ∷ mapped f es

mapped-total_by : (b : Bool) (w n m : ℕ) → n ≡ m → (if b then w else 0) + n ≡ (if b then 1 else 0) * w + m
mapped-total_by true w n m h = omega arith
mapped-total_by false w n m h = omega arith

mapped-total : {A B : Type 0} (cmp : B → B → Ordering) (f : A → B) (es : List (A × ℕ)) (y : B) → sum_at cmp (mapped f es) y ≡ total (λ a. if is_eq (cmp (f a) y) then 1 else 0) es
mapped-total cmp f [] y = refl
mapped-total cmp f (e ∷ es) y = mapped-total_by (is_eq (cmp (f e.0) y)) e.1 (sum_at cmp (mapped f es) y) (total (λ a. if is_eq (cmp (f a) y) then 1 else 0) es) (mapped-total cmp f es y)

pub Same-mapped : {A B : Type 0} {acmp : A → A → Ordering} (bcmp : B → B → Ordering) (f : A → B) → ((x y : A) → acmp x y ≡ Equal → x ≡ y) → ((x : A) → acmp x x ≡ Equal) → (xs ys : List (A × ℕ)) → Same acmp xs ys → Same bcmp (mapped f xs) (mapped f ys)
Same-mapped {A} {B} {acmp} bcmp f same itself xs ys s = record { words = λ y. rw (mapped-total bcmp f xs y, mapped-total bcmp f ys y) (total-same acmp same itself (λ a. if is_eq (bcmp (f a) y) then 1 else 0) xs ys s) }

pub mapped-append : {A B : Type 0} (f : A → B) (xs ys : List (A × ℕ)) → mapped f (xs ++ ys) ≡ mapped f xs ++ mapped f ys
mapped-append f [] ys = refl
mapped-append f (e ∷ xs) ys = ap (λ v. (f e.0, e.1) ∷ v) (mapped-append f xs ys)

pub mapped_more : {A B : Type 0} (f : A → B) (xs : List (A × ℕ)) (i : ℕ) (e : A × ℕ) → slice_get xs i ≡ Some e → mapped f (take (i + 1) xs) ≡ mapped f (take i xs) ++ (f e.0, e.1) ∷ []
mapped_more f xs i e h =
    let k : i < length xs = slice_get_within xs i e h in
    let at : get_or xs i e ≡ e = get_or_from_slice_get xs i e e h in
    let t : take (i + 1) xs ≡ take i xs ++ get_or xs i e ∷ [] = take_more xs i e k in
    ap (mapped f) t ∙ mapped-append f (take i xs) (get_or xs i e ∷ []) ∙ ap (λ v. mapped f (take i xs) ++ (f v.0, v.1) ∷ []) at

pub mapped-is_map : {A B : Type 0} (f : A → B) (xs : List (A × ℕ)) → mapped f xs ≡ map (λ e. (f e.0, e.1)) xs
mapped-is_map f [] = refl
mapped-is_map f (e ∷ xs) = ap (λ v. (f e.0, e.1) ∷ v) (mapped-is_map f xs)
