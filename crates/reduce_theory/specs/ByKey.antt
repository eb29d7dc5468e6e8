-- A collection of keyed records, key by key.
use Rattle.std.specs.Prelude.{◌≡◌, ℕ, ◌+◌, ◌*◌, ◌%◌, ◌^◌, ◌≤◌, ◌||◌, Bool, true, false, List, [], ◌∷◌, ◌++◌, length, if◌then◌else◌, refl}
use Rattle.std.specs.declared.cmp.Ordering.{Ordering}
use Rattle.std.specs.declared.cmp.Ordering.TheVariants.{Equal}
use Rattle.std.specs.Ordering.{is_eq}
use Rattle.std.specs.Cmp.{Equal-is, IsTotalOrder}
use Rattle.std.proofs.Common.{arith, ap, sym, subst, ◌∙◌, append-nil, zero, suc}
use Rattle.weighted.specs.WordLaws.{total, cong_add, mapped}
use Rattle.weighted.specs.Normal.{normal, normal-same}
use Rattle.weighted.specs.Alike.{Alike, Alike-is, Alike-refl}
use Rattle.flow_core.specs.Runs.{Step, fed_to, made_to, times_of}
use Rattle.reduce_theory.specs.Evaluated.{key_part, key_steps, keys_in, has_key}

module _ {K V : Type 0} (kcmp : K → K → Ordering) (same : (x y : K) → kcmp x y ≡ Equal → x ≡ y) (itself : (x : K) → kcmp x x ≡ Equal) where
  -- the entries of other keys
  abbrev other_keys : K → List ((K × V) × ℕ) → List ((K × V) × ℕ)
  other_keys d [] = []
  other_keys d (e ∷ es) = if is_eq (kcmp e.0.0 d) then other_keys d es else e ∷ other_keys d es

  split_by : (g : K × V → ℕ) (d : K) (e : (K × V) × ℕ) (rest : ℕ) (part : List (V × ℕ)) (more : List ((K × V) × ℕ)) (b : Bool) → is_eq (kcmp e.0.0 d) ≡ b → rest ≡ total (λ v. g (d, v)) part + total g more → g e.0 * e.1 + rest ≡ total (λ v. g (d, v)) (if b then (e.0.1, e.1) ∷ part else part) + total g (if b then more else e ∷ more)
  split_by g d e rest part more true t h =
      let k : g e.0 ≡ g (d, e.0.1) = ap (λ x. g (x, e.0.1)) (same e.0.0 d ((Equal-is (kcmp e.0.0 d)).0 t)) in
      rw k (omega (arith, h))
  split_by g d e rest part more false t h = omega (arith, h)

  split_total : (g : K × V → ℕ) (d : K) (es : List ((K × V) × ℕ)) → total g es ≡ total (λ v. g (d, v)) (key_part kcmp d es) + total g (other_keys d es)
  split_total g d [] = refl
  split_total g d (e ∷ es) = split_by g d e (total g es) (key_part kcmp d es) (other_keys d es) (is_eq (kcmp e.0.0 d)) refl (split_total g d es)

  part_others_by : (d k : K) (e : (K × V) × ℕ) (rest : List (V × ℕ)) (more : List ((K × V) × ℕ)) (b c : Bool) → is_eq (kcmp e.0.0 d) ≡ b → is_eq (kcmp d k) ≡ c → key_part kcmp k more ≡ (if c then [] else rest) → key_part kcmp k (if b then more else e ∷ more) ≡ (if c then [] else (if is_eq (kcmp e.0.0 k) then (e.0.1, e.1) ∷ rest else rest))
  part_others_by d k e rest more true true p q h = h
  part_others_by d k e rest more true false p q h =
      let n : is_eq (kcmp e.0.0 k) ≡ false = ap (λ v. is_eq (kcmp v k)) (same e.0.0 d ((Equal-is (kcmp e.0.0 d)).0 p)) ∙ q in
      rw n h
  part_others_by d k e rest more false true p q h =
      let n : is_eq (kcmp e.0.0 k) ≡ false = ap (λ v. is_eq (kcmp e.0.0 v)) (sym (same d k ((Equal-is (kcmp d k)).0 q))) ∙ p in
      rw n h
  part_others_by d k e rest more false false p q h = ap (λ v. if is_eq (kcmp e.0.0 k) then (e.0.1, e.1) ∷ v else v) h

  part_others : (d k : K) (es : List ((K × V) × ℕ)) → key_part kcmp k (other_keys d es) ≡ (if is_eq (kcmp d k) then [] else key_part kcmp k es)
  part_others d k [] = elim (is_eq (kcmp d k)) as (λ b. ◌≡◌ {A = List (V × ℕ)} [] (if b then [] else [])) [ true ↦ refl | false ↦ refl ]
  part_others d k (e ∷ es) = part_others_by d k e (key_part kcmp k es) (other_keys d es) (is_eq (kcmp e.0.0 d)) (is_eq (kcmp d k)) refl refl (part_others d k es)

  Alike-if : (b : Bool) (xs ys : List (V × ℕ)) → Alike xs ys → Alike (if b then [] else xs) (if b then [] else ys)
  Alike-if true xs ys h = Alike-refl []
  Alike-if false xs ys h = h

  length_by : (e : (K × V) × ℕ) (more : List ((K × V) × ℕ)) (b : Bool) → length (if b then more else e ∷ more) ≤ 1 + length more
  length_by e more true = omega arith
  length_by e more false = omega arith

  length-others : (d : K) (es : List ((K × V) × ℕ)) → length (other_keys d es) ≤ length es
  length-others d [] = omega arith
  length-others d (e ∷ es) = omega (arith, length_by e (other_keys d es) (is_eq (kcmp e.0.0 d)), length-others d es)

  length-itself : (e : (K × V) × ℕ) (es : List ((K × V) × ℕ)) → length (other_keys e.0.0 (e ∷ es)) ≤ length es
  length-itself e es = rw (ap is_eq (itself e.0.0)) (length-others e.0.0 es)

  at_key : (g : K × V → ℕ) (d : K) (xs ys : List ((K × V) × ℕ)) → Alike (key_part kcmp d xs) (key_part kcmp d ys) → total g (other_keys d xs) % 2 ^ 64 ≡ total g (other_keys d ys) % 2 ^ 64 → total g xs % 2 ^ 64 ≡ total g ys % 2 ^ 64
  at_key g d xs ys a h = rw (split_total g d xs, split_total g d ys) (cong_add (total (λ v. g (d, v)) (key_part kcmp d xs)) (total (λ v. g (d, v)) (key_part kcmp d ys)) (total g (other_keys d xs)) (total g (other_keys d ys)) (a.totals (λ v. g (d, v))) h)

  others_alike : (d : K) (xs ys : List ((K × V) × ℕ)) → ((k : K) → Alike (key_part kcmp k xs) (key_part kcmp k ys)) → (k : K) → Alike (key_part kcmp k (other_keys d xs)) (key_part kcmp k (other_keys d ys))
  others_alike d xs ys f k = rw (part_others d k xs, part_others d k ys) (Alike-if (is_eq (kcmp d k)) (key_part kcmp k xs) (key_part kcmp k ys) (f k))

  within : (n : ℕ) (g : K × V → ℕ) (xs ys : List ((K × V) × ℕ)) → length xs + length ys ≤ n → ((k : K) → Alike (key_part kcmp k xs) (key_part kcmp k ys)) → total g xs % 2 ^ 64 ≡ total g ys % 2 ^ 64
  within zero g [] [] h f = refl
  within zero g [] (e ∷ ys) h f = absurd (omega arith)
  within zero g (e ∷ xs) ys h f = absurd (omega arith)
  within (suc n) g [] [] h f = refl
  within (suc n) g [] (e ∷ ys) h f = at_key g e.0.0 [] (e ∷ ys) (f e.0.0) (within n g (other_keys e.0.0 []) (other_keys e.0.0 (e ∷ ys)) (omega (arith, length-itself e ys)) (others_alike e.0.0 [] (e ∷ ys) f))
  within (suc n) g (e ∷ xs) ys h f = at_key g e.0.0 (e ∷ xs) ys (f e.0.0) (within n g (other_keys e.0.0 (e ∷ xs)) (other_keys e.0.0 ys) (omega (arith, length-itself e xs, length-others e.0.0 ys)) (others_alike e.0.0 (e ∷ xs) ys f))

  -- collections that are alike at each key are alike
  pub by_keys : (xs ys : List ((K × V) × ℕ)) → ((k : K) → Alike (key_part kcmp k xs) (key_part kcmp k ys)) → Alike xs ys
  by_keys xs ys f = record { totals = λ g. within (length xs + length ys) g xs ys (omega arith) f }

  part_total_by : (b : Bool) (h w n m : ℕ) (v : V) (part : List (V × ℕ)) (f : V → ℕ) → f v ≡ h → n ≡ total f part → (if b then h else 0) * w + n ≡ total f (if b then (v, w) ∷ part else part)
  part_total_by true h w n m v part f p q = rw p (omega (arith, q))
  part_total_by false h w n m v part f p q = omega (arith, q)

  part_total : (f : V → ℕ) (k : K) (es : List ((K × V) × ℕ)) → total (λ r. if is_eq (kcmp r.0 k) then f r.1 else 0) es ≡ total f (key_part kcmp k es)
  part_total f k [] = refl
  part_total f k (e ∷ es) = part_total_by (is_eq (kcmp e.0.0 k)) (f e.0.1) e.1 (total (λ r. if is_eq (kcmp r.0 k) then f r.1 else 0) es) 0 e.0.1 (key_part kcmp k es) f refl (part_total f k es)

  -- and the other way
  pub at_each_key : (xs ys : List ((K × V) × ℕ)) → Alike xs ys → (k : K) → Alike (key_part kcmp k xs) (key_part kcmp k ys)
  at_each_key xs ys a k = record { totals = λ f. rw (← part_total f k xs, ← part_total f k ys) (a.totals (λ r. if is_eq (kcmp r.0 k) then f r.1 else 0)) }

-- ---- the function of a reduce

-- a part for each of some keys
abbrev pub over : {K O : Type 0} → (K → List (O × ℕ)) → List K → List ((K × O) × ℕ)
over part [] = []
over part (k ∷ ks) = mapped (λ o. (k, o)) (part k) ++ over part ks

-- for each key what the logic gives for the key's values with nonzero words, rising
abbrev pub reduce_apply : {K V O : Type 0} → (K → K → Ordering) → (V → V → Ordering) → (K → List (V × ℕ) → List (O × ℕ)) → List ((K × V) × ℕ) → List ((K × O) × ℕ)
reduce_apply kcmp vcmp gives xs = over (λ k. gives k (normal vcmp (key_part kcmp k xs))) (keys_in kcmp xs [])

abbrev pub Distinct : {K : Type 0} → (K → K → Ordering) → List K → Type 0
Distinct kcmp [] = Unit {0}
Distinct kcmp (k ∷ ks) = (has_key kcmp k ks ≡ false) × Distinct kcmp ks

or_false : (a b : Bool) → a || b ≡ false → (a ≡ false) × (b ≡ false)
or_false true b h = absurd (cc)
or_false false b h = (refl, h)

part_append_by : {A : Type 0} (b : Bool) (v : A) (w : ℕ) (us vs ws : List (A × ℕ)) → us ≡ vs ++ ws → (if b then (v, w) ∷ us else us) ≡ (if b then (v, w) ∷ vs else vs) ++ ws
part_append_by true v w us vs ws h = ap (λ u. (v, w) ∷ u) h
part_append_by false v w us vs ws h = h

module _ {K : Type 0} (kcmp : K → K → Ordering) (same : (x y : K) → kcmp x y ≡ Equal → x ≡ y) (itself : (x : K) → kcmp x x ≡ Equal) where
  part_mapped : {O : Type 0} (j k : K) (zs : List (O × ℕ)) → key_part kcmp k (mapped (λ o. (j, o)) zs) ≡ (if is_eq (kcmp j k) then zs else [])
  part_mapped {O} j k [] = elim (is_eq (kcmp j k)) as (λ b. ◌≡◌ {A = List (O × ℕ)} [] (if b then [] else [])) [ true ↦ refl | false ↦ refl ]
  part_mapped {O} j k (z ∷ zs) = ap (λ v. if is_eq (kcmp j k) then z ∷ v else v) (part_mapped j k zs) ∙ by (is_eq (kcmp j k)) where
    by : (b : Bool) → (if b then z ∷ (if b then zs else []) else (if b then zs else [])) ≡ (if b then z ∷ zs else [])
    by true = refl
    by false = refl

  pub part-append : {A : Type 0} (k : K) (xs ys : List ((K × A) × ℕ)) → key_part kcmp k (xs ++ ys) ≡ key_part kcmp k xs ++ key_part kcmp k ys
  part-append k [] ys = refl
  part-append k (e ∷ xs) ys = part_append_by (is_eq (kcmp e.0.0 k)) e.0.1 e.1 (key_part kcmp k (xs ++ ys)) (key_part kcmp k xs) (key_part kcmp k ys) (part-append k xs ys)

  module _ {O : Type 0} (part : K → List (O × ℕ)) where
    pub absent : (ks : List K) (k : K) → has_key kcmp k ks ≡ false → key_part kcmp k (over part ks) ≡ []
    absent [] k h = refl
    absent (j ∷ ks) k h =
        let both : (is_eq (kcmp j k) ≡ false) × (has_key kcmp k ks ≡ false) = or_false (is_eq (kcmp j k)) (has_key kcmp k ks) h in
        part-append k (mapped (λ o. (j, o)) (part j)) (over part ks) ∙ ap (λ v. v ++ key_part kcmp k (over part ks)) (part_mapped j k (part j) ∙ ap (λ b. if b then part j else []) both.0) ∙ absent ks k both.1

    present_by : (j : K) (ks : List K) (k : K) (b : Bool) → is_eq (kcmp j k) ≡ b → has_key kcmp j ks ≡ false → b || has_key kcmp k ks ≡ true → (has_key kcmp k ks ≡ true → key_part kcmp k (over part ks) ≡ part k) → key_part kcmp k (over part (j ∷ ks)) ≡ part k
    present_by j ks k true t d h go =
        let e : j ≡ k = same j k ((Equal-is (kcmp j k)).0 t) in
        let rest : key_part kcmp k (over part ks) ≡ [] = absent ks k (subst (λ v. has_key kcmp v ks ≡ false) e d) in
        part-append k (mapped (λ o. (j, o)) (part j)) (over part ks) ∙ ap (λ v. key_part kcmp k (mapped (λ o. (j, o)) (part j)) ++ v) rest ∙ append-nil (key_part kcmp k (mapped (λ o. (j, o)) (part j))) ∙ part_mapped j k (part j) ∙ ap (λ b. if b then part j else []) t ∙ ap part e
    present_by j ks k false t d h go = part-append k (mapped (λ o. (j, o)) (part j)) (over part ks) ∙ ap (λ v. v ++ key_part kcmp k (over part ks)) (part_mapped j k (part j) ∙ ap (λ b. if b then part j else []) t) ∙ go h

    pub present : (ks : List K) (k : K) → Distinct kcmp ks → has_key kcmp k ks ≡ true → key_part kcmp k (over part ks) ≡ part k
    present [] k d h = absurd (cc)
    present (j ∷ ks) k d h = present_by j ks k (is_eq (kcmp j k)) refl d.0 h (present ks k d.1)

  -- ---- the keys of a list

  distinct_by : (k : K) (ks : List K) (b : Bool) → has_key kcmp k ks ≡ b → Distinct kcmp ks → Distinct kcmp (if b then ks else k ∷ ks)
  distinct_by k ks true h d = d
  distinct_by k ks false h d = (h, d)

  keys_distinct : {V : Type 0} (xs : List ((K × V) × ℕ)) → Distinct kcmp (keys_in kcmp xs [])
  keys_distinct [] = tt
  keys_distinct (e ∷ xs) = distinct_by e.0.0 (keys_in kcmp xs []) (has_key kcmp e.0.0 (keys_in kcmp xs [])) refl (keys_distinct xs)

  missing_by : {V : Type 0} (e : (K × V) × ℕ) (xs : List ((K × V) × ℕ)) (k : K) (ks : List K) (b c : Bool) → has_key kcmp e.0.0 ks ≡ b → is_eq (kcmp e.0.0 k) ≡ c → has_key kcmp k (if b then ks else e.0.0 ∷ ks) ≡ false → (has_key kcmp k ks ≡ false → key_part kcmp k xs ≡ []) → (if c then (e.0.1, e.1) ∷ key_part kcmp k xs else key_part kcmp k xs) ≡ []
  missing_by e xs k ks true false h t m go = go m
  missing_by e xs k ks false false h t m go = go (or_false (is_eq (kcmp e.0.0 k)) (has_key kcmp k ks) m).1
  missing_by e xs k ks true true h t m go =
      let s : has_key kcmp k ks ≡ true = subst (λ v. has_key kcmp v ks ≡ true) (same e.0.0 k ((Equal-is (kcmp e.0.0 k)).0 t)) h in
      let f : true ≡ false = sym s ∙ m in absurd (cc)
  missing_by e xs k ks false true h t m go = let f : true ≡ false = sym t ∙ (or_false (is_eq (kcmp e.0.0 k)) (has_key kcmp k ks) m).0 in absurd (cc)

  missing : {V : Type 0} (xs : List ((K × V) × ℕ)) (k : K) → has_key kcmp k (keys_in kcmp xs []) ≡ false → key_part kcmp k xs ≡ []
  missing [] k h = refl
  missing (e ∷ xs) k h = missing_by e xs k (keys_in kcmp xs []) (has_key kcmp e.0.0 (keys_in kcmp xs [])) (is_eq (kcmp e.0.0 k)) refl refl h (missing xs k)

  part_by : {V O : Type 0} (vcmp : V → V → Ordering) (gives : K → List (V × ℕ) → List (O × ℕ)) → ((k : K) → gives k [] ≡ []) → (xs : List ((K × V) × ℕ)) (k : K) (b : Bool) → has_key kcmp k (keys_in kcmp xs []) ≡ b → key_part kcmp k (reduce_apply kcmp vcmp gives xs) ≡ gives k (normal vcmp (key_part kcmp k xs))
  part_by vcmp gives nothing xs k true h = present (λ k. gives k (normal vcmp (key_part kcmp k xs))) (keys_in kcmp xs []) k (keys_distinct xs) h
  part_by vcmp gives nothing xs k false h = absent (λ k. gives k (normal vcmp (key_part kcmp k xs))) (keys_in kcmp xs []) k h ∙ sym (ap (λ v. gives k (normal vcmp v)) (missing xs k h) ∙ nothing k)

  -- at each key it is what the logic gives of the key's words
  pub reduce_part : {V O : Type 0} (vcmp : V → V → Ordering) (gives : K → List (V × ℕ) → List (O × ℕ)) → ((k : K) → gives k [] ≡ []) → (xs : List ((K × V) × ℕ)) (k : K) → key_part kcmp k (reduce_apply kcmp vcmp gives xs) ≡ gives k (normal vcmp (key_part kcmp k xs))
  reduce_part vcmp gives nothing xs k = part_by vcmp gives nothing xs k (has_key kcmp k (keys_in kcmp xs [])) refl

  -- it takes one collection to one collection
  pub reduce_respects : {V O : Type 0} (vcmp : V → V → Ordering) → IsTotalOrder vcmp → ((x y : V) → vcmp x y ≡ Equal → x ≡ y) → (gives : K → List (V × ℕ) → List (O × ℕ)) → ((k : K) → gives k [] ≡ []) → (xs ys : List ((K × V) × ℕ)) → Alike xs ys → Alike (reduce_apply kcmp vcmp gives xs) (reduce_apply kcmp vcmp gives ys)
  reduce_respects vcmp order vsame gives nothing xs ys a = by_keys kcmp same itself (reduce_apply kcmp vcmp gives xs) (reduce_apply kcmp vcmp gives ys) (λ k. rw (reduce_part vcmp gives nothing xs k, reduce_part vcmp gives nothing ys k) (Alike-is (ap (gives k) (normal-same vcmp order vsame (key_part kcmp k xs) (key_part kcmp k ys) (at_each_key kcmp same itself xs ys a k)))))

-- ---- the steps of one key

pub pick : {K A : Type 0} (kcmp : K → K → Ordering) (k : K) (b : Bool) (es : List ((K × A) × ℕ)) → (if b then key_part kcmp k es else []) ≡ key_part kcmp k (if b then es else [])
pick kcmp k true es = refl
pick kcmp k false es = refl

module _ {T K V O : Type 0} (kcmp : K → K → Ordering) (same : (x y : K) → kcmp x y ≡ Equal → x ≡ y) (itself : (x : K) → kcmp x x ≡ Equal) (k : K) where
  pub key_steps-append : (xs ys : List (Step T (K × V) (K × O))) → key_steps kcmp k (xs ++ ys) ≡ key_steps kcmp k xs ++ key_steps kcmp k ys
  key_steps-append [] ys = refl
  key_steps-append (s ∷ xs) ys = ap (λ v. record { time = s.time; fed = key_part kcmp k s.fed; made = key_part kcmp k s.made; charge = s.charge } ∷ v) (key_steps-append xs ys)

  pub times_of-key : (ss : List (Step T (K × V) (K × O))) → times_of (key_steps kcmp k ss) ≡ times_of ss
  times_of-key [] = refl
  times_of-key (s ∷ ss) = ap (λ v. s.time ∷ v) (times_of-key ss)

  pub fed_to-key : (leq : T → T → Bool) (ss : List (Step T (K × V) (K × O))) (t : T) → fed_to leq (key_steps kcmp k ss) t ≡ key_part kcmp k (fed_to leq ss t)
  fed_to-key leq [] t = refl
  fed_to-key leq (s ∷ ss) t = ap (λ v. v ++ fed_to leq (key_steps kcmp k ss) t) (pick kcmp k (leq s.time t) s.fed) ∙ ap (λ v. key_part kcmp k (if leq s.time t then s.fed else []) ++ v) (fed_to-key leq ss t) ∙ sym (part-append kcmp same itself k (if leq s.time t then s.fed else []) (fed_to leq ss t))

  pub made_to-key : (leq : T → T → Bool) (ss : List (Step T (K × V) (K × O))) (t : T) → made_to leq (key_steps kcmp k ss) t ≡ key_part kcmp k (made_to leq ss t)
  made_to-key leq [] t = refl
  made_to-key leq (s ∷ ss) t = ap (λ v. v ++ made_to leq (key_steps kcmp k ss) t) (pick kcmp k (leq s.time t) s.made) ∙ ap (λ v. key_part kcmp k (if leq s.time t then s.made else []) ++ v) (made_to-key leq ss t) ∙ sym (part-append kcmp same itself k (if leq s.time t then s.made else []) (made_to leq ss t))
