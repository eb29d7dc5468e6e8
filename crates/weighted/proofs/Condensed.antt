-- Adding up the entries of one record where they stand side by side gives the normal form of a list in order.
use Rattle.std.proofs.Common.{◌≡◌, ◌∙◌, ℕ, ◌+◌, ◌-◌, ◌*◌, ◌%◌, ◌^◌, ◌<◌, ◌==◌, Bool, true, false, List, [], ◌∷◌, ◌++◌, length, get_or, take, drop, append_assoc, Ordering, refl, ap, sym, subst, arith, add-one}
use Rattle.std.proofs.lemmas.List.{drop_more, drop-drop}
use Rattle.std.specs.Prelude.{if◌then◌else◌}
use Rattle.std.specs.Cmp.{IsTotalOrder}
use Rattle.std.specs.Ordering.{is_eq, is_lt, ordering_reverse}
use Rattle.std.specs.declared.cmp.Ordering.TheVariants.{Less, Equal, Greater}
use Rattle.std.specs.List.Sorted.{IsSortedByKey}
use Rattle.weighted.specs.WordLaws.{total, cong_add, cong_mul}
use Rattle.weighted.specs.Alike.{Alike, Alike-trans, Alike-append}
use Rattle.weighted.specs.Normal.{Below, Rising, Weighty, trimmed, normal, normal-only, trimmed-Alike, Below-trimmed, Rising-trimmed, Weighty-trimmed}
use Rattle.weighted.proofs.Rises.{Under, Below-append, Rising-append, Weighty-append}

-- a list of entries after one that is held, each run of one record added up
abbrev pub condensed : {R : Type 0} → (R → R → Ordering) → R × ℕ → List (R × ℕ) → List (R × ℕ)
condensed cmp held [] = trimmed (held ∷ [])
condensed cmp held (e ∷ es) = if is_eq (cmp e.0 held.0) then condensed cmp (held.0, (held.1 + e.1) % 2 ^ 64) es else trimmed (held ∷ []) ++ condensed cmp e es

-- no record is below the one before it
abbrev pub Climbs : {R : Type 0} → (R → R → Ordering) → R → List (R × ℕ) → Type 0
Climbs cmp x [] = Unit {0}
Climbs cmp x (e ∷ es) = (is_lt (cmp e.0 x) ≡ false) × Climbs cmp e.0 es

abbrev Steps : {R : Type 0} → (R → R → Ordering) → List (R × ℕ) → Type 0
Steps {R} cmp es = (k : ℕ) (d : R × ℕ) → k + 1 < length es → is_lt (cmp (get_or es (k + 1) d).0 (get_or es k d).0) ≡ false

climbs_from_steps : {R : Type 0} (cmp : R → R → Ordering) (e : R × ℕ) (es : List (R × ℕ)) → Steps cmp (e ∷ es) → Climbs cmp e.0 es
climbs_from_steps cmp e [] s = tt
climbs_from_steps {R} cmp e (f ∷ es) s = (s 0 e (omega arith), climbs_from_steps cmp f es (λ k d low. next k d low)) where
  next : (k : ℕ) (d : R × ℕ) → k + 1 < length (f ∷ es) → is_lt (cmp (get_or (f ∷ es) (k + 1) d).0 (get_or (f ∷ es) k d).0) ≡ false
  next k d low =
      let one : is_lt (cmp (get_or (f ∷ es) (k + 1) d).0 (get_or (e ∷ f ∷ es) (k + 1) d).0) ≡ false = subst (λ n. is_lt (cmp (get_or (e ∷ f ∷ es) n d).0 (get_or (e ∷ f ∷ es) (k + 1) d).0) ≡ false) (add-one (k + 1)) (s (k + 1) d (omega arith)) in
      subst (λ n. is_lt (cmp (get_or (f ∷ es) (k + 1) d).0 (get_or (e ∷ f ∷ es) n d).0) ≡ false) (add-one k) one

pub climbs_from_sorted : {R : Type 0} (cmp : R → R → Ordering) (e : R × ℕ) (es : List (R × ℕ)) → IsSortedByKey (λ (p : R × ℕ). p.0) cmp (e ∷ es) → Climbs cmp e.0 es
climbs_from_sorted cmp e es s = climbs_from_steps cmp e es (λ k d low. s k d (omega arith) low)

module _ {R : Type 0} (cmp : R → R → Ordering) (order : IsTotalOrder cmp) (same : (x y : R) → cmp x y ≡ Equal → x ≡ y) where
  above : (x y : R) (o : Ordering) → cmp x y ≡ o → is_eq o ≡ false → is_lt o ≡ false → cmp y x ≡ Less
  above x y Less h n l = absurd (cc)
  above x y Equal h n l = absurd (cc)
  above x y Greater h n l = order.antisymm y x ∙ ap ordering_reverse h

  equal : (o : Ordering) → is_eq o ≡ true → o ≡ Equal
  equal Less h = absurd (cc)
  equal Equal h = refl
  equal Greater h = absurd (cc)

  -- ---- it is the same collection

  two_alike : (x : R) (w v : ℕ) (es : List (R × ℕ)) → Alike ((x, (w + v) % 2 ^ 64) ∷ es) ((x, w) ∷ (x, v) ∷ es)
  two_alike x w v es = record { totals = λ g. cong_add (g x * ((w + v) % 2 ^ 64)) (g x * (w + v)) (total g es) (total g es) (cong_mul (g x) ((w + v) % 2 ^ 64) (w + v) (omega arith)) refl ∙ ap (λ n. n % 2 ^ 64) (omega arith) }

  condensed_Alike_by : (held e : R × ℕ) (es : List (R × ℕ)) (b : Bool) → is_eq (cmp e.0 held.0) ≡ b → Alike (condensed cmp (held.0, (held.1 + e.1) % 2 ^ 64) es) ((held.0, (held.1 + e.1) % 2 ^ 64) ∷ es) → Alike (condensed cmp e es) (e ∷ es) → Alike (if b then condensed cmp (held.0, (held.1 + e.1) % 2 ^ 64) es else trimmed (held ∷ []) ++ condensed cmp e es) (held ∷ e ∷ es)
  condensed_Alike_by held e es true t one two =
      let k : e.0 ≡ held.0 = same e.0 held.0 (equal (cmp e.0 held.0) t) in
      Alike-trans one (subst (λ (x : R). Alike ((held.0, (held.1 + e.1) % 2 ^ 64) ∷ es) (held ∷ (x, e.1) ∷ es)) (sym k) (two_alike held.0 held.1 e.1 es))
  condensed_Alike_by held e es false t one two = Alike-append (trimmed-Alike (held ∷ [])) two

  condensed_Alike : (held : R × ℕ) (es : List (R × ℕ)) → Alike (condensed cmp held es) (held ∷ es)
  condensed_Alike held [] = trimmed-Alike (held ∷ [])
  condensed_Alike held (e ∷ es) = condensed_Alike_by held e es (is_eq (cmp e.0 held.0)) refl (condensed_Alike (held.0, (held.1 + e.1) % 2 ^ 64) es) (condensed_Alike e es)

  -- ---- its records rise

  climbs_on : (x y : R) (es : List (R × ℕ)) → x ≡ y → Climbs cmp x es → Climbs cmp y es
  climbs_on x y es e c = subst (λ v. Climbs cmp v es) e c

  condensed_Below_by : (y : R) (held e : R × ℕ) (es : List (R × ℕ)) (b : Bool) → is_eq (cmp e.0 held.0) ≡ b → cmp y held.0 ≡ Less → is_lt (cmp e.0 held.0) ≡ false → (Climbs cmp held.0 es → Below cmp y (condensed cmp (held.0, (held.1 + e.1) % 2 ^ 64) es)) → (cmp y e.0 ≡ Less → Below cmp y (condensed cmp e es)) → Climbs cmp e.0 es → Below cmp y (if b then condensed cmp (held.0, (held.1 + e.1) % 2 ^ 64) es else trimmed (held ∷ []) ++ condensed cmp e es)
  condensed_Below_by y held e es true t low up one two c = one (climbs_on e.0 held.0 es (same e.0 held.0 (equal (cmp e.0 held.0) t)) c)
  condensed_Below_by y held e es false t low up one two c = Below-append cmp y (trimmed (held ∷ [])) (condensed cmp e es) (Below-trimmed cmp order same y (held ∷ []) (low, tt)) (two (order.trans y held.0 e.0 low (above e.0 held.0 (cmp e.0 held.0) refl t up)))

  condensed_Below : (y : R) (held : R × ℕ) (es : List (R × ℕ)) → cmp y held.0 ≡ Less → Climbs cmp held.0 es → Below cmp y (condensed cmp held es)
  condensed_Below y held [] low c = Below-trimmed cmp order same y (held ∷ []) (low, tt)
  condensed_Below y held (e ∷ es) low c = condensed_Below_by y held e es (is_eq (cmp e.0 held.0)) refl low c.0 (λ d. condensed_Below y (held.0, (held.1 + e.1) % 2 ^ 64) es low d) (λ l. condensed_Below y e es l c.1) c.1

  under_trimmed_by : (x : R) (w : ℕ) (bs : List (R × ℕ)) (b : Bool) → Below cmp x bs → Under cmp (if b then [] else (x, w) ∷ []) bs
  under_trimmed_by x w bs true h = tt
  under_trimmed_by x w bs false h = (h, tt)

  condensed_Rising_by : (held e : R × ℕ) (es : List (R × ℕ)) (b : Bool) → is_eq (cmp e.0 held.0) ≡ b → is_lt (cmp e.0 held.0) ≡ false → (Climbs cmp held.0 es → Rising cmp (condensed cmp (held.0, (held.1 + e.1) % 2 ^ 64) es)) → Rising cmp (condensed cmp e es) → Climbs cmp e.0 es → Rising cmp (if b then condensed cmp (held.0, (held.1 + e.1) % 2 ^ 64) es else trimmed (held ∷ []) ++ condensed cmp e es)
  condensed_Rising_by held e es true t up one two c = one (climbs_on e.0 held.0 es (same e.0 held.0 (equal (cmp e.0 held.0) t)) c)
  condensed_Rising_by held e es false t up one two c = Rising-append cmp (trimmed (held ∷ [])) (condensed cmp e es) (Rising-trimmed cmp order same (held ∷ []) (tt, tt)) two (under_trimmed_by held.0 (held.1 % 2 ^ 64) (condensed cmp e es) (held.1 % 2 ^ 64 == 0) (condensed_Below held.0 e es (above e.0 held.0 (cmp e.0 held.0) refl t up) c))

  condensed_Rising : (held : R × ℕ) (es : List (R × ℕ)) → Climbs cmp held.0 es → Rising cmp (condensed cmp held es)
  condensed_Rising held [] c = Rising-trimmed cmp order same (held ∷ []) (tt, tt)
  condensed_Rising held (e ∷ es) c = condensed_Rising_by held e es (is_eq (cmp e.0 held.0)) refl c.0 (λ d. condensed_Rising (held.0, (held.1 + e.1) % 2 ^ 64) es d) (condensed_Rising e es c.1) c.1

  -- ---- no weight is zero

  condensed_Weighty_by : (held : R × ℕ) (b : Bool) (one two : List (R × ℕ)) → Weighty one → Weighty two → Weighty (if b then one else trimmed (held ∷ []) ++ two)
  condensed_Weighty_by held true one two f g = f
  condensed_Weighty_by held false one two f g = Weighty-append (trimmed (held ∷ [])) two (Weighty-trimmed (held ∷ [])) g

  condensed_Weighty : (held : R × ℕ) (es : List (R × ℕ)) → Weighty (condensed cmp held es)
  condensed_Weighty held [] = Weighty-trimmed (held ∷ [])
  condensed_Weighty held (e ∷ es) = condensed_Weighty_by held (is_eq (cmp e.0 held.0)) (condensed cmp (held.0, (held.1 + e.1) % 2 ^ 64) es) (condensed cmp e es) (condensed_Weighty (held.0, (held.1 + e.1) % 2 ^ 64) es) (condensed_Weighty e es)

  pub condensed_normal : (held : R × ℕ) (es : List (R × ℕ)) → Climbs cmp held.0 es → condensed cmp held es ≡ normal cmp (held ∷ es)
  condensed_normal held es c = normal-only cmp order same (condensed cmp held es) (held ∷ es) (condensed_Rising held es c) (condensed_Weighty held es) (condensed_Alike held es)

  -- ---- one loop along a list, which writes what is done in front

  pub condensed_start : (es : List (R × ℕ)) (first : R × ℕ) → 0 < length es → first ≡ get_or es 0 first → IsSortedByKey (λ (p : R × ℕ). p.0) cmp es → condensed cmp first (drop 1 es) ≡ normal cmp es
  condensed_start [] first low is s = absurd (omega arith)
  condensed_start (e ∷ es) first low is s = subst (λ (v : R × ℕ). condensed cmp v es ≡ normal cmp (e ∷ es)) (sym is) (condensed_normal e es (climbs_from_sorted cmp e es s))

  next_is : (items : List (R × ℕ)) (i : ℕ) (next : R × ℕ) → i < length items → next ≡ get_or items i next → drop i items ≡ next ∷ drop (i + 1) items
  next_is items i next low is = drop_more items i next low ∙ ap (λ (v : R × ℕ). v ∷ drop (i + 1) items) (sym is)

  -- the next entry has the record that is held
  pub condensed_same : (items : List (R × ℕ)) (i kept : ℕ) (held next : R × ℕ) (all : List (R × ℕ)) → i < length items → next ≡ get_or items i next → is_eq (cmp next.0 held.0) ≡ true → take kept items ++ condensed cmp held (drop i items) ≡ all → take kept items ++ condensed cmp (held.0, (held.1 + next.1) % 2 ^ 64) (drop (i + 1) items) ≡ all
  condensed_same items i kept held next all low is tie sums =
      let d : condensed cmp held (drop i items) ≡ condensed cmp held (next ∷ drop (i + 1) items) = ap (condensed cmp held) (next_is items i next low is) in
      let one : condensed cmp held (next ∷ drop (i + 1) items) ≡ condensed cmp (held.0, (held.1 + next.1) % 2 ^ 64) (drop (i + 1) items) = ap (λ b. if b then condensed cmp (held.0, (held.1 + next.1) % 2 ^ 64) (drop (i + 1) items) else trimmed (held ∷ []) ++ condensed cmp next (drop (i + 1) items)) tie in
      ap (λ v. take kept items ++ v) (sym (d ∙ one)) ∙ sums

  further : (i k : ℕ) (xs ys : List (R × ℕ)) → k < i → drop (k + 1) ys ≡ drop (k + 1) xs → drop (i + 1) ys ≡ drop (i + 1) xs
  further i k xs ys low e =
      let n : k + 1 + (i - k) ≡ i + 1 = omega arith in
      ap (λ m. drop m ys) (sym n) ∙ sym (drop-drop (i - k) (k + 1) ys) ∙ ap (drop (i - k)) e ∙ drop-drop (i - k) (k + 1) xs ∙ ap (λ m. drop m xs) n

  -- the next entry has another record, and what was held is written behind those that are kept
  pub condensed_other : (items new : List (R × ℕ)) (i kept more : ℕ) (held next : R × ℕ) (all : List (R × ℕ)) → i < length items → kept < i → next ≡ get_or items i next → is_eq (cmp next.0 held.0) ≡ false → take more new ≡ take kept items ++ trimmed (held ∷ []) → drop (kept + 1) new ≡ drop (kept + 1) items → take kept items ++ condensed cmp held (drop i items) ≡ all → take more new ++ condensed cmp next (drop (i + 1) new) ≡ all
  condensed_other items new i kept more held next all low behind is apart front back sums =
      let d : condensed cmp held (drop i items) ≡ condensed cmp held (next ∷ drop (i + 1) items) = ap (condensed cmp held) (next_is items i next low is) in
      let two : condensed cmp held (next ∷ drop (i + 1) items) ≡ trimmed (held ∷ []) ++ condensed cmp next (drop (i + 1) items) = ap (λ b. if b then condensed cmp (held.0, (held.1 + next.1) % 2 ^ 64) (drop (i + 1) items) else trimmed (held ∷ []) ++ condensed cmp next (drop (i + 1) items)) apart in
      ap (λ v. v ++ condensed cmp next (drop (i + 1) new)) front ∙ ap (λ v. (take kept items ++ trimmed (held ∷ [])) ++ condensed cmp next v) (further i kept items new behind back) ∙ append_assoc (take kept items) (trimmed (held ∷ [])) (condensed cmp next (drop (i + 1) items)) ∙ ap (λ v. take kept items ++ v) (sym (d ∙ two)) ∙ sums
