-- What is kept after a step, its times, and the least of them.
use Rattle.std.proofs.Common.{◌≡◌, ◌∙◌, ◌⊎◌, ℕ, ◌<◌, slice_get, Bool, true, false, List, [], ◌∷◌, ◌++◌, Ordering, refl, ap, sym, subst, inl, inr, length, take, append_assoc, arith}
use Rattle.std.specs.Prelude.{◌≢◌, if◌then◌else◌, Some}
use Rattle.std.specs.Cmp.{IsTotalOrder, tied_itself}
use Rattle.std.proofs.lemmas.List.{append-nil}
use Rattle.std.proofs.lemmas.Option.{slice_get_within, get_or_from_slice_get}
use Rattle.std.specs.Ordering.{is_eq, is_ne, is_gt, ordering_then}
use Rattle.std.specs.declared.cmp.Ordering.TheVariants.{Less, Equal, Greater}
use Rattle.weighted.specs.Alike.{Alike, Alike-append, Alike-refl}
use Rattle.weighted.specs.Normal.{Below, Rising, normal, normal-Alike, normal-same}
use Rattle.weighted.specs.SumLaws.{filtered, filtered-append}
use Rattle.weighted.specs.WordLaws.{mapped, mapped-append}
use Rattle.trace_store.specs.Traces.{in_turn}
use Rattle.flow_core.specs.Runs.{Every, IsNextDue, Member}
use Rattle.flow_core.specs.Lists.{Member-split}
use Rattle.diff_join.specs.Joins.{due_times, products_after, products_at}
use Rattle.diff_join.specs.ListLaws.{Every-normal, due-append}

other_time : {T : Type 0} (tcmp : T → T → Ordering) (order : IsTotalOrder tcmp) (t s : T) → is_ne (tcmp s t) ≡ true → s ≢ t
other_time tcmp order t s h e = let k : is_ne (tcmp s t) ≡ false = ap is_ne (ap (λ v. tcmp v t) e ∙ tied_itself order t) in absurd (cc)

module _ {T O : Type 0} where
  every_due : (Q : T → Type 0) (es : List ((T × O) × ℕ)) → ((d : T) → Member d (due_times es) → Q d) → Every (λ f. Q f.0.0) es
  every_due Q [] f = tt
  every_due Q (e ∷ es) f = (f e.0.0 (inl refl), every_due Q es (λ d m. f d (inr m)))

  due_each : (Q : T → Type 0) (es : List ((T × O) × ℕ)) (d : T) → Every (λ f. Q f.0.0) es → Member d (due_times es) → Q d
  due_each Q [] d h m = absurd m
  due_each Q (e ∷ es) d h (inl q) = rw q (h.0)
  due_each Q (e ∷ es) d h (inr m) = due_each Q es d h.1 m

  -- ---- what stands at other times

  module _ (tcmp : T → T → Ordering) (order : IsTotalOrder tcmp) (t : T) where
    others_by : (Q : T → Type 0) (e : (T × O) × ℕ) (us : List ((T × O) × ℕ)) (b : Bool) → is_ne (tcmp e.0.0 t) ≡ b → Q e.0.0 → Every (λ f. Q f.0.0 × (f.0.0 ≢ t)) us → Every (λ f. Q f.0.0 × (f.0.0 ≢ t)) (if b then e ∷ us else us)
    others_by Q e us true h q k = ((q, other_time tcmp order t e.0.0 h), k)
    others_by Q e us false h q k = k

    others : (Q : T → Type 0) (es : List ((T × O) × ℕ)) → Every (λ f. Q f.0.0) es → Every (λ f. Q f.0.0 × (f.0.0 ≢ t)) (products_after tcmp t es)
    others Q [] h = tt
    others Q (e ∷ es) h = others_by Q e (products_after tcmp t es) (is_ne (tcmp e.0.0 t)) refl h.0 (others Q es h.1)

    released_times : (cmp : T × O → T × O → Ordering) (old new : List ((T × O) × ℕ)) → new ≡ normal cmp (products_after tcmp t old) → (d : T) → Member d (due_times new) → Member d (due_times old) × (d ≢ t)
    released_times cmp old new n d m =
        let of_rest : Every (λ (f : (T × O) × ℕ). Member f.0.0 (due_times old) × (f.0.0 ≢ t)) (products_after tcmp t old) = others (λ s. Member s (due_times old)) old (every_due (λ s. Member s (due_times old)) old (λ s k. k)) in
        let of_new : Every (λ (f : (T × O) × ℕ). Member f.0.0 (due_times old) × (f.0.0 ≢ t)) new = rw n (Every-normal cmp (λ (r : T × O). Member r.0 (due_times old) × (r.0 ≢ t)) (products_after tcmp t old) of_rest) in
        due_each (λ s. Member s (due_times old) × (s ≢ t)) new d of_new m

    -- each time of what is kept is that of a product that was kept or is new, and not the one of those that went out
    pub exchanged_times : (cmp : T × O → T × O → Ordering) (old products new : List ((T × O) × ℕ)) → new ≡ normal cmp (products_after tcmp t (old ++ products)) → (d : T) → Member d (due_times new) → (Member d (due_times old) ⊎ Member d (due_times products)) × (d ≢ t)
    exchanged_times cmp old products new n d m =
        let both = released_times cmp (old ++ products) new n d m in
        (Member-split d (due_times old) (due_times products) (subst (λ v. Member d v) (due-append old products) both.0), both.1)

  -- ---- what is made and kept of the products that waited and of the new ones

  module _ (tcmp : T → T → Ordering) (t : T) where
    pub at-append : (xs ys : List ((T × O) × ℕ)) → products_at tcmp t (xs ++ ys) ≡ products_at tcmp t xs ++ products_at tcmp t ys
    at-append xs ys = ap (mapped (λ (r : T × O). r.1)) (filtered-append (λ (r : T × O). is_eq (tcmp r.0 t)) xs ys) ∙ mapped-append (λ (r : T × O). r.1) (filtered (λ (r : T × O). is_eq (tcmp r.0 t)) xs) (filtered (λ (r : T × O). is_eq (tcmp r.0 t)) ys)

    pub after-append : (xs ys : List ((T × O) × ℕ)) → products_after tcmp t (xs ++ ys) ≡ products_after tcmp t xs ++ products_after tcmp t ys
    after-append xs ys = filtered-append (λ (r : T × O). is_ne (tcmp r.0 t)) xs ys

    pub exchanged_made : (old products : List ((T × O) × ℕ)) (waited made : List (O × ℕ)) → waited ≡ products_at tcmp t old → made ≡ waited ++ products_at tcmp t products → made ≡ products_at tcmp t (old ++ products)
    exchanged_made old products waited made h k = k ∙ ap (λ v. v ++ products_at tcmp t products) h ∙ sym (at-append old products)

    pub exchanged_rest : (cmp : T × O → T × O → Ordering) (old products left new : List ((T × O) × ℕ)) → left ≡ products_after tcmp t old → new ≡ normal cmp (left ++ products_after tcmp t products) → new ≡ normal cmp (products_after tcmp t (old ++ products))
    exchanged_rest cmp old products left new h k = k ∙ ap (λ v. normal cmp (v ++ products_after tcmp t products)) h ∙ ap (normal cmp) (sym (after-append old products))

  -- ---- the first time is the least

  module _ (tcmp : T → T → Ordering) (ocmp : O → O → Ordering) (order : IsTotalOrder tcmp) where
    not_greater_first : (r s : Ordering) → ordering_then r s ≡ Less → is_gt r ≡ false
    not_greater_first Less s h = refl
    not_greater_first Equal s h = refl
    not_greater_first Greater s h = absurd (cc)

    not_above : (x : T × O) (es : List ((T × O) × ℕ)) → Below (in_turn tcmp ocmp) x es → Every (λ s. is_gt (tcmp x.0 s) ≡ false) (due_times es)
    not_above x [] b = tt
    not_above x (e ∷ es) b = (not_greater_first (tcmp x.0 e.0.0) (ocmp x.1 e.0.1) b.0, not_above x es b.1)

    first_is_next : (e : (T × O) × ℕ) (es : List ((T × O) × ℕ)) → Rising (in_turn tcmp ocmp) (e ∷ es) → IsNextDue tcmp (Some e.0.0) (due_times (e ∷ es))
    first_is_next e es r = (inl refl, (ap is_gt (tied_itself order e.0.0), not_above e.0 es r.0))

    pub first_time : (es : List ((T × O) × ℕ)) (e : (T × O) × ℕ) → slice_get es 0 ≡ Some e → Rising (in_turn tcmp ocmp) es → IsNextDue tcmp (Some e.0.0) (due_times es)
    first_time [] e h r = let low : 0 < length {A = (T × O) × ℕ} [] = slice_get_within [] 0 e h in absurd (omega arith)
    first_time (f ∷ es) e h r = let is : f ≡ e = get_or_from_slice_get (f ∷ es) 0 e e h in subst (λ (x : (T × O) × ℕ). IsNextDue tcmp (Some x.0.0) (due_times (f ∷ es))) is (first_is_next f es r)

-- ---- the sum of what is kept and what is taken in one by one

pub none_taken : {A : Type 0} (xs : List A) → take 0 xs ≡ []
none_taken [] = refl
none_taken (x ∷ xs) = refl

module _ {R : Type 0} (cmp : R → R → Ordering) (order : IsTotalOrder cmp) (same : (x y : R) → cmp x y ≡ Equal → x ≡ y) where
  normal_more : (start held new xs ys zs : List (R × ℕ)) → held ≡ normal cmp (start ++ xs) → new ≡ normal cmp (held ++ ys) → zs ≡ xs ++ ys → new ≡ normal cmp (start ++ zs)
  normal_more start held new xs ys zs h n is =
      let before : Alike held (start ++ xs) = rw h (normal-Alike cmp order same (start ++ xs)) in
      n ∙ normal-same cmp order same (held ++ ys) ((start ++ xs) ++ ys) (Alike-append before (Alike-refl ys)) ∙ ap (normal cmp) (append_assoc start xs ys ∙ ap (λ v. start ++ v) (sym is))

module _ {T O : Type 0} (tcmp : T → T → Ordering) (t : T) (cmp : T × O → T × O → Ordering) (order : IsTotalOrder cmp) (same : (x y : T × O) → cmp x y ≡ Equal → x ≡ y) where
  -- one more product, which is kept where its time is another
  pub kept_more : (start held new xs zs : List ((T × O) × ℕ)) (e : (T × O) × ℕ) (b : Bool) → is_ne (tcmp e.0.0 t) ≡ b → held ≡ normal cmp (start ++ products_after tcmp t xs) → new ≡ (if b then normal cmp (held ++ e ∷ []) else held) → zs ≡ xs ++ e ∷ [] → new ≡ normal cmp (start ++ products_after tcmp t zs)
  kept_more start held new xs zs e b q h n is = by b n (ap (products_after tcmp t) is ∙ after-append tcmp t xs (e ∷ []) ∙ ap (λ c. products_after tcmp t xs ++ (if c then e ∷ [] else [])) q) where
    by : (b : Bool) → new ≡ (if b then normal cmp (held ++ e ∷ []) else held) → products_after tcmp t zs ≡ products_after tcmp t xs ++ (if b then e ∷ [] else []) → new ≡ normal cmp (start ++ products_after tcmp t zs)
    by true n k = normal_more cmp order same start held new (products_after tcmp t xs) (e ∷ []) (products_after tcmp t zs) h n k
    by false n k = n ∙ h ∙ ap (λ v. normal cmp (start ++ v)) (sym (append-nil (products_after tcmp t xs)) ∙ sym k)
