-- How many keys a step evaluates, by a list that has each of them once.
use Rattle.std.specs.Prelude.{◌≡◌, ◌≢◌, ℕ, ◌+◌, ◌≤◌, ◌==◌, ◌||◌, Bool, true, false, List, [], ◌∷◌, ◌++◌, length, filter, if◌then◌else◌, refl}
use Rattle.std.specs.declared.cmp.Ordering.{Ordering}
use Rattle.std.specs.declared.cmp.Ordering.TheVariants.{Equal}
use Rattle.std.specs.Ordering.{is_eq}
use Rattle.std.specs.Cmp.{Equal-is}
use Rattle.std.proofs.Common.{arith, ap, sym, subst, ◌∙◌, inl, inr, append_assoc}
use Rattle.flow_core.specs.Runs.{Step, Member}
use Rattle.reduce_theory.specs.Evaluated.{key_part, key_steps, has_key, keys_in, keys_of, new_marks, is_evaluated, evaluations, charged, EachCharged}
use Rattle.reduce_theory.specs.Members.{Member-passes, Member-unfiltered, Member-filtered}
use Rattle.reduce_theory.specs.MarkLaws.{not_empty}
use Rattle.reduce_theory.specs.ByKey.{Distinct}

-- ---- lists that have each element once

-- each element once
abbrev pub Apart : {A : Type 0} → List A → Type 0
Apart [] = Unit {0}
Apart (x ∷ xs) = (Member x xs → ⊥) × Apart xs

without : {A : Type 0} (x : A) (ys : List A) → Member x ys → List A
without x [] m = []
without x (y ∷ ys) (inl e) = ys
without x (y ∷ ys) (inr m) = y ∷ without x ys m

length-without : {A : Type 0} (x : A) (ys : List A) (m : Member x ys) → length ys ≡ 1 + length (without x ys m)
unfolding without
length-without x [] m = absurd m
length-without x (y ∷ ys) (inl e) = omega arith
length-without x (y ∷ ys) (inr m) = omega (arith, length-without x ys m)

still : {A : Type 0} (x z : A) (ys : List A) (m : Member x ys) → (z ≡ x → ⊥) → Member z ys → Member z (without x ys m)
unfolding without
still x z [] m n k = absurd m
still x z (y ∷ ys) (inl e) n (inl p) = absurd (n (p ∙ sym e))
still x z (y ∷ ys) (inl e) n (inr k) = k
still x z (y ∷ ys) (inr m) n (inl p) = inl p
still x z (y ∷ ys) (inr m) n (inr k) = inr (still x z ys m n k)

no_longer : {A : Type 0} (xs ys : List A) → Apart xs → ((x : A) → Member x xs → Member x ys) → length xs ≤ length ys
no_longer [] ys a f = omega arith
no_longer (x ∷ xs) ys a f =
    let m : Member x ys = f x (inl refl) in
    let n : length xs ≤ length (without x ys m) = no_longer xs (without x ys m) a.1 (λ z k. still x z ys m (λ e. a.0 (subst (λ v. Member v xs) e k)) (f z (inr k))) in
    omega (arith, n, length-without x ys m)

-- two such lists of the same elements have one length
pub same_length : {A : Type 0} (xs ys : List A) → Apart xs → Apart ys → ((x : A) → Member x xs → Member x ys) → ((y : A) → Member y ys → Member y xs) → length xs ≡ length ys
same_length xs ys a b f g = let n : length xs ≤ length ys = no_longer xs ys a f in let m : length ys ≤ length xs = no_longer ys xs b g in omega arith

module _ {A : Type 0} (f : A → Bool) where
  apart_by : (y : A) (ys : List A) (b : Bool) → (Member y ys → ⊥) → Apart (filter f ys) → Apart (if b then y ∷ filter f ys else filter f ys)
  apart_by y ys true n a = ((λ m. n (Member-unfiltered f ys y m)), a)
  apart_by y ys false n a = a

  Apart-filter : (ys : List A) → Apart ys → Apart (filter f ys)
  Apart-filter [] a = tt
  Apart-filter (y ∷ ys) a = apart_by y ys (f y) a.0 (Apart-filter ys a.1)

-- ---- the keys of steps

module _ {K : Type 0} (kcmp : K → K → Ordering) (same : (x y : K) → kcmp x y ≡ Equal → x ≡ y) (itself : (x : K) → kcmp x x ≡ Equal) where
  is_itself : (k : K) → is_eq (kcmp k k) ≡ true
  is_itself k = ap is_eq (itself k)

  or_true : (a b : Bool) → b ≡ true → a || b ≡ true
  or_true true b h = refl
  or_true false b h = h

  first_key : (k j : K) (rest : Bool) → k ≡ j → is_eq (kcmp j k) || rest ≡ true
  first_key k j rest e = let h : is_eq (kcmp j k) ≡ true = subst (λ v. is_eq (kcmp v k) ≡ true) e (is_itself k) in rw h refl

  pub has_member : (k : K) (ks : List K) → Member k ks → has_key kcmp k ks ≡ true
  has_member k [] m = absurd m
  has_member k (j ∷ ks) (inl e) = first_key k j (has_key kcmp k ks) e
  has_member k (j ∷ ks) (inr m) = or_true (is_eq (kcmp j k)) (has_key kcmp k ks) (has_member k ks m)

  member_by : (k j : K) (ks : List K) (b : Bool) → is_eq (kcmp j k) ≡ b → b || has_key kcmp k ks ≡ true → (has_key kcmp k ks ≡ true → Member k ks) → Member k (j ∷ ks)
  member_by k j ks true e h go = inl (sym (same j k ((Equal-is (kcmp j k)).0 e)))
  member_by k j ks false e h go = inr (go h)

  pub member_has : (k : K) (ks : List K) → has_key kcmp k ks ≡ true → Member k ks
  member_has k [] h = absurd (cc)
  member_has k (j ∷ ks) h = member_by k j ks (is_eq (kcmp j k)) refl h (member_has k ks)

  false_not : (b : Bool) → b ≡ false → b ≡ true → ⊥
  false_not b p q = let f : false ≡ true = sym p ∙ q in absurd (cc)

  not_false : (b : Bool) → (b ≡ true → ⊥) → b ≡ false
  not_false true h = absurd (h refl)
  not_false false h = refl

  pub distinct_apart : (ks : List K) → Distinct kcmp ks → Apart ks
  distinct_apart [] d = tt
  distinct_apart (k ∷ ks) d = ((λ m. false_not (has_key kcmp k ks) d.0 (has_member k ks m)), distinct_apart ks d.1)

  pub apart_distinct : (ks : List K) → Apart ks → Distinct kcmp ks
  apart_distinct [] a = tt
  apart_distinct (k ∷ ks) a = (not_false (has_key kcmp k ks) (λ h. a.0 (member_has k ks h)), apart_distinct ks a.1)

  with_by : (k : K) (ks : List K) (b : Bool) → has_key kcmp k ks ≡ b → Distinct kcmp ks → Distinct kcmp (if b then ks else k ∷ ks)
  with_by k ks true h d = d
  with_by k ks false h d = (h, d)

  keys_in-distinct : {V : Type 0} (es : List ((K × V) × ℕ)) (ks : List K) → Distinct kcmp ks → Distinct kcmp (keys_in kcmp es ks)
  keys_in-distinct [] ks d = d
  keys_in-distinct (e ∷ es) ks d = with_by e.0.0 (keys_in kcmp es ks) (has_key kcmp e.0.0 (keys_in kcmp es ks)) refl (keys_in-distinct es ks d)

  pub keys_of-distinct : {T V O : Type 0} (ss : List (Step T (K × V) (K × O))) → Distinct kcmp (keys_of kcmp ss)
  keys_of-distinct [] = tt
  keys_of-distinct (s ∷ ss) = keys_in-distinct s.fed (keys_of kcmp ss) (keys_of-distinct ss)

  more_by : (k j : K) (ks : List K) (b : Bool) → Member k ks → Member k (if b then ks else j ∷ ks)
  more_by k j ks true m = m
  more_by k j ks false m = inr m

  here_by : (k j : K) (ks : List K) (b : Bool) → has_key kcmp j ks ≡ b → j ≡ k → Member k (if b then ks else j ∷ ks)
  here_by k j ks true h e = subst (λ v. Member v ks) e (member_has j ks h)
  here_by k j ks false h e = inl (sym e)

  keys_in-more : {V : Type 0} (es : List ((K × V) × ℕ)) (ks : List K) (k : K) → Member k ks → Member k (keys_in kcmp es ks)
  keys_in-more [] ks k m = m
  keys_in-more (e ∷ es) ks k m = more_by k e.0.0 (keys_in kcmp es ks) (has_key kcmp e.0.0 (keys_in kcmp es ks)) (keys_in-more es ks k m)

  fed_by : {V : Type 0} (e : (K × V) × ℕ) (es : List ((K × V) × ℕ)) (ks : List K) (k : K) (b : Bool) → is_eq (kcmp e.0.0 k) ≡ b → (if b then (e.0.1, e.1) ∷ key_part kcmp k es else key_part kcmp k es) ≢ [] → (key_part kcmp k es ≢ [] → Member k (keys_in kcmp es ks)) → Member k (keys_in kcmp (e ∷ es) ks)
  fed_by e es ks k true p h go = here_by k e.0.0 (keys_in kcmp es ks) (has_key kcmp e.0.0 (keys_in kcmp es ks)) refl (same e.0.0 k ((Equal-is (kcmp e.0.0 k)).0 p))
  fed_by e es ks k false p h go = more_by k e.0.0 (keys_in kcmp es ks) (has_key kcmp e.0.0 (keys_in kcmp es ks)) (go h)

  keys_in-fed : {V : Type 0} (es : List ((K × V) × ℕ)) (ks : List K) (k : K) → key_part kcmp k es ≢ [] → Member k (keys_in kcmp es ks)
  keys_in-fed [] ks k h = absurd (h refl)
  keys_in-fed (e ∷ es) ks k h = fed_by e es ks k (is_eq (kcmp e.0.0 k)) refl h (keys_in-fed es ks k)

  module _ {T V O : Type 0} where
    keys_of-later : (xs ys : List (Step T (K × V) (K × O))) (k : K) → Member k (keys_of kcmp ys) → Member k (keys_of kcmp (xs ++ ys))
    keys_of-later [] ys k m = m
    keys_of-later (s ∷ xs) ys k m = keys_in-more s.fed (keys_of kcmp (xs ++ ys)) k (keys_of-later xs ys k m)

    marked_by : (s : Step T (K × V) (K × O)) (ss : List (Step T (K × V) (K × O))) (k : K) (u : T) (b : Bool) → (length (key_part kcmp k s.fed) == 0) ≡ b → Member u (if b then new_marks (key_steps kcmp k ss) else s.time ∷ new_marks (key_steps kcmp k ss)) → (Member u (new_marks (key_steps kcmp k ss)) → Member k (keys_of kcmp ss)) → Member k (keys_of kcmp (s ∷ ss))
    marked_by s ss k u true e m go = keys_in-more s.fed (keys_of kcmp ss) k (go m)
    marked_by s ss k u false e m go = keys_in-fed s.fed (keys_of kcmp ss) k (not_empty (key_part kcmp k s.fed) e)

    -- a key that has a new mark is among the keys
    keys_of-marked : (ss : List (Step T (K × V) (K × O))) (k : K) (u : T) → Member u (new_marks (key_steps kcmp k ss)) → Member k (keys_of kcmp ss)
    keys_of-marked [] k u m = absurd m
    keys_of-marked (s ∷ ss) k u m = marked_by s ss k u (length (key_part kcmp k s.fed) == 0) refl m (keys_of-marked ss k u)

    -- ---- as many keys are evaluated as stand in a list that has each of them once

    pub evaluations-are : (leq : T → T → Bool) (lub : T → T → T) (tcmp : T → T → Ordering) (vcmp : V → V → Ordering) (seal t : T) (old new : List (Step T (K × V) (K × O))) (ks : List K) → Apart ks → ((k : K) → Member k ks → (is_evaluated leq lub tcmp vcmp seal t (key_steps kcmp k old) (key_steps kcmp k new) ≡ true)) → ((k : K) → Member k ks → ((u : T) × Member u (new_marks (key_steps kcmp k new)))) → ((k : K) → is_evaluated leq lub tcmp vcmp seal t (key_steps kcmp k old) (key_steps kcmp k new) ≡ true → Member k ks) → evaluations leq lub tcmp kcmp vcmp seal t old new ≡ length ks
    evaluations-are leq lub tcmp vcmp seal t old new ks apart each marked only =
        let test : K → Bool = λ k. is_evaluated leq lub tcmp vcmp seal t (key_steps kcmp k old) (key_steps kcmp k new) in
        let all : List K = keys_of kcmp (old ++ new) in
        same_length (filter test all) ks (Apart-filter test all (distinct_apart all (keys_of-distinct (old ++ new)))) apart
        (λ k m. only k (Member-passes test all k m))
        (λ k m. Member-filtered test all k (keys_of-later old new k (keys_of-marked new k (marked k m).0 (marked k m).1)) (each k m))

    -- each of them is charged its own, and so is one more
    pub each_charged-last : (leq : T → T → Bool) (lub : T → T → T) (tcmp : T → T → Ordering) (vcmp : V → V → Ordering) (seal : T) (old done new : List (Step T (K × V) (K × O))) (s : Step T (K × V) (K × O)) → EachCharged leq lub tcmp kcmp vcmp seal old done new → s.charge ≡ evaluations leq lub tcmp kcmp vcmp seal s.time old (done ++ (new ++ s ∷ [])) → EachCharged leq lub tcmp kcmp vcmp seal old done (new ++ s ∷ [])
    each_charged-last leq lub tcmp vcmp seal old done [] s h is = (is, tt)
    each_charged-last leq lub tcmp vcmp seal old done (r ∷ new) s h is =
        let one : (done ++ r ∷ []) ++ (new ++ s ∷ []) ≡ done ++ (r ∷ (new ++ s ∷ [])) = append_assoc done (r ∷ []) (new ++ s ∷ []) in
        (h.0, each_charged-last leq lub tcmp vcmp seal old (done ++ r ∷ []) new s h.1 (is ∙ ap (evaluations leq lub tcmp kcmp vcmp seal s.time old) (sym one)))

    -- the steps after the seal are charged one by one
    pub charged-last : (leq : T → T → Bool) (lub : T → T → T) (tcmp : T → T → Ordering) (vcmp : V → V → Ordering) (seal : T) (old done new : List (Step T (K × V) (K × O))) (s : Step T (K × V) (K × O)) → charged leq lub tcmp kcmp vcmp seal old done (new ++ s ∷ []) ≡ charged leq lub tcmp kcmp vcmp seal old done new + evaluations leq lub tcmp kcmp vcmp seal s.time old (done ++ (new ++ s ∷ []))
    charged-last leq lub tcmp vcmp seal old done [] s = omega arith
    charged-last leq lub tcmp vcmp seal old done (r ∷ new) s =
        let rest = charged-last leq lub tcmp vcmp seal old (done ++ r ∷ []) new s in
        let is : (done ++ r ∷ []) ++ (new ++ s ∷ []) ≡ done ++ (r ∷ (new ++ s ∷ [])) = append_assoc done (r ∷ []) (new ++ s ∷ []) in
        ap (λ n. evaluations leq lub tcmp kcmp vcmp seal r.time old (done ++ r ∷ []) + n) (rest ∙ ap (λ v. charged leq lub tcmp kcmp vcmp seal old (done ++ r ∷ []) new + evaluations leq lub tcmp kcmp vcmp seal s.time old v) is) ∙ omega arith
