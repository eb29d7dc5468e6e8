-- The times that are due after evaluations.
use Rattle.std.proofs.Common.{◌≡◌, ◌≢◌, ◌∙◌, ℕ, Bool, true, false, Option, Some, None, List, [], ◌∷◌, ◌++◌, Ordering, refl, ap, sym, subst, inl, inr, append_assoc}
use Rattle.std.specs.Prelude.{◌⊎◌, ◌&&◌, not, if◌then◌else◌}
use Rattle.std.specs.Ordering.{is_ne}
use Rattle.std.specs.declared.cmp.Ordering.TheVariants.{Less, Equal, Greater}
use Rattle.flow_core.specs.Runs.{Member}
use Rattle.flow_core.specs.Lists.{Member-front, Member-back, Member-split}
use Rattle.weighted.specs.WordLaws.{mapped}
use Rattle.reduce_theory.specs.ByKey.{over}
use Rattle.weighted.specs.Alike.{negated}
use Rattle.weighted.specs.Words.{minus}
use Rattle.diff_reduce.specs.Later.{covered, later_of, IsCovered, AreLater}

pub negated-append : {R : Type 0} (xs ys : List (R × ℕ)) → negated (xs ++ ys) ≡ negated xs ++ negated ys
negated-append [] ys = refl
negated-append (e ∷ xs) ys = ap (λ v. (e.0, minus e.1) ∷ v) (negated-append xs ys)

tie : (o : Ordering) → is_ne o ≡ false → o ≡ Equal
tie Less h = absurd (cc)
tie Equal h = refl
tie Greater h = absurd (cc)

no_tie : (o : Ordering) → is_ne o ≡ true → o ≡ Equal → ⊥
no_tie Less h e = absurd (cc)
no_tie Equal h e = absurd (cc)
no_tie Greater h e = absurd (cc)

pub over-append : {K O : Type 0} (part : K → List (O × ℕ)) (xs ys : List K) → over part (xs ++ ys) ≡ over part xs ++ over part ys
over-append part [] ys = refl
over-append part (k ∷ xs) ys = ap (λ v. mapped (λ o. (k, o)) (part k) ++ v) (over-append part xs ys) ∙ sym (append_assoc (mapped (λ o. (k, o)) (part k)) (over part xs) (over part ys))

and_first : (a b : Bool) → a && b ≡ true → a ≡ true
and_first true b h = refl
and_first false b h = h

and_both : (a b : Bool) → a && b ≡ true → (a ≡ true) × (b ≡ true)
and_both true b h = (refl, h)
and_both false b h = absurd (cc)

-- whether the bound of t and a mark is named
abbrev named : {T : Type 0} → (T → T → Bool) → (T → T → T) → (T → T → Ordering) → T → Option T → T → Bool
named leq lub tcmp t last x = is_ne (tcmp (lub t x) t) && not (covered leq lub t last x)

module _ {K T : Type 0} (leq : T → T → Bool) (lub : T → T → T) (tcmp : T → T → Ordering) (t : T) (last : Option T) where
  append_by : (b : Bool) (p : T × K) (us vs ws : List (T × K)) → us ≡ vs ++ ws → (if b then p ∷ us else us) ≡ (if b then p ∷ vs else vs) ++ ws
  append_by true p us vs ws h = ap (λ v. p ∷ v) h
  append_by false p us vs ws h = h

  pub later_of-append : (k : K) (xs ys : List T) → later_of leq lub tcmp t last k (xs ++ ys) ≡ later_of leq lub tcmp t last k xs ++ later_of leq lub tcmp t last k ys
  later_of-append k [] ys = refl
  later_of-append k (x ∷ xs) ys = append_by (named leq lub tcmp t last x) (lub t x, k) (later_of leq lub tcmp t last k (xs ++ ys)) (later_of leq lub tcmp t last k xs) (later_of leq lub tcmp t last k ys) (later_of-append k xs ys)

  module _ (same : (x y : T) → tcmp x y ≡ Equal → x ≡ y) (itself : (x : T) → tcmp x x ≡ Equal) where
    -- the bound of t and x is t, or among the pairs, or covered
    abbrev IsNamed : K → T → List (T × K) → Type 0
    IsNamed k x pairs = (lub t x ≡ t) ⊎ (Member (lub t x, k) pairs ⊎ (covered leq lub t last x ≡ true))

    each_by : (k : K) (y x : T) (rest : List (T × K)) (b c : Bool) → is_ne (tcmp (lub t y) t) ≡ b → covered leq lub t last y ≡ c → x ≡ y → IsNamed k x (if b && not c then (lub t y, k) ∷ rest else rest)
    each_by k y x rest true false e f p = inr (inl (inl (ap (λ v. (lub t v, k)) p)))
    each_by k y x rest true true e f p = inr (inr (ap (covered leq lub t last) p ∙ f))
    each_by k y x rest false c e f p = inl (ap (λ v. lub t v) p ∙ same (lub t y) t (tie (tcmp (lub t y) t) e))

    rest_by : (k : K) (y x : T) (rest : List (T × K)) (b : Bool) → IsNamed k x rest → IsNamed k x (if b then (lub t y, k) ∷ rest else rest)
    rest_by k y x rest b (inl e) = inl e
    rest_by k y x rest b (inr (inr c)) = inr (inr c)
    rest_by k y x rest true (inr (inl m)) = inr (inl (inr m))
    rest_by k y x rest false (inr (inl m)) = inr (inl m)

    later_each : (k : K) (xs : List T) (x : T) → Member x xs → IsNamed k x (later_of leq lub tcmp t last k xs)
    later_each k [] x m = absurd m
    later_each k (y ∷ ys) x (inl p) = each_by k y x (later_of leq lub tcmp t last k ys) (is_ne (tcmp (lub t y) t)) (covered leq lub t last y) refl refl p
    later_each k (y ∷ ys) x (inr m) = rest_by k y x (later_of leq lub tcmp t last k ys) (named leq lub tcmp t last y) (later_each k ys x m)

    -- a pair that is due later is one of these
    record Later (k : K) (xs : List T) (d : T) (j : K) : Type 0 where
      other : d ≢ t
      key : j ≡ k
      mark : T
      is_in : Member mark xs
      bound : d ≡ lub t mark

    only_by : (k : K) (y : T) (ys : List T) (d : T) (j : K) (rest : List (T × K)) (b : Bool) → named leq lub tcmp t last y ≡ b → Member (d, j) (if b then (lub t y, k) ∷ rest else rest) → (Member (d, j) rest → Later k ys d j) → Later k (y ∷ ys) d j
    only_by k y ys d j rest true e (inl p) go = record { other = λ q. no_tie (tcmp (lub t y) t) (and_first (is_ne (tcmp (lub t y) t)) (not (covered leq lub t last y)) e) (subst (λ v. tcmp v t ≡ Equal) (sym (sym (ap (λ v. v.0) p) ∙ q)) (itself t)); key = ap (λ v. v.1) p; mark = y; is_in = inl refl; bound = ap (λ v. v.0) p }
    only_by k y ys d j rest true e (inr m) go = let l = go m in record { other = l.other; key = l.key; mark = l.mark; is_in = inr l.is_in; bound = l.bound }
    only_by k y ys d j rest false e m go = let l = go m in record { other = l.other; key = l.key; mark = l.mark; is_in = inr l.is_in; bound = l.bound }

    later_only : (k : K) (xs : List T) (d : T) (j : K) → Member (d, j) (later_of leq lub tcmp t last k xs) → Later k xs d j
    later_only k [] d j m = absurd m
    later_only k (y ∷ ys) d j m = only_by k y ys d j (later_of leq lub tcmp t last k ys) (named leq lub tcmp t last y) refl m (later_only k ys d j)

    cover_by : (points : List (K × T)) (k : K) (x : T) (one : Option T) → ((a : T) → one ≡ Some a → Member (k, a) points) → covered leq lub t one x ≡ true → IsCovered leq lub points t k x
    cover_by points k x None f h = absurd (cc)
    cover_by points k x (Some a) f h = let w = and_both (leq a t) (leq t (lub a x)) h in (a, f a refl, w.0, w.1)

    -- what holds of a mark once its key was evaluated
    abbrev IsMet : List (K × T) → List (T × K) → K → T → Type 0
    IsMet points pairs k x = (lub t x ≡ t) ⊎ (Member (lub t x, k) pairs ⊎ IsCovered leq lub points t k x)

    -- one more key
    pub later_more : (Mark : K → T → Type 0) (points : List (K × T)) (ks : List K) (k : K) (marks : List T) (pairs : List (T × K)) → ((a : T) → last ≡ Some a → Member (k, a) points) → ((x : T) → Mark k x → Member x marks) → ((x : T) → Member x marks → Mark k x) → AreLater leq lub Mark points t ks pairs → AreLater leq lub Mark points t (ks ++ k ∷ []) (pairs ++ later_of leq lub tcmp t last k marks)
    later_more Mark points ks k marks pairs lasts each only are = record {
      each = λ j x m mark. elim (Member-split j ks (k ∷ []) m) [
        | inl a ↦ before j x (are.each j x a mark)
        | inr b ↦ one j x b mark
      ];
      only = λ d j m. elim (Member-split (d, j) pairs (later_of leq lub tcmp t last k marks) m) [
        | inl a ↦ (let w = are.only d j a in (w.0, (Member-front j ks (k ∷ []) w.1.0, w.1.1)))
        | inr b ↦ (let l = later_only k marks d j b in (l.other, (Member-back j ks (k ∷ []) (inl l.key), (l.mark, subst (λ v. Mark v l.mark) (sym l.key) (only l.mark l.is_in), l.bound))))
      ];
    } where
      before : (j : K) (x : T) → IsMet points pairs j x → IsMet points (pairs ++ later_of leq lub tcmp t last k marks) j x
      before j x (inl e) = inl e
      before j x (inr (inl l)) = inr (inl (Member-front (lub t x, j) pairs (later_of leq lub tcmp t last k marks) l))
      before j x (inr (inr w)) = inr (inr w)

      now : (x : T) → IsNamed k x (later_of leq lub tcmp t last k marks) → IsMet points (pairs ++ later_of leq lub tcmp t last k marks) k x
      now x (inl e) = inl e
      now x (inr (inl l)) = inr (inl (Member-back (lub t x, k) pairs (later_of leq lub tcmp t last k marks) l))
      now x (inr (inr h)) = inr (inr (cover_by points k x last lasts h))

      one : (j : K) (x : T) → Member j (k ∷ []) → Mark j x → IsMet points (pairs ++ later_of leq lub tcmp t last k marks) j x
      one j x (inl e) mark = subst (λ v. IsMet points (pairs ++ later_of leq lub tcmp t last k marks) v x) (sym e) (now x (later_each k marks x (each x (subst (λ v. Mark v x) e mark))))
      one j x (inr m) mark = absurd m

pub later_none : {K T : Type 0} (leq : T → T → Bool) (lub : T → T → T) (Mark : K → T → Type 0) (points : List (K × T)) (t : T) → AreLater leq lub Mark points t [] []
later_none leq lub Mark points t = record { each = λ k x m mark. absurd m; only = λ d k m. absurd m }
