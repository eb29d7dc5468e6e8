-- Products that are pushed one after another, for the entries of one key.
use Rattle.std.proofs.Common.{◌≡◌, ◌∙◌, ℕ, Bool, true, false, List, [], ◌∷◌, ◌++◌, Option, Some, None, Ordering, refl, ap, sym}
use Rattle.std.specs.Prelude.{◌*◌, ◌%◌, ◌^◌, if◌then◌else◌}
use Rattle.std.specs.Cmp.{IsTotalOrder}
use Rattle.std.specs.Ordering.{is_eq, ordering_reverse}
use Rattle.std.specs.declared.cmp.Ordering.TheVariants.{Less, Equal, Greater}
use Rattle.std.proofs.lemmas.List.{append-nil}
use Rattle.weighted.specs.SumLaws.{filtered, paired, product, wrapped, product-append_left}
use Rattle.diff_join.specs.Joins.{at_bound, given, one, pairs, timed, unkeyed}
use Rattle.diff_join.specs.GivenLaws.{given-append}
use Rattle.diff_join.specs.StepLaws.{products_of}

wrapped-append : {R : Type 0} (xs ys : List (R × ℕ)) → wrapped (xs ++ ys) ≡ wrapped xs ++ wrapped ys
wrapped-append [] ys = refl
wrapped-append (e ∷ xs) ys = ap (λ v. (e.0, e.1 % 2 ^ 64) ∷ v) (wrapped-append xs ys)

paired-append : {X Y : Type 0} (x : X) (w : ℕ) (xs ys : List (Y × ℕ)) → paired x w (xs ++ ys) ≡ paired x w xs ++ paired x w ys
paired-append x w [] ys = refl
paired-append x w (e ∷ xs) ys = ap (λ v. ((x, e.0), w * e.1) ∷ v) (paired-append x w xs ys)

-- ---- of one difference

module _ {X Y O : Type 0} (f : X × Y → Option O) (x : X) (w : ℕ) where
  -- what is pushed for some entries
  abbrev pub pushed : List (Y × ℕ) → List (O × ℕ)
  pushed es = wrapped (given f (paired x w es))

  pub pushed-append : (xs ys : List (Y × ℕ)) → pushed (xs ++ ys) ≡ pushed xs ++ pushed ys
  pushed-append xs ys = ap (λ v. wrapped (given f v)) (paired-append x w xs ys) ∙ ap wrapped (given-append f (paired x w xs) (paired x w ys)) ∙ wrapped-append (given f (paired x w xs)) (given f (paired x w ys))

wrapped_one : {O : Type 0} (o : Option O) (w : ℕ) → one o (w % 2 ^ 64) ≡ wrapped (one o w ++ [])
wrapped_one None w = refl
wrapped_one (Some o) w = refl

-- one more entry
pub pushed_one : {X Y O : Type 0} (f : X × Y → Option O) (x : X) (w : ℕ) (e : Y × ℕ) (o : Option O) → o ≡ f (x, e.0) → one o ((w * e.1) % 2 ^ 64) ≡ pushed f x w (e ∷ [])
pushed_one f x w e o h = ap (λ v. one v ((w * e.1) % 2 ^ 64)) h ∙ wrapped_one (f (x, e.0)) (w * e.1)

-- at its time
pub pushed_item : {X Y T O : Type 0} (lub : T → T → T) (f : X × Y → Option O) (t : T) (x : X) (w : ℕ) (e : (Y × T) × ℕ) (s : T) (o : Option O) (n : ℕ) → s ≡ lub e.0.1 t → o ≡ f (x, e.0.0) → n ≡ (w * e.1) % 2 ^ 64 → one (timed s o) n ≡ pushed (at_bound lub f t) x w (e ∷ [])
pushed_item lub f t x w e s o n p q r = ap (λ m. one (timed s o) m) r ∙ ap (λ v. one (timed v o) ((w * e.1) % 2 ^ 64)) p ∙ pushed_one (at_bound lub f t) x w e (timed (lub e.0.1 t) o) (ap (timed (lub e.0.1 t)) q)

-- ---- of the entries of its key

module _ {K V W T O : Type 0} (kcmp : K → K → Ordering) (order : IsTotalOrder kcmp) (lub : T → T → T) (gives : K → V → W → Option O) (t : T) (x : K × V) (w : ℕ) where
  eq_turned : (o p : Ordering) → o ≡ ordering_reverse p → is_eq o ≡ is_eq p
  eq_turned o Less h = ap is_eq h
  eq_turned o Equal h = ap is_eq h
  eq_turned o Greater h = ap is_eq h

  keyed_by : (e : ((K × W) × T) × ℕ) (rest : List (((K × W) × T) × ℕ)) (more : List ((T × O) × ℕ)) (b : Bool) → is_eq (kcmp e.0.0.0 x.0) ≡ b → is_eq (kcmp x.0 e.0.0.0) ≡ b → more ≡ given (at_bound lub (unkeyed gives) t) (paired x w rest) → one (timed (lub e.0.1 t) (pairs kcmp gives (x, e.0.0))) (w * e.1) ++ more ≡ given (at_bound lub (unkeyed gives) t) (paired x w (if b then e ∷ rest else rest))
  keyed_by e rest more true p q h = rw q (ap (λ v. one (timed (lub e.0.1 t) (gives x.0 x.1 e.0.0.1)) (w * e.1) ++ v) h)
  keyed_by e rest more false p q h = rw q h

  pub keyed : (es : List (((K × W) × T) × ℕ)) → given (at_bound lub (pairs kcmp gives) t) (paired x w es) ≡ given (at_bound lub (unkeyed gives) t) (paired x w (filtered (λ (r : (K × W) × T). is_eq (kcmp r.0.0 x.0)) es))
  keyed [] = refl
  keyed (e ∷ es) = keyed_by e (filtered (λ (r : (K × W) × T). is_eq (kcmp r.0.0 x.0)) es) (given (at_bound lub (pairs kcmp gives) t) (paired x w es)) (is_eq (kcmp e.0.0.0 x.0)) refl (eq_turned (kcmp x.0 e.0.0.0) (kcmp e.0.0.0 x.0) (order.antisymm x.0 e.0.0.0)) (keyed es)

-- ---- of a batch

module _ {T X Y O : Type 0} (lub : T → T → T) (f : X × Y → Option O) (t : T) (es : List ((Y × T) × ℕ)) where
  abbrev pub made_of : List (X × ℕ) → List ((T × O) × ℕ)
  made_of xs = products_of lub f t xs es

  pub made_of-append : (xs ys : List (X × ℕ)) → made_of (xs ++ ys) ≡ made_of xs ++ made_of ys
  made_of-append xs ys = ap (λ v. wrapped (given (at_bound lub f t) v)) (product-append_left xs ys es) ∙ ap wrapped (given-append (at_bound lub f t) (product xs es) (product ys es)) ∙ wrapped-append (given (at_bound lub f t) (product xs es)) (given (at_bound lub f t) (product ys es))

  pub made_of-one : (e : X × ℕ) → wrapped (given (at_bound lub f t) (paired e.0 e.1 es)) ≡ made_of (e ∷ [])
  made_of-one e = ap (λ v. wrapped (given (at_bound lub f t) v)) (sym (append-nil (paired e.0 e.1 es)))
