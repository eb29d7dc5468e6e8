-- The function of a join is bilinear: what differences on both sides change is what each gives with all of the other side.
use Rattle.std.specs.Prelude.{◌≡◌, ℕ, Bool, true, false, List, [], ◌++◌, if◌then◌else◌, Option, None, refl}
use Rattle.std.specs.declared.cmp.Ordering.{Ordering}
use Rattle.std.specs.declared.cmp.Ordering.TheVariants.{Less, Equal, Greater}
use Rattle.std.specs.Ordering.{is_eq, ordering_reverse}
use Rattle.std.specs.Cmp.{IsTotalOrder}
use Rattle.std.proofs.Common.{ap, sym, ◌∙◌, append_assoc}
use Rattle.std.proofs.lemmas.List.{append-nil}
use Rattle.weighted.specs.Alike.{Alike, Alike-refl, Alike-is, Alike-sym, Alike-trans, Alike-append}
use Rattle.weighted.specs.SumLaws.{product, Alike-comm, Alike-product, Alike-product_right, product-append_left}
use Rattle.flow_core.specs.declared.side.Side.{Side}
use Rattle.flow_core.specs.Sides.{lefts, rights}
use Rattle.flow_core.specs.Functions.{Alike-lefts, Alike-rights, lefts-append, rights-append}
use Rattle.diff_join.specs.Joins.{given, pairs, joined_sides}
use Rattle.diff_join.specs.GivenLaws.{Alike-given, given-append, given-swapped, swapped}

-- ---- the pairing with its sides swapped

eq_turned : (o p : Ordering) → o ≡ ordering_reverse p → is_eq o ≡ is_eq p
eq_turned o Less h = ap is_eq h
eq_turned o Equal h = ap is_eq h
eq_turned o Greater h = ap is_eq h

equal_is : (o : Ordering) → is_eq o ≡ true → o ≡ Equal
equal_is Less h = absurd (cc)
equal_is Equal h = refl
equal_is Greater h = absurd (cc)

module _ {K A B O : Type 0} (kcmp : K → K → Ordering) (order : IsTotalOrder kcmp) (same : (x y : K) → kcmp x y ≡ Equal → x ≡ y) (gives : K → A → B → Option O) where
  -- the right side first
  abbrev pub turned_gives : K → B → A → Option O
  turned_gives k b a = gives k a b

  turned_by : (r : (K × B) × (K × A)) (b : Bool) → is_eq (kcmp r.0.0 r.1.0) ≡ b → (if b then gives r.0.0 r.1.1 r.0.1 else None) ≡ (if b then gives r.1.0 r.1.1 r.0.1 else None)
  turned_by r true h = ap (λ k. gives k r.1.1 r.0.1) (same r.0.0 r.1.0 (equal_is (kcmp r.0.0 r.1.0) h))
  turned_by r false h = refl

  pub pairs-turned : (r : (K × B) × (K × A)) → pairs kcmp turned_gives r ≡ pairs kcmp gives (swapped r)
  pairs-turned r = turned_by r (is_eq (kcmp r.0.0 r.1.0)) refl ∙ ap (λ (b : Bool). if b then gives r.1.0 r.1.1 r.0.1 else None) (sym (eq_turned (kcmp r.1.0 r.0.0) (kcmp r.0.0 r.1.0) (order.antisymm r.1.0 r.0.0)))

  pub Alike-turned : (xs : List ((K × A) × ℕ)) (ys : List ((K × B) × ℕ)) → Alike (given (pairs kcmp turned_gives) (product ys xs)) (given (pairs kcmp gives) (product xs ys))
  Alike-turned xs ys = given-swapped (pairs kcmp gives) (pairs kcmp turned_gives) xs ys pairs-turned

module _ {X Y O : Type 0} (f : X × Y → Option O) where
  -- (l + dl) (r + dr) = l r + dl (r + dr) + l dr
  pub expanded : (l dl : List (X × ℕ)) (r dr : List (Y × ℕ)) → Alike (given f (product (l ++ dl) (r ++ dr))) (given f (product l r) ++ (given f (product dl (r ++ dr)) ++ given f (product l dr)))
  expanded l dl r dr =
      let split : given f (product (l ++ dl) (r ++ dr)) ≡ given f (product l (r ++ dr)) ++ given f (product dl (r ++ dr)) = ap (given f) (product-append_left l dl (r ++ dr)) ∙ given-append f (product l (r ++ dr)) (product dl (r ++ dr)) in
      let old : Alike (given f (product l (r ++ dr))) (given f (product l r) ++ given f (product l dr)) = Alike-trans (Alike-given f _ _ (Alike-product_right l r dr)) (Alike-is (given-append f (product l r) (product l dr))) in
      let turned : Alike (given f (product l dr) ++ given f (product dl (r ++ dr))) (given f (product dl (r ++ dr)) ++ given f (product l dr)) = Alike-comm (given f (product l dr)) (given f (product dl (r ++ dr))) in
      Alike-trans (Alike-is split) (Alike-trans (Alike-append old (Alike-refl (given f (product dl (r ++ dr))))) (Alike-trans (Alike-is (append_assoc (given f (product l r)) (given f (product l dr)) (given f (product dl (r ++ dr))))) (Alike-append (Alike-refl (given f (product l r))) turned)))

module _ {K A B O : Type 0} (kcmp : K → K → Ordering) (gives : K → A → B → Option O) where
  -- one collection has one function
  pub joined_respects : (xs ys : List (Side (K × A) (K × B) × ℕ)) → Alike xs ys → Alike (joined_sides kcmp gives xs) (joined_sides kcmp gives ys)
  joined_respects xs ys s = Alike-given (pairs kcmp gives) _ _ (Alike-product (lefts xs) (lefts ys) (rights xs) (rights ys) (Alike-lefts xs ys s) (Alike-rights xs ys s))

  joined_more : (fed delta : List (Side (K × A) (K × B) × ℕ)) → Alike (joined_sides kcmp gives (fed ++ delta)) (joined_sides kcmp gives fed ++ (given (pairs kcmp gives) (product (lefts delta) (rights fed ++ rights delta)) ++ given (pairs kcmp gives) (product (lefts fed) (rights delta))))
  joined_more fed delta = rw (lefts-append fed delta, rights-append fed delta) (expanded (pairs kcmp gives) (lefts fed) (lefts delta) (rights fed) (rights delta))

  -- what a step makes and keeps: b tells whether it counts
  pub products_more : (b : Bool) (made now before after first second : List (O × ℕ)) (fed delta : List (Side (K × A) (K × B) × ℕ)) (l dl : List ((K × A) × ℕ)) (r dr more : List ((K × B) × ℕ)) → Alike (made ++ before) (joined_sides kcmp gives fed) → Alike l (lefts fed) → Alike r (rights fed) → Alike more (r ++ (if b then dr else [])) → Alike dl (lefts delta) → Alike dr (rights delta) → Alike first (if b then given (pairs kcmp gives) (product dl more) else []) → Alike second (if b then given (pairs kcmp gives) (product l dr) else []) → Alike (before ++ (first ++ second)) ((if b then now else []) ++ after) → Alike ((made ++ (if b then now else [])) ++ after) (joined_sides kcmp gives (fed ++ (if b then delta else [])))
  products_more true made now before after first second fed delta l dl r dr more h hl hr hm hdl hdr p q kept =
      let rights_now : Alike more (rights fed ++ rights delta) = Alike-trans hm (Alike-append hr hdr) in
      let one : Alike first (given (pairs kcmp gives) (product (lefts delta) (rights fed ++ rights delta))) = Alike-trans p (Alike-given (pairs kcmp gives) _ _ (Alike-product dl (lefts delta) more (rights fed ++ rights delta) hdl rights_now)) in
      let two : Alike second (given (pairs kcmp gives) (product (lefts fed) (rights delta))) = Alike-trans q (Alike-given (pairs kcmp gives) _ _ (Alike-product l (lefts fed) dr (rights delta) hl hdr)) in
      Alike-trans (Alike-is (append_assoc made now after)) (Alike-trans (Alike-append (Alike-refl made) (Alike-sym kept)) (Alike-trans (Alike-is (sym (append_assoc made before (first ++ second)))) (Alike-trans (Alike-append h (Alike-append one two)) (Alike-sym (joined_more fed delta)))))
  products_more false made now before after first second fed delta l dl r dr more h hl hr hm hdl hdr p q kept =
      let none : Alike (first ++ second) ([] ++ []) = Alike-append p q in
      let still : Alike after (before ++ []) = Alike-trans (Alike-sym kept) (Alike-append (Alike-refl before) none) in
      Alike-trans (Alike-is (ap (λ v. v ++ after) (append-nil made))) (Alike-trans (Alike-append (Alike-refl made) (Alike-trans still (Alike-is (append-nil before)))) (Alike-trans h (Alike-is (ap (joined_sides kcmp gives) (sym (append-nil fed))))))

  part_by : {R : Type 0} (side : List (Side (K × A) (K × B) × ℕ) → List (R × ℕ)) → ((xs ys : List (Side (K × A) (K × B) × ℕ)) → side (xs ++ ys) ≡ side xs ++ side ys) → (b : Bool) (fed delta : List (Side (K × A) (K × B) × ℕ)) (old part : List (R × ℕ)) → Alike old (side fed) → Alike part (side delta) → Alike (old ++ (if b then part else [])) (side (fed ++ (if b then delta else [])))
  part_by side more true fed delta old part h k = Alike-trans (Alike-append h k) (Alike-is (sym (more fed delta)))
  part_by side more false fed delta old part h k = Alike-trans (Alike-is (append-nil old)) (Alike-trans h (Alike-is (ap side (sym (append-nil fed)))))

  -- what a trace of one side accumulates to
  pub lefts_more : (b : Bool) (fed delta : List (Side (K × A) (K × B) × ℕ)) (old part : List ((K × A) × ℕ)) → Alike old (lefts fed) → Alike part (lefts delta) → Alike (old ++ (if b then part else [])) (lefts (fed ++ (if b then delta else [])))
  lefts_more b fed delta old part h k = part_by lefts lefts-append b fed delta old part h k

  pub rights_more : (b : Bool) (fed delta : List (Side (K × A) (K × B) × ℕ)) (old part : List ((K × B) × ℕ)) → Alike old (rights fed) → Alike part (rights delta) → Alike (old ++ (if b then part else [])) (rights (fed ++ (if b then delta else [])))
  rights_more b fed delta old part h k = part_by rights rights-append b fed delta old part h k
