-- One walk along two lists that rise: what is made so far, and what is left of each.
use Rattle.std.proofs.Common.{◌≡◌, ◌∙◌, ℕ, ◌+◌, ◌*◌, ◌%◌, ◌^◌, ◌<◌, ◌≤◌, ◌==◌, Bool, true, false, List, [], ◌∷◌, ◌++◌, length, drop, get_or, Ordering, refl, ap, sym, subst, arith, append_assoc}
use Rattle.std.specs.Prelude.{if◌then◌else◌}
use Rattle.std.specs.Cmp.{IsTotalOrder}
use Rattle.std.specs.Ordering.{ordering_reverse}
use Rattle.std.specs.declared.cmp.Ordering.TheVariants.{Less, Equal, Greater}
use Rattle.std.proofs.lemmas.List.{append-nil, drop_more, drop_all}
use Rattle.weighted.specs.WordLaws.{total, cong_add, cong_mul}
use Rattle.weighted.specs.Alike.{Alike, Alike-refl, Alike-is, Alike-trans, total-append}
use Rattle.weighted.specs.Batches.{IsBatch}
use Rattle.weighted.specs.Normal.{Below, Rising, Weighty, trimmed, normal, normal-only, trimmed-Alike, Below-trans, Rising-trimmed, Weighty-trimmed}
use Rattle.weighted.proofs.Rises.{Under, Under-append, Under-nothing, Under-first, Under-rest, Under-weight, Rising-append, Weighty-append}

-- `made` is in normal form and below what is left of both lists, and the three are all of `es`
pub record Joining {R : Type 0} (cmp : R → R → Ordering) (made left right es : List (R × ℕ)) : Type 0 where
  pub made_rises : Rising cmp made
  pub left_rises : Rising cmp left
  pub right_rises : Rising cmp right
  pub made_weights : Weighty made
  pub left_weights : Weighty left
  pub right_weights : Weighty right
  pub under_left : Under cmp made left
  pub under_right : Under cmp made right
  pub all : Alike (made ++ (left ++ right)) es

module _ {R : Type 0} (cmp : R → R → Ordering) where
  pub joining_start : (left right : List (R × ℕ)) → IsBatch cmp left → IsBatch cmp right → Joining cmp [] left right (left ++ right)
  joining_start left right l r = record { made_rises = tt; left_rises = l.rising; right_rises = r.rising; made_weights = tt; left_weights = l.weighty; right_weights = r.weighty; under_left = tt; under_right = tt; all = Alike-refl (left ++ right) }

  moved : (made : List (R × ℕ)) (x : R × ℕ) (left right : List (R × ℕ)) → Alike ((made ++ x ∷ []) ++ (left ++ right)) (made ++ (left ++ x ∷ right))
  moved made x left right = record { totals = λ g. rw (total-append g (made ++ x ∷ []) (left ++ right), total-append g made (x ∷ []), total-append g left right, total-append g made (left ++ x ∷ right), total-append g left (x ∷ right)) (ap (λ n. n % 2 ^ 64) (omega arith)) }

  two_alike : (made t left right : List (R × ℕ)) (x : R) (w v : ℕ) → Alike t ((x, (w + v) % 2 ^ 64) ∷ []) → Alike ((made ++ t) ++ (left ++ right)) (made ++ (((x, w) ∷ left) ++ ((x, v) ∷ right)))
  two_alike made t left right x w v a = record { totals = λ g. rw (total-append g (made ++ t) (left ++ right), total-append g made t, total-append g left right, total-append g made (((x, w) ∷ left) ++ ((x, v) ∷ right)), total-append g left ((x, v) ∷ right)) (by_parts (g x) w v (total g made) (total g t) (total g left) (total g right) (a.totals g)) } where
    by_parts : (k w v m t l r : ℕ) → t % 2 ^ 64 ≡ (k * ((w + v) % 2 ^ 64) + 0) % 2 ^ 64 → ((m + t) + (l + r)) % 2 ^ 64 ≡ (m + (k * w + (l + (k * v + r)))) % 2 ^ 64
    by_parts k w v m t l r h =
        let n : (k * ((w + v) % 2 ^ 64)) % 2 ^ 64 ≡ (k * (w + v)) % 2 ^ 64 = cong_mul k ((w + v) % 2 ^ 64) (w + v) (omega arith) in
        let s : t % 2 ^ 64 ≡ (k * (w + v)) % 2 ^ 64 = h ∙ ap (λ u. u % 2 ^ 64) (omega arith) ∙ n in
        let q : m + (k * w + (l + (k * v + r))) ≡ (m + (l + r)) + k * (w + v) = omega arith in
        let p : (m + t) + (l + r) ≡ (m + (l + r)) + t = omega arith in
        rw (p, q) (cong_add (m + (l + r)) (m + (l + r)) t (k * (w + v)) refl s)

module _ {R : Type 0} (cmp : R → R → Ordering) (order : IsTotalOrder cmp) (same : (x y : R) → cmp x y ≡ Equal → x ≡ y) where
  -- the first of the left list comes next
  pub joining_left : (made : List (R × ℕ)) (x : R × ℕ) (left : List (R × ℕ)) (y : R × ℕ) (right es : List (R × ℕ)) → cmp x.0 y.0 ≡ Less → Joining cmp made (x ∷ left) (y ∷ right) es → Joining cmp (made ++ x ∷ []) left (y ∷ right) es
  joining_left made x left y right es low j = record {
    made_rises = Rising-append cmp made (x ∷ []) j.made_rises (tt, tt) (Under-first cmp made x left j.under_left);
    left_rises = j.left_rises.1;
    right_rises = j.right_rises;
    made_weights = Weighty-append made (x ∷ []) j.made_weights (j.left_weights.0, j.left_weights.1, tt);
    left_weights = j.left_weights.2;
    right_weights = j.right_weights;
    under_left = Under-append cmp made (x ∷ []) left (Under-rest cmp made x left j.under_left) (j.left_rises.0, tt);
    under_right = Under-append cmp made (x ∷ []) (y ∷ right) j.under_right ((low, Below-trans cmp order same x.0 y.0 right low j.right_rises.0), tt);
    all = Alike-trans (Alike-is (append_assoc made (x ∷ []) (left ++ y ∷ right))) j.all;
  }

  -- the first of the right list comes next
  pub joining_right : (made : List (R × ℕ)) (x : R × ℕ) (left : List (R × ℕ)) (y : R × ℕ) (right es : List (R × ℕ)) → cmp x.0 y.0 ≡ Greater → Joining cmp made (x ∷ left) (y ∷ right) es → Joining cmp (made ++ y ∷ []) (x ∷ left) right es
  joining_right made x left y right es high j =
      let low : cmp y.0 x.0 ≡ Less = order.antisymm y.0 x.0 ∙ ap ordering_reverse high in
      record {
        made_rises = Rising-append cmp made (y ∷ []) j.made_rises (tt, tt) (Under-first cmp made y right j.under_right);
        left_rises = j.left_rises;
        right_rises = j.right_rises.1;
        made_weights = Weighty-append made (y ∷ []) j.made_weights (j.right_weights.0, j.right_weights.1, tt);
        left_weights = j.left_weights;
        right_weights = j.right_weights.2;
        under_left = Under-append cmp made (y ∷ []) (x ∷ left) j.under_left ((low, Below-trans cmp order same y.0 x.0 left low j.left_rises.0), tt);
        under_right = Under-append cmp made (y ∷ []) right (Under-rest cmp made y right j.under_right) (j.right_rises.0, tt);
        all = Alike-trans (moved cmp made y (x ∷ left) right) j.all;
      }

  under_trimmed : (made : List (R × ℕ)) (x : R) (w : ℕ) (b : Bool) → Under cmp made ((x, w) ∷ []) → Under cmp made (if b then [] else (x, w) ∷ [])
  under_trimmed made x w true u = Under-nothing cmp made
  under_trimmed made x w false u = u

  trimmed_under : (x : R) (w : ℕ) (bs : List (R × ℕ)) (b : Bool) → Below cmp x bs → Under cmp (if b then [] else (x, w) ∷ []) bs
  trimmed_under x w bs true h = tt
  trimmed_under x w bs false h = (h, tt)

  joining_same : (made : List (R × ℕ)) (x : R) (w v : ℕ) (left right es : List (R × ℕ)) → Joining cmp made ((x, w) ∷ left) ((x, v) ∷ right) es → Joining cmp (made ++ trimmed ((x, (w + v) % 2 ^ 64) ∷ [])) left right es
  joining_same made x w v left right es j =
      let sum : ℕ = (w + v) % 2 ^ 64 in
      let one : List (R × ℕ) = trimmed ((x, (w + v) % 2 ^ 64) ∷ []) in
      record {
        made_rises = Rising-append cmp made one j.made_rises (Rising-trimmed cmp order same ((x, sum) ∷ []) (tt, tt)) (under_trimmed made x (sum % 2 ^ 64) (sum % 2 ^ 64 == 0) (Under-weight cmp made x w (sum % 2 ^ 64) (Under-first cmp made (x, w) left j.under_left)));
        left_rises = j.left_rises.1;
        right_rises = j.right_rises.1;
        made_weights = Weighty-append made one j.made_weights (Weighty-trimmed ((x, sum) ∷ []));
        left_weights = j.left_weights.2;
        right_weights = j.right_weights.2;
        under_left = Under-append cmp made one left (Under-rest cmp made (x, w) left j.under_left) (trimmed_under x (sum % 2 ^ 64) left (sum % 2 ^ 64 == 0) j.left_rises.0);
        under_right = Under-append cmp made one right (Under-rest cmp made (x, v) right j.under_right) (trimmed_under x (sum % 2 ^ 64) right (sum % 2 ^ 64 == 0) j.right_rises.0);
        all = Alike-trans (two_alike cmp made one left right x w v (trimmed-Alike ((x, (w + v) % 2 ^ 64) ∷ []))) j.all;
      }

  -- the first of both lists are one record
  pub joining_both : (made : List (R × ℕ)) (x : R × ℕ) (left : List (R × ℕ)) (y : R × ℕ) (right es : List (R × ℕ)) → cmp x.0 y.0 ≡ Equal → Joining cmp made (x ∷ left) (y ∷ right) es → Joining cmp (made ++ trimmed ((x.0, (x.1 + y.1) % 2 ^ 64) ∷ [])) left right es
  joining_both made x left y right es tie j = joining_same made x.0 x.1 y.1 left right es (subst (λ (r : R). Joining cmp made (x ∷ left) ((r, y.1) ∷ right) es) (sym (same x.0 y.0 tie)) j)

  -- where one list is done, what is left of the other comes last
  pub joining_left_end : (made left es : List (R × ℕ)) → Joining cmp made left [] es → made ++ left ≡ normal cmp es
  joining_left_end made left es j = normal-only cmp order same (made ++ left) es (Rising-append cmp made left j.made_rises j.left_rises j.under_left) (Weighty-append made left j.made_weights j.left_weights) (Alike-trans (Alike-is (ap (λ v. made ++ v) (sym (append-nil left)))) j.all)

  pub joining_right_end : (made right es : List (R × ℕ)) → Joining cmp made [] right es → made ++ right ≡ normal cmp es
  joining_right_end made right es j = normal-only cmp order same (made ++ right) es (Rising-append cmp made right j.made_rises j.right_rises j.under_right) (Weighty-append made right j.made_weights j.right_weights) j.all

  -- ---- the same, where what is left of a list is all from a place on

  left_is : (es : List (R × ℕ)) (i : ℕ) (x : R × ℕ) → i < length es → x ≡ get_or es i x → drop i es ≡ x ∷ drop (i + 1) es
  left_is es i x low is = drop_more es i x low ∙ ap (λ (v : R × ℕ). v ∷ drop (i + 1) es) (sym is)

  both_left : (made xs ys us vs es : List (R × ℕ)) → xs ≡ us → ys ≡ vs → Joining cmp made xs ys es → Joining cmp made us vs es
  both_left made xs ys us vs es p q j = subst (λ (v : List (R × ℕ)). Joining cmp made us v es) q (subst (λ (v : List (R × ℕ)). Joining cmp made v ys es) p j)

  pub walk_left : (made left right es : List (R × ℕ)) (i j : ℕ) (x y : R × ℕ) → i < length left → j < length right → x ≡ get_or left i x → y ≡ get_or right j y → cmp x.0 y.0 ≡ Less → Joining cmp made (drop i left) (drop j right) es → Joining cmp (made ++ x ∷ []) (drop (i + 1) left) (drop j right) es
  walk_left made left right es i j x y li lj xi yj o w =
      let a : drop i left ≡ x ∷ drop (i + 1) left = left_is left i x li xi in
      let b : drop j right ≡ y ∷ drop (j + 1) right = left_is right j y lj yj in
      both_left (made ++ x ∷ []) (drop (i + 1) left) (y ∷ drop (j + 1) right) (drop (i + 1) left) (drop j right) es refl (sym b) (joining_left made x (drop (i + 1) left) y (drop (j + 1) right) es o (both_left made (drop i left) (drop j right) (x ∷ drop (i + 1) left) (y ∷ drop (j + 1) right) es a b w))

  pub walk_right : (made left right es : List (R × ℕ)) (i j : ℕ) (x y : R × ℕ) → i < length left → j < length right → x ≡ get_or left i x → y ≡ get_or right j y → cmp x.0 y.0 ≡ Greater → Joining cmp made (drop i left) (drop j right) es → Joining cmp (made ++ y ∷ []) (drop i left) (drop (j + 1) right) es
  walk_right made left right es i j x y li lj xi yj o w =
      let a : drop i left ≡ x ∷ drop (i + 1) left = left_is left i x li xi in
      let b : drop j right ≡ y ∷ drop (j + 1) right = left_is right j y lj yj in
      both_left (made ++ y ∷ []) (x ∷ drop (i + 1) left) (drop (j + 1) right) (drop i left) (drop (j + 1) right) es (sym a) refl (joining_right made x (drop (i + 1) left) y (drop (j + 1) right) es o (both_left made (drop i left) (drop j right) (x ∷ drop (i + 1) left) (y ∷ drop (j + 1) right) es a b w))

  pub walk_both : (made left right es : List (R × ℕ)) (i j : ℕ) (x y : R × ℕ) → i < length left → j < length right → x ≡ get_or left i x → y ≡ get_or right j y → cmp x.0 y.0 ≡ Equal → Joining cmp made (drop i left) (drop j right) es → Joining cmp (made ++ trimmed ((x.0, (x.1 + y.1) % 2 ^ 64) ∷ [])) (drop (i + 1) left) (drop (j + 1) right) es
  walk_both made left right es i j x y li lj xi yj o w =
      let a : drop i left ≡ x ∷ drop (i + 1) left = left_is left i x li xi in
      let b : drop j right ≡ y ∷ drop (j + 1) right = left_is right j y lj yj in
      joining_both made x (drop (i + 1) left) y (drop (j + 1) right) es o (both_left made (drop i left) (drop j right) (x ∷ drop (i + 1) left) (y ∷ drop (j + 1) right) es a b w)

  pub walk_left_end : (made left right es : List (R × ℕ)) (i j : ℕ) → length right ≤ j → Joining cmp made (drop i left) (drop j right) es → (made ++ drop i left) ++ drop j right ≡ normal cmp es
  walk_left_end made left right es i j done w =
      let b : drop j right ≡ [] = drop_all j right done in
      ap (λ v. (made ++ drop i left) ++ v) b ∙ append-nil (made ++ drop i left) ∙ joining_left_end made (drop i left) es (both_left made (drop i left) (drop j right) (drop i left) [] es refl b w)

  pub walk_right_end : (made left right es : List (R × ℕ)) (i j : ℕ) → length left ≤ i → Joining cmp made (drop i left) (drop j right) es → (made ++ drop i left) ++ drop j right ≡ normal cmp es
  walk_right_end made left right es i j done w =
      let a : drop i left ≡ [] = drop_all i left done in
      ap (λ v. (made ++ v) ++ drop j right) a ∙ ap (λ v. v ++ drop j right) (append-nil made) ∙ joining_right_end made (drop j right) es (both_left made (drop i left) (drop j right) [] (drop j right) es a refl w)
