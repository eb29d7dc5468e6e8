-- A layer at later times, one key and value after another: what is made so far, and what is left.
use Rattle.std.proofs.Common.{◌≡◌, ◌≢◌, ◌∙◌, ℕ, zero, suc, ◌+◌, ◌-◌, ◌^◌, ◌<◌, ◌≤◌, Bool, true, false, List, [], ◌∷◌, ◌++◌, length, take, drop, get_or, Ordering, Some, refl, ap, sym, subst, arith, slice_get}
use Rattle.std.specs.Cmp.{IsTotalOrder, tied_itself}
use Rattle.std.specs.List.{AllWithin}
use Rattle.std.specs.Ordering.{is_ne, ordering_then, ordering_reverse}
use Rattle.std.specs.declared.cmp.Ordering.TheVariants.{Less, Equal, Greater}
use Rattle.std.proofs.lemmas.List.{take_all, drop_all, drop-drop, take-append-drop}
use Rattle.weighted.specs.Alike.{Alike, Alike-append, Alike-is, Alike-mapped, Alike-refl, Alike-trans}
use Rattle.weighted.specs.Batches.{IsBatch}
use Rattle.weighted.specs.Normal.{Below, Rising, Weighty, normal, normal-Alike, normal-Rising, normal-Weighty, normal-only}
use Rattle.weighted.specs.WordLaws.{mapped, mapped-append}
use Rattle.weighted.proofs.Rises.{Under, Under-append, Under-rest, Rising-append, Weighty-append}
use Rattle.trace_store.specs.Traces.{in_turn, later}
use Rattle.trace_store.proofs.Places.{left, read_at}

-- ---- cutting a list at two places

take_nothing : {X : Type 0} (n : ℕ) → ◌≡◌ {A = List X} (take n []) []
take_nothing zero = refl
take_nothing (suc n) = refl

take_more : {X : Type 0} (start n : ℕ) (xs : List X) → take (start + n) xs ≡ take start xs ++ take n (drop start xs)
take_more zero n xs = let m : 0 + n ≡ n = omega arith in ap (λ k. take k xs) m
take_more (suc start) n [] = take_nothing (suc start + n) ∙ sym (take_nothing n)
take_more (suc start) n (x ∷ xs) = let m : suc start + n ≡ suc (start + n) = omega arith in ap (λ k. take k (x ∷ xs)) m ∙ ap (λ v. x ∷ v) (take_more start n xs)

pub take_between : {X : Type 0} (start end : ℕ) (xs : List X) → start ≤ end → take end xs ≡ take start xs ++ take (end - start) (drop start xs)
take_between start end xs le = let n : end ≡ start + (end - start) = omega arith in ap (λ k. take k xs) n ∙ take_more start (end - start) xs

pub drop_between : {X : Type 0} (start end : ℕ) (xs : List X) → start ≤ end → drop end xs ≡ drop (end - start) (drop start xs)
drop_between start end xs le = let n : end ≡ start + (end - start) = omega arith in ap (λ k. drop k xs) n ∙ sym (drop-drop (end - start) start xs)

-- what holds of each element
abbrev pub Each : {X : Type 0} → (X → Type 0) → List X → Type 0
Each P [] = Unit {0}
Each P (x ∷ xs) = P x × Each P xs

each_front : {X : Type 0} (P : X → Type 0) (n : ℕ) (xs : List X) → AllWithin P xs 0 n → n ≤ length xs → Each P (take n xs)
each_front P zero xs all le = tt
each_front P (suc n) [] all le = tt
each_front P (suc n) (x ∷ xs) all le = (all 0 x (omega arith) (omega arith), each_front P n xs (λ k d a b. all (suc k) d (omega arith) (omega arith)) (omega arith))

pub each_between : {X : Type 0} (P : X → Type 0) (a n : ℕ) (xs : List X) → AllWithin P xs a (a + n) → a + n ≤ length xs → Each P (take n (drop a xs))
each_between P zero n xs all le = each_front P n xs (λ k d x y. all k d (omega arith) (omega arith)) (omega arith)
each_between P (suc a) zero [] all le = tt
each_between P (suc a) (suc n) [] all le = tt
each_between P (suc a) n (x ∷ xs) all le = each_between P a n xs (λ k d x y. all (suc k) d (omega arith) (omega arith)) (omega arith)

first_left : {X : Type 0} (xs : List X) (i : ℕ) (t : X) (ts : List X) → drop i xs ≡ t ∷ ts → (i < length xs) × (get_or xs i t ≡ t)
first_left [] zero t ts e = absurd (cc)
first_left [] (suc i) t ts e = absurd (cc)
first_left (x ∷ xs) zero t ts e = (omega arith, cc)
first_left (x ∷ xs) (suc i) t ts e = let r = first_left xs i t ts e in (omega (arith, r.0), r.1)

-- ---- one key and value after another

-- the order of the records alone
abbrev pub first : {R T : Type 0} → (R → R → Ordering) → R × T → R × T → Ordering
first rcmp x y = rcmp x.0 y.0

-- `made` is in normal form, its records come before those that are left, and it is all that stood before the place, later
pub record Sealing {R T : Type 0} (rcmp : R → R → Ordering) (tcmp : T → T → Ordering) (lub : T → T → T) (f : T) (made es : List ((R × T) × ℕ)) (start : ℕ) : Type 0 where
  pub rising : Rising (in_turn rcmp tcmp) made
  pub weighty : Weighty made
  pub under : Under (first rcmp) made (drop start es)
  pub alike : Alike made (mapped (later lub f) (take start es))

-- ---- records of one pair at times

module _ {R T : Type 0} (rcmp : R → R → Ordering) (tcmp : T → T → Ordering) (order : IsTotalOrder rcmp) (same : (x y : R) → rcmp x y ≡ Equal → x ≡ y) where
  ne_false : (o : Ordering) → is_ne o ≡ false → o ≡ Equal
  ne_false Less h = absurd (cc)
  ne_false Equal h = refl
  ne_false Greater h = absurd (cc)

  not_turned : (o s : Ordering) → ordering_then o s ≡ Less → is_ne (ordering_reverse o) ≡ true → o ≡ Less
  not_turned Less s h n = refl
  not_turned Equal s h n = absurd (cc)
  not_turned Greater s h n = absurd (cc)

  beyond_by : (p : R) (t u : R × T) (o : Ordering) → rcmp t.0 u.0 ≡ o → in_turn rcmp tcmp t u ≡ Less → rcmp p t.0 ≡ Less → rcmp p u.0 ≡ Less
  beyond_by p t u Less e h k = order.trans p t.0 u.0 k e
  beyond_by p t u Equal e h k = subst (λ v. rcmp p v ≡ Less) (same t.0 u.0 e) k
  beyond_by p t u Greater e h k = let g : ordering_then Greater (tcmp t.1 u.1) ≡ Less = ap (λ o. ordering_then o (tcmp t.1 u.1)) (sym e) ∙ h in absurd (cc)

  beyond : (p : R × T) (t : R × T) (us : List ((R × T) × ℕ)) → rcmp p.0 t.0 ≡ Less → Below (in_turn rcmp tcmp) t us → Below (first rcmp) p us
  beyond p t [] k b = tt
  beyond p t (u ∷ us) k b = (beyond_by p.0 t u.0 (rcmp t.0 u.0.0) refl b.0 k, beyond p t us k b.1)

  below-drop : (x : R × T) (n : ℕ) (xs : List ((R × T) × ℕ)) → Below (in_turn rcmp tcmp) x xs → Below (in_turn rcmp tcmp) x (drop n xs)
  below-drop x zero xs b = b
  below-drop x (suc n) [] b = tt
  below-drop x (suc n) (y ∷ xs) b = below-drop x n xs b.1

  rising-drop : (n : ℕ) (xs : List ((R × T) × ℕ)) → Rising (in_turn rcmp tcmp) xs → Rising (in_turn rcmp tcmp) (drop n xs)
  rising-drop zero xs r = r
  rising-drop (suc n) [] r = tt
  rising-drop (suc n) (y ∷ xs) r = rising-drop n xs r.1

  -- what follows the entries of a record has greater ones
  ahead_by : (e : (R × T) × ℕ) (tail : List ((R × T) × ℕ)) → Below (in_turn rcmp tcmp) e.0 tail → Rising (in_turn rcmp tcmp) tail → ((t : (R × T) × ℕ) (ts : List ((R × T) × ℕ)) → tail ≡ t ∷ ts → is_ne (rcmp t.0.0 e.0.0) ≡ true) → Below (first rcmp) e.0 tail
  ahead_by e [] b r other = tt
  ahead_by e (t ∷ ts) b r other =
      let n : is_ne (ordering_reverse (rcmp e.0.0 t.0.0)) ≡ true = ap is_ne (sym (order.antisymm t.0.0 e.0.0)) ∙ other t ts refl in
      let low : rcmp e.0.0 t.0.0 ≡ Less = not_turned (rcmp e.0.0 t.0.0) (tcmp e.0.1 t.0.1) b.0 n in
      (low, beyond e.0 t.0 ts low r.0)

  -- one record at rising times
  below-at : (p : R) (s : T) (ts : List (T × ℕ)) → Below tcmp s ts → Below (in_turn rcmp tcmp) (p, s) (mapped (λ u. (p, u)) ts)
  below-at p s [] b = tt
  below-at p s (t ∷ ts) b = (ap (λ o. ordering_then o (tcmp s t.0)) (tied_itself order p) ∙ b.0, below-at p s ts b.1)

  rising-at : (p : R) (ts : List (T × ℕ)) → Rising tcmp ts → Rising (in_turn rcmp tcmp) (mapped (λ u. (p, u)) ts)
  rising-at p [] r = tt
  rising-at p (t ∷ ts) r = (below-at p t.0 ts r.0, rising-at p ts r.1)

  weighty-at : (p : R) (ts : List (T × ℕ)) → Weighty ts → Weighty (mapped {B = R × T} (λ u. (p, u)) ts)
  weighty-at p [] w = tt
  weighty-at p (t ∷ ts) w = (w.0, w.1, weighty-at p ts w.2)

  -- records below it stay below it at each time
  under_one : (x : R × T) (p : R) (ts : List (T × ℕ)) → rcmp x.0 p ≡ Less → Below (in_turn rcmp tcmp) x (mapped (λ u. (p, u)) ts)
  under_one x p [] h = tt
  under_one x p (t ∷ ts) h = (ap (λ o. ordering_then o (tcmp x.1 t.0)) h, under_one x p ts h)

  under_group : (made : List ((R × T) × ℕ)) (e : (R × T) × ℕ) (rest : List ((R × T) × ℕ)) (ts : List (T × ℕ)) → Under (first rcmp) made (e ∷ rest) → Under (in_turn rcmp tcmp) made (mapped (λ u. (e.0.0, u)) ts)
  under_group [] e rest ts u = tt
  under_group (a ∷ made) e rest ts u = (under_one a.0 e.0.0 ts u.0.0, under_group made e rest ts u.1)

  under-drop : (made : List ((R × T) × ℕ)) (n : ℕ) (rest : List ((R × T) × ℕ)) → Under (first rcmp) made rest → Under (first rcmp) made (drop n rest)
  under-drop made zero rest u = u
  under-drop made (suc n) [] u = u
  under-drop made (suc n) (r ∷ rest) u = under-drop made n rest (Under-rest (first rcmp) made r rest u)

  group_under : (p : R × T) (ts : List (T × ℕ)) (tail : List ((R × T) × ℕ)) → Below (first rcmp) p tail → Under (first rcmp) (mapped (λ u. (p.0, u)) ts) tail
  group_under p [] tail b = tt
  group_under p (t ∷ ts) tail b = (again tail b, group_under p ts tail b) where
    again : (tail : List ((R × T) × ℕ)) → Below (first rcmp) p tail → Below (first rcmp) (p.0, t.0) tail
    again [] b = tt
    again (u ∷ tail) b = (b.0, again tail b.1)

  module _ (lub : T → T → T) (f : T) where
    -- the times of one record, read later
    abbrev pub read_later : List ((R × T) × ℕ) → List (T × ℕ)
    read_later es = mapped (λ r. lub r.1 f) es

    -- a record at those times
    abbrev pub group : R → List ((R × T) × ℕ) → List ((R × T) × ℕ)
    group p es = mapped (λ u. (p, u)) (normal tcmp (read_later es))

    same_record : (p : R) (es : List ((R × T) × ℕ)) → Each (λ e. is_ne (rcmp e.0.0 p) ≡ false) es → mapped (λ u. (p, u)) (read_later es) ≡ mapped (later lub f) es
    same_record p [] h = refl
    same_record p (e ∷ es) h =
        let is : p ≡ e.0.0 = sym (same e.0.0 p (ne_false (rcmp e.0.0 p) h.0)) in
        ap (λ v. ((v, lub e.0.1 f), e.1) ∷ mapped (λ u. (p, u)) (read_later es)) is ∙ ap (λ v. ((e.0.0, lub e.0.1 f), e.1) ∷ v) (same_record p es h.1)

    module _ (torder : IsTotalOrder tcmp) (tsame : (x y : T) → tcmp x y ≡ Equal → x ≡ y) where
      weighty_at : (es : List ((R × T) × ℕ)) (i : ℕ) (x : (R × T) × ℕ) → Weighty es → slice_get es i ≡ Some x → (x.1 ≢ 0) × (x.1 < 2 ^ 64)
      weighty_at [] i x w e = absurd (cc)
      weighty_at (y ∷ es) zero x w e = let same : y ≡ x = cc in subst (λ (v : (R × T) × ℕ). (v.1 ≢ 0) × (v.1 < 2 ^ 64)) same (w.0, w.1)
      weighty_at (y ∷ es) (suc i) x w e = weighty_at es i x w.2 e

      -- a record with one entry
      pub group_alone : (es : List ((R × T) × ℕ)) (start n : ℕ) (x e : (R × T) × ℕ) → Weighty es → slice_get es start ≡ Some x → n ≡ 1 → e ≡ get_or es start e → ((x.0.0, lub x.0.1 f), x.1) ∷ [] ≡ group e.0.0 (take n (drop start es))
      group_alone es start n x e w at one is =
          let same_one : e ≡ x = is ∙ read_at es start x e at in
          let cut : take n (drop start es) ≡ x ∷ [] = (λ i. take (one i) (left es start x at i)) in
          let n : (x.1 ≢ 0) × (x.1 < 2 ^ 64) = weighty_at es start x w at in
          let alone : List (T × ℕ) = (lub x.0.1 f, x.1) ∷ [] in
          let itself : alone ≡ normal tcmp alone = normal-only tcmp torder tsame alone alone (tt, tt) (n.0, n.1, tt) (Alike-refl alone) in
          ap (λ (v : List (T × ℕ)). mapped (λ u. (x.0.0, u)) v) itself ∙ (λ i. group (sym same_one i).0.0 (sym cut i))

      group-Alike : (p : R) (es : List ((R × T) × ℕ)) → Each (λ e. is_ne (rcmp e.0.0 p) ≡ false) es → Alike (group p es) (mapped (later lub f) es)
      group-Alike p es h = Alike-trans (Alike-mapped (λ u. (p, u)) (normal tcmp (read_later es)) (read_later es) (normal-Alike tcmp torder tsame (read_later es))) (Alike-is (same_record p es h))

      pub sealing_start : (es : List ((R × T) × ℕ)) → Sealing rcmp tcmp lub f [] es 0
      sealing_start es = record { rising = tt; weighty = tt; under = tt; alike = Alike-refl [] }

      pub sealing_step : (made es : List ((R × T) × ℕ)) (start end : ℕ) (e : (R × T) × ℕ) → Rising (in_turn rcmp tcmp) es → slice_get es start ≡ Some e → start < end → end ≤ length es
          → AllWithin (λ x. is_ne (rcmp x.0.0 e.0.0) ≡ false) es (start + 1) end
          → (end < length es → (d : (R × T) × ℕ) → is_ne (rcmp (get_or es end d).0.0 e.0.0) ≡ true)
          → Sealing rcmp tcmp lub f made es start → Sealing rcmp tcmp lub f (made ++ group e.0.0 (take (end - start) (drop start es))) es end
      sealing_step made es start end e r at less fits all other s =
          let n = end - start in let rest = drop start es in let g = take n rest in
          let is : rest ≡ e ∷ drop (start + 1) es = left es start e at in
          let m : n ≡ suc (end - (start + 1)) = omega arith in
          let cut : take n rest ≡ e ∷ take (end - (start + 1)) (drop (start + 1) es) = (λ i. take (m i) (is i)) in
          let long : start + 1 + (end - (start + 1)) ≡ end = omega arith in
          let others : Each (λ x. is_ne (rcmp x.0.0 e.0.0) ≡ false) (take (end - (start + 1)) (drop (start + 1) es)) = each_between (λ x. is_ne (rcmp x.0.0 e.0.0) ≡ false) (start + 1) (end - (start + 1)) es (subst (λ k. AllWithin (λ x. is_ne (rcmp x.0.0 e.0.0) ≡ false) es (start + 1) k) (sym long) all) (omega (arith, long)) in
          let each : Each (λ x. is_ne (rcmp x.0.0 e.0.0) ≡ false) g = subst (λ v. Each (λ x. is_ne (rcmp x.0.0 e.0.0) ≡ false) v) (sym cut) (ap is_ne (tied_itself order e.0.0), others) in
          let rises : Rising (in_turn rcmp tcmp) (e ∷ drop (start + 1) es) = subst (λ v. Rising (in_turn rcmp tcmp) v) is (rising-drop start es r) in
          let tail : drop end es ≡ drop (end - (start + 1)) (drop (start + 1) es) = drop_between (start + 1) end es (omega arith) in
          let over : Below (in_turn rcmp tcmp) e.0 (drop end es) = subst (λ v. Below (in_turn rcmp tcmp) e.0 v) (sym tail) (below-drop e.0 (end - (start + 1)) (drop (start + 1) es) rises.0) in
          let next : (t : (R × T) × ℕ) (ts : List ((R × T) × ℕ)) → drop end es ≡ t ∷ ts → is_ne (rcmp t.0.0 e.0.0) ≡ true = (λ t ts q. let fl = first_left es end t ts q in ap (λ (v : (R × T) × ℕ). is_ne (rcmp v.0.0 e.0.0)) (sym fl.1) ∙ other fl.0 t) in
          let ahead : Below (first rcmp) e.0 (drop end es) = ahead_by e (drop end es) over (rising-drop end es r) next in
          let under : Under (first rcmp) made (e ∷ drop (start + 1) es) = subst (λ v. Under (first rcmp) made v) is s.under in
          let whole : mapped (later lub f) (take end es) ≡ mapped (later lub f) (take start es) ++ mapped (later lub f) g = ap (mapped (later lub f)) (take_between start end es (omega arith)) ∙ mapped-append (later lub f) (take start es) g in
          record {
            rising = Rising-append (in_turn rcmp tcmp) made (group e.0.0 g) s.rising (rising-at e.0.0 (normal tcmp (read_later g)) (normal-Rising tcmp torder tsame (read_later g))) (under_group made e (drop (start + 1) es) (normal tcmp (read_later g)) under);
            weighty = Weighty-append made (group e.0.0 g) s.weighty (weighty-at e.0.0 (normal tcmp (read_later g)) (normal-Weighty tcmp torder tsame (read_later g)));
            under = Under-append (first rcmp) made (group e.0.0 g) (drop end es) (subst (λ v. Under (first rcmp) made v) (sym (drop_between start end es (omega arith))) (under-drop made n rest s.under)) (group_under e.0 (normal tcmp (read_later g)) (drop end es) ahead);
            alike = Alike-trans (Alike-append s.alike (group-Alike e.0.0 g each)) (Alike-is (sym whole));
          }

      module _ (made es : List ((R × T) × ℕ)) (start : ℕ) (done : length es ≤ start) (s : Sealing rcmp tcmp lub f made es start) where
        pub sealing_batch : IsBatch (in_turn rcmp tcmp) made
        sealing_batch = record { rising = s.rising; weighty = s.weighty }

        pub sealing_alike : Alike made (mapped (later lub f) es)
        sealing_alike = Alike-trans s.alike (Alike-is (ap (mapped (later lub f)) (take_all start es done)))
