-- What changes add to the entries of the present edges.
use Rattle.std.specs.Prelude.{◌≡◌, ℕ, ◌+◌, ◌%◌, ◌^◌, ◌<◌, ◌≤◌, not, Bool, true, false, List, [], ◌∷◌, ◌++◌, length, get_or, set, take, drop, replicate, if◌then◌else◌, Option, refl}
use Rattle.std.proofs.Common.{arith, ap, sym, subst, ◌∙◌, append_assoc, append-nil, zero, suc}
use Rattle.std.proofs.lemmas.List.{set-get_or, length-set, take-append-le, take_all}
use Rattle.weighted.specs.Words.{minus}
use Rattle.weighted.specs.WordLaws.{total}
use Rattle.weighted.specs.Alike.{Alike, Alike-refl, Alike-is, Alike-trans, Alike-append, total-append, negated, negated-total}
use Rattle.graph_model.specs.GraphData.{GraphData}
use Rattle.graph_model.specs.declared.number.EdgeNo.{EdgeNo}
use Rattle.flow_core.specs.Runs.{Every}
use Rattle.aggregate_views.specs.Rows.{present_from, present_edges}
use Rattle.aggregate_views.specs.Changes.{turned, changed, AreChanges}
use Rattle.aggregate_views.specs.declared.part.Part.{Part}
use Rattle.aggregate_views.specs.Coding.{edge_entries, entries_of, signed_entries, change_entries}

-- ---- signs

signed_true : {R : Type 0} (es : List (R × ℕ)) → signed_entries true es ≡ es
signed_true [] = refl
signed_true (e ∷ es) = ap (λ v. e ∷ v) (signed_true es)

signed_false : {R : Type 0} (es : List (R × ℕ)) → signed_entries false es ≡ negated es
signed_false [] = refl
signed_false (e ∷ es) = ap (λ v. (e.0, minus e.1) ∷ v) (signed_false es)

-- ---- lists of truths

-- a list that was lent and came back as long as it was
pub came_back : (new old : List Bool) (count : ℕ) → length new ≡ length old → count ≡ length old → take count (new ++ drop (length new) old) ≡ new
came_back new old count same is = take-append-le count new (drop (length new) old) (omega (arith, same, is)) ∙ take_all count new (omega (arith, same, is))

pub length-changed : (present : List Bool) (cs : List (EdgeNo × Bool)) → length (changed present cs) ≡ length present
length-changed present [] = refl
length-changed present (c ∷ cs) = length-changed (turned present c) cs ∙ length-set present c.0.0 c.1

pub in_range : (present : List Bool) (cs : List (EdgeNo × Bool)) → AreChanges present cs → Every (λ c. c.0.0 < length present) cs
in_range present [] h = tt
in_range present (c ∷ cs) h = (h.0, subst (λ n. Every (λ d. d.0.0 < n) cs) (length-set present c.0.0 c.1) (in_range (turned present c) cs h.2))

fewer_by : (b : Bool) (n m : ℕ) (es : List ℕ) → length es ≤ m → length (if b then n ∷ es else es) ≤ 1 + m
fewer_by true n m es h = omega (arith, h)
fewer_by false n m es h = omega (arith, h)

pub fewer : (n : ℕ) (bs : List Bool) → length (present_from n bs) ≤ length bs
fewer n [] = omega arith
fewer n (b ∷ bs) = omega (arith, fewer_by b n (length bs) (present_from (n + 1) bs) (fewer (n + 1) bs))

pub none_yet : (n m : ℕ) → present_from n (replicate m false) ≡ []
none_yet n zero = refl
none_yet n (suc m) = none_yet (n + 1) m

module _ (P : ℕ → Type 0) where
  rest_of : (b : Bool) (n : ℕ) (es : List ℕ) → Every P (if b then n ∷ es else es) → Every P es
  rest_of true n es h = h.1
  rest_of false n es h = h

  with_first : (b : Bool) (n : ℕ) (es : List ℕ) → P n → Every P es → Every P (if b then n ∷ es else es)
  with_first true n es p h = (p, h)
  with_first false n es p h = h

  other_rest : (b : Bool) (n : ℕ) (es fs : List ℕ) → Every P (if b then n ∷ es else es) → Every P fs → Every P (if b then n ∷ fs else fs)
  other_rest true n es fs h k = (h.0, k)
  other_rest false n es fs h k = k

  each_set : (n i : ℕ) (b : Bool) (bs : List Bool) → P (n + i) → Every P (present_from n bs) → Every P (present_from n (set bs i b))
  each_set n i b [] p h = h
  each_set n zero b (c ∷ bs) p h = with_first b n (present_from (n + 1) bs) (subst P (add-nothing n) p) (rest_of c n (present_from (n + 1) bs) h) where
    add-nothing : (n : ℕ) → n + 0 ≡ n
    add-nothing n = omega arith
  each_set n (suc i) b (c ∷ bs) p h = other_rest c n (present_from (n + 1) bs) (present_from (n + 1) (set bs i b)) h (each_set (n + 1) i b bs (subst P (further n i) p) (rest_of c n (present_from (n + 1) bs) h)) where
    further : (n i : ℕ) → n + suc i ≡ n + 1 + i
    further n i = omega arith

  -- what holds of the present edges and of those that come or go holds afterwards
  pub each_changed : (present : List Bool) (cs : List (EdgeNo × Bool)) → Every (λ c. P c.0.0) cs → Every P (present_edges present) → Every P (present_edges (changed present cs))
  each_changed present [] h k = k
  each_changed present (c ∷ cs) h k = each_changed (turned present c) cs h.1 (each_set 0 c.0.0 c.1 present (subst P (nothing-add c.0.0) h.0) k) where
    nothing-add : (n : ℕ) → n ≡ 0 + n
    nothing-add n = omega arith

-- ---- entries

module _ (g : GraphData) (places : List ℕ) (sum : Option ℕ) where
  abbrev of_edge : ℕ → List (((ℕ × ℕ) × Part) × ℕ)
  of_edge e = edge_entries g places sum e

  abbrev of_all : List ℕ → List (((ℕ × ℕ) × Part) × ℕ)
  of_all es = entries_of g places sum es

  module _ (f : (ℕ × ℕ) × Part → ℕ) where
    with_rest : (b : Bool) (n m : ℕ) (es fs : List ℕ) → total f (of_all es) ≡ total f (of_all fs) + m → total f (of_all (if b then n ∷ es else es)) ≡ total f (of_all (if b then n ∷ fs else fs)) + m
    with_rest true n m es fs h = total-append f (of_edge n) (of_all es) ∙ regroup (total f (of_edge n)) (total f (of_all es)) (total f (of_all fs)) m h ∙ ap (λ v. v + m) (sym (total-append f (of_edge n) (of_all fs))) where
      regroup : (a b c m : ℕ) → b ≡ c + m → a + b ≡ a + c + m
      regroup a b c m h = omega (arith, h)
    with_rest false n m es fs h = h

    -- with an edge there is just what it adds
    with_edge : (n i : ℕ) (bs : List Bool) → i < length bs → total f (of_all (present_from n (set bs i true))) ≡ total f (of_all (present_from n (set bs i false))) + total f (of_edge (n + i))
    with_edge n i [] h = absurd (omega arith)
    with_edge n zero (b ∷ bs) h = total-append f (of_edge n) (of_all (present_from (n + 1) bs)) ∙ turned_round (total f (of_edge n)) (total f (of_all (present_from (n + 1) bs))) ∙ ap (λ v. total f (of_all (present_from (n + 1) bs)) + total f (of_edge v)) (add-nothing n) where
      turned_round : (a b : ℕ) → a + b ≡ b + a
      turned_round a b = omega arith

      add-nothing : (n : ℕ) → n ≡ n + 0
      add-nothing n = omega arith
    with_edge n (suc i) (b ∷ bs) h = with_rest b n (total f (of_edge (n + suc i))) (present_from (n + 1) (set bs i true)) (present_from (n + 1) (set bs i false)) (with_edge (n + 1) i bs (omega (arith, h)) ∙ ap (λ v. total f (of_all (present_from (n + 1) (set bs i false))) + total f (of_edge v)) (further n i)) where
      further : (n i : ℕ) → n + 1 + i ≡ n + suc i
      further n i = omega arith

  gone : (a b x y : ℕ) → a ≡ b + x → (x + y) % 2 ^ 64 ≡ 0 → b % 2 ^ 64 ≡ (a + y) % 2 ^ 64
  gone a b x y h k = omega (arith, h, k)

  one_change : (present : List Bool) (e : ℕ) (comes : Bool) → e < length present → get_or present e comes ≡ not comes → Alike (of_all (present_edges (set present e comes))) (of_all (present_edges present) ++ signed_entries comes (of_edge e))
  one_change present e true low h =
      let as_it_was : set present e false ≡ present = ap (set present e) (sym h) ∙ set-get_or present e true in
      rw (signed_true (of_edge e)) (record { totals = λ f. ap (λ v. v % 2 ^ 64) (with_edge f 0 e present low ∙ ap (λ v. total f (of_all (present_edges v)) + total f (of_edge (0 + e))) as_it_was ∙ ap (λ v. total f (of_all (present_edges present)) + total f (of_edge v)) (nothing-add e) ∙ sym (total-append f (of_all (present_edges present)) (of_edge e))) }) where
        nothing-add : (n : ℕ) → 0 + n ≡ n
        nothing-add n = omega arith
  one_change present e false low h =
      let as_it_was : set present e true ≡ present = ap (set present e) (sym h) ∙ set-get_or present e false in
      rw (signed_false (of_edge e)) (record { totals = λ f. gone (total f (of_all (present_edges present))) (total f (of_all (present_edges (set present e false)))) (total f (of_edge e)) (total f (negated (of_edge e))) (ap (λ v. total f (of_all (present_edges v))) (sym as_it_was) ∙ with_edge f 0 e present low ∙ ap (λ v. total f (of_all (present_edges (set present e false))) + total f (of_edge v)) (nothing-add e)) (negated-total f (of_edge e)) ∙ ap (λ v. v % 2 ^ 64) (sym (total-append f (of_all (present_edges present)) (negated (of_edge e)))) }) where
        nothing-add : (n : ℕ) → 0 + n ≡ n
        nothing-add n = omega arith

  -- the entries of the edges that are present after the changes are those before and the changes'
  pub all_changes : (present : List Bool) (cs : List (EdgeNo × Bool)) → AreChanges present cs → Alike (of_all (present_edges (changed present cs))) (of_all (present_edges present) ++ change_entries g places sum cs)
  all_changes present [] h = Alike-is (sym (append-nil (of_all (present_edges present))))
  all_changes present (c ∷ cs) h =
      let first : Alike (of_all (present_edges (turned present c))) (of_all (present_edges present) ++ signed_entries c.1 (of_edge c.0.0)) = one_change present c.0.0 c.1 h.0 h.1 in
      Alike-trans (all_changes (turned present c) cs h.2) (Alike-trans (Alike-append first (Alike-refl (change_entries g places sum cs))) (Alike-is (append_assoc (of_all (present_edges present)) (signed_entries c.1 (of_edge c.0.0)) (change_entries g places sum cs))))
