-- Whether two inputs are one, by their values and their messages, and whether they are in some round.
use Rattle.std.proofs.Common.{◌≡◌, ◌∙◌, ◌+◌, ◌<◌, ◌≤◌, ◌++◌, ◌∷◌, [], sym, ap, ap₂, refl, ℕ, zero, suc, Bool, true, false, List, cond, length, get_or, map, arith, inl, inr}
use Rattle.std.specs.Prelude.{◌&&◌, ◌||◌, not, if◌then◌else◌}
use Rattle.std.specs.Cmp.{both_ways}
use Rattle.std.specs.Cmp.Derive.{both_true}
use Rattle.std.specs.List.{count_by, list_any, range_with_len}
use Rattle.std.proofs.lemmas.Bool.{and_parts, cases_lt}
use Rattle.std.proofs.lemmas.List.{get_or-map, length-map}
use Rattle.std.proofs.lemmas.List.Folds.{list_any_at}
use Rattle.std.proofs.lemmas.List.FromFn.{map-range_with_len_more}
use Rattle.std.proofs.lemmas.List.Sums.{sum_by_push}
use Rattle.graph_model.specs.declared.number.ViewNo.{ViewNo}
use Rattle.graph_model.specs.declared.value.Val.{Val}
use Rattle.graph_model.specs.GraphData.{GraphData}
use Rattle.vertex_lang.specs.declared.arc.Arc.{Arc}
use Rattle.vertex_lang.specs.declared.program.Program.{Program}
use Rattle.vertex_lang.specs.Expressions.{Answer, start_of}
use Rattle.vertex_lang.specs.GatherLaws.{values-exact}
use Rattle.vertex_lang.specs.Lone.{same_value}
use Rattle.vertex_lang.specs.Rounds.{lone, value_at}
use Rattle.multisets.specs.Multisets.{AreOne, IsExact, are_one, often}
use Rattle.multisets.specs.CountLaws.{one-told, one-tells}
use Rattle.multisets.specs.OrderLaws.{one-permuted, permuted-one}
use Rattle.lone_work.specs.InputLaws.{items-exact, items-one, messages-one, own-one}
use Rattle.lone_work.specs.Inputs.{got_values, input}
use Rattle.lone_work.specs.Items.{Item, same_item}
use Rattle.view_order.specs.Greedy.{numbers}
use Rattle.view_versions.specs.Touched.{differs}

-- ---- the code's test of values

module _ {eq : Val → Val → Bool} (matches : (x y : Val) → eq x y ≡ same_value x y) where
  exact : IsExact eq
  exact = record {
    itself = λ x. matches x x ∙ values-exact.itself x;
    one = λ x y e. values-exact.one x y (sym (matches x y) ∙ e);
  }

  pub one-by : (xs ys : List Val) → are_one eq xs ys ≡ are_one same_value xs ys
  one-by xs ys = both_ways (are_one eq xs ys) (are_one same_value xs ys)
      (λ e. one-tells same_value xs ys (permuted-one same_value xs ys (one-permuted eq exact xs ys (one-told eq exact xs ys e))))
      (λ e. one-tells eq xs ys (permuted-one eq xs ys (one-permuted same_value values-exact xs ys (one-told same_value values-exact xs ys e))))

pub not-not : (b o : Bool) → o ≡ not b → not o ≡ b
not-not true o e = ap not e
not-not false o e = ap not e

-- ---- two inputs

module _ (answer : Answer) (p : Program) (graph : GraphData) (new old : List Arc) (v r : ℕ) where
  pub inputs-are : (own got : Bool) → own ≡ same_value (value_at (lone answer p graph new r) v) (value_at (lone answer p graph old r) v) → got ≡ are_one same_value (got_values answer p graph new v r) (got_values answer p graph old v r)
      → (own && got) ≡ are_one same_item (input answer p graph new v r) (input answer p graph old v r)
  inputs-are own got eo eg =
      let s = start_of p graph v in
      let a = value_at (lone answer p graph new r) v in
      let b = value_at (lone answer p graph old r) v in
      let ms = got_values answer p graph new v r in
      let ns = got_values answer p graph old v r in
      let f = input answer p graph new v r in
      let g = input answer p graph old v r in
      ap₂ (λ (x y : Bool). x && y) eo eg
      ∙ both_ways (same_value a b && are_one same_value ms ns) (are_one same_item f g)
      (λ e.
      let parts = and_parts (same_value a b) (are_one same_value ms ns) e in
      let one : AreOne same_value ms ns = one-told same_value values-exact ms ns parts.1 in
      one-tells same_item f g (record { counts = λ x. items-one s a ms ns one x ∙ ap (λ (w : Val). often same_item x (Item.start s ∷ Item.own w ∷ map Item.message ns)) (values-exact.one a b parts.0) }))
      (λ e.
      let one : AreOne same_item f g = one-told same_item items-exact f g e in
      both_true (ap (λ (w : Val). same_value a w) (sym (own-one s a s b ms ns one)) ∙ values-exact.itself a) (one-tells same_value ms ns (messages-one s a s b ms ns one)))

-- ---- rounds

or-true : (a b : Bool) → b ≡ true → (a || b) ≡ true
or-true true b e = refl
or-true false b e = e

or-first : (a b : Bool) → a ≡ true → (a || b) ≡ true
or-first true b e = refl
or-first false b e = absurd cc

module _ (new old : ℕ → List Item) where
  differs-later : (n m : ℕ) → differs new old n ≡ true → n ≤ m → differs new old m ≡ true
  differs-later n zero e low = let same : n ≡ 0 = omega arith in ap (λ k. differs new old k) (sym same) ∙ e
  differs-later n (suc m) e low = elim (cases_lt m n) [
    | inl past ↦ let same : n ≡ suc m = omega arith in ap (λ k. differs new old k) (sym same) ∙ e
    | inr before ↦ or-first (differs new old m) (not (are_one same_item (new m) (old m))) (differs-later n m e before)
  ]

  pub differs-here : (r n : ℕ) (b : Bool) → b ≡ are_one same_item (new r) (old r) → b ≡ false → r < n → true ≡ differs new old n
  differs-here r n b is apart low = sym (differs-later (suc r) n (or-true (differs new old r) (not (are_one same_item (new r) (old r))) (ap not (sym is ∙ apart))) (omega arith))

-- ---- views and nodes

module _ (test : ℕ → Bool) where
  pub one-found : (views : List ViewNo) (i : ℕ) (d : ViewNo) (b : Bool) → i < length views → b ≡ test (get_or views i d).0 → b ≡ true → true ≡ list_any test (numbers views)
  one-found views i d b low is found =
      sym (list_any_at test (numbers views) i d.0 (omega (arith, low, length-map views (λ (v : ViewNo). v.0))) (ap test (get_or-map (λ (v : ViewNo). v.0) views i d d.0 low) ∙ sym is ∙ found))

map-same : (xs : List ℕ) → map (λ (x : ℕ). x) xs ≡ xs
map-same [] = refl
map-same (x ∷ xs) = ap (λ (ys : List ℕ). x ∷ ys) (map-same xs)

range-more : (n : ℕ) → range_with_len 0 (n + 1) ≡ range_with_len 0 n ++ n ∷ []
range-more n = sym (map-same (range_with_len 0 (n + 1))) ∙ map-range_with_len_more (λ (x : ℕ). x) 0 n n (omega arith) ∙ ap (λ (ys : List ℕ). ys ++ n ∷ []) (map-same (range_with_len 0 n))

-- one more node
pub count-next : (f : ℕ → Bool) (n count one : ℕ) (b : Bool) → count ≡ count_by f (range_with_len 0 n) → b ≡ f n → one ≡ (if b then 1 else 0) → count + one ≡ count_by f (range_with_len 0 (n + 1))
count-next f n count one b e g h = omega (arith, e, h ∙ ap (λ (t : Bool). if t then 1 else 0) g, ap (λ (ys : List ℕ). count_by f ys) (range-more n) ∙ sum_by_push (λ k. cond (f k) 1 0) (range_with_len 0 n) n)

pub at-most-one : (b : Bool) (one : ℕ) → one ≡ (if b then 1 else 0) → one ≤ 1
at-most-one true one e = omega (arith, e)
at-most-one false one e = omega (arith, e)
