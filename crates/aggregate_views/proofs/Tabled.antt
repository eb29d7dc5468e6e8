-- Weights that are summed in a table.
use Rattle.std.specs.Prelude.{◌≡◌, ℕ, ◌+◌, ◌*◌, ◌%◌, ◌^◌, ◌<◌, ◌≤◌, Bool, true, false, List, [], ◌∷◌, ◌++◌, length, get_or, set, drop, replicate, if◌then◌else◌, Option, None, Some, refl}
use Rattle.std.proofs.Common.{arith, ap, sym, subst, ◌∙◌, zero, suc}
use Rattle.std.proofs.Math.Nat.{mul-le-mul_left}
use Rattle.std.proofs.lemmas.Nat.{div-mul-add, mod-mul-add}
use Rattle.weighted.specs.Words.{minus}
use Rattle.weighted.specs.WordLaws.{total, cong_add, cong_mul}
use Rattle.weighted.specs.Alike.{Alike, Alike-is, Alike-trans, total-append}
use Rattle.graph_model.specs.GraphData.{GraphData, ends_of}
use Rattle.graph_model.specs.declared.number.EdgeNo.{EdgeNo}
use Rattle.aggregate_views.specs.declared.part.Part.{Part}
use Rattle.aggregate_views.specs.declared.part.Part.TheVariants.{Count, Low, High}
use Rattle.aggregate_views.specs.declared.table.PartWeights.{PartWeights}
use Rattle.aggregate_views.specs.Coding.{change_entries, code_pair, edge_entries, signed_entries}
use Rattle.aggregate_views.specs.Tables.{edge_weights, no_weights, pair_entries, pair_of, table_entries, weights_with}
use Rattle.aggregate_views.proofs.Walks.{front}

-- ---- places

pub place_low : (a b g : ℕ) → a < g → b < g → a * g + b < g * g
place_low a b g p q =
    let up : a + 1 ≤ g = omega (arith, p) in
    omega (arith, q, mul-le-mul_left g up)

pub pair_at_place : (a b g : ℕ) → b < g → pair_of g (a * g + b) ≡ (a, b)
pair_at_place a b g q = ap (λ v. (v, (a * g + b) % g)) (div-mul-add a g b q) ∙ ap (λ v. (a, v)) (mod-mul-add a g b q)

-- ---- sums

once : (n : ℕ) → n % 2 ^ 64 % 2 ^ 64 ≡ n % 2 ^ 64
once n = omega arith

apart : (a b c x y z s t u : ℕ) → a * (x + s) + (b * (y + t) + (c * (z + u) + 0)) ≡ (a * x + (b * y + (c * z + 0))) + (a * s + (b * t + (c * u + 0)))
apart a b c x y z s t u = omega arith

three : (a b c x y z s t u : ℕ) → (a * ((x + s) % 2 ^ 64) + (b * ((y + t) % 2 ^ 64) + (c * ((z + u) % 2 ^ 64) + 0))) % 2 ^ 64 ≡ ((a * x + (b * y + (c * z + 0))) + (a * s + (b * t + (c * u + 0)))) % 2 ^ 64
three a b c x y z s t u =
    cong_add (a * ((x + s) % 2 ^ 64)) (a * (x + s)) (b * ((y + t) % 2 ^ 64) + (c * ((z + u) % 2 ^ 64) + 0)) (b * (y + t) + (c * (z + u) + 0)) (cong_mul a ((x + s) % 2 ^ 64) (x + s) (once (x + s)))
    (cong_add (b * ((y + t) % 2 ^ 64)) (b * (y + t)) (c * ((z + u) % 2 ^ 64) + 0) (c * (z + u) + 0) (cong_mul b ((y + t) % 2 ^ 64) (y + t) (once (y + t)))
    (cong_add (c * ((z + u) % 2 ^ 64)) (c * (z + u)) 0 0 (cong_mul c ((z + u) % 2 ^ 64) (z + u) (once (z + u))) refl))
    ∙ ap (λ n. n % 2 ^ 64) (apart a b c x y z s t u)

abbrev signed : Bool → ℕ → ℕ
signed comes n = if comes then n else minus n

abbrev signed_weights : Bool → PartWeights → PartWeights
signed_weights comes v = record { count = signed comes v.count; low = signed comes v.low; high = signed comes v.high }

module _ (f : (ℕ × ℕ) × Part → ℕ) where
  abbrev of_pair : ℕ × ℕ → PartWeights → ℕ
  of_pair p w = total f (pair_entries p w)

  abbrev of_table : ℕ → ℕ → List PartWeights → ℕ
  of_table groups n ws = total f (table_entries groups n ws)

  first_apart : (groups n : ℕ) (w : PartWeights) (ws : List PartWeights) → of_table groups n (w ∷ ws) ≡ of_pair (pair_of groups n) w + of_table groups (n + 1) ws
  first_apart groups n w ws = total-append f (pair_entries (pair_of groups n) w) (table_entries groups (n + 1) ws)

  crossed : (a b r x y : ℕ) → x ≡ a + r → y ≡ b + r → x + b ≡ y + a
  crossed a b r x y p q = omega (arith, p, q)

  beside : (a x y r s u v : ℕ) → u ≡ a + x → v ≡ a + y → x + r ≡ y + s → u + r ≡ v + s
  beside a x y r s u v p q h = omega (arith, p, q, h)

  no_further : (n : ℕ) → n ≡ n + 0
  no_further n = omega arith

  further : (n i : ℕ) → n + 1 + i ≡ n + suc i
  further n i = omega arith

  -- other weights at a place
  replaced : (groups n i : ℕ) (ws : List PartWeights) (w d : PartWeights) → i < length ws → of_table groups n (set ws i w) + of_pair (pair_of groups (n + i)) (get_or ws i d) ≡ of_table groups n ws + of_pair (pair_of groups (n + i)) w
  replaced groups n i [] w d low = absurd (omega arith)
  replaced groups n zero (v ∷ vs) w d low =
      let here : of_table groups n (w ∷ vs) + of_pair (pair_of groups n) v ≡ of_table groups n (v ∷ vs) + of_pair (pair_of groups n) w = crossed (of_pair (pair_of groups n) w) (of_pair (pair_of groups n) v) (of_table groups (n + 1) vs) (of_table groups n (w ∷ vs)) (of_table groups n (v ∷ vs)) (first_apart groups n w vs) (first_apart groups n v vs) in
      subst (λ m. of_table groups n (w ∷ vs) + of_pair (pair_of groups m) v ≡ of_table groups n (v ∷ vs) + of_pair (pair_of groups m) w) (no_further n) here
  replaced groups n (suc i) (v ∷ vs) w d low =
      let there : of_table groups (n + 1) (set vs i w) + of_pair (pair_of groups (n + suc i)) (get_or vs i d) ≡ of_table groups (n + 1) vs + of_pair (pair_of groups (n + suc i)) w = subst (λ m. of_table groups (n + 1) (set vs i w) + of_pair (pair_of groups m) (get_or vs i d) ≡ of_table groups (n + 1) vs + of_pair (pair_of groups m) w) (further n i) (replaced groups (n + 1) i vs w d (omega (arith, low))) in
      beside (of_pair (pair_of groups n) v) (of_table groups (n + 1) (set vs i w)) (of_table groups (n + 1) vs) (of_pair (pair_of groups (n + suc i)) (get_or vs i d)) (of_pair (pair_of groups (n + suc i)) w) (of_table groups n (v ∷ set vs i w)) (of_table groups n (v ∷ vs)) (first_apart groups n v (set vs i w)) (first_apart groups n v vs) there

  empty_total : (groups n m : ℕ) → of_table groups n (replicate m no_weights) ≡ 0
  empty_total groups n zero = refl
  empty_total groups n (suc m) = first_apart groups n no_weights (replicate m no_weights) ∙ nothing (f (pair_of groups n, Count)) (f (pair_of groups n, Low)) (f (pair_of groups n, High)) (of_table groups (n + 1) (replicate m no_weights)) (empty_total groups (n + 1) m) where
    nothing : (a b c r : ℕ) → r ≡ 0 → (a * 0 + (b * 0 + (c * 0 + 0))) + r ≡ 0
    nothing a b c r h = omega (arith, h)

  -- what an edge adds
  edge_total : (g : GraphData) (places : List ℕ) (sum : Option ℕ) (e : ℕ) (comes : Bool) → of_pair (code_pair g places e) (signed_weights comes (edge_weights g sum e)) ≡ total f (signed_entries comes (edge_entries g places sum e))
  edge_total g places None e true = omega arith
  edge_total g places None e false = omega arith
  edge_total g places (Some column) e comes = refl

  moved : (t s g n k : ℕ) → t + g ≡ s + n → n % 2 ^ 64 ≡ (g + k) % 2 ^ 64 → t % 2 ^ 64 ≡ (s + k) % 2 ^ 64
  moved t s g n k p q = omega (arith, p, q)

  one_edge : (groups i : ℕ) (ws : List PartWeights) (d : PartWeights) (g : GraphData) (places : List ℕ) (sum : Option ℕ) (e : ℕ) (comes : Bool) → i < length ws → pair_of groups i ≡ code_pair g places e → of_table groups 0 (set ws i (weights_with (get_or ws i d) comes (edge_weights g sum e))) % 2 ^ 64 ≡ (of_table groups 0 ws + total f (signed_entries comes (edge_entries g places sum e))) % 2 ^ 64
  one_edge groups i ws d g places sum e comes low is =
      let old : PartWeights = get_or ws i d in
      let edge : PartWeights = edge_weights g sum e in
      let next : PartWeights = weights_with old comes edge in
      let p : ℕ × ℕ = code_pair g places e in
      let swap : of_table groups 0 (set ws i next) + of_pair p old ≡ of_table groups 0 ws + of_pair p next = subst (λ q. of_table groups 0 (set ws i next) + of_pair q old ≡ of_table groups 0 ws + of_pair q next) is (subst (λ m. of_table groups 0 (set ws i next) + of_pair (pair_of groups m) old ≡ of_table groups 0 ws + of_pair (pair_of groups m) next) (none i) (replaced groups 0 i ws next d low)) in
      let sums : of_pair p next % 2 ^ 64 ≡ (of_pair p old + of_pair p (signed_weights comes edge)) % 2 ^ 64 = three (f (p, Count)) (f (p, Low)) (f (p, High)) old.count old.low old.high (signed comes edge.count) (signed comes edge.low) (signed comes edge.high) in
      moved (of_table groups 0 (set ws i next)) (of_table groups 0 ws) (of_pair p old) (of_pair p next) (of_pair p (signed_weights comes edge)) swap sums ∙ ap (λ n. (of_table groups 0 ws + n) % 2 ^ 64) (edge_total g places sum e comes) where
        none : (i : ℕ) → 0 + i ≡ i
        none i = omega arith

-- nothing yet
pub empty_table : (groups m : ℕ) (rest : List (((ℕ × ℕ) × Part) × ℕ)) → Alike (table_entries groups 0 (replicate m no_weights) ++ rest) rest
empty_table groups m rest = record { totals = λ f. ap (λ n. n % 2 ^ 64) (total-append f (table_entries groups 0 (replicate m no_weights)) rest ∙ ap (λ n. n + total f rest) (empty_total f groups 0 m) ∙ none (total f rest)) } where
  none : (n : ℕ) → 0 + n ≡ n
  none n = omega arith

-- an edge in the table in place of its entries
pub table_edge : (groups i : ℕ) (ws : List PartWeights) (d : PartWeights) (g : GraphData) (places : List ℕ) (sum : Option ℕ) (e : ℕ) (comes : Bool) (rest : List (((ℕ × ℕ) × Part) × ℕ)) → i < length ws → pair_of groups i ≡ code_pair g places e → Alike (table_entries groups 0 (set ws i (weights_with (get_or ws i d) comes (edge_weights g sum e))) ++ rest) (table_entries groups 0 ws ++ (signed_entries comes (edge_entries g places sum e) ++ rest))
table_edge groups i ws d g places sum e comes rest low is = record {
  totals = λ f.
      ap (λ n. n % 2 ^ 64) (total-append f (table_entries groups 0 (set ws i (weights_with (get_or ws i d) comes (edge_weights g sum e)))) rest)
      ∙ cong_add (of_table f groups 0 (set ws i (weights_with (get_or ws i d) comes (edge_weights g sum e)))) (of_table f groups 0 ws + total f (signed_entries comes (edge_entries g places sum e))) (total f rest) (total f rest) (one_edge f groups i ws d g places sum e comes low is) refl
      ∙ ap (λ n. n % 2 ^ 64) (grouped (of_table f groups 0 ws) (total f (signed_entries comes (edge_entries g places sum e))) (total f rest) ∙ ap (λ n. of_table f groups 0 ws + n) (sym (total-append f (signed_entries comes (edge_entries g places sum e)) rest)) ∙ sym (total-append f (table_entries groups 0 ws) (signed_entries comes (edge_entries g places sum e) ++ rest)));
} where
  grouped : (a b c : ℕ) → (a + b) + c ≡ a + (b + c)
  grouped a b c = omega arith

-- ---- one change

module _ (g : GraphData) (places : List ℕ) (groups : ℕ) (low : (n : ℕ) → n < length g.ids → get_or places n 0 < groups) (e : ℕ) (from : (ends_of g e).0.0 < length g.ids) (to : (ends_of g e).1.0 < length g.ids) (p : ℕ × ℕ) (is : p ≡ code_pair g places e) where
  source_low : p.0 < groups
  source_low = subst (λ q. q.0 < groups) (sym is) (low (ends_of g e).0.0 from)

  target_low : p.1 < groups
  target_low = subst (λ q. q.1 < groups) (sym is) (low (ends_of g e).1.0 to)

  -- the pair of an edge has a place in the table
  pub place_in_table : p.0 * groups + p.1 < groups * groups
  place_in_table = place_low p.0 p.1 groups source_low target_low

  pub place_is : pair_of groups (p.0 * groups + p.1) ≡ code_pair g places e
  place_is = pair_at_place p.0 p.1 groups target_low ∙ is

-- the entries of the changes that are left, with what is in the table
pub one_change_less : (groups i place : ℕ) (table : List PartWeights) (d old edge next : PartWeights) (changes : List (EdgeNo × Bool)) (x y : EdgeNo × Bool) (g : GraphData) (places : List ℕ) (sum : Option ℕ) (all : List (((ℕ × ℕ) × Part) × ℕ)) → i < length changes → x ≡ get_or changes i y → place < length table → pair_of groups place ≡ code_pair g places x.0.0 → old ≡ get_or table place d → edge ≡ edge_weights g sum x.0.0 → next ≡ weights_with old x.1 edge → Alike (table_entries groups 0 table ++ change_entries g places sum (drop i changes)) all → Alike (table_entries groups 0 (set table place next) ++ change_entries g places sum (drop (i + 1) changes)) all
one_change_less groups i place table d old edge next changes x y g places sum all low is within pair was weighs now h =
    let rest : List (((ℕ × ℕ) × Part) × ℕ) = change_entries g places sum (drop (i + 1) changes) in
    let new : next ≡ weights_with (get_or table place d) x.1 (edge_weights g sum x.0.0) = now ∙ ap (λ v. weights_with v x.1 edge) was ∙ ap (λ v. weights_with (get_or table place d) x.1 v) weighs in
    let left : change_entries g places sum (drop i changes) ≡ signed_entries x.1 (edge_entries g places sum x.0.0) ++ rest = ap (change_entries g places sum) (front changes i x y low is) in
    Alike-trans (Alike-is (ap (λ v. table_entries groups 0 (set table place v) ++ rest) new)) (Alike-trans (table_edge groups place table d g places sum x.0.0 x.1 rest within pair) (Alike-trans (Alike-is (ap (λ v. table_entries groups 0 table ++ v) (sym left))) h))
