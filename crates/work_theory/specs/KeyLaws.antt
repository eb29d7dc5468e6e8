-- One key: in a lap it is evaluated exactly in the rounds in which its node is counted.
use Rattle.std.specs.Prelude.{◌≡◌, ◌≢◌, ℕ, zero, suc, ◌+◌, ◌%◌, ◌^◌, ◌<◌, ◌≤◌, ◌||◌, ◌&&◌, ◌⊎◌, nat_le, Bool, true, false, IsTrue, List, [], ◌∷◌, ◌++◌, length, if◌then◌else◌, refl}
use Rattle.std.specs.declared.cmp.Ordering.{Ordering}
use Rattle.std.specs.declared.cmp.Ordering.TheVariants.{Equal}
use Rattle.std.specs.Cmp.{both_ways}
use Rattle.std.proofs.Common.{arith, ap, sym, subst, ◌∙◌, inl, inr}
use Rattle.std.proofs.lemmas.Bool.Decides.{nat_tests}
use Rattle.lattice_time.specs.declared.pair.Pair.{Pair}
use Rattle.lattice_time.specs.declared.round.Round.{Round}
use Rattle.lattice_time.specs.Lattice.{IsLattice}
use Rattle.lattice_time.specs.LatticeLaws.{and_first, and_second, and_both}
use Rattle.weighted.specs.Words.{sum_at, word}
use Rattle.weighted.specs.WordLaws.{sum_at-append}
use Rattle.flow_core.specs.Runs.{Step, Member, fed_to}
use Rattle.flow_core.specs.RunLaws.{fed_to-append}
use Rattle.reduce_theory.specs.Evaluated.{read_at, marks, new_marks, old_marks, is_evaluated}
use Rattle.reduce_theory.specs.Keys.{IsPoint}
use Rattle.reduce_theory.specs.MarkLaws.{IsOldMark, old_mark_in, mark_old, mark_new, mark_either, evaluated-lub, lub-evaluated}
use Rattle.loop_theory.specs.Loops.{pair_leq, pair_lub, pair_of}
use Rattle.multisets.specs.Multisets.{often, AreOne, DoCancel}
use Rattle.lone_work.specs.Items.{Item, same_item}
use Rattle.lone_work.specs.Work.{previous, is_active, is_touched, is_marked, is_counted}
use Rattle.work_theory.specs.Once.{IsNaming}
use Rattle.work_theory.specs.Laps.{Turn, lap_steps, fed_in, OuterBelow}
use Rattle.work_theory.specs.LapLaws.{pairs_lattice, fed_through, lap_fed, through_more, through_first, read_sum, old_more, old_first, old_seen}
use Rattle.work_theory.specs.MarkLaws.{InRound, FedIn, mark_out, new_out, new_in}
use Rattle.work_theory.specs.CountedLaws.{ActiveIn, Changes, true_or_false, often-length, active-differs, active-or, touched_out, touched_in, true_or, marked-changes, marked-or}

-- ---- words

law_zero : (f o s n w : ℕ) → s ≡ f → (o + s) % 2 ^ 64 ≡ n % 2 ^ 64 → o % 2 ^ 64 ≡ w % 2 ^ 64 → (f + (w + 0)) % 2 ^ 64 ≡ (n + 0) % 2 ^ 64
law_zero f o s n w e a b = omega arith

law_next : (f o o' s n n' w w' : ℕ) → (o' + (s + f)) % 2 ^ 64 ≡ n' % 2 ^ 64 → (o + s) % 2 ^ 64 ≡ n % 2 ^ 64 → o % 2 ^ 64 ≡ w % 2 ^ 64 → o' % 2 ^ 64 ≡ w' % 2 ^ 64 → (f + (w' + n)) % 2 ^ 64 ≡ (n' + w) % 2 ^ 64
law_next f o o' s n n' w w' a b c d = omega arith

-- a feed of zero: the two sides are one, where they are small
zero_same : (f a b : ℕ) → (f + a) % 2 ^ 64 ≡ b % 2 ^ 64 → a < 2 ^ 64 → b < 2 ^ 64 → f % 2 ^ 64 ≡ 0 → b ≡ a
zero_same f a b h p q e = omega arith

same_zero : (f a b : ℕ) → (f + a) % 2 ^ 64 ≡ b % 2 ^ 64 → b ≡ a → f % 2 ^ 64 ≡ 0
same_zero f a b h e = omega arith

law_change : (w w' o o' n : ℕ) → o' ≡ o + n → o % 2 ^ 64 ≡ w % 2 ^ 64 → o' % 2 ^ 64 ≡ w' % 2 ^ 64 → (n + w) % 2 ^ 64 ≡ w' % 2 ^ 64
law_change w w' o o' n e a b = omega arith

law_first : (o n w : ℕ) → o ≡ n → o % 2 ^ 64 ≡ w % 2 ^ 64 → (n + 0) % 2 ^ 64 ≡ w % 2 ^ 64
law_first o n w e a = omega arith

two_small : (a b m n : ℕ) → a ≤ m → b ≤ n → m < 2 ^ 62 → n < 2 ^ 62 → a + b < 2 ^ 64
two_small a b m n h k p q = omega arith

below_num : (m n : ℕ) → IsTrue (nat_le m n) → m ≤ n
below_num m n h = grind (arith, nat_tests)

num_below : (m n : ℕ) → m ≤ n → IsTrue (nat_le m n)
num_below m n h = grind (arith, nat_tests)

zero_plus : (n : ℕ) → 0 + n ≡ n
zero_plus n = omega arith

zero_or_more : (n : ℕ) → (n ≡ 0) ⊎ ((q : ℕ) × (n ≡ suc q))
zero_or_more zero = inl refl
zero_or_more (suc q) = inr (q, refl)

-- what one key was fed, before the seal at p and in the rounds up to r of a lap at t, and the items of its node
pub record KeyLap {T V O : Type 0} (leq : T → T → Bool) (vcmp : V → V → Ordering) (of : Item → V) (p t : T) (before : List (Step (Pair T Round) V O)) (lap : List (Turn V O)) (new old : ℕ → List Item) (r : ℕ) : Type 0 where
  pub below : OuterBelow leq p before
  pub up : IsTrue (leq p t)
  pub was : (k : ℕ) → k ≤ r → (i : Item) → sum_at vcmp (fed_to (pair_leq leq) before (pair_of p k)) (of i) % 2 ^ 64 ≡ often same_item i (old k) % 2 ^ 64
  pub is : (k : ℕ) → k ≤ r → (i : Item) → sum_at vcmp (fed_to (pair_leq leq) (before ++ lap_steps t 0 lap) (pair_of t k)) (of i) % 2 ^ 64 ≡ often same_item i (new k) % 2 ^ 64
  pub full : (k : ℕ) → k ≤ r → ((x : V) → word vcmp (fed_in lap k) x ≡ 0) → fed_in lap k ≡ []
  pub few : (k : ℕ) → (length (new k) < 2 ^ 62) × (length (old k) < 2 ^ 62)

module _ {T V O : Type 0} (leq : T → T → Bool) (lub : T → T → T) (lattice : IsLattice leq lub) (pcmp : Pair T Round → Pair T Round → Ordering) (psame : (x y : Pair T Round) → pcmp x y ≡ Equal → x ≡ y) (pitself : (x : Pair T Round) → pcmp x x ≡ Equal) (vcmp : V → V → Ordering) (vsame : (x y : V) → vcmp x y ≡ Equal → x ≡ y) (of : Item → V) (to : V → Item) (naming : IsNaming of to) (p t : T) (before : List (Step (Pair T Round) V O)) (lap : List (Turn V O)) (new old : ℕ → List Item) (r : ℕ) (key : KeyLap leq vcmp of p t before lap new old r) where
  -- ---- the feed of a round is what makes the node active

  abbrev old_sum : ℕ → Item → ℕ
  old_sum k i = sum_at vcmp (fed_to (pair_leq leq) before (pair_of p k)) (of i)

  now_sum : (k : ℕ) (i : Item) → sum_at vcmp (fed_to (pair_leq leq) (before ++ lap_steps t 0 lap) (pair_of t k)) (of i) ≡ old_sum k i + sum_at vcmp (fed_through lap k) (of i)
  now_sum k i =
      let zero_more : 0 + k ≡ k = omega arith in
      let one : fed_to (pair_leq leq) (lap_steps t 0 lap) (pair_of t k) ≡ fed_through lap k = subst (λ n. fed_to (pair_leq leq) (lap_steps t 0 lap) (pair_of t n) ≡ fed_through lap k) zero_more (lap_fed leq t (lattice.reflexive t) 0 k lap) in
      ap (λ v. sum_at vcmp v (of i)) (fed_to-append (pair_leq leq) before (lap_steps t 0 lap) (pair_of t k))
      ∙ sum_at-append vcmp (fed_to (pair_leq leq) before (pair_of t k)) (fed_to (pair_leq leq) (lap_steps t 0 lap) (pair_of t k)) (of i)
      ∙ ap (λ v. sum_at vcmp v (of i) + sum_at vcmp (fed_to (pair_leq leq) (lap_steps t 0 lap) (pair_of t k)) (of i)) (old_seen leq lub lattice pcmp psame pitself p vcmp t key.up before k key.below)
      ∙ ap (λ v. old_sum k i + sum_at vcmp v (of i)) one

  now_words : (k : ℕ) (i : Item) → k ≤ r → (old_sum k i + sum_at vcmp (fed_through lap k) (of i)) % 2 ^ 64 ≡ often same_item i (new k) % 2 ^ 64
  now_words k i low = ap (λ n. n % 2 ^ 64) (sym (now_sum k i)) ∙ key.is k low i

  feed_law : (k : ℕ) (i : Item) → k ≤ r → (sum_at vcmp (fed_in lap k) (of i) + (often same_item i (old k) + often same_item i (previous new k))) % 2 ^ 64 ≡ (often same_item i (new k) + often same_item i (previous old k)) % 2 ^ 64
  feed_law zero i low = law_zero (sum_at vcmp (fed_in lap 0) (of i)) (old_sum 0 i) (sum_at vcmp (fed_through lap 0) (of i)) (often same_item i (new 0)) (often same_item i (old 0)) (ap (λ v. sum_at vcmp v (of i)) (through_first lap)) (now_words 0 i low) (key.was 0 low i)
  feed_law (suc k) i low =
      let more : sum_at vcmp (fed_through lap (suc k)) (of i) ≡ sum_at vcmp (fed_through lap k) (of i) + sum_at vcmp (fed_in lap (suc k)) (of i) = through_more vcmp lap k (of i) in
      let less : k ≤ r = omega arith in
      law_next (sum_at vcmp (fed_in lap (suc k)) (of i)) (old_sum k i) (old_sum (suc k) i) (sum_at vcmp (fed_through lap k) (of i)) (often same_item i (new k)) (often same_item i (new (suc k))) (often same_item i (old k)) (often same_item i (old (suc k)))
      (subst (λ n. (old_sum (suc k) i + n) % 2 ^ 64 ≡ often same_item i (new (suc k)) % 2 ^ 64) more (now_words (suc k) i low)) (now_words k i less) (key.was k less i) (key.was (suc k) low i)

  previous_few : (f : ℕ → List Item) (k : ℕ) → ((j : ℕ) → length (f j) < 2 ^ 62) → length (previous f k) < 2 ^ 62
  previous_few f zero h = omega arith
  previous_few f (suc k) h = h k

  both_few : (xs ys : List Item) (i : Item) → length xs < 2 ^ 62 → length ys < 2 ^ 62 → often same_item i xs + often same_item i ys < 2 ^ 64
  both_few xs ys i h k = two_small (often same_item i xs) (often same_item i ys) (length xs) (length ys) (often-length same_item i xs) (often-length same_item i ys) h k

  left_few : (k : ℕ) (i : Item) → often same_item i (old k) + often same_item i (previous new k) < 2 ^ 64
  left_few k i = both_few (old k) (previous new k) i (key.few k).1 (previous_few new k (λ j. (key.few j).0))

  right_few : (k : ℕ) (i : Item) → often same_item i (new k) + often same_item i (previous old k) < 2 ^ 64
  right_few k i = both_few (new k) (previous old k) i (key.few k).0 (previous_few old k (λ j. (key.few j).1))

  -- a round in which the node is active was fed
  pub active_fed : (k : ℕ) → k ≤ r → is_active new old k ≡ true → fed_in lap k ≢ []
  active_fed k low h e = active-differs new old k h (record {
    counts = λ i. zero_same (sum_at vcmp (fed_in lap k) (of i)) (often same_item i (old k) + often same_item i (previous new k)) (often same_item i (new k) + often same_item i (previous old k)) (feed_law k i low) (left_few k i) (right_few k i) (ap (λ v. sum_at vcmp v (of i) % 2 ^ 64) e);
  })

  -- a round that was fed is one in which it is active
  pub fed_active : (k : ℕ) → k ≤ r → fed_in lap k ≢ [] → is_active new old k ≡ true
  fed_active k low has = elim (active-or new old k) [
    | inl a ↦ a
    | inr c ↦ absurd (has (key.full k low (λ x. subst (λ y. word vcmp (fed_in lap k) y ≡ 0) (naming.back x) (same_zero (sum_at vcmp (fed_in lap k) (of (to x))) (often same_item (to x) (old k) + often same_item (to x) (previous new k)) (often same_item (to x) (new k) + often same_item (to x) (previous old k)) (feed_law k (to x) low) (c.counts (to x))))))
  ]

  -- ---- old marks are the rounds in which the items of the view before change

  change_law : (k : ℕ) (i : Item) → k ≤ r → (read_sum pcmp lub p vcmp before k (of i) + often same_item i (previous old k)) % 2 ^ 64 ≡ often same_item i (old k) % 2 ^ 64
  change_law zero i low = law_first (old_sum 0 i) (read_sum pcmp lub p vcmp before 0 (of i)) (often same_item i (old 0)) (old_first leq lub lattice pcmp psame pitself p vcmp before (of i) key.below) (key.was 0 low i)
  change_law (suc k) i low =
      let less : k ≤ r = omega arith in
      law_change (often same_item i (old k)) (often same_item i (old (suc k))) (old_sum k i) (old_sum (suc k) i) (read_sum pcmp lub p vcmp before (suc k) (of i)) (old_more leq lub lattice pcmp psame pitself p vcmp before k (of i) key.below) (key.was k less i) (key.was (suc k) low i)

  mark_marked : (k : ℕ) (i : Item) → k ≤ r → read_sum pcmp lub p vcmp before k (of i) % 2 ^ 64 ≢ 0 → is_marked old k ≡ true
  mark_marked k i low h = elim (marked-or old k) [
    | inl a ↦ a
    | inr c ↦ absurd (h (same_zero (read_sum pcmp lub p vcmp before k (of i)) (often same_item i (previous old k)) (often same_item i (old k)) (change_law k i low) (c.counts i)))
  ]

  one_few : (xs : List Item) (i : Item) → length xs < 2 ^ 62 → often same_item i xs < 2 ^ 64
  one_few xs i h = let a : often same_item i xs ≤ length xs = often-length same_item i xs in omega arith

  marked_mark : (k : ℕ) → k ≤ r → is_marked old k ≡ true → Member (pair_of p k) (old_marks (pair_lub lub) pcmp vcmp (pair_of p 0) before)
  marked_mark k low h =
      let c : Changes old k = marked-changes old k h in
      let i : Item = c.at in
      old_mark_in (pair_lub lub) pcmp psame vcmp vsame (pair_of p 0) before (pair_of p k) (record {
        value = of i;
        nonzero = λ z. c.differ (zero_same (read_sum pcmp lub p vcmp before k (of i)) (often same_item i (previous old k)) (often same_item i (old k)) (change_law k i low) (one_few (previous old k) i (previous_few old k (λ j. (key.few j).1))) (one_few (old k) i (key.few k).1) z);
      })

  -- ---- the least upper bound of the marks

  abbrev all : List (Pair T Round)
  all = marks (pair_lub lub) pcmp vcmp (pair_of p 0) before (lap_steps t 0 lap)

  old_member : (k : ℕ) → k ≤ r → is_marked old k ≡ true → Member (pair_of p k) all
  old_member k low h = mark_old (pair_lub lub) pcmp vcmp (pair_of p 0) before (lap_steps t 0 lap) (pair_of p k) (marked_mark k low h)

  fresh_member : (k : ℕ) → fed_in lap k ≢ [] → Member (pair_of t k) (new_marks (lap_steps t 0 lap))
  fresh_member k has = subst (λ n. Member (pair_of t n) (new_marks (lap_steps t 0 lap))) (zero_plus k) (new_in t 0 k lap has)

  new_member : (k : ℕ) → fed_in lap k ≢ [] → Member (pair_of t k) all
  new_member k has = mark_new (pair_lub lub) pcmp vcmp (pair_of p 0) before (lap_steps t 0 lap) (pair_of t k) (fresh_member k has)

  or_true : (a b : Bool) → a || b ≡ true → (a ≡ true) ⊎ (b ≡ true)
  or_true true b h = inl refl
  or_true false b h = inr h

  pub counted_point : is_counted new old r ≡ true → IsPoint (pair_leq leq) (pair_lub lub) pcmp vcmp (pair_of p 0) before (lap_steps t 0 lap) (pair_of t r)
  counted_point h =
      let a : ActiveIn new old r = touched_out new old r (and_first (is_touched new old r) (is_active new old r || is_marked old r) h) in
      let fed : fed_in lap a.round ≢ [] = active_fed a.round a.low a.active in
      let at : pair_leq leq (pair_of t a.round) (pair_of t r) ≡ true = and_both (leq t t) (nat_le a.round r) (lattice.reflexive t) (num_below a.round r a.low) in
      let whole : r ≤ r = omega arith in
      record {
        least = λ z up g.
            let top : IsTrue (leq t z.outer && nat_le a.round z.inner.0) = g (pair_of t a.round) (new_member a.round fed) at in
            and_both (leq t z.outer) (nat_le r z.inner.0) (and_first (leq t z.outer) (nat_le a.round z.inner.0) top) (elim (or_true (is_active new old r) (is_marked old r) (and_second (is_touched new old r) (is_active new old r || is_marked old r) h)) [
              | inl b ↦ and_second (leq t z.outer) (nat_le r z.inner.0) (g (pair_of t r) (new_member r (active_fed r whole b)) (and_both (leq t t) (nat_le r r) (lattice.reflexive t) (num_below r r whole)))
              | inr b ↦ and_second (leq p z.outer) (nat_le r z.inner.0) (g (pair_of p r) (old_member r whole b) (and_both (leq p t) (nat_le r r) key.up (num_below r r whole)))
            ]);
        first = pair_of t a.round;
        is_new = fresh_member a.round fed;
        is_below = at;
      }

  -- where the node is neither active nor marked in round r, a mark at or below (t, r) is at or below an earlier round
  le_less : (m n q : ℕ) → m ≤ n → n ≡ suc q → m ≢ n → m ≤ q
  le_less m n q a b c = omega arith

  not_top : is_active new old r ≡ false → is_marked old r ≡ false → (u : Pair T Round) → Member u all → u.inner.0 ≢ r
  not_top no_active no_mark u m at = elim (mark_either (pair_lub lub) pcmp vcmp (pair_of p 0) before (lap_steps t 0 lap) u m) [
    | inl o ↦ (
        let k : InRound p u × IsOldMark (pair_lub lub) pcmp vcmp (pair_of p 0) before u = mark_out leq lub lattice p pcmp vcmp before u key.below o in
        let here : u ≡ pair_of p r = k.0.at ∙ ap (λ n. pair_of p n) (sym (ap (λ v. v.inner.0) k.0.at) ∙ at) in
        let whole : r ≤ r = omega arith in
        let value : V = k.1.value in
        let nonzero : read_sum pcmp lub p vcmp before r value % 2 ^ 64 ≢ 0 = subst (λ v. word pcmp (read_at (pair_lub lub) vcmp (pair_of p 0) value before) v ≢ 0) here k.1.nonzero in
        let named : read_sum pcmp lub p vcmp before r (of (to value)) % 2 ^ 64 ≢ 0 = subst (λ x. read_sum pcmp lub p vcmp before r x % 2 ^ 64 ≢ 0) (sym (naming.back value)) nonzero in
        let f : false ≡ true = sym no_mark ∙ mark_marked r (to value) whole named in absurd (cc))
    | inr o ↦ (
        let k : FedIn t 0 lap u = new_out t 0 lap u o in
        let here : k.round ≡ r = sym (ap (λ v. v.inner.0) k.at ∙ zero_plus k.round) ∙ at in
        let whole : r ≤ r = omega arith in
        let f : false ≡ true = sym no_active ∙ fed_active r whole (subst (λ n. fed_in lap n ≢ []) here k.fed) in absurd (cc))
  ]

  lower : (q : ℕ) → r ≡ suc q → is_active new old r ≡ false → is_marked old r ≡ false → (u : Pair T Round) → Member u all → IsTrue (pair_leq leq u (pair_of t r)) → IsTrue (pair_leq leq u (pair_of t q))
  lower q e no_active no_mark u m low =
      let n : u.inner.0 ≤ r = below_num u.inner.0 r (and_second (leq u.outer t) (nat_le u.inner.0 r) low) in
      and_both (leq u.outer t) (nat_le u.inner.0 q) (and_first (leq u.outer t) (nat_le u.inner.0 r) low) (num_below u.inner.0 q (le_less u.inner.0 r q n e (not_top no_active no_mark u m)))

  pub point_counted : IsPoint (pair_leq leq) (pair_lub lub) pcmp vcmp (pair_of p 0) before (lap_steps t 0 lap) (pair_of t r) → is_counted new old r ≡ true
  point_counted l =
      let w : FedIn t 0 lap l.first = new_out t 0 lap l.first l.is_new in
      let time : l.first ≡ pair_of t w.round = w.at ∙ ap (λ n. pair_of t n) (zero_plus w.round) in
      let low : w.round ≤ r = below_num w.round r (and_second (leq t t) (nat_le w.round r) (subst (λ u. IsTrue (pair_leq leq u (pair_of t r))) time l.is_below)) in
      let active : is_active new old w.round ≡ true = fed_active w.round low w.fed in
      and_both (is_touched new old r) (is_active new old r || is_marked old r) (touched_in new old r w.round low active) (by w.round low active (is_active new old r) (is_marked old r) refl refl) where
        by : (n : ℕ) → n ≤ r → is_active new old n ≡ true → (a c : Bool) → is_active new old r ≡ a → is_marked old r ≡ c → a || c ≡ true
        by n low active true c e f = refl
        by n low active false true e f = refl
        by n low active false false e f = elim (zero_or_more r) [
          | inl z ↦ (let at : n ≡ r = omega arith in let k : false ≡ true = sym e ∙ subst (λ m. is_active new old m ≡ true) at active in absurd (cc))
          | inr s ↦ (
              let top : IsTrue (pair_leq leq (pair_of t r) (pair_of t s.0)) = l.least (pair_of t s.0) (and_both (leq p t) (nat_le 0 s.0) key.up (num_below 0 s.0 (omega arith))) (lower s.0 s.1 e f) in
              let no : r ≤ s.0 = below_num r s.0 (and_second (leq t t) (nat_le r s.0) top) in
              let more : r ≡ suc s.0 = s.1 in
              absurd (omega arith))
        ]

  pub evaluated-counted : is_evaluated (pair_leq leq) (pair_lub lub) pcmp vcmp (pair_of p 0) (pair_of t r) before (lap_steps t 0 lap) ≡ is_counted new old r
  evaluated-counted = both_ways (is_evaluated (pair_leq leq) (pair_lub lub) pcmp vcmp (pair_of p 0) (pair_of t r) before (lap_steps t 0 lap)) (is_counted new old r)
      (λ h. point_counted (evaluated-lub (pair_leq leq) (pair_lub lub) (pairs_lattice leq lub lattice) pcmp vcmp (pair_of p 0) (pair_of t r) before (lap_steps t 0 lap) psame h))
      (λ h. lub-evaluated (pair_leq leq) (pair_lub lub) (pairs_lattice leq lub lattice) pcmp vcmp (pair_of p 0) (pair_of t r) before (lap_steps t 0 lap) pitself (and_both (leq p t) (nat_le 0 r) key.up (num_below 0 r (omega arith))) (counted_point h))
