-- What a lap, and what came before the seal, accumulate to.
use Rattle.std.specs.Prelude.{◌≡◌, ◌≢◌, ℕ, zero, suc, ◌+◌, ◌≤◌, ◌<◌, ◌==◌, ◌&&◌, nat_le, max, Bool, true, false, IsTrue, List, [], ◌∷◌, ◌++◌, if◌then◌else◌, refl}
use Rattle.std.specs.declared.cmp.Ordering.{Ordering}
use Rattle.std.specs.declared.cmp.Ordering.TheVariants.{Equal}
use Rattle.std.specs.Ordering.{is_eq}
use Rattle.std.specs.Cmp.{Equal-is}
use Rattle.std.proofs.Common.{arith, ap, sym, subst, ◌∙◌, append-nil, eqb-true}
use Rattle.std.proofs.lemmas.Bool.Decides.{nat_tests}
use Rattle.lattice_time.specs.declared.pair.Pair.{Pair}
use Rattle.lattice_time.specs.declared.round.Round.{Round}
use Rattle.lattice_time.specs.Lattice.{IsLattice}
use Rattle.lattice_time.specs.LatticeLaws.{numbers_lattice, pair_lattice}
use Rattle.weighted.specs.Words.{sum_at}
use Rattle.weighted.specs.WordLaws.{sum_at-append}
use Rattle.flow_core.specs.Runs.{Step, fed_to}
use Rattle.reduce_theory.specs.Evaluated.{read_at}
use Rattle.loop_theory.specs.Loops.{pair_leq, pair_lub, pair_of}
use Rattle.work_theory.specs.Laps.{Turn, lap_steps, fed_in, OuterBelow}

-- ---- pairs of an outer time and a round

rounds_lattice : IsLattice (λ (s t : Round). nat_le s.0 t.0) (λ (s t : Round). record { 0 = max s.0 t.0 })
rounds_lattice = numbers_lattice (λ (t : Round). t.0) (λ n. record { 0 = n }) (λ _. refl) (λ _. refl)

pub pairs_lattice : {T : Type 0} (leq : T → T → Bool) (lub : T → T → T) → IsLattice leq lub → IsLattice (pair_leq leq) (pair_lub lub)
pairs_lattice {T} leq lub lattice = pair_lattice {P = Pair T Round} (λ u. u.outer) (λ u. u.inner) (λ a b. record { outer = a; inner = b }) (λ _. refl) (λ _ _. refl) (λ _ _. refl) lattice rounds_lattice

-- ---- a lap: what its rounds up to one were fed

abbrev pub fed_through : {V O : Type 0} → List (Turn V O) → ℕ → List (V × ℕ)
fed_through [] r = []
fed_through (x ∷ lap) zero = x.fed
fed_through (x ∷ lap) (suc r) = x.fed ++ fed_through lap r

le_plus : (k r : ℕ) → nat_le k (k + r) ≡ true
le_plus k r = grind (arith, nat_tests)

gt_not : (k r : ℕ) → r < k → nat_le k r ≡ false
gt_not k r h = grind (arith, nat_tests)

module _ {T : Type 0} (leq : T → T → Bool) (t : T) (itself : IsTrue (leq t t)) {V O : Type 0} where
  -- rounds that come later add nothing
  pub past : (k r : ℕ) (lap : List (Turn V O)) → r < k → fed_to (pair_leq leq) (lap_steps t k lap) (pair_of t r) ≡ []
  past k r [] h = refl
  past k r (x ∷ lap) h = rw (itself, gt_not k r h) (past (suc k) r lap (omega arith))

  pub lap_fed : (k r : ℕ) (lap : List (Turn V O)) → fed_to (pair_leq leq) (lap_steps t k lap) (pair_of t (k + r)) ≡ fed_through lap r
  lap_fed k r [] = refl
  lap_fed k zero (x ∷ lap) = rw (itself, le_plus k 0) (ap (λ v. x.fed ++ v) (past (suc k) (k + 0) lap (omega arith)) ∙ append-nil x.fed)
  lap_fed k (suc r) (x ∷ lap) =
      let e : k + suc r ≡ suc k + r = omega arith in
      rw (itself, le_plus k (suc r)) (ap (λ v. x.fed ++ v) (ap (λ n. fed_to (pair_leq leq) (lap_steps t (suc k) lap) (pair_of t n)) e ∙ lap_fed (suc k) r lap))

pub through_more : {V O : Type 0} (vcmp : V → V → Ordering) (lap : List (Turn V O)) (r : ℕ) (x : V) → sum_at vcmp (fed_through lap (suc r)) x ≡ sum_at vcmp (fed_through lap r) x + sum_at vcmp (fed_in lap (suc r)) x
through_more vcmp [] r x = refl
through_more vcmp (y ∷ []) zero x = sum_at-append vcmp y.fed [] x
through_more vcmp (y ∷ z ∷ lap) zero x = sum_at-append vcmp y.fed z.fed x
through_more vcmp (y ∷ lap) (suc r) x = rw (sum_at-append vcmp y.fed (fed_through lap (suc r)) x, sum_at-append vcmp y.fed (fed_through lap r) x) (omega (arith, through_more vcmp lap r x))

pub through_first : {V O : Type 0} (lap : List (Turn V O)) → fed_through lap 0 ≡ fed_in lap 0
through_first [] = refl
through_first (x ∷ lap) = refl

-- ---- before the seal: each step is read at the outer time of the seal, in its own round

module _ {V : Type 0} (vcmp : V → V → Ordering) where
  split_by : (m r : ℕ) (fed more more' : List (V × ℕ)) (x : V) (n : ℕ) → sum_at vcmp more x ≡ sum_at vcmp more' x + n → sum_at vcmp ((if nat_le m (suc r) then fed else []) ++ more) x ≡ sum_at vcmp ((if nat_le m r then fed else []) ++ more') x + ((if m == suc r then sum_at vcmp fed x else 0) + n)
  split_by m r fed more more' x n h = by (nat_le m (suc r)) (nat_le m r) (m == suc r) refl refl refl where
    by : (a b c : Bool) → nat_le m (suc r) ≡ a → nat_le m r ≡ b → (m == suc r) ≡ c → sum_at vcmp ((if a then fed else []) ++ more) x ≡ sum_at vcmp ((if b then fed else []) ++ more') x + ((if c then sum_at vcmp fed x else 0) + n)
    by true true true u v w = absurd (let e : m ≡ suc r = eqb-true m (suc r) w in let l : m ≤ r = grind (arith, nat_tests) in omega arith)
    by true true false u v w = rw (sum_at-append vcmp fed more x, sum_at-append vcmp fed more' x) (omega arith)
    by true false true u v w = rw (sum_at-append vcmp fed more x) (omega arith)
    by true false false u v w = absurd (let a : m ≤ suc r = grind (arith, nat_tests) in let b : r < m = grind (arith, nat_tests) in let c : m ≢ suc r = (λ e. grind (arith, nat_tests)) in omega arith)
    by false true c u v w = absurd (let a : m ≤ r = grind (arith, nat_tests) in let b : suc r < m = grind (arith, nat_tests) in omega arith)
    by false false true u v w = absurd (let e : m ≡ suc r = eqb-true m (suc r) w in let b : suc r < m = grind (arith, nat_tests) in omega arith)
    by false false false u v w = omega arith

  suc_not : (m : ℕ) → (suc m == 0) ≡ false
  suc_not m = grind (arith, nat_tests)

  first_by : (m : ℕ) (fed more : List (V × ℕ)) (x : V) (n : ℕ) → sum_at vcmp more x ≡ n → sum_at vcmp ((if nat_le m 0 then fed else []) ++ more) x ≡ (if m == 0 then sum_at vcmp fed x else 0) + n
  first_by zero fed more x n h = sum_at-append vcmp fed more x ∙ ap (λ k. sum_at vcmp fed x + k) h
  first_by (suc m) fed more x n h = rw (gt_not (suc m) 0 (omega arith), suc_not m) (h ∙ omega arith)

module _ {T : Type 0} (leq : T → T → Bool) (lub : T → T → T) (lattice : IsLattice leq lub) (p : T) where
  pub read_round : (s : Pair T Round) → IsTrue (leq s.outer p) → pair_lub lub s (pair_of p 0) ≡ pair_of p s.inner.0
  read_round s h =
      let outer : lub s.outer p ≡ p = lattice.antisymmetric (lub s.outer p) p (lattice.least s.outer p p h (lattice.reflexive p)) (lattice.right s.outer p) in
      let inner : max s.inner.0 0 ≡ s.inner.0 = omega arith in
      ap (λ a. record { outer = a; inner = record { 0 = max s.inner.0 0 } }) outer ∙ ap (λ n. record { outer = p; inner = record { 0 = n } }) inner

-- what a value was fed in a round, by times as they are read
abbrev pub read_sum : {T V O : Type 0} → (Pair T Round → Pair T Round → Ordering) → (T → T → T) → T → (V → V → Ordering) → List (Step (Pair T Round) V O) → ℕ → V → ℕ
read_sum pcmp lub p vcmp before r x = sum_at pcmp (read_at (pair_lub lub) vcmp (pair_of p 0) x before) (pair_of p r)

module _ {T : Type 0} (leq : T → T → Bool) (lub : T → T → T) (lattice : IsLattice leq lub) (pcmp : Pair T Round → Pair T Round → Ordering) (psame : (x y : Pair T Round) → pcmp x y ≡ Equal → x ≡ y) (pitself : (x : Pair T Round) → pcmp x x ≡ Equal) (p : T) where
  eq_round : (m n : ℕ) → is_eq (pcmp (pair_of p m) (pair_of p n)) ≡ (m == n)
  eq_round m n = by (is_eq (pcmp (pair_of p m) (pair_of p n))) (m == n) refl refl where
    by : (a b : Bool) → is_eq (pcmp (pair_of p m) (pair_of p n)) ≡ a → (m == n) ≡ b → a ≡ b
    by true true h k = refl
    by false false h k = refl
    by true false h k = let e : m ≡ n = ap (λ u. u.inner.0) (psame (pair_of p m) (pair_of p n) ((Equal-is (pcmp (pair_of p m) (pair_of p n))).0 h)) in grind (arith, nat_tests)
    by false true h k = let e : m ≡ n = eqb-true m n k in let f : is_eq (pcmp (pair_of p m) (pair_of p n)) ≡ true = subst (λ v. is_eq (pcmp (pair_of p m) (pair_of p v)) ≡ true) e (ap is_eq (pitself (pair_of p m))) in sym h ∙ f

  module _ {V O : Type 0} (vcmp : V → V → Ordering) where
    -- a round further: what was fed in the next round
    pub old_more : (before : List (Step (Pair T Round) V O)) (r : ℕ) (x : V) → OuterBelow leq p before → sum_at vcmp (fed_to (pair_leq leq) before (pair_of p (suc r))) x ≡ sum_at vcmp (fed_to (pair_leq leq) before (pair_of p r)) x + read_sum pcmp lub p vcmp before (suc r) x
    old_more [] r x h = refl
    old_more (s ∷ ss) r x h = rw (h.0, read_round leq lub lattice p s.time h.0, eq_round s.time.inner.0 (suc r)) (split_by vcmp s.time.inner.0 r s.fed (fed_to (pair_leq leq) ss (pair_of p (suc r))) (fed_to (pair_leq leq) ss (pair_of p r)) x (read_sum pcmp lub p vcmp ss (suc r) x) (old_more ss r x h.1))

    pub old_first : (before : List (Step (Pair T Round) V O)) (x : V) → OuterBelow leq p before → sum_at vcmp (fed_to (pair_leq leq) before (pair_of p 0)) x ≡ read_sum pcmp lub p vcmp before 0 x
    old_first [] x h = refl
    old_first (s ∷ ss) x h = rw (h.0, read_round leq lub lattice p s.time h.0, eq_round s.time.inner.0 0) (first_by vcmp s.time.inner.0 s.fed (fed_to (pair_leq leq) ss (pair_of p 0)) x (read_sum pcmp lub p vcmp ss 0 x) (old_first ss x h.1))

    -- seen from a later outer time it is the same
    pub old_seen : (t : T) → IsTrue (leq p t) → (before : List (Step (Pair T Round) V O)) (r : ℕ) → OuterBelow leq p before → fed_to (pair_leq leq) before (pair_of t r) ≡ fed_to (pair_leq leq) before (pair_of p r)
    old_seen t up [] r h = refl
    old_seen t up (s ∷ ss) r h = let far : leq s.time.outer t ≡ true = lattice.transitive s.time.outer p t h.0 up in rw (far, h.0) (ap (λ v. (if nat_le s.time.inner.0 r then s.fed else []) ++ v) (old_seen t up ss r h.1))
