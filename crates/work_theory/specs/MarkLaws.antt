-- The marks of one key: before the seal the rounds in which its items change, and in a lap those that were fed.
use Rattle.std.specs.Prelude.{◌≡◌, ◌≢◌, ℕ, zero, suc, ◌+◌, ◌==◌, not, Bool, true, false, IsTrue, List, [], ◌∷◌, length, map, if◌then◌else◌, refl}
use Rattle.std.specs.List.{list_any}
use Rattle.std.specs.declared.cmp.Ordering.{Ordering}
use Rattle.std.specs.declared.cmp.Ordering.TheVariants.{Equal}
use Rattle.std.proofs.Common.{arith, ap, sym, subst, ◌∙◌, inl, inr}
use Rattle.lattice_time.specs.declared.pair.Pair.{Pair}
use Rattle.lattice_time.specs.declared.round.Round.{Round}
use Rattle.lattice_time.specs.Lattice.{IsLattice}
use Rattle.weighted.specs.Words.{word}
use Rattle.flow_core.specs.Runs.{Step, Member}
use Rattle.reduce_theory.specs.Evaluated.{read_at, values_fed, old_marks, new_marks}
use Rattle.reduce_theory.specs.Members.{Member-unfiltered}
use Rattle.reduce_theory.specs.MarkLaws.{IsOldMark, old_mark_is, empty, not_empty}
use Rattle.loop_theory.specs.Loops.{pair_lub, pair_of}
use Rattle.work_theory.specs.Laps.{Turn, lap_steps, fed_in, OuterBelow}
use Rattle.work_theory.specs.LapLaws.{read_round}

-- ---- old marks

-- the seal's outer time, in a round
pub record InRound {T : Type 0} (p : T) (u : Pair T Round) : Type 0 where
  pub round : ℕ
  pub at : u ≡ pair_of p round

module _ {T : Type 0} (leq : T → T → Bool) (lub : T → T → T) (lattice : IsLattice leq lub) (p : T) {V O : Type 0} where
  time_in_round : (before : List (Step (Pair T Round) V O)) (u : Pair T Round) → OuterBelow leq p before → Member u (map (λ s. pair_lub lub s.time (pair_of p 0)) before) → InRound p u
  time_in_round [] u h m = absurd m
  time_in_round (s ∷ ss) u h (inl e) = record { round = s.time.inner.0; at = e ∙ read_round leq lub lattice p s.time h.0 }
  time_in_round (s ∷ ss) u h (inr m) = time_in_round ss u h.1 m

  pub mark_out : (pcmp : Pair T Round → Pair T Round → Ordering) (vcmp : V → V → Ordering) (before : List (Step (Pair T Round) V O)) (u : Pair T Round) → OuterBelow leq p before → Member u (old_marks (pair_lub lub) pcmp vcmp (pair_of p 0) before) → InRound p u × IsOldMark (pair_lub lub) pcmp vcmp (pair_of p 0) before u
  mark_out pcmp vcmp before u h m = (
    time_in_round before u h (Member-unfiltered (λ u. list_any (λ v. not (word pcmp (read_at (pair_lub lub) vcmp (pair_of p 0) v before) u == 0)) (values_fed before)) (map (λ s. pair_lub lub s.time (pair_of p 0)) before) u m),
    old_mark_is (pair_lub lub) pcmp vcmp (pair_of p 0) before u m,
  )

-- ---- new marks

-- a round of the lap that was fed
pub record FedIn {T V O : Type 0} (t : T) (k : ℕ) (lap : List (Turn V O)) (u : Pair T Round) : Type 0 where
  pub round : ℕ
  pub at : u ≡ pair_of t (k + round)
  pub fed : fed_in lap round ≢ []

module _ {T : Type 0} (t : T) where
  here_next : (k j : ℕ) → pair_of t (suc k + j) ≡ pair_of t (k + suc j)
  here_next k j = let e : suc k + j ≡ k + suc j = omega arith in ap (λ n. pair_of t n) e

  here_now : (k : ℕ) → pair_of t k ≡ pair_of t (k + 0)
  here_now k = let e : k ≡ k + 0 = omega arith in ap (λ n. pair_of t n) e

module _ {T V O : Type 0} (t : T) where
  later : (k : ℕ) (x : Turn V O) (lap : List (Turn V O)) (u : Pair T Round) → FedIn t (suc k) lap u → FedIn t k (x ∷ lap) u
  later k x lap u h = record { round = suc h.round; at = h.at ∙ here_next t k h.round; fed = h.fed }

  new_out_by : (k : ℕ) (x : Turn V O) (lap : List (Turn V O)) (u : Pair T Round) (b : Bool) → (length x.fed == 0) ≡ b → Member u (if b then new_marks (lap_steps t (suc k) lap) else pair_of t k ∷ new_marks (lap_steps t (suc k) lap)) → (Member u (new_marks (lap_steps t (suc k) lap)) → FedIn t (suc k) lap u) → FedIn t k (x ∷ lap) u
  new_out_by k x lap u true h m go = later k x lap u (go m)
  new_out_by k x lap u false h (inl e) go = record { round = 0; at = e ∙ here_now t k; fed = not_empty x.fed h }
  new_out_by k x lap u false h (inr m) go = later k x lap u (go m)

  pub new_out : (k : ℕ) (lap : List (Turn V O)) (u : Pair T Round) → Member u (new_marks (lap_steps t k lap)) → FedIn t k lap u
  new_out k [] u m = absurd m
  new_out k (x ∷ lap) u m = new_out_by k x lap u (length x.fed == 0) refl m (new_out (suc k) lap u)

  new_in_by : (k : ℕ) (x : Turn V O) (lap : List (Turn V O)) (u : Pair T Round) (b : Bool) → (length x.fed == 0) ≡ b → x.fed ≢ [] → u ≡ pair_of t k → Member u (if b then new_marks (lap_steps t (suc k) lap) else pair_of t k ∷ new_marks (lap_steps t (suc k) lap))
  new_in_by k x lap u true h has e = absurd (has (empty x.fed h))
  new_in_by k x lap u false h has e = inl e

  new_next_by : (k : ℕ) (lap : List (Turn V O)) (u : Pair T Round) (b : Bool) → Member u (new_marks (lap_steps t (suc k) lap)) → Member u (if b then new_marks (lap_steps t (suc k) lap) else pair_of t k ∷ new_marks (lap_steps t (suc k) lap))
  new_next_by k lap u true m = m
  new_next_by k lap u false m = inr m

  pub new_in : (k j : ℕ) (lap : List (Turn V O)) → fed_in lap j ≢ [] → Member (pair_of t (k + j)) (new_marks (lap_steps t k lap))
  new_in k j [] has = absurd (has refl)
  new_in k zero (x ∷ lap) has = new_in_by k x lap (pair_of t (k + 0)) (length x.fed == 0) refl has (sym (here_now t k))
  new_in k (suc j) (x ∷ lap) has = new_next_by k lap (pair_of t (k + suc j)) (length x.fed == 0) (subst (λ v. Member v (new_marks (lap_steps t (suc k) lap))) (here_next t k j) (new_in (suc k) j lap has))
