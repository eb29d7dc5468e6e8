-- A lap is charged the work of the new view.
use Rattle.std.specs.Prelude.{◌≡◌, ◌≢◌, ℕ, zero, suc, ◌+◌, ◌%◌, ◌^◌, ◌<◌, ◌≤◌, ◌⊎◌, Bool, true, false, IsTrue, List, [], ◌∷◌, ◌++◌, length, filter, if◌then◌else◌, refl}
use Rattle.std.specs.List.{sum_by}
use Rattle.std.specs.declared.cmp.Ordering.{Ordering}
use Rattle.std.specs.declared.cmp.Ordering.TheVariants.{Equal}
use Rattle.std.proofs.Common.{arith, ap, sym, subst, ◌∙◌, inl, inr, append_assoc, append-nil, length-append}
use Rattle.std.proofs.lemmas.List.Sums.{sum_by-cons}
use Rattle.lattice_time.specs.declared.pair.Pair.{Pair}
use Rattle.lattice_time.specs.declared.round.Round.{Round}
use Rattle.lattice_time.specs.Lattice.{IsLattice}
use Rattle.weighted.specs.Words.{sum_at, word}
use Rattle.weighted.specs.Alike.{Alike, words-Alike}
use Rattle.flow_core.specs.Runs.{Step, Every, Member, fed_to}
use Rattle.flow_core.specs.RunLaws.{fed_to-append}
use Rattle.reduce_theory.specs.Evaluated.{key_part, key_steps, has_key, new_marks, is_evaluated, evaluations, charged}
use Rattle.reduce_theory.specs.Keys.{IsPoint}
use Rattle.reduce_theory.specs.Members.{Member-passes, Member-unfiltered, Member-filtered}
use Rattle.reduce_theory.specs.MarkLaws.{evaluated-lub}
use Rattle.reduce_theory.specs.ByKey.{key_steps-append, fed_to-key}
use Rattle.reduce_theory.specs.Counts.{Apart, has_member, member_has, evaluations-are}
use Rattle.loop_theory.specs.Loops.{pair_leq, pair_lub, pair_of}
use Rattle.multisets.specs.Multisets.{often}
use Rattle.lone_work.specs.Items.{Item, same_item}
use Rattle.lone_work.specs.InputLaws.{items-exact}
use Rattle.lone_work.specs.Work.{is_touched, is_counted, rounds_counted}
use Rattle.work_theory.specs.Once.{once, IsNaming, once_often}
use Rattle.work_theory.specs.Laps.{Turn, lap_steps, fed_in, OuterBelow, IsFull, LapOver}
use Rattle.work_theory.specs.LapLaws.{pairs_lattice, past}
use Rattle.work_theory.specs.CountedLaws.{true_or_false}
use Rattle.work_theory.specs.KeyLaws.{KeyLap, evaluated-counted}

-- ---- a lap, from its front

module _ {V O : Type 0} where
  pub lap-append : {T : Type 0} (t : T) (k : ℕ) (done rest : List (Turn V O)) → lap_steps t k (done ++ rest) ≡ lap_steps t k done ++ lap_steps t (k + length done) rest
  lap-append t k [] rest = let e : k ≡ k + 0 = omega arith in ap (λ n. lap_steps t n rest) e
  lap-append t k (x ∷ done) rest =
      let e : suc k + length done ≡ k + length (x ∷ done) = omega arith in
      ap (λ w. record { time = pair_of t k; fed = x.fed; made = x.made; charge = x.charge } ∷ w) (lap-append t (suc k) done rest ∙ ap (λ n. lap_steps t (suc k) done ++ lap_steps t n rest) e)

  fed_in_front : (done rest : List (Turn V O)) (k : ℕ) → k < length done → fed_in (done ++ rest) k ≡ fed_in done k
  fed_in_front [] rest k h = absurd (omega arith)
  fed_in_front (x ∷ done) rest zero h = refl
  fed_in_front (x ∷ done) rest (suc k) h = fed_in_front done rest k (omega arith)

full_in : {K V O : Type 0} (kcmp : K → K → Ordering) (vcmp : V → V → Ordering) (lap : List (Turn (K × V) (K × O))) (k : ℕ) → Every (λ x. IsFull kcmp vcmp x.fed) lap → IsFull kcmp vcmp (fed_in lap k)
full_in kcmp vcmp [] k h = λ v w. refl
full_in kcmp vcmp (x ∷ lap) zero h = h.0
full_in kcmp vcmp (x ∷ lap) (suc k) h = full_in kcmp vcmp lap k h.1

-- ---- one key of a lap

module _ {K : Type 0} (kcmp : K → K → Ordering) (v : K) where
  abbrev key_turns : {V O : Type 0} → List (Turn (K × V) (K × O)) → List (Turn V O)
  key_turns [] = []
  key_turns (x ∷ lap) = record { fed = key_part kcmp v x.fed; made = key_part kcmp v x.made; charge = x.charge } ∷ key_turns lap

  key_lap : {T V O : Type 0} (t : T) (k : ℕ) (lap : List (Turn (K × V) (K × O))) → key_steps kcmp v (lap_steps t k lap) ≡ lap_steps t k (key_turns lap)
  key_lap t k [] = refl
  key_lap t k (x ∷ lap) = ap (λ w. record { time = pair_of t k; fed = key_part kcmp v x.fed; made = key_part kcmp v x.made; charge = x.charge } ∷ w) (key_lap t (suc k) lap)

  key_fed : {V O : Type 0} (lap : List (Turn (K × V) (K × O))) (k : ℕ) → fed_in (key_turns lap) k ≡ key_part kcmp v (fed_in lap k)
  key_fed [] k = refl
  key_fed (x ∷ lap) zero = refl
  key_fed (x ∷ lap) (suc k) = key_fed lap k

  key_below : {T V O : Type 0} (leq : T → T → Bool) (p : T) (steps : List (Step (Pair T Round) (K × V) (K × O))) → OuterBelow leq p steps → OuterBelow leq p (key_steps kcmp v steps)
  key_below leq p [] h = tt
  key_below leq p (s ∷ ss) h = (h.0, key_below leq p ss h.1)

-- ---- lists that have each element once

module _ {A : Type 0} (f : A → Bool) where
  apart_by : (y : A) (ys : List A) (b : Bool) → (Member y ys → ⊥) → Apart (filter f ys) → Apart (if b then y ∷ filter f ys else filter f ys)
  apart_by y ys true n a = ((λ m. n (Member-unfiltered f ys y m)), a)
  apart_by y ys false n a = a

  Apart-filter : (ys : List A) → Apart ys → Apart (filter f ys)
  Apart-filter [] a = tt
  Apart-filter (y ∷ ys) a = apart_by y ys (f y) a.0 (Apart-filter ys a.1)

-- nothing is never counted
never_touched : (r : ℕ) → is_counted (λ _. []) (λ _. []) r ≡ true → ⊥
never_touched r h = absurd (let f : false ≡ true = sym (none r) ∙ h in (cc)) where
  touched : (n : ℕ) → is_touched (λ _. []) (λ _. []) n ≡ false
  touched zero = refl
  touched (suc zero) = refl
  touched (suc (suc n)) = rw (touched (suc n)) refl

  none : (n : ℕ) → is_counted (λ _. []) (λ _. []) n ≡ false
  none n = rw (touched n) refl

module _ {T K V O : Type 0} (leq : T → T → Bool) (lub : T → T → T) (lattice : IsLattice leq lub) (pcmp : Pair T Round → Pair T Round → Ordering) (psame : (x y : Pair T Round) → pcmp x y ≡ Equal → x ≡ y) (pitself : (x : Pair T Round) → pcmp x x ≡ Equal) (kcmp : K → K → Ordering) (ksame : (x y : K) → kcmp x y ≡ Equal → x ≡ y) (kitself : (x : K) → kcmp x x ≡ Equal) (vcmp : V → V → Ordering) (vsame : (x y : V) → vcmp x y ≡ Equal → x ≡ y) (vitself : (x : V) → vcmp x x ≡ Equal) (of : Item → V) (to : V → Item) (naming : IsNaming of to) (p t : T) (before : List (Step (Pair T Round) (K × V) (K × O))) (lap : List (Turn (K × V) (K × O))) (nodes : List K) (new old : K → ℕ → List Item) (few : (v : K) (k : ℕ) → (length (new v k) < 2 ^ 62) × (length (old v k) < 2 ^ 62)) (over : LapOver leq kcmp vcmp of p t before lap nodes new old) where
  -- the items of which a collection has the words
  words : (es : List (V × ℕ)) (xs : List Item) → Alike es (once of xs) → (i : Item) → sum_at vcmp es (of i) % 2 ^ 64 ≡ often same_item i xs % 2 ^ 64
  words es xs a i = (words-Alike vcmp es (once of xs) a).words (of i) ∙ ap (λ n. n % 2 ^ 64) (once_often same_item items-exact vcmp vsame vitself of to naming i xs)

  -- up to a round that the front of the lap has, the rest of it adds nothing
  front : (done rest : List (Turn (K × V) (K × O))) (k : ℕ) → done ++ rest ≡ lap → k < length done → fed_to (pair_leq leq) (before ++ lap_steps t 0 lap) (pair_of t k) ≡ fed_to (pair_leq leq) (before ++ lap_steps t 0 done) (pair_of t k)
  front done rest k e low =
      ap (λ w. fed_to (pair_leq leq) (before ++ lap_steps t 0 w) (pair_of t k)) (sym e)
      ∙ ap (λ w. fed_to (pair_leq leq) (before ++ w) (pair_of t k)) (lap-append t 0 done rest)
      ∙ ap (λ w. fed_to (pair_leq leq) w (pair_of t k)) (sym (append_assoc before (lap_steps t 0 done) (lap_steps t (0 + length done) rest)))
      ∙ fed_to-append (pair_leq leq) (before ++ lap_steps t 0 done) (lap_steps t (0 + length done) rest) (pair_of t k)
      ∙ ap (λ w. fed_to (pair_leq leq) (before ++ lap_steps t 0 done) (pair_of t k) ++ w) (past leq t (lattice.reflexive t) (0 + length done) k rest (omega arith))
      ∙ append-nil (fed_to (pair_leq leq) (before ++ lap_steps t 0 done) (pair_of t k))

  -- what one key was fed, up to a round of the front
  key_front : (v : K) (done rest : List (Turn (K × V) (K × O))) (k : ℕ) → done ++ rest ≡ lap → k < length done → fed_to (pair_leq leq) (key_steps kcmp v before ++ lap_steps t 0 (key_turns kcmp v done)) (pair_of t k) ≡ key_part kcmp v (fed_to (pair_leq leq) (before ++ lap_steps t 0 lap) (pair_of t k))
  key_front v done rest k e low =
      let keyed : key_steps kcmp v before ++ lap_steps t 0 (key_turns kcmp v done) ≡ key_steps kcmp v (before ++ lap_steps t 0 done) = ap (λ w. key_steps kcmp v before ++ w) (sym (key_lap kcmp v t 0 done)) ∙ sym (key_steps-append kcmp ksame kitself v before (lap_steps t 0 done)) in
      ap (λ w. fed_to (pair_leq leq) w (pair_of t k)) keyed
      ∙ fed_to-key kcmp ksame kitself v (pair_leq leq) (before ++ lap_steps t 0 done) (pair_of t k)
      ∙ ap (key_part kcmp v) (sym (front done rest k e low))

  key_full : (v : K) (done rest : List (Turn (K × V) (K × O))) (k : ℕ) → done ++ rest ≡ lap → k < length done → ((x : V) → word vcmp (fed_in (key_turns kcmp v done) k) x ≡ 0) → fed_in (key_turns kcmp v done) k ≡ []
  key_full v done rest k e low f =
      let is : fed_in (key_turns kcmp v done) k ≡ key_part kcmp v (fed_in lap k) = key_fed kcmp v done k ∙ ap (key_part kcmp v) (sym (fed_in_front done rest k low) ∙ ap (λ w. fed_in w k) e) in
      is ∙ full_in kcmp vcmp lap k over.full v (λ x. subst (λ w. word vcmp w x ≡ 0) is (f x))

  lengths : (done rest : List (Turn (K × V) (K × O))) → done ++ rest ≡ lap → length done + length rest ≡ length lap
  lengths done rest e = sym (length-append done rest) ∙ ap length e

  -- a node, over the run up to a round
  node_lap : (v : K) (done rest : List (Turn (K × V) (K × O))) (r : ℕ) → Member v nodes → done ++ rest ≡ lap → suc r ≡ length done → KeyLap leq vcmp of p t (key_steps kcmp v before) (key_turns kcmp v done) (new v) (old v) r
  node_lap v done rest r m e long =
      let sum : length done + length rest ≡ length lap = lengths done rest e in
      record {
        below = key_below kcmp v leq p before over.below;
        up = over.up;
        was = λ k low i. ap (λ w. sum_at vcmp w (of i) % 2 ^ 64) (fed_to-key kcmp ksame kitself v (pair_leq leq) before (pair_of p k)) ∙ words (key_part kcmp v (fed_to (pair_leq leq) before (pair_of p k))) (old v k) (over.was v k m (omega arith)) i;
        is = λ k low i. ap (λ w. sum_at vcmp w (of i) % 2 ^ 64) (key_front v done rest k e (omega arith)) ∙ words (key_part kcmp v (fed_to (pair_leq leq) (before ++ lap_steps t 0 lap) (pair_of t k))) (new v k) (over.is v k m (omega arith)) i;
        full = λ k low f. key_full v done rest k e (omega arith) f;
        few = few v;
      }

  -- another key
  other_lap : (v : K) (done rest : List (Turn (K × V) (K × O))) (r : ℕ) → (Member v nodes → ⊥) → done ++ rest ≡ lap → suc r ≡ length done → KeyLap leq vcmp of p t (key_steps kcmp v before) (key_turns kcmp v done) (λ _. []) (λ _. []) r
  other_lap v done rest r m e long =
      let sum : length done + length rest ≡ length lap = lengths done rest e in
      record {
        below = key_below kcmp v leq p before over.below;
        up = over.up;
        was = λ k low i. ap (λ w. sum_at vcmp w (of i) % 2 ^ 64) (fed_to-key kcmp ksame kitself v (pair_leq leq) before (pair_of p k)) ∙ words (key_part kcmp v (fed_to (pair_leq leq) before (pair_of p k))) [] (over.others_was v k m (omega arith)) i;
        is = λ k low i. ap (λ w. sum_at vcmp w (of i) % 2 ^ 64) (key_front v done rest k e (omega arith)) ∙ words (key_part kcmp v (fed_to (pair_leq leq) (before ++ lap_steps t 0 lap) (pair_of t k))) [] (over.others v k m (omega arith)) i;
        full = λ k low f. key_full v done rest k e (omega arith) f;
        few = λ k. (omega arith, omega arith);
      }

  -- whether a key is evaluated in the last round of the front
  abbrev evaluated_in : List (Turn (K × V) (K × O)) → ℕ → K → Bool
  evaluated_in done r v = is_evaluated (pair_leq leq) (pair_lub lub) pcmp vcmp (pair_of p 0) (pair_of t r) (key_steps kcmp v before) (key_steps kcmp v (lap_steps t 0 done))

  pub node_evaluated : (v : K) (done rest : List (Turn (K × V) (K × O))) (r : ℕ) → Member v nodes → done ++ rest ≡ lap → suc r ≡ length done → evaluated_in done r v ≡ is_counted (new v) (old v) r
  node_evaluated v done rest r m e long =
      ap (λ w. is_evaluated (pair_leq leq) (pair_lub lub) pcmp vcmp (pair_of p 0) (pair_of t r) (key_steps kcmp v before) w) (key_lap kcmp v t 0 done)
      ∙ evaluated-counted leq lub lattice pcmp psame pitself vcmp vsame of to naming p t (key_steps kcmp v before) (key_turns kcmp v done) (new v) (old v) r (node_lap v done rest r m e long)

  other_evaluated : (v : K) (done rest : List (Turn (K × V) (K × O))) (r : ℕ) → (Member v nodes → ⊥) → done ++ rest ≡ lap → suc r ≡ length done → evaluated_in done r v ≡ true → ⊥
  other_evaluated v done rest r m e long h =
      never_touched r (sym (ap (λ w. is_evaluated (pair_leq leq) (pair_lub lub) pcmp vcmp (pair_of p 0) (pair_of t r) (key_steps kcmp v before) w) (key_lap kcmp v t 0 done)
      ∙ evaluated-counted leq lub lattice pcmp psame pitself vcmp vsame of to naming p t (key_steps kcmp v before) (key_turns kcmp v done) (λ _. []) (λ _. []) r (other_lap v done rest r m e long)) ∙ h)

  -- the nodes that are counted in a round
  abbrev counted_nodes : ℕ → List K
  counted_nodes r = filter (λ v. is_counted (new v) (old v) r) nodes

  pub in_nodes : (v : K) (done rest : List (Turn (K × V) (K × O))) (r : ℕ) → done ++ rest ≡ lap → suc r ≡ length done → evaluated_in done r v ≡ true → Member v nodes
  in_nodes v done rest r e long h = elim (true_or_false (has_key kcmp v nodes)) [
    | inl a ↦ member_has kcmp ksame kitself v nodes a
    | inr b ↦ absurd (other_evaluated v done rest r (λ m. (let f : false ≡ true = sym b ∙ has_member kcmp ksame kitself v nodes m in absurd (cc))) e long h)
  ]

  marked : (v : K) (done : List (Turn (K × V) (K × O))) (r : ℕ) → evaluated_in done r v ≡ true → (u : Pair T Round) × Member u (new_marks (key_steps kcmp v (lap_steps t 0 done)))
  marked v done r h =
      let point : IsPoint (pair_leq leq) (pair_lub lub) pcmp vcmp (pair_of p 0) (key_steps kcmp v before) (key_steps kcmp v (lap_steps t 0 done)) (pair_of t r) = evaluated-lub (pair_leq leq) (pair_lub lub) (pairs_lattice leq lub lattice) pcmp vcmp (pair_of p 0) (pair_of t r) (key_steps kcmp v before) (key_steps kcmp v (lap_steps t 0 done)) psame h in
      (point.first, point.is_new)

  pub evaluations_in : (done rest : List (Turn (K × V) (K × O))) (r : ℕ) → Apart nodes → done ++ rest ≡ lap → suc r ≡ length done → evaluations (pair_leq leq) (pair_lub lub) pcmp kcmp vcmp (pair_of p 0) (pair_of t r) before (lap_steps t 0 done) ≡ length (counted_nodes r)
  evaluations_in done rest r apart e long =
      let test : K → Bool = λ v. is_counted (new v) (old v) r in
      let each : (v : K) → Member v (counted_nodes r) → evaluated_in done r v ≡ true = (λ v m. node_evaluated v done rest r (Member-unfiltered test nodes v m) e long ∙ Member-passes test nodes v m) in
      evaluations-are kcmp ksame kitself (pair_leq leq) (pair_lub lub) pcmp vcmp (pair_of p 0) (pair_of t r) before (lap_steps t 0 done) (counted_nodes r) (Apart-filter test nodes apart) each
      (λ v m. marked v done r (each v m))
      (λ v h. let m : Member v nodes = in_nodes v done rest r e long h in Member-filtered test nodes v m (sym (node_evaluated v done rest r m e long) ∙ h))

  -- ---- the two orders of counting

  abbrev work_to : ℕ → ℕ
  work_to r = sum_by (λ v. rounds_counted (new v) (old v) r) nodes

  more_by : (a c d : ℕ) (one : Bool) (v : K) (vs : List K) → c ≡ d + length vs → (a + (if one then 1 else 0)) + c ≡ (a + d) + length (if one then v ∷ vs else vs)
  more_by a c d true v vs h = omega arith
  more_by a c d false v vs h = omega arith

  more_of : (vs : List K) (r : ℕ) → sum_by (λ v. rounds_counted (new v) (old v) (suc r)) vs ≡ sum_by (λ v. rounds_counted (new v) (old v) r) vs + length (filter (λ v. is_counted (new v) (old v) r) vs)
  more_of [] r = refl
  more_of (v ∷ vs) r =
      sum_by-cons (λ v. rounds_counted (new v) (old v) (suc r)) v vs
      ∙ more_by (rounds_counted (new v) (old v) r) (sum_by (λ v. rounds_counted (new v) (old v) (suc r)) vs) (sum_by (λ v. rounds_counted (new v) (old v) r) vs) (is_counted (new v) (old v) r) v (filter (λ v. is_counted (new v) (old v) r) vs) (more_of vs r)
      ∙ ap (λ n. n + length (filter (λ v. is_counted (new v) (old v) r) (v ∷ vs))) (sym (sum_by-cons (λ v. rounds_counted (new v) (old v) r) v vs))

  none_of : (vs : List K) → sum_by (λ v. rounds_counted (new v) (old v) 0) vs ≡ 0
  none_of [] = refl
  none_of (v ∷ vs) = omega (arith, sum_by-cons (λ v. rounds_counted (new v) (old v) 0) v vs, none_of vs)

  charged_from : (done rest : List (Turn (K × V) (K × O))) → Apart nodes → done ++ rest ≡ lap → work_to (length done) + charged (pair_leq leq) (pair_lub lub) pcmp kcmp vcmp (pair_of p 0) before (lap_steps t 0 done) (lap_steps t (length done) rest) ≡ work_to (length done + length rest)
  charged_from done [] apart e = let k : length done + 0 ≡ length done = omega arith in rw k (omega arith)
  charged_from done (x ∷ rest) apart e =
      let s : Step (Pair T Round) (K × V) (K × O) = record { time = pair_of t (length done); fed = x.fed; made = x.made; charge = x.charge } in
      let zero_more : 0 + length done ≡ length done = omega arith in
      let one : lap_steps t 0 done ++ s ∷ [] ≡ lap_steps t 0 (done ++ x ∷ []) = sym (lap-append t 0 done (x ∷ []) ∙ ap (λ n. lap_steps t 0 done ++ record { time = pair_of t n; fed = x.fed; made = x.made; charge = x.charge } ∷ []) zero_more) in
      let long : length (done ++ x ∷ []) ≡ suc (length done) = length-append done (x ∷ []) ∙ omega arith in
      let all : (done ++ x ∷ []) ++ rest ≡ lap = append_assoc done (x ∷ []) rest ∙ e in
      let here : evaluations (pair_leq leq) (pair_lub lub) pcmp kcmp vcmp (pair_of p 0) (pair_of t (length done)) before (lap_steps t 0 done ++ s ∷ []) ≡ length (counted_nodes (length done)) = ap (λ w. evaluations (pair_leq leq) (pair_lub lub) pcmp kcmp vcmp (pair_of p 0) (pair_of t (length done)) before w) one ∙ evaluations_in (done ++ x ∷ []) rest (length done) apart all (sym long) in
      let after : charged (pair_leq leq) (pair_lub lub) pcmp kcmp vcmp (pair_of p 0) before (lap_steps t 0 done ++ s ∷ []) (lap_steps t (suc (length done)) rest) ≡ charged (pair_leq leq) (pair_lub lub) pcmp kcmp vcmp (pair_of p 0) before (lap_steps t 0 (done ++ x ∷ [])) (lap_steps t (length (done ++ x ∷ [])) rest) = ap (λ w. charged (pair_leq leq) (pair_lub lub) pcmp kcmp vcmp (pair_of p 0) before w (lap_steps t (suc (length done)) rest)) one ∙ ap (λ n. charged (pair_leq leq) (pair_lub lub) pcmp kcmp vcmp (pair_of p 0) before (lap_steps t 0 (done ++ x ∷ [])) (lap_steps t n rest)) (sym long) in
      let go : work_to (length (done ++ x ∷ [])) + charged (pair_leq leq) (pair_lub lub) pcmp kcmp vcmp (pair_of p 0) before (lap_steps t 0 (done ++ x ∷ [])) (lap_steps t (length (done ++ x ∷ [])) rest) ≡ work_to (length (done ++ x ∷ []) + length rest) = charged_from (done ++ x ∷ []) rest apart all in
      let more : work_to (length (done ++ x ∷ [])) ≡ work_to (length done) + length (counted_nodes (length done)) = ap work_to long ∙ more_of nodes (length done) in
      let same : length (done ++ x ∷ []) + length rest ≡ length done + length (x ∷ rest) = ap (λ n. n + length rest) long ∙ omega arith in
      joined (work_to (length done)) (length (counted_nodes (length done))) _ _ _ _ _ here after more go ∙ ap work_to same where
        joined : (w c e a b m z : ℕ) → e ≡ c → a ≡ b → m ≡ w + c → m + b ≡ z → w + (e + a) ≡ z
        joined w c e a b m z h k l g = omega arith

  -- what a lap is charged is the work
  pub charged-work : Apart nodes → charged (pair_leq leq) (pair_lub lub) pcmp kcmp vcmp (pair_of p 0) before [] (lap_steps t 0 lap) ≡ work_to (length lap)
  charged-work apart =
      let zero_more : length {A = Turn (K × V) (K × O)} [] + length lap ≡ length lap = omega arith in
      first (work_to 0) (charged (pair_leq leq) (pair_lub lub) pcmp kcmp vcmp (pair_of p 0) before [] (lap_steps t 0 lap)) (work_to (length lap)) (none_of nodes) (charged_from [] lap apart refl ∙ ap work_to zero_more) where
        first : (w c z : ℕ) → w ≡ 0 → w + c ≡ z → c ≡ z
        first w c z h k = omega arith
