-- What the body of a loop is fed and makes, lap by lap.
use Rattle.std.specs.Prelude.{◌≡◌, ℕ, ◌+◌, ◌<◌, ◌≤◌, ◌&&◌, nat_le, Bool, true, false, List, [], ◌∷◌, ◌++◌, length, map, if◌then◌else◌, refl}
use Rattle.std.proofs.Common.{arith, ap, sym, ◌∙◌, zero, suc, append_assoc, append-nil}
use Rattle.std.proofs.lemmas.Bool.Decides.{nat_tests}
use Rattle.lattice_time.specs.declared.pair.Pair.{Pair}
use Rattle.lattice_time.specs.declared.round.Round.{Round}
use Rattle.weighted.specs.WordLaws.{mapped-append}
use Rattle.weighted.specs.Alike.{Alike, Alike-refl, Alike-is, Alike-sym, Alike-trans, Alike-append, Alike-swap, Alike-mapped, negated}
use Rattle.flow_core.specs.Runs.{Every, accumulated, fed_of, made_of, fed_to, made_to}
use Rattle.flow_core.specs.RunLaws.{fed_to-append, made_to-append}
use Rattle.loop_theory.specs.declared.input.LoopInput.{LoopInput}
use Rattle.loop_theory.specs.declared.input.LoopInput.TheVariants.{Moving}
use Rattle.loop_theory.specs.Inputs.{fixed, moving, as_moving, fixed-append, moving-append, Alike-parts}
use Rattle.loop_theory.specs.Loops.{changes, pair_leq, pair_of, Exchange, FedBy, IsFed, first_of, came, Lap, IsLap, lap_step, steps_from, body_steps}
use Rattle.loop_theory.specs.Rounds.{Alike-regained, changes_sum, changes_none}

-- ---- one lap: its first rounds were fed the fixed part, and what the rounds before came to

module _ {F X : Type 0} where
  later_fed : (change : List (X × ℕ)) (es : List (Exchange F X)) (n : ℕ) → FedBy change es → n < length es → Alike (first_of (λ e. e.fed) (suc n) es) (as_moving (change ++ first_of (λ e. e.made) n es))
  later_fed change [] n h low = absurd (omega arith)
  later_fed change (e ∷ es) zero h low = rw (append-nil e.fed, append-nil change) h.0
  later_fed change (e ∷ es) (suc n) h low = rw (mapped-append {B = LoopInput F X} Moving change (e.made ++ first_of (λ e. e.made) n es)) (Alike-append h.0 (later_fed e.made es n h.1 (omega arith)))

  pub lap_fed : (fed : List (LoopInput F X × ℕ)) (es : List (Exchange F X)) (n : ℕ) → IsFed fed es → n < length es → Alike (first_of (λ e. e.fed) (suc n) es) (fixed fed ++ as_moving (came fed es n))
  lap_fed fed [] n h low = absurd (omega arith)
  lap_fed fed (e ∷ es) zero h low = rw (append-nil e.fed) (Alike-trans h.0 (Alike-parts fed))
  lap_fed fed (e ∷ es) (suc n) h low =
      let back : List (X × ℕ) = e.made ++ negated (moving fed) in
      let after : List (X × ℕ) = first_of (λ e. e.made) n es in
      let later : Alike (first_of (λ e. e.fed) (suc n) es) (as_moving (back ++ after)) = later_fed back es n h.1 (omega arith) in
      let whole : Alike (e.fed ++ first_of (λ e. e.fed) (suc n) es) ((fixed fed ++ as_moving (moving fed)) ++ as_moving (back ++ after)) = Alike-append (Alike-trans h.0 (Alike-parts fed)) later in
      let joined : (fixed fed ++ as_moving (moving fed)) ++ as_moving (back ++ after) ≡ fixed fed ++ as_moving (moving fed ++ (back ++ after)) = append_assoc (fixed fed) (as_moving (moving fed)) (as_moving (back ++ after)) ∙ ap (λ v. fixed fed ++ v) (sym (mapped-append {B = LoopInput F X} Moving (moving fed) (back ++ after))) in
      Alike-trans whole (Alike-trans (Alike-is joined) (Alike-append (Alike-refl (fixed fed)) (Alike-mapped Moving (moving fed ++ (back ++ after)) (e.made ++ after) (Alike-regained (moving fed) e.made after))))

-- ---- accumulation over the steps of one lap

pub and_false : (a : Bool) → (a && false) ≡ false
and_false true = refl
and_false false = refl

if_none : {A : Type 0} (b : Bool) → ◌≡◌ {A = List A} [] (if b then [] else [])
if_none true = refl
if_none false = refl

if_last : {A : Type 0} (b : Bool) (xs : List A) → (if b && true then xs else []) ++ [] ≡ (if b then xs ++ [] else [])
if_last true xs = refl
if_last false xs = refl

if_both : {A : Type 0} (b : Bool) (xs ys : List A) → (if b && true then xs else []) ++ (if b then ys else []) ≡ (if b then xs ++ ys else [])
if_both true xs ys = refl
if_both false xs ys = refl

pub not_le : (k r : ℕ) → r < k → nat_le k r ≡ false
not_le k r h = grind (arith, nat_tests)

is_le : (k r : ℕ) → k ≤ r → nat_le k r ≡ true
is_le k r h = grind (arith, nat_tests)

module _ {F X R : Type 0} (part : Exchange F X → List (R × ℕ)) where
  -- a part of each exchange, with its time
  abbrev timed : {T : Type 0} → T → ℕ → List (Exchange F X) → List (Pair T Round × List (R × ℕ))
  timed t k [] = []
  timed t k (e ∷ es) = (pair_of t k, part e) ∷ timed t (suc k) es

  module _ {T : Type 0} (leq : T → T → Bool) where
    later_none : (s t : T) (k r : ℕ) (es : List (Exchange F X)) → r < k → accumulated (pair_leq leq) (timed s k es) (pair_of t r) ≡ []
    later_none s t k r [] h = refl
    later_none s t k r (e ∷ es) h = rw (not_le k r h, and_false (leq s t)) (later_none s t (suc k) r es (omega arith))

    pub lap_sum : (s t : T) (k j r : ℕ) (es : List (Exchange F X)) → k + j ≡ r → accumulated (pair_leq leq) (timed s k es) (pair_of t r) ≡ (if leq s t then first_of part (suc j) es else [])
    lap_sum s t k j r [] h = if_none (leq s t)
    lap_sum s t k zero r (e ∷ es) h = rw (is_le k r (omega arith), later_none s t (suc k) r es (omega arith)) (if_last (leq s t) (part e))
    lap_sum s t k (suc j) r (e ∷ es) h = rw (is_le k r (omega arith), lap_sum s t (suc k) j r es (omega arith)) (if_both (leq s t) (part e) (first_of part (suc j) es))

module _ {T F X : Type 0} (leq : T → T → Bool) where
  fed_timed : (t : T) (k : ℕ) (es : List (Exchange F X)) → fed_of (steps_from t k es) ≡ timed (λ e. e.fed) t k es
  fed_timed t k [] = refl
  fed_timed t k (e ∷ es) = ap (λ v. (pair_of t k, e.fed) ∷ v) (fed_timed t (suc k) es)

  made_timed : (t : T) (k : ℕ) (es : List (Exchange F X)) → made_of (steps_from t k es) ≡ timed (λ e. e.made) t k es
  made_timed t k [] = refl
  made_timed t k (e ∷ es) = ap (λ v. (pair_of t k, e.made) ∷ v) (made_timed t (suc k) es)

  steps_fed : (s t : T) (r : ℕ) (es : List (Exchange F X)) → fed_to (pair_leq leq) (steps_from s 0 es) (pair_of t r) ≡ (if leq s t then first_of (λ e. e.fed) (suc r) es else [])
  steps_fed s t r es = ap (λ v. accumulated (pair_leq leq) v (pair_of t r)) (fed_timed s 0 es) ∙ lap_sum (λ e. e.fed) leq s t 0 r r es (omega arith)

  steps_made : (s t : T) (r : ℕ) (es : List (Exchange F X)) → made_to (pair_leq leq) (steps_from s 0 es) (pair_of t r) ≡ (if leq s t then first_of (λ e. e.made) (suc r) es else [])
  steps_made s t r es = ap (λ v. accumulated (pair_leq leq) v (pair_of t r)) (made_timed s 0 es) ∙ lap_sum (λ e. e.made) leq s t 0 r r es (omega arith)

-- ---- all laps

module _ {T F X : Type 0} (leq : T → T → Bool) where
  -- what the laps at or below t come to at a round
  abbrev pub came_to : List (Lap T F X) → T → ℕ → List (X × ℕ)
  came_to [] t q = []
  came_to (l ∷ ls) t q = (if leq l.time t then came l.fed l.taken q else []) ++ came_to ls t q

  part_fed : (l : Lap T F X) (b : Bool) (r : ℕ) → IsFed l.fed l.taken → r < length l.taken → Alike (if b then first_of (λ e. e.fed) (suc r) l.taken else []) (fixed (if b then l.fed else []) ++ as_moving (if b then came l.fed l.taken r else []))
  part_fed l true r goes low = lap_fed l.fed l.taken r goes low
  part_fed l false r goes low = Alike-refl []

  -- the body was fed the fixed part, and what the laps come to
  pub laps_fed : (rounds : ℕ) (laps : List (Lap T F X)) (t : T) (r : ℕ) → r < rounds → Every (IsLap rounds) laps → Alike (fed_to (pair_leq leq) (body_steps laps) (pair_of t r)) (fixed (fed_to leq (map lap_step laps) t) ++ as_moving (came_to laps t r))
  laps_fed rounds [] t r low h = Alike-refl []
  laps_fed rounds (l ∷ ls) t r low h =
      let count : length l.taken ≡ rounds = h.0.count in
      rw (
        fed_to-append (pair_leq leq) (steps_from l.time 0 l.taken) (body_steps ls) (pair_of t r),
        steps_fed leq l.time t r l.taken,
        fixed-append (if leq l.time t then l.fed else []) (fed_to leq (map lap_step ls) t),
        mapped-append {B = LoopInput F X} Moving (if leq l.time t then came l.fed l.taken r else []) (came_to ls t r),
      )
      (Alike-trans (Alike-append (part_fed l (leq l.time t) r h.0.goes (omega arith)) (laps_fed rounds ls t r low h.1))
      (Alike-swap (fixed (if leq l.time t then l.fed else [])) (as_moving (if leq l.time t then came l.fed l.taken r else [])) (fixed (fed_to leq (map lap_step ls) t)) (as_moving (came_to ls t r))))

  -- what it made is what they come to at the next round
  pub laps_made : (laps : List (Lap T F X)) (t : T) (r : ℕ) → made_to (pair_leq leq) (body_steps laps) (pair_of t r) ≡ came_to laps t (suc r)
  laps_made [] t r = refl
  laps_made (l ∷ ls) t r =
      made_to-append (pair_leq leq) (steps_from l.time 0 l.taken) (body_steps ls) (pair_of t r)
      ∙ ap (λ v. v ++ made_to (pair_leq leq) (body_steps ls) (pair_of t r)) (steps_made leq l.time t r l.taken)
      ∙ ap (λ v. (if leq l.time t then first_of (λ e. e.made) (suc r) l.taken else []) ++ v) (laps_made ls t r)

  if_moving : (b : Bool) (fed : List (LoopInput F X × ℕ)) → (if b then moving fed else []) ≡ moving (if b then fed else [])
  if_moving true fed = refl
  if_moving false fed = refl

  -- at round 0 they come to the moving part
  pub laps_begin : (laps : List (Lap T F X)) (t : T) → came_to laps t 0 ≡ moving (fed_to leq (map lap_step laps) t)
  laps_begin [] t = refl
  laps_begin (l ∷ ls) t =
      ap (λ v. v ++ came_to ls t 0) (if_moving (leq l.time t) l.fed)
      ∙ ap (λ v. moving (if leq l.time t then l.fed else []) ++ v) (laps_begin ls t)
      ∙ sym (moving-append (if leq l.time t then l.fed else []) (fed_to leq (map lap_step ls) t))

  part_gives : (rounds : ℕ) (l : Lap T F X) (b : Bool) → IsLap rounds l → Alike (if b then l.made else []) (changes (λ q. if b then came l.fed l.taken q else []) rounds)
  part_gives rounds l true h = h.gives
  part_gives rounds l false h = Alike-sym (Alike-is (changes_none rounds))

  -- the loop made the changes of what they come to
  pub laps_give : (rounds : ℕ) (laps : List (Lap T F X)) (t : T) → Every (IsLap rounds) laps → Alike (made_to leq (map lap_step laps) t) (changes (came_to laps t) rounds)
  laps_give rounds [] t h = Alike-sym (Alike-is (changes_none rounds))
  laps_give rounds (l ∷ ls) t h =
      Alike-trans (Alike-append (part_gives rounds l (leq l.time t) h.0) (laps_give rounds ls t h.1))
      (changes_sum (λ q. if leq l.time t then came l.fed l.taken q else []) (came_to ls t) rounds)
