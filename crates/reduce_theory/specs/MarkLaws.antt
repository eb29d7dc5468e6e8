-- Laws of marks, and of where a key is evaluated.
use Rattle.std.specs.Prelude.{◌≡◌, ◌≢◌, ℕ, ◌==◌, ◌+◌, ◌%◌, ◌^◌, ◌⊎◌, ◌||◌, not, Bool, true, false, IsTrue, List, [], ◌∷◌, ◌++◌, length, map, if◌then◌else◌, refl}
use Rattle.std.specs.List.{list_any}
use Rattle.std.specs.declared.cmp.Ordering.{Ordering}
use Rattle.std.specs.declared.cmp.Ordering.TheVariants.{Equal}
use Rattle.std.specs.Ordering.{is_eq}
use Rattle.std.specs.Cmp.{Equal-is}
use Rattle.std.proofs.Common.{arith, ap, sym, subst, ◌∙◌, inl, inr, zero, suc, eqb-true}
use Rattle.std.proofs.lemmas.Bool.Decides.{nat_tests}
use Rattle.lattice_time.specs.Lattice.{IsLattice}
use Rattle.lattice_time.specs.LatticeLaws.{and_first, and_second, and_both}
use Rattle.weighted.specs.Words.{sum_at, word}
use Rattle.flow_core.specs.Runs.{Step, Every, Member, times_of}
use Rattle.flow_core.specs.Lists.{Member-front, Member-back, Member-split}
use Rattle.reduce_theory.specs.Evaluated.{read_at, values_fed, old_marks, new_marks, marks, some_below, lub_below, is_evaluated}
use Rattle.reduce_theory.specs.Keys.{IsPoint}
use Rattle.reduce_theory.specs.Members.{Member-passes, Member-filtered, Passing, some_passes, passing}

-- ---- old marks

-- the weights of some value at the times that are read as u do not cancel
pub record IsOldMark {T V O : Type 0} (lub : T → T → T) (tcmp : T → T → Ordering) (vcmp : V → V → Ordering) (seal : T) (old : List (Step T V O)) (u : T) : Type 0 where
  pub value : V
  pub nonzero : word tcmp (read_at lub vcmp seal value old) u ≢ 0

not_zero : (n : ℕ) → not (n == 0) ≡ true → n ≢ 0
not_zero n h e = grind (arith, nat_tests)

zero_not : (n : ℕ) → n ≢ 0 → not (n == 0) ≡ true
zero_not n h = grind (arith, nat_tests)

pub old_mark_is : {T V O : Type 0} (lub : T → T → T) (tcmp : T → T → Ordering) (vcmp : V → V → Ordering) (seal : T) (old : List (Step T V O)) (u : T) → Member u (old_marks lub tcmp vcmp seal old) → IsOldMark lub tcmp vcmp seal old u
old_mark_is {T} {V} {O} lub tcmp vcmp seal old u m =
    let test : V → Bool = λ v. not (word tcmp (read_at lub vcmp seal v old) u == 0) in
    let p : Passing test (values_fed old) = some_passes test (values_fed old) (Member-passes (λ u. list_any (λ v. not (word tcmp (read_at lub vcmp seal v old) u == 0)) (values_fed old)) (map (λ s. lub s.time seal) old) u m) in
    record { value = p.at; nonzero = not_zero (word tcmp (read_at lub vcmp seal p.at old) u) p.passes }

word_sum : (n : ℕ) → n % 2 ^ 64 ≢ 0 → n ≢ 0
word_sum n h e = h (ap (λ v. v % 2 ^ 64) e)

either_sum : (a b : ℕ) → a + b ≢ 0 → (a ≢ 0) ⊎ (b ≢ 0)
either_sum zero b h = inr (λ e. h (omega arith))
either_sum (suc a) b h = inl (λ e. absurd (omega (arith, e)))

module _ {V : Type 0} (vcmp : V → V → Ordering) (vsame : (x y : V) → vcmp x y ≡ Equal → x ≡ y) where
  value_by : (e : V × ℕ) (es : List (V × ℕ)) (v : V) (b : Bool) → is_eq (vcmp e.0 v) ≡ b → ((if b then e.1 else 0) ≢ 0) ⊎ (sum_at vcmp es v ≢ 0) → (sum_at vcmp es v ≢ 0 → Member v (map (λ e. e.0) es)) → Member v (map (λ e. e.0) (e ∷ es))
  value_by e es v true p h go = inl (sym (vsame e.0 v ((Equal-is (vcmp e.0 v)).0 p)))
  value_by e es v false p (inl n) go = absurd (n refl)
  value_by e es v false p (inr n) go = inr (go n)

  value_in : (es : List (V × ℕ)) (v : V) → sum_at vcmp es v ≢ 0 → Member v (map (λ e. e.0) es)
  value_in [] v h = absurd (h refl)
  value_in (e ∷ es) v h = value_by e es v (is_eq (vcmp e.0 v)) refl (either_sum (if is_eq (vcmp e.0 v) then e.1 else 0) (sum_at vcmp es v) h) (value_in es v)

module _ {T V O : Type 0} (lub : T → T → T) (tcmp : T → T → Ordering) (tsame : (x y : T) → tcmp x y ≡ Equal → x ≡ y) (vcmp : V → V → Ordering) (vsame : (x y : V) → vcmp x y ≡ Equal → x ≡ y) (seal : T) where
  -- some step is read as u and has the value
  abbrev InOld : List (Step T V O) → V → T → Type 0
  InOld old v u = Member v (values_fed old) × Member u (map (λ s. lub s.time seal) old)

  old_by : (s : Step T V O) (ss : List (Step T V O)) (v : V) (u : T) (b : Bool) → is_eq (tcmp (lub s.time seal) u) ≡ b → ((if b then sum_at vcmp s.fed v else 0) ≢ 0) ⊎ (sum_at tcmp (read_at lub vcmp seal v ss) u ≢ 0) → (sum_at tcmp (read_at lub vcmp seal v ss) u ≢ 0 → InOld ss v u) → InOld (s ∷ ss) v u
  old_by s ss v u true p (inl n) go = (Member-front v (map (λ e. e.0) s.fed) (values_fed ss) (value_in vcmp vsame s.fed v n), inl (sym (tsame (lub s.time seal) u ((Equal-is (tcmp (lub s.time seal) u)).0 p))))
  old_by s ss v u false p (inl n) go = absurd (n refl)
  old_by s ss v u b p (inr n) go = let i : InOld ss v u = go n in (Member-back v (map (λ e. e.0) s.fed) (values_fed ss) i.0, inr i.1)

  old_in : (old : List (Step T V O)) (v : V) (u : T) → sum_at tcmp (read_at lub vcmp seal v old) u ≢ 0 → InOld old v u
  old_in [] v u h = absurd (h refl)
  old_in (s ∷ ss) v u h = old_by s ss v u (is_eq (tcmp (lub s.time seal) u)) refl (either_sum (if is_eq (tcmp (lub s.time seal) u) then sum_at vcmp s.fed v else 0) (sum_at tcmp (read_at lub vcmp seal v ss) u) h) (old_in ss v u)

  pub old_mark_in : (old : List (Step T V O)) (u : T) → IsOldMark lub tcmp vcmp seal old u → Member u (old_marks lub tcmp vcmp seal old)
  old_mark_in old u is =
      let v : V = is.value in
      let i : InOld old v u = old_in old v u (word_sum (sum_at tcmp (read_at lub vcmp seal v old) u) is.nonzero) in
      Member-filtered (λ u. list_any (λ v. not (word tcmp (read_at lub vcmp seal v old) u == 0)) (values_fed old)) (map (λ s. lub s.time seal) old) u i.1 (passing (λ v. not (word tcmp (read_at lub vcmp seal v old) u == 0)) (values_fed old) v i.0 (zero_not (word tcmp (read_at lub vcmp seal v old) u) is.nonzero))

-- ---- new marks

pub not_empty : {A : Type 0} (xs : List A) → (length xs == 0) ≡ false → xs ≢ []
not_empty [] h e = absurd (cc)
not_empty (x ∷ xs) h e = absurd (cc)

pub empty : {A : Type 0} (xs : List A) → (length xs == 0) ≡ true → xs ≡ []
empty [] h = refl
empty (x ∷ xs) h = let k : length (x ∷ xs) ≡ 0 = eqb-true (length (x ∷ xs)) 0 h in absurd (omega arith)

pub empty_or : {A : Type 0} (xs : List A) → (xs ≡ []) ⊎ (xs ≢ [])
empty_or [] = inl refl
empty_or (x ∷ xs) = inr (λ e. absurd (cc))

new_append_by : {T : Type 0} (b : Bool) (t : T) (us vs ws : List T) → us ≡ vs ++ ws → (if b then us else t ∷ us) ≡ (if b then vs else t ∷ vs) ++ ws
new_append_by true t us vs ws h = h
new_append_by false t us vs ws h = ap (λ u. t ∷ u) h

pub new_marks-append : {T V O : Type 0} (xs ys : List (Step T V O)) → new_marks (xs ++ ys) ≡ new_marks xs ++ new_marks ys
new_marks-append [] ys = refl
new_marks-append (s ∷ ss) ys = new_append_by (length s.fed == 0) s.time (new_marks (ss ++ ys)) (new_marks ss) (new_marks ys) (new_marks-append ss ys)

-- a step that has the key is a new mark
new_by : {T V O : Type 0} (s : Step T V O) (rest : List T) (b : Bool) → (length s.fed == 0) ≡ b → s.fed ≢ [] → Member s.time (if b then rest else s.time ∷ rest)
new_by s rest true h n = absurd (n (empty s.fed h))
new_by s rest false h n = inl refl

later_by : {T : Type 0} (u t : T) (rest : List T) (b : Bool) → Member u rest → Member u (if b then rest else t ∷ rest)
later_by u t rest true m = m
later_by u t rest false m = inr m

pub new_mark_in : {T V O : Type 0} (new : List (Step T V O)) (s : Step T V O) → Member s new → s.fed ≢ [] → Member s.time (new_marks new)
new_mark_in [] s m n = absurd m
new_mark_in (r ∷ rs) s (inl e) n = subst (λ v. Member v.time (new_marks (r ∷ rs))) (sym e) (new_by r (new_marks rs) (length r.fed == 0) refl (subst (λ v. v.fed ≢ []) e n))
new_mark_in (r ∷ rs) s (inr m) n = later_by s.time r.time (new_marks rs) (length r.fed == 0) (new_mark_in rs s m n)

-- and each is one of these
new_mark_by : {T V O : Type 0} (P : T → Type 0) (s : Step T V O) (ss : List (Step T V O)) (u : T) (b : Bool) → (length s.fed == 0) ≡ b → (s.fed ≡ []) ⊎ P s.time → (Member u (new_marks ss) → P u) → Member u (if b then new_marks ss else s.time ∷ new_marks ss) → P u
new_mark_by P s ss u true e h go m = go m
new_mark_by P s ss u false e (inl z) go (inl p) = absurd (not_empty s.fed e z)
new_mark_by P s ss u false e (inr k) go (inl p) = subst P (sym p) k
new_mark_by P s ss u false e h go (inr m) = go m

pub new_mark_has : {T V O : Type 0} (P : T → Type 0) (ss : List (Step T V O)) (u : T) → Every (λ s. (s.fed ≡ []) ⊎ P s.time) ss → Member u (new_marks ss) → P u
new_mark_has P [] u h m = absurd m
new_mark_has P (s ∷ ss) u h m = new_mark_by P s ss u (length s.fed == 0) refl h.0 (new_mark_has P ss u h.1) m

time_by : {T V O : Type 0} (s : Step T V O) (ss : List (Step T V O)) (u : T) (b : Bool) → (Member u (new_marks ss) → Member u (times_of ss)) → Member u (if b then new_marks ss else s.time ∷ new_marks ss) → Member u (times_of (s ∷ ss))
time_by s ss u true go m = inr (go m)
time_by s ss u false go (inl p) = inl p
time_by s ss u false go (inr m) = inr (go m)

pub new_mark_time : {T V O : Type 0} (ss : List (Step T V O)) (u : T) → Member u (new_marks ss) → Member u (times_of ss)
new_mark_time [] u m = absurd m
new_mark_time (s ∷ ss) u m = time_by s ss u (length s.fed == 0) (new_mark_time ss u) m

-- a step adds the time of its feed, and nothing else
only_by : {T V O : Type 0} (s : Step T V O) (u : T) (b : Bool) → (length s.fed == 0) ≡ b → Member u (if b then [] else s.time ∷ []) → (u ≡ s.time) × (s.fed ≢ [])
only_by s u true e m = absurd m
only_by s u false e (inl p) = (p, not_empty s.fed e)
only_by s u false e (inr m) = absurd m

pub new_mark_last : {T V O : Type 0} (new : List (Step T V O)) (s : Step T V O) (u : T) → Member u (new_marks (new ++ s ∷ [])) → Member u (new_marks new) ⊎ ((u ≡ s.time) × (s.fed ≢ []))
new_mark_last new s u m = elim (Member-split u (new_marks new) (new_marks (s ∷ [])) (subst (λ v. Member u v) (new_marks-append new (s ∷ [])) m)) [ inl a ↦ inl a | inr b ↦ inr (only_by s u (length s.fed == 0) refl b) ]

pub new_mark_more : {T V O : Type 0} (new : List (Step T V O)) (s : Step T V O) (u : T) → Member u (new_marks new) → Member u (new_marks (new ++ s ∷ []))
new_mark_more new s u m = subst (λ v. Member u v) (sym (new_marks-append new (s ∷ []))) (Member-front u (new_marks new) (new_marks (s ∷ [])) m)

-- ---- all marks

module _ {T V O : Type 0} (lub : T → T → T) (tcmp : T → T → Ordering) (vcmp : V → V → Ordering) (seal : T) (old new : List (Step T V O)) where
  pub mark_old : (u : T) → Member u (old_marks lub tcmp vcmp seal old) → Member u (marks lub tcmp vcmp seal old new)
  mark_old u m = Member-front u (old_marks lub tcmp vcmp seal old) (new_marks new) m

  pub mark_new : (u : T) → Member u (new_marks new) → Member u (marks lub tcmp vcmp seal old new)
  mark_new u m = Member-back u (old_marks lub tcmp vcmp seal old) (new_marks new) m

  pub mark_either : (u : T) → Member u (marks lub tcmp vcmp seal old new) → Member u (old_marks lub tcmp vcmp seal old) ⊎ Member u (new_marks new)
  mark_either u m = Member-split u (old_marks lub tcmp vcmp seal old) (new_marks new) m

  pub mark_more : (s : Step T V O) (u : T) → Member u (marks lub tcmp vcmp seal old new) → Member u (marks lub tcmp vcmp seal old (new ++ s ∷ []))
  mark_more s u m = elim (mark_either u m) [
    | inl a ↦ Member-front u (old_marks lub tcmp vcmp seal old) (new_marks (new ++ s ∷ [])) a
    | inr b ↦ Member-back u (old_marks lub tcmp vcmp seal old) (new_marks (new ++ s ∷ [])) (new_mark_more new s u b)
  ]

  pub mark_last : (s : Step T V O) (u : T) → Member u (marks lub tcmp vcmp seal old (new ++ s ∷ [])) → Member u (marks lub tcmp vcmp seal old new) ⊎ ((u ≡ s.time) × (s.fed ≢ []))
  mark_last s u m = elim (Member-split u (old_marks lub tcmp vcmp seal old) (new_marks (new ++ s ∷ [])) m) [
    | inl a ↦ inl (mark_old u a)
    | inr b ↦ elim (new_mark_last new s u b) [ inl c ↦ inl (mark_new u c) | inr d ↦ inr d ]
  ]

  -- a point stays one
  pub point_more : (leq : T → T → Bool) (s : Step T V O) (a : T) → IsPoint leq lub tcmp vcmp seal old new a → IsPoint leq lub tcmp vcmp seal old (new ++ s ∷ []) a
  point_more leq s a p = record { least = λ z up h. p.least z up (λ x m. h x (mark_more s x m)); first = p.first; is_new = new_mark_more new s p.first p.is_new; is_below = p.is_below }

-- ---- a key is evaluated at t exactly where t is the least upper bound of its marks, a new one among them

module _ {T : Type 0} (leq : T → T → Bool) (lub : T → T → T) (lattice : IsLattice leq lub) (t : T) where
  within_by : (from u : T) (b : Bool) → leq u t ≡ b → IsTrue (leq from t) → IsTrue (leq (if b then lub from u else from) t)
  within_by from u true h f = lattice.least from u t f h
  within_by from u false h f = f

  within : (us : List T) (from : T) → IsTrue (leq from t) → IsTrue (leq (lub_below leq lub t from us) t)
  within [] from f = f
  within (u ∷ us) from f = within us (if leq u t then lub from u else from) (within_by from u (leq u t) refl f)

  under_by : (z from u : T) (b : Bool) → leq u t ≡ b → IsTrue (leq from z) → (IsTrue (leq u t) → IsTrue (leq u z)) → IsTrue (leq (if b then lub from u else from) z)
  under_by z from u true h f g = lattice.least from u z f (g h)
  under_by z from u false h f g = f

  under : (z : T) (us : List T) (from : T) → IsTrue (leq from z) → ((u : T) → Member u us → IsTrue (leq u t) → IsTrue (leq u z)) → IsTrue (leq (lub_below leq lub t from us) z)
  under z [] from f g = f
  under z (u ∷ us) from f g = under z us (if leq u t then lub from u else from) (under_by z from u (leq u t) refl f (g u (inl refl))) (λ v m. g v (inr m))

  over_by : (from u : T) (b : Bool) → IsTrue (leq from (if b then lub from u else from))
  over_by from u true = lattice.left from u
  over_by from u false = lattice.reflexive from

  over : (us : List T) (from : T) → IsTrue (leq from (lub_below leq lub t from us))
  over [] from = lattice.reflexive from
  over (u ∷ us) from = lattice.transitive from (if leq u t then lub from u else from) _ (over_by from u (leq u t)) (over us (if leq u t then lub from u else from))

  mark_by : (from u : T) (b : Bool) → leq u t ≡ b → IsTrue (leq u t) → IsTrue (leq u (if b then lub from u else from))
  mark_by from u true h low = lattice.right from u
  mark_by from u false h low = let k : false ≡ true = sym h ∙ low in absurd (cc)

  mark_over : (us : List T) (from v : T) → Member v us → IsTrue (leq v t) → IsTrue (leq v (lub_below leq lub t from us))
  mark_over [] from v m low = absurd m
  mark_over (u ∷ us) from v (inl e) low =
      let here : IsTrue (leq u (if leq u t then lub from u else from)) = mark_by from u (leq u t) refl (subst (λ x. IsTrue (leq x t)) e low) in
      subst (λ x. IsTrue (leq x (lub_below leq lub t from (u ∷ us)))) (sym e) (lattice.transitive u (if leq u t then lub from u else from) _ here (over us (if leq u t then lub from u else from)))
  mark_over (u ∷ us) from v (inr m) low = mark_over us (if leq u t then lub from u else from) v m low

  -- one of the times that is at or below t
  pub record Lower (us : List T) : Type 0 where
    pub at : T
    pub is_in : Member at us
    pub is_below : IsTrue (leq at t)

  lower_by : (u : T) (us : List T) (b : Bool) → leq u t ≡ b → IsTrue (b || some_below leq t us) → (IsTrue (some_below leq t us) → Lower us) → Lower (u ∷ us)
  lower_by u us true e h go = record { at = u; is_in = inl refl; is_below = e }
  lower_by u us false e h go = let l : Lower us = go h in record { at = l.at; is_in = inr l.is_in; is_below = l.is_below }

  lower : (us : List T) → IsTrue (some_below leq t us) → Lower us
  lower [] h = absurd (cc)
  lower (u ∷ us) h = lower_by u us (leq u t) refl h (lower us)

  or_true : (a b : Bool) → IsTrue b → IsTrue (a || b)
  or_true true b h = refl
  or_true false b h = h

  lowest_by : (u v : T) (rest : Bool) → v ≡ u → IsTrue (leq v t) → IsTrue (leq u t || rest)
  lowest_by u v rest e low = let k : leq u t ≡ true = subst (λ x. IsTrue (leq x t)) e low in rw k refl

  lowest : (us : List T) (v : T) → Member v us → IsTrue (leq v t) → IsTrue (some_below leq t us)
  lowest [] v m low = absurd m
  lowest (u ∷ us) v (inl e) low = lowest_by u v (some_below leq t us) e low
  lowest (u ∷ us) v (inr m) low = or_true (leq u t) (some_below leq t us) (lowest us v m low)

module _ {T V O : Type 0} (leq : T → T → Bool) (lub : T → T → T) (lattice : IsLattice leq lub) (tcmp : T → T → Ordering) (vcmp : V → V → Ordering) (seal t : T) (old new : List (Step T V O)) where
  pub evaluated-lub : ((x y : T) → tcmp x y ≡ Equal → x ≡ y) → IsTrue (is_evaluated leq lub tcmp vcmp seal t old new) → IsPoint leq lub tcmp vcmp seal old new t
  evaluated-lub same h =
      let all : List T = marks lub tcmp vcmp seal old new in
      let bound : T = lub_below leq lub t seal all in
      let l : Lower leq lub lattice t (new_marks new) = lower leq lub lattice t (new_marks new) (and_first (some_below leq t (new_marks new)) (is_eq (tcmp bound t)) h) in
      let is : bound ≡ t = same bound t ((Equal-is (tcmp bound t)).0 (and_second (some_below leq t (new_marks new)) (is_eq (tcmp bound t)) h)) in
      record {
        least = λ z up g. subst (λ x. IsTrue (leq x z)) is (under leq lub lattice t z all seal up g);
        first = l.at;
        is_new = l.is_in;
        is_below = l.is_below;
      }

  pub lub-evaluated : ((x : T) → tcmp x x ≡ Equal) → IsTrue (leq seal t) → IsPoint leq lub tcmp vcmp seal old new t → IsTrue (is_evaluated leq lub tcmp vcmp seal t old new)
  lub-evaluated itself up p =
      let all : List T = marks lub tcmp vcmp seal old new in
      let bound : T = lub_below leq lub t seal all in
      let is : bound ≡ t = lattice.antisymmetric bound t (within leq lub lattice t all seal up) (p.least bound (over leq lub lattice t all seal) (λ x. mark_over leq lub lattice t all seal x)) in
      and_both (some_below leq t (new_marks new)) (is_eq (tcmp bound t)) (lowest leq lub lattice t (new_marks new) p.first p.is_new p.is_below) (ap (λ v. is_eq (tcmp v t)) is ∙ ap is_eq (itself t))
