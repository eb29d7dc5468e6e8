-- The central lemma of a reduce: where nothing is due, what was made of a key is the function of what was fed.
use Rattle.std.specs.Prelude.{◌≡◌, ◌≢◌, ℕ, ◌+◌, ◌*◌, ◌⊎◌, Bool, true, false, IsTrue, List, [], ◌∷◌, ◌++◌, if◌then◌else◌, refl}
use Rattle.std.specs.declared.cmp.Ordering.{Ordering}
use Rattle.std.specs.declared.cmp.Ordering.TheVariants.{Equal}
use Rattle.std.proofs.Common.{arith, ap, sym, ◌∙◌, inl, inr, append-nil, zero, suc}
use Rattle.lattice_time.specs.Lattice.{IsLattice}
use Rattle.weighted.specs.Words.{sum_at, word}
use Rattle.weighted.specs.WordLaws.{total, total-agree, sum_at-append}
use Rattle.weighted.specs.Alike.{Alike, Alike-is, Alike-refl, Alike-sym, Alike-trans, Alike-append, Alike-words}
use Rattle.flow_core.specs.Runs.{Step, Every, Member, NoneAbove, fed_to, made_to, times_of}
use Rattle.flow_core.specs.Lists.{Every-map, Every-member}
use Rattle.flow_core.specs.RunLaws.{fed_to-append, made_to-append}
use Rattle.reduce_theory.specs.Evaluated.{read_at, old_marks, new_marks, marks, is_evaluated}
use Rattle.reduce_theory.specs.Keys.{IsPoint, KeyRun}
use Rattle.reduce_theory.specs.MarkLaws.{old_mark_in, mark_old, mark_new, new_mark_in, new_mark_has, empty_or, evaluated-lub}

zero_or : (n : ℕ) → (n ≡ 0) ⊎ (n ≢ 0)
zero_or zero = inl refl
zero_or (suc n) = inr (λ h. omega (arith, h))

pub true_or_false : (b : Bool) → (b ≡ true) ⊎ (b ≡ false)
true_or_false true = inl refl
true_or_false false = inr refl

module _ {T : Type 0} (leq : T → T → Bool) (lub : T → T → T) (lattice : IsLattice leq lub) where
  -- where the seal is at or below t, a time is at or below t exactly where it is as read after the seal
  pub read_leq : (s f t : T) → IsTrue (leq f t) → leq (lub s f) t ≡ leq s t
  read_leq s f t over = by (leq (lub s f) t) (leq s t) refl refl where
    by : (a b : Bool) → leq (lub s f) t ≡ a → leq s t ≡ b → a ≡ b
    by true true p q = refl
    by false false p q = refl
    by true false p q = sym (lattice.transitive s (lub s f) t (lattice.left s f) p) ∙ q
    by false true p q = sym p ∙ lattice.least s f t q over

  pub lub_comm : (s t : T) → lub s t ≡ lub t s
  lub_comm s t = lattice.antisymmetric (lub s t) (lub t s) (lattice.least s t (lub t s) (lattice.right t s) (lattice.left t s)) (lattice.least t s (lub s t) (lattice.right s t) (lattice.left s t))

  pub lub_above : (s t : T) → IsTrue (leq s t) → lub t s ≡ t
  lub_above s t h = lattice.antisymmetric (lub t s) t (lattice.least t s t (lattice.reflexive t) h) (lattice.left t s)

fed_old_total_by : {V : Type 0} (b : Bool) (w n : ℕ) (vcmp : V → V → Ordering) (v : V) (fed more : List (V × ℕ)) → w ≡ sum_at vcmp fed v → n ≡ sum_at vcmp more v → sum_at vcmp ((if b then fed else []) ++ more) v ≡ (if b then 1 else 0) * w + n
fed_old_total_by true w n vcmp v fed more p q = sum_at-append vcmp fed more v ∙ omega (arith, p, q)
fed_old_total_by false w n vcmp v fed more p q = omega (arith, q)

-- a point that is above all marks at or below t
record Reach {T : Type 0} (leq : T → T → Bool) (Point : T → Type 0) (a t : T) (xs : List T) : Type 0 where
  at : T
  point : Point at
  above : IsTrue (leq a at)
  below : IsTrue (leq at t)
  marks : Every (λ x. IsTrue (leq x t) → IsTrue (leq x at)) xs

module _ {T V O : Type 0} (leq : T → T → Bool) (lub : T → T → T) (lattice : IsLattice leq lub) (tcmp : T → T → Ordering) (tsame : (x y : T) → tcmp x y ≡ Equal → x ≡ y) (titself : (x : T) → tcmp x x ≡ Equal) (vcmp : V → V → Ordering) (vsame : (x y : V) → vcmp x y ≡ Equal → x ≡ y) (vitself : (x : V) → vcmp x x ≡ Equal) where
  -- ---- what was fed before the seal accumulates to the same at t and at m, where m is above all old marks at or below t

  fed_old_total : (f t : T) (v : V) (old : List (Step T V O)) → IsTrue (leq f t) → sum_at vcmp (fed_to leq old t) v ≡ total (λ u. if leq u t then 1 else 0) (read_at lub vcmp f v old)
  fed_old_total f t v [] over = refl
  fed_old_total f t v (s ∷ ss) over = rw (read_leq leq lub lattice s.time f t over) (fed_old_total_by (leq s.time t) (sum_at vcmp s.fed v) _ vcmp v s.fed (fed_to leq ss t) refl (sym (fed_old_total f t v ss over)))

  module _ (f m t : T) (old : List (Step T V O)) (over : IsTrue (leq f m)) (below : IsTrue (leq m t)) (marked : (u : T) → Member u (old_marks lub tcmp vcmp f old) → IsTrue (leq u t) → IsTrue (leq u m)) where
    agree_by : (v : V) (u : T) (a b : Bool) → leq u t ≡ a → leq u m ≡ b → ((◌≡◌ {A = ℕ} (if a then 1 else 0) (if b then 1 else 0)) ⊎ (word tcmp (read_at lub vcmp f v old) u ≡ 0))
    agree_by v u true true p q = inl refl
    agree_by v u false false p q = inl refl
    agree_by v u false true p q = let h : false ≡ true = sym p ∙ lattice.transitive u m t q below in absurd (cc)
    agree_by v u true false p q = elim (zero_or (word tcmp (read_at lub vcmp f v old) u)) [
      | inl z ↦ inr z
      | inr n ↦ let h : false ≡ true = sym q ∙ marked u (old_mark_in lub tcmp tsame vcmp vsame f old u (record { value = v; nonzero = n })) p in absurd (cc)
    ]

    old_fed_same : Alike (fed_to leq old t) (fed_to leq old m)
    old_fed_same = Alike-words vcmp vsame vitself (fed_to leq old t) (fed_to leq old m) (record { words = λ v. rw (fed_old_total f t v old (lattice.transitive f m t over below), fed_old_total f m v old over) (total-agree tcmp tsame titself (λ u. if leq u t then 1 else 0) (λ u. if leq u m then 1 else 0) (read_at lub vcmp f v old) (λ u. agree_by v u (leq u t) (leq u m) refl refl)) })

  -- ---- and so does what came after it, where m is above all times at or below t of steps that have or made something

  module _ (m t : T) (below : IsTrue (leq m t)) where
    fed_part : (s : Step T V O) (a b : Bool) → leq s.time t ≡ a → leq s.time m ≡ b → ((s.fed ≡ []) ⊎ (IsTrue (leq s.time t) → IsTrue (leq s.time m))) → (if a then s.fed else []) ≡ (if b then s.fed else [])
    fed_part s true true p q h = refl
    fed_part s false false p q h = refl
    fed_part s false true p q h = let k : false ≡ true = sym p ∙ lattice.transitive s.time m t q below in absurd (cc)
    fed_part s true false p q (inl e) = e
    fed_part s true false p q (inr g) = let k : false ≡ true = sym q ∙ g p in absurd (cc)

    new_fed_same : (new : List (Step T V O)) → Every (λ s. (s.fed ≡ []) ⊎ (IsTrue (leq s.time t) → IsTrue (leq s.time m))) new → fed_to leq new t ≡ fed_to leq new m
    new_fed_same [] h = refl
    new_fed_same (s ∷ ss) h = ap (λ v. v ++ fed_to leq ss t) (fed_part s (leq s.time t) (leq s.time m) refl refl h.0) ∙ ap (λ v. (if leq s.time m then s.fed else []) ++ v) (new_fed_same ss h.1)

    made_part : (s : Step T V O) (a b : Bool) → leq s.time t ≡ a → leq s.time m ≡ b → (Alike s.made [] ⊎ (IsTrue (leq s.time t) → IsTrue (leq s.time m))) → Alike (if a then s.made else []) (if b then s.made else [])
    made_part s true true p q h = Alike-refl s.made
    made_part s false false p q h = Alike-refl []
    made_part s false true p q h = let k : false ≡ true = sym p ∙ lattice.transitive s.time m t q below in absurd (cc)
    made_part s true false p q (inl e) = e
    made_part s true false p q (inr g) = let k : false ≡ true = sym q ∙ g p in absurd (cc)

    new_made_same : (new : List (Step T V O)) → Every (λ s. Alike s.made [] ⊎ (IsTrue (leq s.time t) → IsTrue (leq s.time m))) new → Alike (made_to leq new t) (made_to leq new m)
    new_made_same [] h = Alike-refl []
    new_made_same (s ∷ ss) h = Alike-append (made_part s (leq s.time t) (leq s.time m) refl refl h.0) (new_made_same ss h.1)

  module _ (logic : List (V × ℕ) → List (O × ℕ)) (seal : T) (Mark Point Due : T → Type 0) (old new : List (Step T V O)) (key : KeyRun leq lub tcmp vcmp logic seal Mark Point Due old new) (t : T) (none : (d : T) → Due d → leq d t ≡ false) where
    reach_by : (x : T) (xs : List T) (a : T) (b : Bool) → leq x t ≡ b → Mark x → Point a → IsTrue (leq a t) → ((c : T) → Point c → IsTrue (leq c t) → Reach leq Point c t xs) → Reach leq Point a t (x ∷ xs)
    reach_by x xs a true p mark point low go =
        let in_t : IsTrue (leq (lub a x) t) = lattice.least a x t low p in
        elim (key.closed a x point mark) [
          | inl d ↦ (let h : false ≡ true = sym (none (lub a x) d) ∙ in_t in absurd (cc))
          | inr point' ↦ (let r : Reach leq Point (lub a x) t xs = go (lub a x) point' in_t in
              record {
                at = r.at;
                point = r.point;
                below = r.below;
                above = lattice.transitive a (lub a x) r.at (lattice.left a x) r.above;
                marks = (λ _. lattice.transitive x (lub a x) r.at (lattice.right a x) r.above, r.marks);
              })
        ]
    reach_by x xs a false p mark point low go =
        let r : Reach leq Point a t xs = go a point low in
        record { at = r.at; point = r.point; below = r.below; above = r.above; marks = (λ h. (let k : false ≡ true = sym p ∙ h in absurd (cc)), r.marks) }

    reach : (xs : List T) (a : T) → ((x : T) → Member x xs → Mark x) → Point a → IsTrue (leq a t) → Reach leq Point a t xs
    reach [] a f point low = record { at = a; point = point; above = lattice.reflexive a; below = low; marks = tt }
    reach (x ∷ xs) a f point low = reach_by x xs a (leq x t) refl (f x (inl refl)) point low (λ c. reach xs c (λ y m. f y (inr m)))

    marked_by : (m : T) → Every (λ x. IsTrue (leq x t) → IsTrue (leq x m)) (marks lub tcmp vcmp seal old new) → (x : T) → Member x (marks lub tcmp vcmp seal old new) → IsTrue (leq x t) → IsTrue (leq x m)
    marked_by m h x k = Every-member (λ x. IsTrue (leq x t) → IsTrue (leq x m)) (marks lub tcmp vcmp seal old new) x h k

    -- a step that has the key, at or below t, or none
    record FedBelow : Type 0 where
      at : T
      point : Point at
      below : IsTrue (leq at t)

    find_by : (s : Step T V O) (b : Bool) → leq s.time t ≡ b → ((s.fed ≡ []) ⊎ Point s.time) → FedBelow ⊎ ((s.fed ≡ []) ⊎ (leq s.time t ≡ false))
    find_by s true p (inl e) = inr (inl e)
    find_by s true p (inr k) = inl (record { at = s.time; point = k; below = p })
    find_by s false p h = inr (inr p)

    find : (ss : List (Step T V O)) → Every (λ s. (s.fed ≡ []) ⊎ Point s.time) ss → FedBelow ⊎ Every (λ s. (s.fed ≡ []) ⊎ (leq s.time t ≡ false)) ss
    find [] h = inr tt
    find (s ∷ ss) h = elim (find_by s (leq s.time t) refl h.0) [
      | inl w ↦ inl w
      | inr q ↦ elim (find ss h.1) [ inl w ↦ inl w | inr r ↦ inr (q, r) ]
    ]

    -- ---- where no step at or below t has the key

    quiet_fed : (ss : List (Step T V O)) → Every (λ s. (s.fed ≡ []) ⊎ (leq s.time t ≡ false)) ss → fed_to leq ss t ≡ []
    quiet_fed [] h = refl
    quiet_fed (s ∷ ss) h = ap (λ v. v ++ fed_to leq ss t) (part (leq s.time t) refl h.0) ∙ quiet_fed ss h.1 where
      part : (b : Bool) → leq s.time t ≡ b → ((s.fed ≡ []) ⊎ (leq s.time t ≡ false)) → (if b then s.fed else []) ≡ []
      part false p w = refl
      part true p (inl e) = e
      part true p (inr n) = let k : true ≡ false = sym p ∙ n in absurd (cc)

    quiet_part : ((u : T) → Member u (new_marks new) → leq u t ≡ false) → (s : Step T V O) (b : Bool) → leq s.time t ≡ b → (Alike s.made [] ⊎ IsPoint leq lub tcmp vcmp seal old new s.time) → Alike (if b then s.made else []) []
    quiet_part q s false p w = Alike-refl []
    quiet_part q s true p (inl e) = e
    quiet_part q s true p (inr l) = let k : false ≡ true = sym (q l.first l.is_new) ∙ lattice.transitive l.first s.time t l.is_below p in absurd (cc)

    quiet_made : ((u : T) → Member u (new_marks new) → leq u t ≡ false) → (ss : List (Step T V O)) → Every (λ s. Alike s.made [] ⊎ IsPoint leq lub tcmp vcmp seal old new s.time) ss → Alike (made_to leq ss t) []
    quiet_made q [] h = Alike-refl []
    quiet_made q (s ∷ ss) h = Alike-append (quiet_part q s (leq s.time t) refl h.0) (quiet_made q ss h.1)

    quiet_case : IsTrue (leq seal t) → Every (λ s. (s.fed ≡ []) ⊎ (leq s.time t ≡ false)) new → Alike (made_to leq (old ++ new) t) (logic (fed_to leq (old ++ new) t))
    quiet_case over q =
        let fed : fed_to leq (old ++ new) t ≡ fed_to leq old t = fed_to-append leq old new t ∙ ap (λ v. fed_to leq old t ++ v) (quiet_fed new q) ∙ append-nil (fed_to leq old t) in
        let made : Alike (made_to leq old t ++ made_to leq new t) (logic (fed_to leq old t) ++ []) = Alike-append (key.held t over) (quiet_made (λ u m. new_mark_has (λ u. leq u t ≡ false) new u q m) new key.made) in
        rw (made_to-append leq old new t, fed) (Alike-trans made (Alike-is (append-nil (logic (fed_to leq old t)))))

    -- ---- where one does

    busy_case : ((xs ys : List (V × ℕ)) → Alike xs ys → Alike (logic xs) (logic ys)) → IsTrue (leq seal t) → Every (λ s. IsTrue (leq seal s)) (times_of new) → FedBelow → Alike (made_to leq (old ++ new) t) (logic (fed_to leq (old ++ new) t))
    busy_case respects over above w =
        let r : Reach leq Point w.at t (marks lub tcmp vcmp seal old new) = reach (marks lub tcmp vcmp seal old new) w.at key.marked w.point w.below in
        let m : T = r.at in
        let up : IsTrue (leq seal m) = Every-member (λ s. IsTrue (leq seal s)) (times_of new) m above (key.stepped m r.point) in
        let old_fed : Alike (fed_to leq old t) (fed_to leq old m) = old_fed_same seal m t old up r.below (λ u k. marked_by m r.marks u (mark_old lub tcmp vcmp seal old new u k)) in
        let new_fed : fed_to leq new t ≡ fed_to leq new m = new_fed_same m t r.below new (fed_within m r.marks new (λ s k. k)) in
        let fed : Alike (fed_to leq (old ++ new) t) (fed_to leq (old ++ new) m) = rw (fed_to-append leq old new t, fed_to-append leq old new m, new_fed) (Alike-append old_fed (Alike-refl (fed_to leq new m))) in
        let old_made : Alike (made_to leq old t) (made_to leq old m) = Alike-trans (key.held t over) (Alike-trans (respects (fed_to leq old t) (fed_to leq old m) old_fed) (Alike-sym (key.held m up))) in
        let new_made : Alike (made_to leq new t) (made_to leq new m) = new_made_same m t r.below new (Every-map (λ s. Alike s.made [] ⊎ IsPoint leq lub tcmp vcmp seal old new s.time) (λ s. Alike s.made [] ⊎ (IsTrue (leq s.time t) → IsTrue (leq s.time m))) new (λ s v. elim v [ inl e ↦ inl e | inr l ↦ inr (λ low. l.least m up (λ x in_marks under. marked_by m r.marks x in_marks (lattice.transitive x s.time t under low))) ]) key.made) in
        let made : Alike (made_to leq (old ++ new) t) (made_to leq (old ++ new) m) = rw (made_to-append leq old new t, made_to-append leq old new m) (Alike-append old_made new_made) in
        Alike-trans made (Alike-trans (key.right m r.point) (Alike-sym (respects (fed_to leq (old ++ new) t) (fed_to leq (old ++ new) m) fed))) where
          fed_within : (m : T) → Every (λ x. IsTrue (leq x t) → IsTrue (leq x m)) (marks lub tcmp vcmp seal old new) → (ss : List (Step T V O)) → ((s : Step T V O) → Member s ss → Member s new) → Every (λ s. (s.fed ≡ []) ⊎ (IsTrue (leq s.time t) → IsTrue (leq s.time m))) ss
          fed_within m h [] f = tt
          fed_within m h (s ∷ ss) f = (elim (empty_or s.fed) [ inl e ↦ inl e | inr n ↦ inr (marked_by m h s.time (mark_new lub tcmp vcmp seal old new s.time (new_mark_in new s (f s (inl refl)) n))) ], fed_within m h ss (λ r k. f r (inr k)))

    -- where nothing is due at or below t, what was made of the key is the function of what was fed
    pub key_closed : ((xs ys : List (V × ℕ)) → Alike xs ys → Alike (logic xs) (logic ys)) → IsTrue (leq seal t) → Every (λ s. IsTrue (leq seal s)) (times_of new) → Alike (made_to leq (old ++ new) t) (logic (fed_to leq (old ++ new) t))
    key_closed respects over above = elim (find new key.fed) [ inl w ↦ busy_case respects over above w | inr q ↦ quiet_case over q ]

    -- and where no step was at or above t either, the key is not evaluated there
    pub key_idle : Every (λ s. IsTrue (leq seal s)) (times_of new) → NoneAbove leq t (times_of new) → is_evaluated leq lub tcmp vcmp seal t old new ≡ false
    key_idle above later = by (is_evaluated leq lub tcmp vcmp seal t old new) refl where
      by : (b : Bool) → is_evaluated leq lub tcmp vcmp seal t old new ≡ b → b ≡ false
      by false e = refl
      by true e =
          let l : IsPoint leq lub tcmp vcmp seal old new t = evaluated-lub leq lub lattice tcmp vcmp seal t old new tsame e in
          let r : Reach leq Point l.first t (marks lub tcmp vcmp seal old new) = reach (marks lub tcmp vcmp seal old new) l.first key.marked (new_mark_has Point new l.first key.fed l.is_new) l.is_below in
          let is_time : Member r.at (times_of new) = key.stepped r.at r.point in
          let low : IsTrue (leq t r.at) = l.least r.at (Every-member (λ s. IsTrue (leq seal s)) (times_of new) r.at above is_time) (marked_by r.at r.marks) in
          let no : leq t r.at ≡ false = Every-member (λ s. leq t s ≡ false) (times_of new) r.at later is_time in
          let f : true ≡ false = sym low ∙ no in
          absurd (cc)
