-- From what the parts of a step promise to what the step does.
use Rattle.std.proofs.Common.{◌≡◌, ◌≢◌, ◌∙◌, ℕ, ◌+◌, arith, Bool, true, false, List, [], ◌∷◌, ◌++◌, map, length, Ordering, refl, ap, sym, subst, inl, inr}
use Rattle.std.specs.Prelude.{◌⊎◌, IsTrue, filter, if◌then◌else◌}
use Rattle.std.proofs.lemmas.List.{append-nil}
use Rattle.lattice_time.specs.Lattice.{IsLattice}
use Rattle.std.specs.List.{Contains, AllByRecursion}
use Rattle.std.specs.List.Sorted.{IsStrictlySortedBy}
use Rattle.std.specs.Cmp.{Equal-is}
use Rattle.std.specs.Ordering.{is_eq, is_ne}
use Rattle.std.specs.declared.cmp.Ordering.TheVariants.{Less, Equal, Greater}
use Rattle.std.proofs.lemmas.Map.Keys.{sorted_head, sorted_tail}
use Rattle.weighted.specs.Alike.{Alike, Alike-is, Alike-refl}
use Rattle.weighted.specs.WordLaws.{mapped}
use Rattle.trace_store.specs.Traces.{at_time}
use Rattle.flow_core.specs.Runs.{Every, Member}
use Rattle.flow_core.specs.Lists.{Member-front, Member-back, Every-of, Member-split}
use Rattle.reduce_theory.specs.Evaluated.{key_part}
use Rattle.reduce_theory.specs.ByKey.{over}
use Rattle.reduce_theory.specs.Counts.{Apart}
use Rattle.reduce_theory.specs.Members.{Member-map, Member-passes, Member-unfiltered, Member-filtered, Source, source}
use Rattle.diff_reduce.specs.Stands.{Held, IsKept, due_times}
use Rattle.diff_reduce.specs.Changes.{correction, Stepped}
use Rattle.diff_reduce.specs.Later.{AreLater, IsCovered}
use Rattle.diff_reduce.proofs.Elements.{contains_member, member_contains}

-- ---- keys that rise stand there once

module _ {K : Type 0} (kcmp : K → K → Ordering) (itself : (x : K) → kcmp x x ≡ Equal) where
  above : (x y : K) (ks : List K) → AllByRecursion (λ z. kcmp x z ≡ Less) ks → Member y ks → kcmp x y ≡ Less
  above x y [] a m = absurd m
  above x y (k ∷ ks) a (inl e) = subst (λ v. kcmp x v ≡ Less) (sym e) a.0
  above x y (k ∷ ks) a (inr m) = above x y ks a.1 m

  pub rising_apart : (ks : List K) → IsStrictlySortedBy kcmp ks → Apart ks
  rising_apart [] r = tt
  rising_apart (k ∷ ks) r = ((λ m. (let e : Less ≡ Equal = sym (above k k ks (sorted_head kcmp k ks r) m) ∙ itself k in absurd (cc))), rising_apart ks (sorted_tail kcmp k ks r))

-- ---- the keys of a batch, and those that are due

module _ {K V : Type 0} (kcmp : K → K → Ordering) (same : (x y : K) → kcmp x y ≡ Equal → x ≡ y) (itself : (x : K) → kcmp x x ≡ Equal) where
  fed_by : (k : K) (e : (K × V) × ℕ) (es : List ((K × V) × ℕ)) (b : Bool) → is_eq (kcmp e.0.0 k) ≡ b → (if b then (e.0.1, e.1) ∷ key_part kcmp k es else key_part kcmp k es) ≢ [] → (key_part kcmp k es ≢ [] → Member k (map (λ e. e.0.0) es)) → Member k (map (λ e. e.0.0) (e ∷ es))
  fed_by k e es true p h go = inl (sym (same e.0.0 k ((Equal-is (kcmp e.0.0 k)).0 p)))
  fed_by k e es false p h go = inr (go h)

  fed_key : (k : K) (es : List ((K × V) × ℕ)) → key_part kcmp k es ≢ [] → Member k (map (λ e. e.0.0) es)
  fed_key k [] h = absurd (h refl)
  fed_key k (e ∷ es) h = fed_by k e es (is_eq (kcmp e.0.0 k)) refl h (fed_key k es)

  here_by : (k : K) (e : (K × V) × ℕ) (es : List ((K × V) × ℕ)) (b : Bool) → b ≡ true → (if b then (e.0.1, e.1) ∷ key_part kcmp k es else key_part kcmp k es) ≢ []
  here_by k e es true p h = absurd (cc)
  here_by k e es false p h = absurd (cc)

  there_by : (k : K) (e : (K × V) × ℕ) (es : List ((K × V) × ℕ)) (b : Bool) → key_part kcmp k es ≢ [] → (if b then (e.0.1, e.1) ∷ key_part kcmp k es else key_part kcmp k es) ≢ []
  there_by k e es true n h = absurd (cc)
  there_by k e es false n h = n h

  key_fed : (k : K) (es : List ((K × V) × ℕ)) → Member k (map (λ e. e.0.0) es) → key_part kcmp k es ≢ []
  key_fed k [] m = absurd m
  key_fed k (e ∷ es) (inl p) = here_by k e es (is_eq (kcmp e.0.0 k)) (subst (λ v. is_eq (kcmp v k) ≡ true) p (ap is_eq (itself k)))
  key_fed k (e ∷ es) (inr m) = there_by k e es (is_eq (kcmp e.0.0 k)) (key_fed k es m)

not_equal : (o : Ordering) → is_ne o ≡ true → o ≡ Equal → ⊥
not_equal Less h e = absurd (cc)
not_equal Equal h e = absurd (cc)
not_equal Greater h e = absurd (cc)

module _ {K T : Type 0} (tcmp : T → T → Ordering) (tsame : (x y : T) → tcmp x y ≡ Equal → x ≡ y) (titself : (x : T) → tcmp x x ≡ Equal) (t : T) where
  pub due_key : (k : K) (due : List (T × K)) → Member (t, k) due → Member k (map (λ d. d.1) (filter (λ d. is_eq (tcmp d.0 t)) due))
  due_key k due m = Member-map (λ d. d.1) (t, k) (filter (λ d. is_eq (tcmp d.0 t)) due) (Member-filtered (λ d. is_eq (tcmp d.0 t)) due (t, k) m (ap is_eq (titself t)))

  pub key_due : (k : K) (due : List (T × K)) → Member k (map (λ d. d.1) (filter (λ d. is_eq (tcmp d.0 t)) due)) → Member (t, k) due
  key_due k due m =
      let s : Source (λ d. d.1) (filter (λ d. is_eq (tcmp d.0 t)) due) k = source (λ d. d.1) (filter (λ d. is_eq (tcmp d.0 t)) due) k m in
      let at : s.from.0 ≡ t = tsame s.from.0 t ((Equal-is (tcmp s.from.0 t)).0 (Member-passes (λ d. is_eq (tcmp d.0 t)) due s.from s.is_in)) in
      let is : s.from ≡ (t, k) = ap (λ v. (v, s.from.1)) at ∙ ap (λ v. (t, v)) (sym s.gives) in
      subst (λ v. Member v due) is (Member-unfiltered (λ d. is_eq (tcmp d.0 t)) due s.from s.is_in)

  -- those at another time stay
  stays_by : (d : T) (k : K) (due : List (T × K)) (o : Ordering) → tcmp d t ≡ o → Member (d, k) due → (d ≡ t) ⊎ Member (d, k) (filter (λ p. is_ne (tcmp p.0 t)) due)
  stays_by d k due Equal e m = inl (tsame d t e)
  stays_by d k due Less e m = inr (Member-filtered (λ p. is_ne (tcmp p.0 t)) due (d, k) m (ap is_ne e))
  stays_by d k due Greater e m = inr (Member-filtered (λ p. is_ne (tcmp p.0 t)) due (d, k) m (ap is_ne e))

  stays : (d : T) (k : K) (due : List (T × K)) → Member (d, k) due → (d ≡ t) ⊎ Member (d, k) (filter (λ p. is_ne (tcmp p.0 t)) due)
  stays d k due m = stays_by d k due (tcmp d t) refl m

  stayed : (d : T) (k : K) (due : List (T × K)) → Member (d, k) (filter (λ p. is_ne (tcmp p.0 t)) due) → (d ≢ t) × Member (d, k) due
  stayed d k due m = ((λ e. not_equal (tcmp d t) (Member-passes (λ p. is_ne (tcmp p.0 t)) due (d, k) m) (subst (λ v. tcmp v t ≡ Equal) (sym e) (titself t))), Member-unfiltered (λ p. is_ne (tcmp p.0 t)) due (d, k) m)

module _ {K V O T : Type 0} (leq : T → T → Bool) (lub : T → T → T) (tcmp : T → T → Ordering) (tsame : (x y : T) → tcmp x y ≡ Equal → x ≡ y) (titself : (x : T) → tcmp x x ≡ Equal) (kcmp : K → K → Ordering) (ksame : (x y : K) → kcmp x y ≡ Equal → x ≡ y) (kitself : (x : K) → kcmp x x ≡ Equal) (vcmp : V → V → Ordering) (ocmp : O → O → Ordering) (gives : K → List (V × ℕ) → List (O × ℕ)) (old new : Held K V O T) (t : T) (delta : List ((K × V) × ℕ)) (made : List ((K × O) × ℕ)) (ks : List K) (more : List (K × T)) (left later : List (T × K)) where
  abbrev named : List K
  named = map (λ e. e.0.0) delta ++ map (λ d. d.1) (filter (λ d. is_eq (tcmp d.0 t)) old.due)

  called_key : ((k : K) → Contains named k → Contains ks k) → (k : K) → Member k named → Member k ks
  called_key each k m = contains_member ks k (each k (member_contains named k m))

  pub stepped : new.seal ≡ old.seal → Alike new.input (old.input ++ mapped (at_time t) delta) → Alike new.output (old.output ++ mapped (at_time t) made) → Alike made (over (correction leq kcmp vcmp ocmp gives t new.input old.output) ks) → new.charge ≡ old.charge + length ks → IsStrictlySortedBy kcmp ks → ((k : K) → Contains named k → Contains ks k) → ((k : K) → Contains ks k → Contains named k) → more ≡ map (λ k. (k, t)) ks → ((p : K × T) → Contains old.points p → Contains new.points p) → ((p : K × T) → Contains more p → Contains new.points p) → ((p : K × T) → Contains new.points p → Contains old.points p ⊎ Contains more p) → left ≡ filter (λ p. is_ne (tcmp p.0 t)) old.due → AreLater leq lub (IsKept tcmp kcmp vcmp new.input old.points) old.points t ks later → ((p : T × K) → Contains left p → Contains new.due p) → ((p : T × K) → Contains later p → Contains new.due p) → ((p : T × K) → Contains new.due p → Contains left p ⊎ Contains later p) → Stepped leq lub tcmp kcmp vcmp ocmp gives old new t delta made ks
  stepped seal input output corrected charge rising each only more_is points_old points_more points_only left_is are due_old due_more due_only = record {
    seal = seal;
    input = input;
    output = output;
    corrected = corrected;
    charge = charge;
    apart = rising_apart kcmp kitself ks rising;
    fed = λ k h. called_key each k (Member-front k (map (λ e. e.0.0) delta) (map (λ d. d.1) (filter (λ d. is_eq (tcmp d.0 t)) old.due)) (fed_key kcmp ksame kitself k delta h));
    called = λ k m. called_key each k (Member-back k (map (λ e. e.0.0) delta) (map (λ d. d.1) (filter (λ d. is_eq (tcmp d.0 t)) old.due)) (due_key tcmp tsame titself t k old.due m));
    why = λ k m. elim (Member-split k (map (λ e. e.0.0) delta) (map (λ d. d.1) (filter (λ d. is_eq (tcmp d.0 t)) old.due)) (contains_member named k (only k (member_contains ks k m)))) [ inl a ↦ inl (key_fed kcmp ksame kitself k delta a) | inr b ↦ inr (key_due tcmp tsame titself t k old.due b) ];
    points_kept = λ k a m. contains_member new.points (k, a) (points_old (k, a) (member_contains old.points (k, a) m));
    points_new = λ k m. contains_member new.points (k, t) (points_more (k, t) (member_contains more (k, t) (subst (λ v. Member (k, t) v) (sym more_is) (Member-map {B = K × T} (λ k. (k, t)) k ks m))));
    points_only = λ k a m. elim (points_only (k, a) (member_contains new.points (k, a) m)) [ inl o ↦ inl (contains_member old.points (k, a) o) | inr n ↦ inr (from_more k a (subst (λ v. Member (k, a) v) more_is (contains_member more (k, a) n))) ];
    due_kept = λ d k m. elim (stays tcmp tsame titself t d k old.due m) [ inl e ↦ inl e | inr l ↦ inr (contains_member new.due (d, k) (due_old (d, k) (member_contains left (d, k) (subst (λ v. Member (d, k) v) (sym left_is) l)))) ];
    due_new = λ k x m kept. in_new k x (are.each k x m kept);
    due_only = λ d k m. elim (due_only (d, k) (member_contains new.due (d, k) m)) [
      | inl o ↦ (let w = stayed tcmp tsame titself t d k old.due (subst (λ v. Member (d, k) v) left_is (contains_member left (d, k) o)) in (w.0, inl w.1))
      | inr n ↦ (let w = are.only d k (contains_member later (d, k) n) in (w.0, inr w.1))
    ];
  } where
    in_new : (k : K) (x : T) → (lub t x ≡ t) ⊎ (Member (lub t x, k) later ⊎ IsCovered leq lub old.points t k x) → (lub t x ≡ t) ⊎ (Member (lub t x, k) new.due ⊎ IsCovered leq lub old.points t k x)
    in_new k x (inl e) = inl e
    in_new k x (inr (inl l)) = inr (inl (contains_member new.due (lub t x, k) (due_more (lub t x, k) (member_contains later (lub t x, k) l))))
    in_new k x (inr (inr w)) = inr (inr w)

    from_more : (k : K) (a : T) → Member {A = K × T} (k, a) (map (λ k. (k, t)) ks) → Member k ks × (a ≡ t)
    from_more k a m =
        let at : K → K × T = λ k. (k, t) in
        let s : Source at ks (k, a) = source at ks (k, a) m in
        (subst (λ v. Member v ks) (sym (ap (λ v. v.0) s.gives)) s.is_in, ap (λ v. v.1) s.gives)

  -- a step that calls no key
  pub stepped_nothing : new.seal ≡ old.seal → Alike new.input (old.input ++ mapped (at_time t) delta) → new.output ≡ old.output → new.points ≡ old.points → new.due ≡ old.due → new.charge ≡ old.charge → ks ≡ [] → ((k : K) → Contains named k → Contains ks k) → Stepped leq lub tcmp kcmp vcmp ocmp gives old new t delta [] []
  stepped_nothing seal input output points due charge none each = record {
    seal = seal;
    input = input;
    output = Alike-is (output ∙ sym (append-nil old.output));
    corrected = Alike-refl [];
    charge = charge ∙ nothing_more old.charge;
    apart = tt;
    fed = λ k h. no_key k (called_key each k (Member-front k (map (λ e. e.0.0) delta) (map (λ d. d.1) (filter (λ d. is_eq (tcmp d.0 t)) old.due)) (fed_key kcmp ksame kitself k delta h)));
    called = λ k m. no_key k (called_now k m);
    why = λ k m. absurd m;
    points_kept = λ k a m. subst (λ v. Member (k, a) v) (sym points) m;
    points_new = λ k m. absurd m;
    points_only = λ k a m. inl (subst (λ v. Member (k, a) v) points m);
    due_kept = λ d k m. inr (subst (λ v. Member (d, k) v) (sym due) m);
    due_new = λ k x m. absurd m;
    due_only = λ d k m. ((λ e. absurd (no_key k (called_now k (subst (λ v. Member (v, k) old.due) e (subst (λ v. Member (d, k) v) due m))))), inl (subst (λ v. Member (d, k) v) due m));
  } where
    no_key : (k : K) → Member k ks → Member k []
    no_key k m = subst (λ v. Member k v) none m

    called_now : (k : K) → Member (t, k) old.due → Member k ks
    called_now k m = called_key each k (Member-back k (map (λ e. e.0.0) delta) (map (λ d. d.1) (filter (λ d. is_eq (tcmp d.0 t)) old.due)) (due_key tcmp tsame titself t k old.due m))

    nothing_more : (n : ℕ) → n ≡ n + 0
    nothing_more n = omega arith

-- each due time after a step was due before it, or is at or above it
pub stepped_due : {K V O T : Type 0} (leq : T → T → Bool) (lub : T → T → T) → IsLattice leq lub → (tcmp : T → T → Ordering) (kcmp : K → K → Ordering) (vcmp : V → V → Ordering) (ocmp : O → O → Ordering) (gives : K → List (V × ℕ) → List (O × ℕ)) (old new : Held K V O T) (t : T) (delta : List ((K × V) × ℕ)) (made : List ((K × O) × ℕ)) (ks : List K) → Stepped leq lub tcmp kcmp vcmp ocmp gives old new t delta made ks → Every (λ d. Member d (due_times old.due) ⊎ IsTrue (leq t d)) (due_times new.due)
stepped_due {K} {V} {O} {T} leq lub lattice tcmp kcmp vcmp ocmp gives old new t delta made ks c = Every-of (λ d. Member d (due_times old.due) ⊎ IsTrue (leq t d)) (due_times new.due) (λ d m.
    let first : T × K → T = λ e. e.0 in
    let s : Source first new.due d = source first new.due d m in
    subst (λ v. Member v (due_times old.due) ⊎ IsTrue (leq t v)) (sym s.gives) (elim (c.due_only s.from.0 s.from.1 s.is_in).1 [
      | inl a ↦ inl (Member-map first s.from old.due a)
      | inr b ↦ inr (subst (λ v. IsTrue (leq t v)) (sym b.1.2) (lattice.left t b.1.0))
    ]))
