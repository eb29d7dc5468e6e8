-- The runs that a join stands for after a step.
use Rattle.std.specs.Prelude.{◌≡◌, ◌≢◌, ℕ, ◌⊎◌, Bool, true, false, IsTrue, List, [], ◌∷◌, ◌++◌, if◌then◌else◌, Option, refl}
use Rattle.std.specs.declared.cmp.Ordering.{Ordering}
use Rattle.std.specs.declared.cmp.Ordering.TheVariants.{Equal}
use Rattle.std.specs.Cmp.{IsTotalOrder}
use Rattle.std.proofs.Common.{inl, inr}
use Rattle.lattice_time.specs.Lattice.{IsLattice}
use Rattle.weighted.specs.WordLaws.{mapped}
use Rattle.weighted.specs.Alike.{Alike, Alike-refl, Alike-sym, Alike-trans, Alike-append}
use Rattle.weighted.specs.SumLaws.{product, wrapped, Alike-wrapped}
use Rattle.weighted.specs.Normal.{normal}
use Rattle.trace_store.specs.Traces.{accumulated, at_time}
use Rattle.flow_core.specs.declared.side.Side.{Side}
use Rattle.flow_core.specs.Sides.{lefts, rights}
use Rattle.flow_core.specs.Runs.{Run, Every, Member, NoneAbove, NoneBelow, IsLubOf, continued, fed_to, made_to, times_of}
use Rattle.flow_core.specs.Lists.{Every-append, Every-map, Every-member, Every-of}
use Rattle.flow_core.specs.RunLaws.{times_of-append, fed_to_last, made_to_last}
use Rattle.diff_join.specs.Joins.{given, pairs, joined_sides, at_bound, products_to, products_at, products_after, due_times}
use Rattle.diff_join.specs.Standing.{IsReadAs, StandsByProducts}
use Rattle.diff_join.specs.ListLaws.{Every-normal, Every-at_time, due-append, due-wrapped, due_product}
use Rattle.diff_join.specs.BoundLaws.{Alike-at_bound, Alike-products_to, products_to-append, Alike-parted}
use Rattle.diff_join.specs.PairLaws.{turned_gives, Alike-turned, products_more, lefts_more, rights_more}
use Rattle.diff_join.specs.RunLaws.{IsNewTime, read_more, read_now, lub_more, new_time}

-- what differences at t give with the entries of a trace, each product at the bound of both times
abbrev pub products_of : {T X Y O : Type 0} → (T → T → T) → (X × Y → Option O) → T → List (X × ℕ) → List ((Y × T) × ℕ) → List ((T × O) × ℕ)
products_of lub f t xs es = wrapped (given (at_bound lub f t) (product xs es))

-- a trace after a batch at t
pub record IsInserted {R T : Type 0} (leq : T → T → Bool) (cmp : R × T → R × T → Ordering) (t : T) (batch : List (R × ℕ)) (old new : List ((R × T) × ℕ)) : Type 0 where
  pub value : new ≡ normal cmp (old ++ mapped (at_time t) batch)
  pub sums : (u : T) → Alike (accumulated leq u new) (accumulated leq u old ++ (if leq t u then batch else []))

-- what is kept after new products came, and those at t went out as made
pub record IsReleased {T O : Type 0} (tcmp : T → T → Ordering) (t : T) (old fresh new : List ((T × O) × ℕ)) (made : List (O × ℕ)) : Type 0 where
  pub made_is : Alike made (products_at tcmp t (old ++ fresh))
  pub rest : Alike new (products_after tcmp t (old ++ fresh))
  pub times : (d : T) → Member d (due_times new) → (Member d (due_times old) ⊎ Member d (due_times fresh)) × (d ≢ t)

module _ {T K A B O : Type 0} {leq : T → T → Bool} {lub : T → T → T} (lattice : IsLattice leq lub) (tcmp : T → T → Ordering) (tsame : (x y : T) → tcmp x y ≡ Equal → x ≡ y) (kcmp : K → K → Ordering) (order : IsTotalOrder kcmp) (ksame : (x y : K) → kcmp x y ≡ Equal → x ≡ y) (gives : K → A → B → Option O) where
  -- ---- the sums

  products_of_to : {X Y : Type 0} (f : X × Y → Option O) (t u : T) (xs : List (X × ℕ)) (es : List ((Y × T) × ℕ)) → Alike (products_to leq u (products_of lub f t xs es)) (if leq t u then given f (product xs (accumulated leq u es)) else [])
  products_of_to f t u xs es = Alike-trans (Alike-products_to leq u _ _ (Alike-wrapped (given (at_bound lub f t) (product xs es)))) (Alike-at_bound lattice f t u xs es)

  turned_part : (b : Bool) (l : List ((K × A) × ℕ)) (dr : List ((K × B) × ℕ)) → Alike (if b then given (pairs kcmp (turned_gives kcmp order ksame gives)) (product dr l) else []) (if b then given (pairs kcmp gives) (product l dr) else [])
  turned_part true l dr = Alike-turned kcmp order ksame gives l dr
  turned_part false l dr = Alike-refl []

  chosen_part : (b : Bool) (xs ys : List (O × ℕ)) → Alike xs ys → Alike (if b then xs else []) (if b then ys else [])
  chosen_part true xs ys h = h
  chosen_part false xs ys h = Alike-refl []

  released_to : (t u : T) (old fresh new : List ((T × O) × ℕ)) (first second : List ((T × O) × ℕ)) (made : List (O × ℕ)) → fresh ≡ first ++ second → IsReleased tcmp t old fresh new made → Alike (products_to leq u old ++ (products_to leq u first ++ products_to leq u second)) ((if leq t u then made else []) ++ products_to leq u new)
  released_to t u old fresh new first second made is r =
      let both : Alike (products_to leq u fresh) (products_to leq u first ++ products_to leq u second) = rw is (products_to-append leq u first second) in
      let parts : Alike (products_to leq u old ++ products_to leq u fresh) (products_to leq u old ++ (products_to leq u first ++ products_to leq u second)) = Alike-append (Alike-refl (products_to leq u old)) both in
      let whole : Alike (products_to leq u (old ++ fresh)) (products_to leq u old ++ products_to leq u fresh) = products_to-append leq u old fresh in
      let cut : Alike (products_to leq u (old ++ fresh)) ((if leq t u then products_at tcmp t (old ++ fresh) else []) ++ products_to leq u (products_after tcmp t (old ++ fresh))) = Alike-parted leq tcmp tsame t u (old ++ fresh) in
      let out : Alike ((if leq t u then made else []) ++ products_to leq u new) ((if leq t u then products_at tcmp t (old ++ fresh) else []) ++ products_to leq u (products_after tcmp t (old ++ fresh))) = Alike-append (chosen_part (leq t u) made (products_at tcmp t (old ++ fresh)) r.made_is) (Alike-products_to leq u new (products_after tcmp t (old ++ fresh)) r.rest) in
      Alike-trans (Alike-sym (Alike-trans whole parts)) (Alike-trans cut (Alike-sym out))

  -- ---- the times

  inserted_times : {R : Type 0} (cmp : R × T → R × T → Ordering) (seal t : T) (times : List T) (batch : List (R × ℕ)) (old new : List ((R × T) × ℕ)) → IsTrue (leq seal t) → IsInserted leq cmp t batch old new → Every (λ e. IsReadAs lub seal times e.0.1) old → Every (λ e. IsReadAs lub seal (times ++ t ∷ []) e.0.1) new
  inserted_times {R} cmp seal t times batch old new over i h = rw (i.value) (Every-normal cmp (λ r. IsReadAs lub seal (times ++ t ∷ []) r.1) (old ++ mapped (at_time t) batch) (Every-append (λ e. IsReadAs lub seal (times ++ t ∷ []) e.0.1) old (mapped (at_time t) batch)
      (Every-map (λ e. IsReadAs lub seal times e.0.1) (λ e. IsReadAs lub seal (times ++ t ∷ []) e.0.1) old (λ e w. read_more lattice kcmp gives seal t times e.0.1 w) h)
      (Every-at_time (λ s. IsReadAs lub seal (times ++ t ∷ []) s) t batch (read_now lattice kcmp gives seal t times over))))

  new_times : {X Y : Type 0} (f : X × Y → Option O) (seal t : T) (times : List T) (xs : List (X × ℕ)) (es : List ((Y × T) × ℕ)) → IsTrue (leq seal t) → Every (λ e. IsReadAs lub seal (times ++ t ∷ []) e.0.1) es → Every (IsNewTime lattice kcmp gives seal t (times ++ t ∷ [])) (due_times (products_of lub f t xs es))
  new_times f seal t times xs es over h = rw (due-wrapped (given (at_bound lub f t) (product xs es))) (due_product (IsNewTime lattice kcmp gives seal t (times ++ t ∷ [])) lub f t xs es (Every-map (λ e. IsReadAs lub seal (times ++ t ∷ []) e.0.1) (λ e. IsNewTime lattice kcmp gives seal t (times ++ t ∷ []) (lub e.0.1 t)) es (λ e w. new_time lattice kcmp gives seal t times e.0.1 over w) h))

  -- each due time was due before, or is new; and t is not among them
  due_cases : (Q : T → Type 0) (t : T) (old fresh new : List ((T × O) × ℕ)) (made : List (O × ℕ)) → IsReleased tcmp t old fresh new made → Every Q (due_times fresh) → (d : T) → Member d (due_times new) → (Member d (due_times old) ⊎ Q d) × (d ≢ t)
  due_cases Q t old fresh new made r h d m = (elim (r.times d m).0 [ inl o ↦ inl o | inr n ↦ inr (Every-member Q (due_times fresh) d h n) ], (r.times d m).1)

  not_true : (b : Bool) → (IsTrue b → ⊥) → b ≡ false
  not_true true f = absurd (f refl)
  not_true false f = refl

  false_not : (b : Bool) → b ≡ false → IsTrue b → ⊥
  false_not b h k = let e : b ≡ true = k in absurd (cc)

  module _ (seal t : T) (left new_left : List (((K × A) × T) × ℕ)) (right new_right : List (((K × B) × T) × ℕ)) (old fresh new : List ((T × O) × ℕ)) (run : Run T (Side (K × A) (K × B)) O) (fed : List (Side (K × A) (K × B) × ℕ)) (made : List (O × ℕ)) (dl : List ((K × A) × ℕ)) (dr : List ((K × B) × ℕ)) (lcmp : (K × A) × T → (K × A) × T → Ordering) (rcmp : (K × B) × T → (K × B) × T → Ordering)
      (over : IsTrue (leq seal t))
      (dl_is : Alike dl (lefts fed)) (dr_is : Alike dr (rights fed))
      (linserted : IsInserted leq lcmp t dl left new_left) (rinserted : IsInserted leq rcmp t dr right new_right)
      (fresh_is : fresh ≡ products_of lub (pairs kcmp gives) t dl new_right ++ products_of lub (pairs kcmp (turned_gives kcmp order ksame gives)) t dr left)
      (released : IsReleased tcmp t old fresh new made)
      (h : StandsByProducts leq lub (joined_sides kcmp gives) seal left right old run) where
    fresh_times : Every (IsNewTime lattice kcmp gives seal t (times_of run.steps ++ t ∷ [])) (due_times fresh)
    fresh_times = rw (fresh_is, due-append (products_of lub (pairs kcmp gives) t dl new_right) (products_of lub (pairs kcmp (turned_gives kcmp order ksame gives)) t dr left)) (Every-append (IsNewTime lattice kcmp gives seal t (times_of run.steps ++ t ∷ [])) (due_times (products_of lub (pairs kcmp gives) t dl new_right)) (due_times (products_of lub (pairs kcmp (turned_gives kcmp order ksame gives)) t dr left))
        (new_times (pairs kcmp gives) seal t (times_of run.steps) dl new_right over (inserted_times rcmp seal t (times_of run.steps) dr right new_right over rinserted h.right_times))
        (new_times (pairs kcmp (turned_gives kcmp order ksame gives)) seal t (times_of run.steps) dr left over (Every-map (λ e. IsReadAs lub seal (times_of run.steps) e.0.1) (λ e. IsReadAs lub seal (times_of run.steps ++ t ∷ []) e.0.1) left (λ e w. read_more lattice kcmp gives seal t (times_of run.steps) e.0.1 w) h.left_times)))

    -- each due time was due before, or is at or above t
    pub join_due : Every (λ d. Member d (due_times old) ⊎ IsTrue (leq t d)) (due_times new)
    join_due = Every-of (λ d. Member d (due_times old) ⊎ IsTrue (leq t d)) (due_times new) (λ d m. elim (due_cases (IsNewTime lattice kcmp gives seal t (times_of run.steps ++ t ∷ [])) t old fresh new made released fresh_times d m).0 [ inl o ↦ inl o | inr n ↦ inr n.2 ])

    sums_to : (u : T) → IsTrue (leq seal u) → Alike ((made_to leq run.steps u ++ (if leq t u then made else [])) ++ products_to leq u new) (joined_sides kcmp gives (fed_to leq run.steps u ++ (if leq t u then fed else [])))
    sums_to u above = products_more kcmp gives (leq t u) (made_to leq run.steps u) made (products_to leq u old) (products_to leq u new) (products_to leq u (products_of lub (pairs kcmp gives) t dl new_right)) (products_to leq u (products_of lub (pairs kcmp (turned_gives kcmp order ksame gives)) t dr left)) (fed_to leq run.steps u) fed (accumulated leq u left) dl (accumulated leq u right) dr (accumulated leq u new_right)
        (h.products u above) (h.left_sums u above) (h.right_sums u above) (rinserted.sums u) dl_is dr_is
        (products_of_to (pairs kcmp gives) t u dl new_right)
        (Alike-trans (products_of_to (pairs kcmp (turned_gives kcmp order ksame gives)) t u dr left) (turned_part (leq t u) (accumulated leq u left) dr))
        (released_to t u old fresh new (products_of lub (pairs kcmp gives) t dl new_right) (products_of lub (pairs kcmp (turned_gives kcmp order ksame gives)) t dr left) made fresh_is released)

    lubs_now : Every (λ d. IsLubOf lub (times_of run.steps ++ t ∷ []) d × IsTrue (leq seal d)) (due_times new)
    lubs_now = Every-of (λ d. IsLubOf lub (times_of run.steps ++ t ∷ []) d × IsTrue (leq seal d)) (due_times new) (λ d m. elim (due_cases (IsNewTime lattice kcmp gives seal t (times_of run.steps ++ t ∷ [])) t old fresh new made released fresh_times d m).0 [
      | inl o ↦ (let w : IsLubOf lub (times_of run.steps) d × IsTrue (leq seal d) = Every-member (λ e. IsLubOf lub (times_of run.steps) e × IsTrue (leq seal e)) (due_times old) d h.lubs o in (lub_more lattice kcmp gives t (times_of run.steps) d w.0, w.1))
      | inr n ↦ (n.0, n.1)
    ])

    -- no new product stands at or below an earlier time, since it stands above t
    ahead_before : NoneAbove leq t (times_of run.steps) → Every (λ s. NoneBelow leq s (due_times new)) (times_of run.steps)
    ahead_before above = Every-of (λ s. NoneBelow leq s (due_times new)) (times_of run.steps) (λ s k. Every-of (λ d. leq d s ≡ false) (due_times new) (λ d m. elim (due_cases (IsNewTime lattice kcmp gives seal t (times_of run.steps ++ t ∷ [])) t old fresh new made released fresh_times d m).0 [
      | inl o ↦ Every-member (λ e. leq e s ≡ false) (due_times old) d (Every-member (λ v. NoneBelow leq v (due_times old)) (times_of run.steps) s h.ahead k) o
      | inr n ↦ not_true (leq d s) (λ w. false_not (leq t s) (Every-member (λ v. leq t v ≡ false) (times_of run.steps) s above k) (lattice.transitive t d s n.2 w))
    ]))

    -- nor at or below t, since what stands at t went out
    ahead_now : Every (λ d. IsTrue (leq d t) → d ≡ t) (due_times old) → NoneBelow leq t (due_times new)
    ahead_now due = Every-of (λ d. leq d t ≡ false) (due_times new) (λ d m.
        let w : (Member d (due_times old) ⊎ IsNewTime lattice kcmp gives seal t (times_of run.steps ++ t ∷ []) d) × (d ≢ t) = due_cases (IsNewTime lattice kcmp gives seal t (times_of run.steps ++ t ∷ [])) t old fresh new made released fresh_times d m in
        not_true (leq d t) (λ k. elim w.0 [
          | inl o ↦ w.1 (Every-member (λ e. IsTrue (leq e t) → e ≡ t) (due_times old) d due o k)
          | inr n ↦ w.1 (lattice.antisymmetric d t k n.2)
        ]))

    pub join_continued : NoneAbove leq t (times_of run.steps) → Every (λ d. IsTrue (leq d t) → d ≡ t) (due_times old) → StandsByProducts leq lub (joined_sides kcmp gives) seal new_left new_right new (continued run t fed made 0)
    join_continued above due =
        let times : times_of (continued run t fed made 0).steps ≡ times_of run.steps ++ t ∷ [] = times_of-append run.steps (record { time = t; fed = fed; made = made; charge = 0 } ∷ []) in
        record {
          base = h.base;
          free = Every-append (λ s. s.charge ≡ 0) run.steps (record { time = t; fed = fed; made = made; charge = 0 } ∷ []) h.free (refl, tt);
          left_sums = λ u up. rw (fed_to_last leq run.steps (record { time = t; fed = fed; made = made; charge = 0 }) u) (Alike-trans (linserted.sums u) (lefts_more kcmp gives (leq t u) (fed_to leq run.steps u) fed (accumulated leq u left) dl (h.left_sums u up) dl_is));
          right_sums = λ u up. rw (fed_to_last leq run.steps (record { time = t; fed = fed; made = made; charge = 0 }) u) (Alike-trans (rinserted.sums u) (rights_more kcmp gives (leq t u) (fed_to leq run.steps u) fed (accumulated leq u right) dr (h.right_sums u up) dr_is));
          products = λ u up. rw (made_to_last leq run.steps (record { time = t; fed = fed; made = made; charge = 0 }) u, fed_to_last leq run.steps (record { time = t; fed = fed; made = made; charge = 0 }) u) (sums_to u up);
          left_times = rw times (inserted_times lcmp seal t (times_of run.steps) dl left new_left over linserted h.left_times);
          right_times = rw times (inserted_times rcmp seal t (times_of run.steps) dr right new_right over rinserted h.right_times);
          lubs = rw times lubs_now;
          ahead = rw times (Every-append (λ s. NoneBelow leq s (due_times new)) (times_of run.steps) (t ∷ []) (ahead_before above) (ahead_now due, tt));
        }
