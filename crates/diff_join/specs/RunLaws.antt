-- What a join answers, and the runs that it stands for after a step and a seal.
use Rattle.std.specs.Prelude.{◌≡◌, ℕ, ◌≤◌, Bool, true, false, IsTrue, List, [], ◌∷◌, ◌++◌, if◌then◌else◌, Option, refl}
use Rattle.std.specs.declared.cmp.Ordering.{Ordering}
use Rattle.std.proofs.Common.{arith, ap, sym, ◌∙◌, inl}
use Rattle.std.proofs.lemmas.List.{append-nil}
use Rattle.lattice_time.specs.Lattice.{IsLattice}
use Rattle.weighted.specs.WordLaws.{mapped}
use Rattle.weighted.specs.Alike.{Alike, Alike-refl, Alike-is, Alike-trans}
use Rattle.weighted.specs.Normal.{normal}
use Rattle.trace_store.specs.Traces.{accumulated, later}
use Rattle.flow_core.specs.declared.side.Side.{Side}
use Rattle.flow_core.specs.Runs.{Run, Answers, Every, Member, NoneBelow, IsLubOf, continued, sealed, empty_run, fed_to, made_to, times_of}
use Rattle.flow_core.specs.Lists.{Every-append, Every-map, Member-front, Member-back}
use Rattle.flow_core.specs.RunLaws.{times_of-append, fed_to_last, made_to_last}
use Rattle.diff_join.specs.Joins.{joined_sides, due_times}
use Rattle.diff_join.specs.Standing.{IsReadAs, StandsByProducts}
use Rattle.diff_join.specs.ListLaws.{Every-normal, Every-later, none_to}

module _ {T K A B O : Type 0} {leq : T → T → Bool} {lub : T → T → T} (lattice : IsLattice leq lub) (kcmp : K → K → Ordering) (gives : K → A → B → Option O) where
  -- a join that was not stepped yet
  pub join_fresh : (seal : T) → StandsByProducts leq lub (joined_sides kcmp gives) seal [] [] [] empty_run
  join_fresh seal = record {
    base = refl;
    free = tt;
    left_sums = λ u over. Alike-refl [];
    right_sums = λ u over. Alike-refl [];
    products = λ u over. Alike-refl [];
    left_times = tt;
    right_times = tt;
    lubs = tt;
    ahead = tt;
  }

  -- where nothing kept is at or below a time, nothing is missing there
  pub join_answers : (seal : T) (left : List (((K × A) × T) × ℕ)) (right : List (((K × B) × T) × ℕ)) (kept : List ((T × O) × ℕ)) (run : Run T (Side (K × A) (K × B)) O) → StandsByProducts leq lub (joined_sides kcmp gives) seal left right kept run → Answers leq lub (joined_sides kcmp gives) seal (due_times kept) run
  join_answers seal left right kept run h = record {
    closed = λ u over below. Alike-trans (Alike-is (sym (ap (λ v. made_to leq run.steps u ++ v) (none_to leq u kept below) ∙ append-nil (made_to leq run.steps u)))) (h.products u over);
    lubs = h.lubs;
    ahead = h.ahead;
  }

  pub join_paid : (seal : T) (left : List (((K × A) × T) × ℕ)) (right : List (((K × B) × T) × ℕ)) (kept : List ((T × O) × ℕ)) (run : Run T (Side (K × A) (K × B)) O) → StandsByProducts leq lub (joined_sides kcmp gives) seal left right kept run → run.base ≤ 0
  join_paid seal left right kept run h = let e : run.base ≡ 0 = h.base in omega arith

  -- ---- times, with one more

  pub read_more : (seal t : T) (times : List T) (s : T) → IsReadAs lub seal times s → IsReadAs lub seal (times ++ t ∷ []) s
  read_more seal t times s h = (h.0, Member-front h.0 times (t ∷ []) h.1, h.2)

  above_is : (seal t : T) → IsTrue (leq seal t) → t ≡ lub t seal
  above_is seal t over = lattice.antisymmetric t (lub t seal) (lattice.left t seal) (lattice.least t seal t (lattice.reflexive t) over)

  pub read_now : (seal t : T) (times : List T) → IsTrue (leq seal t) → IsReadAs lub seal (times ++ t ∷ []) t
  read_now seal t times over = (t, Member-back t times (t ∷ []) (inl refl), above_is seal t over)

  pub lub_more : (t : T) (times : List T) (d : T) → IsLubOf lub times d → IsLubOf lub (times ++ t ∷ []) d
  lub_more t times d h = record {
    first = h.first;
    others = h.others;
    first_is_time = Member-front h.first times (t ∷ []) h.first_is_time;
    others_are_times = Every-map (λ s. Member s times) (λ s. Member s (times ++ t ∷ [])) h.others (λ s m. Member-front s times (t ∷ []) m) h.others_are_times;
    is_lub = h.is_lub;
  }

  -- the bound of a time above the seal and one that is read as of the seal
  bound_read : (seal t r : T) → IsTrue (leq seal t) → lub (lub r seal) t ≡ lub r t
  bound_read seal t r over = lattice.antisymmetric (lub (lub r seal) t) (lub r t)
      (lattice.least (lub r seal) t (lub r t) (lattice.least r seal (lub r t) (lattice.left r t) (lattice.transitive seal t (lub r t) over (lattice.right r t))) (lattice.right r t))
      (lattice.least r t (lub (lub r seal) t) (lattice.transitive r (lub r seal) (lub (lub r seal) t) (lattice.left r seal) (lattice.left (lub r seal) t)) (lattice.right (lub r seal) t))

  -- what holds of the time of each new product
  abbrev pub IsNewTime : T → T → List T → T → Type 0
  IsNewTime seal t times d = IsLubOf lub times d × IsTrue (leq seal d) × IsTrue (leq t d)

  pub new_time : (seal t : T) (times : List T) (s : T) → IsTrue (leq seal t) → IsReadAs lub seal (times ++ t ∷ []) s → IsNewTime seal t (times ++ t ∷ []) (lub s t)
  new_time seal t times s over h = (
    record {
      first = h.0;
      others = t ∷ [];
      first_is_time = h.1;
      others_are_times = (Member-back t times (t ∷ []) (inl refl), tt);
      is_lub = ap (λ v. lub v t) h.2 ∙ bound_read seal t h.0 over;
    },
    lattice.transitive seal t (lub s t) over (lattice.right s t),
    lattice.right s t,
  )

  -- ---- a step that is fed nothing where nothing is due

  nothing_more : {R : Type 0} (b : Bool) (xs : List (R × ℕ)) → xs ++ (if b then [] else []) ≡ xs
  nothing_more true xs = append-nil xs
  nothing_more false xs = append-nil xs

  pub join_idle : (seal : T) (left : List (((K × A) × T) × ℕ)) (right : List (((K × B) × T) × ℕ)) (kept : List ((T × O) × ℕ)) (run : Run T (Side (K × A) (K × B)) O) (t : T) → StandsByProducts leq lub (joined_sides kcmp gives) seal left right kept run → NoneBelow leq t (due_times kept) → StandsByProducts leq lub (joined_sides kcmp gives) seal left right kept (continued run t [] [] 0)
  join_idle seal left right kept run t h below =
      let times : times_of (continued {I = Side (K × A) (K × B)} {O = O} run t [] [] 0).steps ≡ times_of run.steps ++ t ∷ [] = times_of-append run.steps (record { time = t; fed = []; made = []; charge = 0 } ∷ []) in
      let fed : (u : T) → fed_to leq (continued {I = Side (K × A) (K × B)} {O = O} run t [] [] 0).steps u ≡ fed_to leq run.steps u = λ u. fed_to_last leq run.steps (record { time = t; fed = []; made = []; charge = 0 }) u ∙ nothing_more (leq t u) (fed_to leq run.steps u) in
      let made : (u : T) → made_to leq (continued {I = Side (K × A) (K × B)} {O = O} run t [] [] 0).steps u ≡ made_to leq run.steps u = λ u. made_to_last leq run.steps (record { time = t; fed = []; made = []; charge = 0 }) u ∙ nothing_more (leq t u) (made_to leq run.steps u) in
      record {
        base = h.base;
        free = Every-append (λ s. s.charge ≡ 0) run.steps (record { time = t; fed = []; made = []; charge = 0 } ∷ []) h.free (refl, tt);
        left_sums = λ u over. rw (fed u) (h.left_sums u over);
        right_sums = λ u over. rw (fed u) (h.right_sums u over);
        products = λ u over. rw (fed u, made u) (h.products u over);
        left_times = rw times (Every-map (λ e. IsReadAs lub seal (times_of run.steps) e.0.1) (λ e. IsReadAs lub seal (times_of run.steps ++ t ∷ []) e.0.1) left (λ e r. read_more seal t (times_of run.steps) e.0.1 r) h.left_times);
        right_times = rw times (Every-map (λ e. IsReadAs lub seal (times_of run.steps) e.0.1) (λ e. IsReadAs lub seal (times_of run.steps ++ t ∷ []) e.0.1) right (λ e r. read_more seal t (times_of run.steps) e.0.1 r) h.right_times);
        lubs = rw times (Every-map (λ d. IsLubOf lub (times_of run.steps) d × IsTrue (leq seal d)) (λ d. IsLubOf lub (times_of run.steps ++ t ∷ []) d × IsTrue (leq seal d)) (due_times kept) (λ d w. (lub_more t (times_of run.steps) d w.0, w.1)) h.lubs);
        ahead = rw times (Every-append (λ s. NoneBelow leq s (due_times kept)) (times_of run.steps) (t ∷ []) h.ahead (below, tt));
      }

  -- ---- a seal

  sealed_read : (seal f : T) (times : List T) (s : T) → IsTrue (leq seal f) → IsReadAs lub seal times s → IsReadAs lub f times (lub s f)
  sealed_read seal f times s under h = (h.0, h.1, ap (λ v. lub v f) h.2 ∙ bound_read seal f h.0 under)

  sealed_times : {R : Type 0} (cmp : R × T → R × T → Ordering) (seal f : T) (times : List T) (old new : List ((R × T) × ℕ)) → IsTrue (leq seal f) → new ≡ normal cmp (mapped (later lub f) old) → Every (λ e. IsReadAs lub seal times e.0.1) old → Every (λ e. IsReadAs lub f times e.0.1) new
  sealed_times {R} cmp seal f times old new under is h = rw is (Every-normal cmp (λ r. IsReadAs lub f times r.1) (mapped (later lub f) old) (Every-later (λ s. IsReadAs lub seal times s) (λ s. IsReadAs lub f times s) lub f old (λ s w. sealed_read seal f times s under w) h))

  pub join_sealed : (lcmp : (K × A) × T → (K × A) × T → Ordering) (rcmp : (K × B) × T → (K × B) × T → Ordering) (seal f : T) (left sealed_left : List (((K × A) × T) × ℕ)) (right sealed_right : List (((K × B) × T) × ℕ)) (kept : List ((T × O) × ℕ)) (run : Run T (Side (K × A) (K × B)) O) → IsTrue (leq seal f) → due_times kept ≡ [] → sealed_left ≡ normal lcmp (mapped (later lub f) left) → ((u : T) → IsTrue (leq f u) → Alike (accumulated leq u sealed_left) (accumulated leq u left)) → sealed_right ≡ normal rcmp (mapped (later lub f) right) → ((u : T) → IsTrue (leq f u) → Alike (accumulated leq u sealed_right) (accumulated leq u right)) → StandsByProducts leq lub (joined_sides kcmp gives) seal left right kept run → StandsByProducts leq lub (joined_sides kcmp gives) f sealed_left sealed_right kept (sealed run 0)
  join_sealed lcmp rcmp seal f left sealed_left right sealed_right kept run under none lis lsums ris rsums h = record {
    base = refl;
    free = h.free;
    left_sums = λ u over. Alike-trans (lsums u over) (h.left_sums u (lattice.transitive seal f u under over));
    right_sums = λ u over. Alike-trans (rsums u over) (h.right_sums u (lattice.transitive seal f u under over));
    products = λ u over. h.products u (lattice.transitive seal f u under over);
    left_times = sealed_times lcmp seal f (times_of run.steps) left sealed_left under lis h.left_times;
    right_times = sealed_times rcmp seal f (times_of run.steps) right sealed_right under ris h.right_times;
    lubs = rw none tt;
    ahead = h.ahead;
  }
