-- A step of a reduce, a step that is left out, and a seal: the runs for which it stands afterwards.
use Rattle.std.specs.Prelude.{◌≡◌, ℕ, ◌-◌, Bool, true, false, IsTrue, List, [], ◌∷◌, ◌++◌, if◌then◌else◌, refl}
use Rattle.std.specs.declared.cmp.Ordering.{Ordering}
use Rattle.std.specs.declared.cmp.Ordering.TheVariants.{Equal}
use Rattle.std.specs.Cmp.{IsTotalOrder}
use Rattle.std.proofs.Common.{ap, sym, subst, ◌∙◌, append-nil}
use Rattle.lattice_time.specs.Lattice.{IsLattice}
use Rattle.weighted.specs.Alike.{Alike, Alike-is, Alike-refl, Alike-sym, Alike-trans, Alike-append}
use Rattle.weighted.specs.Batches.{IsBatch}
use Rattle.weighted.specs.Normal.{normal, normal-Alike}
use Rattle.weighted.specs.WordLaws.{mapped}
use Rattle.trace_store.specs.Traces.{at_time, in_turn, later, values_of}
use Rattle.trace_store.specs.Traces.{accumulated as held_at}
use Rattle.trace_store.specs.TraceLaws.{Alike-accumulated, accumulated-append, accumulated-at_time}
use Rattle.flow_core.specs.Runs.{Step, Run, Every, Member, NoneAbove, NoneBelow, fed_of, made_of, times_of, empty_run, continued, sealed}
use Rattle.flow_core.specs.Lists.{Every-append}
use Rattle.flow_core.specs.RunLaws.{fed_of-append, made_of-append}
use Rattle.reduce_theory.specs.Evaluated.{key_part, has_key}
use Rattle.reduce_theory.specs.Members.{Member-map}
use Rattle.reduce_theory.specs.KeyLaws.{lub_above}
use Rattle.reduce_theory.specs.ByKey.{pick, over, absent, present, at_each_key, part-append}
use Rattle.reduce_theory.specs.Counts.{apart_distinct, member_has, has_member}
use Rattle.reduce_theory.specs.Kept.{Store, Advances, Closes}
use Rattle.reduce_theory.specs.KeptSteps.{advance_keeps, idle_keeps, close_keeps, empty_keeps}
use Rattle.diff_reduce.specs.Stands.{Held, due_times, store_of, timed, Stands}
use Rattle.diff_reduce.specs.Changes.{correction, Stepped, Sealed}
use Rattle.diff_reduce.specs.TimedLaws.{values-are, timed_last, held_is, sealed_is, IsTimeOf-alike, time_is_mark, mark_is_time, time_stays, time_was}
use Rattle.diff_reduce.specs.StandsLaws.{due_each}

not_true : (b : Bool) → (b ≡ true → ⊥) → b ≡ false
not_true true h = absurd (h refl)
not_true false h = refl

module _ {K T : Type 0} (leq : T → T → Bool) (kcmp : K → K → Ordering) (ksame : (x y : K) → kcmp x y ≡ Equal → x ≡ y) (kitself : (x : K) → kcmp x x ≡ Equal) where
  -- the values of a key in alike lists
  pub values-alike : {R : Type 0} (k : K) (xs ys : List ((K × R) × ℕ)) → Alike xs ys → Alike (values_of kcmp k xs) (values_of kcmp k ys)
  values-alike k xs ys a = rw (values-are kcmp k xs, values-are kcmp k ys) (at_each_key kcmp ksame kitself xs ys a k)

  -- one more batch adds what it has of a key, from its time on
  pub values_more : {R : Type 0} (t u : T) (held new : List (((K × R) × T) × ℕ)) (delta : List ((K × R) × ℕ)) (k : K) → Alike new (held ++ mapped (at_time t) delta) → Alike (values_of kcmp k (held_at leq u new)) (values_of kcmp k (held_at leq u held) ++ (if leq t u then key_part kcmp k delta else []))
  values_more t u held new delta k a =
      let whole : held_at leq u (held ++ mapped (at_time t) delta) ≡ held_at leq u held ++ (if leq t u then delta else []) = accumulated-append leq u held (mapped (at_time t) delta) ∙ ap (λ v. held_at leq u held ++ v) (accumulated-at_time leq t u delta) in
      Alike-trans (values-alike k (held_at leq u new) (held_at leq u held ++ (if leq t u then delta else [])) (Alike-trans (Alike-accumulated leq u new (held ++ mapped (at_time t) delta) a) (Alike-is whole)))
      (Alike-is (values-are kcmp k (held_at leq u held ++ (if leq t u then delta else [])) ∙ part-append kcmp ksame kitself k (held_at leq u held) (if leq t u then delta else []) ∙ ap (λ v. v ++ key_part kcmp k (if leq t u then delta else [])) (sym (values-are kcmp k (held_at leq u held))) ∙ ap (λ v. values_of kcmp k (held_at leq u held) ++ v) (sym (pick kcmp k (leq t u) delta))))

module _ {K V O T : Type 0} (leq : T → T → Bool) (lub : T → T → T) (lattice : IsLattice leq lub) (tcmp : T → T → Ordering) (tsame : (x y : T) → tcmp x y ≡ Equal → x ≡ y) (titself : (x : T) → tcmp x x ≡ Equal) (kcmp : K → K → Ordering) (ksame : (x y : K) → kcmp x y ≡ Equal → x ≡ y) (kitself : (x : K) → kcmp x x ≡ Equal) (vcmp : V → V → Ordering) (vtotal : IsTotalOrder vcmp) (vsame : (x y : V) → vcmp x y ≡ Equal → x ≡ y) (ocmp : O → O → Ordering) (ototal : IsTotalOrder ocmp) (osame : (x y : O) → ocmp x y ≡ Equal → x ≡ y) (gives : K → List (V × ℕ) → List (O × ℕ)) (nothing : (k : K) → gives k [] ≡ []) where
  abbrev store : Held K V O T → Store K V O T
  store held = store_of leq tcmp kcmp vcmp held

  -- ---- a step

  module _ (held new : Held K V O T) (run : Run T (K × V) (K × O)) (h : Stands leq lub tcmp kcmp vcmp gives held run) (t : T) (delta : List ((K × V) × ℕ)) (made : List ((K × O) × ℕ)) (ks : List K) (c : Stepped leq lub tcmp kcmp vcmp ocmp gives held new t delta made ks) (later : NoneAbove leq t (times_of run.steps)) (over_seal : IsTrue (leq held.seal t)) (ready : Every (λ d. IsTrue (leq d t) → d ≡ t) (due_times held.due)) where
    abbrev last : Step T (K × V) (K × O)
    last = record { time = t; fed = delta; made = made; charge = new.charge - held.charge }

    -- the traces
    at_seal : lub t held.seal ≡ t
    at_seal = lub_above leq lub lattice held.seal t over_seal

    input_is : Alike new.input (timed lub held.seal (fed_of (run.steps ++ last ∷ [])))
    input_is = Alike-trans c.input (Alike-trans (Alike-append h.input (Alike-refl (mapped (at_time t) delta))) (Alike-is (sym (ap (timed lub held.seal) (fed_of-append run.steps (last ∷ [])) ∙ timed_last leq lub lattice held.seal t (fed_of run.steps) delta at_seal))))

    output_is : Alike new.output (timed lub held.seal (made_of (run.steps ++ last ∷ [])))
    output_is = Alike-trans c.output (Alike-trans (Alike-append h.output (Alike-refl (mapped (at_time t) made))) (Alike-is (sym (ap (timed lub held.seal) (made_of-append run.steps (last ∷ [])) ∙ timed_last leq lub lattice held.seal t (made_of run.steps) made at_seal))))

    -- what was made, key by key
    made_part : (k : K) → Member k ks → Alike (key_part kcmp k made) (correction leq kcmp vcmp ocmp gives t new.input held.output k)
    made_part k m = Alike-trans (at_each_key kcmp ksame kitself made (over (correction leq kcmp vcmp ocmp gives t new.input held.output) ks) c.corrected k) (Alike-is (present kcmp ksame kitself (correction leq kcmp vcmp ocmp gives t new.input held.output) ks k (apart_distinct kcmp ksame kitself ks c.apart) (has_member kcmp ksame kitself k ks m)))

    made_none : (k : K) → (Member k ks → ⊥) → Alike (key_part kcmp k made) []
    made_none k n = Alike-trans (at_each_key kcmp ksame kitself made (over (correction leq kcmp vcmp ocmp gives t new.input held.output) ks) c.corrected k) (Alike-is (absent kcmp ksame kitself (correction leq kcmp vcmp ocmp gives t new.input held.output) ks k (not_true (has_key kcmp k ks) (λ b. n (member_has kcmp ksame kitself k ks b)))))

    advanced : Advances leq lub kcmp vcmp gives (store held) (store new) t delta made ks
    advanced = record {
      seal = c.seal;
      charge = c.charge;
      fed = λ k u ws m. (values_of kcmp k (held_at leq u held.input), Alike-refl (values_of kcmp k (held_at leq u held.input)), Alike-trans m (values_more leq kcmp ksame kitself t u held.input new.input delta k c.input));
      more = λ k u ws m. (values_of kcmp k (held_at leq u held.output), Alike-refl (values_of kcmp k (held_at leq u held.output)), Alike-trans m (values_more leq kcmp ksame kitself t u held.output new.output made k c.output));
      time_stays = λ k u m. time_stays kcmp vcmp tcmp k tsame t u held.input new.input delta c.input m;
      time_was = λ k u m. time_was kcmp vcmp tcmp k tsame t u held.input new.input delta c.input m;
      corrected = λ k m. (values_of kcmp k (held_at leq t new.input), normal ocmp (values_of kcmp k (held_at leq t held.output)), Alike-refl (values_of kcmp k (held_at leq t new.input)), normal-Alike ocmp ototal osame (values_of kcmp k (held_at leq t held.output)), made_part k m);
      others = made_none;
      apart = c.apart;
      called_fed = c.fed;
      called_due = c.called;
      why = c.why;
      points_kept = c.points_kept;
      points_new = c.points_new;
      points_only = c.points_only;
      due_kept = λ k d m. c.due_kept d k m;
      due_new = c.due_new;
      due_only = λ k d m. c.due_only d k m;
    }

    pub step_stands : IsBatch (in_turn kcmp vcmp) delta → Stands leq lub tcmp kcmp vcmp gives new (continued run t delta made (new.charge - held.charge))
    step_stands batch = record {
      batches = Every-append (λ s. IsBatch (in_turn kcmp vcmp) s.fed) run.steps (last ∷ []) h.batches (batch, tt);
      input = rw c.seal input_is;
      output = rw c.seal output_is;
      keeps = advance_keeps leq lub lattice tcmp tsame titself kcmp ksame kitself vcmp vtotal vsame gives nothing (store held) (store new) run h.keeps t delta made ks advanced later over_seal (due_each held.due (λ d. IsTrue (leq d t) → d ≡ t) ready);
    }

  -- ---- a step that is fed nothing where nothing is due

  pub idle_stands : (held : Held K V O T) (run : Run T (K × V) (K × O)) (t : T) → Stands leq lub tcmp kcmp vcmp gives held run → NoneAbove leq t (times_of run.steps) → IsTrue (leq held.seal t) → NoneBelow leq t (due_times held.due) → Stands leq lub tcmp kcmp vcmp gives held (continued run t [] [] 0)
  idle_stands held run t h later over_seal none = record {
    batches = Every-append (λ s. IsBatch (in_turn kcmp vcmp) s.fed) run.steps (record { time = t; fed = []; made = []; charge = 0 } ∷ []) h.batches (record { rising = tt; weighty = tt }, tt);
    input = Alike-trans h.input (Alike-is (sym (ap (timed lub held.seal) (fed_of-append run.steps (record { time = t; fed = []; made = []; charge = 0 } ∷ [])) ∙ timed_last leq lub lattice held.seal t (fed_of run.steps) [] at_seal ∙ append-nil (timed lub held.seal (fed_of run.steps)))));
    output = Alike-trans h.output (Alike-is (sym (ap (timed lub held.seal) (made_of-append run.steps (record { time = t; fed = []; made = []; charge = 0 } ∷ [])) ∙ timed_last leq lub lattice held.seal t (made_of run.steps) [] at_seal ∙ append-nil (timed lub held.seal (made_of run.steps)))));
    keeps = idle_keeps leq lub lattice tcmp tsame titself kcmp ksame kitself vcmp vtotal vsame gives nothing (store held) run t h.keeps later over_seal (due_each held.due (λ d. leq d t ≡ false) none);
  } where
    at_seal : lub t held.seal ≡ t
    at_seal = lub_above leq lub lattice held.seal t over_seal

  -- ---- a seal, at which nothing is due

  pub seal_stands : (held new : Held K V O T) (run : Run T (K × V) (K × O)) (f : T) → Stands leq lub tcmp kcmp vcmp gives held run → Sealed lub held new f → due_times held.due ≡ [] → IsTrue (leq held.seal f) → Stands leq lub tcmp kcmp vcmp gives new (sealed run held.charge)
  seal_stands held new run f h c none up = record {
    batches = h.batches;
    input = rw c.seal now_input;
    output = rw c.seal now_output;
    keeps = close_keeps leq lub lattice tcmp tsame titself kcmp ksame kitself vcmp vtotal vsame gives nothing (store held) (store new) run f h.keeps closed no_due up;
  } where
    now_input : Alike new.input (timed lub f (fed_of run.steps))
    now_input = sealed_is leq lub lattice held.seal f (fed_of run.steps) held.input new.input up h.input c.input

    now_output : Alike new.output (timed lub f (made_of run.steps))
    now_output = sealed_is leq lub lattice held.seal f (made_of run.steps) held.output new.output up h.output c.output

    -- at or above the seal both traces accumulate to what the run does
    same_words : {R : Type 0} (u : T) (es : List (T × List ((K × R) × ℕ))) (was now : List (((K × R) × T) × ℕ)) (k : K) → IsTrue (leq f u) → Alike was (timed lub held.seal es) → Alike now (timed lub f es) → Alike (values_of kcmp k (held_at leq u now)) (values_of kcmp k (held_at leq u was))
    same_words u es was now k over a b = values-alike leq kcmp ksame kitself k (held_at leq u now) (held_at leq u was) (Alike-trans (held_is leq lub lattice f u es now over b) (Alike-sym (held_is leq lub lattice held.seal u es was (lattice.transitive held.seal f u up over) a)))

    no_due : (k : K) (d : T) → Member (d, k) held.due → ⊥
    no_due k d m = subst (λ v. Member d v) none (Member-map (λ e. e.0) (d, k) held.due m)

    closed : Closes leq lub tcmp kcmp vcmp (store held) (store new) run.steps f
    closed = record {
      seal = c.seal;
      charge = c.charge;
      fed = λ k u ws over m. (values_of kcmp k (held_at leq u held.input), Alike-refl (values_of kcmp k (held_at leq u held.input)), Alike-trans m (same_words u (fed_of run.steps) held.input new.input k over h.input now_input));
      made = λ k u ws over m. (values_of kcmp k (held_at leq u held.output), Alike-refl (values_of kcmp k (held_at leq u held.output)), Alike-trans m (same_words u (made_of run.steps) held.output new.output k over h.output now_output));
      time_is = λ k u is. IsTimeOf-alike kcmp vcmp tcmp k (timed lub f (fed_of run.steps)) new.input u (Alike-sym now_input) (mark_is_time kcmp vcmp tcmp k lub f u run.steps is);
      time_only = λ k u is. time_is_mark kcmp vcmp tcmp k lub f u run.steps (IsTimeOf-alike kcmp vcmp tcmp k new.input (timed lub f (fed_of run.steps)) u now_input is);
      no_point = λ k a p. subst (λ v. Member (k, a) v) c.points p;
      no_due = λ k d m. subst (λ v. Member (d, k) v) c.due m;
    }

  -- ---- no step yet

  pub fresh_stands : (seal : T) → Stands leq lub tcmp kcmp vcmp gives (record { input = []; output = []; points = []; due = []; seal = seal; charge = 0 }) empty_run
  fresh_stands seal = record {
    batches = tt;
    input = Alike-refl [];
    output = Alike-refl [];
    keeps = empty_keeps leq lub lattice tcmp tsame titself kcmp ksame kitself vcmp vtotal vsame gives nothing (store (record { input = []; output = []; points = []; due = []; seal = seal; charge = 0 })) (record {
      charge = refl;
      fed = λ k t ws m. m;
      made = λ k t ws m. m;
      no_time = λ k u is. is.1 refl;
      no_point = λ k a m. m;
      no_due = λ k d m. m;
    });
  }
