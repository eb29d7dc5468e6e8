-- A step, a step that is left out, a seal and no step at all: the runs that a store keeps afterwards.
use Rattle.std.specs.Prelude.{◌≡◌, ◌≢◌, ℕ, ◌+◌, ◌-◌, ◌%◌, ◌^◌, ◌⊎◌, ◌&&◌, ◌==◌, Bool, true, false, IsTrue, List, [], ◌∷◌, ◌++◌, length, take, drop, if◌then◌else◌, refl}
use Rattle.std.specs.declared.cmp.Ordering.{Ordering}
use Rattle.std.specs.declared.cmp.Ordering.TheVariants.{Equal}
use Rattle.std.specs.Ordering.{is_eq}
use Rattle.std.specs.Cmp.{IsTotalOrder, tied_itself}
use Rattle.std.proofs.Common.{arith, ap, sym, subst, ◌∙◌, inl, inr, append-nil, append_assoc, length-append}
use Rattle.std.proofs.lemmas.List.{take-append-le, drop-append-le, take-append-drop, take_all, drop_all}
use Rattle.lattice_time.specs.Lattice.{IsLattice}
use Rattle.weighted.specs.Alike.{Alike, Alike-is, Alike-refl, Alike-trans, Alike-append, total-append, negated, negated-total}
use Rattle.weighted.specs.Normal.{normal-same}
use Rattle.weighted.specs.WordLaws.{total}
use Rattle.flow_core.specs.Runs.{Step, Run, Every, Member, NoneAbove, fed_to, made_to, times_of, empty_run, continued, sealed}
use Rattle.flow_core.specs.Lists.{Every-append, Every-append_back, Every-map, Every-member}
use Rattle.flow_core.specs.RunLaws.{fed_to_last, made_to_last, times_of-append}
use Rattle.reduce_theory.specs.Evaluated.{key_part, key_steps, has_key, new_marks, some_below, lub_below, old_marks, is_evaluated, charged, EachCharged, evaluations}
use Rattle.reduce_theory.specs.Keys.{IsPoint, KeyRun}
use Rattle.reduce_theory.specs.MarkLaws.{old_mark_is, old_mark_in, empty_or, new_marks-append, lub-evaluated}
use Rattle.reduce_theory.specs.KeyLaws.{true_or_false, lub_above, key_idle}
use Rattle.reduce_theory.specs.KeySteps.{key_untouched, key_evaluated, key_sealed, key_fresh}
use Rattle.reduce_theory.specs.ByKey.{pick, part-append, key_steps-append, times_of-key, fed_to-key, made_to-key}
use Rattle.reduce_theory.specs.Counts.{member_has, has_member, evaluations-are, charged-last, each_charged-last}
use Rattle.reduce_theory.specs.Kept.{Store, IsMark, Keeps, IsCovered, Advances, Closes, IsEmpty, logic_of, old_steps, new_steps}
use Rattle.reduce_theory.specs.KeptLaws.{logic-respects, key_parts, key_above}

-- what was made, and then what should have been made less what was made, is what should have been made
put_right_by : (x w n m g : ℕ) → (w + n) % 2 ^ 64 ≡ 0 → w % 2 ^ 64 ≡ x % 2 ^ 64 → (x + (g + n)) % 2 ^ 64 ≡ g % 2 ^ 64
put_right_by x w n m g h k = omega arith

put_right : {R : Type 0} (xs ws gs : List (R × ℕ)) → Alike ws xs → Alike (xs ++ (gs ++ negated ws)) gs
put_right xs ws gs a = record { totals = λ f. rw (total-append f xs (gs ++ negated ws), total-append f gs (negated ws)) (put_right_by (total f xs) (total f ws) (total f (negated ws)) 0 (total f gs) (negated-total f ws) (a.totals f)) }

absurd_bool : (b : Bool) → b ≡ false → b ≡ true → ⊥
absurd_bool b p q = let f : false ≡ true = sym p ∙ q in absurd (cc)

not_true : (b : Bool) → (b ≡ true → ⊥) → b ≡ false
not_true true h = absurd (h refl)
not_true false h = refl

no_rise : (n : ℕ) → n - n ≡ 0
no_rise n = omega arith

nothing_if : {A : Type 0} (b : Bool) (xs : List A) → xs ≡ xs ++ (if b then [] else [])
nothing_if true xs = sym (append-nil xs)
nothing_if false xs = sym (append-nil xs)

-- a step that lacks the key adds no mark
unmarked : {T V O : Type 0} (leq : T → T → Bool) (lub : T → T → T) (tcmp : T → T → Ordering) (vcmp : V → V → Ordering) (seal t : T) (old new : List (Step T V O)) (s : Step T V O) → s.fed ≡ [] → is_evaluated leq lub tcmp vcmp seal t old (new ++ s ∷ []) ≡ is_evaluated leq lub tcmp vcmp seal t old new
unmarked leq lub tcmp vcmp seal t old new s e =
    let one : new_marks (s ∷ []) ≡ [] = ap (λ es. if length es == 0 then [] else s.time ∷ []) e in
    let is : new_marks (new ++ s ∷ []) ≡ new_marks new = new_marks-append new (s ∷ []) ∙ ap (λ v. new_marks new ++ v) one ∙ append-nil (new_marks new) in
    ap (λ m. some_below leq t m && is_eq (tcmp (lub_below leq lub t seal (old_marks lub tcmp vcmp seal old ++ m)) t)) is

module _ {K V O T : Type 0} (leq : T → T → Bool) (lub : T → T → T) (lattice : IsLattice leq lub) (tcmp : T → T → Ordering) (tsame : (x y : T) → tcmp x y ≡ Equal → x ≡ y) (titself : (x : T) → tcmp x x ≡ Equal) (kcmp : K → K → Ordering) (ksame : (x y : K) → kcmp x y ≡ Equal → x ≡ y) (kitself : (x : K) → kcmp x x ≡ Equal) (vcmp : V → V → Ordering) (vtotal : IsTotalOrder vcmp) (vsame : (x y : V) → vcmp x y ≡ Equal → x ≡ y) (gives : K → List (V × ℕ) → List (O × ℕ)) (nothing : (k : K) → gives k [] ≡ []) where
  module _ (old new : Store K V O T) (run : Run T (K × V) (K × O)) (h : Keeps leq lub tcmp kcmp vcmp gives old run) (t : T) (delta : List ((K × V) × ℕ)) (made : List ((K × O) × ℕ)) (ks : List K) (c : Advances leq lub kcmp vcmp gives old new t delta made ks) (later : NoneAbove leq t (times_of run.steps)) (over_seal : IsTrue (leq old.seal t)) (ready : (k : K) (d : T) → old.Due k d → IsTrue (leq d t) → d ≡ t) where
    abbrev last : Step T (K × V) (K × O)
    last = record { time = t; fed = delta; made = made; charge = new.charge - old.charge }

    abbrev key_last : K → Step T V O
    key_last k = record { time = t; fed = key_part kcmp k delta; made = key_part kcmp k made; charge = new.charge - old.charge }

    abbrev olds : K → List (Step T V O)
    olds k = key_steps kcmp k (old_steps run)

    abbrev news : K → List (Step T V O)
    news k = key_steps kcmp k (new_steps run)

    abbrev KeyNow : K → Type 0
    KeyNow k = KeyRun leq lub tcmp vcmp (logic_of vcmp gives k) old.seal (IsMark new k) (new.Point k) (new.Due k) (olds k) (news k ++ key_last k ∷ [])

    -- ---- the words

    fed_now : (k : K) (u : T) (ws : List (V × ℕ)) → IsTrue (leq old.seal u) → new.Fed k u ws → Alike ws (key_part kcmp k (fed_to leq (run.steps ++ last ∷ []) u))
    fed_now k u ws over m =
        let w = c.fed k u ws m in
        Alike-trans w.2 (Alike-trans (Alike-append (h.fed k u w.0 over w.1) (Alike-refl (if leq t u then key_part kcmp k delta else []))) (Alike-is (sym (ap (key_part kcmp k) (fed_to_last leq run.steps last u) ∙ part-append kcmp ksame kitself k (fed_to leq run.steps u) (if leq t u then delta else []) ∙ ap (λ v. key_part kcmp k (fed_to leq run.steps u) ++ v) (sym (pick kcmp k (leq t u) delta))))))

    made_now : (k : K) (u : T) (ws : List (O × ℕ)) → IsTrue (leq old.seal u) → new.Made k u ws → Alike ws (key_part kcmp k (made_to leq (run.steps ++ last ∷ []) u))
    made_now k u ws over m =
        let w = c.more k u ws m in
        Alike-trans w.2 (Alike-trans (Alike-append (h.made k u w.0 over w.1) (Alike-refl (if leq t u then key_part kcmp k made else []))) (Alike-is (sym (ap (key_part kcmp k) (made_to_last leq run.steps last u) ∙ part-append kcmp ksame kitself k (made_to leq run.steps u) (if leq t u then made else []) ∙ ap (λ v. key_part kcmp k (made_to leq run.steps u) ++ v) (sym (pick kcmp k (leq t u) made))))))

    -- ---- an evaluated key is put right

    key_whole : (k : K) → olds k ++ (news k ++ key_last k ∷ []) ≡ key_steps kcmp k (run.steps ++ last ∷ [])
    key_whole k = sym (append_assoc (olds k) (news k) (key_last k ∷ [])) ∙ ap (λ v. v ++ key_last k ∷ []) (key_parts leq lub lattice tcmp tsame titself kcmp ksame kitself vcmp vtotal vsame gives nothing k run) ∙ sym (key_steps-append kcmp ksame kitself k run.steps (last ∷ []))

    made_then : made_to leq (run.steps ++ last ∷ []) t ≡ made_to leq run.steps t ++ made
    made_then = made_to_last leq run.steps last t ∙ ap (λ b. made_to leq run.steps t ++ (if b then made else [])) (lattice.reflexive t)

    right_part : (k : K) → Member k ks → Alike (key_part kcmp k (made_to leq (run.steps ++ last ∷ []) t)) (logic_of vcmp gives k (key_part kcmp k (fed_to leq (run.steps ++ last ∷ []) t)))
    right_part k m =
        let w = c.corrected k m in
        let was : List (O × ℕ) = key_part kcmp k (made_to leq run.steps t) in
        let given : List (O × ℕ) = logic_of vcmp gives k w.0 in
        let is : key_part kcmp k (made_to leq (run.steps ++ last ∷ []) t) ≡ was ++ key_part kcmp k made = ap (key_part kcmp k) made_then ∙ part-append kcmp ksame kitself k (made_to leq run.steps t) made in
        let same : given ≡ logic_of vcmp gives k (key_part kcmp k (fed_to leq (run.steps ++ last ∷ []) t)) = ap (gives k) (normal-same vcmp vtotal vsame w.0 (key_part kcmp k (fed_to leq (run.steps ++ last ∷ []) t)) (fed_now k t w.0 over_seal w.2)) in
        Alike-trans (Alike-is is) (Alike-trans (Alike-append (Alike-refl was) w.4) (Alike-trans (put_right was w.1 given (h.made k t w.1 over_seal w.3)) (Alike-is same)))

    right_now : (k : K) → Member k ks → Alike (made_to leq (olds k ++ (news k ++ key_last k ∷ [])) t) (logic_of vcmp gives k (fed_to leq (olds k ++ (news k ++ key_last k ∷ [])) t))
    right_now k m = subst (λ v. Alike (made_to leq v t) (logic_of vcmp gives k (fed_to leq v t))) (sym (key_whole k)) (rw (made_to-key kcmp ksame kitself k leq (run.steps ++ last ∷ []) t, fed_to-key kcmp ksame kitself k leq (run.steps ++ last ∷ []) t) (right_part k m))

    -- ---- each key

    key_later : (k : K) → NoneAbove leq t (times_of (news k))
    key_later k = rw (times_of-key kcmp ksame kitself k (new_steps run)) (Every-append_back (λ s. leq t s ≡ false) (times_of (old_steps run)) (times_of (new_steps run)) (rw (← times_of-append (old_steps run) (new_steps run), take-append-drop run.before run.steps) later))

    mark_in : (k : K) → (key_part kcmp k delta ≢ [] → new.Point k t) → (x : T) → IsMark old k x → IsMark new k x
    mark_in k f x (inl m) = elim (c.time_stays k x m) [ inl n ↦ inl n | inr w ↦ inr (subst (new.Point k) (sym w.0) (f w.1)) ]
    mark_in k f x (inr p) = inr (c.points_kept k x p)

    mark_out : (k : K) (x : T) → IsMark new k x → IsMark old k x ⊎ ((x ≡ t) × ((key_part kcmp k delta ≢ []) ⊎ Member k ks))
    mark_out k x (inl m) = elim (c.time_was k x m) [ inl n ↦ inl (inl n) | inr w ↦ inr (w.0, inl w.1) ]
    mark_out k x (inr p) = elim (c.points_only k x p) [ inl q ↦ inl (inr q) | inr w ↦ inr (w.1, inr w.0) ]

    touched : (k : K) → Member k ks → KeyNow k
    touched k m = key_evaluated leq lub lattice tcmp vcmp (logic_of vcmp gives k) old.seal (IsMark old k) (old.Point k) (old.Due k) (IsMark new k) (new.Point k) (new.Due k) (olds k) (news k) (h.keys k) (key_last k) (key_later k) (c.why k m) (right_now k m)
        (mark_in k (λ _. c.points_new k m))
        (λ x w. elim (mark_out k x w) [ inl a ↦ inl a | inr b ↦ inr b.0 ])
        (c.points_kept k)
        (c.points_new k m)
        (λ a p. elim (c.points_only k a p) [ inl q ↦ inl q | inr w ↦ inr w.1 ])
        (λ a p. inr p)
        (λ d w. c.due_kept k d w)
        (later_due k m)
        (due_out k) where
          at_now : (x : T) → x ≡ t → lub t x ≡ t
          at_now x e = ap (λ v. lub t v) e ∙ lub_above leq lub lattice t t (lattice.reflexive t)

          -- a bound that was due since an earlier evaluation is the bound of this one
          still_due : (k : K) (x a : T) → IsTrue (leq a t) → IsTrue (leq t (lub a x)) → old.Due k (lub a x) ⊎ old.Point k (lub a x) → (lub t x ≡ t) ⊎ new.Due k (lub t x)
          still_due k x a low up (inl d) =
              let same : lub a x ≡ lub t x = lattice.antisymmetric (lub a x) (lub t x)
              (lattice.least a x (lub t x) (lattice.transitive a t (lub t x) low (lattice.left t x)) (lattice.right t x))
              (lattice.least t x (lub a x) up (lattice.right a x)) in
              elim (c.due_kept k (lub a x) d) [ inl e ↦ inl (sym same ∙ e) | inr n ↦ inr (subst (new.Due k) same n) ]
          still_due k x a low up (inr p) = absurd (absurd_bool (leq t (lub a x)) (Every-member (λ s. leq t s ≡ false) (times_of (news k)) (lub a x) (key_later k) ((h.keys k).stepped (lub a x) p)) up)

          named : (k : K) (x : T) → IsMark new k x → (lub t x ≡ t) ⊎ (new.Due k (lub t x) ⊎ IsCovered leq lub (old.Point k) t x) → (lub t x ≡ t) ⊎ new.Due k (lub t x)
          named k x kept (inl e) = inl e
          named k x kept (inr (inl d)) = inr d
          named k x kept (inr (inr w)) = elim (mark_out k x kept) [
            | inl was ↦ still_due k x w.0 w.2 w.3 ((h.keys k).closed w.0 x w.1 was)
            | inr e ↦ inl (at_now x e.0)
          ]

          later_due : (k : K) → Member k ks → (x : T) → IsMark new k x → (lub t x ≡ t) ⊎ new.Due k (lub t x)
          later_due k m x (inl w) = named k x (inl w) (c.due_new k x m (inl w))
          later_due k m x (inr p) = elim (c.points_only k x p) [ inl q ↦ named k x (inr p) (c.due_new k x m (inr q)) | inr w ↦ inl (at_now x w.1) ]

          kept_more : (k : K) (x : T) → new.Time k x ⊎ old.Point k x → IsMark new k x
          kept_more k x (inl w) = inl w
          kept_more k x (inr p) = inr (c.points_kept k x p)

          due_out : (k : K) (d : T) → new.Due k d → old.Due k d ⊎ ((x : T) × IsMark new k x × (d ≡ lub t x))
          due_out k d w = elim (c.due_only k d w).1 [ inl a ↦ inl a | inr b ↦ inr (b.1.0, kept_more k b.1.0 b.1.1, b.1.2) ]

    not_called : (k : K) → (Member k ks → ⊥) → key_part kcmp k delta ≡ []
    not_called k n = elim (empty_or (key_part kcmp k delta)) [ inl e ↦ e | inr f ↦ absurd (n (c.called_fed k f)) ]

    not_due : (k : K) → (Member k ks → ⊥) → (d : T) → old.Due k d → d ≢ t
    not_due k n d m e = n (c.called_due k (subst (old.Due k) e m))

    untouched : (k : K) → (Member k ks → ⊥) → KeyNow k
    untouched k n = key_untouched leq lub lattice tcmp vcmp (logic_of vcmp gives k) old.seal (IsMark old k) (old.Point k) (old.Due k) (IsMark new k) (new.Point k) (new.Due k) (olds k) (news k) (h.keys k) (key_last k) (key_later k) (not_called k n)
        (c.others k n)
        (mark_in k (λ f. absurd (f (not_called k n))))
        (λ x w. elim (mark_out k x w) [ inl a ↦ a | inr b ↦ elim b.1 [ inl f ↦ absurd (f (not_called k n)) | inr g ↦ absurd (n g) ] ])
        (c.points_kept k)
        (λ a p. elim (c.points_only k a p) [ inl q ↦ q | inr w ↦ absurd (n w.0) ])
        (λ d m. elim (c.due_kept k d m) [ inl e ↦ absurd (not_due k n d m e) | inr w ↦ w ])
        (λ d w. elim (c.due_only k d w).1 [ inl a ↦ a | inr b ↦ absurd (n b.0) ])

    called_or : (k : K) → Member k ks ⊎ (Member k ks → ⊥)
    called_or k = elim (true_or_false (has_key kcmp k ks)) [ inl e ↦ inl (member_has kcmp ksame kitself k ks e) | inr e ↦ inr (λ m. absurd_bool (has_key kcmp k ks) e (has_member kcmp ksame kitself k ks m)) ]

    key_now : (k : K) → KeyNow k
    key_now k = elim (called_or k) [ inl m ↦ touched k m | inr n ↦ untouched k n ]

    -- ---- as many keys are evaluated as were called

    key_more : (k : K) → key_steps kcmp k (new_steps run ++ last ∷ []) ≡ news k ++ key_last k ∷ []
    key_more k = key_steps-append kcmp ksame kitself k (new_steps run) (last ∷ [])

    point_now : (k : K) → Member k ks → IsPoint leq lub tcmp vcmp old.seal (olds k) (key_steps kcmp k (new_steps run ++ last ∷ [])) t
    point_now k m = rw (key_more k) ((touched k m).points t (c.points_new k m))

    none_ready : (k : K) → (Member k ks → ⊥) → (d : T) → old.Due k d → leq d t ≡ false
    none_ready k n d m = not_true (leq d t) (λ low. not_due k n d m (ready k d m low))

    idle_now : (k : K) → (Member k ks → ⊥) → is_evaluated leq lub tcmp vcmp old.seal t (olds k) (key_steps kcmp k (new_steps run ++ last ∷ [])) ≡ false
    idle_now k n = rw (key_more k) (unmarked leq lub tcmp vcmp old.seal t (olds k) (news k) (key_last k) (not_called k n) ∙ key_idle leq lub lattice tcmp tsame titself vcmp vsame (tied_itself vtotal) (logic_of vcmp gives k) old.seal (IsMark old k) (old.Point k) (old.Due k) (olds k) (news k) (h.keys k) t (none_ready k n) (key_above leq lub lattice tcmp tsame titself kcmp ksame kitself vcmp vtotal vsame gives nothing old run h k) (key_later k))

    counted : evaluations leq lub tcmp kcmp vcmp old.seal t (old_steps run) (new_steps run ++ last ∷ []) ≡ length ks
    counted = evaluations-are kcmp ksame kitself leq lub tcmp vcmp old.seal t (old_steps run) (new_steps run ++ last ∷ []) ks c.apart
        (λ k m. lub-evaluated leq lub lattice tcmp vcmp old.seal t (olds k) (key_steps kcmp k (new_steps run ++ last ∷ [])) titself over_seal (point_now k m))
        (λ k m. let p = point_now k m in (p.first, p.is_new))
        (λ k e. elim (called_or k) [ inl m ↦ m | inr n ↦ absurd (absurd_bool _ (idle_now k n) e) ])

    risen : new.charge - old.charge ≡ length ks
    risen = omega (arith, c.charge)

    each_now : EachCharged leq lub tcmp kcmp vcmp old.seal (old_steps run) [] (new_steps run ++ last ∷ [])
    each_now = each_charged-last kcmp ksame kitself leq lub tcmp vcmp old.seal (old_steps run) [] (new_steps run) last h.each (risen ∙ sym counted)

    paid_now : new.charge ≡ run.base + charged leq lub tcmp kcmp vcmp old.seal (old_steps run) [] (new_steps run ++ last ∷ [])
    paid_now = rw (charged-last kcmp ksame kitself leq lub tcmp vcmp old.seal (old_steps run) [] (new_steps run) last, counted) (c.charge ∙ ap (λ n. n + length ks) h.paid ∙ omega arith)

    -- ---- no due time is at or below a step

    ahead_old : (k : K) (d : T) → new.Due k d → Every (λ s. leq d s ≡ false) (times_of run.steps)
    ahead_old k d m = elim (c.due_only k d m).1 [
      | inl a ↦ h.ahead k d a
      | inr b ↦ Every-map (λ s. leq t s ≡ false) (λ s. leq d s ≡ false) (times_of run.steps) (λ s n. not_true (leq d s) (λ low. absurd_bool (leq t s) n (lattice.transitive t (lub t b.1.0) s (lattice.left t b.1.0) (subst (λ v. IsTrue (leq v s)) b.1.2 low)))) later
    ]

    ahead_now : (k : K) (d : T) → new.Due k d → leq d t ≡ false
    ahead_now k d m = elim (c.due_only k d m).1 [
      | inl a ↦ not_true (leq d t) (λ low. (c.due_only k d m).0 (ready k d a low))
      | inr b ↦ not_true (leq d t) (λ low. (c.due_only k d m).0 (lattice.antisymmetric d t low (subst (λ v. IsTrue (leq t v)) (sym b.1.2) (lattice.left t b.1.0))))
    ]

    ahead_all : (k : K) (d : T) → new.Due k d → Every (λ s. leq d s ≡ false) (times_of (run.steps ++ last ∷ []))
    ahead_all k d m = rw (times_of-append run.steps (last ∷ [])) (Every-append (λ s. leq d s ≡ false) (times_of run.steps) (t ∷ []) (ahead_old k d m) (ahead_now k d m, tt))

    -- ---- all together

    old_same : old_steps (continued run t delta made (new.charge - old.charge)) ≡ old_steps run
    old_same = take-append-le run.before run.steps (last ∷ []) h.sealed

    new_more : new_steps (continued run t delta made (new.charge - old.charge)) ≡ new_steps run ++ last ∷ []
    new_more = drop-append-le run.before run.steps (last ∷ []) h.sealed

    above_all : Every (λ s. IsTrue (leq old.seal s)) (times_of (new_steps run ++ last ∷ []))
    above_all = rw (times_of-append (new_steps run) (last ∷ [])) (Every-append (λ s. IsTrue (leq old.seal s)) (times_of (new_steps run)) (t ∷ []) h.above (over_seal, tt))

    pub advance_keeps : Keeps leq lub tcmp kcmp vcmp gives new (continued run t delta made (new.charge - old.charge))
    advance_keeps = record {
      sealed = rw (length-append run.steps (last ∷ [])) (let n = h.sealed in omega (arith, n));
      each = rw (c.seal, old_same, new_more) each_now;
      paid = rw (c.seal, old_same, new_more) paid_now;
      above = rw (c.seal, new_more) above_all;
      fed = λ k u ws over m. fed_now k u ws (rw (← c.seal) over) m;
      made = λ k u ws over m. made_now k u ws (rw (← c.seal) over) m;
      ahead = ahead_all;
      keys = λ k. rw (c.seal, old_same, new_more, key_more k) (key_now k);
    }

  -- ---- a step that is fed nothing where nothing is due

  pub idle_keeps : (store : Store K V O T) (run : Run T (K × V) (K × O)) (t : T) → Keeps leq lub tcmp kcmp vcmp gives store run → NoneAbove leq t (times_of run.steps) → IsTrue (leq store.seal t) → ((k : K) (d : T) → store.Due k d → leq d t ≡ false) → Keeps leq lub tcmp kcmp vcmp gives store (continued run t [] [] 0)
  idle_keeps store run t h later over_seal none = subst (λ n. Keeps leq lub tcmp kcmp vcmp gives store (continued run t [] [] n)) (no_rise store.charge) (advance_keeps store store run h t [] [] [] (record {
    seal = refl;
    charge = omega arith;
    fed = λ k u ws m. (ws, m, Alike-is (nothing_if (leq t u) ws));
    more = λ k u ws m. (ws, m, Alike-is (nothing_if (leq t u) ws));
    time_stays = λ k u m. inl m;
    time_was = λ k u m. inl m;
    corrected = λ k m. absurd m;
    others = λ k n. Alike-refl [];
    apart = tt;
    called_fed = λ k n. absurd (n refl);
    called_due = λ k m. absurd (absurd_bool (leq t t) (none k t m) (lattice.reflexive t));
    why = λ k m. absurd m;
    points_kept = λ k a m. m;
    points_new = λ k m. absurd m;
    points_only = λ k a m. inl m;
    due_kept = λ k d m. inr m;
    due_new = λ k x m. absurd m;
    due_only = λ k d m. ((λ e. absurd_bool (leq d t) (none k d m) (subst (λ v. IsTrue (leq d v)) e (lattice.reflexive d))), inl m);
  }) later over_seal (λ k d m low. absurd (absurd_bool (leq d t) (none k d m) low)))

  -- ---- a seal, at which nothing is due

  pub close_keeps : (old new : Store K V O T) (run : Run T (K × V) (K × O)) (f : T) → Keeps leq lub tcmp kcmp vcmp gives old run → Closes leq lub tcmp kcmp vcmp old new run.steps f → ((k : K) (d : T) → old.Due k d → ⊥) → IsTrue (leq old.seal f) → Keeps leq lub tcmp kcmp vcmp gives new (sealed run old.charge)
  close_keeps old new run f h c none up = record {
    sealed = omega arith;
    each = rw (drop-all (run.steps)) tt;
    paid = rw (drop-all (run.steps)) (c.charge ∙ omega arith);
    above = rw (drop-all (run.steps)) tt;
    fed = λ k u ws over m. fed_now k u ws (rw (← c.seal) over) m;
    made = λ k u ws over m. made_now k u ws (rw (← c.seal) over) m;
    ahead = λ k d m. absurd (c.no_due k d m);
    keys = λ k. rw (c.seal, drop-all (run.steps), take-all (run.steps)) (one k);
  } where
    drop-all : {A : Type 0} (xs : List A) → drop (length xs) xs ≡ []
    drop-all xs = drop_all (length xs) xs (omega arith)

    take-all : {A : Type 0} (xs : List A) → take (length xs) xs ≡ xs
    take-all xs = take_all (length xs) xs (omega arith)

    fed_now : (k : K) (u : T) (ws : List (V × ℕ)) → IsTrue (leq f u) → new.Fed k u ws → Alike ws (key_part kcmp k (fed_to leq run.steps u))
    fed_now k u ws over m = let w = c.fed k u ws over m in Alike-trans w.2 (h.fed k u w.0 (lattice.transitive old.seal f u up over) w.1)

    made_now : (k : K) (u : T) (ws : List (O × ℕ)) → IsTrue (leq f u) → new.Made k u ws → Alike ws (key_part kcmp k (made_to leq run.steps u))
    made_now k u ws over m = let w = c.made k u ws over m in Alike-trans w.2 (h.made k u w.0 (lattice.transitive old.seal f u up over) w.1)

    marked : (k : K) (u : T) → Member u (old_marks lub tcmp vcmp f (key_steps kcmp k run.steps)) → IsMark new k u
    marked k u m = inl (c.time_is k u (old_mark_is lub tcmp vcmp f (key_steps kcmp k run.steps) u m))

    is_mark : (k : K) (u : T) → IsMark new k u → Member u (old_marks lub tcmp vcmp f (key_steps kcmp k run.steps))
    is_mark k u (inl is) = old_mark_in lub tcmp tsame vcmp vsame f (key_steps kcmp k run.steps) u (c.time_only k u is)
    is_mark k u (inr p) = absurd (c.no_point k u p)

    one : (k : K) → KeyRun leq lub tcmp vcmp (logic_of vcmp gives k) f (IsMark new k) (new.Point k) (new.Due k) (key_steps kcmp k run.steps) []
    one k =
        let whole = key_parts leq lub lattice tcmp tsame titself kcmp ksame kitself vcmp vtotal vsame gives nothing k run in
        subst (λ v. KeyRun leq lub tcmp vcmp (logic_of vcmp gives k) f (IsMark new k) (new.Point k) (new.Due k) v []) whole
        (key_sealed leq lub lattice tcmp vcmp (logic_of vcmp gives k) old.seal tsame titself vsame (tied_itself vtotal) (logic-respects leq lub lattice tcmp tsame titself kcmp ksame kitself vcmp vtotal vsame gives nothing k) (IsMark old k) (old.Point k) (old.Due k) (IsMark new k) (new.Point k) (new.Due k) (key_steps kcmp k (old_steps run)) (key_steps kcmp k (new_steps run)) (h.keys k) (key_above leq lub lattice tcmp tsame titself kcmp ksame kitself vcmp vtotal vsame gives nothing old run h k) (none k) f up
        (λ u m. marked k u (subst (λ v. Member u (old_marks lub tcmp vcmp f v)) whole m))
        (λ u m. subst (λ v. Member u (old_marks lub tcmp vcmp f v)) (sym whole) (is_mark k u m))
        (c.no_point k)
        (c.no_due k))

  -- ---- no step yet

  pub empty_keeps : (store : Store K V O T) → IsEmpty store → Keeps leq lub tcmp kcmp vcmp gives store empty_run
  empty_keeps store e = record {
    sealed = omega arith;
    each = tt;
    paid = e.charge;
    above = tt;
    fed = λ k t ws over m. e.fed k t ws m;
    made = λ k t ws over m. e.made k t ws m;
    ahead = λ k d m. tt;
    keys = λ k. key_fresh leq lub tcmp vcmp (logic_of vcmp gives k) store.seal (IsMark store k) (store.Point k) (store.Due k) (nothing k) (λ x m. elim m [ inl u ↦ e.no_time k x u | inr p ↦ e.no_point k x p ]) (e.no_point k) (e.no_due k);
  }
