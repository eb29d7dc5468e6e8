-- What follows of the runs that a store keeps: what was made is the function of what was fed, and a due time is the least
-- upper bound of times of steps.
use Rattle.std.specs.Prelude.{◌≡◌, ℕ, ◌≤◌, Bool, false, IsTrue, List, [], ◌∷◌, ◌++◌, map, filter, fold, refl}
use Rattle.std.specs.declared.cmp.Ordering.{Ordering}
use Rattle.std.specs.declared.cmp.Ordering.TheVariants.{Equal}
use Rattle.std.specs.Cmp.{IsTotalOrder, tied_itself}
use Rattle.std.proofs.Common.{arith, ap, sym, subst, ◌∙◌, inl, inr}
use Rattle.std.proofs.lemmas.List.{take-append-drop}
use Rattle.lattice_time.specs.Lattice.{IsLattice}
use Rattle.weighted.specs.Alike.{Alike, Alike-is, Alike-trans}
use Rattle.weighted.specs.Normal.{normal-same}
use Rattle.flow_core.specs.Runs.{Step, Run, Every, Member, fed_to, made_to, times_of, IsLubOf}
use Rattle.flow_core.specs.Lists.{Every-member, Every-of}
use Rattle.flow_core.specs.RunLaws.{time_before, time_after}
use Rattle.reduce_theory.specs.Evaluated.{key_part, key_steps, new_marks}
use Rattle.reduce_theory.specs.Keys.{IsPoint}
use Rattle.reduce_theory.specs.Members.{Member-unfiltered, Member-filtered, Member-passes}
use Rattle.reduce_theory.specs.MarkLaws.{new_mark_time, mark_either}
use Rattle.reduce_theory.specs.KeyLaws.{key_closed}
use Rattle.reduce_theory.specs.ByKey.{reduce_apply, reduce_part, by_keys, key_steps-append, times_of-key, fed_to-key, made_to-key}
use Rattle.reduce_theory.specs.Kept.{Store, IsMark, Keeps, logic_of, old_steps, new_steps}

module _ {K V O T : Type 0} (leq : T → T → Bool) (lub : T → T → T) (lattice : IsLattice leq lub) (tcmp : T → T → Ordering) (tsame : (x y : T) → tcmp x y ≡ Equal → x ≡ y) (titself : (x : T) → tcmp x x ≡ Equal) (kcmp : K → K → Ordering) (ksame : (x y : K) → kcmp x y ≡ Equal → x ≡ y) (kitself : (x : K) → kcmp x x ≡ Equal) (vcmp : V → V → Ordering) (vtotal : IsTotalOrder vcmp) (vsame : (x y : V) → vcmp x y ≡ Equal → x ≡ y) (gives : K → List (V × ℕ) → List (O × ℕ)) (nothing : (k : K) → gives k [] ≡ []) where
  pub logic-respects : (k : K) (xs ys : List (V × ℕ)) → Alike xs ys → Alike (logic_of vcmp gives k xs) (logic_of vcmp gives k ys)
  logic-respects k xs ys a = Alike-is (ap (gives k) (normal-same vcmp vtotal vsame xs ys a))

  -- the steps of the run, in two parts
  parts : (run : Run T (K × V) (K × O)) → old_steps run ++ new_steps run ≡ run.steps
  parts run = take-append-drop run.before run.steps

  pub key_parts : (k : K) (run : Run T (K × V) (K × O)) → key_steps kcmp k (old_steps run) ++ key_steps kcmp k (new_steps run) ≡ key_steps kcmp k run.steps
  key_parts k run = sym (key_steps-append kcmp ksame kitself k (old_steps run) (new_steps run)) ∙ ap (key_steps kcmp k) (parts run)

  module _ (store : Store K V O T) (run : Run T (K × V) (K × O)) (h : Keeps leq lub tcmp kcmp vcmp gives store run) where
    pub key_above : (k : K) → Every (λ s. IsTrue (leq store.seal s)) (times_of (key_steps kcmp k (new_steps run)))
    key_above k = subst (λ v. Every (λ s. IsTrue (leq store.seal s)) v) (sym (times_of-key kcmp ksame kitself k (new_steps run))) h.above

    -- ---- what was made is the function of what was fed

    closed_key : (t : T) → IsTrue (leq store.seal t) → ((k : K) (d : T) → store.Due k d → leq d t ≡ false) → (k : K) → Alike (key_part kcmp k (made_to leq run.steps t)) (logic_of vcmp gives k (key_part kcmp k (fed_to leq run.steps t)))
    closed_key t over none k =
        let c = key_closed leq lub lattice tcmp tsame titself vcmp vsame (tied_itself vtotal) (logic_of vcmp gives k) store.seal (IsMark store k) (store.Point k) (store.Due k) (key_steps kcmp k (old_steps run)) (key_steps kcmp k (new_steps run)) (h.keys k) t (none k) (logic-respects k) over (key_above k) in
        let whole : Alike (made_to leq (key_steps kcmp k run.steps) t) (logic_of vcmp gives k (fed_to leq (key_steps kcmp k run.steps) t)) = subst (λ v. Alike (made_to leq v t) (logic_of vcmp gives k (fed_to leq v t))) (key_parts k run) c in
        subst (λ v. Alike v (logic_of vcmp gives k (key_part kcmp k (fed_to leq run.steps t)))) (made_to-key kcmp ksame kitself k leq run.steps t) (subst (λ v. Alike (made_to leq (key_steps kcmp k run.steps) t) (logic_of vcmp gives k v)) (fed_to-key kcmp ksame kitself k leq run.steps t) whole)

    pub closed_at : (t : T) → IsTrue (leq store.seal t) → ((k : K) (d : T) → store.Due k d → leq d t ≡ false) → Alike (made_to leq run.steps t) (reduce_apply kcmp vcmp gives (fed_to leq run.steps t))
    closed_at t over none = by_keys kcmp ksame kitself (made_to leq run.steps t) (reduce_apply kcmp vcmp gives (fed_to leq run.steps t)) (λ k. Alike-trans (closed_key t over none k) (Alike-is (sym (reduce_part kcmp ksame kitself vcmp gives nothing (fed_to leq run.steps t) k))))

    -- ---- a due time is a least upper bound of times of steps

    fold_above : (us : List T) (from z : T) → IsTrue (leq from z) → ((u : T) → Member u us → IsTrue (leq u z)) → IsTrue (leq (fold lub from us) z)
    fold_above [] from z f g = f
    fold_above (u ∷ us) from z f g = fold_above us (lub from u) z (lattice.least from u z f (g u (inl refl))) (λ v m. g v (inr m))

    fold_from : (us : List T) (from : T) → IsTrue (leq from (fold lub from us))
    fold_from [] from = lattice.reflexive from
    fold_from (u ∷ us) from = lattice.transitive from (lub from u) (fold lub (lub from u) us) (lattice.left from u) (fold_from us (lub from u))

    fold_over : (us : List T) (from u : T) → Member u us → IsTrue (leq u (fold lub from us))
    fold_over [] from u m = absurd m
    fold_over (v ∷ us) from u (inl e) = subst (λ x. IsTrue (leq x (fold lub (lub from v) us))) (sym e) (lattice.transitive v (lub from v) (fold lub (lub from v) us) (lattice.right from v) (fold_from us (lub from v)))
    fold_over (v ∷ us) from u (inr m) = fold_over us (lub from v) u m

    key_old_time : (k : K) (x : T) (ss : List (Step T (K × V) (K × O))) → Member x (map (λ s. lub s.time store.seal) (key_steps kcmp k ss)) → ((y : T) × Member y (times_of ss) × (x ≡ lub y store.seal))
    key_old_time k x [] m = absurd m
    key_old_time k x (s ∷ ss) (inl e) = (s.time, inl refl, e)
    key_old_time k x (s ∷ ss) (inr m) = let r = key_old_time k x ss m in (r.0, inr r.1, r.2)

    run_old : (y : T) → Member y (times_of (old_steps run)) → Member y (times_of run.steps)
    run_old y m = subst (λ v. Member y (times_of v)) (parts run) (time_before (old_steps run) (new_steps run) y m)

    run_new : (y : T) → Member y (times_of (new_steps run)) → Member y (times_of run.steps)
    run_new y m = subst (λ v. Member y (times_of v)) (parts run) (time_after (old_steps run) (new_steps run) y m)

    key_new_time : (k : K) (x : T) → Member x (new_marks (key_steps kcmp k (new_steps run))) → Member x (times_of (new_steps run))
    key_new_time k x m = subst (λ v. Member x v) (times_of-key kcmp ksame kitself k (new_steps run)) (new_mark_time (key_steps kcmp k (new_steps run)) x m)

    pub lubs_at : (k : K) (d : T) → store.Due k d → IsLubOf lub (times_of run.steps) d × IsTrue (leq store.seal d)
    lubs_at k d m =
        let p : IsPoint leq lub tcmp vcmp store.seal (key_steps kcmp k (old_steps run)) (key_steps kcmp k (new_steps run)) d = (h.keys k).due d m in
        let is_time : Member p.first (times_of (new_steps run)) = key_new_time k p.first p.is_new in
        let up : IsTrue (leq store.seal p.first) = Every-member (λ s. IsTrue (leq store.seal s)) (times_of (new_steps run)) p.first h.above is_time in
        let others : List T = filter (λ s. leq s d) (times_of run.steps) in
        let z : T = fold lub p.first others in
        let bound : IsTrue (leq z d) = fold_above others p.first d p.is_below (λ u k. Member-passes (λ s. leq s d) (times_of run.steps) u k) in
        let seal_z : IsTrue (leq store.seal z) = lattice.transitive store.seal p.first z up (fold_from others p.first) in
        let low : IsTrue (leq d z) = p.least z seal_z (λ x in_marks below. elim (mark_either lub tcmp vcmp store.seal (key_steps kcmp k (old_steps run)) (key_steps kcmp k (new_steps run)) x in_marks) [
          | inl o ↦ (let r = key_old_time k x (old_steps run) (Member-unfiltered _ _ x o) in
              let y_below : IsTrue (leq r.0 d) = lattice.transitive r.0 (lub r.0 store.seal) d (lattice.left r.0 store.seal) (subst (λ v. IsTrue (leq v d)) r.2 below) in
              let y_z : IsTrue (leq r.0 z) = fold_over others p.first r.0 (Member-filtered (λ s. leq s d) (times_of run.steps) r.0 (run_old r.0 r.1) y_below) in
              subst (λ v. IsTrue (leq v z)) (sym r.2) (lattice.least r.0 store.seal z y_z seal_z))
          | inr n ↦ fold_over others p.first x (Member-filtered (λ s. leq s d) (times_of run.steps) x (run_new x (key_new_time k x n)) below)
        ]) in
        (record { first = p.first; others = others; first_is_time = run_new p.first is_time; others_are_times = Every-of (λ s. Member s (times_of run.steps)) others (λ s k. Member-unfiltered (λ s. leq s d) (times_of run.steps) s k); is_lub = lattice.antisymmetric d z low bound }, lattice.transitive store.seal p.first d up p.is_below)

    pub keeps_paid : run.base ≤ store.charge
    keeps_paid = let e = h.paid in omega (arith, e)
