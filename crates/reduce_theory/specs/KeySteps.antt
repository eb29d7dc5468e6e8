-- A step, a seal and no step at all keep what is kept of one key.
use Rattle.std.specs.Prelude.{◌≡◌, ◌≢◌, ℕ, ◌⊎◌, Bool, false, IsTrue, List, [], ◌∷◌, ◌++◌, refl}
use Rattle.std.specs.declared.cmp.Ordering.{Ordering}
use Rattle.std.specs.declared.cmp.Ordering.TheVariants.{Equal}
use Rattle.std.proofs.Common.{sym, subst, inl, inr, append_assoc}
use Rattle.lattice_time.specs.Lattice.{IsLattice}
use Rattle.weighted.specs.Alike.{Alike, Alike-is}
use Rattle.flow_core.specs.Runs.{Step, Every, Member, NoneAbove, fed_to, made_to, times_of}
use Rattle.flow_core.specs.Lists.{Every-append, Every-map, Member-back, Every-member}
use Rattle.flow_core.specs.RunLaws.{fed_to_more, made_to_more, time_before, time_after}
use Rattle.reduce_theory.specs.Evaluated.{old_marks, new_marks, marks}
use Rattle.reduce_theory.specs.Keys.{IsPoint, KeyRun}
use Rattle.reduce_theory.specs.MarkLaws.{new_mark_in, mark_old, mark_new, mark_either, mark_more, mark_last, point_more}
use Rattle.reduce_theory.specs.KeyLaws.{lub_comm, key_closed}

module _ {T V O : Type 0} (leq : T → T → Bool) (lub : T → T → T) (lattice : IsLattice leq lub) (tcmp : T → T → Ordering) (vcmp : V → V → Ordering) (logic : List (V × ℕ) → List (O × ℕ)) (seal : T) where
  module _ (Mark Point Due Mark' Point' Due' : T → Type 0) (old new : List (Step T V O)) (key : KeyRun leq lub tcmp vcmp logic seal Mark Point Due old new) (s : Step T V O) (later : NoneAbove leq s.time (times_of new)) where
    later_than : (a : T) → Point a → leq s.time a ≡ false
    later_than a p = Every-member (λ r. leq s.time r ≡ false) (times_of new) a later (key.stepped a p)

    made_more : Every (λ r. Alike r.made [] ⊎ IsPoint leq lub tcmp vcmp seal old (new ++ s ∷ []) r.time) new
    made_more = Every-map (λ r. Alike r.made [] ⊎ IsPoint leq lub tcmp vcmp seal old new r.time) (λ r. Alike r.made [] ⊎ IsPoint leq lub tcmp vcmp seal old (new ++ s ∷ []) r.time) new (λ r w. elim w [ inl e ↦ inl e | inr l ↦ inr (point_more lub tcmp vcmp seal old new leq s r.time l) ]) key.made

    fed_more : ((a : T) → Point a → Point' a) → Every (λ r. (r.fed ≡ []) ⊎ Point' r.time) new
    fed_more f = Every-map (λ r. (r.fed ≡ []) ⊎ Point r.time) (λ r. (r.fed ≡ []) ⊎ Point' r.time) new (λ r w. elim w [ inl e ↦ inl e | inr p ↦ inr (f r.time p) ]) key.fed

    right_more : (a : T) → Point a → Alike (made_to leq (old ++ (new ++ s ∷ [])) a) (logic (fed_to leq (old ++ (new ++ s ∷ [])) a))
    right_more a p = subst (λ v. Alike (made_to leq v a) (logic (fed_to leq v a))) (append_assoc old new (s ∷ [])) (rw (made_to_more leq (old ++ new) s a (later_than a p), fed_to_more leq (old ++ new) s a (later_than a p)) (key.right a p))

    -- ---- a step that does not evaluate the key

    pub key_untouched : s.fed ≡ [] → Alike s.made [] → ((x : T) → Mark x → Mark' x) → ((x : T) → Mark' x → Mark x) → ((a : T) → Point a → Point' a) → ((a : T) → Point' a → Point a) → ((d : T) → Due d → Due' d) → ((d : T) → Due' d → Due d) → KeyRun leq lub tcmp vcmp logic seal Mark' Point' Due' old (new ++ s ∷ [])
    key_untouched fed made mark_in mark_out point_in point_out due_in due_out = record {
      held = key.held;
      marked = λ u m. mark_in u (key.marked u (elim (mark_last lub tcmp vcmp seal old new s u m) [ inl a ↦ a | inr w ↦ absurd (w.1 fed) ]));
      pointed = λ a p. mark_in a (key.pointed a (point_out a p));
      kept = λ x m. elim (key.kept x (mark_out x m)) [ inl a ↦ inl (mark_more lub tcmp vcmp seal old new s x a) | inr p ↦ inr (point_in x p) ];
      fed = Every-append (λ r. (r.fed ≡ []) ⊎ Point' r.time) new (s ∷ []) (fed_more point_in) (inl fed, tt);
      made = Every-append (λ r. Alike r.made [] ⊎ IsPoint leq lub tcmp vcmp seal old (new ++ s ∷ []) r.time) new (s ∷ []) made_more (inl made, tt);
      stepped = λ a p. time_before new (s ∷ []) a (key.stepped a (point_out a p));
      right = λ a p. right_more a (point_out a p);
      points = λ a p. point_more lub tcmp vcmp seal old new leq s a (key.points a (point_out a p));
      closed = λ a x p m. elim (key.closed a x (point_out a p) (mark_out x m)) [ inl d ↦ inl (due_in (lub a x) d) | inr q ↦ inr (point_in (lub a x) q) ];
      due = λ d m. point_more lub tcmp vcmp seal old new leq s d (key.due d (due_out d m));
    }

    -- ---- a step that evaluates it

    module _ (why : (s.fed ≢ []) ⊎ Due s.time) (put_right : Alike (made_to leq (old ++ (new ++ s ∷ [])) s.time) (logic (fed_to leq (old ++ (new ++ s ∷ [])) s.time))) (mark_in : (x : T) → Mark x → Mark' x) (mark_out : (x : T) → Mark' x → Mark x ⊎ (x ≡ s.time)) (point_in : (a : T) → Point a → Point' a) (point_now : Point' s.time) (point_out : (a : T) → Point' a → Point a ⊎ (a ≡ s.time)) (pointed : (a : T) → Point' a → Mark' a) (stay : (d : T) → Due d → (d ≡ s.time) ⊎ Due' d) (later_due : (x : T) → Mark' x → (lub s.time x ≡ s.time) ⊎ Due' (lub s.time x)) (due_out : (d : T) → Due' d → Due d ⊎ ((x : T) × Mark' x × (d ≡ lub s.time x))) where
      mark_now : s.fed ≢ [] → Member s.time (new_marks (new ++ s ∷ []))
      mark_now has = new_mark_in (new ++ s ∷ []) s (Member-back s new (s ∷ []) (inl refl)) has

      now_point : IsPoint leq lub tcmp vcmp seal old (new ++ s ∷ []) s.time
      now_point = elim why [
        | inl has ↦ record { least = λ z up h. h s.time (mark_new lub tcmp vcmp seal old (new ++ s ∷ []) s.time (mark_now has)) (lattice.reflexive s.time); first = s.time; is_new = mark_now has; is_below = lattice.reflexive s.time }
        | inr d ↦ point_more lub tcmp vcmp seal old new leq s s.time (key.due s.time d)
      ]

      point_is : (a : T) → Point' a → IsPoint leq lub tcmp vcmp seal old (new ++ s ∷ []) a
      point_is a p = elim (point_out a p) [
        | inl q ↦ point_more lub tcmp vcmp seal old new leq s a (key.points a q)
        | inr e ↦ subst (λ v. IsPoint leq lub tcmp vcmp seal old (new ++ s ∷ []) v) (sym e) now_point
      ]

      kept_is : (x : T) → Mark' x → Member x (marks lub tcmp vcmp seal old (new ++ s ∷ [])) ⊎ Point' x
      kept_is x m = elim (mark_out x m) [
        | inl k ↦ elim (key.kept x k) [ inl a ↦ inl (mark_more lub tcmp vcmp seal old new s x a) | inr p ↦ inr (point_in x p) ]
        | inr e ↦ inr (subst Point' (sym e) point_now)
      ]

      -- the bound of the step and of a mark is a bound of marks
      bound_is : (x : T) → Member x (marks lub tcmp vcmp seal old (new ++ s ∷ [])) ⊎ Point' x → IsPoint leq lub tcmp vcmp seal old (new ++ s ∷ []) (lub s.time x)
      bound_is x is = record {
        least = λ z up h. lattice.least s.time x z
            (now_point.least z up (λ y m low. h y m (lattice.transitive y s.time (lub s.time x) low (lattice.left s.time x))))
            (elim is [
              | inl m ↦ h x m (lattice.right s.time x)
              | inr p ↦ (point_is x p).least z up (λ y m low. h y m (lattice.transitive y x (lub s.time x) low (lattice.right s.time x)))
            ]);
        first = now_point.first;
        is_new = now_point.is_new;
        is_below = lattice.transitive now_point.first s.time (lub s.time x) now_point.is_below (lattice.left s.time x);
      }

      due_is : (d : T) → Due d ⊎ ((x : T) × Mark' x × (d ≡ lub s.time x)) → IsPoint leq lub tcmp vcmp seal old (new ++ s ∷ []) d
      due_is d (inl m) = point_more lub tcmp vcmp seal old new leq s d (key.due d m)
      due_is d (inr w) = subst (λ v. IsPoint leq lub tcmp vcmp seal old (new ++ s ∷ []) v) (sym w.2) (bound_is w.0 (kept_is w.0 w.1))

      or_point : (d : T) → (d ≡ s.time) ⊎ Due' d → Due' d ⊎ Point' d
      or_point d (inl e) = inr (subst Point' (sym e) point_now)
      or_point d (inr m) = inl m

      -- the bound of the step and of a mark
      closed_now : (x : T) → Mark' x → Due' (lub s.time x) ⊎ Point' (lub s.time x)
      closed_now x m = or_point (lub s.time x) (later_due x m)

      closed_old : (a x : T) → Point a → Mark' x → Due' (lub a x) ⊎ Point' (lub a x)
      closed_old a x p m = elim (mark_out x m) [
        | inl k ↦ elim (key.closed a x p k) [ inl d ↦ or_point (lub a x) (stay (lub a x) d) | inr q ↦ inr (point_in (lub a x) q) ]
        | inr e ↦ subst (λ v. Due' (lub a v) ⊎ Point' (lub a v)) (sym e) (subst (λ v. Due' v ⊎ Point' v) (lub_comm leq lub lattice s.time a) (closed_now a (mark_in a (key.pointed a p))))
      ]

      closed_is : (a x : T) → Point' a → Mark' x → Due' (lub a x) ⊎ Point' (lub a x)
      closed_is a x p m = elim (point_out a p) [
        | inl q ↦ closed_old a x q m
        | inr e ↦ subst (λ v. Due' (lub v x) ⊎ Point' (lub v x)) (sym e) (closed_now x m)
      ]

      marked_is : (u : T) → Member u (marks lub tcmp vcmp seal old (new ++ s ∷ [])) → Mark' u
      marked_is u m = elim (mark_last lub tcmp vcmp seal old new s u m) [
        | inl a ↦ mark_in u (key.marked u a)
        | inr w ↦ pointed u (subst Point' (sym w.0) point_now)
      ]

      pub key_evaluated : KeyRun leq lub tcmp vcmp logic seal Mark' Point' Due' old (new ++ s ∷ [])
      key_evaluated = record {
        held = key.held;
        marked = marked_is;
        pointed = pointed;
        kept = kept_is;
        fed = Every-append (λ r. (r.fed ≡ []) ⊎ Point' r.time) new (s ∷ []) (fed_more point_in) (inr point_now, tt);
        made = Every-append (λ r. Alike r.made [] ⊎ IsPoint leq lub tcmp vcmp seal old (new ++ s ∷ []) r.time) new (s ∷ []) made_more (inr now_point, tt);
        stepped = λ a p. elim (point_out a p) [ inl q ↦ time_before new (s ∷ []) a (key.stepped a q) | inr e ↦ time_after new (s ∷ []) a (inl e) ];
        right = λ a p. elim (point_out a p) [ inl q ↦ right_more a q | inr e ↦ subst (λ v. Alike (made_to leq (old ++ (new ++ s ∷ [])) v) (logic (fed_to leq (old ++ (new ++ s ∷ [])) v))) (sym e) put_right ];
        points = point_is;
        closed = closed_is;
        due = λ d m. due_is d (due_out d m);
      }

  -- ---- a seal, at which nothing is due

  pub key_sealed : ((x y : T) → tcmp x y ≡ Equal → x ≡ y) → ((x : T) → tcmp x x ≡ Equal) → ((x y : V) → vcmp x y ≡ Equal → x ≡ y) → ((x : V) → vcmp x x ≡ Equal) → ((xs ys : List (V × ℕ)) → Alike xs ys → Alike (logic xs) (logic ys)) → (Mark Point Due Mark' Point' Due' : T → Type 0) (old new : List (Step T V O)) → KeyRun leq lub tcmp vcmp logic seal Mark Point Due old new → Every (λ s. IsTrue (leq seal s)) (times_of new) → ((d : T) → Due d → ⊥) → (f : T) → IsTrue (leq seal f) → ((u : T) → Member u (old_marks lub tcmp vcmp f (old ++ new)) → Mark' u) → ((x : T) → Mark' x → Member x (old_marks lub tcmp vcmp f (old ++ new))) → ((a : T) → Point' a → ⊥) → ((d : T) → Due' d → ⊥) → KeyRun leq lub tcmp vcmp logic f Mark' Point' Due' (old ++ new) []
  key_sealed tsame titself vsame vitself respects Mark Point Due Mark' Point' Due' old new key above none f up mark_in mark_out no_point no_due = record {
    held = λ x h. key_closed leq lub lattice tcmp tsame titself vcmp vsame vitself logic seal Mark Point Due old new key x (λ d m. absurd (none d m)) respects (lattice.transitive seal f x up h) above;
    marked = λ u m. elim (mark_either lub tcmp vcmp f (old ++ new) [] u m) [ inl a ↦ mark_in u a | inr b ↦ absurd b ];
    pointed = λ a p. absurd (no_point a p);
    kept = λ x m. inl (mark_old lub tcmp vcmp f (old ++ new) [] x (mark_out x m));
    fed = tt;
    made = tt;
    stepped = λ a p. absurd (no_point a p);
    right = λ a p. absurd (no_point a p);
    points = λ a p. absurd (no_point a p);
    closed = λ a x p m. absurd (no_point a p);
    due = λ d m. absurd (no_due d m);
  }

-- a key that was never fed
pub key_fresh : {T V O : Type 0} (leq : T → T → Bool) (lub : T → T → T) (tcmp : T → T → Ordering) (vcmp : V → V → Ordering) (logic : List (V × ℕ) → List (O × ℕ)) (seal : T) (Mark Point Due : T → Type 0) → logic [] ≡ [] → ((x : T) → Mark x → ⊥) → ((a : T) → Point a → ⊥) → ((d : T) → Due d → ⊥) → KeyRun leq lub tcmp vcmp logic seal Mark Point Due [] []
key_fresh leq lub tcmp vcmp logic seal Mark Point Due nothing no_mark no_point no_due = record {
  held = λ x h. Alike-is (sym nothing);
  marked = λ u m. absurd m;
  pointed = λ a p. absurd (no_point a p);
  kept = λ x m. absurd (no_mark x m);
  fed = tt;
  made = tt;
  stepped = λ a p. absurd (no_point a p);
  right = λ a p. absurd (no_point a p);
  points = λ a p. absurd (no_point a p);
  closed = λ a x p m. absurd (no_point a p);
  due = λ d m. absurd (no_due d m);
}
