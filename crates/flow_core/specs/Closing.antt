-- Runs whose times have their least upper bounds among them: nothing is due.
use Rattle.std.specs.Prelude.{◌≡◌, ℕ, ◌⊎◌, Bool, true, false, IsTrue, List, [], ◌∷◌, fold, refl}
use Rattle.std.proofs.Common.{sym, subst, ◌∙◌, inl, inr}
use Rattle.lattice_time.specs.Lattice.{IsLattice}
use Rattle.flow_core.specs.Runs.{Run, Every, Member, NoneBelow, IsLubOf, Answers, times_of}
use Rattle.flow_core.specs.Lists.{Every-member, Every-of}

-- the least upper bound of any two of the times is one of them
abbrev pub IsClosed : {T : Type 0} → (T → T → T) → List T → Type 0
IsClosed {T} lub times = (r s : T) → Member r times → Member s times → Member (lub r s) times

-- the least upper bound of any two of the times, where it is at or below t, is t or one of them
abbrev pub IsClosedBelow : {T : Type 0} → (T → T → Bool) → (T → T → T) → T → List T → Type 0
IsClosedBelow {T} leq lub t times = (r s : T) → Member r times → Member s times → IsTrue (leq (lub r s) t) → (lub r s ≡ t) ⊎ Member (lub r s) times

module _ {T : Type 0} (leq : T → T → Bool) (lub : T → T → T) (lattice : IsLattice leq lub) where
  fold_up : (us : List T) (from : T) → IsTrue (leq from (fold lub from us))
  fold_up [] from = lattice.reflexive from
  fold_up (u ∷ us) from = lattice.transitive from (lub from u) (fold lub (lub from u) us) (lattice.left from u) (fold_up us (lub from u))

  top_stays : (t u : T) → IsTrue (leq u t) → lub t u ≡ t
  top_stays t u h = lattice.antisymmetric (lub t u) t (lattice.least t u t (lattice.reflexive t) h) (lattice.left t u)

  -- a bound of some of the times that is at or below t, is t or one of them
  bound_in : (t : T) (times us : List T) (from : T) → IsClosedBelow leq lub t times → (from ≡ t) ⊎ Member from times → Every (λ s. Member s times) us → IsTrue (leq (fold lub from us) t) → (fold lub from us ≡ t) ⊎ Member (fold lub from us) times
  bound_in t times [] from closed is h low = is
  bound_in t times (u ∷ us) from closed is h low =
      let first_low : IsTrue (leq (lub from u) t) = lattice.transitive (lub from u) (fold lub (lub from u) us) t (fold_up us (lub from u)) low in
      let u_low : IsTrue (leq u t) = lattice.transitive u (lub from u) t (lattice.right from u) first_low in
      bound_in t times us (lub from u) closed (elim is [ inl e ↦ inl (subst (λ v. lub v u ≡ t) (sym e) (top_stays t u u_low)) | inr m ↦ closed from u m h.0 first_low ]) h.1 low

  module _ {I O : Type 0} (apply : List (I × ℕ) → List (O × ℕ)) (seal : T) (due : List T) (run : Run T I O) (a : Answers leq lub apply seal due run) where
    -- no due time is one of the times
    not_time : (d : T) → Member d due → Member d (times_of run.steps) → ⊥
    not_time d m k =
        let low : leq d d ≡ false = Every-member (λ e. leq e d ≡ false) due d (Every-member (λ s. NoneBelow leq s due) (times_of run.steps) d a.ahead k) m in
        let f : false ≡ true = sym low ∙ lattice.reflexive d in
        absurd (cc)

    or_not : (t d : T) → Member d due → (d ≡ t) ⊎ Member d (times_of run.steps) → d ≡ t
    or_not t d m (inl e) = e
    or_not t d m (inr k) = absurd (not_time d m k)

    -- where the bounds of times below t are times, or t, nothing is due at or below t but t
    pub closed_below : (t : T) → IsClosedBelow leq lub t (times_of run.steps) → Every (λ d. IsTrue (leq d t) → d ≡ t) due
    closed_below t closed = Every-of (λ d. IsTrue (leq d t) → d ≡ t) due (λ d m low.
        let l : IsLubOf lub (times_of run.steps) d = (Every-member (λ e. IsLubOf lub (times_of run.steps) e × IsTrue (leq seal e)) due d a.lubs m).0 in
        or_not t d m (subst (λ v. (v ≡ t) ⊎ Member v (times_of run.steps)) (sym l.is_lub) (bound_in t (times_of run.steps) l.others l.first closed (inr l.first_is_time) l.others_are_times (subst (λ v. IsTrue (leq v t)) l.is_lub low))))

    -- where the bounds of times are times, nothing is due
    no_member : IsClosed lub (times_of run.steps) → (d : T) → Member d due → ⊥
    no_member closed d m =
        let l : IsLubOf lub (times_of run.steps) d = (Every-member (λ e. IsLubOf lub (times_of run.steps) e × IsTrue (leq seal e)) due d a.lubs m).0 in
        not_time d m (subst (λ v. Member v (times_of run.steps)) (sym l.is_lub) (all_in l.others l.first l.first_is_time l.others_are_times)) where
          all_in : (us : List T) (from : T) → Member from (times_of run.steps) → Every (λ s. Member s (times_of run.steps)) us → Member (fold lub from us) (times_of run.steps)
          all_in [] from k h = k
          all_in (u ∷ us) from k h = all_in us (lub from u) (closed from u k h.0) h.1

    pub closed_settled : IsClosed lub (times_of run.steps) → due ≡ []
    closed_settled closed = nothing due (no_member closed) where
      nothing : (ds : List T) → ((d : T) → Member d ds → ⊥) → ds ≡ []
      nothing [] f = refl
      nothing (d ∷ ds) f = absurd (f d (inl refl))
