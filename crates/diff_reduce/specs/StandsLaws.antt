-- What follows for a reduce from the runs for which it stands.
use Rattle.std.specs.Prelude.{◌≡◌, ℕ, ◌≤◌, Bool, false, IsTrue, List, []}
use Rattle.std.specs.declared.cmp.Ordering.{Ordering}
use Rattle.std.specs.declared.cmp.Ordering.TheVariants.{Equal}
use Rattle.std.specs.Cmp.{IsTotalOrder}
use Rattle.std.proofs.Common.{sym, subst}
use Rattle.lattice_time.specs.Lattice.{IsLattice}
use Rattle.flow_core.specs.Runs.{Run, Every, Member, NoneBelow, times_of, IsLubOf, Answers}
use Rattle.flow_core.specs.Lists.{Every-member, Every-of}
use Rattle.reduce_theory.specs.Members.{Member-map, Source, source}
use Rattle.reduce_theory.specs.ByKey.{reduce_apply}
use Rattle.reduce_theory.specs.Kept.{Store}
use Rattle.reduce_theory.specs.KeptLaws.{closed_at, lubs_at, keeps_paid}
use Rattle.diff_reduce.specs.Stands.{Held, due_times, store_of, Stands}

-- ---- due times, key by key and as a list

module _ {K T : Type 0} (due : List (T × K)) where
  -- what holds of each key and time that is due holds of the times
  pub due_every : (P : T → Type 0) → ((k : K) (d : T) → Member (d, k) due → P d) → Every P (due_times due)
  due_every P f = Every-of P (due_times due) (λ d m. let s : Source (λ e. e.0) due d = source (λ e. e.0) due d m in subst P (sym s.gives) (f s.from.1 s.from.0 s.is_in))

  -- and the other way round
  pub due_each : (P : T → Type 0) → Every P (due_times due) → (k : K) (d : T) → Member (d, k) due → P d
  due_each P h k d m = Every-member P (due_times due) d h (Member-map (λ e. e.0) (d, k) due m)

module _ {K V O T : Type 0} (leq : T → T → Bool) (lub : T → T → T) (lattice : IsLattice leq lub) (tcmp : T → T → Ordering) (tsame : (x y : T) → tcmp x y ≡ Equal → x ≡ y) (titself : (x : T) → tcmp x x ≡ Equal) (kcmp : K → K → Ordering) (ksame : (x y : K) → kcmp x y ≡ Equal → x ≡ y) (kitself : (x : K) → kcmp x x ≡ Equal) (vcmp : V → V → Ordering) (vtotal : IsTotalOrder vcmp) (vsame : (x y : V) → vcmp x y ≡ Equal → x ≡ y) (gives : K → List (V × ℕ) → List (O × ℕ)) (nothing : (k : K) → gives k [] ≡ []) where
  module _ (held : Held K V O T) (run : Run T (K × V) (K × O)) (h : Stands leq lub tcmp kcmp vcmp gives held run) where
    abbrev store : Store K V O T
    store = store_of leq tcmp kcmp vcmp held

    -- the three parts of what an operator owes
    pub stands_answers : Answers leq lub (reduce_apply kcmp vcmp gives) held.seal (due_times held.due) run
    stands_answers = record {
      closed = λ t over none. closed_at leq lub lattice tcmp tsame titself kcmp ksame kitself vcmp vtotal vsame gives nothing store run h.keeps t over (due_each held.due (λ d. leq d t ≡ false) none);
      lubs = due_every held.due (λ d. IsLubOf lub (times_of run.steps) d × IsTrue (leq held.seal d)) (lubs_at leq lub lattice tcmp tsame titself kcmp ksame kitself vcmp vtotal vsame gives nothing store run h.keeps);
      ahead = Every-of (λ s. NoneBelow leq s (due_times held.due)) (times_of run.steps) (λ s is. due_every held.due (λ d. leq d s ≡ false) (λ k d m. Every-member (λ s. leq d s ≡ false) (times_of run.steps) s (h.keeps.ahead k d m) is));
    }

    pub stands_paid : run.base ≤ held.charge
    stands_paid = keeps_paid leq lub lattice tcmp tsame titself kcmp ksame kitself vcmp vtotal vsame gives nothing store run h.keeps
