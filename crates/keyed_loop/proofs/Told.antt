-- The run of the reduce inside, told by other words for the functions of parts.
use Rattle.std.specs.declared.cmp.Ordering.{Ordering}
use Rattle.std.proofs.Common.{◌≡◌, ◌+◌, ℕ, Bool, List, arith, subst}
use Rattle.lattice_time.specs.declared.pair.Pair.{Pair}
use Rattle.lattice_time.specs.declared.round.Round.{Round}
use Rattle.flow_core.specs.Runs.{Run}
use Rattle.loop_theory.specs.declared.input.LoopInput.{LoopInput}
use Rattle.inner_theory.specs.Inside.{BodyInside, LoopInside}

none_more : (n : ℕ) → n ≡ 0 + n
none_more n = omega arith

module _ {T I K V O : Type 0} (leq : T → T → Bool) (lub : T → T → T) (tcmp : T → T → Ordering) (kcmp : K → K → Ordering) (vcmp : V → V → Ordering) where
  -- of a body, by another function for its quiet part
  pub body_told : (seal : T) (due : List T) (charge : ℕ) (run : Run T I (K × O)) (items items' : List (I × ℕ) → List ((K × V) × ℕ)) → items' ≡ items
      → BodyInside leq lub tcmp kcmp vcmp items' seal due charge run → BodyInside leq lub tcmp kcmp vcmp items seal due charge run
  body_told seal due charge run items items' is inside = subst (λ f. BodyInside leq lub tcmp kcmp vcmp f seal due charge run) is inside

  -- of a body that is lent
  pub body_lent : {Body : Type 0} (items : List (I × ℕ) → List ((K × V) × ℕ)) (stands : Body → Run T I (K × O) → Type 0) (seal : Body → T) (due : Body → List T) (charge : Body → ℕ) (lent own : Body) → lent ≡ own
      → ((run : Run T I (K × O)) → stands lent run → BodyInside leq lub tcmp kcmp vcmp items (seal lent) (due lent) (charge lent) run)
      → (run : Run T I (K × O)) → stands own run → BodyInside leq lub tcmp kcmp vcmp items (seal own) (due own) (charge own) run
  body_lent items stands seal due charge lent own is inside =
      subst (λ b. (run : Run T I (K × O)) → stands b run → BodyInside leq lub tcmp kcmp vcmp items (seal b) (due b) (charge b) run) is inside

module _ {T In F K V O : Type 0} (leq : T → T → Bool) (lub : T → T → T) (pcmp : Pair T Round → Pair T Round → Ordering) (kcmp : K → K → Ordering) (vcmp : V → V → Ordering) (seal : T) (due : List T) (charge : ℕ) (run : Run T In (Round × (K × O))) where
  -- of a loop
  pub loop_told : (prep prep' : List (In × ℕ) → List (LoopInput F (K × O) × ℕ)) (items : List (LoopInput F (K × O) × ℕ) → List ((K × V) × ℕ)) (round round' : List (LoopInput F (K × O) × ℕ) → List ((K × O) × ℕ)) (rounds rounds' : ℕ)
      → prep' ≡ prep → round' ≡ round → rounds' ≡ rounds
      → LoopInside leq lub pcmp kcmp vcmp prep' items round' rounds' seal due charge run
      → LoopInside leq lub pcmp kcmp vcmp prep items round rounds seal due (0 + charge) run
  loop_told prep prep' items round round' rounds rounds' p r n inside =
      subst (λ v. LoopInside leq lub pcmp kcmp vcmp v items round rounds seal due (0 + charge) run) p
      (subst (λ v. LoopInside leq lub pcmp kcmp vcmp prep' items v rounds seal due (0 + charge) run) r
      (subst (λ v. LoopInside leq lub pcmp kcmp vcmp prep' items round' v seal due (0 + charge) run) n
      (subst (λ v. LoopInside leq lub pcmp kcmp vcmp prep' items round' rounds' seal due v run) (none_more charge) inside)))
