-- What two operators side by side answer.
use Rattle.std.specs.Prelude.{◌≡◌, ℕ, Bool, true, false, List, [], ◌∷◌, ◌++◌, map, if◌then◌else◌, refl}
use Rattle.std.proofs.Common.{ap}
use Rattle.lattice_time.specs.Lattice.{IsLattice}
use Rattle.weighted.specs.Alike.{Alike, Alike-refl, Alike-trans, Alike-append, Alike-mapped, Alike-swap}
use Rattle.weighted.specs.WordLaws.{mapped, mapped-append}
use Rattle.flow_core.specs.declared.side.Side.{Side}
use Rattle.flow_core.specs.declared.side.Side.TheVariants.{Left, Right}
use Rattle.flow_core.specs.Runs.{Run, fed_to, made_to, Answers}
use Rattle.flow_core.specs.Lists.{Every-append_front, Every-append_back}
use Rattle.flow_core.specs.Parts.{Branch, branch_whole, branch_first, branch_second, both_sides, StandsByBranches}
use Rattle.flow_core.specs.PartLaws.{parts_answer, above_first, above_second}

pub Alike-both_sides : {M O : Type 0} (xs us : List (M × ℕ)) (ys vs : List (O × ℕ)) → Alike xs us → Alike ys vs → Alike (both_sides xs ys) (both_sides us vs)
Alike-both_sides xs us ys vs a b = Alike-append (Alike-mapped Left xs us a) (Alike-mapped Right ys vs b)

both_sides-append : {M O : Type 0} (xs us : List (M × ℕ)) (ys vs : List (O × ℕ)) → Alike (both_sides xs ys ++ both_sides us vs) (both_sides (xs ++ us) (ys ++ vs))
both_sides-append {M} {O} xs us ys vs = rw (mapped-append {B = Side M O} Left xs us, mapped-append {B = Side M O} Right ys vs) (Alike-swap (mapped Left xs) (mapped Right ys) (mapped Left us) (mapped Right vs))

chosen : {M O : Type 0} (b : Bool) (left : List (M × ℕ)) (right : List (O × ℕ)) → (if b then both_sides left right else []) ≡ both_sides (if b then left else []) (if b then right else [])
chosen true left right = refl
chosen false left right = refl

module _ {T I M O : Type 0} (leq : T → T → Bool) where
  -- each is fed what the whole is fed
  pub fed_left : (bs : List (Branch T I M O)) (t : T) → fed_to leq (map branch_whole bs) t ≡ fed_to leq (map branch_first bs) t
  fed_left [] t = refl
  fed_left (b ∷ bs) t = ap (λ v. (if leq b.time t then b.fed else []) ++ v) (fed_left bs t)

  pub fed_right : (bs : List (Branch T I M O)) (t : T) → fed_to leq (map branch_whole bs) t ≡ fed_to leq (map branch_second bs) t
  fed_right [] t = refl
  fed_right (b ∷ bs) t = ap (λ v. (if leq b.time t then b.fed else []) ++ v) (fed_right bs t)

  -- the whole makes what both make
  pub made_both : (bs : List (Branch T I M O)) (t : T) → Alike (made_to leq (map branch_whole bs) t) (both_sides (made_to leq (map branch_first bs) t) (made_to leq (map branch_second bs) t))
  made_both [] t = Alike-refl []
  made_both (b ∷ bs) t = rw (chosen (leq b.time t) b.left b.right) (Alike-trans (Alike-append (Alike-refl _) (made_both bs t)) (both_sides-append (if leq b.time t then b.left else []) (made_to leq (map branch_first bs) t) (if leq b.time t then b.right else []) (made_to leq (map branch_second bs) t)))

  pub fork_answers : (lub : T → T → T) (lattice : IsLattice leq lub) (f : List (I × ℕ) → List (M × ℕ)) (g : List (I × ℕ) → List (O × ℕ)) (first_seal second_seal : T) (first_due second_due : List T) (F : Run T I M → Type 0) (S : Run T I O → Type 0) → ((r : Run T I M) → F r → Answers leq lub f first_seal first_due r) → ((r : Run T I O) → S r → Answers leq lub g second_seal second_due r) → (run : Run T I (Side M O)) → StandsByBranches F S run → second_seal ≡ first_seal → Answers leq lub (λ xs. both_sides (f xs) (g xs)) (lub first_seal second_seal) (first_due ++ second_due) run
  fork_answers lub lattice f g first_seal second_seal first_due second_due F S first second run h level =
      let first_run : Run T I M = record { steps = map branch_first h.links; before = run.before; base = h.first_base } in
      let second_run : Run T I O = record { steps = map branch_second h.links; before = run.before; base = h.second_base } in
      let a : Answers leq lub f first_seal first_due first_run = first first_run h.first_run in
      let b : Answers leq lub g second_seal second_due second_run = second second_run h.second_run in
      parts_answer branch_whole branch_first branch_second (λ _. refl) (λ _. refl) leq lub lattice f g (λ xs. both_sides (f xs) (g xs)) first_seal second_seal first_due second_due run first_run second_run h.links h.steps refl refl level a b
      (λ t over below.
      let p : Alike (made_to leq (map branch_first h.links) t) (f (fed_to leq (map branch_whole h.links) t)) = rw (fed_left h.links t) (a.closed t (above_first lattice first_seal second_seal t over) (Every-append_front (λ d. leq d t ≡ false) first_due second_due below)) in
      let q : Alike (made_to leq (map branch_second h.links) t) (g (fed_to leq (map branch_whole h.links) t)) = rw (fed_right h.links t) (b.closed t (above_second lattice first_seal second_seal t over) (Every-append_back (λ d. leq d t ≡ false) first_due second_due below)) in
      rw h.steps (Alike-trans (made_both h.links t) (Alike-both_sides _ _ _ _ p q)))
