-- What a chain of two operators answers.
use Rattle.std.specs.Prelude.{◌≡◌, ℕ, Bool, false, List, [], ◌∷◌, ◌++◌, map, if◌then◌else◌, refl}
use Rattle.std.proofs.Common.{ap}
use Rattle.lattice_time.specs.Lattice.{IsLattice}
use Rattle.weighted.specs.Alike.{Alike, Alike-trans}
use Rattle.flow_core.specs.Runs.{Run, fed_to, made_to, Answers}
use Rattle.flow_core.specs.Lists.{Every-append_front, Every-append_back}
use Rattle.flow_core.specs.Parts.{Link, link_whole, link_first, link_second, StandsByLinks}
use Rattle.flow_core.specs.PartLaws.{parts_answer, above_first, above_second}

module _ {T I M O : Type 0} (leq : T → T → Bool) where
  -- the whole is fed what the first is fed
  pub fed_first : (ls : List (Link T I M O)) (t : T) → fed_to leq (map link_whole ls) t ≡ fed_to leq (map link_first ls) t
  fed_first [] t = refl
  fed_first (l ∷ ls) t = ap (λ v. (if leq l.time t then l.fed else []) ++ v) (fed_first ls t)

  -- the second is fed what the first makes
  pub made_first : (ls : List (Link T I M O)) (t : T) → made_to leq (map link_first ls) t ≡ fed_to leq (map link_second ls) t
  made_first [] t = refl
  made_first (l ∷ ls) t = ap (λ v. (if leq l.time t then l.handed else []) ++ v) (made_first ls t)

  -- the whole makes what the second makes
  pub made_second : (ls : List (Link T I M O)) (t : T) → made_to leq (map link_whole ls) t ≡ made_to leq (map link_second ls) t
  made_second [] t = refl
  made_second (l ∷ ls) t = ap (λ v. (if leq l.time t then l.made else []) ++ v) (made_second ls t)

  pub chain_answers : (lub : T → T → T) (lattice : IsLattice leq lub) (f : List (I × ℕ) → List (M × ℕ)) (g : List (M × ℕ) → List (O × ℕ)) → ((xs ys : List (M × ℕ)) → Alike xs ys → Alike (g xs) (g ys)) → (first_seal second_seal : T) (first_due second_due : List T) (F : Run T I M → Type 0) (S : Run T M O → Type 0) → ((r : Run T I M) → F r → Answers leq lub f first_seal first_due r) → ((r : Run T M O) → S r → Answers leq lub g second_seal second_due r) → (run : Run T I O) → StandsByLinks F S run → second_seal ≡ first_seal → Answers leq lub (λ xs. g (f xs)) (lub first_seal second_seal) (first_due ++ second_due) run
  chain_answers lub lattice f g respects first_seal second_seal first_due second_due F S first second run h level =
      let first_run : Run T I M = record { steps = map link_first h.links; before = run.before; base = h.first_base } in
      let second_run : Run T M O = record { steps = map link_second h.links; before = run.before; base = h.second_base } in
      let a : Answers leq lub f first_seal first_due first_run = first first_run h.first_run in
      let b : Answers leq lub g second_seal second_due second_run = second second_run h.second_run in
      parts_answer link_whole link_first link_second (λ _. refl) (λ _. refl) leq lub lattice f g (λ xs. g (f xs)) first_seal second_seal first_due second_due run first_run second_run h.links h.steps refl refl level a b
      (λ t over below.
      let p : Alike (made_to leq (map link_first h.links) t) (f (fed_to leq (map link_first h.links) t)) = a.closed t (above_first lattice first_seal second_seal t over) (Every-append_front (λ d. leq d t ≡ false) first_due second_due below) in
      let q : Alike (made_to leq (map link_second h.links) t) (g (fed_to leq (map link_second h.links) t)) = b.closed t (above_second lattice first_seal second_seal t over) (Every-append_back (λ d. leq d t ≡ false) first_due second_due below) in
      rw (h.steps, made_second h.links t, fed_first h.links t) (Alike-trans q (rw (← made_first h.links t) (respects _ _ p))))
