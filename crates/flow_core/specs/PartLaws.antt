-- Laws of operators that are made of two others.
use Rattle.std.specs.Prelude.{◌≡◌, ℕ, ◌+◌, ◌-◌, ◌≤◌, Bool, false, IsTrue, List, [], ◌∷◌, ◌++◌, length, map, refl}
use Rattle.std.proofs.Common.{arith}
use Rattle.std.proofs.lemmas.List.{map-append}
use Rattle.lattice_time.specs.Lattice.{IsLattice}
use Rattle.weighted.specs.Alike.{Alike}
use Rattle.flow_core.specs.Runs.{Step, Run, NoneAbove, NoneBelow, fed_to, made_to, times_of, IsLubOf, Answers, continued, sealed, empty_run}
use Rattle.flow_core.specs.Lists.{Every-append, Every-append_front, Every-append_back, Every-both}
use Rattle.flow_core.specs.Parts.{StandsByParts}

-- the bound of two seals that are one
pub lub_level : {T : Type 0} {leq : T → T → Bool} {lub : T → T → T} → IsLattice leq lub → (s t : T) → t ≡ s → lub s t ≡ s
lub_level {T} {leq} {lub} l s t e = rw e (l.antisymmetric (lub s s) s (l.least s s s (l.reflexive s) (l.reflexive s)) (l.left s s))

-- a seal at or above the bound of both is at or above each
pub above_first : {T : Type 0} {leq : T → T → Bool} {lub : T → T → T} → IsLattice leq lub → (s u t : T) → IsTrue (leq (lub s u) t) → IsTrue (leq s t)
above_first {T} {leq} {lub} l s u t h = l.transitive s (lub s u) t (l.left s u) h

pub above_second : {T : Type 0} {leq : T → T → Bool} {lub : T → T → T} → IsLattice leq lub → (s u t : T) → IsTrue (leq (lub s u) t) → IsTrue (leq u t)
above_second {T} {leq} {lub} l s u t h = l.transitive u (lub s u) t (l.right s u) h

-- what both charges rise by is what their sum rises by
pub both_rise : (a b c d : ℕ) → a ≤ b → c ≤ d → (b - a) + (d - c) ≡ (b + d) - (a + c)
both_rise a b c d h k = omega arith

-- a part takes its steps at the times of the whole
pub times_part : {T I O J M X : Type 0} (whole : X → Step T I O) (part : X → Step T J M) → ((x : X) → (part x).time ≡ (whole x).time) → (links : List X) → times_of (map part links) ≡ times_of (map whole links)
times_part whole part same [] = refl
times_part whole part same (x ∷ xs) = rw (same x, times_part whole part same xs) refl

-- as many as the whole
pub length_part : {X Y Z : Type 0} (whole : X → Y) (part : X → Z) (links : List X) → length (map part links) ≡ length (map whole links)
length_part whole part [] = refl
length_part whole part (x ∷ xs) = omega (arith, length_part whole part xs)

module _ {T I O J M K P X : Type 0} (whole : X → Step T I O) (first : X → Step T J M) (second : X → Step T K P) (first_time : (x : X) → (first x).time ≡ (whole x).time) (second_time : (x : X) → (second x).time ≡ (whole x).time) where
  -- ---- where no step of the whole is above, none of a part is

  above_part : {L N : Type 0} (part : X → Step T L N) → ((x : X) → (part x).time ≡ (whole x).time) → (leq : T → T → Bool) (links : List X) (steps : List (Step T I O)) (t : T) → steps ≡ map whole links → NoneAbove leq t (times_of steps) → NoneAbove leq t (times_of (map part links))
  above_part part same leq links steps t is h = rw (times_part whole part same links, ← is) h

  pub parts_above_first : (leq : T → T → Bool) (links : List X) (steps : List (Step T I O)) (t : T) → steps ≡ map whole links → NoneAbove leq t (times_of steps) → NoneAbove leq t (times_of (map first links))
  parts_above_first leq links steps t is h = above_part first first_time leq links steps t is h

  pub parts_above_second : (leq : T → T → Bool) (links : List X) (steps : List (Step T I O)) (t : T) → steps ≡ map whole links → NoneAbove leq t (times_of steps) → NoneAbove leq t (times_of (map second links))
  parts_above_second leq links steps t is h = above_part second second_time leq links steps t is h

  -- ---- what both answer, the whole answers

  pub parts_answer : (leq : T → T → Bool) (lub : T → T → T) (lattice : IsLattice leq lub) (f : List (J × ℕ) → List (M × ℕ)) (g : List (K × ℕ) → List (P × ℕ)) (h : List (I × ℕ) → List (O × ℕ)) (first_seal second_seal : T) (first_due second_due : List T) (run : Run T I O) (first_run : Run T J M) (second_run : Run T K P) (links : List X) → run.steps ≡ map whole links → first_run.steps ≡ map first links → second_run.steps ≡ map second links → second_seal ≡ first_seal → Answers leq lub f first_seal first_due first_run → Answers leq lub g second_seal second_due second_run → ((t : T) → IsTrue (leq (lub first_seal second_seal) t) → NoneBelow leq t (first_due ++ second_due) → Alike (made_to leq run.steps t) (h (fed_to leq run.steps t))) → Answers leq lub h (lub first_seal second_seal) (first_due ++ second_due) run
  parts_answer leq lub lattice f g h first_seal second_seal first_due second_due run first_run second_run links is first_is second_is level a b closed =
      let one : lub first_seal second_seal ≡ first_seal = lub_level lattice first_seal second_seal level in
      let first_times : times_of first_run.steps ≡ times_of run.steps = rw (first_is, is) (times_part whole first first_time links) in
      let second_times : times_of second_run.steps ≡ times_of run.steps = rw (second_is, is) (times_part whole second second_time links) in
      record {
        closed = closed;
        lubs = rw one (Every-append (λ d. IsLubOf lub (times_of run.steps) d × IsTrue (leq first_seal d)) first_due second_due (rw first_times at a.lubs) (rw (second_times, level) at b.lubs));
        ahead = Every-both (λ t. NoneBelow leq t first_due) (λ t. NoneBelow leq t second_due) (λ t. NoneBelow leq t (first_due ++ second_due)) (times_of run.steps) (λ t. Every-append (λ d. leq d t ≡ false) first_due second_due) (rw first_times at a.ahead) (rw second_times at b.ahead);
      }

  -- ---- the runs for which the whole stands

  pub parts_fresh : (F : Run T J M → Type 0) (S : Run T K P → Type 0) → F empty_run → S empty_run → StandsByParts whole first second F S empty_run
  parts_fresh F S f s = record { links = []; first_base = 0; second_base = 0; steps = refl; base = refl; first_run = f; second_run = s }

  -- one more step of both
  pub parts_continued : (leq : T → T → Bool) (F F' : Run T J M → Type 0) (S S' : Run T K P → Type 0) (run : Run T I O) (x : X) → ((r : Run T J M) → F r → NoneAbove leq (first x).time (times_of r.steps) → F' (continued r (first x).time (first x).fed (first x).made (first x).charge)) → ((r : Run T K P) → S r → NoneAbove leq (second x).time (times_of r.steps) → S' (continued r (second x).time (second x).fed (second x).made (second x).charge)) → StandsByParts whole first second F S run → NoneAbove leq (whole x).time (times_of run.steps) → StandsByParts whole first second F' S' (continued run (whole x).time (whole x).fed (whole x).made (whole x).charge)
  parts_continued leq F F' S S' run x f s h above =
      let first_above : NoneAbove leq (first x).time (times_of (map first h.links)) = rw (first_time x) (parts_above_first leq h.links run.steps (whole x).time h.steps above) in
      let second_above : NoneAbove leq (second x).time (times_of (map second h.links)) = rw (second_time x) (parts_above_second leq h.links run.steps (whole x).time h.steps above) in
      record {
        links = h.links ++ x ∷ [];
        first_base = h.first_base;
        second_base = h.second_base;
        steps = rw (h.steps, map-append whole h.links (x ∷ [])) refl;
        base = h.base;
        first_run = rw (map-append first h.links (x ∷ [])) (f _ h.first_run first_above);
        second_run = rw (map-append second h.links (x ∷ [])) (s _ h.second_run second_above);
      }

  -- a seal of both
  pub parts_sealed : (F F' : Run T J M → Type 0) (S S' : Run T K P → Type 0) (run : Run T I O) (first_charge second_charge : ℕ) → ((r : Run T J M) → F r → F' (sealed r first_charge)) → ((r : Run T K P) → S r → S' (sealed r second_charge)) → StandsByParts whole first second F S run → StandsByParts whole first second F' S' (sealed run (first_charge + second_charge))
  parts_sealed F F' S S' run first_charge second_charge f s h = record {
    links = h.links;
    first_base = first_charge;
    second_base = second_charge;
    steps = h.steps;
    base = refl;
    first_run = rw (h.steps, ← length_part whole first h.links) (f _ h.first_run);
    second_run = rw (h.steps, ← length_part whole second h.links) (s _ h.second_run);
  }

  -- ---- what was charged at the seal

  pub parts_paid : (F : Run T J M → Type 0) (S : Run T K P → Type 0) (first_charge second_charge : ℕ) (run : Run T I O) → ((r : Run T J M) → F r → r.base ≤ first_charge) → ((r : Run T K P) → S r → r.base ≤ second_charge) → StandsByParts whole first second F S run → run.base ≤ first_charge + second_charge
  parts_paid F S first_charge second_charge run f s h =
      let a : h.first_base ≤ first_charge = f _ h.first_run in
      let b : h.second_base ≤ second_charge = s _ h.second_run in
      let e : h.first_base + h.second_base ≡ run.base = h.base in
      omega arith

  -- ---- a step that is fed nothing where nothing is due

  pub parts_idle : (leq : T → T → Bool) (lub : T → T → T) (lattice : IsLattice leq lub) (F : Run T J M → Type 0) (S : Run T K P → Type 0) (first_seal second_seal : T) (first_due second_due : List T) (run : Run T I O) (x : X) → ((r : Run T J M) (u : T) → F r → NoneAbove leq u (times_of r.steps) → IsTrue (leq first_seal u) → NoneBelow leq u first_due → F (continued r u [] [] 0)) → ((r : Run T K P) (u : T) → S r → NoneAbove leq u (times_of r.steps) → IsTrue (leq second_seal u) → NoneBelow leq u second_due → S (continued r u [] [] 0)) → (first x).fed ≡ [] → (first x).made ≡ [] → (second x).fed ≡ [] → (second x).made ≡ [] → (first x).charge ≡ 0 → (second x).charge ≡ 0 → StandsByParts whole first second F S run → NoneAbove leq (whole x).time (times_of run.steps) → IsTrue (leq (lub first_seal second_seal) (whole x).time) → NoneBelow leq (whole x).time (first_due ++ second_due) → StandsByParts whole first second F S (continued run (whole x).time (whole x).fed (whole x).made (whole x).charge)
  parts_idle leq lub lattice F S first_seal second_seal first_due second_due run x f s no_fed no_made nor_fed nor_made no_charge nor_charge h above over below = parts_continued leq F F S S run x
      (λ r w z. rw (no_fed, no_made, no_charge) (f r (first x).time w z (rw (first_time x) (above_first lattice first_seal second_seal (whole x).time over)) (rw (first_time x) (Every-append_front (λ d. leq d (whole x).time ≡ false) first_due second_due below))))
      (λ r w z. rw (nor_fed, nor_made, nor_charge) (s r (second x).time w z (rw (second_time x) (above_second lattice first_seal second_seal (whole x).time over)) (rw (second_time x) (Every-append_back (λ d. leq d (whole x).time ≡ false) first_due second_due below))))
      h above
