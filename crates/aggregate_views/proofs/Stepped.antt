-- Runs that are stepped at one position after another.
use Rattle.std.specs.Prelude.{◌≡◌, ℕ, ◌+◌, ◌<◌, ◌≤◌, ◌⊎◌, Bool, true, false, nat_le, max, List, [], ◌∷◌, ◌++◌, if◌then◌else◌, refl}
use Rattle.std.proofs.Common.{arith, ap, sym, subst, ◌∙◌, inl, inr}
use Rattle.std.proofs.lemmas.Bool.Decides.{nat_tests}
use Rattle.weighted.specs.Alike.{Alike, Alike-refl, Alike-is, Alike-sym, Alike-trans, Alike-append}
use Rattle.lattice_time.specs.declared.position.Position.{Position}
use Rattle.flow_core.specs.Runs.{Run, Step, Every, Member, NoneAbove, NoneBelow, Answers, continued, empty_run, sealed, fed_to, made_to, times_of}
use Rattle.flow_core.specs.RunLaws.{times_of-append, fed_to_last, made_to_last}
use Rattle.flow_core.specs.Lists.{Every-append, Every-map}
use Rattle.flow_core.specs.Closing.{IsClosed}
use Rattle.aggregate_views.specs.Keeping.{below, IsRunTo, IsFed}

not_le : (m n : ℕ) → n < m → nat_le m n ≡ false
not_le m n h = grind (arith, nat_tests)

pub is_le : (m n : ℕ) → m ≤ n → nat_le m n ≡ true
is_le m n h = grind (arith, nat_tests)

max_is : (m n : ℕ) (b : Bool) → nat_le m n ≡ b → (max m n ≡ m) ⊎ (max m n ≡ n)
max_is m n true h = inr (grind (arith, nat_tests))
max_is m n false h = inl (grind (arith, nat_tests))

abbrev later : Position → Position → Position
later r s = record { 0 = max r.0 s.0 }

-- no time is at or above a later one
pub none_above : (at : ℕ) (t : Position) (times : List Position) → Every (λ s. s.0 ≤ at) times → at < t.0 → NoneAbove below t times
none_above at t [] h low = tt
none_above at t (s ∷ ss) h low = (not_le t.0 s.0 (omega (arith, h.0, low)), none_above at t ss h.1 low)

-- the greater of two times is one of them
pub closed : (times : List Position) → IsClosed later times
closed times r s m n = elim (max_is r.0 s.0 (nat_le r.0 s.0) refl) [
  | inl e ↦ (let k : later r s ≡ r = ap (λ v. record { 0 = v }) e in subst (λ (v : Position). Member v times) (sym k) m)
  | inr e ↦ (let k : later r s ≡ s = ap (λ v. record { 0 = v }) e in subst (λ (v : Position). Member v times) (sym k) n)
]

module _ {I O : Type 0} where
  -- one more step
  pub stepped : (at : ℕ) (fed delta : List (I × ℕ)) (held made next : List (O × ℕ)) (run : Run Position I O) (t : Position) (charge : ℕ) → IsRunTo at fed held run → t.0 ≡ at + 1 → Alike next (held ++ made) → IsRunTo (at + 1) (fed ++ delta) next (continued run t delta made charge)
  stepped at fed delta held made next run t charge r is sum =
      let s : Step Position I O = record { time = t; fed = delta; made = made; charge = charge } in
      record {
        times = subst (λ v. Every (λ u. u.0 ≤ at + 1) v) (sym (times_of-append run.steps (s ∷ []))) (Every-append (λ u. u.0 ≤ at + 1) (times_of run.steps) (t ∷ []) (Every-map (λ u. u.0 ≤ at) (λ u. u.0 ≤ at + 1) (times_of run.steps) (λ u h. omega (arith, h)) r.times) (omega (arith, is), tt));
        fed_is = λ u low.
            let here : below t u ≡ true = is_le t.0 u.0 (omega (arith, is, low)) in
            Alike-trans (Alike-is (fed_to_last below run.steps s u ∙ ap (λ b. fed_to below run.steps u ++ (if b then delta else [])) here)) (Alike-append (r.fed_is u (omega (arith, low))) (Alike-refl delta));
        made_is = λ u low.
            let here : below t u ≡ true = is_le t.0 u.0 (omega (arith, is, low)) in
            Alike-trans (Alike-is (made_to_last below run.steps s u ∙ ap (λ b. made_to below run.steps u ++ (if b then made else [])) here)) (Alike-trans (Alike-append (r.made_is u (omega (arith, low))) (Alike-refl made)) (Alike-sym sum));
      }

  -- nothing was fed or made yet
  pub not_stepped : IsRunTo {I = I} {O = O} 0 [] [] empty_run
  not_stepped = record { times = tt; fed_is = λ t low. Alike-refl []; made_is = λ t low. Alike-refl [] }

  module _ {S : Type 0} (stands : S → Run Position I O → Type 0) (due : S → List Position) (seal : S → Position) (spent : S → Bool) where
    -- what was fed counts as a collection
    pub fed_alike : (operator : S) (at : ℕ) (held : List (O × ℕ)) (fed more : List (I × ℕ)) → Alike fed more → IsFed stands due seal spent operator at held fed → IsFed stands due seal spent operator at held more
    fed_alike operator at held fed more h f = record {
      run = f.run;
      is_run = f.is_run;
      to = record { times = f.to.times; fed_is = λ t low. Alike-trans (f.to.fed_is t low) h; made_is = f.to.made_is };
      nothing_due = f.nothing_due;
      low = f.low;
      live = f.live;
    }

    -- what is held is the function of what was fed
    pub held_is : (lub : Position → Position → Position) (apply : List (I × ℕ) → List (O × ℕ)) → ((xs ys : List (I × ℕ)) → Alike xs ys → Alike (apply xs) (apply ys)) → (operator : S) (at : ℕ) (held : List (O × ℕ)) (fed : List (I × ℕ)) → ((run : Run Position I O) → stands operator run → Answers below lub apply (seal operator) (due operator) run) → IsFed stands due seal spent operator at held fed → Alike held (apply fed)
    held_is lub apply respects operator at held fed answers f =
        let t : Position = record { 0 = at } in
        let here : at ≤ t.0 = omega arith in
        let a : Answers below lub apply (seal operator) (due operator) f.run = answers f.run f.is_run in
        let none : NoneBelow below t (due operator) = subst (λ v. NoneBelow below t v) (sym f.nothing_due) tt in
        Alike-trans (Alike-sym (f.to.made_is t here)) (Alike-trans (a.closed t (is_le (seal operator).0 at f.low) none) (respects (fed_to below f.run.steps t) fed (f.to.fed_is t here)))

    -- one more step
    pub fed_after : (operator next_operator : S) (at : ℕ) (held made next : List (O × ℕ)) (fed delta : List (I × ℕ)) (t : Position) (charge : ℕ) → ((run : Run Position I O) → stands operator run → NoneAbove below t (times_of run.steps) → stands next_operator (continued run t delta made charge)) → ((run : Run Position I O) → stands next_operator run → IsClosed later (times_of run.steps) → due next_operator ≡ []) → seal next_operator ≡ seal operator → spent next_operator ≡ false → t.0 ≡ at + 1 → Alike next (held ++ made) → IsFed stands due seal spent operator at held fed → IsFed stands due seal spent next_operator (at + 1) next (fed ++ delta)
    fed_after operator next_operator at held made next fed delta t charge runs settled sealed live is sum f =
        let run : Run Position I O = continued f.run t delta made charge in
        let stood : stands next_operator run = runs f.run f.is_run (none_above at t (times_of f.run.steps) f.to.times (omega (arith, is))) in
        let low : (seal next_operator).0 ≤ at + 1 = subst (λ (p : Position). p.0 ≤ at + 1) (sym sealed) (omega (arith, f.low)) in
        record {
          run = run;
          is_run = stood;
          to = stepped at fed delta held made next f.run t charge f.to is sum;
          nothing_due = settled run stood (closed (times_of run.steps));
          low = low;
          live = live;
        }

    -- after a seal at the position of the last step
    pub fed_sealed : (operator next_operator : S) (at : ℕ) (held : List (O × ℕ)) (fed : List (I × ℕ)) (t : Position) (charge : ℕ) → ((run : Run Position I O) → stands operator run → stands next_operator (sealed run charge)) → due next_operator ≡ [] → seal next_operator ≡ t → spent next_operator ≡ false → t.0 ≡ at → IsFed stands due seal spent operator at held fed → IsFed stands due seal spent next_operator at held fed
    fed_sealed operator next_operator at held fed t charge runs none at_t live is f =
        let low : (seal next_operator).0 ≤ at = subst (λ (p : Position). p.0 ≤ at) (sym at_t) (omega (arith, is)) in
        record {
          run = sealed f.run charge;
          is_run = runs f.run f.is_run;
          to = record { times = f.to.times; fed_is = f.to.fed_is; made_is = f.to.made_is };
          nothing_due = none;
          low = low;
          live = live;
        }
