-- Runs in two parts, and with one more step: their times, and what was fed and made.
use Rattle.std.specs.Prelude.{◌≡◌, ℕ, Bool, false, List, [], ◌∷◌, ◌++◌, if◌then◌else◌, refl}
use Rattle.std.proofs.Common.{ap, sym, subst, ◌∙◌, append_assoc, append-nil}
use Rattle.flow_core.specs.Runs.{Step, Member, fed_of, made_of, fed_to, made_to, times_of}
use Rattle.flow_core.specs.Lists.{Member-front, Member-back}

module _ {T I O : Type 0} where
  -- ---- the times

  pub times_of-append : (xs ys : List (Step T I O)) → times_of (xs ++ ys) ≡ times_of xs ++ times_of ys
  times_of-append [] ys = refl
  times_of-append (s ∷ ss) ys = ap (λ v. s.time ∷ v) (times_of-append ss ys)

  pub time_before : (xs ys : List (Step T I O)) (t : T) → Member t (times_of xs) → Member t (times_of (xs ++ ys))
  time_before xs ys t m = subst (λ v. Member t v) (sym (times_of-append xs ys)) (Member-front t (times_of xs) (times_of ys) m)

  pub time_after : (xs ys : List (Step T I O)) (t : T) → Member t (times_of ys) → Member t (times_of (xs ++ ys))
  time_after xs ys t m = subst (λ v. Member t v) (sym (times_of-append xs ys)) (Member-back t (times_of xs) (times_of ys) m)

  -- ---- what was fed and made, with its times

  pub fed_of-append : (xs ys : List (Step T I O)) → fed_of (xs ++ ys) ≡ fed_of xs ++ fed_of ys
  fed_of-append [] ys = refl
  fed_of-append (s ∷ ss) ys = ap (λ v. (s.time, s.fed) ∷ v) (fed_of-append ss ys)

  pub made_of-append : (xs ys : List (Step T I O)) → made_of (xs ++ ys) ≡ made_of xs ++ made_of ys
  made_of-append [] ys = refl
  made_of-append (s ∷ ss) ys = ap (λ v. (s.time, s.made) ∷ v) (made_of-append ss ys)

  -- ---- what was fed and made at or below a time

  module _ (leq : T → T → Bool) where
    pub fed_to-append : (xs ys : List (Step T I O)) (t : T) → fed_to leq (xs ++ ys) t ≡ fed_to leq xs t ++ fed_to leq ys t
    fed_to-append [] ys t = refl
    fed_to-append (s ∷ ss) ys t = ap (λ v. (if leq s.time t then s.fed else []) ++ v) (fed_to-append ss ys t) ∙ sym (append_assoc (if leq s.time t then s.fed else []) (fed_to leq ss t) (fed_to leq ys t))

    pub made_to-append : (xs ys : List (Step T I O)) (t : T) → made_to leq (xs ++ ys) t ≡ made_to leq xs t ++ made_to leq ys t
    made_to-append [] ys t = refl
    made_to-append (s ∷ ss) ys t = ap (λ v. (if leq s.time t then s.made else []) ++ v) (made_to-append ss ys t) ∙ sym (append_assoc (if leq s.time t then s.made else []) (made_to leq ss t) (made_to leq ys t))

    -- one more step
    pub fed_to_last : (xs : List (Step T I O)) (s : Step T I O) (t : T) → fed_to leq (xs ++ s ∷ []) t ≡ fed_to leq xs t ++ (if leq s.time t then s.fed else [])
    fed_to_last xs s t = fed_to-append xs (s ∷ []) t ∙ ap (λ v. fed_to leq xs t ++ v) (append-nil (if leq s.time t then s.fed else []))

    pub made_to_last : (xs : List (Step T I O)) (s : Step T I O) (t : T) → made_to leq (xs ++ s ∷ []) t ≡ made_to leq xs t ++ (if leq s.time t then s.made else [])
    made_to_last xs s t = made_to-append xs (s ∷ []) t ∙ ap (λ v. made_to leq xs t ++ v) (append-nil (if leq s.time t then s.made else []))

    -- one that is not at or below t adds nothing there
    pub fed_to_more : (xs : List (Step T I O)) (s : Step T I O) (t : T) → leq s.time t ≡ false → fed_to leq (xs ++ s ∷ []) t ≡ fed_to leq xs t
    fed_to_more xs s t h = fed_to_last xs s t ∙ ap (λ b. fed_to leq xs t ++ (if b then s.fed else [])) h ∙ append-nil (fed_to leq xs t)

    pub made_to_more : (xs : List (Step T I O)) (s : Step T I O) (t : T) → leq s.time t ≡ false → made_to leq (xs ++ s ∷ []) t ≡ made_to leq xs t
    made_to_more xs s t h = made_to_last xs s t ∙ ap (λ b. made_to leq xs t ++ (if b then s.made else [])) h ∙ append-nil (made_to leq xs t)
