-- A list of tokens has one first fault at most.
use Rattle.std.proofs.Common.{◌≡◌, ℕ, zero, suc, ◌+◌, ◌<◌, Bool, true, List, [], ◌∷◌, ◌++◌, length, take, drop, refl, sym, ap, subst, ◌∙◌, append_assoc, arith, inl, inr}
use Rattle.std.proofs.lemmas.List.{take-append-drop, take-take}
use Rattle.std.proofs.lemmas.Bool.{cases_order}
use Rattle.phrase_theory.specs.Reading.{Begins, Opened}
use Rattle.phrase_theory.specs.FirstFault.{IsPossible, IsSoundTo, IsFirstSyntax, IsFirstTooDeep}

begins_front : {T A : Type 0} (L : List T → A → Type 0) (us vs : List T) → Begins L (us ++ vs) → Begins L us
begins_front {T} {A} L us vs b = record { more = vs ++ b.more; tree = b.tree; whole = subst (λ (x : List T). L x b.tree) (append_assoc us vs b.more) b.whole }

-- what follows the front of a front
behind_front : {T : Type 0} (ts : List T) (k m : ℕ) → k < m → (more : List T) × (take m ts ≡ take (k + 1) ts ++ more)
behind_front {T} ts k m lt = (drop (k + 1) (take m ts), sym (take-append-drop (k + 1) (take m ts)) ∙ ap (λ (x : List T). x ++ drop (k + 1) (take m ts)) (take-take (k + 1) m ts (omega arith)))

-- the token that may open a level, at the end of a front
at_token : {T : Type 0} {opens : T → Bool} (ts : List T) (k : ℕ) → Opened opens (drop k ts) → (t : T) × (take (k + 1) ts ≡ take k ts ++ t ∷ []) × (opens t ≡ true)
at_token [] zero o = absurd o
at_token [] (suc k) o = absurd o
at_token (t ∷ ts) zero o = (t, refl, o)
at_token {T} (t ∷ ts) (suc k) o =
    let h = at_token ts k o in
    let next : suc k + 1 ≡ suc (k + 1) = omega arith in
    (h.0, ap (λ (n : ℕ). take n (t ∷ ts)) next ∙ ap (λ (x : List T). t ∷ x) h.1, h.2)

module _ {T A : Type 0} {opens : T → Bool} {L : ℕ → List T → A → Type 0} {d : ℕ} {ts : List T} where
  possible_to : {m k : ℕ} → IsSoundTo opens L d ts m → k < m → IsPossible L (take (k + 1) ts)
  possible_to {m} {k} s lt =
      let f = behind_front ts k m lt in
      (s.possible.0, begins_front (L s.possible.0) (take (k + 1) ts) f.0 (subst (λ (x : List T). Begins (L s.possible.0) x) f.1 s.possible.1))

  opened_to : {m k : ℕ} → IsSoundTo opens L d ts m → k < m → Opened opens (drop k ts) → Begins (L d) (take (k + 1) ts)
  opened_to {m} {k} s lt o =
      let f = behind_front ts k m lt in
      let a = at_token ts k o in
      let whole : take m ts ≡ take k ts ++ a.0 ∷ f.0 = f.1 ∙ ap (λ (x : List T). x ++ f.0) a.1 ∙ append_assoc (take k ts) (a.0 ∷ []) f.0 in
      subst (λ (x : List T). Begins (L d) x) (sym a.1) (s.stays.by (take k ts) f.0 a.0 whole a.2)

  pub syntax_once : (j k : ℕ) → IsFirstSyntax opens L d ts j → IsFirstSyntax opens L d ts k → j ≡ k
  syntax_once j k p q = elim (cases_order j k) [
    | inl e ↦ e
    | inr h ↦ elim h [
      | inl lt ↦ absurd (p.here (omega (arith, lt, q.within)) (possible_to q.sound lt))
      | inr lt ↦ absurd (q.here (omega (arith, lt, p.within)) (possible_to p.sound lt))
    ]
  ]

  pub deep_once : (j k : ℕ) → IsFirstTooDeep opens L d ts j → IsFirstTooDeep opens L d ts k → j ≡ k
  deep_once j k p q = elim (cases_order j k) [
    | inl e ↦ e
    | inr h ↦ elim h [ inl lt ↦ absurd (p.here (opened_to q.sound lt p.opened)) | inr lt ↦ absurd (q.here (opened_to p.sound lt q.opened)) ]
  ]

  pub not_both : (j k : ℕ) → IsFirstSyntax opens L d ts j → IsFirstTooDeep opens L d ts k → ⊥
  not_both j k p q = elim (cases_order j k) [
    | inl e ↦ p.here (omega (arith, e, q.within)) (subst (λ (x : ℕ). IsPossible L (take (x + 1) ts)) (sym e) q.possible)
    | inr h ↦ elim h [ inl lt ↦ p.here (omega (arith, lt, q.within)) (possible_to q.sound lt) | inr lt ↦ q.here (opened_to p.sound lt q.opened) ]
  ]

  pub sound_no_syntax : (k : ℕ) → IsSoundTo opens L d ts (length ts) → k < length ts → IsFirstSyntax opens L d ts k → ⊥
  sound_no_syntax k s lt p = p.here lt (possible_to s lt)

  pub sound_no_deep : (k : ℕ) → IsSoundTo opens L d ts (length ts) → IsFirstTooDeep opens L d ts k → ⊥
  sound_no_deep k s q = q.here (opened_to s q.within q.opened)
