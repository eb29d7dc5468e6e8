-- The predicates of a single view are those of what it stands on, and then its own.
use Rattle.std.proofs.Common.{◌≡◌, ◌∙◌, ℕ, zero, suc, ◌+◌, ◌<◌, ◌≤◌, Bool, List, [], ◌∷◌, ◌++◌, length, get_or, refl, sym, ap}
use Rattle.std.proofs.Common.{arith, inl, inr, length-append, append_assoc, Option, None, Some, if◌then◌else◌}
use Rattle.std.specs.Prelude.{reverse}
use Rattle.std.specs.List.{fold}
use Rattle.std.proofs.lemmas.Bool.{cases_lt, lt-ltb, le-ltb}
use Rattle.std.proofs.lemmas.List.{get_or_append_left, get_or_push, get_or_past, reverse-append}
use Rattle.edge_predicates.specs.declared.pred.Pred.{Pred}
use Rattle.gvdl_check.specs.declared.singles.Single.{Single}
use Rattle.gvdl_check.specs.Singles.{rules_at, with_view, chained, before}

abbrev grown : List (List Pred) → List Single → List (List Pred)
grown views singles = fold (λ above single. with_view above single.base single.pred) views singles

length_grown : (ss : List Single) (views : List (List Pred)) → length (grown views ss) ≡ length views + length ss
length_grown [] views = omega arith
length_grown (s ∷ ss) views =
    let more = length-append views ((rules_at views s.base ++ s.pred ∷ []) ∷ []) in
    omega (arith, more, length_grown ss (with_view views s.base s.pred))

-- later views change no earlier one
kept : (ss : List Single) (views : List (List Pred)) (i : ℕ) → i < length views → get_or (grown views ss) i [] ≡ get_or views i []
kept [] views i lt = refl
kept (s ∷ ss) views i lt =
    let rules = rules_at views s.base ++ s.pred ∷ [] in
    let more = length-append views (rules ∷ []) in
    kept ss (with_view views s.base s.pred) i (omega (arith, lt, more)) ∙ get_or_append_left views (rules ∷ []) [] i lt

rules_kept : (ss : List Single) (views : List (List Pred)) (n : ℕ) (base : Option ℕ) → n ≡ length views
    → rules_at (grown views ss) (before base n) ≡ rules_at views base
rules_kept ss views n None e = refl
rules_kept ss views n (Some b) e = elim (cases_lt b n) [
  | inl lt ↦
      ap (λ (x : Bool). rules_at (grown views ss) (if x then Some b else None)) (lt-ltb b n lt)
      ∙ kept ss views b (omega (arith, lt, e))
  | inr le ↦
      ap (λ (x : Bool). rules_at (grown views ss) (if x then Some b else None)) (le-ltb b n le)
      ∙ sym (get_or_past views b [] (omega (arith, le, e)))
]

here : (ss : List Single) (views : List (List Pred)) (i n : ℕ) (d : Single) → n ≡ length views + i → i < length ss
    → get_or (grown views ss) n [] ≡ rules_at (grown views ss) (before (get_or ss i d).base n) ++ (get_or ss i d).pred ∷ []
here [] views i n d e lt = absurd (omega (arith, lt))
here (s ∷ ss) views zero n d e lt =
    let rules = rules_at views s.base ++ s.pred ∷ [] in
    let more = length-append views (rules ∷ []) in
    let own : get_or (grown views (s ∷ ss)) n [] ≡ rules =
    kept ss (with_view views s.base s.pred) n (omega (arith, e, more)) ∙ get_or_push views rules [] n (omega (arith, e)) in
    own ∙ ap (λ (l : List Pred). l ++ s.pred ∷ []) (sym (rules_kept (s ∷ ss) views n s.base (omega (arith, e))))
here (s ∷ ss) views (suc i) n d e lt =
    let more = length-append views ((rules_at views s.base ++ s.pred ∷ []) ∷ []) in
    here ss (with_view views s.base s.pred) i n d (omega (arith, e, more)) (omega (arith, lt))

pub length_chained : (ss : List Single) → length (chained ss) ≡ length ss
length_chained ss = omega (arith, length_grown ss [])

-- ---- from a view down to the graph

abbrev pub height : Option ℕ → ℕ
height None = 0
height (Some n) = n + 1

pub lower : (base : Option ℕ) (n : ℕ) → height (before base n) < n + 1
lower None n = omega arith
lower (Some b) n = elim (cases_lt b n) [
  | inl lt ↦
      let e = ap (λ (x : Bool). height (if x then Some b else None)) (lt-ltb b n lt) in
      omega (arith, e, lt)
  | inr le ↦
      let e = ap (λ (x : Bool). height (if x then Some b else None)) (le-ltb b n le) in
      omega (arith, e)
]

-- what was walked, and what is left of it
abbrev pub IsWalked : List (List Pred) → (place next : Option ℕ) → List Pred → Type 0
IsWalked views place next walked = rules_at views place ≡ rules_at views next ++ reverse walked

pub walked_on : (ss : List Single) (place : Option ℕ) (i : ℕ) (d : Single) (walked : List Pred) → i < length ss
    → IsWalked (chained ss) place (Some i) walked
    → IsWalked (chained ss) place (before (get_or ss i d).base i) (walked ++ (get_or ss i d).pred ∷ [])
walked_on ss place i d walked lt h =
    let below = rules_at (chained ss) (before (get_or ss i d).base i) in
    let p = (get_or ss i d).pred in
    h ∙ ap (λ (l : List Pred). l ++ reverse walked) (here ss [] i i d (omega arith) lt)
    ∙ append_assoc below (p ∷ []) (reverse walked) ∙ ap (λ (l : List Pred). below ++ l) (sym (reverse-append walked (p ∷ [])))

pub walked_past : (ss : List Single) (place : Option ℕ) (i : ℕ) (walked : List Pred) → length ss ≤ i
    → IsWalked (chained ss) place (Some i) walked → IsWalked (chained ss) place None walked
walked_past ss place i walked le h =
    h ∙ ap (λ (l : List Pred). l ++ reverse walked) (get_or_past (chained ss) i [] (omega (arith, le, length_chained ss)))
