-- Laws of changes, and of an answer more.
use Rattle.std.specs.Prelude.{◌≡◌, ◌≢◌, ◌⊎◌, ℕ, ◌+◌, ◌<◌, ◌≤◌, ◌==◌, Bool, true, false, cond, List, [], ◌∷◌, ◌++◌, length, map, set, All, Option, Some, None, IsNone, is_some, if◌then◌else◌, refl}
use Rattle.std.specs.List.{find, range_with_len}
use Rattle.std.specs.Option.{option_or}
use Rattle.std.proofs.Common.{sym, ap, ◌∙◌, arith, inl, inr, append_assoc, length-append}
use Rattle.std.proofs.lemmas.Bool.Decides.{eqb_tells}
use Rattle.std.proofs.lemmas.List.Elements.{All-cons, All-nil}
use Rattle.std.proofs.lemmas.List.Folds.{find-append}
use Rattle.graph_model.specs.declared.number.NodeNo.{NodeNo}
use Rattle.graph_model.specs.declared.number.ViewNo.{ViewNo}
use Rattle.graph_model.specs.declared.value.Val.{Val}
use Rattle.vertex_lang.specs.Lone.{same_value}
use Rattle.vertex_lang.specs.GatherLaws.{values-exact}
use Rattle.result_tables.specs.Results.{Held, assigned}
use Rattle.result_tables.specs.Changes.{all_from, changes_from}

-- ---- from the values of one list to those of another

set_seam : (before : List Val) (x y : Val) (rest : List Val) → set (before ++ x ∷ rest) (length before) y ≡ before ++ y ∷ rest
set_seam [] x y rest = refl
set_seam (b ∷ before) x y rest = ap (λ (vs : List Val). b ∷ vs) (set_seam before x y rest)

go_on : (before : List Val) (z : Val) (xs ys : List Val) → assigned ((before ++ z ∷ []) ++ xs) (changes_from (length (before ++ z ∷ [])) xs ys) ≡ (before ++ z ∷ []) ++ ys
    → assigned (before ++ z ∷ xs) (changes_from (length before + 1) xs ys) ≡ before ++ z ∷ ys
go_on before z xs ys rest =
    let place : length before + 1 ≡ length (before ++ z ∷ []) = omega (arith, length-append before (z ∷ [])) in
    ap (λ (n : ℕ). assigned (before ++ z ∷ xs) (changes_from n xs ys)) place
    ∙ ap (λ (vs : List Val). assigned vs (changes_from (length (before ++ z ∷ [])) xs ys)) (sym (append_assoc before (z ∷ []) xs))
    ∙ rest ∙ append_assoc before (z ∷ []) ys

one_change : (before : List Val) (x y : Val) (xs ys : List Val) (same : Bool) → same_value x y ≡ same
    → ((z : Val) → assigned (before ++ z ∷ xs) (changes_from (length before + 1) xs ys) ≡ before ++ z ∷ ys)
    → assigned (before ++ x ∷ xs) (if same then changes_from (length before + 1) xs ys else (record { 0 = length before }, y) ∷ changes_from (length before + 1) xs ys) ≡ before ++ y ∷ ys
one_change before x y xs ys true is rest = rest x ∙ ap (λ (z : Val). before ++ z ∷ ys) (values-exact.one x y is)
one_change before x y xs ys false is rest =
    ap (λ (vs : List Val). assigned vs (changes_from (length before + 1) xs ys)) (set_seam before x y xs) ∙ rest y

lead_on : (before old new : List Val) → length old ≡ length new → assigned (before ++ old) (changes_from (length before) old new) ≡ before ++ new
lead_on before [] [] size = refl
lead_on before [] (y ∷ ys) size = absurd (omega (arith, size))
lead_on before (x ∷ xs) [] size = absurd (omega (arith, size))
lead_on before (x ∷ xs) (y ∷ ys) size =
    one_change before x y xs ys (same_value x y) refl (λ z. go_on before z xs ys (lead_on (before ++ z ∷ []) xs ys (omega (arith, size))))

pub changes_lead : (old new : List Val) → length old ≡ length new → assigned old (changes_from 0 old new) ≡ new
changes_lead old new size = lead_on [] old new size

one_within : (bound n : ℕ) (y : Val) (rest : List (NodeNo × Val)) (same : Bool) → n < bound → All (λ c. c.0.0 < bound) rest
    → All (λ c. c.0.0 < bound) (if same then rest else (record { 0 = n }, y) ∷ rest)
one_within bound n y rest true low all = all
one_within bound n y rest false low all = All-cons (λ (c : NodeNo × Val). c.0.0 < bound) (record { 0 = n }, y) rest low all

pub changes_within : (bound n : ℕ) (old new : List Val) → n + length new ≤ bound → All (λ c. c.0.0 < bound) (changes_from n old new)
changes_within bound n [] [] fits = All-nil (λ (c : NodeNo × Val). c.0.0 < bound)
changes_within bound n [] (y ∷ ys) fits = All-nil (λ (c : NodeNo × Val). c.0.0 < bound)
changes_within bound n (x ∷ xs) [] fits = All-nil (λ (c : NodeNo × Val). c.0.0 < bound)
changes_within bound n (x ∷ xs) (y ∷ ys) fits =
    one_within bound n y (changes_from (n + 1) xs ys) (same_value x y) (omega (arith, fits)) (changes_within bound (n + 1) xs ys (omega (arith, fits)))

-- ---- all values

pub all_values : (n : ℕ) (new : List Val) → map (λ c. c.1) (all_from n new) ≡ new
all_values n [] = refl
all_values n (y ∷ ys) = ap (λ (vs : List Val). y ∷ vs) (all_values (n + 1) ys)

pub all_nodes : (n : ℕ) (new : List Val) → map (λ c. c.0.0) (all_from n new) ≡ range_with_len n (length new)
all_nodes n [] = refl
all_nodes n (y ∷ ys) = ap (λ (ns : List ℕ). n ∷ ns) (all_nodes (n + 1) ys)

-- ---- an answer more

itself : (n : ℕ) (h : Held) → ((n == n) ≡ true) × (n ≡ n) ⊎ ((n == n) ≡ false) × (n ≢ n) → cond (n == n) (Some h) None ≡ Some h
itself n h (inl e) = ap (λ (b : Bool). cond b (Some h) None) e.0
itself n h (inr e) = absurd (e.1 refl)

apart : (m n : ℕ) (h : Held) → n ≢ m → ((m == n) ≡ true) × (m ≡ n) ⊎ ((m == n) ≡ false) × (m ≢ n) → cond (m == n) (Some h) None ≡ None
apart m n h ne (inl e) = absurd (ne (sym e.1))
apart m n h ne (inr e) = ap (λ (b : Bool). cond b (Some h) None) e.0

behind_none : (o p : Option Held) → is_some o ≡ false → option_or o p ≡ p
behind_none None p none = refl
behind_none (Some h) p none = absurd cc

behind : (o p : Option Held) → p ≡ None → option_or o p ≡ o
behind None p none = none
behind (Some h) p none = refl

pub held_itself : (held : List Held) (h : Held) → IsNone (find (λ x. x.view.0 == h.view.0) held) → find (λ x. x.view.0 == h.view.0) (held ++ h ∷ []) ≡ Some h
held_itself held h none =
    find-append (λ (x : Held). x.view.0 == h.view.0) held (h ∷ [])
    ∙ behind_none (find (λ (x : Held). x.view.0 == h.view.0) held) (cond (h.view.0 == h.view.0) (Some h) None) none
    ∙ itself h.view.0 h (eqb_tells h.view.0 h.view.0)

pub held_others : (held : List Held) (h : Held) (other : ViewNo) → other.0 ≢ h.view.0 → find (λ x. x.view.0 == other.0) (held ++ h ∷ []) ≡ find (λ x. x.view.0 == other.0) held
held_others held h other ne =
    find-append (λ (x : Held). x.view.0 == other.0) held (h ∷ [])
    ∙ behind (find (λ (x : Held). x.view.0 == other.0) held) (cond (h.view.0 == other.0) (Some h) None) (apart h.view.0 other.0 h ne (eqb_tells h.view.0 other.0))
