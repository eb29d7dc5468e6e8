-- What is kept of the step of a view.
use Rattle.std.proofs.Common.{◌≡◌, ℕ, zero, suc, ◌+◌, ◌<◌, ◌≤◌, ◌==◌, Bool, true, false, List, [], ◌∷◌, ◌++◌, length, map, set, All, Option, Some, None, find, refl, sym, ◌∙◌, ap, arith, append_assoc, length-append, cond, inl, inr}
use Rattle.std.specs.List.{range_with_len}
use Rattle.std.specs.Option.{option_or}
use Rattle.std.proofs.lemmas.Bool.Decides.{eqb_tells}
use Rattle.std.proofs.lemmas.List.Folds.{find-append}
use Rattle.graph_model.specs.declared.number.NodeNo.{NodeNo}
use Rattle.graph_model.specs.declared.number.ViewNo.{ViewNo}
use Rattle.graph_model.specs.declared.value.Val.{Val}
use Rattle.vertex_lang.specs.Lone.{same_value}
use Rattle.multisets.specs.Multisets.{IsExact}
use Rattle.change_lists.specs.declared.history.Change.{Change}
use Rattle.change_lists.specs.ChangeLists.{all_from, changes_from}
use Rattle.result_tables.specs.Results.{Held, ResultsData, held_on, assigned}
use Rattle.view_engine.proofs.Putting.{all_cons}

abbrev pub pair_of : Change → NodeNo × Val
pair_of c = (c.node, c.value)

-- ---- of a first view all nodes

pub all_values : (n : ℕ) (values : List Val) → map (λ (c : NodeNo × Val). c.1) (map pair_of (all_from n values)) ≡ values
all_values n [] = refl
all_values n (y ∷ ys) = ap (λ (zs : List Val). y ∷ zs) (all_values (n + 1) ys)

pub all_nodes : (n count : ℕ) (values : List Val) → length values ≡ count → map (λ (c : NodeNo × Val). c.0.0) (map pair_of (all_from n values)) ≡ range_with_len n count
all_nodes n zero [] size = refl
all_nodes n (suc count) [] size = absurd (omega arith)
all_nodes n zero (y ∷ ys) size = absurd (omega arith)
all_nodes n (suc count) (y ∷ ys) size = ap (λ (ns : List ℕ). n ∷ ns) (all_nodes (n + 1) count ys (omega arith))

-- ---- of a later one those whose values differ

changed_first : (n limit : ℕ) (x y : Val) (xs ys : List Val) → n < limit → All (λ (c : NodeNo × Val). c.0.0 < limit) (map pair_of (changes_from (n + 1) xs ys))
    → (b : Bool) → same_value x y ≡ b → All (λ (c : NodeNo × Val). c.0.0 < limit) (map pair_of (changes_from n (x ∷ xs) (y ∷ ys)))
changed_first n limit x y xs ys low rest true is = rw is rest
changed_first n limit x y xs ys low rest false is = rw is (all_cons (λ (c : NodeNo × Val). c.0.0 < limit) (record { 0 = n }, y) (map pair_of (changes_from (n + 1) xs ys)) low rest)

pub changed_nodes : (n limit : ℕ) (xs ys : List Val) → n + length ys ≤ limit → All (λ (c : NodeNo × Val). c.0.0 < limit) (map pair_of (changes_from n xs ys))
changed_nodes n limit [] [] few = λ k d low. absurd (omega arith)
changed_nodes n limit [] (y ∷ ys) few = λ k d low. absurd (omega arith)
changed_nodes n limit (x ∷ xs) [] few = λ k d low. absurd (omega arith)
changed_nodes n limit (x ∷ xs) (y ∷ ys) few = changed_first n limit x y xs ys (omega (arith, few)) (changed_nodes (n + 1) limit xs ys (omega (arith, few))) (same_value x y) refl

set_seam : (p : List Val) (x y : Val) (xs : List Val) (n : ℕ) → n ≡ length p → set (p ++ x ∷ xs) n y ≡ p ++ y ∷ xs
set_seam [] x y xs n at = rw at refl
set_seam (z ∷ p) x y xs zero at = absurd (omega arith)
set_seam (z ∷ p) x y xs (suc n) at = ap (λ (zs : List Val). z ∷ zs) (set_seam p x y xs n (omega (arith, at)))

one_seam : (p : List Val) (x : Val) (xs : List Val) → p ++ x ∷ xs ≡ (p ++ x ∷ []) ++ xs
one_seam p x xs = sym (append_assoc p (x ∷ []) xs)

first_made : IsExact same_value → (n : ℕ) (p : List Val) (x y : Val) (xs ys : List Val) → n ≡ length p
    → ((z : Val) → assigned ((p ++ z ∷ []) ++ xs) (map pair_of (changes_from (n + 1) xs ys)) ≡ (p ++ z ∷ []) ++ ys)
    → (b : Bool) → same_value x y ≡ b → assigned (p ++ x ∷ xs) (map pair_of (changes_from n (x ∷ xs) (y ∷ ys))) ≡ p ++ y ∷ ys
first_made exact n p x y xs ys at rest true is =
    let same : x ≡ y = exact.one x y is in
    rw is (ap (λ (vs : List Val). assigned vs (map pair_of (changes_from (n + 1) xs ys))) (one_seam p x xs) ∙ rest x ∙ sym (one_seam p x ys) ∙ ap (λ (z : Val). p ++ z ∷ ys) same)
first_made exact n p x y xs ys at rest false is =
    rw is (ap (λ (vs : List Val). assigned vs (map pair_of (changes_from (n + 1) xs ys))) (set_seam p x y xs n at ∙ one_seam p y xs) ∙ rest y ∙ sym (one_seam p y ys))

-- the changes make of the values before those behind
pub changes_made : IsExact same_value → (n : ℕ) (p xs ys : List Val) → n ≡ length p → length xs ≡ length ys → assigned (p ++ xs) (map pair_of (changes_from n xs ys)) ≡ p ++ ys
changes_made exact n p [] [] at size = refl
changes_made exact n p [] (y ∷ ys) at size = absurd (omega arith)
changes_made exact n p (x ∷ xs) [] at size = absurd (omega arith)
changes_made exact n p (x ∷ xs) (y ∷ ys) at size =
    first_made exact n p x y xs ys at (λ z. changes_made exact (n + 1) (p ++ z ∷ []) xs ys (omega (arith, at, length-append p (z ∷ []))) (omega (arith, size))) (same_value x y) refl

-- ---- one answer more

abbrev pub with_held : ResultsData → Held → ResultsData
with_held m h = record { nodes = m.nodes; held = m.held ++ h ∷ [] }

module _ (m : ResultsData) (h : Held) where
  held_more : (u : ViewNo) → held_on (with_held m h) u ≡ option_or (held_on m u) (find (λ (g : Held). g.view.0 == u.0) (h ∷ []))
  held_more u = find-append (λ (g : Held). g.view.0 == u.0) m.held (h ∷ [])

  pub held_still : (u : ViewNo) (g : Held) → held_on m u ≡ Some g → held_on (with_held m h) u ≡ Some g
  held_still u g is = held_more u ∙ ap (λ (o : Option Held). option_or o (find (λ (g : Held). g.view.0 == u.0) (h ∷ []))) is

  pub held_new : held_on m h.view ≡ None → held_on (with_held m h) h.view ≡ Some h
  held_new none =
      held_more h.view ∙ ap (λ (o : Option Held). option_or o (find (λ (g : Held). g.view.0 == h.view.0) (h ∷ []))) none
      ∙ elim (eqb_tells h.view.0 h.view.0) [ inl e ↦ ap (λ (b : Bool). cond b (Some h) None) e.0 | inr e ↦ absurd (e.1 refl) ]

  pub held_none : (u : ViewNo) → held_on m u ≡ None → (h.view.0 == u.0) ≡ false → held_on (with_held m h) u ≡ None
  held_none u none other =
      held_more u ∙ ap (λ (o : Option Held). option_or o (find (λ (g : Held). g.view.0 == u.0) (h ∷ []))) none
      ∙ ap (λ (b : Bool). cond b (Some h) None) other
