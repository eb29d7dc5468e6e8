-- `hops` and `dist`: where they start, what goes along an arc, and what the costs of walks mean.
use Rattle.std.specs.Prelude.{◌≡◌, ℕ, ℤ, pos, ◌+◌, ◌≤◌, min, Bool, true, false, ◌&&◌, cond, List, [], ◌∷◌, length, sum_by, refl}
use Rattle.std.specs.Ordering.{int_eq}
use Rattle.std.proofs.Common.{arith, ap, sym, ◌∙◌}
use Rattle.std.proofs.lemmas.Bool.Decides.{Decides-int_eq}
use Rattle.graph_model.specs.declared.value.Val.{Val}
use Rattle.graph_model.specs.declared.value.Val.TheVariants.{Nil, Num}
use Rattle.graph_model.specs.GraphData.{GraphData, id_of}
use Rattle.vertex_lang.specs.declared.arc.Arc.{Arc}
use Rattle.vertex_lang.specs.declared.program.Check.TheVariants as check
use Rattle.vertex_lang.specs.declared.program.Cmp.TheVariants as cmp
use Rattle.vertex_lang.specs.declared.program.Expr.{Expr}
use Rattle.vertex_lang.specs.declared.program.Expr.TheVariants as expr
use Rattle.vertex_lang.specs.declared.program.Program.{Program}
use Rattle.vertex_lang.specs.Expressions.{Environment, value_of, holds_of, start_of, start_words}
use Rattle.vertex_lang.specs.Trees.{value-If, value-Number, value-Nil, value-Id, value-Sum, value-Value, holds-Compare}
use Rattle.vertex_lang.specs.Values.{added, compares}
use Rattle.graph_meanings.specs.Clamping.{top, clamped-pos, same-number, same-natural}
use Rattle.graph_meanings.specs.LeastCosts.{HasCost}
use Rattle.graph_meanings.specs.Meanings.{HasWalk, IsLeastOf}
use Rattle.graph_algos.specs.Shared.{from_source, value_and}

-- ---- the start

is-source : (s : ℤ) (words : Environment) → holds_of (check.Compare expr.Id cmp.Eq (expr.Number s)) words ≡ int_eq (pos words.id) s
is-source s words =
    holds-Compare expr.Id cmp.Eq (expr.Number s) words
    ∙ ap (λ (x : Val). compares cmp.Eq x (value_of (expr.Number s) words)) (value-Id words)
    ∙ ap (λ (x : Val). compares cmp.Eq (Num (pos words.id)) x) (value-Number s words)

from-source-is : (s : ℤ) (words : Environment) → value_of (from_source s) words ≡ cond (int_eq (pos words.id) s && true) (Num (pos 0)) Nil
from-source-is s words =
    value-If (check.Compare expr.Id cmp.Eq (expr.Number s) ∷ []) (expr.Number (pos 0)) expr.Nil words
    ∙ ap (λ (b : Bool). cond (b && true) (value_of (expr.Number (pos 0)) words) (value_of expr.Nil words)) (is-source s words)
    ∙ ap (λ (x : Val). cond (int_eq (pos words.id) s && true) x (value_of expr.Nil words)) (value-Number (pos 0) words)
    ∙ ap (λ (x : Val). cond (int_eq (pos words.id) s && true) (Num (pos 0)) x) (value-Nil words)

only-source : (b : Bool) (z : ℤ) → cond (b && true) (Num (pos 0)) Nil ≡ Num z → (b ≡ true) × (z ≡ pos 0)
only-source true z e = (refl, sym (same-number (pos 0) z e))
only-source false z e = absurd cc

-- a node starts with a number only where it has the id, and then with 0
pub source-starts : (s : ℤ) (graph : GraphData) (v : ℕ) (z : ℤ) → value_of (from_source s) (start_words graph v) ≡ Num z → (pos (id_of graph v) ≡ s) × (z ≡ pos 0)
source-starts s graph v z e =
    let told = only-source (int_eq (pos (id_of graph v)) s) z (sym (from-source-is s (start_words graph v)) ∙ e) in
    ((Decides-int_eq (pos (id_of graph v)) s).0 told.0, told.1)

-- and where it has the id it does
pub starts-source : (s : ℤ) (graph : GraphData) (v : ℕ) → pos (id_of graph v) ≡ s → value_of (from_source s) (start_words graph v) ≡ Num (pos 0)
starts-source s graph v e = from-source-is s (start_words graph v) ∙ ap (λ (b : Bool). cond (b && true) (Num (pos 0)) Nil) ((Decides-int_eq (pos (id_of graph v)) s).1 e)

-- ---- along an arc

pub sum-is : (more : Expr) (words : Environment) → value_of (value_and more) words ≡ added true words.value (value_of more words)
sum-is more words = value-Sum expr.Value ((true, more) ∷ []) words ∙ ap (λ (x : Val). added true x (value_of more words)) (value-Value words)

pub sum-carries : (v c : Val) (m w : ℕ) → c ≡ added true v (Num (pos w)) → v ≡ Num (pos m) → (n : ℕ) × (c ≡ Num (pos n)) × (min n top ≡ min (m + w) top) × (n ≤ m + w)
sum-carries v c m w e f = (min (m + w) top, e ∙ ap (λ (x : Val). added true x (Num (pos w))) f ∙ ap (λ (z : ℤ). Num z) (clamped-pos (m + w)), omega arith, omega arith)

pub sum-brings : (v c : Val) (w : ℕ) (z : ℤ) → c ≡ added true v (Num (pos w)) → c ≡ Num z → (y : ℤ) × (v ≡ Num y)
sum-brings Nil c w z e f = let never : Nil ≡ Num z = sym e ∙ f in absurd cc
sum-brings (Num y) c w z e f = (y, refl)

-- ---- what the costs mean

pub least-of : (P Q : ℕ → Type 0) (w : Val) → ((n : ℕ) → P n → Q n) → ((n : ℕ) → Q n → P n) → IsLeastOf P w → IsLeastOf Q w
least-of P Q w to from l = record {
  reached = λ z e. let told = l.reached z e in (told.0, to told.0 told.1, told.2);
  bounds = λ n h. l.bounds n (from n h);
}

module _ (p : Program) (s : ℤ) (starts : p.start ≡ from_source s) (graph : GraphData) (arcs : List Arc) (weight : Arc → ℕ) (measure : List Arc → ℕ) (measures : (walk : List Arc) → measure walk ≡ sum_by weight walk) where
  pub starts-at : (v : ℕ) (z : ℤ) → start_of p graph v ≡ Num z → (pos (id_of graph v) ≡ s) × (z ≡ pos 0)
  starts-at v z e = source-starts s graph v z (ap (λ (x : Expr). value_of x (start_words graph v)) (sym starts) ∙ e)

  pub walk-from : (most v n : ℕ) → HasCost p graph arcs weight most v n → HasWalk graph arcs measure s v n
  walk-from most v n c =
      let told = starts-at c.from (pos c.first) c.starts in
      let none = same-natural c.first 0 told.1 in
      record { from = c.from; within = c.within; is_source = told.0; walk = c.walk; leads = c.leads; measured = omega (arith, none, c.sums, measures c.walk) }

  pub cost-from : (v n : ℕ) → HasWalk graph arcs measure s v n → (most : ℕ) × HasCost p graph arcs weight most v n
  cost-from v n h = (
    length h.walk,
    record {
      from = h.from;
      first = 0;
      within = h.within;
      starts = ap (λ (x : Expr). value_of x (start_words graph h.from)) starts ∙ starts-source s graph h.from h.is_source;
      walk = h.walk;
      leads = h.leads;
      short = omega arith;
      sums = omega (arith, h.measured, measures h.walk);
    },
  )
