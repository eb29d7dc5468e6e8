-- What is written of a predicate is that predicate, in no more tokens and with no more levels.
use Rattle.std.proofs.Common.{◌≡◌, ◌∙◌, ◌≤◌, ◌<◌, ℕ, zero, suc, List, [], ◌∷◌, ◌++◌, refl, sym, ap, subst, inl, inr, arith}
use Rattle.std.proofs.lemmas.List.{append-nil}
use Rattle.gvdl_tokens.specs.declared.token.Token.{Token}
use Rattle.gvdl_tokens.specs.declared.token.Token.TheVariants as t
use Rattle.gvdl_tokens.specs.declared.token.Sign.TheVariants as s
use Rattle.gvdl_tokens.specs.declared.word.Word.TheVariants as w
use Rattle.gvdl_tree.specs.declared.predicate.PredTree.{PredTree}
use Rattle.gvdl_tree.specs.declared.predicate.PredTree.TheVariants as pred
use Rattle.phrase_theory.specs.LevelLaws.{Within, within_then, within_either, within_many, within_chained, within_same}
use Rattle.gvdl_parser.specs.Predicates.{all_of, any_of, conjunction_of, predicate_of, negated, enclosed, negation}
use Rattle.gvdl_printer.specs.Layout.{tokens, word as word_piece}
use Rattle.gvdl_printer.specs.Canonical.{predicate_pieces, joined}
use Rattle.gvdl_printer.proofs.Equations.{predicate-Or, predicate-And, predicate-Not}
use Rattle.gvdl_printer.proofs.Better.{IsBetter, Writes, named, pure_is, word_is, step, left, right, chain_tokens}
use Rattle.gvdl_printer.proofs.Ladder.{parenthesized, IsRanked, ranked, IsLadder, IsPlaced, ArePlaced, IsSettled, chain_placed, plain_placed, settled_at, settled_top, enclosed_placed}
use Rattle.gvdl_printer.proofs.Chains.{chained_one, chain_cases, several_is, tokens-joined}
use Rattle.gvdl_printer.proofs.Atoms.{spelt, atom_is}

-- a place takes any predicate (0), no chain of `or` (1), or no chain (2)
abbrev P : ℕ → ℕ → List Token → PredTree → Type 0
P n zero = predicate_of (negation n)
P n (suc zero) = conjunction_of (negation n)
P n (suc (suc k)) = negation n

-- ---- chains of one member, and more levels

conjunction_one : (n : ℕ) → Within (negation n) (conjunction_of (negation n))
unfolding conjunction_of
conjunction_one n ts p h = chained_one (t.Word w.And) all_of (negation n) ts p refl h

predicate_one : (n : ℕ) → Within (conjunction_of (negation n)) (predicate_of (negation n))
unfolding predicate_of
predicate_one n ts p h = chained_one (t.Word w.Or) any_of (conjunction_of (negation n)) ts p refl h

ladder : (n : ℕ) → IsLadder spelt 2 P n
ladder n = record { lower = lower } where
  lower : (k : ℕ) → k < 2 → Within (P n (suc k)) (P n k)
  lower zero lt = predicate_one n
  lower (suc zero) lt = conjunction_one n
  lower (suc (suc k)) lt = absurd (omega (arith, lt))

ruleset within = (within_then, within_either, within_many, within_chained, within_same)

conjunction_within : (L M : List Token → PredTree → Type 0) → Within L M → Within (conjunction_of L) (conjunction_of M)
unfolding conjunction_of
conjunction_within L M g = within_chained (t.Word w.And) all_of L M g

predicate_within : (L M : List Token → PredTree → Type 0) → Within L M → Within (predicate_of L) (predicate_of M)
unfolding predicate_of
predicate_within L M g = within_chained (t.Word w.Or) any_of (conjunction_of L) (conjunction_of M) (conjunction_within L M g)

negated_within : (L M : List Token → PredTree → Type 0) → Within L M → Within (negated L) (negated M)
unfolding negated
negated_within L M g = search within depth 12

enclosed_within : (L M : List Token → PredTree → Type 0) → Within L M → Within (enclosed L) (enclosed M)
unfolding enclosed
enclosed_within L M g = search (within, predicate_within) depth 12

negation_grows : (n : ℕ) → Within (negation n) (negation (suc n))
unfolding negation
negation_grows zero ts b p = record { which = inr (record { which = inr p }) }
negation_grows (suc n) ts b p = within_either _ _ _ _ (negated_within (negation n) (negation (suc n)) (negation_grows n)) (within_either _ _ _ _ (enclosed_within (negation n) (negation (suc n)) (negation_grows n)) (λ us a q. q)) ts b p

grows : (n k : ℕ) → Within (P n k) (P (suc n) k)
grows n zero = predicate_within (negation n) (negation (suc n)) (negation_grows n)
grows n (suc zero) = conjunction_within (negation n) (negation (suc n)) (negation_grows n)
grows n (suc (suc k)) = negation_grows n

opened : (n : ℕ) (ts : List Token) (p : PredTree) → predicate_of (negation n) ts p → negation (suc n) (parenthesized ts) p
unfolding negation enclosed
opened n ts p h = record {
  which = inr (record {
    which = inl (record {
      front = t.Sign s.Open ∷ [];
      back = ts ++ t.Sign s.Close ∷ [];
      tree = tt;
      split = refl;
      first = refl;
      second = record { front = ts; back = t.Sign s.Close ∷ []; tree = p; split = refl; first = h; second = record { front = t.Sign s.Close ∷ []; back = []; tree = tt; split = refl; first = refl; second = (refl, refl) } };
    });
  });
}

-- ---- how chains are written

or_ranked : (ps : List PredTree) → IsRanked spelt 0 (pred.Or ps)
or_ranked ps = ranked predicate_pieces 0 (pred.Or ps) (joined (word_piece w.Or) (λ p. predicate_pieces p 1) ps) (predicate-Or ps)

and_ranked : (ps : List PredTree) → IsRanked spelt 1 (pred.And ps)
and_ranked ps = ranked predicate_pieces 1 (pred.And ps) (joined (word_piece w.And) (λ p. predicate_pieces p 2) ps) (predicate-And ps)

or_spelt : (first : PredTree) (others : List PredTree) → spelt 0 (pred.Or (first ∷ others)) ≡ chain_tokens (t.Word w.Or) (spelt 1) first others
or_spelt first others = ap tokens (predicate-Or (first ∷ others) 0) ∙ tokens-joined (word_piece w.Or) (λ p. predicate_pieces p 1) first others

and_spelt : (first : PredTree) (others : List PredTree) → spelt 1 (pred.And (first ∷ others)) ≡ chain_tokens (t.Word w.And) (spelt 2) first others
and_spelt first others = ap tokens (predicate-And (first ∷ others) 1) ∙ tokens-joined (word_piece w.And) (λ p. predicate_pieces p 2) first others

not_spelt : (p : PredTree) (k : ℕ) → spelt k (pred.Not p) ≡ t.Word w.Not ∷ spelt 2 p
not_spelt p k = ap tokens (predicate-Not p k)

abbrev Placed : ℕ → ℕ → Type 0
Placed n k = ArePlaced spelt 2 P n k

at_place : (n k : ℕ) → Placed n k → Writes (spelt k) (P n k) (P n k)
at_place n k h ts p q = (h ts p q).by k (omega arith)

conjunctions_placed : (n : ℕ) → Placed n 2 → Placed n 1
unfolding conjunction_of
conjunctions_placed n top ts p q = elim (chain_cases (t.Word w.And) all_of (negation n) (λ a. refl) ts p q) [
  | inl h ↦ let k = top ts p h in record { by = λ j le. k.by j (omega (arith, le)) }
  | inr v ↦ chain_placed spelt 2 P n 1 (ladder n) (omega arith) ts p (subst (IsRanked spelt 1) (sym v.is) (and_ranked (v.first ∷ v.second ∷ v.more)))
      (named (several_is (spelt 2) (at_place n 2 top) ts p v) (sym (and_spelt v.first (v.second ∷ v.more)) ∙ ap (spelt 1) (sym v.is)))
]

predicates_placed : (n : ℕ) → Placed n 1 → Placed n 0
unfolding predicate_of
predicates_placed n middle ts p q = elim (chain_cases (t.Word w.Or) any_of (conjunction_of (negation n)) (λ a. refl) ts p q) [
  | inl h ↦ let k = middle ts p h in record { by = λ j le. k.by j (omega (arith, le)) }
  | inr v ↦ chain_placed spelt 2 P n 0 (ladder n) (omega arith) ts p (subst (IsRanked spelt 0) (sym v.is) (or_ranked (v.first ∷ v.second ∷ v.more)))
      (named (several_is (spelt 1) (at_place n 1 middle) ts p v) (sym (or_spelt v.first (v.second ∷ v.more)) ∙ ap (spelt 0) (sym v.is)))
]

-- ---- what stands in parentheses

conjunction_settled : (n : ℕ) (ts : List Token) (p : PredTree) → conjunction_of (negation n) ts p → IsSettled spelt 2 P n ts p
unfolding conjunction_of
conjunction_settled n ts p q = elim (chain_cases (t.Word w.And) all_of (negation n) (λ a. refl) ts p q) [
  | inl h ↦ settled_top spelt 2 P n ts p h
  | inr v ↦ settled_at spelt 2 P n 1 (omega arith) ts p q (subst (IsRanked spelt 1) (sym v.is) (and_ranked (v.first ∷ v.second ∷ v.more)))
]

predicate_settled : (n : ℕ) (ts : List Token) (p : PredTree) → predicate_of (negation n) ts p → IsSettled spelt 2 P n ts p
unfolding predicate_of
predicate_settled n ts p q = elim (chain_cases (t.Word w.Or) any_of (conjunction_of (negation n)) (λ a. refl) ts p q) [
  | inl h ↦ conjunction_settled n ts p h
  | inr v ↦ settled_at spelt 2 P n 0 (omega arith) ts p q (subst (IsRanked spelt 0) (sym v.is) (or_ranked (v.first ∷ v.second ∷ v.more)))
]

-- ---- all levels

record ArePlacedAll (n : ℕ) : Type 0 where
  top : Placed n 2
  middle : Placed n 1
  weak : Placed n 0

from_top : (n : ℕ) → Placed n 2 → ArePlacedAll n
from_top n top = let middle = conjunctions_placed n top in record { top = top; middle = middle; weak = predicates_placed n middle }

each_place : (n : ℕ) → ArePlacedAll n → (k : ℕ) → k ≤ 2 → Placed n k
each_place n all zero le = all.weak
each_place n all (suc zero) le = all.middle
each_place n all (suc (suc zero)) le = all.top
each_place n all (suc (suc (suc k))) le = absurd (omega (arith, le))

top_zero : Placed 0 2
unfolding negation
top_zero ts p q = let a = atom_is ts p q in plain_placed spelt 2 P 0 (ladder 0) ts a.made p a.at a.better

top_more : (n : ℕ) → ArePlacedAll n → Placed (suc n) 2
unfolding negation negated enclosed
top_more n inside ts p q = elim q.which [
  | inl h ↦
      let k = h.second in
      let inner = (inside.top k.front k.tree k.first).by 2 (omega arith) in
      let made : IsBetter (negation (suc n)) ts (t.Word w.Not ∷ (spelt 2 k.tree ++ [])) p = left (step h (word_is h.first) (step k inner (pure_is k.second))) in
      plain_placed spelt 2 P (suc n) (ladder (suc n)) ts (t.Word w.Not ∷ spelt 2 k.tree) p (λ j. ap (spelt j) k.second.1 ∙ not_spelt k.tree j) (named made (ap (λ (x : List Token). t.Word w.Not ∷ x) (append-nil (spelt 2 k.tree))))
  | inr o ↦ elim o.which [
    | inl h ↦
        let k = h.second in
        let l = k.second in
        let same : k.tree ≡ p = sym l.second.1 in
        let whole : ts ≡ parenthesized k.front = h.split ∙ ap (λ (x : List Token). x ++ h.back) h.first ∙ ap (λ (x : List Token). t.Sign s.Open ∷ x) (k.split ∙ ap (λ (x : List Token). k.front ++ x) (l.split ∙ ap (λ (x : List Token). x ++ l.back) l.first ∙ ap (λ (x : List Token). t.Sign s.Close ∷ x) l.second.0)) in
        let it : predicate_of (negation n) k.front p = subst (λ (x : PredTree). predicate_of (negation n) k.front x) same k.first in
        subst (λ (x : List Token). IsPlaced spelt 2 P (suc n) 2 x p) (sym whole) (enclosed_placed spelt 2 P n (ladder (suc n)) (grows n) (opened n) (each_place n inside) k.front p (predicate_settled n k.front p it))
    | inr h ↦ let a = atom_is ts p h in plain_placed spelt 2 P (suc n) (ladder (suc n)) ts a.made p a.at (right (right a.better))
  ]
]

all_placed : (n : ℕ) → ArePlacedAll n
all_placed zero = from_top 0 top_zero
all_placed (suc n) = from_top (suc n) (top_more n (all_placed n))

pub predicate_is : (n : ℕ) → Writes (spelt 0) (predicate_of (negation n)) (predicate_of (negation n))
predicate_is n = at_place n 0 (all_placed n).weak
