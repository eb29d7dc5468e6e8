-- Predicates by their number of levels.
use Rattle.std.proofs.Common.{◌≡◌, ◌≢◌, ℕ, zero, suc, ◌-◌, arith, Result, Bool, true, false, List, Option, Some, refl, sym, ap, subst, ◌∙◌, inl, inr}
use Rattle.std.specs.Prelude.{◌==◌, ◌||◌}
use Rattle.gvdl_tokens.specs.declared.token.Token.{Token}
use Rattle.gvdl_tokens.specs.declared.token.Token.TheVariants as t
use Rattle.gvdl_tokens.specs.declared.token.Kind.{Kind}
use Rattle.gvdl_tokens.specs.declared.token.Kind.TheVariants as kind
use Rattle.gvdl_tokens.specs.declared.token.Sign.TheVariants as s
use Rattle.gvdl_tokens.specs.declared.word.Word.TheVariants as w
use Rattle.gvdl_tree.specs.declared.predicate.Cmp.{Cmp}
use Rattle.gvdl_tree.specs.declared.predicate.Cmp.TheVariants as cmp
use Rattle.gvdl_tree.specs.declared.predicate.Operand.{Operand}
use Rattle.gvdl_tree.specs.declared.predicate.Operand.TheVariants as operand
use Rattle.gvdl_tree.specs.declared.predicate.PredTree.{PredTree}
use Rattle.gvdl_tokens.specs.Tokens.{kind_of}
use Rattle.phrase_theory.specs.declared.fault.Fault.{Fault}
use Rattle.phrase_theory.specs.declared.fault.Fault.TheVariants as faults
use Rattle.phrase_theory.specs.Phrases.{one, Either}
use Rattle.phrase_theory.specs.Reading.{next, alone, Fails, Reads}
use Rattle.phrase_theory.specs.SequenceLaws.{Grows, phrase_then, phrase_word, phrase_pure}
use Rattle.phrase_theory.specs.ChoiceLaws.{Avoids, avoids_word, avoids_one, avoids_then, avoids_either, avoids_none, avoids_pure, left_reads, right_reads, begins_left, begins_right}
use Rattle.phrase_theory.specs.LevelLaws.{Same, same_reads, behind_level, behind_reads, avoids_behind_level, too_deep, begins_word, Within, within_then, within_either, within_many, within_chained, within_same}
use Rattle.phrase_theory.specs.ChainLaws.{IsChain}
use Rattle.gvdl_parser.specs.Kinds.{kind_number, kind_at, number_at, comes}
use Rattle.gvdl_parser.specs.Terminals.{opens, int, prop, cmp_token, truth_token}
use Rattle.gvdl_parser.specs.Predicates.{number_operand, text_operand, truth_operand, source_operand, target_operand, edge_operand, operand_phrase, constant, compared, missing, atom, conjunction_of, predicate_of, negated, enclosed, negation, all_of, any_of, after_negation, after_conjunction, after_predicate}
use Rattle.gvdl_parser.proofs.Nexts.{Clear, clear_at, clear_one, other_one, clearing}
use Rattle.gvdl_parser.proofs.Having.{negation_has, predicate_has}

pub ruleset within = (within_then, within_either, within_many, within_chained, within_same)

-- ---- more levels, more phrases

conjunction_within : (L M : List Token → PredTree → Type 0) → Within L M → Within (conjunction_of L) (conjunction_of M)
unfolding conjunction_of
conjunction_within L M g = within_chained (t.Word w.And) all_of L M g

pub predicate_within : (L M : List Token → PredTree → Type 0) → Within L M → Within (predicate_of L) (predicate_of M)
unfolding predicate_of
predicate_within L M g = within_chained (t.Word w.Or) any_of (conjunction_of L) (conjunction_of M) (conjunction_within L M g)

negated_within : (L M : List Token → PredTree → Type 0) → Within L M → Within (negated L) (negated M)
unfolding negated
negated_within L M g = search within depth 12

enclosed_within : (L M : List Token → PredTree → Type 0) → Within L M → Within (enclosed L) (enclosed M)
unfolding enclosed
enclosed_within L M g = search (within, predicate_within) depth 12

pub negation_grows : Grows negation
unfolding negation
negation_grows zero ts b p = record { which = inr (record { which = inr p }) }
negation_grows (suc n) ts b p = within_either _ _ _ _ (negated_within (negation n) (negation (suc n)) (negation_grows n)) (within_either _ _ _ _ (enclosed_within (negation n) (negation (suc n)) (negation_grows n)) (λ us a q. q)) ts b p

pub conjunction_grows : Grows (λ n. conjunction_of (negation n))
conjunction_grows n = conjunction_within (negation n) (negation (suc n)) (negation_grows n)

pub predicate_grows : Grows (λ n. predicate_of (negation n))
predicate_grows n = predicate_within (negation n) (negation (suc n)) (negation_grows n)

-- ---- the two chains

weaker_by : (a b : Bool) → (a || b) ≡ false → b ≡ false
weaker_by true b h = absurd cc
weaker_by false b h = h

pub and_chain : IsChain (t.Word w.And) negation after_negation after_conjunction
and_chain = record { goes_on = refl; weaker = λ x h. weaker_by (comes (kind.Word w.And) x) (after_negation x) h; other = refl; grows = negation_grows }

pub or_chain : IsChain (t.Word w.Or) (λ n. conjunction_of (negation n)) after_conjunction after_predicate
or_chain = record { goes_on = refl; weaker = λ x h. weaker_by (comes (kind.Word w.Or) x) (after_conjunction x) h; other = refl; grows = conjunction_grows }

-- ---- what begins an atom

pub clear_truth : (joins : Option Token → Bool) (k : Kind) → (kind_number k == 149) ≡ false → (kind_number k == 150) ≡ false → Clear (one truth_token) joins k
clear_truth joins k h g = clear_one truth_token joins k by_value where
  by_value : (v : Bool) → (kind_number k == number_at (Some (truth_token v))) ≡ false
  by_value true = h
  by_value false = g

pub no_truth : (x : Option Token) → x ≢ Some (t.Word w.True) → x ≢ Some (t.Word w.False) → (v : Bool) → x ≢ Some (truth_token v)
no_truth x h g true = h
no_truth x h g false = g

pub other_truth : (joins : Option Token → Bool) (k : Kind) → k ≢ kind.Word w.True → k ≢ kind.Word w.False → Clear (one truth_token) joins k
other_truth joins k h g = other_one truth_token joins k by_value where
  by_value : (v : Bool) → k ≢ kind_of (truth_token v)
  by_value true = h
  by_value false = g

pub atom_clear_not : (joins : Option Token → Bool) → Clear atom joins (kind.Word w.Not)
unfolding atom operand_phrase number_operand text_operand truth_operand source_operand target_operand edge_operand int prop
atom_clear_not joins = search (clearing, clear_truth) depth 30

pub atom_clear_open : (joins : Option Token → Bool) → Clear atom joins (kind.Sign s.Open)
unfolding atom operand_phrase number_operand text_operand truth_operand source_operand target_operand edge_operand int prop
atom_clear_open joins = search (clearing, clear_truth) depth 30

-- ---- what follows an operand

cmp_joins : (c : Cmp) → after_negation (Some (cmp_token c)) ≡ true
cmp_joins cmp.Eq = refl
cmp_joins cmp.Ne = refl
cmp_joins cmp.Lt = refl
cmp_joins cmp.Le = refl
cmp_joins cmp.Gt = refl
cmp_joins cmp.Ge = refl

cmp_no_is : (c : Cmp) → Some (cmp_token c) ≢ Some (t.Word w.Is)
cmp_no_is cmp.Eq e = absurd cc
cmp_no_is cmp.Ne e = absurd cc
cmp_no_is cmp.Lt e = absurd cc
cmp_no_is cmp.Le e = absurd cc
cmp_no_is cmp.Gt e = absurd cc
cmp_no_is cmp.Ge e = absurd cc

-- what goes on is not alone
goes_on : (a : Operand) (x : Option Token) → after_negation x ≡ true → Avoids (constant a) after_negation x
goes_on (operand.Bool b) x h = avoids_pure _ x after_negation h
goes_on (operand.Number n) x h = avoids_none x after_negation
goes_on (operand.Str text) x h = avoids_none x after_negation
goes_on (operand.Src f) x h = avoids_none x after_negation
goes_on (operand.Dst f) x h = avoids_none x after_negation
goes_on (operand.Edge p) x h = avoids_none x after_negation

-- other operands are not alone
pub not_alone : (a : Operand) (x : Option Token) → ((b : Bool) → a ≢ operand.Bool b) → Avoids (constant a) after_negation x
not_alone (operand.Bool b) x h = absurd (h b refl)
not_alone (operand.Number n) x h = avoids_none x after_negation
not_alone (operand.Str text) x h = avoids_none x after_negation
not_alone (operand.Src f) x h = avoids_none x after_negation
not_alone (operand.Dst f) x h = avoids_none x after_negation
not_alone (operand.Edge p) x h = avoids_none x after_negation

pub missing_other : (a : Operand) (x : Option Token) → x ≢ Some (t.Word w.Is) → Avoids (missing a) after_negation x
unfolding missing
missing_other a x h = avoids_then _ _ x after_negation (avoids_word _ x alone h)

pub compared_other : (a : Operand) (x : Option Token) → ((c : Cmp) → x ≢ Some (cmp_token c)) → Avoids (compared a) after_negation x
unfolding compared
compared_other a x h = avoids_then _ _ x after_negation (avoids_one cmp_token x alone h)

pub behind_cmp : (a : Operand) (c : Cmp) (x : Option Token) → x ≡ Some (cmp_token c) → Avoids (Either (missing a) (constant a)) after_negation x
behind_cmp a c x e = avoids_either _ _ x after_negation (missing_other a x (λ is. cmp_no_is c (sym e ∙ is))) (goes_on a x (ap after_negation e ∙ cmp_joins c))

pub behind_is : (a : Operand) (x : Option Token) → x ≡ Some (t.Word w.Is) → Avoids (constant a) after_negation x
behind_is a x e = goes_on a x (ap after_negation e)

pub is_no_cmp : (a : Operand) (x : Option Token) → x ≡ Some (t.Word w.Is) → Avoids (compared a) after_negation x
is_no_cmp a x e = compared_other a x (λ c is. cmp_no_is c (sym is ∙ e))

-- ---- a member of a chain, by its first token

abbrev by_levels : ℕ → List Token → PredTree → Type 0
by_levels n = Either (behind_level (λ m. negated (negation m)) n) (Either (behind_level (λ m. enclosed (negation m)) n) atom)

negation_is : Same by_levels negation
unfolding negation behind_level
negation_is = record { to = to; back = back } where
  to : (n : ℕ) (ts : List Token) (a : PredTree) → by_levels n ts a → negation n ts a
  to zero ts a p = elim p.which [ inl q ↦ absurd q | inr q ↦ elim q.which [ inl r ↦ absurd r | inr r ↦ r ] ]
  to (suc n) ts a p = p

  back : (n : ℕ) (ts : List Token) (a : PredTree) → negation n ts a → by_levels n ts a
  back zero ts a p = record { which = inr (record { which = inr p }) }
  back (suc n) ts a p = p

negated_open : (n : ℕ) → Clear (negated (negation n)) after_negation (kind.Sign s.Open)
unfolding negated
negated_open n = search clearing depth 12

enclosed_not : (n : ℕ) → Clear (enclosed (negation n)) after_negation (kind.Word w.Not)
unfolding enclosed
enclosed_not n = search clearing depth 12

pub not_reads : (d : ℕ) (ts : List Token) (r : Result PredTree Fault) (rest : List Token) → d ≢ 0 → next ts ≡ Some (t.Word w.Not)
    → Reads opens (λ n. negated (negation n)) after_negation (d - 1) ts r rest → Reads opens negation after_negation d ts r rest
not_reads zero ts r rest real at p = absurd (real refl)
not_reads (suc d) ts r rest real at p =
    let k : suc d - 1 ≡ d = omega arith in
    let g : Reads opens (λ n. negated (negation n)) after_negation d ts r rest = subst (λ (x : ℕ). Reads opens (λ n. negated (negation n)) after_negation x ts r rest) k p in
    same_reads opens by_levels negation negation_is after_negation (suc d) ts r rest
    (left_reads opens (behind_level (λ m. negated (negation m))) (λ n. Either (behind_level (λ m. enclosed (negation m)) n) atom) after_negation (suc d) ts r rest refl
    (λ n. avoids_either _ _ _ after_negation (avoids_behind_level _ after_negation _ (λ m. clear_at (kind.Word w.Not) (sym (ap kind_at at)) (enclosed_not m)) n) (clear_at (kind.Word w.Not) (sym (ap kind_at at)) (atom_clear_not after_negation)))
    (behind_reads opens (λ n. negated (negation n)) after_negation d ts r rest g))

pub open_reads : (d : ℕ) (ts : List Token) (r : Result PredTree Fault) (rest : List Token) → d ≢ 0 → next ts ≡ Some (t.Sign s.Open)
    → Reads opens (λ n. enclosed (negation n)) after_negation (d - 1) ts r rest → Reads opens negation after_negation d ts r rest
open_reads zero ts r rest real at p = absurd (real refl)
open_reads (suc d) ts r rest real at p =
    let k : suc d - 1 ≡ d = omega arith in
    let g : Reads opens (λ n. enclosed (negation n)) after_negation d ts r rest = subst (λ (x : ℕ). Reads opens (λ n. enclosed (negation n)) after_negation x ts r rest) k p in
    same_reads opens by_levels negation negation_is after_negation (suc d) ts r rest
    (right_reads opens (behind_level (λ m. negated (negation m))) (λ n. Either (behind_level (λ m. enclosed (negation m)) n) atom) after_negation (suc d) ts r rest refl
    (λ n. avoids_behind_level _ after_negation _ (λ m. clear_at (kind.Sign s.Open) (sym (ap kind_at at)) (negated_open m)) n)
    (left_reads opens (behind_level (λ m. enclosed (negation m))) (λ n. atom) after_negation (suc d) ts r rest refl
    (λ n. clear_at (kind.Sign s.Open) (sym (ap kind_at at)) (atom_clear_open after_negation))
    (behind_reads opens (λ n. enclosed (negation n)) after_negation d ts r rest g)))

pub atom_reads : (d : ℕ) (ts : List Token) (r : Result PredTree Fault) (rest : List Token) → next ts ≢ Some (t.Word w.Not) → next ts ≢ Some (t.Sign s.Open)
    → Reads opens (λ _. atom) after_negation d ts r rest → Reads opens negation after_negation d ts r rest
unfolding negated enclosed
atom_reads d ts r rest not_not not_open p =
    same_reads opens by_levels negation negation_is after_negation d ts r rest
    (right_reads opens (behind_level (λ m. negated (negation m))) (λ n. Either (behind_level (λ m. enclosed (negation m)) n) atom) after_negation d ts r rest refl
    (λ n. avoids_behind_level _ after_negation _ (λ m. avoids_then _ _ _ after_negation (avoids_word _ _ alone not_not)) n)
    (right_reads opens (behind_level (λ m. enclosed (negation m))) (λ n. atom) after_negation d ts r rest refl
    (λ n. avoids_behind_level _ after_negation _ (λ m. avoids_then _ _ _ after_negation (avoids_word _ _ alone not_open)) n)
    p))

pub not_too_deep : (d : ℕ) (ts : List Token) → d ≡ 0 → next ts ≡ Some (t.Word w.Not) → Fails opens negation after_negation d ts faults.TooDeep ts
unfolding negation negated
not_too_deep zero ts e at = too_deep ts (sym at) (negation_has 0) refl (clear_at (kind.Word w.Not) refl (atom_clear_not after_negation)) (begins_left _ _ _ (begins_word _ _ (phrase_then _ _ (negation_has 0) (λ p. phrase_pure _))))
not_too_deep (suc d) ts e at = absurd cc

pub open_too_deep : (d : ℕ) (ts : List Token) → d ≡ 0 → next ts ≡ Some (t.Sign s.Open) → Fails opens negation after_negation d ts faults.TooDeep ts
unfolding negation enclosed
open_too_deep zero ts e at = too_deep ts (sym at) (negation_has 0) refl (clear_at (kind.Sign s.Open) refl (atom_clear_open after_negation)) (begins_right _ _ _ (begins_left _ _ _ (begins_word _ _ (phrase_then _ _ (predicate_has 0) (λ p. phrase_then _ _ (phrase_word _) (λ u. phrase_pure p))))))
open_too_deep (suc d) ts e at = absurd cc
