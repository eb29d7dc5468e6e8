-- Expressions by their number of levels.
use Rattle.std.proofs.Common.{◌≡◌, ◌≢◌, ℕ, zero, suc, ◌-◌, arith, Result, Bool, true, false, List, [], ◌∷◌, ◌++◌, Option, Some, refl, sym, ap, subst, ◌∙◌, inl, inr}
use Rattle.std.specs.Prelude.{◌==◌, ◌||◌}
use Rattle.gvdl_tokens.specs.declared.token.Token.{Token}
use Rattle.gvdl_tokens.specs.declared.token.Token.TheVariants as t
use Rattle.gvdl_tokens.specs.declared.token.Kind.{Kind}
use Rattle.gvdl_tokens.specs.declared.token.Kind.TheVariants as kind
use Rattle.gvdl_tokens.specs.declared.token.Sign.TheVariants as s
use Rattle.gvdl_tokens.specs.declared.word.Word.TheVariants as w
use Rattle.gvdl_tree.specs.declared.predicate.Cmp.{Cmp}
use Rattle.gvdl_tree.specs.declared.predicate.Cmp.TheVariants as cmp
use Rattle.gvdl_tree.specs.declared.expression.ExprTree.{ExprTree}
use Rattle.gvdl_tree.specs.declared.expression.Test.{Test}
use Rattle.gvdl_tree.specs.declared.expression.Word.{Word as ValueWord}
use Rattle.gvdl_tree.specs.declared.expression.Word.TheVariants as value
use Rattle.phrase_theory.specs.declared.fault.Fault.{Fault}
use Rattle.phrase_theory.specs.declared.fault.Fault.TheVariants as faults
use Rattle.phrase_theory.specs.Phrases.{word, pure, one, Then, Either}
use Rattle.phrase_theory.specs.Reading.{next, after, alone, Begins, HasPhrase, Stays, Forces, Finds, Fails, Reads, Opened, front_of}
use Rattle.phrase_theory.specs.SequenceLaws.{Grows, one_found, first_stuck, ◌▹◌, ◌▸◌, pure_found, begins_then, then_begins, next_of, phrase_then, phrase_word, phrase_one, phrase_pure, phrase_right}
use Rattle.phrase_theory.specs.ChoiceLaws.{Avoids, avoids_word, avoids_one, avoids_then, avoids_either, left_reads, right_reads, begins_left, begins_right, avoided}
use Rattle.phrase_theory.specs.LevelLaws.{Same, same_reads, behind_level, behind_reads, avoids_behind_level, too_deep, begins_word, mapped_found, mapped_fails, Within, within_then, within_either, within_many, within_chained, within_same}
use Rattle.phrase_theory.specs.ChainLaws.{IsChain, IsLoop, phrase_many, phrase_chained}
use Rattle.gvdl_parser.specs.Kinds.{kind_number, kind_at, number_at, comes}
use Rattle.gvdl_parser.specs.Terminals.{opens, cmp_token, value_token, term_token, factor_token, extreme_token}
use Rattle.gvdl_parser.specs.Expressions.{number_leaf, nil_leaf, word_leaf, edge_leaf, node_leaf, param_leaf, leaf, else_tree, factor, product_of, term, sum_of, sums_of, compared_sum, nil_sum, test_of, condition_of, negative, enclosed, extreme, extreme_tree, unary_with, conditional, unary, expression, after_product, after_sum, after_condition, after_expression}
use Rattle.gvdl_parser.proofs.Nexts.{Clear, clear_at, clear_one, clearing}
use Rattle.gvdl_parser.proofs.Having.{phrases}
use Rattle.gvdl_parser.proofs.Meanings.{factor_token_one, term_token_one}

-- kinds of phrases
abbrev Kinds : Type 1
Kinds = List Token → ExprTree → Type 0

ruleset within = (within_then, within_either, within_many, within_chained, within_same)

-- ---- more levels, more phrases

factor_within : (L M : Kinds) → Within L M → Within (factor L) (factor M)
unfolding factor
factor_within L M g = search within depth 12

product_within : (L M : Kinds) → Within L M → Within (product_of L) (product_of M)
unfolding product_of
product_within L M g = search (within, factor_within) depth 12

term_within : (L M : Kinds) → Within L M → Within (term L) (term M)
unfolding term
term_within L M g = search (within, product_within) depth 12

sum_within : (L M : Kinds) → Within L M → Within (sum_of L) (sum_of M)
unfolding sum_of
sum_within L M g = search (within, term_within, product_within) depth 12

sums_within : (L M : Kinds) → Within L M → Within (sums_of L) (sums_of M)
unfolding sums_of
sums_within L M g = within_chained (t.Word w.Else) else_tree (sum_of L) (sum_of M) (sum_within L M g)

compared_within : (a : ExprTree) (L M : Kinds) → Within L M → Within (compared_sum a L) (compared_sum a M)
unfolding compared_sum
compared_within a L M g = search (within, sum_within) depth 12

test_within : (L M : Kinds) → Within L M → Within (test_of L) (test_of M)
unfolding test_of
test_within L M g = search (within, sum_within, compared_within) depth 12

condition_within : (L M : Kinds) → Within L M → Within (condition_of L) (condition_of M)
unfolding condition_of
condition_within L M g = within_chained (t.Word w.And) (λ members. members) (test_of L) (test_of M) (test_within L M g)

negative_within : (L M : Kinds) → Within L M → Within (negative L) (negative M)
unfolding negative
negative_within L M g = search within depth 12

enclosed_within : (L M : Kinds) → Within L M → Within (enclosed L) (enclosed M)
unfolding enclosed
enclosed_within L M g = search within depth 12

extreme_within : (L M : Kinds) → Within L M → Within (extreme L) (extreme M)
unfolding extreme
extreme_within L M g = search within depth 12

unary_within : (L M E F : Kinds) → Within L M → Within E F → Within (unary_with L E) (unary_with M F)
unfolding unary_with
unary_within L M E F g h = within_either _ _ _ _ (negative_within L M g) (within_either _ _ _ _ (enclosed_within E F h) (within_either _ _ _ _ (extreme_within E F h) (within_same leaf)))

conditional_within : (L M E F : Kinds) → Within L M → Within E F → Within (conditional L E) (conditional M F)
unfolding conditional
conditional_within L M E F g h = search (within, condition_within, sum_within) depth 16

leaf_within : (U E : Kinds) → Within leaf (unary_with U E)
unfolding unary_with
leaf_within U E ts a p = record { which = inr (record { which = inr (record { which = inr p }) }) }

record Grow (n : ℕ) : Type 0 where
  of_unary : Within (unary n) (unary (suc n))
  of_expression : Within (expression n) (expression (suc n))

grow : (n : ℕ) → Grow n
unfolding unary expression
grow zero = record {
  of_unary = leaf_within leaf (sums_of leaf);
  of_expression = λ ts a p. record { which = inr (sums_within leaf (unary_with leaf (sums_of leaf)) (leaf_within leaf (sums_of leaf)) ts a p) };
}
grow (suc n) = let g = grow n in record {
  of_unary = unary_within (unary n) (unary (suc n)) (expression n) (expression (suc n)) g.of_unary g.of_expression;
  of_expression = within_either _ _ _ _ (conditional_within (unary n) (unary (suc n)) (expression n) (expression (suc n)) g.of_unary g.of_expression)
      (sums_within (unary (suc n)) (unary (suc (suc n))) (unary_within (unary n) (unary (suc n)) (expression n) (expression (suc n)) g.of_unary g.of_expression));
}

pub unary_grows : Grows unary
unary_grows n = (grow n).of_unary

pub expression_grows : Grows expression
expression_grows n = (grow n).of_expression

pub product_grows : Grows (λ n. product_of (unary n))
product_grows n = product_within (unary n) (unary (suc n)) (unary_grows n)

pub sum_grows : Grows (λ n. sum_of (unary n))
sum_grows n = sum_within (unary n) (unary (suc n)) (unary_grows n)

pub test_grows : Grows (λ n. test_of (unary n))
test_grows n = test_within (unary n) (unary (suc n)) (unary_grows n)

pub condition_grows : Grows (λ n. condition_of (unary n))
condition_grows n = condition_within (unary n) (unary (suc n)) (unary_grows n)

-- ---- there is some

pub phrase_value : HasPhrase (one value_token)
phrase_value = phrase_one value_token value.Id

pub leaf_has : HasPhrase leaf
unfolding leaf number_leaf
leaf_has = search phrases depth 12

pub unary_has : (n : ℕ) → HasPhrase (unary n)
unfolding unary unary_with
unary_has zero = leaf_has
unary_has (suc n) = phrase_right _ _ (phrase_right _ _ (phrase_right _ _ leaf_has))

pub product_has : (n : ℕ) → HasPhrase (product_of (unary n))
unfolding product_of
product_has n = phrase_then _ _ (unary_has n) (λ a. phrase_then _ _ (phrase_many _) (λ others. phrase_pure _))

pub sum_has : (n : ℕ) → HasPhrase (sum_of (unary n))
unfolding sum_of
sum_has n = phrase_then _ _ (product_has n) (λ a. phrase_then _ _ (phrase_many _) (λ others. phrase_pure _))

pub sums_has : (n : ℕ) → HasPhrase (sums_of (unary n))
unfolding sums_of
sums_has n = phrase_chained (t.Word w.Else) else_tree (sum_of (unary n)) (sum_has n)

pub test_has : (n : ℕ) → HasPhrase (test_of (unary n))
unfolding test_of nil_sum
test_has n = phrase_then _ _ (sum_has n) (λ a. phrase_right _ _ (search phrases depth 12))

pub condition_has : (n : ℕ) → HasPhrase (condition_of (unary n))
unfolding condition_of
condition_has n = phrase_chained (t.Word w.And) (λ members. members) (test_of (unary n)) (test_has n)

pub expression_has : (n : ℕ) → HasPhrase (expression n)
unfolding expression unary
expression_has zero = sums_has zero
expression_has (suc n) = phrase_right _ _ (sums_has (suc n))

-- ---- chains

weaker_by : (a b : Bool) → (a || b) ≡ false → b ≡ false
weaker_by true b h = absurd cc
weaker_by false b h = h

pub factor_goes_on : (v : Bool) → after_product (Some (factor_token v)) ≡ true
factor_goes_on true = refl
factor_goes_on false = refl

pub term_goes_on : (v : Bool) → after_sum (Some (term_token v)) ≡ true
term_goes_on true = refl
term_goes_on false = refl

term_fresh : (v : Bool) → after_product (Some (term_token v)) ≡ false
term_fresh true = refl
term_fresh false = refl

pub factor_loop : IsLoop (λ n. factor (unary n)) alone after_product
unfolding factor
factor_loop = record {
  weaker = λ x h. refl;
  fresh = λ n us behind a p. refl;
  grows = λ n. factor_within (unary n) (unary (suc n)) (unary_grows n);
}

pub term_loop : IsLoop (λ n. term (unary n)) after_product after_sum
unfolding term
term_loop = record {
  weaker = λ x h. weaker_by (comes (kind.Sign s.Plus) x || comes (kind.Sign s.Minus) x) (after_product x) (after_sum_split x h);
  fresh = λ n us behind a p. subst (λ (x : List Token). after_product (next (x ++ behind)) ≡ false) (sym (p.split ∙ ap (λ (x : List Token). x ++ p.back) p.first)) (term_fresh p.tree);
  grows = λ n. term_within (unary n) (unary (suc n)) (unary_grows n);
} where
  regroup : (a b c d : Bool) → (a || b || (c || d)) ≡ false → ((a || b) || (c || d)) ≡ false
  regroup true b c d h = h
  regroup false b c d h = h

  after_sum_split : (x : Option Token) → after_sum x ≡ false → ((comes (kind.Sign s.Plus) x || comes (kind.Sign s.Minus) x) || after_product x) ≡ false
  after_sum_split x h = regroup (comes (kind.Sign s.Plus) x) (comes (kind.Sign s.Minus) x) (comes (kind.Sign s.Star) x) (comes (kind.Sign s.Slash) x) h

pub else_chain : IsChain (t.Word w.Else) (λ n. sum_of (unary n)) after_sum after_expression
else_chain = record { goes_on = refl; weaker = λ x h. weaker_by (comes (kind.Word w.Else) x) (after_sum x) h; other = refl; grows = sum_grows }

pub condition_chain : IsChain (t.Word w.And) (λ n. test_of (unary n)) after_sum after_condition
condition_chain = record { goes_on = refl; weaker = λ x h. weaker_by (comes (kind.Word w.And) x) (after_sum x) h; other = refl; grows = test_grows }

pub factor_found : (v : Bool) (d : ℕ) (ts here : List Token) (a : ExprTree) (rest : List Token) → next ts ≡ Some (factor_token v) → here ≡ after ts
    → Finds unary alone d here a rest → Finds (λ n. factor (unary n)) alone d ts (v, a) rest
unfolding factor
factor_found v d ts here a rest e skipped p = one_found (factor_token_one v) e skipped ▸ (p ▸ pure_found)

pub factor_fails : (v : Bool) (d : ℕ) (ts here : List Token) (x : Fault) (rest : List Token) → next ts ≡ Some (factor_token v) → here ≡ after ts
    → Fails opens unary alone d here x rest → Fails opens (λ n. factor (unary n)) alone d ts x rest
unfolding factor
factor_fails v d ts here x rest e skipped p = one_found (factor_token_one v) e skipped ▹ first_stuck p (λ n a. phrase_pure (v, a))

pub no_factor : (n : ℕ) (x : Option Token) → ((v : Bool) → x ≢ Some (factor_token v)) → Avoids (factor (unary n)) alone x
unfolding factor
no_factor n x h = avoids_then _ _ x alone (avoids_one factor_token x alone h)

pub term_found : (v : Bool) (d : ℕ) (ts here : List Token) (a : ExprTree) (rest : List Token) → next ts ≡ Some (term_token v) → here ≡ after ts
    → Finds (λ n. product_of (unary n)) after_product d here a rest → Finds (λ n. term (unary n)) after_product d ts (v, a) rest
unfolding term
term_found v d ts here a rest e skipped p = one_found (term_token_one v) e skipped ▸ mapped_found (λ (y : ExprTree). (v, y)) p

pub term_fails : (v : Bool) (d : ℕ) (ts here : List Token) (x : Fault) (rest : List Token) → next ts ≡ Some (term_token v) → here ≡ after ts
    → Fails opens (λ n. product_of (unary n)) after_product d here x rest → Fails opens (λ n. term (unary n)) after_product d ts x rest
unfolding term
term_fails v d ts here x rest e skipped p = one_found (term_token_one v) e skipped ▹ mapped_fails (λ (y : ExprTree). (v, y)) p

pub no_term : (n : ℕ) (x : Option Token) → ((v : Bool) → x ≢ Some (term_token v)) → Avoids (term (unary n)) alone x
unfolding term
no_term n x h = avoids_then _ _ x alone (avoids_one term_token x alone h)

-- ---- a test, by what follows its first sum

cmp_no_word : (c : Cmp) → Some (cmp_token c) ≢ Some (t.Word w.Is)
cmp_no_word cmp.Eq e = absurd cc
cmp_no_word cmp.Ne e = absurd cc
cmp_no_word cmp.Lt e = absurd cc
cmp_no_word cmp.Le e = absurd cc
cmp_no_word cmp.Gt e = absurd cc
cmp_no_word cmp.Ge e = absurd cc

pub nil_other : (a : ExprTree) (c : Cmp) (x : Option Token) → x ≡ Some (cmp_token c) → Avoids (nil_sum a) after_sum x
unfolding nil_sum
nil_other a c x e = avoids_then _ _ x after_sum (avoids_word _ x alone (λ is. cmp_no_word c (sym e ∙ is)))

pub compared_other : (a : ExprTree) (L : Kinds) (x : Option Token) → ((c : Cmp) → x ≢ Some (cmp_token c)) → Avoids (compared_sum a L) after_sum x
unfolding compared_sum
compared_other a L x h = avoids_then _ _ x after_sum (avoids_one cmp_token x alone h)

cmp_alone : (c : Cmp) → after_sum (Some (cmp_token c)) ≡ false
cmp_alone cmp.Eq = refl
cmp_alone cmp.Ne = refl
cmp_alone cmp.Lt = refl
cmp_alone cmp.Le = refl
cmp_alone cmp.Gt = refl
cmp_alone cmp.Ge = refl

-- what stands behind the first sum begins with nothing that goes on with a sum
pub behind_apart : (n : ℕ) (a : ExprTree) (us behind : List Token) (b : Test) → Either (compared_sum a (unary n)) (nil_sum a) us b → after_sum (next behind) ≡ false → after_sum (next (us ++ behind)) ≡ false
unfolding compared_sum nil_sum
behind_apart n a us behind b p ends = elim p.which [
  | inl q ↦ subst (λ (x : List Token). after_sum (next (x ++ behind)) ≡ false) (sym (q.split ∙ ap (λ (x : List Token). x ++ q.back) q.first)) (cmp_alone q.tree)
  | inr q ↦ subst (λ (x : List Token). after_sum (next (x ++ behind)) ≡ false) (sym (q.split ∙ ap (λ (x : List Token). x ++ q.back) q.first)) refl
]

-- ---- by the first token

clear_value : (joins : Option Token → Bool) (k : Kind) → ((v : ValueWord) → (kind_number k == number_at (Some (value_token v))) ≡ false) → Clear (one value_token) joins k
clear_value joins k h = clear_one value_token joins k h

pub value_not : (n : ℕ) → (n == 153) ≡ false → (n == 119) ≡ false → (n == 154) ≡ false → (n == 155) ≡ false → (n == 126) ≡ false → (n == 156) ≡ false → (v : ValueWord) → (n == number_at (Some (value_token v))) ≡ false
value_not n a b c d e f value.Id = a
value_not n a b c d e f value.Start = b
value_not n a b c d e f value.Value = c
value_not n a b c d e f value.Gathered = d
value_not n a b c d e f value.Count = e
value_not n a b c d e f value.Outdeg = f

pub extreme_not : (n : ℕ) → (n == 123) ≡ false → (n == 124) ≡ false → (v : Bool) → (n == number_at (Some (extreme_token v))) ≡ false
extreme_not n a b true = b
extreme_not n a b false = a

ruleset clearing_all = (clearing, value_not, extreme_not)

leaf_minus : Clear leaf alone (kind.Sign s.Minus)
unfolding leaf number_leaf nil_leaf word_leaf edge_leaf node_leaf param_leaf
leaf_minus = search clearing_all depth 20

leaf_open : Clear leaf alone (kind.Sign s.Open)
unfolding leaf number_leaf nil_leaf word_leaf edge_leaf node_leaf param_leaf
leaf_open = search clearing_all depth 20

leaf_if : Clear leaf alone (kind.Word w.If)
unfolding leaf number_leaf nil_leaf word_leaf edge_leaf node_leaf param_leaf
leaf_if = search clearing_all depth 20

leaf_min : Clear leaf alone (kind.Word w.Min)
unfolding leaf number_leaf nil_leaf word_leaf edge_leaf node_leaf param_leaf
leaf_min = search clearing_all depth 20

leaf_max : Clear leaf alone (kind.Word w.Max)
unfolding leaf number_leaf nil_leaf word_leaf edge_leaf node_leaf param_leaf
leaf_max = search clearing_all depth 20

leaf_extreme : (v : Bool) (x : Option Token) → x ≡ Some (extreme_token v) → Avoids leaf alone x
leaf_extreme true x e = clear_at (kind.Word w.Max) (sym (ap kind_at e)) leaf_max
leaf_extreme false x e = clear_at (kind.Word w.Min) (sym (ap kind_at e)) leaf_min

negative_other : (U : Kinds) (x : Option Token) → x ≢ Some (t.Sign s.Minus) → Avoids (negative U) alone x
unfolding negative
negative_other U x h = avoids_then _ _ x alone (avoids_word _ x alone h)

enclosed_other : (E : Kinds) (x : Option Token) → x ≢ Some (t.Sign s.Open) → Avoids (enclosed E) alone x
unfolding enclosed
enclosed_other E x h = avoids_then _ _ x alone (avoids_word _ x alone h)

extreme_other : (E : Kinds) (x : Option Token) → ((v : Bool) → x ≢ Some (extreme_token v)) → Avoids (extreme E) alone x
unfolding extreme
extreme_other E x h = avoids_then _ _ x alone (avoids_one extreme_token x alone h)

sign_no_extreme : (x : Option Token) (k : s.the_data) → x ≡ Some (t.Sign k) → (v : Bool) → x ≢ Some (extreme_token v)
sign_no_extreme x k e true h = absurd cc
sign_no_extreme x k e false h = absurd cc

extreme_no_sign : (x : Option Token) (v : Bool) (k : s.the_data) → x ≡ Some (extreme_token v) → x ≢ Some (t.Sign k)
extreme_no_sign x true k e h = absurd cc
extreme_no_sign x false k e h = absurd cc

minus_no_open : (x : Option Token) → x ≡ Some (t.Sign s.Minus) → x ≢ Some (t.Sign s.Open)
minus_no_open x e h = absurd cc

open_no_minus : (x : Option Token) → x ≡ Some (t.Sign s.Open) → x ≢ Some (t.Sign s.Minus)
open_no_minus x e h = absurd cc

abbrev by_levels : ℕ → Kinds
by_levels n = Either (behind_level (λ m. negative (unary m)) n) (Either (behind_level (λ m. enclosed (expression m)) n) (Either (behind_level (λ m. extreme (expression m)) n) leaf))

unary_is : Same by_levels unary
unfolding unary unary_with behind_level
unary_is = record { to = to; back = back } where
  to : (n : ℕ) (ts : List Token) (a : ExprTree) → by_levels n ts a → unary n ts a
  to zero ts a p = elim p.which [ inl q ↦ absurd q | inr q ↦ elim q.which [ inl r ↦ absurd r | inr r ↦ elim r.which [ inl v ↦ absurd v | inr v ↦ v ] ] ]
  to (suc n) ts a p = p

  back : (n : ℕ) (ts : List Token) (a : ExprTree) → unary n ts a → by_levels n ts a
  back zero ts a p = record { which = inr (record { which = inr (record { which = inr p }) }) }
  back (suc n) ts a p = p

module _ (d : ℕ) (ts : List Token) (r : Result ExprTree Fault) (rest : List Token) where
  first_of : ((n : ℕ) → Avoids (Either (behind_level (λ m. enclosed (expression m)) n) (Either (behind_level (λ m. extreme (expression m)) n) leaf)) alone (next ts))
      → Reads opens (behind_level (λ m. negative (unary m))) alone d ts r rest → Reads opens unary alone d ts r rest
  first_of h p = same_reads opens by_levels unary unary_is alone d ts r rest
      (left_reads opens (behind_level (λ m. negative (unary m))) (λ n. Either (behind_level (λ m. enclosed (expression m)) n) (Either (behind_level (λ m. extreme (expression m)) n) leaf)) alone d ts r rest refl h p)

  past_first : ((n : ℕ) → Avoids (behind_level (λ m. negative (unary m)) n) alone (next ts))
      → Reads opens (λ n. Either (behind_level (λ m. enclosed (expression m)) n) (Either (behind_level (λ m. extreme (expression m)) n) leaf)) alone d ts r rest → Reads opens unary alone d ts r rest
  past_first h p = same_reads opens by_levels unary unary_is alone d ts r rest
      (right_reads opens (behind_level (λ m. negative (unary m))) (λ n. Either (behind_level (λ m. enclosed (expression m)) n) (Either (behind_level (λ m. extreme (expression m)) n) leaf)) alone d ts r rest refl h p)

  second_of : ((n : ℕ) → Avoids (Either (behind_level (λ m. extreme (expression m)) n) leaf) alone (next ts))
      → Reads opens (behind_level (λ m. enclosed (expression m))) alone d ts r rest → Reads opens (λ n. Either (behind_level (λ m. enclosed (expression m)) n) (Either (behind_level (λ m. extreme (expression m)) n) leaf)) alone d ts r rest
  second_of h p = left_reads opens (behind_level (λ m. enclosed (expression m))) (λ n. Either (behind_level (λ m. extreme (expression m)) n) leaf) alone d ts r rest refl h p

  past_second : ((n : ℕ) → Avoids (behind_level (λ m. enclosed (expression m)) n) alone (next ts))
      → Reads opens (λ n. Either (behind_level (λ m. extreme (expression m)) n) leaf) alone d ts r rest → Reads opens (λ n. Either (behind_level (λ m. enclosed (expression m)) n) (Either (behind_level (λ m. extreme (expression m)) n) leaf)) alone d ts r rest
  past_second h p = right_reads opens (behind_level (λ m. enclosed (expression m))) (λ n. Either (behind_level (λ m. extreme (expression m)) n) leaf) alone d ts r rest refl h p

  no_negative : next ts ≢ Some (t.Sign s.Minus) → (n : ℕ) → Avoids (behind_level (λ m. negative (unary m)) n) alone (next ts)
  no_negative h n = avoids_behind_level (λ m. negative (unary m)) alone (next ts) (λ m. negative_other (unary m) (next ts) h) n

  no_enclosed : next ts ≢ Some (t.Sign s.Open) → (n : ℕ) → Avoids (behind_level (λ m. enclosed (expression m)) n) alone (next ts)
  no_enclosed h n = avoids_behind_level (λ m. enclosed (expression m)) alone (next ts) (λ m. enclosed_other (expression m) (next ts) h) n

  no_extreme : ((v : Bool) → next ts ≢ Some (extreme_token v)) → (n : ℕ) → Avoids (behind_level (λ m. extreme (expression m)) n) alone (next ts)
  no_extreme h n = avoids_behind_level (λ m. extreme (expression m)) alone (next ts) (λ m. extreme_other (expression m) (next ts) h) n

  pub leaf_reads : next ts ≢ Some (t.Sign s.Minus) → next ts ≢ Some (t.Sign s.Open) → ((v : Bool) → next ts ≢ Some (extreme_token v)) → Reads opens (λ _. leaf) alone d ts r rest → Reads opens unary alone d ts r rest
  leaf_reads h g k p = past_first (no_negative h) (past_second (no_enclosed g) (right_reads opens (behind_level (λ m. extreme (expression m))) (λ n. leaf) alone d ts r rest refl (no_extreme k) p))

pub minus_reads : (d : ℕ) (ts : List Token) (r : Result ExprTree Fault) (rest : List Token) → d ≢ 0 → next ts ≡ Some (t.Sign s.Minus)
    → Reads opens (λ n. negative (unary n)) alone (d - 1) ts r rest → Reads opens unary alone d ts r rest
minus_reads zero ts r rest real at p = absurd (real refl)
minus_reads (suc d) ts r rest real at p =
    let k : suc d - 1 ≡ d = omega arith in
    let g : Reads opens (λ n. negative (unary n)) alone d ts r rest = subst (λ (x : ℕ). Reads opens (λ n. negative (unary n)) alone x ts r rest) k p in
    first_of (suc d) ts r rest
    (λ n. avoids_either _ _ _ alone (no_enclosed (suc d) ts r rest (minus_no_open _ at) n) (avoids_either _ _ _ alone (no_extreme (suc d) ts r rest (sign_no_extreme _ s.Minus at) n) (clear_at (kind.Sign s.Minus) (sym (ap kind_at at)) leaf_minus)))
    (behind_reads opens (λ n. negative (unary n)) alone d ts r rest g)

pub open_reads : (d : ℕ) (ts : List Token) (r : Result ExprTree Fault) (rest : List Token) → d ≢ 0 → next ts ≡ Some (t.Sign s.Open)
    → Reads opens (λ n. enclosed (expression n)) alone (d - 1) ts r rest → Reads opens unary alone d ts r rest
open_reads zero ts r rest real at p = absurd (real refl)
open_reads (suc d) ts r rest real at p =
    let k : suc d - 1 ≡ d = omega arith in
    let g : Reads opens (λ n. enclosed (expression n)) alone d ts r rest = subst (λ (x : ℕ). Reads opens (λ n. enclosed (expression n)) alone x ts r rest) k p in
    past_first (suc d) ts r rest (no_negative (suc d) ts r rest (open_no_minus _ at))
    (second_of (suc d) ts r rest (λ n. avoids_either _ _ _ alone (no_extreme (suc d) ts r rest (sign_no_extreme _ s.Open at) n) (clear_at (kind.Sign s.Open) (sym (ap kind_at at)) leaf_open))
    (behind_reads opens (λ n. enclosed (expression n)) alone d ts r rest g))

pub extreme_reads : (d : ℕ) (ts : List Token) (r : Result ExprTree Fault) (rest : List Token) (v : Bool) → d ≢ 0 → next ts ≡ Some (extreme_token v)
    → Reads opens (λ n. extreme (expression n)) alone (d - 1) ts r rest → Reads opens unary alone d ts r rest
extreme_reads zero ts r rest v real at p = absurd (real refl)
extreme_reads (suc d) ts r rest v real at p =
    let k : suc d - 1 ≡ d = omega arith in
    let g : Reads opens (λ n. extreme (expression n)) alone d ts r rest = subst (λ (x : ℕ). Reads opens (λ n. extreme (expression n)) alone x ts r rest) k p in
    past_first (suc d) ts r rest (no_negative (suc d) ts r rest (extreme_no_sign _ v s.Minus at))
    (past_second (suc d) ts r rest (no_enclosed (suc d) ts r rest (extreme_no_sign _ v s.Open at))
    (left_reads opens (behind_level (λ m. extreme (expression m))) (λ n. leaf) alone (suc d) ts r rest refl (λ n. leaf_extreme v _ at)
    (behind_reads opens (λ n. extreme (expression n)) alone d ts r rest g)))

-- ---- a level too many

pub minus_too_deep : (d : ℕ) (ts : List Token) → d ≡ 0 → next ts ≡ Some (t.Sign s.Minus) → Fails opens unary alone d ts faults.TooDeep ts
unfolding unary unary_with negative
minus_too_deep zero ts e at = too_deep ts (sym at) (unary_has 0) refl (clear_at (kind.Sign s.Minus) refl leaf_minus) (begins_left _ _ _ (begins_word _ _ (phrase_then _ _ (unary_has 0) (λ p. phrase_pure _))))
minus_too_deep (suc d) ts e at = absurd cc

pub open_too_deep : (d : ℕ) (ts : List Token) → d ≡ 0 → next ts ≡ Some (t.Sign s.Open) → Fails opens unary alone d ts faults.TooDeep ts
unfolding unary unary_with enclosed
open_too_deep zero ts e at = too_deep ts (sym at) (unary_has 0) refl (clear_at (kind.Sign s.Open) refl leaf_open) (begins_right _ _ _ (begins_left _ _ _ (begins_word _ _ (phrase_then _ _ (expression_has 0) (λ p. phrase_then _ _ (phrase_word _) (λ u. phrase_pure p))))))
open_too_deep (suc d) ts e at = absurd cc

-- ---- `min` and `max` where no level may be opened

behind_extreme : (v : Bool) (n : ℕ) → HasPhrase (Then (word (t.Sign s.Open)) (λ u. Then (expression n) (λ a. Then (word (t.Sign s.Comma)) (λ x. Then (expression n) (λ b. Then (word (t.Sign s.Close)) (λ y. pure (extreme_tree v a b)))))))
behind_extreme v n = phrase_then _ _ (phrase_word _) (λ u. phrase_then _ _ (expression_has n) (λ a. phrase_then _ _ (phrase_word _) (λ x. phrase_then _ _ (expression_has n) (λ b. phrase_then _ _ (phrase_word _) (λ y. phrase_pure _)))))

begins_extreme : (v : Bool) (n : ℕ) → Begins (extreme (expression n)) (extreme_token v ∷ [])
unfolding extreme
begins_extreme v n = begins_then _ _ (extreme_token v ∷ []) (λ g. behind_extreme g n) (record { more = []; tree = v; whole = refl })

begins_opened : (v : Bool) (n : ℕ) → Begins (extreme (expression n)) (extreme_token v ∷ t.Sign s.Open ∷ [])
unfolding extreme
begins_opened v n = then_begins _ _ (extreme_token v ∷ []) (t.Sign s.Open ∷ []) v refl (begins_word _ _ (phrase_then _ _ (expression_has n) (λ a. phrase_then _ _ (phrase_word _) (λ x. phrase_then _ _ (expression_has n) (λ b. phrase_then _ _ (phrase_word _) (λ y. phrase_pure _))))))

of_unary_1 : (us : List Token) → Begins (extreme (expression 0)) us → Begins (unary 1) us
unfolding unary expression unary_with
of_unary_1 us b = begins_right _ _ us (begins_right _ _ us (begins_left _ _ us b))

opens_no_extreme : (v : Bool) (x : Token) → x ≡ extreme_token v → opens x ≡ true → ⊥
opens_no_extreme true x e o = let no : opens (extreme_token true) ≡ true = subst (λ (y : Token). opens y ≡ true) e o in absurd cc
opens_no_extreme false x e o = let no : opens (extreme_token false) ≡ true = subst (λ (y : Token). opens y ≡ true) e o in absurd cc

extreme_stays : (v : Bool) (L : Kinds) → Stays opens L (extreme_token v ∷ [])
extreme_stays v L = record { by = λ front back x e o. absurd (nowhere front back x e o) } where
  nowhere : (front back : List Token) (x : Token) → extreme_token v ∷ [] ≡ front ++ x ∷ back → opens x ≡ true → ⊥
  nowhere [] back x e o = let same : x ≡ extreme_token v = cc in opens_no_extreme v x same o
  nowhere (y ∷ []) back x e o = let tails : [] ≡ x ∷ back = cc in absurd cc
  nowhere (y ∷ z ∷ front) back x e o = let tails : [] ≡ z ∷ (front ++ x ∷ back) = cc in absurd cc

module _ (v : Bool) (ts here : List Token) (at : next ts ≡ Some (extreme_token v)) (skipped : here ≡ after ts) where
  split_here : ts ≡ (extreme_token v ∷ []) ++ here
  split_here = next_of ts here (extreme_token v) at skipped

  no_leaf : Forces (unary 0) alone (extreme_token v ∷ []) (next here) (λ us b. ⊥)
  unfolding unary
  no_leaf = avoided leaf alone ts (extreme_token v ∷ []) here (λ us b. ⊥) split_here (leaf_extreme v (next ts) at)

  pub extreme_sunk : next here ≡ Some (t.Sign s.Open) → Fails opens unary alone 0 ts faults.TooDeep here
  extreme_sunk open_next =
      let opened : here ≡ t.Sign s.Open ∷ after here = next_of here (after here) (t.Sign s.Open) open_next refl in
      record {
        why = record {
          taken = extreme_token v ∷ [];
          split = split_here;
          some = unary_has 0;
          stays = extreme_stays v (unary 0);
          possible = of_unary_1 _ (begins_extreme v 0);
          refused = no_leaf;
          opened = subst (λ (x : List Token). Opened opens x) (sym opened) refl;
          deeper = subst (λ (x : List Token). Begins (unary 1) ((extreme_token v ∷ []) ++ front_of x)) (sym opened) (of_unary_1 _ (begins_opened v 0));
        };
      }

  no_extreme_here : next here ≢ Some (t.Sign s.Open) → (n : ℕ) (us behind rest : List Token) (a : ExprTree) → extreme (expression n) us a → us ++ behind ≡ extreme_token v ∷ rest → next rest ≡ next here → ⊥
  unfolding extreme
  no_extreme_here closed n us behind rest a q agrees comes =
      let begins : us ≡ extreme_token q.tree ∷ (t.Sign s.Open ∷ q.second.back) = q.split ∙ ap (λ (x : List Token). x ++ q.back) q.first ∙ ap (λ (x : List Token). extreme_token q.tree ∷ x) (q.second.split ∙ ap (λ (x : List Token). x ++ q.second.back) q.second.first) in
      let both : extreme_token q.tree ∷ (t.Sign s.Open ∷ (q.second.back ++ behind)) ≡ extreme_token v ∷ rest = sym (ap (λ (x : List Token). x ++ behind) begins) ∙ agrees in
      let tails : t.Sign s.Open ∷ (q.second.back ++ behind) ≡ rest = cc in
      closed (sym comes ∙ ap next (sym tails))

  no_phrase : next here ≢ Some (t.Sign s.Open) → (n : ℕ) → Forces (unary n) alone (extreme_token v ∷ []) (next here) (λ us b. ⊥)
  unfolding unary unary_with
  no_phrase closed zero = no_leaf
  no_phrase closed (suc n) = record {
    by = λ us behind rest a p ends agrees comes.
        let head : next (us ++ behind) ≡ Some (extreme_token v) = ap next agrees in
        elim p.which [
          | inl q ↦ (negative_other (unary n) (Some (extreme_token v)) (extreme_no_sign _ v s.Minus refl)).by us behind a q refl head
          | inr q ↦ elim q.which [
            | inl r ↦ (enclosed_other (expression n) (Some (extreme_token v)) (extreme_no_sign _ v s.Open refl)).by us behind a r refl head
            | inr r ↦ elim r.which [
              | inl x ↦ no_extreme_here closed n us behind rest a x agrees comes
              | inr x ↦ (leaf_extreme v (Some (extreme_token v)) refl).by us behind a x refl head
            ]
          ]
        ];
  }

  pub extreme_stuck : next here ≢ Some (t.Sign s.Open) → Fails opens unary alone 0 ts faults.Syntax here
  extreme_stuck closed = record {
    why = record {
      taken = extreme_token v ∷ [];
      split = split_here;
      some = unary_has 0;
      stays = extreme_stays v (unary 0);
      possible = of_unary_1 _ (begins_extreme v 0);
      refused = no_phrase closed;
    };
  }

-- ---- conditionals

unary_no_if : (n : ℕ) → Clear (unary n) alone (kind.Word w.If)
unfolding unary unary_with negative enclosed extreme
unary_no_if zero = leaf_if
unary_no_if (suc n) = search (clearing_all, leaf_if) depth 20

sums_no_if : (n : ℕ) (x : Option Token) → x ≡ Some (t.Word w.If) → Avoids (sums_of (unary n)) after_expression x
unfolding sums_of sum_of product_of
sums_no_if n x e = avoids_then _ _ x after_expression (avoids_then _ _ x alone (avoids_then _ _ x alone (clear_at (kind.Word w.If) (sym (ap kind_at e)) (unary_no_if n))))

abbrev if_or_sums : ℕ → Kinds
if_or_sums n = Either (behind_level (λ m. conditional (unary m) (expression m)) n) (sums_of (unary n))

expression_is : Same if_or_sums expression
unfolding unary expression behind_level
expression_is = record { to = to; back = back } where
  to : (n : ℕ) (ts : List Token) (a : ExprTree) → if_or_sums n ts a → expression n ts a
  to zero ts a p = elim p.which [ inl q ↦ absurd q | inr q ↦ q ]
  to (suc n) ts a p = p

  back : (n : ℕ) (ts : List Token) (a : ExprTree) → expression n ts a → if_or_sums n ts a
  back zero ts a p = record { which = inr p }
  back (suc n) ts a p = p

conditional_other : (U E : Kinds) (x : Option Token) → x ≢ Some (t.Word w.If) → Avoids (conditional U E) after_expression x
unfolding conditional
conditional_other U E x h = avoids_then _ _ x after_expression (avoids_word _ x alone h)

pub if_reads : (d : ℕ) (ts : List Token) (r : Result ExprTree Fault) (rest : List Token) → d ≢ 0 → next ts ≡ Some (t.Word w.If)
    → Reads opens (λ n. conditional (unary n) (expression n)) after_expression (d - 1) ts r rest → Reads opens expression after_expression d ts r rest
if_reads zero ts r rest real at p = absurd (real refl)
if_reads (suc d) ts r rest real at p =
    let k : suc d - 1 ≡ d = omega arith in
    let g : Reads opens (λ n. conditional (unary n) (expression n)) after_expression d ts r rest = subst (λ (x : ℕ). Reads opens (λ n. conditional (unary n) (expression n)) after_expression x ts r rest) k p in
    same_reads opens if_or_sums expression expression_is after_expression (suc d) ts r rest
    (left_reads opens (behind_level (λ m. conditional (unary m) (expression m))) (λ n. sums_of (unary n)) after_expression (suc d) ts r rest refl (λ n. sums_no_if n _ at)
    (behind_reads opens (λ n. conditional (unary n) (expression n)) after_expression d ts r rest g))

pub sums_reads : (d : ℕ) (ts : List Token) (r : Result ExprTree Fault) (rest : List Token) → next ts ≢ Some (t.Word w.If)
    → Reads opens (λ n. sums_of (unary n)) after_expression d ts r rest → Reads opens expression after_expression d ts r rest
sums_reads d ts r rest h p =
    same_reads opens if_or_sums expression expression_is after_expression d ts r rest
    (right_reads opens (behind_level (λ m. conditional (unary m) (expression m))) (λ n. sums_of (unary n)) after_expression d ts r rest refl
    (λ n. avoids_behind_level (λ m. conditional (unary m) (expression m)) after_expression (next ts) (λ m. conditional_other (unary m) (expression m) (next ts) h) n) p)

pub if_too_deep : (d : ℕ) (ts : List Token) → d ≡ 0 → next ts ≡ Some (t.Word w.If) → Fails opens expression after_expression d ts faults.TooDeep ts
unfolding expression conditional
if_too_deep zero ts e at = too_deep ts (sym at) (expression_has 0) refl (sums_no_if_0 (next ts) at) (begins_left _ _ _ (begins_word _ _
    (phrase_then _ _ (condition_has 0) (λ c. phrase_then _ _ (phrase_word _) (λ u. phrase_then _ _ (sum_has 0) (λ a. phrase_then _ _ (phrase_word _) (λ v. phrase_then _ _ (expression_has 0) (λ b. phrase_pure _))))))))
  where
    sums_no_if_0 : (x : Option Token) → x ≡ Some (t.Word w.If) → Avoids (sums_of (unary 0)) after_expression (Some (t.Word w.If))
    sums_no_if_0 x e = sums_no_if 0 (Some (t.Word w.If)) refl
if_too_deep (suc d) ts e at = absurd cc
