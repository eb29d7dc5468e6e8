-- There is a phrase of each kind.
use Rattle.std.proofs.Common.{ℕ, zero, suc, Bool, true, List, []}
use Rattle.gvdl_tokens.specs.declared.token.Token.{Token}
use Rattle.gvdl_tokens.specs.declared.token.Token.TheVariants as t
use Rattle.gvdl_tokens.specs.declared.word.Word.TheVariants as w
use Rattle.gvdl_tree.specs.declared.predicate.Cmp.TheVariants as cmp
use Rattle.phrase_theory.specs.Phrases.{one}
use Rattle.phrase_theory.specs.Reading.{HasPhrase}
use Rattle.phrase_theory.specs.SequenceLaws.{phrase_word, phrase_one, phrase_pure, phrase_then, phrase_left, phrase_right}
use Rattle.phrase_theory.specs.ChainLaws.{phrase_chained}
use Rattle.gvdl_parser.specs.Terminals.{int, prop, cmp_token}
use Rattle.gvdl_parser.specs.Predicates.{field_phrase, number_operand, operand_phrase, compared, atom, conjunction_of, predicate_of, negation, all_of, any_of}

pub phrase_text : (f : List ℕ → Token) → HasPhrase (one f)
phrase_text f = phrase_one f []

pub phrase_number : (f : ℕ → Token) → HasPhrase (one f)
phrase_number f = phrase_one f 0

pub phrase_cmp : HasPhrase (one cmp_token)
phrase_cmp = phrase_one cmp_token cmp.Eq

pub phrase_flag : (f : Bool → Token) → HasPhrase (one f)
phrase_flag f = phrase_one f true

pub ruleset phrases = (phrase_then, phrase_word, phrase_pure, phrase_text, phrase_number, phrase_cmp, phrase_flag, phrase_left)

pub int_has : HasPhrase int
unfolding int
int_has = search phrases depth 20

pub prop_has : HasPhrase prop
unfolding prop
prop_has = search phrases depth 20

pub field_has : HasPhrase field_phrase
unfolding field_phrase
field_has = search phrases depth 20

pub operand_has : HasPhrase operand_phrase
unfolding operand_phrase number_operand
operand_has = search (phrases, int_has) depth 20

pub atom_has : HasPhrase atom
unfolding atom compared
atom_has = phrase_then operand_phrase _ operand_has (λ a. search (phrases, operand_has) depth 20)

pub negation_has : (n : ℕ) → HasPhrase (negation n)
unfolding negation
negation_has zero = atom_has
negation_has (suc n) = phrase_right _ _ (phrase_right _ _ atom_has)

pub conjunction_has : (n : ℕ) → HasPhrase (conjunction_of (negation n))
unfolding conjunction_of
conjunction_has n = phrase_chained (t.Word w.And) all_of (negation n) (negation_has n)

pub predicate_has : (n : ℕ) → HasPhrase (predicate_of (negation n))
unfolding predicate_of
predicate_has n = phrase_chained (t.Word w.Or) any_of (conjunction_of (negation n)) (conjunction_has n)
