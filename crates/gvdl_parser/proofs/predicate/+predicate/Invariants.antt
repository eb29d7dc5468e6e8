use Rattle.std.proofs.Common.{◌+◌, ◌*◌, length}
use Rattle.gvdl_tokens.specs.declared.token.Token.TheVariants as t
use Rattle.gvdl_tokens.specs.declared.word.Word.TheVariants as w
use Rattle.phrase_theory.specs.ChainLaws.{Front, later}
use Rattle.gvdl_parser.specs.Terminals.{opens}
use Rattle.gvdl_parser.specs.Predicates.{negation, conjunction, predicate, all_of, any_of, after_conjunction, after_predicate}
use Rattle.gvdl_parser.proofs.predicate.+predicate.Given as goal

abbrev pub decreases-negation : goal.decreases-negation
decreases-negation l = 5 * l.levels

abbrev pub decreases-negated : goal.decreases-negated
decreases-negated l = 5 * l.levels + 1

abbrev pub decreases-conjunction : goal.decreases-conjunction
decreases-conjunction l = 5 * l.levels + 2

abbrev pub decreases-predicate : goal.decreases-predicate
decreases-predicate l = 5 * l.levels + 3

abbrev pub decreases-enclosed : goal.decreases-enclosed
decreases-enclosed l = 5 * l.levels + 4

-- whatever the rest gives, the whole gives that with these members in front
abbrev pub invariant-conjunction-more : goal.invariant-conjunction-more
invariant-conjunction-more l = Front opens (later (t.Word w.And) negation) conjunction after_conjunction all_of l.levels l.fn.cursor.rest.now l.cursor.rest.now l.members

abbrev pub decreases-conjunction-more : goal.decreases-conjunction-more
decreases-conjunction-more l = length l.cursor.rest.now

abbrev pub invariant-predicate-more : goal.invariant-predicate-more
invariant-predicate-more l = Front opens (later (t.Word w.Or) conjunction) predicate after_predicate any_of l.levels l.fn.cursor.rest.now l.cursor.rest.now l.members

abbrev pub decreases-predicate-more : goal.decreases-predicate-more
decreases-predicate-more l = length l.cursor.rest.now
