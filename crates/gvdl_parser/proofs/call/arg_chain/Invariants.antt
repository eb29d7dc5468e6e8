use Rattle.std.proofs.Common.{length, ℕ}
use Rattle.gvdl_tokens.specs.declared.token.Token.TheVariants as t
use Rattle.gvdl_tokens.specs.declared.token.Sign.TheVariants as s
use Rattle.phrase_theory.specs.Phrases.{separated}
use Rattle.phrase_theory.specs.ChainLaws.{Front, later}
use Rattle.gvdl_parser.specs.Terminals.{opens}
use Rattle.gvdl_parser.specs.Statements.{arg_phrase, after_items}
use Rattle.gvdl_parser.proofs.call.arg_chain.Given as goal

abbrev pub invariant-more : goal.invariant-more
invariant-more l = (n : ℕ) → Front opens (later (t.Sign s.Comma) (λ m. arg_phrase)) (λ m. separated (t.Sign s.Comma) arg_phrase) after_items (λ members. members) n l.fn.cursor.rest.now l.cursor.rest.now l.members

abbrev pub decreases-more : goal.decreases-more
decreases-more l = length l.cursor.rest.now
