use Rattle.std.proofs.Common.{length}
use Rattle.gvdl_tokens.specs.declared.token.Token.TheVariants as t
use Rattle.gvdl_tokens.specs.declared.token.Sign.TheVariants as s
use Rattle.phrase_theory.specs.ChainLaws.{Front, later}
use Rattle.gvdl_parser.specs.Terminals.{opens}
use Rattle.gvdl_parser.specs.Statements.{item, items, after_items}
use Rattle.gvdl_parser.proofs.view.items.Given as goal

abbrev pub invariant-more : goal.invariant-more
invariant-more l = Front opens (later (t.Sign s.Comma) item) items after_items (λ members. members) l.levels l.fn.cursor.rest.now l.cursor.rest.now l.items

abbrev pub decreases-more : goal.decreases-more
decreases-more l = length l.cursor.rest.now
