use Rattle.std.proofs.Common.{refl}
use Rattle.gvdl_tokens.specs.declared.token.Kind.TheVariants as kind
use Rattle.phrase_theory.specs.Reading.{alone}
use Rattle.phrase_theory.specs.ChoiceLaws.{left_reads, right_reads}
use Rattle.gvdl_parser.specs.Terminals.{opens, prop}
use Rattle.gvdl_parser.proofs.Nexts.{clear_at, clearing, avoiding}
use Rattle.gvdl_parser.proofs.terminal.prop.Goals as goal

pub returns-in-Quoted : goal.returns-in-Quoted
unfolding prop
returns-in-Quoted c = λ n. right_reads opens _ _ alone n _ _ _ refl (λ m. clear_at kind.Quoted c.in-Quoted.ensures (search clearing)) (c.quoted.ensures n)

pub returns-in_default : goal.returns-in_default
unfolding prop
returns-in_default c = λ n. left_reads opens _ _ alone n _ _ _ refl (λ m. clear_at c.kind.result c.kind.ensures (search (avoiding, c.in_default.not-Quoted))) (c.name.ensures n)
