use Rattle.std.proofs.Common.{◌≡◌, ◌∙◌, sym, ap, not, false, true, Bool, refl}
use Rattle.std.proofs.lemmas.Bool.{false≢true}
use Rattle.vertex_lang.specs.ByLeaves.{ignores-edge}
use Rattle.vertex_lang.proofs.NameCases.{edge-names}
use Rattle.vertex_lang.proofs.names.ignores_edge.Goals as goal

not-true : (b : Bool) → not b ≡ true → b ≡ false
not-true true e = absurd (false≢true e)
not-true false e = refl

pub returns-clause-answer : goal.returns-clause-answer
returns-clause-answer c = ap not (c.holds_word.ensures ∙ edge-names c.args.expr.now)

pub returns-clause-ignores : goal.returns-clause-ignores
returns-clause-ignores c = λ e. ignores-edge c.args.expr.now (sym (c.holds_word.ensures ∙ edge-names c.args.expr.now) ∙ not-true c.holds_word.result e)
