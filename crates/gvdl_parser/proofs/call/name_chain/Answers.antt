use Rattle.std.proofs.Common.{ap, rules, ℕ, List, [], ◌∷◌, ◌++◌, Some, ◌≡◌, ◌∙◌}
use Rattle.phrase_theory.specs.Phrases.{one}
use Rattle.phrase_theory.specs.Reading.{next}
use Rattle.phrase_theory.specs.SequenceLaws.{passed_on}
use Rattle.phrase_theory.specs.ChainLaws.{chained_stuck, chained_first, chained_next, chained_fails, chained_done}
use Rattle.gvdl_parser.proofs.Nexts.{shorter}
use Rattle.gvdl_parser.proofs.StatementLaws.{comma_chain}
use Rattle.gvdl_tokens.specs.declared.token.Sign.TheVariants as s
use Rattle.gvdl_tokens.specs.declared.token.Token.TheVariants as t
use Rattle.gvdl_parser.proofs.call.name_chain.Goals as goal

pub returns-in_err-first : goal.returns-in_err-first
returns-in_err-first c = λ n. passed_on _ c.from_residual.ensures.1 (chained_stuck (comma_chain (one t.Name)) (λ members. members) (c.in_err-first.ensures n))

pub returns-in_err-next : goal.returns-in_err-next
returns-in_err-next c = λ n. passed_on _ c.from_residual-in_err-next.ensures.1 (chained_fails (comma_chain (one t.Name)) (λ members. members) (c.more.invariant n) (search rules) c.skip.ensures (c.in_err-next.ensures n))

pub more-init : goal.more-init
more-init c = λ n. chained_first (comma_chain (one t.Name)) (λ members. members) _ (c.in_ok-first.ensures n) (c.in_ok-push.ensures.ok ∙ ap (λ (x : List (List ℕ)). x ++ c.in_ok-first.first ∷ []) c.new-members.ensures)

pub more-preserved : goal.more-preserved
more-preserved c = λ n. chained_next (comma_chain (one t.Name)) (λ members. members) c.more.members _ (c.more.invariant n) (search rules) c.skip.ensures (c.in_ok-next.ensures n) c.in_ok-push-2.ensures.ok

pub returns : goal.returns
returns c = λ n. chained_done (comma_chain (one t.Name)) (λ members. members) (c.more.invariant n) (search rules)

pub more-smaller : goal.more-smaller
more-smaller c = let e : next c.more.cursor.rest.now ≡ Some (t.Sign s.Comma) = search rules in shorter _ _ _ (t.Sign s.Comma) e c.skip.ensures (c.in_ok-next.ensures 0)
