use Rattle.std.proofs.Common.{◌∙◌, ◌++◌, ◌∷◌, ◌-◌, [], Bool, ℕ, List, length, take, drop, sym, ap, append_assoc}
use Rattle.std.specs.Prelude.{nat_lt}
use Rattle.gvdl_tokens.specs.declared.word.Word.TheVariants as w
use Rattle.gvdl_tree.specs.declared.predicate.PredTree.{PredTree}
use Rattle.gvdl_parser.specs.Terminals.{cmp_token, truth_token}
use Rattle.gvdl_printer.specs.Layout.{Piece, plain, word}
use Rattle.gvdl_printer.specs.Canonical.{enclosed, joined, operand_pieces, predicate_pieces}
use Rattle.gvdl_printer.specs.Levels.{predicate_level}
use Rattle.gvdl_printer.proofs.Equations.{predicate-Or, predicate-And, predicate-Not, predicate-Constant, predicate-Compare, predicate-Missing}
use Rattle.gvdl_printer.proofs.Growing.{then_more, as_written, ended, in_parentheses, before, behind, part_more, chain_done}
use Rattle.gvdl_printer.proofs.predicate.+predicate.Goals as goal

pub predicate-returns-in_ok-chain-in-Or : goal.predicate-returns-in_ok-chain-in-Or
predicate-returns-in_ok-chain-in-Or t c =
    let needed : Bool = nat_lt 0 c.level-level.result in
    let body = λ (ps : List PredTree). joined (word w.Or) (λ p. predicate_pieces p 1) ps in
    ended c.close.result c.args.page.now c.chain.new.page c.close.new.self (before needed ++ body c.as_slice.result.now) (behind needed) (predicate_pieces c.args.tree.now (predicate_level c.args.place))
    (then_more _ _ _ _ _ c.in_ok-open-in-Or.ensures c.in_ok-chain-in-Or.ensures) c.close.ensures
    (in_parentheses needed (body c.as_slice.result.now) ∙ ap (λ (ps : List PredTree). enclosed needed (body ps)) c.as_slice.ensures ∙ sym (ap (λ (p : PredTree). predicate_pieces p c.level-level.result) c.in-Or.is ∙ predicate-Or c.in-Or.members c.level-level.result) ∙ ap (λ (n : ℕ). predicate_pieces c.args.tree.now n) c.level-level.ensures)

pub predicate-returns-in_ok-chain-in-And : goal.predicate-returns-in_ok-chain-in-And
predicate-returns-in_ok-chain-in-And t c =
    let needed : Bool = nat_lt 1 c.level-level.result in
    let body = λ (ps : List PredTree). joined (word w.And) (λ p. predicate_pieces p 2) ps in
    ended c.close-in-And.result c.args.page.now c.chain-in-And.new.page c.close-in-And.new.self (before needed ++ body c.as_slice-in-And.result.now) (behind needed) (predicate_pieces c.args.tree.now (predicate_level c.args.place))
    (then_more _ _ _ _ _ c.in_ok-open-in-And.ensures c.in_ok-chain-in-And.ensures) c.close-in-And.ensures
    (in_parentheses needed (body c.as_slice-in-And.result.now) ∙ ap (λ (ps : List PredTree). enclosed needed (body ps)) c.as_slice-in-And.ensures ∙ sym (ap (λ (p : PredTree). predicate_pieces p c.level-level.result) c.in-And.is ∙ predicate-And c.in-And.members c.level-level.result) ∙ ap (λ (n : ℕ). predicate_pieces c.args.tree.now n) c.level-level.ensures)

pub predicate-returns-in_ok-word-in-Not : goal.predicate-returns-in_ok-word-in-Not
predicate-returns-in_ok-word-in-Not t c =
    ended c.predicate.result c.args.page.now c.word.new.self c.predicate.new.page (word w.Not ∷ []) (predicate_pieces c.get.result.now 2) (predicate_pieces c.args.tree.now (predicate_level c.args.place))
    c.in_ok-word-in-Not.ensures c.predicate.ensures
    (ap (λ (p : PredTree). word w.Not ∷ predicate_pieces p 2) c.get.ensures ∙ sym (ap (λ (p : PredTree). predicate_pieces p c.level-level.result) c.in-Not.is ∙ predicate-Not c.in-Not.inner c.level-level.result) ∙ ap (λ (n : ℕ). predicate_pieces c.args.tree.now n) c.level-level.ensures)

pub predicate-returns-in-Constant : goal.predicate-returns-in-Constant
predicate-returns-in-Constant t c =
    as_written c.truth.result c.args.page.now c.truth.new.page (plain (truth_token c.in-Constant.value) ∷ []) (predicate_pieces c.args.tree.now (predicate_level c.args.place)) c.truth.ensures
    (sym (ap (λ (p : PredTree). predicate_pieces p c.level-level.result) c.in-Constant.is ∙ predicate-Constant c.in-Constant.value c.level-level.result) ∙ ap (λ (n : ℕ). predicate_pieces c.args.tree.now n) c.level-level.ensures)

pub predicate-returns-in_ok-comparison-in-Compare : goal.predicate-returns-in_ok-comparison-in-Compare
predicate-returns-in_ok-comparison-in-Compare t c =
    let a : List Piece = operand_pieces c.in-Compare.first in
    let b : List Piece = operand_pieces c.in-Compare.second in
    let sign : List Piece = plain (cmp_token c.in-Compare.cmp) ∷ [] in
    ended c.operand-in-Compare.result c.args.page.now c.comparison.new.page c.operand-in-Compare.new.page (a ++ sign) b (predicate_pieces c.args.tree.now (predicate_level c.args.place))
    (then_more _ _ _ _ _ c.in_ok-operand-in-Compare.ensures c.in_ok-comparison-in-Compare.ensures) c.operand-in-Compare.ensures
    (append_assoc a sign b ∙ sym (ap (λ (p : PredTree). predicate_pieces p c.level-level.result) c.in-Compare.is ∙ predicate-Compare c.in-Compare.first c.in-Compare.cmp c.in-Compare.second c.level-level.result) ∙ ap (λ (n : ℕ). predicate_pieces c.args.tree.now n) c.level-level.ensures)

pub predicate-returns-in_ok-word-in-Missing : goal.predicate-returns-in_ok-word-in-Missing
predicate-returns-in_ok-word-in-Missing t c =
    let a : List Piece = operand_pieces c.in-Missing.first in
    ended c.word-in-Missing-2.result c.args.page.now c.word-in-Missing.new.self c.word-in-Missing-2.new.self (a ++ word w.Is ∷ []) (word w.Absent ∷ []) (predicate_pieces c.args.tree.now (predicate_level c.args.place))
    (then_more _ _ _ _ _ c.in_ok-operand-in-Missing.ensures c.in_ok-word-in-Missing.ensures) c.word-in-Missing-2.ensures
    (append_assoc a (word w.Is ∷ []) (word w.Absent ∷ []) ∙ sym (ap (λ (p : PredTree). predicate_pieces p c.level-level.result) c.in-Missing.is ∙ predicate-Missing c.in-Missing.first c.level-level.result) ∙ ap (λ (n : ℕ). predicate_pieces c.args.tree.now n) c.level-level.ensures)

pub chain-loop-other-preserved : goal.chain-loop-other-preserved
chain-loop-other-preserved t c =
    part_more (λ (p : PredTree). word c.args.between ∷ predicate_pieces p (predicate_level c.args.place)) (take (length c.args.members.now - 1) (drop 1 c.args.members.now)) c.loop-other.other-index c.other-item.result c.loop-other.page c.predicate-in-loop-other.new.page _ c.loop-other-test.true c.other-item.is
    (then_more _ _ _ _ _ c.in_ok-word-in-len1-up.ensures c.in_ok-predicate-in-len1-up-2.ensures) c.loop-other.invariant

pub chain-returns-after-loop-other : goal.chain-returns-after-loop-other
chain-returns-after-loop-other t c =
    chain_done (word c.args.between) (λ (p : PredTree). predicate_pieces p (predicate_level c.args.place)) c.args.members.now c.first-item.result c.loop-other.other-index c.args.page.now c.predicate.new.page c.loop-other.page c.in-len1-up.len_at_least c.first-item.is c.in_ok-predicate-in-len1-up.ensures c.loop-other-test.false c.loop-other.invariant
