use Rattle.phrase_theory.specs.SequenceLaws.{passed_on, first_stuck, ◌▹◌, ◌▸◌, pure_found}
use Rattle.gvdl_parser.specs.Statements.{load}
use Rattle.gvdl_parser.proofs.StatementLaws.{statement_phrases}
use Rattle.gvdl_parser.proofs.script.load.Goals as goal

pub returns-in_err-word : goal.returns-in_err-word
unfolding load
returns-in_err-word c = λ n. passed_on _ c.from_residual.ensures.1 (first_stuck (c.in_err-word.ensures n) (λ m a. search statement_phrases depth 40))

pub returns-in_err-graph : goal.returns-in_err-graph
unfolding load
returns-in_err-graph c = λ n. passed_on _ c.from_residual-in_err-graph.ensures.1 ((c.in_ok-word.ensures n) ▹ first_stuck (c.in_err-graph.ensures n) (λ m a. search statement_phrases depth 40))

pub returns-in_err-nodes : goal.returns-in_err-nodes
unfolding load
returns-in_err-nodes c = λ n. passed_on _ c.from_residual-in_err-nodes.ensures.1 ((c.in_ok-word.ensures n) ▹ (c.in_ok-graph.ensures n) ▹ first_stuck (c.in_err-nodes.ensures n) (λ m a. search statement_phrases depth 40))

pub returns-in_err-edges : goal.returns-in_err-edges
unfolding load
returns-in_err-edges c = λ n. passed_on _ c.from_residual-in_err-edges.ensures.1 ((c.in_ok-word.ensures n) ▹ (c.in_ok-graph.ensures n) ▹ (c.in_ok-nodes.ensures n) ▹ first_stuck (c.in_err-edges.ensures n) (λ m a. search statement_phrases depth 40))

pub returns-in_err-sign : goal.returns-in_err-sign
unfolding load
returns-in_err-sign c = λ n. passed_on _ c.from_residual-in_err-sign.ensures.1 ((c.in_ok-word.ensures n) ▹ (c.in_ok-graph.ensures n) ▹ (c.in_ok-nodes.ensures n) ▹ (c.in_ok-edges.ensures n) ▹ first_stuck (c.in_err-sign.ensures n) (λ m a. search statement_phrases depth 40))

pub returns : goal.returns
unfolding load
returns c = λ n. (c.in_ok-word.ensures n) ▸ (c.in_ok-graph.ensures n) ▸ (c.in_ok-nodes.ensures n) ▸ (c.in_ok-edges.ensures n) ▸ (c.in_ok-sign.ensures n) ▸ pure_found
