use Rattle.std.proofs.Common.{◌≡◌, ◌∷◌, drop}
use Rattle.std.specs.List.{flat_map}
use Rattle.gvdl_tokens.specs.declared.word.Word.TheVariants as w
use Rattle.gvdl_parser.specs.Terminals.{term_token, factor_token}
use Rattle.gvdl_printer.specs.Layout.{plain, word}
use Rattle.gvdl_printer.specs.Canonical.{expression_pieces, test_pieces}
use Rattle.gvdl_printer.specs.Pages.{wrote}
use Rattle.gvdl_printer.proofs.expression.+expression.Given as goal

abbrev pub invariant-condition-loop-other : goal.invariant-condition-loop-other
invariant-condition-loop-other l = wrote l.page (flat_map (λ x. word w.And ∷ test_pieces x) (drop l.other-index l.others)) ≡ wrote l.initial.page (flat_map (λ x. word w.And ∷ test_pieces x) l.others)

abbrev pub invariant-else_chain-loop-other : goal.invariant-else_chain-loop-other
invariant-else_chain-loop-other l = wrote l.page (flat_map (λ a. word w.Else ∷ expression_pieces a 1) (drop l.other-index l.others)) ≡ wrote l.initial.page (flat_map (λ a. word w.Else ∷ expression_pieces a 1) l.others)

abbrev pub invariant-terms-loop-plus : goal.invariant-terms-loop-plus
invariant-terms-loop-plus l = wrote l.page (flat_map (λ other. plain (term_token other.0) ∷ expression_pieces other.1 2) (drop l.plus-index l.others)) ≡ wrote l.initial.page (flat_map (λ other. plain (term_token other.0) ∷ expression_pieces other.1 2) l.others)

abbrev pub invariant-factors-loop-times : goal.invariant-factors-loop-times
invariant-factors-loop-times l = wrote l.page (flat_map (λ other. plain (factor_token other.0) ∷ expression_pieces other.1 3) (drop l.times-index l.others)) ≡ wrote l.initial.page (flat_map (λ other. plain (factor_token other.0) ∷ expression_pieces other.1 3) l.others)
