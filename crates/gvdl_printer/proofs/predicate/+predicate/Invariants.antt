use Rattle.std.proofs.Common.{◌≡◌, ◌∷◌, drop}
use Rattle.std.specs.List.{flat_map}
use Rattle.gvdl_printer.specs.Layout.{word}
use Rattle.gvdl_printer.specs.Canonical.{predicate_pieces}
use Rattle.gvdl_printer.specs.Levels.{predicate_level}
use Rattle.gvdl_printer.specs.Pages.{wrote}
use Rattle.gvdl_printer.proofs.predicate.+predicate.Given as goal

abbrev pub invariant-chain-loop-other : goal.invariant-chain-loop-other
invariant-chain-loop-other l = wrote l.page (flat_map (λ p. word l.between ∷ predicate_pieces p (predicate_level l.place)) (drop l.other-index l.others)) ≡ wrote l.initial.page (flat_map (λ p. word l.between ∷ predicate_pieces p (predicate_level l.place)) l.others)
