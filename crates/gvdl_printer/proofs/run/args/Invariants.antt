use Rattle.std.proofs.Common.{◌≡◌, ◌∷◌, drop}
use Rattle.std.specs.List.{flat_map}
use Rattle.gvdl_tokens.specs.declared.token.Sign.TheVariants as s
use Rattle.gvdl_printer.specs.Layout.{sign}
use Rattle.gvdl_printer.specs.Canonical.{arg_pieces}
use Rattle.gvdl_printer.specs.Pages.{wrote}
use Rattle.gvdl_printer.proofs.run.args.Given as goal

abbrev pub invariant-loop-other : goal.invariant-loop-other
invariant-loop-other l = wrote l.page (flat_map (λ x. sign s.Comma ∷ arg_pieces x) (drop l.other-index l.others)) ≡ wrote l.initial.page (flat_map (λ x. sign s.Comma ∷ arg_pieces x) l.others)
