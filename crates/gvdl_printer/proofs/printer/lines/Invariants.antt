use Rattle.std.proofs.Common.{◌≡◌, ◌++◌, drop}
use Rattle.std.specs.List.{flat_map}
use Rattle.gvdl_printer.specs.Layout.{line}
use Rattle.gvdl_printer.specs.Canonical.{statement_pieces}
use Rattle.gvdl_printer.proofs.printer.lines.Given as goal

abbrev pub invariant-loop-statement : goal.invariant-loop-statement
invariant-loop-statement l = l.text ++ flat_map (λ x. line (statement_pieces x)) (drop l.statement-index l.script.statements) ≡ l.initial.text ++ flat_map (λ x. line (statement_pieces x)) l.script.statements
