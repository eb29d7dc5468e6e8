use Rattle.std.proofs.Common.{◌≡◌, sym, refl, true, Some}
use Rattle.std.specs.Str.{is_utf8}
use Rattle.graph_loader.specs.Spelling.{bool_spelled}
use Rattle.graph_loader.proofs.TextFacts.{bool-text}
use Rattle.graph_loader.proofs.cells.bool_cell.Goals as goal

pub returns-in-Some : goal.returns-in-Some
returns-in-Some c =
    let cell : bool_spelled c.args.field.now ≡ Some c.in-Some.cell = sym c.in-Some.ensures in
    let text : is_utf8 c.args.field.now ≡ true = bool-text c.args.field.now c.in-Some.cell cell in
    rw (text, cell) refl
