use Rattle.std.proofs.Common.{◌≡◌, sym, refl, true, Some}
use Rattle.std.specs.Str.{is_utf8}
use Rattle.graph_loader.specs.Spelling.{int_spelled}
use Rattle.graph_loader.proofs.TextFacts.{int-text}
use Rattle.graph_loader.proofs.cells.int_cell.Goals as goal

pub returns-in-Some : goal.returns-in-Some
returns-in-Some c =
    let cell : int_spelled c.args.field.now ≡ Some c.in-Some.cell = sym c.in-Some.ensures in
    let text : is_utf8 c.args.field.now ≡ true = int-text c.args.field.now c.in-Some.cell cell in
    rw (text, cell) refl
