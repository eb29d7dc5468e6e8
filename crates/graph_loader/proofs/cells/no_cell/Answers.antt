use Rattle.std.proofs.Common.{◌≡◌, refl, true, false}
use Rattle.std.specs.Str.{is_utf8}
use Rattle.std.proofs.lemmas.Str.{is_utf8-from_IsUtf8}
use Rattle.graph_loader.proofs.TextFacts.{no-text}
use Rattle.graph_loader.proofs.cells.no_cell.Goals as goal

pub returns-in-Ok : goal.returns-in-Ok
returns-in-Ok c = let text : is_utf8 c.args.field.now ≡ true = is_utf8-from_IsUtf8 c.args.field.now c.in-Ok.ensures.cases.1 in rw text refl

pub returns-in-Err : goal.returns-in-Err
returns-in-Err c = let text : is_utf8 c.args.field.now ≡ false = no-text c.args.field.now c.in-Err.ensures.cases.0 in rw text refl
