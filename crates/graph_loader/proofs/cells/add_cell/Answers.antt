use Rattle.std.proofs.Common.{◌≡◌, refl, true, false}
use Rattle.std.specs.Str.{is_utf8}
use Rattle.std.proofs.lemmas.Str.{is_utf8-from_IsUtf8}
use Rattle.graph_loader.proofs.TextFacts.{no-text}
use Rattle.graph_loader.proofs.cells.add_cell.Goals as goal

pub returns-in_ok-push-in-Ok-from_utf8-clause-told : goal.returns-in_ok-push-in-Ok-from_utf8-clause-told
returns-in_ok-push-in-Ok-from_utf8-clause-told c =
    let text : is_utf8 c.args.field.now ≡ true = is_utf8-from_IsUtf8 c.args.field.now c.in-Ok-from_utf8.ensures.cases.1 in
    rw (c.in-Str.is, text) refl

pub returns-in-Err-from_utf8-clause-told : goal.returns-in-Err-from_utf8-clause-told
returns-in-Err-from_utf8-clause-told c =
    let text : is_utf8 c.args.field.now ≡ false = no-text c.args.field.now c.in-Err-from_utf8.ensures.cases.0 in
    rw (c.blame-in-Err-from_utf8.ensures, c.in-Str.is, text) refl
