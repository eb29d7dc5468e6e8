use Rattle.std.proofs.Common.{◌≡◌, ◌∙◌, sym, ap, refl, length, Some, None, true, false, arith}
use Rattle.std.specs.Prelude.{nat_le}
use Rattle.std.proofs.lemmas.Bool.Decides.{nat_tests}
use Rattle.graph_loader.specs.DataFiles.{has_name, most_properties, new_column}
use Rattle.graph_loader.specs.LoadSteps.{column_parts}
use Rattle.graph_loader.specs.Spelling.{column_spelled}
use Rattle.graph_loader.specs.PropertyLaws.{property-of-text, property-of-bytes}
use Rattle.graph_loader.proofs.TextFacts.{no-text}
use Rattle.graph_loader.proofs.header.named_property.Goals as goal

pub returns-in_default : goal.returns-in_default
returns-in_default c =
    let few : nat_le most_properties (length c.args.earlier.now) ≡ false = grind (arith, nat_tests, c.if-earlier-ge-MOST_PROPERTIES.false) in
    sym (property-of-bytes c.args.earlier.now c.args.field.now few (no-text c.args.field.now c.in_default.ensures.cases.0))

pub returns-then-has_column : goal.returns-then-has_column
returns-then-has_column c =
    let few : nat_le most_properties (length c.args.earlier.now) ≡ false = grind (arith, nat_tests, c.if-earlier-ge-MOST_PROPERTIES.false) in
    let spelled : column_spelled c.args.field.now ≡ Some (column_parts (c.in-Some.name, c.in-Some.kind)) = ap column_spelled (sym c.in-Ok.ensures.cases.0) ∙ sym c.in-Some.ensures in
    let has : has_name c.args.earlier.now c.in-Some.name.now ≡ true = sym c.if-has_column.ensures in
    sym (property-of-text c.args.earlier.now c.args.field.now few c.in-Ok.ensures.cases.1 ∙ ap (new_column c.args.earlier.now) spelled ∙ rw has refl)

pub returns-else-has_column : goal.returns-else-has_column
returns-else-has_column c =
    let few : nat_le most_properties (length c.args.earlier.now) ≡ false = grind (arith, nat_tests, c.if-earlier-ge-MOST_PROPERTIES.false) in
    let spelled : column_spelled c.args.field.now ≡ Some (column_parts (c.in-Some.name, c.in-Some.kind)) = ap column_spelled (sym c.in-Ok.ensures.cases.0) ∙ sym c.in-Some.ensures in
    let has : has_name c.args.earlier.now c.in-Some.name.now ≡ false = sym c.if-has_column.ensures in
    sym (property-of-text c.args.earlier.now c.args.field.now few c.in-Ok.ensures.cases.1 ∙ ap (new_column c.args.earlier.now) spelled ∙ rw has refl)

pub returns-in-None : goal.returns-in-None
returns-in-None c =
    let few : nat_le most_properties (length c.args.earlier.now) ≡ false = grind (arith, nat_tests, c.if-earlier-ge-MOST_PROPERTIES.false) in
    let spelled : column_spelled c.args.field.now ≡ None = ap column_spelled (sym c.in-Ok.ensures.cases.0) ∙ sym c.in-None.ensures in
    sym (property-of-text c.args.earlier.now c.args.field.now few c.in-Ok.ensures.cases.1 ∙ ap (new_column c.args.earlier.now) spelled)
