use Rattle.std.proofs.Common.{◌≡◌, ◌∙◌, sym, refl, Some, None, true, false}
use Rattle.graph_loader.specs.Spelling.{cut_at_last_colon, kind_spelled, is_property}
use Rattle.graph_loader.proofs.HeaderFacts.{none-is-none, split-is-cut}
use Rattle.graph_loader.specs.PropertyLaws.{column-of}
use Rattle.graph_loader.proofs.header.property_from.Goals as goal

pub returns-in_err-name : goal.returns-in_err-name
returns-in_err-name c = rw c.from_residual.ensures (sym (column-of c.args.field.now None (none-is-none c.args.field.now c.in_err-name.ensures.cases)))

pub returns-in_err-kind : goal.returns-in_err-kind
returns-in_err-kind c =
    let cut : cut_at_last_colon c.args.field.now ≡ Some (c.in_ok-name.name.now, c.in_ok-name.word.now) =
    split-is-cut c.args.field.now c.in_ok-name.name.now c.in_ok-name.word.now c.in_ok-name.ensures.cases in
    let kind : kind_spelled c.in_ok-name.word.now ≡ None = sym c.in_err-kind.ensures in
    rw c.from_residual-in_err-kind.ensures (sym (column-of c.args.field.now (Some (c.in_ok-name.name.now, c.in_ok-name.word.now)) cut ∙ rw kind refl))

pub returns-then-is_property_name : goal.returns-then-is_property_name
returns-then-is_property_name c =
    let cut : cut_at_last_colon c.args.field.now ≡ Some (c.in_ok-name.name.now, c.in_ok-name.word.now) =
    split-is-cut c.args.field.now c.in_ok-name.name.now c.in_ok-name.word.now c.in_ok-name.ensures.cases in
    let kind : kind_spelled c.in_ok-name.word.now ≡ Some c.in_ok-kind.kind = sym c.in_ok-kind.ensures in
    let named : is_property c.in_ok-name.name.now ≡ true = sym c.if-is_property_name.ensures in
    sym (column-of c.args.field.now (Some (c.in_ok-name.name.now, c.in_ok-name.word.now)) cut ∙ rw (kind, named) refl)

pub returns-else-is_property_name : goal.returns-else-is_property_name
returns-else-is_property_name c =
    let cut : cut_at_last_colon c.args.field.now ≡ Some (c.in_ok-name.name.now, c.in_ok-name.word.now) =
    split-is-cut c.args.field.now c.in_ok-name.name.now c.in_ok-name.word.now c.in_ok-name.ensures.cases in
    let kind : kind_spelled c.in_ok-name.word.now ≡ Some c.in_ok-kind.kind = sym c.in_ok-kind.ensures in
    let named : is_property c.in_ok-name.name.now ≡ false = sym c.if-is_property_name.ensures in
    sym (column-of c.args.field.now (Some (c.in_ok-name.name.now, c.in_ok-name.word.now)) cut ∙ rw (kind, named) refl)
