use Rattle.std.proofs.Common.{◌≡◌, ◌∙◌, ◌+◌, ◌++◌, ℕ, List, drop, sym, ap, subst, append_assoc}
use Rattle.std.specs.List.{flat_map}
use Rattle.gvdl_tree.specs.declared.script.Statement.{Statement}
use Rattle.gvdl_printer.specs.Layout.{line}
use Rattle.gvdl_printer.specs.Canonical.{form_line, load_pieces, statement_pieces}
use Rattle.gvdl_printer.proofs.Growing.{line_more, lines_done}
use Rattle.gvdl_printer.proofs.printer.lines.Goals as goal

abbrev line_of : Statement → List ℕ
line_of x = line (statement_pieces x)

pub loop-statement-preserved : goal.loop-statement-preserved
loop-statement-preserved c =
    let given : List Statement = c.as_slice-statement-items.result.now in
    let whole : List ℕ = c.append.new.self ++ flat_map line_of c.args.script.now.statements in
    let same : given ≡ c.args.script.now.statements = c.as_slice-statement-items.ensures in
    let so_far : c.loop-statement.text ++ flat_map line_of (drop c.loop-statement.statement-index given) ≡ whole = subst (λ (xs : List Statement). c.loop-statement.text ++ flat_map line_of (drop c.loop-statement.statement-index xs) ≡ whole) (sym same) c.loop-statement.invariant in
    subst (λ (xs : List Statement). c.append-in-loop-statement.new.self ++ flat_map line_of (drop (c.loop-statement.statement-index + 1) xs) ≡ whole) same
    (line_more line_of given c.loop-statement.statement-index c.statement-item.result c.loop-statement.text c.append-in-loop-statement.new.self whole c.loop-statement-test.true c.statement-item.is
    (c.in_ok-append-2.ensures.ok ∙ ap (λ (bytes : List ℕ). c.loop-statement.text ++ bytes) c.in_ok-statement_line.ensures) so_far)

pub returns : goal.returns
returns c =
    let given : List Statement = c.as_slice-statement-items.result.now in
    let whole : List ℕ = c.append.new.self ++ flat_map line_of c.args.script.now.statements in
    let same : given ≡ c.args.script.now.statements = c.as_slice-statement-items.ensures in
    let so_far : c.loop-statement.text ++ flat_map line_of (drop c.loop-statement.statement-index given) ≡ whole = subst (λ (xs : List Statement). c.loop-statement.text ++ flat_map line_of (drop c.loop-statement.statement-index xs) ≡ whole) (sym same) c.loop-statement.invariant in
    let form : List ℕ = form_line c.args.script.now.form in
    let loaded : List ℕ = line (load_pieces c.args.script.now) in
    let others : List ℕ = flat_map line_of c.args.script.now.statements in
    let begun : c.append.new.self ≡ form ++ loaded = c.in_ok-append.ensures.ok ∙ ap (λ (bytes : List ℕ). bytes ++ c.in_ok-load_line.field-0) c.in_ok-text.ensures ∙ ap (λ (bytes : List ℕ). form ++ bytes) c.in_ok-load_line.ensures in
    lines_done line_of given c.loop-statement.statement-index c.loop-statement.text whole c.loop-statement-test.false so_far ∙ ap (λ (bytes : List ℕ). bytes ++ others) begun ∙ append_assoc form loaded others
