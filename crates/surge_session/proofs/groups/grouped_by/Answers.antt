-- The pieces of the line stand one after the other.
use Rattle.std.proofs.Common.{◌≡◌, ◌∙◌, ◌++◌, ℕ, List, Some, length, slice_get, refl, ap, ap₂, sym, append_assoc, arith, codes, rules}
use Rattle.graph_model.specs.declared.cell.Column.{Column}
use Rattle.gvdl_printer.specs.Canonical.{canonical_property}
use Rattle.result_tables.specs.TableText.{line_end}
use Rattle.surge_session.specs.Aggregates.{column_name, sum_name}
use Rattle.surge_session.proofs.Texts.{found}
use Rattle.surge_session.proofs.groups.grouped_by.Goals as goal

joined : (a b c d : List ℕ) → ((a ++ b) ++ c) ++ d ≡ a ++ (b ++ (c ++ d))
joined a b c d = simp append_assoc refl

pub returns : goal.returns
returns c =
    let graph = c.args.graph.now in
    let by = c.args.grouping.by in
    let column = c.index-as_slice-grouping.result in
    let same : c.as_slice.result.now ≡ graph.node_columns = c.as_slice.ensures ∙ c.node_columns.ensures.value in
    let at : slice_get graph.node_columns by ≡ Some column = found c.as_slice.result.now graph.node_columns by column same (omega (arith, c.requires.by, ap (λ (cs : List Column). length cs) same)) c.index-as_slice-grouping.is in
    let start : c.into_bytes-text.result.items ≡ codes " by " = search rules in
    let name : c.as_slice-2.result.now ≡ column_name (slice_get graph.node_columns by) = c.as_slice-2.ensures ∙ c.in_ok-property.ensures ∙ ap (λ (x : Column). canonical_property x.name) (sym c.index-as_slice-grouping.is) ∙ ap column_name (sym at) in
    let summed : c.as_slice-3.result.now ≡ sum_name graph c.args.grouping.sum = c.as_slice-3.ensures.value ∙ c.in_ok-summed.ensures in
    c.in_ok-extend_from_slice-3.ensures.items
    ∙ ap (λ (t : List ℕ). t ++ line_end) (c.in_ok-extend_from_slice-2.ensures.items ∙ ap₂ (λ (x y : List ℕ). x ++ y) (c.in_ok-extend_from_slice.ensures.items ∙ ap₂ (λ (x y : List ℕ). x ++ y) start name) summed)
    ∙ joined (codes " by ") (column_name (slice_get graph.node_columns by)) (sum_name graph c.args.grouping.sum) line_end
