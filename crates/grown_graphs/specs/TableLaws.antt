-- Tables of a graph to which more edges come.
use Rattle.std.specs.Prelude.{ℕ, ◌≡◌, codes, List, ◌++◌, flat_map, get_or}
use Rattle.std.proofs.Common.{◌∙◌, ap, refl}
use Rattle.graph_model.specs.declared.number.NodeNo.{NodeNo}
use Rattle.graph_model.specs.declared.value.Val.{Val}
use Rattle.graph_model.specs.declared.value.Val.TheVariants.{Nil}
use Rattle.graph_model.specs.GraphData.{GraphData, nodes_by_id}
use Rattle.vertex_lang.specs.declared.lone.Outcome.{Outcome}
use Rattle.vertex_lang.specs.declared.lone.Outcome.TheVariants as outcome
use Rattle.result_tables.specs.declared.form.Form.{Form}
use Rattle.result_tables.specs.declared.form.Form.TheVariants as form
use Rattle.result_tables.specs.declared.table.Table.{Table}
use Rattle.result_tables.specs.TableText.{form_text, line_end, node_line, node_lines, outcome_text, rows, tail_text, value_line}
use Rattle.grown_graphs.specs.Growing.{GrowsTo}

module _ (g h : GraphData) (more : GrowsTo g h) where
  line-at : (values : List Val) (n : NodeNo) → node_line h values n ≡ node_line g values n
  line-at values n = ap (λ (ids : List ℕ). value_line (get_or ids n.0 0) (get_or values n.0 Nil)) more.ids

  same-line : (values : List Val) → node_line h values ≡ node_line g values
  same-line values = λ i n. line-at values n i

  same-lines : (values : List Val) → node_lines h values ≡ node_lines g values
  same-lines values = ap (λ f. flat_map f (nodes_by_id h.ids)) (same-line values) ∙ ap (λ (ids : List ℕ). flat_map (node_line g values) (nodes_by_id ids)) more.ids

  same-rows : (o : Outcome) (values : List Val) → rows h o values ≡ rows g o values
  same-rows (outcome.Settled r) values = same-lines values
  same-rows (outcome.After n) values = same-lines values
  same-rows (outcome.Phases k) values = same-lines values
  same-rows outcome.Unsettled values = refl

  pub same-tail : (table : Table) → tail_text h table ≡ tail_text g table
  same-tail table =
      ap (λ (l : List ℕ). codes " " ++ (outcome_text table.outcome ++ (line_end ++ (l ++ (codes "end" ++ line_end))))) (same-rows table.outcome table.values)

  pub same-text : (in_form : Form) (head : List ℕ) (edges : ℕ) (table : Table) → form_text in_form head edges h table ≡ form_text in_form head edges g table
  same-text form.Tables head edges table = ap (λ l. head ++ l) (same-tail table)
  same-text form.Summary head edges table = refl
  same-text form.Changes head edges table = ap (λ l. head ++ l) (same-tail table)
