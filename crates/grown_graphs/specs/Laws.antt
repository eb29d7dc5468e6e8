-- What a graph with more edges behind its own keeps, each law as one statement, and proofs of them that the rooms above can cite.
use Rattle.std.specs.Prelude.{ℕ, ◌≡◌, ◌≤◌, ◌<◌, Bool, false, ◌&&◌, List, length, filter, Ok, Option, IfSome, All}
use Rattle.std.proofs.Common.{◌∙◌, sym, refl, subst, arith}
use Rattle.graph_model.specs.declared.number.EdgeNo.{EdgeNo}
use Rattle.graph_model.specs.declared.number.NodeNo.{NodeNo}
use Rattle.graph_model.specs.declared.cell.Cells.{Cells}
use Rattle.graph_model.specs.GraphData.{GraphData, IsGraphData, with_edges}
use Rattle.edge_predicates.specs.declared.pred.Pred.{Pred}
use Rattle.edge_predicates.specs.declared.pred.ViewRule.{ViewRule}
use Rattle.edge_predicates.specs.Truth.{rule_truth, truth}
use Rattle.edge_predicates.specs.ViewEdges.{edges_of}
use Rattle.graph_loader.specs.DataFiles.{extended}
use Rattle.graph_loader.specs.LoadLaws.{AreMore}
use Rattle.graph_loader.specs.Laws.{extended-adds}
use Rattle.vertex_lang.specs.declared.arc.Arc.{Arc}
use Rattle.vertex_lang.specs.declared.lone.Rounds.{Rounds}
use Rattle.vertex_lang.specs.declared.program.Along.{Along}
use Rattle.vertex_lang.specs.declared.program.Program.{Program}
use Rattle.vertex_lang.specs.Arcs.{arcs_between}
use Rattle.vertex_lang.specs.Expressions.{Answer}
use Rattle.vertex_lang.specs.Leaves.{IsChecked}
use Rattle.vertex_lang.specs.Lone.{answer_of}
use Rattle.vertex_lang.specs.Phases.{phases_answer}
use Rattle.vertex_lang.specs.Rounds.{lone}
use Rattle.lone_work.specs.Work.{work}
use Rattle.aggregate_views.specs.Rows.{HasSumColumn, rows_of}
use Rattle.result_tables.specs.declared.form.Form.{Form}
use Rattle.result_tables.specs.declared.table.Table.{Table}
use Rattle.result_tables.specs.TableText.{form_text}
use Rattle.grown_graphs.specs.Growing.{AlongEdgesOf, AreEdgesOf, GrowsTo}
use Rattle.grown_graphs.specs.JoinLaws.{grown, still-fits}
use Rattle.grown_graphs.specs.ReadLaws.{same-arcs, same-rule, same-truth, same-view}
use Rattle.grown_graphs.specs.RunLaws.{same-answer, same-checked, same-checked-back, same-lone}
use Rattle.grown_graphs.specs.PhaseLaws.{same-phases-over}
use Rattle.grown_graphs.specs.WorkLaws.{same-work}
use Rattle.grown_graphs.specs.RowLaws.{same-rows-over}
use Rattle.grown_graphs.specs.TableLaws.{same-text}

-- ---- growing

-- a graph with more edges that can stand behind its own is a graph, to which the first grows
abbrev pub FitsWhenGrown : Type 0
FitsWhenGrown = (g : GraphData) (more : List (NodeNo × NodeNo)) (lists : List Cells) → IsGraphData g → AreMore g more lists
    → IsGraphData (with_edges g more lists) × GrowsTo g (with_edges g more lists)

pub fits-when-grown : FitsWhenGrown
fits-when-grown g more lists fits are = (still-fits g more lists fits are, grown g more lists fits are)

-- so is what a further file of edges makes of a graph
abbrev pub ExtendedGrows : Type 0
ExtendedGrows = (statement : ℕ) (bytes : List ℕ) (g h : GraphData) → IsGraphData g → extended statement bytes g ≡ Ok h → IsGraphData h × GrowsTo g h

pub extended-grows : ExtendedGrows
extended-grows statement bytes g h fits e =
    let more = extended-adds statement bytes g h fits e in
    subst (λ x. IsGraphData x × GrowsTo g x) (sym more.whole) (fits-when-grown g more.more more.lists fits more.are)

-- each graph grows to itself, and one that grows to another grows to what that grows to
abbrev pub GrowthsJoin : Type 0
GrowthsJoin = ((g : GraphData) → GrowsTo g g) × ((g h k : GraphData) → GrowsTo g h → GrowsTo h k → GrowsTo g k)

pub growths-join : GrowthsJoin
growths-join = (same, join) where
  same : (g : GraphData) → GrowsTo g g
  same g = record { ids = refl; node_columns = refl; node_cells = refl; edge_columns = refl; count = omega arith; ends = λ e lt. refl; cells = λ e column lt within. refl }

  join : (g h k : GraphData) → GrowsTo g h → GrowsTo h k → GrowsTo g k
  join g h k a b = record {
    ids = b.ids ∙ a.ids;
    node_columns = b.node_columns ∙ a.node_columns;
    node_cells = b.node_cells ∙ a.node_cells;
    edge_columns = b.edge_columns ∙ a.edge_columns;
    count = omega (arith, a.count, b.count);
    ends = λ e lt. b.ends e (omega (arith, lt, a.count)) ∙ a.ends e lt;
    cells = λ e column lt within. b.cells e column (omega (arith, lt, a.count)) (subst (λ cs. column < length cs) (sym a.edge_columns) within) ∙ a.cells e column lt within;
  }

-- ---- predicates

-- at an edge that was there each predicate has the same truth, and so has a rule
abbrev pub SameTruths : Type 0
SameTruths = (g h : GraphData) (e : ℕ) → GrowsTo g h → e < length g.ends → ((p : Pred) → truth h e p ≡ truth g e p) × ((rule : ViewRule) → rule_truth h e rule ≡ rule_truth g e rule)

pub same-truths : SameTruths
same-truths g h e more old = (same-truth g h more e old, same-rule g h more e old)

-- where no added edge is picked, the edges that are picked and for which a rule holds are the same
abbrev pub SameViews : Type 0
SameViews = (g h : GraphData) (picks : ℕ → Bool) (rule : ViewRule) → GrowsTo g h → ((e : ℕ) → length g.ends ≤ e → picks e ≡ false)
    → filter (λ e. picks e.0 && rule_truth h e.0 rule) (edges_of h) ≡ filter (λ e. picks e.0 && rule_truth g e.0 rule) (edges_of g)

pub same-views : SameViews
same-views g h picks rule more none = same-view g h more picks rule none

-- ---- programs

-- edges that were there have the same arcs
abbrev pub SameArcs : Type 0
SameArcs = (g h : GraphData) (way : Along) (edges : List EdgeNo) → GrowsTo g h → AreEdgesOf g edges → arcs_between way h edges ≡ arcs_between way g edges

pub same-arcs-of : SameArcs
same-arcs-of g h way edges more old = same-arcs g h more way edges old

-- a program is checked against both graphs or against neither
abbrev pub GrowthIsChecked : Type 0
GrowthIsChecked = (g h : GraphData) (p : Program) → GrowsTo g h → (IsChecked p g → IsChecked p h) × (IsChecked p h → IsChecked p g)

pub growth-is-checked : GrowthIsChecked
growth-is-checked g h p more = (same-checked g h more p, same-checked-back g h more p)

-- a program on arcs of edges that were there has the same values after each round
abbrev pub SameValues : Type 0
SameValues = (g h : GraphData) (answer : Answer) (p : Program) (arcs : List Arc) (r : ℕ) → GrowsTo g h → AlongEdgesOf g arcs → lone answer p h arcs r ≡ lone answer p g arcs r

pub same-values : SameValues
same-values g h answer p arcs r more old = same-lone g h more answer p arcs old r

-- and its plain run on edges that were there has the same answer
abbrev pub SameAnswers : Type 0
SameAnswers = (g h : GraphData) (answer : Answer) (p : Program) (edges : List EdgeNo) (limit : Rounds) → GrowsTo g h → AreEdgesOf g edges
    → answer_of answer p h (arcs_between p.along h edges) limit ≡ answer_of answer p g (arcs_between p.along g edges) limit

pub same-answers : SameAnswers
same-answers g h answer p edges limit more old = same-answer g h more answer p edges limit old

-- so has its run in phases
abbrev pub SamePhases : Type 0
SamePhases = (g h : GraphData) (answer : Answer) (p : Program) (edges : List EdgeNo) (n m : ℕ) → GrowsTo g h → AreEdgesOf g edges
    → phases_answer answer p h (arcs_between p.along h edges) n m ≡ phases_answer answer p g (arcs_between p.along g edges) n m

pub same-phases : SamePhases
same-phases g h answer p edges n m more old = same-phases-over g h more answer p edges n m old

-- and behind a view, or behind none, it has the same work
abbrev pub SameWorks : Type 0
SameWorks = (g h : GraphData) (answer : Answer) (p : Program) (new : List Arc) (old : Option (List Arc)) (rounds : ℕ) → GrowsTo g h → AlongEdgesOf g new → IfSome old (AlongEdgesOf g)
    → work answer p h new old rounds ≡ work answer p g new old rounds

pub same-works : SameWorks
same-works g h answer p new old rounds more along before = same-work g h more answer p new old rounds along before

-- ---- aggregates

-- edges that were there have the same rows
abbrev pub SameRows : Type 0
SameRows = (g h : GraphData) (column : ℕ) (sum : Option ℕ) (edges : List ℕ) → GrowsTo g h → HasSumColumn g sum → All (λ e. e < length g.ends) edges
    → rows_of h column sum edges ≡ rows_of g column sum edges

pub same-rows : SameRows
same-rows g h column sum edges more has old = same-rows-over g h more column sum has edges old

-- ---- tables

-- a table is the same text in each form
abbrev pub SameTables : Type 0
SameTables = (g h : GraphData) (form : Form) (head : List ℕ) (edges : ℕ) (table : Table) → GrowsTo g h → form_text form head edges h table ≡ form_text form head edges g table

pub same-tables : SameTables
same-tables g h form head edges table more = same-text g h more form head edges table
