use Rattle.std.proofs.Common.{◌≡◌, ◌∙◌, ◌==◌, ◌<◌, ℕ, List, length, map, get_or, ap, sym, subst}
use Rattle.std.specs.Prelude.{Contains}
use Rattle.std.proofs.lemmas.Bool.{eqb-true}
use Rattle.std.proofs.lemmas.List.Quantifiers.{position-Some}
use Rattle.result_tables.specs.declared.table.Table.{Table}
use Rattle.result_tables.specs.TableText.{table_of}
use Rattle.view_segment.specs.Tasks.{lone_of}
use Rattle.view_versions.specs.declared.run.ViewRun.{ViewRun}
use Rattle.view_versions.specs.Engines.{task_of}
use Rattle.view_versions.specs.Runs.{HoldsRun}
use Rattle.view_versions.proofs.Finding.{has-place}
use Rattle.view_versions.proofs.Results.{ok-so}
use Rattle.view_versions.proofs.engine.VersionEngine.result.Goals as goal

pub unreachable-requires : goal.unreachable-requires
unreachable-requires c =
    has-place c.deref.result.now c.args.view (sym c.place_of.ensures ∙ c.in-None.is)
    (subst (λ (runs : List ViewRun). Contains (map (λ (run : ViewRun). run.view) runs) c.args.view) (sym c.deref.ensures.value) c.requires.run)

pub returns : goal.returns
returns c = λ answer m stands.
    let e = c.args.self.now in
    let task = task_of answer m e in
    let runs = c.deref.result.now in
    let run = c.index.result.now in
    let place = c.in-Some.place in
    let found = position-Some (λ (r : ViewRun). r.view.0 == c.args.view.0) runs place run (sym c.place_of.ensures ∙ c.in-Some.is) in
    let here : run ≡ get_or runs place run = c.index.ensures ∙ ap (λ (rs : List ViewRun). get_or rs place run) (sym c.deref.ensures.value) in
    let same : run.view.0 ≡ c.args.view.0 = ap (λ (r : ViewRun). r.view.0) here ∙ eqb-true (get_or runs place run).view.0 c.args.view.0 found.1 in
    let holds : HoldsRun task run = subst (HoldsRun task) (sym here) (subst (λ (rs : List ViewRun). HoldsRun task (get_or rs place run)) (sym c.deref.ensures.value) (stands.holds place run (subst (λ (rs : List ViewRun). place < length rs) c.deref.ensures.value found.0))) in
    ok-so c.table_of.result (λ (t : Table). t ≡ table_of (lone_of task run.view.0)) (λ (t : Table). t ≡ table_of (lone_of task c.args.view.0))
    (λ t is. is ∙ ap (λ (v : ℕ). table_of (lone_of task v)) same) (c.table_of.ensures answer m holds)
