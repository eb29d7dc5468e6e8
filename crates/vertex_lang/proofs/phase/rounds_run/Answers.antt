use Rattle.std.specs.Prelude.{List, MatchBool}
use Rattle.std.proofs.Common.{◌∙◌, ◌+◌, ◌*◌, length, ap, sym, subst, ℕ}
use Rattle.graph_model.specs.declared.value.Val.{Val}
use Rattle.graph_model.specs.GraphData.{GraphData}
use Rattle.vertex_lang.specs.Lone.{rounds_run}
use Rattle.vertex_lang.specs.LowestGiven.{lowest_in_rounds}
use Rattle.vertex_lang.specs.PhaseLaws.{length-from}
use Rattle.vertex_lang.specs.Phases.{IsQuiet}
use Rattle.vertex_lang.proofs.Phasing.{few-gone, gone-told, last-values, quiet-told, runs-of}
use Rattle.vertex_lang.proofs.phase.rounds_run.Goals as goal

pub returns-clause-values : goal.returns-clause-values
returns-clause-values g c =
    let runs = runs-of g.U.Updater.answer _ _ _ _ _ _ _ _ c.args.rounds c.run_within-outcome.result c.run_within-outcome.new.lists.values.items c.in_ok-setting.ensures.program c.in_ok-setting.ensures.graph c.in_ok-setting.ensures.starts c.in_ok-setting.ensures.arcs c.run_within-outcome.ensures.outcome in
    c.from_vec.ensures ∙ last-values g.U.Updater.answer c.args.program.now c.args.graph.now c.args.starts.now c.args.arcs.now c.args.rounds c.run_within-outcome.result c.run_within-outcome.new.lists.values.items runs

pub returns-clause-quiet : goal.returns-clause-quiet
returns-clause-quiet g c =
    let runs = runs-of g.U.Updater.answer _ _ _ _ _ _ _ _ c.args.rounds c.run_within-outcome.result c.run_within-outcome.new.lists.values.items c.in_ok-setting.ensures.program c.in_ok-setting.ensures.graph c.in_ok-setting.ensures.starts c.in_ok-setting.ensures.arcs c.run_within-outcome.ensures.outcome in
    let quiet = IsQuiet g.U.Updater.answer c.args.program.now c.args.graph.now c.args.starts.now c.args.arcs.now c.args.rounds in
    subst (λ b. MatchBool b quiet (quiet → ⊥)) (sym c.is_quiet.ensures) (quiet-told g.U.Updater.answer c.args.program.now c.args.graph.now c.args.starts.now c.args.arcs.now c.args.rounds c.run_within-outcome.result c.run_within-outcome.new.lists.values.items runs)

pub returns-clause-size : goal.returns-clause-size
returns-clause-size g c =
    let runs = runs-of g.U.Updater.answer _ _ _ _ _ _ _ _ c.args.rounds c.run_within-outcome.result c.run_within-outcome.new.lists.values.items c.in_ok-setting.ensures.program c.in_ok-setting.ensures.graph c.in_ok-setting.ensures.starts c.in_ok-setting.ensures.arcs c.run_within-outcome.ensures.outcome in
    ap (λ (vs : List Val). length vs) (c.from_vec.ensures ∙ last-values g.U.Updater.answer c.args.program.now c.args.graph.now c.args.starts.now c.args.arcs.now c.args.rounds c.run_within-outcome.result c.run_within-outcome.new.lists.values.items runs)
    ∙ length-from g.U.Updater.answer c.args.program.now c.args.graph.now c.args.starts.now c.args.arcs.now c.args.rounds c.requires.starts

pub returns-clause-lowest : goal.returns-clause-lowest
returns-clause-lowest g c =
    let runs = runs-of g.U.Updater.answer _ _ _ _ _ _ _ _ c.args.rounds c.run_within-outcome.result c.run_within-outcome.new.lists.values.items c.in_ok-setting.ensures.program c.in_ok-setting.ensures.graph c.in_ok-setting.ensures.starts c.in_ok-setting.ensures.arcs c.run_within-outcome.ensures.outcome in
    lowest_in_rounds g.U.Updater.answer g.met.U.Updater.lowest_was_given c.args.program.now c.args.graph.now c.cells_are_proper.ensures.nodes c.cells_are_proper.ensures.edges c.args.arcs.now c.requires.arcs c.args.starts.now c.args.rounds
    c.from_vec.result c.requires.starts (c.from_vec.ensures ∙ last-values g.U.Updater.answer c.args.program.now c.args.graph.now c.args.starts.now c.args.arcs.now c.args.rounds c.run_within-outcome.result c.run_within-outcome.new.lists.values.items runs)

pub returns-clause-calls : goal.returns-clause-calls
returns-clause-calls g c =
    let runs = runs-of g.U.Updater.answer _ _ _ _ _ _ _ _ c.args.rounds c.run_within-outcome.result c.run_within-outcome.new.lists.values.items c.in_ok-setting.ensures.program c.in_ok-setting.ensures.graph c.in_ok-setting.ensures.starts c.in_ok-setting.ensures.arcs c.run_within-outcome.ensures.outcome in
    c.run_within-outcome.ensures.calls
    ∙ ap (λ (x : GraphData). g.U.Counted.calls c.args.updater.now + length x.ids * rounds_run c.args.rounds c.run_within-outcome.result) c.in_ok-setting.ensures.graph
    ∙ ap (λ (k : ℕ). g.U.Counted.calls c.args.updater.now + length c.args.graph.now.ids * k) (gone-told g.U.Updater.answer c.args.program.now c.args.graph.now c.args.starts.now c.args.arcs.now c.args.rounds c.run_within-outcome.result c.run_within-outcome.new.lists.values.items runs)

pub returns-clause-few_rounds : goal.returns-clause-few_rounds
returns-clause-few_rounds g c = few-gone g.U.Updater.answer c.args.program.now c.args.graph.now c.args.starts.now c.args.arcs.now c.args.rounds
