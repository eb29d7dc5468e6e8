use Rattle.std.specs.Prelude.{List}
use Rattle.std.proofs.Common.{◌∙◌, length, ap}
use Rattle.std.proofs.lemmas.List.FromFn.{length-map-range_with_len}
use Rattle.graph_model.specs.declared.value.Val.{Val}
use Rattle.graph_model.specs.GraphData.{GraphData}
use Rattle.vertex_lang.specs.AnswerLaws.{answer_is, answer_size, few_rounds}
use Rattle.vertex_lang.specs.Expressions.{start_of}
use Rattle.vertex_lang.specs.LowestGiven.{lowest_in_answer}
use Rattle.vertex_lang.proofs.Endings.{calls-told, ends-in-answer, outcome-told}
use Rattle.vertex_lang.proofs.lone.lone_run.Goals as goal

pub new-requires-clause-starts : goal.new-requires-clause-starts
new-requires-clause-starts g c = ap (λ (vs : List Val). length vs) (c.deref.ensures.value ∙ c.in_ok-starts.ensures) ∙ length-map-range_with_len (start_of c.args.program.now c.args.graph.now) 0 (length c.args.graph.now.ids)

pub returns-clause-meaning : goal.returns-clause-meaning
returns-clause-meaning g c = ends-in-answer g.U.Updater.answer _ _ _ _ _ _ _ c.args.rounds c.run-outcome.result c.run-outcome.new.lists.values.items c.answer.result c.in_ok-setting.ensures.program c.in_ok-setting.ensures.graph (c.in_ok-setting.ensures.starts ∙ c.deref.ensures.value ∙ c.in_ok-starts.ensures) c.in_ok-setting.ensures.arcs c.run-outcome.ensures.outcome c.answer.ensures

pub returns-clause-answer : goal.returns-clause-answer
returns-clause-answer g c =
    let meaning = ends-in-answer g.U.Updater.answer _ _ _ _ _ _ _ c.args.rounds c.run-outcome.result c.run-outcome.new.lists.values.items c.answer.result c.in_ok-setting.ensures.program c.in_ok-setting.ensures.graph (c.in_ok-setting.ensures.starts ∙ c.deref.ensures.value ∙ c.in_ok-starts.ensures) c.in_ok-setting.ensures.arcs c.run-outcome.ensures.outcome c.answer.ensures in
    answer_is g.U.Updater.answer c.args.program.now c.args.graph.now c.args.arcs.now c.args.rounds c.answer.result meaning

pub returns-clause-size : goal.returns-clause-size
returns-clause-size g c =
    let meaning = ends-in-answer g.U.Updater.answer _ _ _ _ _ _ _ c.args.rounds c.run-outcome.result c.run-outcome.new.lists.values.items c.answer.result c.in_ok-setting.ensures.program c.in_ok-setting.ensures.graph (c.in_ok-setting.ensures.starts ∙ c.deref.ensures.value ∙ c.in_ok-starts.ensures) c.in_ok-setting.ensures.arcs c.run-outcome.ensures.outcome c.answer.ensures in
    answer_size g.U.Updater.answer c.args.program.now c.args.graph.now c.args.arcs.now c.args.rounds c.answer.result meaning

pub returns-clause-few_rounds : goal.returns-clause-few_rounds
returns-clause-few_rounds g c =
    let meaning = ends-in-answer g.U.Updater.answer _ _ _ _ _ _ _ c.args.rounds c.run-outcome.result c.run-outcome.new.lists.values.items c.answer.result c.in_ok-setting.ensures.program c.in_ok-setting.ensures.graph (c.in_ok-setting.ensures.starts ∙ c.deref.ensures.value ∙ c.in_ok-starts.ensures) c.in_ok-setting.ensures.arcs c.run-outcome.ensures.outcome c.answer.ensures in
    few_rounds g.U.Updater.answer c.args.program.now c.args.graph.now c.args.arcs.now c.args.rounds c.answer.result meaning

pub returns-clause-lowest : goal.returns-clause-lowest
returns-clause-lowest g c =
    let meaning = ends-in-answer g.U.Updater.answer _ _ _ _ _ _ _ c.args.rounds c.run-outcome.result c.run-outcome.new.lists.values.items c.answer.result c.in_ok-setting.ensures.program c.in_ok-setting.ensures.graph (c.in_ok-setting.ensures.starts ∙ c.deref.ensures.value ∙ c.in_ok-starts.ensures) c.in_ok-setting.ensures.arcs c.run-outcome.ensures.outcome c.answer.ensures in
    lowest_in_answer g.U.Updater.answer g.met.U.Updater.lowest_was_given c.args.program.now c.args.graph.now c.cells_are_proper.ensures.nodes c.cells_are_proper.ensures.edges c.args.arcs.now c.requires.arcs c.args.rounds c.answer.result meaning

pub returns-clause-calls : goal.returns-clause-calls
returns-clause-calls g c = calls-told _ _ _ _ _ _ _ c.run-outcome.ensures.calls (ap (λ (x : GraphData). length x.ids) c.in_ok-setting.ensures.graph) (outcome-told c.run-outcome.result c.run-outcome.new.lists.values.items c.answer.result c.answer.ensures)
