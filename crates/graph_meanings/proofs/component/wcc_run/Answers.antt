use Rattle.vertex_lang.specs.Expressions.{updated}
use Rattle.vertex_lang.specs.Lone.{answer_of}
use Rattle.graph_meanings.specs.Meanings.{AreComponents, HasRoundsForAll, IsSettled}
use Rattle.graph_algos.specs.Wcc.{wcc}
use Rattle.graph_meanings.specs.WccMeaning.{components-mean, components-settle}
use Rattle.graph_meanings.proofs.RunAnswers.{of-program, of-answer}
use Rattle.graph_meanings.proofs.component.wcc_run.Goals as goal

pub lone_run-requires-clause-checked : goal.lone_run-requires-clause-checked
lone_run-requires-clause-checked g c = c.in_ok-program.ensures.checked c.args.graph.now

pub returns-clause-meaning : goal.returns-clause-meaning
returns-clause-meaning g c =
    let graph = c.args.graph.now in
    let arcs = c.args.arcs.now in
    of-answer (λ l. IsSettled l.outcome → AreComponents graph arcs l.values) (answer_of updated wcc graph arcs c.args.rounds) c.lone_run.result
    (of-program _ wcc graph arcs c.args.rounds c.lone_run.result c.in_ok-program.ensures.program c.lone_run.ensures.answer)
    (components-mean graph arcs c.args.rounds c.ids_are_small.ensures c.requires.arcs)

pub returns-clause-settles : goal.returns-clause-settles
returns-clause-settles g c =
    let graph = c.args.graph.now in
    let arcs = c.args.arcs.now in
    of-answer (λ l. HasRoundsForAll graph c.args.rounds → IsSettled l.outcome) (answer_of updated wcc graph arcs c.args.rounds) c.lone_run.result
    (of-program _ wcc graph arcs c.args.rounds c.lone_run.result c.in_ok-program.ensures.program c.lone_run.ensures.answer)
    (components-settle graph arcs c.args.rounds c.ids_are_small.ensures c.requires.arcs c.requires.some)
