use Rattle.std.proofs.Common.{◌∙◌, ap, w64}
use Rattle.std.proofs.lemmas.Int.{to_z-of_z}
use Rattle.vertex_lang.specs.Expressions.{updated}
use Rattle.vertex_lang.specs.Lone.{answer_of}
use Rattle.graph_algos.specs.Hops.{hops}
use Rattle.graph_meanings.specs.HopsMeaning.{hops-mean, hops-settle}
use Rattle.graph_meanings.specs.Meanings.{AreHops, HasRoundsForAll, IsSettled}
use Rattle.graph_meanings.proofs.RunAnswers.{of-program, of-answer}
use Rattle.graph_meanings.proofs.hop_count.hop_run.Goals as goal

pub lone_run-requires-clause-checked : goal.lone_run-requires-clause-checked
lone_run-requires-clause-checked g c = c.in_ok-program.ensures.checked c.args.graph.now

pub returns-clause-meaning : goal.returns-clause-meaning
returns-clause-meaning g c =
    let graph = c.args.graph.now in
    let arcs = c.args.arcs.now in
    let source = c.args.source in
    let made = c.in_ok-program.ensures.program ∙ ap hops (to_z-of_z w64 source c.ranges.source) in
    of-answer (λ l. IsSettled l.outcome → AreHops graph arcs source l.values) (answer_of updated (hops source) graph arcs c.args.rounds) c.lone_run.result
    (of-program _ (hops source) graph arcs c.args.rounds c.lone_run.result made c.lone_run.ensures.answer)
    (hops-mean graph arcs source c.args.rounds c.nodes_are_few.ensures c.requires.arcs)

pub returns-clause-settles : goal.returns-clause-settles
returns-clause-settles g c =
    let graph = c.args.graph.now in
    let arcs = c.args.arcs.now in
    let source = c.args.source in
    let made = c.in_ok-program.ensures.program ∙ ap hops (to_z-of_z w64 source c.ranges.source) in
    of-answer (λ l. HasRoundsForAll graph c.args.rounds → IsSettled l.outcome) (answer_of updated (hops source) graph arcs c.args.rounds) c.lone_run.result
    (of-program _ (hops source) graph arcs c.args.rounds c.lone_run.result made c.lone_run.ensures.answer)
    (hops-settle graph arcs source c.args.rounds c.requires.arcs c.requires.some)
