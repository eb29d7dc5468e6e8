use Rattle.std.proofs.Common.{ℤ, ◌∙◌, ap, w64}
use Rattle.std.proofs.lemmas.Int.{to_z-of_z}
use Rattle.vertex_lang.specs.Expressions.{updated}
use Rattle.vertex_lang.specs.Lone.{answer_of}
use Rattle.graph_algos.specs.Dist.{dist}
use Rattle.graph_meanings.specs.DistMeaning.{distances-mean, distances-settle}
use Rattle.graph_meanings.specs.Meanings.{AreDistances, HasRoundsForAll, IsSettled}
use Rattle.graph_meanings.proofs.RunAnswers.{of-program, of-answer}
use Rattle.graph_meanings.proofs.distance.dist_run.Goals as goal

pub returns-clause-meaning : goal.returns-clause-meaning
returns-clause-meaning g c =
    let graph = c.args.graph.now in
    let arcs = c.args.arcs.now in
    let source = c.args.source in
    let column = c.args.column in
    let made = c.in_ok-program.ensures.program ∙ ap (λ (s : ℤ). dist s column) (to_z-of_z w64 source c.ranges.source) in
    of-answer (λ l. IsSettled l.outcome → AreDistances graph arcs source column l.values) (answer_of updated (dist source column) graph arcs c.args.rounds) c.lone_run.result
    (of-program _ (dist source column) graph arcs c.args.rounds c.lone_run.result made c.lone_run.ensures.answer)
    (distances-mean graph arcs source column c.args.rounds c.requires.arcs c.requires.column c.requires.weights)

pub returns-clause-settles : goal.returns-clause-settles
returns-clause-settles g c =
    let graph = c.args.graph.now in
    let arcs = c.args.arcs.now in
    let source = c.args.source in
    let column = c.args.column in
    let made = c.in_ok-program.ensures.program ∙ ap (λ (s : ℤ). dist s column) (to_z-of_z w64 source c.ranges.source) in
    of-answer (λ l. HasRoundsForAll graph c.args.rounds → IsSettled l.outcome) (answer_of updated (dist source column) graph arcs c.args.rounds) c.lone_run.result
    (of-program _ (dist source column) graph arcs c.args.rounds c.lone_run.result made c.lone_run.ensures.answer)
    (distances-settle graph arcs source column c.args.rounds c.requires.arcs c.requires.column c.requires.weights c.requires.some)
