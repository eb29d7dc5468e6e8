use Rattle.std.proofs.Common.{rules, ◌≡◌, ◌∙◌, sym}
use Rattle.vertex_lang.specs.Expressions.{sent_by}
use Rattle.vertex_lang.specs.LowestGiven.{lowest_sent}
use Rattle.vertex_lang.proofs.parts.send.Goals as goal

pub returns-clause-lowest : goal.returns-clause-lowest
returns-clause-lowest c =
    let value : c.evaluate.result ≡ sent_by c.args.program.now c.args.graph.now c.args.tail.0 c.args.value c.args.outdeg c.args.edge.0 = search rules in
    λ e. lowest_sent c.args.program.now c.args.graph.now c.args.tail.0 c.args.value c.args.outdeg c.args.edge.0 c.cells_are_proper.ensures.edges c.requires.edge (sym value ∙ e)
