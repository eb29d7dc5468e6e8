use Rattle.std.proofs.Common.{rules, ◌≡◌, ◌∙◌, sym}
use Rattle.vertex_lang.specs.Expressions.{start_of}
use Rattle.vertex_lang.specs.LowestGiven.{lowest_start}
use Rattle.vertex_lang.proofs.parts.start.Goals as goal

pub returns-clause-lowest : goal.returns-clause-lowest
returns-clause-lowest c =
    let value : c.evaluate.result ≡ start_of c.args.program.now c.args.graph.now c.args.node.0 = search rules in
    λ e. lowest_start c.args.program.now c.args.graph.now c.args.node.0 c.cells_are_proper.ensures.nodes c.requires.node (sym value ∙ e)
