use Rattle.std.proofs.Common.{◌∙◌, sym, ap}
use Rattle.vertex_lang.specs.Rounds.{lone}
use Rattle.vertex_lang.specs.RoundLaws.{lone_starts}
use Rattle.lone_work.proofs.state.values_at.Goals as goal

pub returns-then-round-eq0-clause-values : goal.returns-then-round-eq0-clause-values
returns-then-round-eq0-clause-values g c = c.in_ok-starts.ensures.values ∙ sym (lone_starts g.U.Updater.answer c.args.program.now c.args.graph.now c.args.arcs.now) ∙ ap (λ n. lone g.U.Updater.answer c.args.program.now c.args.graph.now c.args.arcs.now n) (sym c.if-round-eq0.true)
