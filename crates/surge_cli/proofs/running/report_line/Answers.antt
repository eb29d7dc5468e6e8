-- Without memory for the line, nothing is written.
use Rattle.surge_cli.proofs.Endings.{unreported}
use Rattle.surge_cli.proofs.running.report_line.Goals as goal

pub returns-in-Err-clause-line : goal.returns-in-Err-clause-line
returns-in-Err-clause-line g c = unreported (g.E.Sink.written c.args.err.now) (g.E.Sink.faults c.args.err.now) (g.E.Sink.faults c.args.err.now)
