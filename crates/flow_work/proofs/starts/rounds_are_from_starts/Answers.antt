use Rattle.flow_work.specs.StartLaws.{rounds-are-from-starts}
use Rattle.flow_work.proofs.starts.rounds_are_from_starts.Goals as goal

pub returns : goal.returns
returns c = rounds-are-from-starts
