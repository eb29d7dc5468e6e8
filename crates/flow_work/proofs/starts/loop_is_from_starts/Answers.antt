use Rattle.flow_work.specs.StartLaws.{loop-is-from-starts}
use Rattle.flow_work.proofs.starts.loop_is_from_starts.Goals as goal

pub returns : goal.returns
returns c = loop-is-from-starts
