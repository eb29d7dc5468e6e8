use Rattle.round_kernel.proofs.kernel.Kernel.over.Goals as goal

pub returns-clause-kernel : goal.returns-clause-kernel
returns-clause-kernel c = λ graph are. record {
  rows = are;
  cached = c.nothing.ensures graph c.args.rows.by_head;
  spare = c.nothing-2.ensures graph;
}
