use Rattle.view_matrix.specs.Numbers.{AreNumbers}
use Rattle.view_matrix.specs.Scans.{HaveWords}
use Rattle.view_matrix.proofs.scan.scanned_words.Given as goal

abbrev pub invariant-loop-k : goal.invariant-loop-k
invariant-loop-k l = record {
  numbers : AreNumbers l.graph l.numbers;
  so_far : HaveWords l.graph l.k l.scans l.columns.items;
}
