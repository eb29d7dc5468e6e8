use Rattle.view_matrix.specs.Numbers.{AreNumbers}
use Rattle.view_matrix.proofs.ScannedWords.{AreGrown}
use Rattle.view_matrix.proofs.scan.push_words.Given as goal

abbrev pub invariant-loop-i : goal.invariant-loop-i
invariant-loop-i l = record {
  numbers : AreNumbers l.graph l.numbers;
  grown : AreGrown l.graph l.k l.i l.scans l.columns;
}
