-- Before the first word.
use Rattle.std.proofs.Common.{◌≡◌, ◌+◌, ◌/◌, ℕ, length, subst, arith}
use Rattle.view_matrix.specs.Scans.{HaveWords}
use Rattle.view_matrix.proofs.ScannedWords.{empty_words}
use Rattle.view_matrix.proofs.scan.scanned_words.Goals as goal

pub loop-k-init : goal.loop-k-init
loop-k-init c = record {
  numbers = c.in_ok-numbers.ensures c.args.graph.now;
  so_far = empty_words c.args.graph.now c.args.scans.now c.in_ok-columns.columns.items c.in_ok-columns.ensures.count c.in_ok-columns.ensures.empty;
}

pub returns : goal.returns
returns c =
    let g = c.args.graph.now in
    let all : c.loop-k.k ≡ (length g.ends + 63) / 64 = omega (arith, c.loop-k-test.false, c.loop-k.auto.k-end, c.div_ceil-count.ensures, c.edge_count.ensures.count) in
    subst (λ (k : ℕ). HaveWords g k c.args.scans.now c.loop-k.columns.items) all c.loop-k.invariant.so_far
