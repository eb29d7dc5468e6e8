-- One list more has one word more.
use Rattle.std.proofs.Common.{◌≡◌, ◌∙◌, ◌+◌, ◌-◌, ◌*◌, ◌&&◌, ℕ, length, get_or, min, ap, arith}
use Rattle.std.specs.Prelude.{nat_lt}
use Rattle.std.proofs.lemmas.List.{get_or_default}
use Rattle.edge_predicates.specs.Truth.{rule_truth}
use Rattle.view_matrix.specs.declared.scan.Scan.{Scan}
use Rattle.view_matrix.specs.Scans.{HasWords}
use Rattle.view_matrix.proofs.ScannedWords.{all_grown, grown_more, none_grown, one_more}
use Rattle.view_matrix.proofs.scan.push_words.Goals as goal

pub overflow_mul-first : goal.overflow_mul-first
overflow_mul-first c = record { fits = omega (arith, c.requires.room, c.edge_count-len.ensures.count, c.edge_count-len.ensures.limit) }

pub loop-i-init : goal.loop-i-init
loop-i-init c = record { numbers = c.requires.numbers; grown = none_grown c.args.graph.now c.args.k c.args.scans.now c.args.columns.now c.requires.so_far }

pub loop-i-preserved : goal.loop-i-preserved
loop-i-preserved c =
    let g = c.args.graph.now in
    let k : ℕ = c.args.k in
    let i : ℕ = c.loop-i.i in
    let scans = c.args.scans.now in
    let few : c.min-count.result ≡ min (length g.ends - 64 * k) 64 = c.min-count.ensures ∙ ap (λ (n : ℕ). min (n - 64 * k) 64) c.edge_count-len.ensures.count in
    let has : (s : Scan) → HasWords g (get_or scans i s).rule.now (k + 1) c.push.new.self.items =
    λ s. one_more g (get_or scans i s).rule.now k c.min-count.result c.word-word.result (get_or c.loop-i.columns i c.index-columns-i.result).items c.push.new.self.items
    (c.loop-i.invariant.grown.left i s c.index-columns-i.result (omega arith) c.loop-i-test.true) c.in_ok-push.ensures.items c.requires.room few
    (λ n. c.word-word.ensures.word n ∙ ap (λ (x : Scan). nat_lt n c.min-count.result && rule_truth g (64 * k + n) x.rule.now) (c.index-scans-i.is ∙ get_or_default scans i c.index-scans-i.result s c.loop-i-test.true)) in
    record {
      numbers = c.word-word.ensures.numbers;
      grown = grown_more g k i scans c.loop-i.columns c.push.new.self c.loop-i-test.true c.loop-i.invariant.grown has;
    }

pub returns-clause-more : goal.returns-clause-more
returns-clause-more c = all_grown c.args.graph.now c.args.k c.loop-i.i c.args.scans.now c.loop-i.columns c.loop-i-test.false c.loop-i.invariant.grown
