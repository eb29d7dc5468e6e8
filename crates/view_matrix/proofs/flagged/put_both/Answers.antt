-- One word more.
use Rattle.std.proofs.Common.{◌∙◌, ◌*◌, ◌&&◌, ℕ, length, get_or, bit_and, arith}
use Rattle.view_matrix.specs.Columns.{at}
use Rattle.view_matrix.proofs.Passes.{both}
use Rattle.view_matrix.proofs.Flags.{flags_more, all_flags}
use Rattle.view_matrix.proofs.flagged.put_both.Goals as goal

pub loop-k-preserved : goal.loop-k-preserved
loop-k-preserved c =
    let first = c.args.first.now in
    let second = c.args.second.now in
    let xs = c.words-first_words.result.now in
    let ys = c.words-second_words.result.now in
    let k : ℕ = c.loop-k.k in
    record {
      count = c.put_word.ensures.length ∙ c.loop-k.invariant.count;
      so_far = flags_more (λ (e : ℕ). at first e && at second e) k (bit_and (get_or xs k 0) (get_or ys k 0)) c.loop-k.flags c.put_word.new.flags c.put_word.ensures.length
          (both first second xs ys k c.words-first_words.ensures c.words-second_words.ensures) c.put_word.ensures.before c.put_word.ensures.here c.loop-k.invariant.so_far;
    }

pub returns : goal.returns
returns c =
    let first = c.args.first.now in
    let second = c.args.second.now in
    all_flags (λ (e : ℕ). at first e && at second e) (64 * c.loop-k.k) (length c.args.flags.now) c.loop-k.flags c.loop-k.invariant.count
    (omega (arith, c.loop-k-test.false, c.words-first_words.ensures.count, c.requires.first)) c.loop-k.invariant.so_far
