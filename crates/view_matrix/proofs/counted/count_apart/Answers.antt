-- One word more.
use Rattle.std.proofs.Common.{◌∙◌, ◌+◌, ◌*◌, ◌&&◌, ℕ, Bool, length, get_or, bit_and, bit_xor, ap, arith}
use Rattle.view_matrix.specs.Columns.{at}
use Rattle.view_matrix.specs.Matrices.{differ}
use Rattle.view_matrix.proofs.Passes.{apart_in, counted_more, counted_few, counted_all, none_behind}
use Rattle.view_matrix.proofs.counted.count_apart.Goals as goal

pub loop-k-preserved : goal.loop-k-preserved
loop-k-preserved c =
    let places = c.args.places.now in
    let first = c.args.first.now in
    let second = c.args.second.now in
    let ws = c.words-words.result.now in
    let xs = c.words-first_words.result.now in
    let ys = c.words-second_words.result.now in
    let k : ℕ = c.loop-k.k in
    ap (λ (n : ℕ). c.loop-k.count + n) c.from-count.ensures
    ∙ counted_more (λ (e : ℕ). at places e && differ (at first e) (at second e)) k c.loop-k.count (bit_and (get_or ws k 0) (bit_xor (get_or xs k 0) (get_or ys k 0))) c.loop-k.invariant
    (apart_in places first second ws xs ys k c.words-words.ensures c.words-first_words.ensures c.words-second_words.ensures)

pub overflow_add-count : goal.overflow_add-count
overflow_add-count c =
    let places = c.args.places.now in
    let first = c.args.first.now in
    let second = c.args.second.now in
    let ws = c.words-words.result.now in
    let xs = c.words-first_words.result.now in
    let ys = c.words-second_words.result.now in
    let k : ℕ = c.loop-k.k in
    let f : ℕ → Bool = λ (e : ℕ). at places e && differ (at first e) (at second e) in
    let more = counted_more f k c.loop-k.count (bit_and (get_or ws k 0) (bit_xor (get_or xs k 0) (get_or ys k 0))) c.loop-k.invariant (apart_in places first second ws xs ys k c.words-words.ensures c.words-first_words.ensures c.words-second_words.ensures) in
    omega (arith, more, counted_few f (64 * (k + 1)), c.from-count.ensures, c.words-words.ensures.few, c.words-words.ensures.count, c.loop-k-test.true)

pub returns : goal.returns
returns c =
    let places = c.args.places.now in
    let first = c.args.first.now in
    let second = c.args.second.now in
    c.loop-k.invariant
    ∙ counted_all (λ (e : ℕ). at places e && differ (at first e) (at second e)) (length places) c.loop-k.k (omega (arith, c.loop-k-test.false, c.words-words.ensures.count)) (λ e le. none_behind places (λ (x : ℕ). differ (at first x) (at second x)) e le)
