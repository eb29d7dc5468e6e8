-- One word more.
use Rattle.std.proofs.Common.{◌∙◌, ◌*◌, ◌&&◌, ℕ, Bool, length, map, get_or, bit_and, ap, arith}
use Rattle.edge_predicates.specs.ViewEdges.{edge}
use Rattle.view_matrix.specs.Columns.{at}
use Rattle.view_matrix.proofs.Passes.{both, pushed_more, none_behind}
use Rattle.view_matrix.proofs.Ranges.{up_to}
use Rattle.view_matrix.proofs.listed.list_both.Goals as goal

pub loop-k-preserved : goal.loop-k-preserved
loop-k-preserved c =
    let first = c.args.first.now in
    let second = c.args.second.now in
    let xs = c.words-first_words.result.now in
    let ys = c.words-second_words.result.now in
    let k : ℕ = c.loop-k.k in
    let word = bit_and (get_or xs k 0) (get_or ys k 0) in
    pushed_more edge (λ (e : ℕ). at first e && at second e) k word c.loop-k.edges c.push_edges.new.edges (both first second xs ys k c.words-first_words.ensures c.words-second_words.ensures) c.loop-k.invariant c.in_ok-push_edges.ensures

pub returns : goal.returns
returns c =
    let first = c.args.first.now in
    let f : ℕ → Bool = λ (e : ℕ). at first e && at c.args.second.now e in
    c.loop-k.invariant ∙ ap (map edge) (up_to f (length first) (64 * c.loop-k.k) (omega (arith, c.loop-k-test.false, c.words-first_words.ensures.count)) (λ e le. none_behind first (at c.args.second.now) e le))
