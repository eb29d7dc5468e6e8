-- One word more.
use Rattle.std.proofs.Common.{◌∙◌, ◌*◌, ◌++◌, ◌&&◌, ℕ, Bool, List, length, map, get_or, bit_and, bit_xor, ap, arith}
use Rattle.graph_model.specs.declared.number.EdgeNo.{EdgeNo}
use Rattle.edge_predicates.specs.ViewEdges.{edge}
use Rattle.view_matrix.specs.Columns.{at}
use Rattle.view_matrix.specs.Matrices.{differ}
use Rattle.view_matrix.proofs.Passes.{apart_in, pushed_more, none_behind, signed}
use Rattle.view_matrix.proofs.Ranges.{up_to}
use Rattle.view_matrix.proofs.listed.list_apart.Goals as goal

pub loop-k-preserved : goal.loop-k-preserved
loop-k-preserved c =
    let places = c.args.places.now in
    let first = c.args.first.now in
    let second = c.args.second.now in
    let ws = c.words-words.result.now in
    let xs = c.words-first_words.result.now in
    let ys = c.words-second_words.result.now in
    let k : ℕ = c.loop-k.k in
    let word = bit_and (get_or ws k 0) (bit_xor (get_or xs k 0) (get_or ys k 0)) in
    let pair : ℕ → Bool → EdgeNo × Bool = λ (e : ℕ) (b : Bool). (edge e, b) in
    pushed_more (λ (e : ℕ). pair e (at second e)) (λ (e : ℕ). at places e && differ (at first e) (at second e)) k word c.loop-k.edges c.push_signed.new.edges
    (apart_in places first second ws xs ys k c.words-words.ensures c.words-first_words.ensures c.words-second_words.ensures) c.loop-k.invariant
    (c.in_ok-push_signed.ensures ∙ ap (λ (es : List (EdgeNo × Bool)). c.loop-k.edges ++ es) (signed pair (at second) k word (get_or ys k 0) (c.words-second_words.ensures.each k)))

pub returns : goal.returns
returns c =
    let places = c.args.places.now in
    let first = c.args.first.now in
    let second = c.args.second.now in
    let f : ℕ → Bool = λ (e : ℕ). at places e && differ (at first e) (at second e) in
    c.loop-k.invariant
    ∙ ap (map (λ (e : ℕ). (edge e, at second e))) (up_to f (length places) (64 * c.loop-k.k) (omega (arith, c.loop-k-test.false, c.words-words.ensures.count)) (λ e le. none_behind places (λ (x : ℕ). differ (at first x) (at second x)) e le))
