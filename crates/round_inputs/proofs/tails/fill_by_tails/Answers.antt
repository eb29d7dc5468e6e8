use Rattle.std.proofs.Common.{◌≡◌, ◌∙◌, ◌<◌, ◌≤◌, List, length, take, filter, ap, sym, subst, arith}
use Rattle.std.specs.Prelude.{All}
use Rattle.std.proofs.lemmas.List.{take_all}
use Rattle.std.proofs.lemmas.List.Elements.{All-filter, All-get_or}
use Rattle.graph_model.specs.declared.number.NodeNo.{NodeNo}
use Rattle.round_inputs.specs.Links.{sent_by_tails}
use Rattle.round_inputs.specs.Inputs.{AreLeft}
use Rattle.round_inputs.specs.Movers.{moves}
use Rattle.round_inputs.proofs.Moving.{movers-left}
use Rattle.round_inputs.proofs.tails.fill_by_tails.Goals as goal

abbrev no_node : NodeNo
no_node = record { 0 = 0 }

pub push_from_tail-requires-clause-tail : goal.push_from_tail-requires-clause-tail
push_from_tail-requires-clause-tail c =
    let movers = c.args.rounds.now.movers in
    let graph = c.args.rounds.now.left.now.graph.now in
    let count = c.in_ok-count.count in
    let picked = take count c.deref.result.now in
    let passed = filter (λ (t : NodeNo). moves movers t.0) c.args.tails.now in
    let same : picked ≡ passed = ap (λ (ts : List NodeNo). take count ts) c.deref.ensures.value ∙ c.in_ok-count.ensures.picked in
    All-get_or (λ t. t.0 < length graph.ids) picked c.loop-tail.tail-index no_node c.loop-tail-test.true
    (subst (λ (ts : List NodeNo). All (λ t. t.0 < length graph.ids) ts) (sym same)
    (All-filter (λ (t : NodeNo). moves movers t.0) (λ (t : NodeNo). t.0 < length graph.ids) c.args.tails.now c.requires.tails))

pub returns : goal.returns
returns c =
    let p = c.args.rounds.now.left.now.program.now in
    let graph = c.args.rounds.now.left.now.graph.now in
    let l = c.args.rounds.now.left.now.side in
    let r = c.args.rounds.now.right.now in
    let movers = c.args.rounds.now.movers in
    let count = c.in_ok-count.count in
    let passed = filter (λ (t : NodeNo). moves movers t.0) c.args.tails.now in
    let same : take count c.deref.result.now ≡ passed = ap (λ (ts : List NodeNo). take count ts) c.deref.ensures.value ∙ c.in_ok-count.ensures.picked in
    let i = c.loop-tail.tail-index in
    let past : length passed ≤ i = omega (arith, c.loop-tail-test.false, ap (λ (ts : List NodeNo). length ts) same) in
    let first = c.loop-tail.first.items in
    let second = c.loop-tail.second.items in
    movers-left p graph movers l.degrees.now r.degrees.now l.values.now r.values.now c.args.tails.now first second c.requires.tails c.requires.rounds.still
    (subst (λ (ts : List NodeNo). AreLeft first second (sent_by_tails p graph l.degrees.now l.values.now ts) (sent_by_tails p graph r.degrees.now r.values.now ts)) (take_all i passed past)
    c.loop-tail.invariant)
