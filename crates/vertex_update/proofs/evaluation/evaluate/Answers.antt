-- What was found gives what the node gives.
use Rattle.std.specs.Prelude.{min, sum_by, All, IsTrue}
use Rattle.std.proofs.Common.{◌≡◌, ◌∙◌, ◌<◌, ◌≤◌, ℕ, List, length, ap, sym, subst, arith}
use Rattle.flow_core.specs.Expanded.{expanded}
use Rattle.graph_model.specs.declared.value.Val.{Val}
use Rattle.vertex_lang.specs.Arcs.{is_sent}
use Rattle.vertex_items.specs.Given.{message_in, node_gives}
use Rattle.vertex_items.specs.GivenLaws.{far-gives}
use Rattle.vertex_update.specs.Reading.{given_of}
use Rattle.vertex_update.specs.ReadingLaws.{all-sent, few-given, gives-found}
use Rattle.vertex_update.proofs.evaluation.evaluate.Goals as goal

pub returns-then-node-node_count-clause-answer : goal.returns-then-node-node_count-clause-answer
returns-then-node-node_count-clause-answer g c =
    let high : length c.args.graph.now.ids ≤ c.args.node.0 = omega arith in
    c.requires.into ∙ sym (far-gives g.U.Updater.answer c.args.program.now c.args.graph.now c.args.node c.args.words.now high)

pub returns-then-node-node_count-clause-made : goal.returns-then-node-node_count-clause-made
returns-then-node-node_count-clause-made g c =
    let high : length c.args.graph.now.ids ≤ c.args.node.0 = omega arith in
    let none : length (node_gives g.U.Updater.answer c.args.program.now c.args.graph.now c.args.node c.args.words.now) ≡ 0 =
    ap (λ (es : List (Val × ℕ)). length es) (far-gives g.U.Updater.answer c.args.program.now c.args.graph.now c.args.node c.args.words.now high) in
    omega (arith, none)

pub next_value-next-requires-clause-found : goal.next_value-next-requires-clause-found
next_value-next-requires-clause-found g c = record {
  sent = subst (λ (es : List (Val × ℕ)). All (λ m. IsTrue (is_sent m.0)) es) (sym c.in_ok-found.ensures.messages) (all-sent c.args.words.now);
  sum = c.in_ok-found.ensures.count ∙ ap (λ (es : List (Val × ℕ)). min (sum_by (λ m. m.1) es) 4_294_967_296) (sym c.in_ok-found.ensures.messages);
}

pub returns-clause-answer : goal.returns-clause-answer
returns-clause-answer g c =
    let low : c.args.node.0 < length c.args.graph.now.ids = omega arith in
    c.in_ok-push_value.ensures
    ∙ sym (gives-found g.U.Updater.answer c.args.program.now c.args.graph.now c.args.node c.args.words.now c.in_ok-found.found.start c.in_ok-found.found.own c.in_ok-found.found.messages.items c.in_ok-found.found.count c.next_value-next.result low c.in_ok-found.ensures.start c.in_ok-found.ensures.own c.in_ok-found.ensures.messages c.in_ok-found.ensures.count c.next_value-next.ensures.value)

pub returns-clause-made : goal.returns-clause-made
returns-clause-made g c =
    let low : c.args.node.0 < length c.args.graph.now.ids = omega arith in
    let same : length (node_gives g.U.Updater.answer c.args.program.now c.args.graph.now c.args.node c.args.words.now) ≡ length (given_of c.next_value-next.result) = ap (λ (es : List (Val × ℕ)). length es) (gives-found g.U.Updater.answer c.args.program.now c.args.graph.now c.args.node c.args.words.now c.in_ok-found.found.start c.in_ok-found.found.own c.in_ok-found.found.messages.items c.in_ok-found.found.count c.next_value-next.result low c.in_ok-found.ensures.start c.in_ok-found.ensures.own c.in_ok-found.ensures.messages c.in_ok-found.ensures.count c.next_value-next.ensures.value) in
    omega (arith, same, c.next_value-next.ensures.calls)

pub returns-clause-most : goal.returns-clause-most
returns-clause-most g c =
    let low : c.args.node.0 < length c.args.graph.now.ids = omega arith in
    let same : length (node_gives g.U.Updater.answer c.args.program.now c.args.graph.now c.args.node c.args.words.now) ≡ length (given_of c.next_value-next.result) = ap (λ (es : List (Val × ℕ)). length es) (gives-found g.U.Updater.answer c.args.program.now c.args.graph.now c.args.node c.args.words.now c.in_ok-found.found.start c.in_ok-found.found.own c.in_ok-found.found.messages.items c.in_ok-found.found.count c.next_value-next.result low c.in_ok-found.ensures.start c.in_ok-found.ensures.own c.in_ok-found.ensures.messages c.in_ok-found.ensures.count c.next_value-next.ensures.value) in
    omega (arith, same, c.next_value-next.ensures.calls)

pub returns-in_err-push_value-clause-most : goal.returns-in_err-push_value-clause-most
returns-in_err-push_value-clause-most g c =
    let low : c.args.node.0 < length c.args.graph.now.ids = omega arith in
    let same : length (node_gives g.U.Updater.answer c.args.program.now c.args.graph.now c.args.node c.args.words.now) ≡ length (given_of c.next_value-next.result) = ap (λ (es : List (Val × ℕ)). length es) (gives-found g.U.Updater.answer c.args.program.now c.args.graph.now c.args.node c.args.words.now c.in_ok-found.found.start c.in_ok-found.found.own c.in_ok-found.found.messages.items c.in_ok-found.found.count c.next_value-next.result low c.in_ok-found.ensures.start c.in_ok-found.ensures.own c.in_ok-found.ensures.messages c.in_ok-found.ensures.count c.next_value-next.ensures.value) in
    omega (arith, same, c.next_value-next.ensures.calls)

pub returns-clause-cost : goal.returns-clause-cost
returns-clause-cost g c = omega (arith, few-given c.next_value-next.result, c.next_value-next.ensures.calls)

pub returns-in_err-push_value-clause-cost : goal.returns-in_err-push_value-clause-cost
returns-in_err-push_value-clause-cost g c = omega (arith, few-given c.next_value-next.result, c.next_value-next.ensures.calls)
