use Rattle.std.proofs.Common.{◌≡◌, ◌∙◌, ◌+◌, ◌++◌, ◌∷◌, [], ℤ, List, SFits, w64, length, ap, refl, arith, rules}
use Rattle.std.proofs.lemmas.Int.{to_z-of_z}
use Rattle.std.proofs.lemmas.List.{length_push}
use Rattle.round_messages.specs.SendingLaws.{more-sent}
use Rattle.round_messages.proofs.sending.send_long.Goals as goal

pub send_by-message-requires-clause-outdeg : goal.send_by-message-requires-clause-outdeg
send_by-message-requires-clause-outdeg c = c.requires.sender.small c.loop-node.node (omega (arith, c.loop-node-test.true, c.node_count-count.ensures.count))

pub send_by-message-requires-clause-edge : goal.send_by-message-requires-clause-edge
send_by-message-requires-clause-edge c = (c.requires.keeps refl).1

pub loop-node-preserved : goal.loop-node-preserved
loop-node-preserved c =
    let n = c.loop-node.node in
    let sent = c.loop-node.long.items in
    let z = c.in-Some.number in
    let fits : SFits w64 z = search rules in
    let more : c.push.new.self.items ≡ sent ++ z ∷ [] = c.in_ok-push-in-Some.ensures.items ∙ ap (λ (x : ℤ). sent ++ x ∷ []) (to_z-of_z w64 z fits) in
    record {
      size = ap (λ (zs : List ℤ). length zs) more ∙ length_push sent z ∙ ap (λ k. k + 1) c.loop-node.invariant.size;
      kept = more-sent c.args.sender.now.program.now c.args.sender.now.graph.now c.args.sender.now.degrees.now c.args.values.now sent c.push.new.self.items n 0 z c.send_by-message.result (c.requires.keeps refl).0 c.loop-node.invariant.size more c.in-Some.ensures c.send_by-message.ensures.message c.loop-node.invariant.kept;
    }

pub returns : goal.returns
returns c = λ e. (omega (arith, c.loop-node.invariant.size, c.node_count-count.ensures.count), λ u f low. c.loop-node.invariant.kept u f (omega (arith, low, c.node_count-count.ensures.count)))
