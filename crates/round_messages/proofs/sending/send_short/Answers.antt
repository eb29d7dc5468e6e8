use Rattle.std.proofs.Common.{◌≡◌, ◌∙◌, ◌+◌, ◌++◌, ◌∷◌, [], ℤ, List, SFits, w32, length, map, ap, refl, arith, rules}
use Rattle.std.proofs.lemmas.Int.{to_z-of_z}
use Rattle.std.proofs.lemmas.List.{length_push, length-map, map-append}
use Rattle.value_codes.specs.ShortCodes.{widened}
use Rattle.round_messages.specs.SendingLaws.{more-sent}
use Rattle.round_messages.proofs.sending.send_short.Goals as goal

pub send_by-message-requires-clause-outdeg : goal.send_by-message-requires-clause-outdeg
send_by-message-requires-clause-outdeg c = c.requires.sender.small c.loop-node.node (omega (arith, c.loop-node-test.true, c.node_count-count.ensures.count))

pub send_by-message-requires-clause-edge : goal.send_by-message-requires-clause-edge
send_by-message-requires-clause-edge c = (c.requires.keeps refl).1

pub loop-node-preserved : goal.loop-node-preserved
loop-node-preserved c =
    let n = c.loop-node.node in
    let short = c.loop-node.short.items in
    let z = c.in-Some.number in
    let fits : SFits w32 z = search rules in
    let pushed : c.push.new.self.items ≡ short ++ z ∷ [] = c.in_ok-push-in-Some.ensures.items ∙ ap (λ (x : ℤ). short ++ x ∷ []) (to_z-of_z w32 z fits) in
    let more : map widened c.push.new.self.items ≡ map widened short ++ widened z ∷ [] = ap (λ (zs : List ℤ). map widened zs) pushed ∙ map-append widened short (z ∷ []) in
    record {
      size = ap (λ (zs : List ℤ). length zs) pushed ∙ length_push short z ∙ ap (λ k. k + 1) c.loop-node.invariant.size;
      kept = more-sent c.args.sender.now.program.now c.args.sender.now.graph.now c.args.sender.now.degrees.now c.args.values.now (map widened short) (map widened c.push.new.self.items) n 0 (widened z) c.send_by-message.result (c.requires.keeps refl).0 (length-map short widened ∙ c.loop-node.invariant.size) more c.in-Some.ensures c.send_by-message.ensures.message c.loop-node.invariant.kept;
    }
