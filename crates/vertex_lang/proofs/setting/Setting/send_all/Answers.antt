use Rattle.std.proofs.Common.{◌≡◌, ◌∙◌, ◌<◌, ℕ, length, ap, sym, inl, inr, arith}
use Rattle.std.proofs.lemmas.Bool.{cases_eq}
use Rattle.std.proofs.lemmas.Grind.{get_or-set_at}
use Rattle.std.proofs.lemmas.List.{get_or-set_other, get_or_read}
use Rattle.std.proofs.lemmas.List.Sums.{count_by-le-length}
use Rattle.std.specs.Prelude.{◌==◌}
use Rattle.graph_model.specs.declared.value.Val.TheVariants.{Nil}
use Rattle.vertex_lang.specs.declared.arc.Arc.{Arc}
use Rattle.vertex_lang.specs.Expressions.{sent_by, send_words, edge_value, no_property}
use Rattle.vertex_lang.specs.Arcs.{outdeg}
use Rattle.vertex_lang.specs.Rounds.{value_at}
use Rattle.vertex_lang.specs.Ignoring.{sent_on_all}
use Rattle.vertex_lang.proofs.setting.Setting.send_all.Goals as goal

pub send_on_all-requires-clause-outdeg : goal.send_on_all-requires-clause-outdeg
send_on_all-requires-clause-outdeg c =
    let arcs = c.args.self.now.arcs.now in
    let n : ℕ = c.loop-node.node in
    let degree : n < length c.args.self.now.degrees.items = omega (arith, c.loop-node-test.true, c.node_count-node-end.ensures.count, c.loop-node.auto.node-end, c.args.self.now.fits.size) in
    let read = get_or_read c.args.self.now.degrees.items n c.index.result.now degree c.index.ensures 0 in
    omega (arith, read, c.args.self.now.fits.counted n degree, count_by-le-length (λ (a : Arc). a.tail.0 == n) arcs, c.args.self.now.fits.few)

pub loop-node-preserved : goal.loop-node-preserved
loop-node-preserved c =
    let p = c.args.self.now.program.now in
    let graph = c.args.self.now.graph.now in
    let arcs = c.args.self.now.arcs.now in
    let values = c.args.values.now in
    let sent = c.loop-node.sent in
    let n : ℕ = c.loop-node.node in
    let within : n < length sent = omega (arith, c.loop-node-test.true, c.node_count-node-end.ensures.count, c.loop-node.auto.node-end, c.loop-node.auto.sent, c.requires.sent_size) in
    let degree : n < length c.args.self.now.degrees.items = omega (arith, within, c.loop-node.auto.sent, c.requires.sent_size, c.args.self.now.fits.size) in
    let m = c.send_on_all.result in
    let read = get_or_read c.args.self.now.degrees.items n c.index.result.now degree c.index.ensures 0 in
    λ u edge low. elim (cases_eq u n) [
      | inl same ↦
          let words = send_words graph n (value_at values n) (outdeg arcs n) edge in
          let message : m ≡ sent_by p graph n (value_at values n) (outdeg arcs n) edge =
          c.send_on_all.ensures ∙ ap (λ (d : ℕ). sent_on_all p graph n (value_at values n) d) (read ∙ c.args.self.now.fits.counted n degree) ∙ c.requires.ignores words no_property (edge_value graph edge) in
          get_or-set_at sent n u m Nil same within ∙ message ∙ ap (λ (k : ℕ). sent_by p graph k (value_at values k) (outdeg arcs k) edge) (sym same)
      | inr other ↦ get_or-set_other sent n u m Nil other ∙ c.loop-node.invariant u edge (omega (arith, low, other))
    ]
