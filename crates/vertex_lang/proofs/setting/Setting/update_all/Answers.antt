use Rattle.std.proofs.Common.{◌≡◌, ◌∙◌, ◌<◌, ap, length, map, get_or, arith}
use Rattle.std.specs.List.{range_with_len}
use Rattle.graph_model.specs.declared.value.Val.{Val}
use Rattle.graph_model.specs.GraphData.{id_of}
use Rattle.vertex_lang.specs.Rounds.{value_at}
use Rattle.vertex_lang.specs.Mail.{next_from, no_mail, gathered_in}
use Rattle.vertex_lang.proofs.Updates.{update_after_change, update_first, all_updated, change_told}
use Rattle.vertex_lang.proofs.setting.Setting.update_all.Goals as goal
use Rattle.vertex_lang.proofs.setting.Setting.update_all.Goals.{then-changed, else-changed}

pub loop-node-preserved : goal.loop-node-preserved
loop-node-preserved g c =
    let old = c.args.values.now in
    let now = c.loop-node.values in
    let n = c.loop-node.node in
    let u = c.loop-node.invariant.updated in
    let f = next_from g.U.Updater.answer c.args.self.now.program.now c.args.self.now.graph.now c.args.self.now.starts.now c.args.mail.now old in
    let got = get_or c.args.mail.now n no_mail in
    let lt : n < length now = omega arith in
    let next : c.update-new.result ≡ f n =
    c.update-new.ensures.answer
    ∙ ap (λ (v : Val). g.U.Updater.answer c.args.self.now.program.now c.id-id.result (value_at c.args.self.now.starts.now n) (value_at now n) v got.count) c.gathered-gathered.ensures
    ∙ ap (λ i. g.U.Updater.answer c.args.self.now.program.now i (value_at c.args.self.now.starts.now n) (value_at now n) (gathered_in c.args.self.now.program.now.gather got) got.count) c.id-id.ensures.value
    ∙ ap (λ (v : Val). g.U.Updater.answer c.args.self.now.program.now (id_of c.args.self.now.graph.now n) (value_at c.args.self.now.starts.now n) v (gathered_in c.args.self.now.program.now.gather got) got.count) (u.left n (omega arith)) in
    record {
      updated = elim c.if-changed.branch [
        | then-changed w ↦ update_after_change f old now n c.update-new.result lt next c.loop-node.changed c.if-changed.changed u w.if-changed.true w.changed-is
        | else-changed w ↦ update_first f old now n c.update-new.result lt next c.loop-node.changed c.if-changed.changed u w.if-changed.false (rw w.changed-is w.differ-changed.ensures)
      ];
      calls = omega (arith, c.update-new.ensures.count, c.loop-node.invariant.calls);
    }

pub returns-clause-values : goal.returns-clause-values
returns-clause-values g c =
    let f = next_from g.U.Updater.answer c.args.self.now.program.now c.args.self.now.graph.now c.args.self.now.starts.now c.args.mail.now c.args.values.now in
    let all : c.loop-node.node ≡ length c.args.self.now.graph.now.ids = omega arith in
    all_updated f c.args.values.now c.loop-node.values c.loop-node.node c.loop-node.changed (omega arith) c.loop-node.invariant.updated ∙ ap (λ n. map f (range_with_len 0 n)) all

pub returns-clause-changed : goal.returns-clause-changed
returns-clause-changed g c = change_told _ c.args.values.now c.loop-node.values c.loop-node.node c.loop-node.changed c.loop-node.auto.values c.loop-node.invariant.updated
