use Rattle.std.proofs.Common.{rules, ◌≡◌, ◌∙◌, List, ap, length}
use Rattle.graph_model.specs.declared.value.Val.{Val}
use Rattle.vertex_lang.proofs.setting.Lists.new.Goals as goal

pub returns-clause-sizes : goal.returns-clause-sizes
returns-clause-sizes c =
    let setting = c.args.setting.now in
    let graph = setting.graph.now in
    let same : c.in_ok-values.values.items ≡ setting.starts.now = search rules in
    let sent : length c.in_ok-sent.sent.items ≡ length graph.ids = search rules in
    let mail : length c.in_ok-mail.mail.items ≡ length graph.ids = search rules in
    record {
      values_size = ap (λ (vs : List Val). length vs) same ∙ setting.fits.started;
      sent_size = sent;
      mail_size = mail;
    }
